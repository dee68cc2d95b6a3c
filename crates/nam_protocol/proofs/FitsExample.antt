-- A transaction with 16 claimed keys fits, and one with 17 does not; a job likewise; and what a call asks of its key.
use Rattle.std.proofs.Common.{◌≡◌, ℕ, zero, suc, ◌+◌, ◌≤◌, Bool, true, false, List, [], ◌∷◌, refl, arith}
use Rattle.std.proofs.Common.{sym, Some, None}
use Rattle.std.specs.Prelude.{if◌then◌else◌, map, option_map}
use Rattle.std.specs.List.{AllByRecursion}
use Rattle.std.proofs.lemmas.Bool.{false≢true}
use Rattle.si_model.specs.declared.row.Item.{Item}
use Rattle.si_model.specs.declared.op.Op.{Op}
use Rattle.si_model.specs.Rows.{key_at, item_key}
use Rattle.si_model.specs.Evaluation.{OpFits, key_claimed}
use Rattle.si_model.specs.EvaluationLaws.{IsWide}
use Rattle.si_model.specs.declared.op.Op.TheVariants.{Get, Del}
use Rattle.si_model.proofs.EvaluationLemmas.{distinct-keys_from}
use Rattle.nam_catalog.specs.declared.form.Form.TheVariants.{Narrow}
use Rattle.nam_catalog.specs.declared.shape.Shape.{Shape}
use Rattle.nam_catalog.specs.Tables.{widths_of}
use Rattle.nam_layout.specs.Place.{place_of}
use Rattle.nam_calls.specs.declared.lock.LockPoint.TheVariants.{Peek}
use Rattle.nam_protocol.specs.declared.txn.CommitPoint.TheVariants.{Locking}
use Rattle.nam_protocol.specs.declared.client.Call.{Call}
use Rattle.nam_protocol.specs.declared.client.Open.{Open}
use Rattle.nam_protocol.specs.declared.txn.Record.{Record}
use Rattle.nam_protocol.specs.declared.txn.TxnState.{TxnState}
use Rattle.nam_protocol.specs.declared.client.Call.TheVariants as call
use Rattle.nam_protocol.specs.declared.txn.TxnCall.TheVariants as txn_call
use Rattle.nam_protocol.specs.Schedule.{numbers_from}
use Rattle.nam_protocol.specs.Txn.{new_txn}
use Rattle.nam_protocol.specs.Telling.{new_attempt, new_client}
use Rattle.nam_protocol.specs.Commit.{records_of}
use Rattle.nam_protocol.specs.TxnFits.{is_claimed, is_used, IsPlaced, HasRoom, OpStands, StateFits, CommitFits}
use Rattle.nam_protocol.specs.ClientFits.{CallFits, ClientFits}
use Rattle.nam_protocol.specs.SessionFits.{OpsFit}
use Rattle.nam_protocol.specs.Opening.{copies, load_from, opening_words}
use Rattle.nam_protocol.proofs.Shown.{shape, table, item}
use Rattle.nam_protocol.proofs.ClientExample.{Alone, after_calls, after_verbs}
use Rattle.nam_protocol.proofs.KeyLemmas.{none_once}

-- one worker, and a table of 32 positions
abbrev wide : Shape
wide = shape Narrow 1 (table 1 32 1 ∷ []) 1 1 0

-- 1. Keys 0 to 15 are deleted

abbrev claims_of : List ℕ → List Record
claims_of keys = map (λ k. record { key = key_at 0 k; place = place_of wide 0 k }) keys

abbrev writes_of : List ℕ → List Item
writes_of keys = map (λ k. item 0 k None) keys

abbrev deletions : List ℕ → List Op
deletions keys = map (λ k. Del 0 k) keys

abbrev state_with : ℕ → TxnState
state_with count = record (new_txn 1 0 (0 ∷ [])) {
  claims = claims_of (numbers_from 0 count);
  writes = writes_of (numbers_from 0 count);
}

-- a test that each passes
abbrev every : {A : Type 0} → (A → Bool) → List A → Bool
every f [] = true
every f (x ∷ xs) = if f x then every f xs else false

both_true : (b c : Bool) → (if b then c else false) ≡ true → (b ≡ true) × (c ≡ true)
both_true true c e = (refl, e)
both_true false c e = absurd (false≢true e)

each_passes : {A : Type 0} (f : A → Bool) (xs : List A) → every f xs ≡ true → AllByRecursion (λ x. f x ≡ true) xs
each_passes f [] e = tt
each_passes f (x ∷ xs) e = let b = both_true (f x) (every f xs) e in (b.0, each_passes f xs b.1)

placed_from : (n count : ℕ) → n + count ≤ 32 → AllByRecursion (IsPlaced wide) (claims_of (numbers_from n count))
placed_from n zero l = tt
placed_from n (suc count) l =
    ((n, (omega arith, omega arith), refl, omega arith), placed_from (n + 1) count (omega arith))

wide_all : (keys : List ℕ) → AllByRecursion (IsWide (widths_of wide.tables)) (writes_of keys)
wide_all [] = tt
wide_all (k ∷ ks) = (tt, wide_all ks)

-- 16 claimed keys fit
sixteen_fit : StateFits wide (state_with 16)
sixteen_fit = record {
  worker_is = (omega arith, omega arith);
  last_is = omega arith;
  seen_is = refl;
  few = omega arith;
  placed = placed_from 0 16 (omega arith);
  claimed_once = distinct-keys_from key_claimed [] (deletions (numbers_from 0 16)) none_once;
  written_once = distinct-keys_from key_claimed [] (deletions (numbers_from 0 16)) none_once;
  guarded_once = none_once;
  written = each_passes (λ (i : Item). is_claimed (state_with 16).claims (item_key i)) (state_with 16).writes refl;
  guarded = tt;
  used =
      each_passes (λ (r : Record). is_used (state_with 16).writes (state_with 16).guards r.key) (state_with 16).claims
      refl;
  wide = wide_all (numbers_from 0 16);
}

-- 17 do not
seventeen_refused : StateFits wide (state_with 17) → ⊥
seventeen_refused fits = let few = fits.few in omega arith

-- nor does a key that is claimed and neither written nor guarded
unused_refused : StateFits wide (record (state_with 16) { writes = [] }) → ⊥
unused_refused fits = false≢true fits.used.0

-- nor a worker's number that is none of the form
number_refused : StateFits wide (record (state_with 1) { last = 4294967296 }) → ⊥
number_refused fits = let last = fits.last_is in omega arith

-- 2. A commit of them, which needs a number

abbrev commit_state : ℕ → TxnState
commit_state last = record (state_with 16) { last = last; records = records_of (state_with 16) }

commit_fits : CommitFits wide (commit_state 4294967294) (Locking Peek)
commit_fits = (refl, omega arith, (omega arith, refl), omega arith)

spent_refused : CommitFits wide (commit_state 4294967295) (Locking Peek) → ⊥
spent_refused fits = let room = fits.3 in omega arith

-- 3. What is asked

-- one more key has room beside 15, and none beside 16
room_beside_15 : HasRoom (state_with 15).claims (Del 0 15)
room_beside_15 claims new = omega arith

no_room_beside_16 : HasRoom (state_with 16).claims (Del 0 16) → ⊥
no_room_beside_16 room = let l = room refl refl in omega arith

-- a claimed key needs none, and neither does a get
room_of_claimed : HasRoom (state_with 16).claims (Del 0 3)
room_of_claimed claims new = absurd (false≢true (sym new))

room_of_get : HasRoom (state_with 16).claims (Get 0 16)
room_of_get claims new = absurd (false≢true claims)

abbrev open_with : ℕ → Open
open_with count = record (new_attempt (new_client 1 0) 1 1 0 (0 ∷ [])) { state = state_with count }

call_fits : CallFits wide (Some (open_with 15)) (call.Txn (txn_call.Del 0 15))
call_fits = ((omega arith, omega arith), refl, omega arith, room_beside_15)

call_refused : CallFits wide (Some (open_with 16)) (call.Txn (txn_call.Del 0 16)) → ⊥
call_refused fits = no_room_beside_16 fits.3

-- the greatest key, and one above it
key_fits : OpStands wide [] (Get 0 18446744073709551614)
key_fits = ((omega arith, omega arith), refl, omega arith, λ claims new. omega arith)

key_refused : OpStands wide [] (Get 0 18446744073709551615) → ⊥
key_refused stands = let word = stands.2 in omega arith

tidied_key_refused : CallFits wide None (call.Tidy 0 18446744073709551615) → ⊥
tidied_key_refused fits = let word = fits.1.1 in omega arith

-- a client with 16 claimed keys fits
client_fits : ClientFits wide (record (new_client 1 0) { txn = Some (open_with 16) })
client_fits = ((omega arith, omega arith), sixteen_fit, tt, omega arith)

-- and comes there by its calls
abbrev its_calls : List Call
its_calls = call.Begin 1 1 ∷ map (λ k. call.Txn (txn_call.Del 0 k)) (numbers_from 0 16)

abbrev opened : Alone
opened = record { words = opening_words wide []; client = new_client 1 0 }

claims_of_client : option_map (λ (attempt : Open). attempt.state.claims) (after_calls wide opened its_calls).client.txn
    ≡ Some (state_with 16).claims
unfolding after_verbs copies load_from
claims_of_client = refl

-- 4. A job

fit_from : (n count : ℕ) → AllByRecursion (OpFits (widths_of wide.tables)) (deletions (numbers_from n count))
fit_from n zero = tt
fit_from n (suc count) = ((omega arith, omega arith), fit_from (n + 1) count)

job_of_16_fits : OpsFit wide (deletions (numbers_from 0 16))
job_of_16_fits = record {
  fit = fit_from 0 16;
  keys = search (arith);
  few = omega arith;
}

job_of_17_refused : OpsFit wide (deletions (numbers_from 0 17)) → ⊥
job_of_17_refused fits = let few = fits.few in omega arith
