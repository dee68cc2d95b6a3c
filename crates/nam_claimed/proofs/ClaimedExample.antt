-- Keys that were loaded and claimed, their homes, and a claim that finds no space, by computing.
use Rattle.nam_calls.specs.Memory.{memory}
use Rattle.nam_calls.specs.Words.{key_word}
use Rattle.nam_calls.specs.declared.index.ClaimKeyPoint.TheVariants.{KeyLook}
use Rattle.nam_catalog.specs.declared.form.Form.TheVariants.{Narrow}
use Rattle.nam_catalog.specs.declared.shape.Shape.{Shape}
use Rattle.nam_claimed.specs.Claimed.{ClaimedOk, FromOp, FromRow, IsLoadedOrAsked, RunsAskedOps, ops_asked}
use Rattle.nam_claimed.specs.EndsLaw.{EndsFull, LacksSpace, ListsAsked}
use Rattle.nam_claimed.specs.Home.{home_of}
use Rattle.nam_ghost.proofs.Runs.{Calls, Seen, Turns, after_deeds, client_of, opened, turns}
use Rattle.nam_protocol.proofs.Shown.{loaded, shape, table}
use Rattle.nam_protocol.specs.Opening.{copies, load_from}
use Rattle.nam_protocol.specs.declared.client.Call.TheVariants.{Begin, Scan, Txn}
use Rattle.nam_protocol.specs.declared.client.Call.{Call}
use Rattle.nam_protocol.specs.declared.txn.TxnCall.TheVariants.{Put}
use Rattle.nam_store.specs.Store.{found_word}
use Rattle.si_model.specs.Lists.{Listed}
use Rattle.si_model.specs.Rows.{key_at, row_key}
use Rattle.si_model.specs.Setting.{Asked, Setting, claimed_keys, is_crowded}
use Rattle.si_model.specs.declared.op.Op.TheVariants as op
use Rattle.si_model.specs.declared.op.Op.{Op}
use Rattle.si_model.specs.declared.row.Key.{Key}
use Rattle.si_model.specs.declared.row.Row.{Row}
use Rattle.std.proofs.Common.{List, None, Option, Some, [], ap, arith, false, inl, inr, map, refl, subst, suc}
use Rattle.std.proofs.Common.{true, zero, ℕ, ◌+◌, ◌<◌, ◌∙◌, ◌∷◌, ◌≡◌, ◌≢◌}

-- three positions; keys 0 and 3 are loaded, and have one path
abbrev narrow_shape : Shape
narrow_shape = shape Narrow 1 (table 1 3 1 ∷ []) 1 1 0

abbrev rows : List Row
rows = loaded 0 0 (5 ∷ []) ∷ loaded 0 3 (6 ∷ []) ∷ []

-- the client writes key 6, which takes the third position, and is asked to write key 9, for which there is none
abbrev first_calls : List Call
first_calls = Begin 1 1 ∷ Txn (Put 0 6 (7 ∷ [])) ∷ []

abbrev all_calls : List Call
all_calls = Begin 1 1 ∷ Txn (Put 0 6 (7 ∷ [])) ∷ Txn (Put 0 9 (8 ∷ [])) ∷ []

abbrev claiming : Seen
claiming = after_deeds narrow_shape (opened narrow_shape rows)
    (Calls 0 (Begin 1 1) ∷ Turns 0 2 ∷ Calls 0 (Txn (Put 0 6 (7 ∷ []))) ∷ Turns 0 3 ∷ [])

abbrev claimed : Seen
claimed = after_deeds narrow_shape claiming (Turns 0 1 ∷ [])

abbrev full : Seen
full = after_deeds narrow_shape claimed (Calls 0 (Txn (Put 0 9 (8 ∷ []))) ∷ Turns 0 2 ∷ [])

abbrev home_in : Seen → ℕ → Option ℕ
home_in seen key = home_of narrow_shape (memory narrow_shape seen.store.words) (key_at 0 key)

-- 1. Homes

homes_before : map (home_in claiming) (0 ∷ 3 ∷ 6 ∷ []) ≡ Some 0 ∷ Some 1 ∷ None ∷ []
unfolding turns copies load_from
homes_before = refl

homes_after : map (home_in claimed) (0 ∷ 3 ∷ 6 ∷ 9 ∷ []) ≡ Some 0 ∷ Some 1 ∷ Some 2 ∷ None ∷ []
unfolding turns copies load_from
homes_after = refl

-- there is no other table
no_table : home_of narrow_shape (memory narrow_shape claimed.store.words) (key_at 1 0) ≡ None
no_table = refl

-- 2. What was asked

ops_first : ops_asked first_calls ≡ op.Put 0 6 (7 ∷ []) ∷ []
ops_first = refl

ops_all : ops_asked all_calls ≡ op.Put 0 6 (7 ∷ []) ∷ op.Put 0 9 (8 ∷ []) ∷ []
ops_all = refl

runs_asked : RunsAskedOps first_calls (client_of claiming 0)
unfolding turns copies load_from
runs_asked = (inl refl, tt)

abbrev calls_by : List Call → ℕ → List Call
calls_by calls zero = calls
calls_by calls (suc nth) = []

same_key : (word key : ℕ) → word + 1 ≡ key_word key → word ≡ key
same_key word key e = omega arith

apart : (k l : ℕ) → k ≢ l → key_at 0 k ≢ key_at 0 l
apart k l differ same = differ (ap (λ (key : Key). key.key) same)

-- key 6 stands since it was asked for
claimed_ok : ClaimedOk narrow_shape rows claimed.store (calls_by first_calls)
unfolding turns copies load_from
claimed_ok zero key zero less bears =
    FromRow (loaded 0 0 (5 ∷ [])) (inl refl) (ap (key_at 0) (same_key 0 key bears))
claimed_ok zero key (suc zero) less bears =
    FromRow (loaded 0 3 (6 ∷ [])) (inr (inl refl)) (ap (key_at 0) (same_key 3 key bears))
claimed_ok zero key (suc (suc zero)) less bears =
    FromOp 0 (op.Put 0 6 (7 ∷ [])) (omega arith) (inl refl) (ap (λ k. Some (key_at 0 k)) (same_key 6 key bears))
claimed_ok zero key (suc (suc (suc p))) less bears = absurd (omega arith)
claimed_ok (suc t) key position less bears = absurd (omega arith)

-- it would not be so, had nothing been asked
nothing_asked : (nth : ℕ) → ops_asked (calls_by [] nth) ≡ []
nothing_asked zero = refl
nothing_asked (suc nth) = refl

six_unknown : IsLoadedOrAsked narrow_shape rows (calls_by []) (key_at 0 6) → ⊥
six_unknown (FromRow row (inl first) is) = apart 0 6 (omega arith) (ap row_key first ∙ is)
six_unknown (FromRow row (inr (inl second)) is) = apart 3 6 (omega arith) (ap row_key second ∙ is)
six_unknown (FromRow row (inr (inr none)) is) = absurd none
six_unknown (FromOp nth op within listed claims) = absurd (subst (Listed op) (nothing_asked nth) listed)

not_ok : ClaimedOk narrow_shape rows claimed.store (calls_by []) → ⊥
unfolding turns copies load_from
not_ok ok = six_unknown (ok 0 6 2 (omega arith) refl)

-- 3. No space for key 9

abbrev setting : Setting
setting = record {
  workers = 1;
  start = 0;
  greatest = 9;
  held = false;
  widths = 1 ∷ [];
  capacities = 3 ∷ [];
  rings = 1 ∷ [];
  cells = 1;
  rows = rows;
  jobs = [];
  owners = [];
  policy = record { tries = 1; tidy = false };
}

abbrev asked_of : List Call → Asked
asked_of calls = record { ops = ops_asked calls; by_calls = true }

full_ends : EndsFull narrow_shape full.store 0 (client_of full 0) (op.Put 0 9 (8 ∷ [])) 0
unfolding turns copies load_from
full_ends = record { here = refl; at = KeyLook 2; runs = refl; answers = refl }

lists : ListsAsked narrow_shape rows (calls_by all_calls) setting (asked_of all_calls)
lists = record { loaded = refl; capacities = refl; ops = each }
  where
    each : (nth : ℕ) → nth < 1 → (op : Op) → Listed op (ops_asked (calls_by all_calls nth))
        → Listed op (ops_asked all_calls)
    each zero less op listed = listed
    each (suc nth) less op listed = absurd (omega arith)

keys_are : claimed_keys setting (asked_of all_calls)
    ≡ key_at 0 0 ∷ key_at 0 3 ∷ key_at 0 6 ∷ key_at 0 9 ∷ []
keys_are = refl

lacks : LacksSpace narrow_shape (memory narrow_shape full.store.words) setting (asked_of all_calls) (key_at 0 9)
unfolding turns copies load_from
lacks = record {
  unplaced = refl;
  keys = key_at 0 6 ∷ key_at 0 3 ∷ key_at 0 0 ∷ [];
  apart = ((apart 6 3 (omega arith), (apart 6 0 (omega arith), tt)), ((apart 3 0 (omega arith), tt), (tt, tt)));
  many = omega arith;
  others = (
    (refl, apart 6 9 (omega arith), inr (inr (inl refl))),
    ((refl, apart 3 9 (omega arith), inr (inl refl)), ((refl, apart 0 9 (omega arith), inl refl), tt)),
  );
}

crowded : is_crowded setting (asked_of all_calls) (key_at 0 9) ≡ true
crowded = refl

-- the model has room for it where only key 9 was asked for
room : is_crowded setting (asked_of (Begin 1 1 ∷ Txn (Put 0 9 (8 ∷ [])) ∷ [])) (key_at 0 9) ≡ false
room = refl

-- 4. What a scan finds at the third position, before the claim and after it

abbrev scans : Seen → Seen
scans seen = after_deeds narrow_shape seen (Calls 0 (Scan 0 6 9) ∷ Turns 0 2 ∷ [])

abbrev word_in : Seen → ℕ
word_in seen = found_word narrow_shape seen.store (client_of seen 0)

abbrev begun : Seen
begun = after_deeds narrow_shape (opened narrow_shape rows) (Calls 0 (Begin 1 1) ∷ Turns 0 2 ∷ [])

free_word : word_in (scans begun) ≡ 0
unfolding turns copies load_from
free_word = refl

taken_word : word_in (scans claimed) ≡ key_word 6
unfolding turns copies load_from
taken_word = refl
