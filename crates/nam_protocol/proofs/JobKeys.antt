-- The keys that a job writes or guards, and that each of them has room where it is asked.
use Rattle.std.proofs.Common.{◌≡◌, ℕ, zero, suc, ◌≤◌, List, [], ◌∷◌, length, take, refl, sym, ◌∙◌, ap, subst}
use Rattle.std.proofs.Common.{arith, inl, inr, true, Option, Some, None}
use Rattle.std.specs.Prelude.{◌||◌, slice_get}
use Rattle.std.specs.List.{AllByRecursion}
use Rattle.std.specs.Set.{is_member}
use Rattle.std.proofs.lemmas.Bool.{cases_Bool, false≢true}
use Rattle.std.proofs.lemmas.Bool.Decides.{nat_tests}
use Rattle.si_model.specs.declared.row.Key.{Key}
use Rattle.si_model.specs.declared.op.Op.{Op}
use Rattle.si_model.specs.declared.op.Op.TheVariants.{Get, Put, Add, Del, Need, Guard, Scan}
use Rattle.si_model.specs.Rows.{same_key, writes_key}
use Rattle.si_model.specs.Evaluation.{with_guard, op_key, key_written, key_guarded, key_claimed, keys_from}
use Rattle.si_model.specs.Evaluation.{written_keys}
use Rattle.si_model.specs.Operations.{op_claims}
use Rattle.si_model.proofs.EvaluationLemmas.{same_key-refl, distinct-keys_from}
use Rattle.si_model.proofs.ListLemmas.{All-map}
use Rattle.nam_catalog.specs.declared.bounds.TheConstants.{MOST_KEYS}
use Rattle.nam_catalog.specs.declared.shape.Shape.{Shape}
use Rattle.nam_protocol.specs.declared.txn.Record.{Record}
use Rattle.nam_protocol.specs.declared.txn.TxnState.{TxnState}
use Rattle.nam_protocol.specs.TxnFits.{is_used, StateFits, HasRoom}
use Rattle.nam_protocol.specs.AttemptLaw.{HasAsked}
use Rattle.nam_protocol.proofs.KeyLemmas.{none_once, member_holds, claimed_keys, guarded_once, once_within}
use Rattle.nam_protocol.proofs.KeyLemmas.{written_member, has_member, claimed_length}
use Rattle.nam_protocol.proofs.FallsKeys.{all_guarded, claims_each}

-- 1. One more key

member_guarded : (gs : List Key) (k key : Key)
    → is_member same_key (with_guard gs k) key ≡ (same_key key k || is_member same_key gs key)
member_guarded [] k key = refl
member_guarded (g ∷ gs) k key = let rest = member_guarded gs k key in grind (arith, nat_tests)

module _ (keys : List Key) (key : Key) where
  guarded_here : is_member same_key (with_guard keys key) key ≡ true
  guarded_here =
      let e = member_guarded keys key key in let r = same_key-refl key in grind (arith, nat_tests)

  guarded_more : (k : Key) → is_member same_key keys k ≡ true → is_member same_key (with_guard keys key) k ≡ true
  guarded_more k is = let e = member_guarded keys key k in grind (arith, nat_tests)

-- each of these keys is one of those
abbrev Within : List Key → List Key → Type 0
Within keys others = (key : Key) → is_member same_key keys key ≡ true → is_member same_key others key ≡ true

-- the other operation names that key, where this one names one
abbrev Names : Option Key → Option Key → Type 0
Names None other = Unit {0}
Names (Some key) other = other ≡ Some key

abbrev with_named : Option Key → List Key → List Key
with_named named keys = elim named [ None ↦ keys | Some key ↦ with_guard keys key ]

named_grows : (named : Option Key) (keys others : List Key) → Within keys others
    → Within keys (with_named named others)
named_grows None keys others within = within
named_grows (Some k) keys others within = λ key is. guarded_more others k key (within key is)

both_guarded : (keys others : List Key) (k : Key) → Within keys others
    → Within (with_guard keys k) (with_guard others k)
both_guarded keys others k within key is =
    let e = member_guarded keys k key in
    let f = member_guarded others k key in
    elim (cases_Bool (is_member same_key keys key)) [
      | inl there ↦ guarded_more others k key (within key there)
      | inr new ↦ grind (arith, nat_tests)
    ]

named_within : (named other : Option Key) (keys others : List Key) → Names named other → Within keys others
    → Within (with_named named keys) (with_named other others)
named_within None other keys others names within = named_grows other keys others within
named_within (Some k) other keys others names within =
    subst (λ o. Within (with_guard keys k) (with_named o others)) (sym names) (both_guarded keys others k within)

-- 2. The keys of operations

keys_grow : (named : Op → Option Key) (keys others : List Key) (ops : List Op) → Within keys others
    → Within keys (keys_from named others ops)
keys_grow named keys others [] within = within
keys_grow named keys others (op ∷ ops) within =
    keys_grow named keys (with_named (named op) others) ops (named_grows (named op) keys others within)

-- those that the first operations name are among all that are named, where each names at least these
named_before : (named other : Op → Option Key) → ((op : Op) → Names (named op) (other op)) → (keys others : List Key)
    (ops : List Op) (nth : ℕ) → Within keys others
    → Within (keys_from named keys (take nth ops)) (keys_from other others ops)
named_before named other names keys others [] zero within = within
named_before named other names keys others [] (suc nth) within = within
named_before named other names keys others (op ∷ ops) zero within = keys_grow other keys others (op ∷ ops) within
named_before named other names keys others (op ∷ ops) (suc nth) within =
    named_before named other names (with_named (named op) keys) (with_named (other op) others) ops nth
    (named_within (named op) (other op) keys others (names op) within)

-- the key that one of them names
named_there : (named : Op → Option Key) (keys : List Key) (ops : List Op) (nth : ℕ) (op : Op) (key : Key)
    → slice_get ops nth ≡ Some op → named op ≡ Some key → is_member same_key (keys_from named keys ops) key ≡ true
named_there named keys [] nth op key here names = absurd (cc)
named_there named keys (o ∷ ops) zero op key here names =
    let same : o ≡ op = cc in
    let is : named o ≡ Some key = ap named same ∙ names in
    keys_grow named (with_named (named o) keys) (with_named (named o) keys) ops (λ k i. i) key
    (subst (λ n. is_member same_key (with_named n keys) key ≡ true) (sym is) (guarded_here keys key))
named_there named keys (o ∷ ops) (suc nth) op key here names =
    named_there named (with_named (named o) keys) ops nth op key here names

written_claims : (op : Op) → Names (key_written op) (key_claimed op)
written_claims (Get t k) = tt
written_claims (Put t k v) = refl
written_claims (Add t k f up by) = refl
written_claims (Del t k) = refl
written_claims (Need t k f least) = tt
written_claims (Guard t k) = tt
written_claims (Scan t low high) = tt

guarded_claims : (op : Op) → Names (key_guarded op) (key_claimed op)
guarded_claims (Get t k) = tt
guarded_claims (Put t k v) = tt
guarded_claims (Add t k f up by) = tt
guarded_claims (Del t k) = tt
guarded_claims (Need t k f least) = tt
guarded_claims (Guard t k) = refl
guarded_claims (Scan t low high) = tt

claims_its_key : (op : Op) → op_claims op ≡ true → key_claimed op ≡ Some (op_key op)
claims_its_key (Get t k) e = absurd (false≢true e)
claims_its_key (Put t k v) e = refl
claims_its_key (Add t k f up by) e = refl
claims_its_key (Del t k) e = refl
claims_its_key (Need t k f least) e = absurd (false≢true e)
claims_its_key (Guard t k) e = refl
claims_its_key (Scan t low high) e = absurd (false≢true e)

take_all : {A : Type 0} (xs : List A) → take (length xs) xs ≡ xs
take_all [] = refl
take_all (x ∷ xs) = ap (λ ys. x ∷ ys) (take_all xs)

-- the keys that are written are no more than those that are written or guarded
pub written_few : (ops : List Op) → length (keys_from key_claimed [] ops) ≤ MOST_KEYS
    → length (written_keys ops) ≤ MOST_KEYS
written_few ops few =
    let within = once_within (written_keys ops) (keys_from key_claimed [] ops)
    (distinct-keys_from key_written [] ops none_once)
    (λ key is. named_before key_written key_claimed written_claims [] [] ops (length ops) (λ k i. i) key
    (subst (λ some. is_member same_key (keys_from key_written [] some) key ≡ true) (sym (take_all ops)) is)) in
    omega arith

-- 3. Each operation of a job has room, where those before it have passed

module _ (shape : Shape) (state : TxnState) (ops : List Op) (nth : ℕ) (fits : StateFits shape state)
    (asked : HasAsked state (take nth ops)) where
  -- what is written or guarded so far is among the keys that the job claims
  abbrev IsOfJob : Key → Type 0
  IsOfJob key = is_member same_key (keys_from key_claimed [] ops) key ≡ true

  used_of_job : (key : Key) → is_used state.writes state.guards key ≡ true → IsOfJob key
  used_of_job key is = elim (cases_Bool (writes_key state.writes key)) [
    | inl written ↦
        named_before key_written key_claimed written_claims [] [] ops nth (λ k i. i) key
        (subst (λ ks. is_member same_key ks key ≡ true) asked.written (written_member state.writes key written))
    | inr other ↦
        named_before key_guarded key_claimed guarded_claims [] [] ops nth (λ k i. i) key
        (subst (λ ks. is_member same_key ks key ≡ true) asked.guarded (has_member state.guards key (rw other at is)))
  ]

  pub op_has_room : (op : Op) → slice_get ops nth ≡ Some op → length (keys_from key_claimed [] ops) ≤ MOST_KEYS
      → HasRoom state.claims op
  op_has_room op here few claims new =
      let key = op_key op in
      let keys = claimed_keys state.claims in
      let used : AllByRecursion (IsOfJob) keys =
      All-map (λ (r : Record). r.key) (IsOfJob) state.claims
      (claims_each (λ r. is_used state.writes state.guards r.key ≡ true) (λ r. IsOfJob r.key)
      (λ r. used_of_job r.key) state.claims fits.used) in
      let its : IsOfJob key = named_there key_claimed [] ops nth op key here (claims_its_key op claims) in
      let all = all_guarded (IsOfJob) keys key used its in
      let most = once_within (with_guard keys key) (keys_from key_claimed [] ops)
      (guarded_once keys key fits.claimed_once) (λ k is. member_holds (IsOfJob) (with_guard keys key) k all is) in
      let many = claimed_length state.claims key new in
      omega arith
