-- Keys that are listed once: what is listed after one more, and how many there are.
use Rattle.std.proofs.Common.{◌≡◌, ℕ, zero, suc, ◌<◌, ◌≤◌, List, [], ◌∷◌, ◌++◌, length, refl, sym, ◌∙◌, ap, subst}
use Rattle.std.proofs.Common.{arith, inl, inr, Bool, true, false, not}
use Rattle.std.specs.Prelude.{◌||◌, if◌then◌else◌, map, filter}
use Rattle.std.specs.List.{AllByRecursion, IsDistinct}
use Rattle.std.specs.Set.{is_member}
use Rattle.std.specs.Cmp.{IsEquivalence}
use Rattle.std.proofs.lemmas.Bool.{cases_Bool, false≢true}
use Rattle.std.proofs.lemmas.Bool.Decides.{nat_tests}
use Rattle.std.proofs.lemmas.Map.Keys.{IsDistinct-cons, IsDistinct-head, IsDistinct-tail}
use Rattle.std.proofs.lemmas.Map.Made.{length-le_from_is_member}
use Rattle.si_model.specs.declared.row.Key.{Key}
use Rattle.si_model.specs.declared.row.Item.{Item}
use Rattle.si_model.specs.declared.op.Op.{Op}
use Rattle.si_model.specs.declared.op.Op.TheVariants.{Get, Put, Add, Del, Need, Guard, Scan}
use Rattle.si_model.specs.Rows.{Rows, key_at, same_key, has_key, item_key, writes_key}
use Rattle.si_model.specs.Evaluation.{with_write, with_guard, writes_after}
use Rattle.si_model.specs.Evaluation.{guards_after, unwritten, op_key, key_guarded}
use Rattle.si_model.specs.Operations.{op_claims}
use Rattle.si_model.proofs.EvaluationLemmas.{same_key-refl, same_key_says, distinct-keys_from}
use Rattle.si_model.proofs.ListLemmas.{All-append}
use Rattle.nam_verbs.proofs.TestLemmas.{by_test}
use Rattle.nam_calls.proofs.FallsTests.{either}
use Rattle.nam_protocol.specs.declared.txn.Record.{Record}
use Rattle.nam_protocol.specs.Txn.{with_claim}
use Rattle.nam_protocol.specs.TxnFits.{is_claimed, is_used}

-- 1. One key

key_symm : (a b : Key) → same_key a b ≡ same_key b a
key_symm a b = grind (arith, nat_tests)

pub key_equivalence : IsEquivalence same_key
key_equivalence = record {
  refl = same_key-refl;
  symm = key_symm;
  congr = λ x y z e. ap (λ (k : Key). same_key k z) (same_key_says x y e);
}

-- what holds of each key of a list holds of one that is in it
pub member_holds : (P : Key → Type 0) (keys : List Key) (key : Key) → AllByRecursion P keys
    → is_member same_key keys key ≡ true → P key
member_holds P [] key all is = absurd (false≢true is)
member_holds P (k ∷ ks) key all is = elim (cases_Bool (same_key key k)) [
  | inl same ↦ subst P (sym (same_key_says key k same)) all.0
  | inr other ↦ member_holds P ks key all.1 (rw other at is)
]

or_first : (b : Bool) → b ≡ true → (c : Bool) → (b || c) ≡ true
or_first true e c = refl
or_first false e c = absurd (false≢true e)

or_later : (b c : Bool) → c ≡ true → (b || c) ≡ true
or_later true c e = refl
or_later false c e = e

pub member_here : (key : Key) (keys : List Key) → is_member same_key (key ∷ keys) key ≡ true
member_here key keys = or_first (same_key key key) (same_key-refl key) (is_member same_key keys key)

pub member_later : (k : Key) (keys : List Key) (key : Key) → is_member same_key keys key ≡ true
    → is_member same_key (k ∷ keys) key ≡ true
member_later k keys key is = or_later (same_key key k) (is_member same_key keys key) is

pub member_first : (keys others : List Key) (key : Key) → is_member same_key keys key ≡ true
    → is_member same_key (keys ++ others) key ≡ true
member_first [] others key is = absurd (false≢true is)
member_first (k ∷ ks) others key is = elim (cases_Bool (same_key key k)) [
  | inl same ↦ or_first (same_key key k) same (is_member same_key (ks ++ others) key)
  | inr other ↦ member_later k (ks ++ others) key (member_first ks others key (rw other at is))
]

pub member_last : (keys others : List Key) (key : Key) → is_member same_key others key ≡ true
    → is_member same_key (keys ++ others) key ≡ true
member_last [] others key is = is
member_last (k ∷ ks) others key is = member_later k (ks ++ others) key (member_last ks others key is)

-- 2. One more key

-- keys that are listed once
abbrev pub AreOnce : List Key → Type 0
AreOnce keys = IsDistinct same_key keys

pub none_once : AreOnce []
unfolding IsDistinct
none_once = tt

pub guarded_once : (keys : List Key) (key : Key) → AreOnce keys → AreOnce (with_guard keys key)
guarded_once keys key once = distinct-keys_from key_guarded keys (Guard key.table key.key ∷ []) once

pub map_wrote : (ws : List Item) (i : Item) → map item_key (with_write ws i) ≡ with_guard (map item_key ws) (item_key i)
map_wrote [] i = refl
map_wrote (w ∷ ws) i = elim (cases_Bool (same_key (item_key w) (item_key i))) [
  | inl same ↦ rw (same, same_key_says (item_key w) (item_key i) same) refl
  | inr other ↦ rw other (ap (λ ks. item_key w ∷ ks) (map_wrote ws i))
]

abbrev pub claimed_keys : List Record → List Key
claimed_keys claims = map (λ (r : Record). r.key) claims

pub map_claimed : (cs : List Record) (r : Record) → claimed_keys (with_claim cs r) ≡ with_guard (claimed_keys cs) r.key
map_claimed [] r = refl
map_claimed (c ∷ cs) r = elim (cases_Bool (same_key c.key r.key)) [
  | inl same ↦ rw same refl
  | inr other ↦ rw other (ap (λ ks. c.key ∷ ks) (map_claimed cs r))
]

pub claimed_is_member : (cs : List Record) (key : Key) → is_claimed cs key ≡ true
    → is_member same_key (claimed_keys cs) key ≡ true
claimed_is_member [] key is = absurd (false≢true is)
claimed_is_member (c ∷ cs) key is = elim (cases_Bool (same_key c.key key)) [
  | inl same ↦
      or_first (same_key key c.key) (key_symm key c.key ∙ same) (is_member same_key (claimed_keys cs) key)
  | inr other ↦ member_later c.key (claimed_keys cs) key (claimed_is_member cs key (rw other at is))
]

-- so many at the most, where a key that is new has room
pub claims_within : (cs : List Record) (r : Record) (n : ℕ) → length cs ≤ n
    → (is_claimed cs r.key ≡ false → length cs < n)
    → length (with_claim cs r) ≤ n
claims_within [] r n within room = let l = room refl in omega arith
claims_within (c ∷ cs) r zero within room = absurd (omega arith)
claims_within (c ∷ cs) r (suc n) within room =
    by_test (λ (all : List Record). length all ≤ suc n) (same_key c.key r.key) (c ∷ cs) (c ∷ with_claim cs r)
    (λ same. within)
    (λ other.
    let l = claims_within cs r n (omega arith) (λ e. let l = room (rw other e) in omega arith) in omega arith)

-- 3. The keys that are written or guarded, after an operation

writes_wrote : (ws : List Item) (i : Item) (key : Key)
    → writes_key (with_write ws i) key ≡ (same_key (item_key i) key || writes_key ws key)
writes_wrote [] i key = grind (arith, nat_tests)
writes_wrote (w ∷ ws) i key = let rest = writes_wrote ws i key in grind (arith, nat_tests)

has_guarded : (gs : List Key) (k key : Key) → has_key (with_guard gs k) key ≡ (same_key k key || has_key gs key)
has_guarded [] k key = refl
has_guarded (g ∷ gs) k key = let rest = has_guarded gs k key in grind (arith, nat_tests)

module _ (ws : List Item) (gs : List Key) where
  wrote_used : (i : Item) (key : Key) → is_used ws gs key ≡ true → is_used (with_write ws i) gs key ≡ true
  wrote_used i key is = let e = writes_wrote ws i key in grind (arith, nat_tests)

  guard_used : (k key : Key) → is_used ws gs key ≡ true → is_used ws (with_guard gs k) key ≡ true
  guard_used k key is = let e = has_guarded gs k key in grind (arith, nat_tests)

  wrote_now : (i : Item) → is_used (with_write ws i) gs (item_key i) ≡ true
  wrote_now i =
      let e = writes_wrote ws i (item_key i) in let r = same_key-refl (item_key i) in grind (arith, nat_tests)

  guard_now : (k : Key) → is_used ws (with_guard gs k) k ≡ true
  guard_now k = let e = has_guarded gs k k in let r = same_key-refl k in grind (arith, nat_tests)

module _ (widths : List ℕ) (copy : Rows) (ws : List Item) (gs : List Key) where
  abbrev pub used_after : Op → Key → Bool
  used_after op key = is_used (writes_after widths op copy ws) (guards_after op gs) key

  pub used_kept : (op : Op) (key : Key) → is_used ws gs key ≡ true → used_after op key ≡ true
  used_kept (Get t k) key is = is
  used_kept (Put t k v) key is = wrote_used ws gs _ key is
  used_kept (Add t k f up by) key is = wrote_used ws gs _ key is
  used_kept (Del t k) key is = wrote_used ws gs _ key is
  used_kept (Need t k f least) key is = is
  used_kept (Guard t k) key is = guard_used ws gs (key_at t k) key is
  used_kept (Scan t low high) key is = is

  pub used_now : (op : Op) → op_claims op ≡ true → used_after op (op_key op) ≡ true
  used_now (Get t k) claims = absurd (false≢true claims)
  used_now (Put t k v) claims = wrote_now ws gs _
  used_now (Add t k f up by) claims = wrote_now ws gs _
  used_now (Del t k) claims = wrote_now ws gs _
  used_now (Need t k f least) claims = absurd (false≢true claims)
  used_now (Guard t k) claims = guard_now ws gs (key_at t k)
  used_now (Scan t low high) claims = absurd (false≢true claims)

-- 4. The written keys, and the guarded ones that aren't written

pub all_filter : {A : Type 0} (P : A → Type 0) (f : A → Bool) (xs : List A) → AllByRecursion P xs
    → AllByRecursion P (filter f xs)
all_filter P f [] all = tt
all_filter P f (x ∷ xs) all =
    either (AllByRecursion P) (f x) (x ∷ filter f xs) (filter f xs) (all.0, all_filter P f xs all.1)
    (all_filter P f xs all.1)

filter_once : (f : Key → Bool) (gs : List Key) → AreOnce gs → AreOnce (filter f gs)
filter_once f [] once = once
filter_once f (g ∷ gs) once =
    let rest = filter_once f gs (IsDistinct-tail same_key g gs once) in
    either AreOnce (f g) (g ∷ filter f gs) (filter f gs)
    (IsDistinct-cons same_key g (filter f gs)
    (all_filter (λ k. same_key g k ≡ false) f gs (IsDistinct-head same_key g gs once)) rest) rest

all_unwritten : (ws : List Item) (gs : List Key)
    → AllByRecursion (λ key. writes_key ws key ≡ false) (unwritten ws gs)
all_unwritten ws [] = tt
all_unwritten ws (g ∷ gs) =
    by_test (AllByRecursion (λ key. writes_key ws key ≡ false)) (not (writes_key ws g)) (g ∷ unwritten ws gs)
    (unwritten ws gs)
    (λ e. (grind (arith, nat_tests), all_unwritten ws gs))
    (λ e. all_unwritten ws gs)

-- neither the first item nor a later one is of the key
apart_here : (w : Item) (ws : List Item) (keys : List Key)
    → AllByRecursion (λ key. writes_key (w ∷ ws) key ≡ false) keys
    → AllByRecursion (λ key. same_key (item_key w) key ≡ false) keys
apart_here w ws [] all = tt
apart_here w ws (k ∷ ks) all = (first (same_key (item_key w) k) (writes_key ws k) all.0, apart_here w ws ks all.1)
  where
    first : (a b : Bool) → (if a then true else b) ≡ false → a ≡ false
    first true b e = e
    first false b e = refl

apart_later : (w : Item) (ws : List Item) (keys : List Key)
    → AllByRecursion (λ key. writes_key (w ∷ ws) key ≡ false) keys
    → AllByRecursion (λ key. writes_key ws key ≡ false) keys
apart_later w ws [] all = tt
apart_later w ws (k ∷ ks) all = (later (same_key (item_key w) k) (writes_key ws k) all.0, apart_later w ws ks all.1)
  where
    later : (a b : Bool) → (if a then true else b) ≡ false → b ≡ false
    later true b e = absurd (false≢true (sym e))
    later false b e = e

joined_once : (ws : List Item) (keys : List Key) → AreOnce (map item_key ws) → AreOnce keys
    → AllByRecursion (λ key. writes_key ws key ≡ false) keys
    → AreOnce (map item_key ws ++ keys)
joined_once [] keys once others apart = others
joined_once (w ∷ ws) keys once others apart =
    IsDistinct-cons same_key (item_key w) (map item_key ws ++ keys)
    (All-append (λ k. same_key (item_key w) k ≡ false) (map item_key ws) keys
    (IsDistinct-head same_key (item_key w) (map item_key ws) once) (apart_here w ws keys apart))
    (joined_once ws keys (IsDistinct-tail same_key (item_key w) (map item_key ws) once) others
    (apart_later w ws keys apart))

-- each of them once
pub used_once : (ws : List Item) (gs : List Key) → AreOnce (map item_key ws) → AreOnce gs
    → AreOnce (map item_key ws ++ unwritten ws gs)
used_once ws gs written guarded =
    joined_once ws (unwritten ws gs) written (filter_once (λ key. not (writes_key ws key)) gs guarded)
    (all_unwritten ws gs)

pub written_member : (ws : List Item) (key : Key) → writes_key ws key ≡ true
    → is_member same_key (map item_key ws) key ≡ true
written_member [] key is = absurd (false≢true is)
written_member (w ∷ ws) key is = elim (cases_Bool (same_key (item_key w) key)) [
  | inl same ↦
      or_first (same_key key (item_key w)) (key_symm key (item_key w) ∙ same) (is_member same_key (map item_key ws) key)
  | inr other ↦ member_later (item_key w) (map item_key ws) key (written_member ws key (rw other at is))
]

pub has_member : (keys : List Key) (key : Key) → has_key keys key ≡ true → is_member same_key keys key ≡ true
has_member [] key is = absurd (false≢true is)
has_member (k ∷ ks) key is = elim (cases_Bool (same_key k key)) [
  | inl same ↦ or_first (same_key key k) (key_symm key k ∙ same) (is_member same_key ks key)
  | inr other ↦ member_later k ks key (has_member ks key (rw other at is))
]

guarded_member : (ws : List Item) (gs : List Key) (key : Key) → writes_key ws key ≡ false → has_key gs key ≡ true
    → is_member same_key (unwritten ws gs) key ≡ true
guarded_member ws [] key other is = absurd (false≢true is)
guarded_member ws (g ∷ gs) key other is = elim (cases_Bool (same_key g key)) [
  | inl same ↦
      let here : not (writes_key ws g) ≡ true = rw (same_key_says g key same, other) refl in
      rw here (or_first (same_key key g) (key_symm key g ∙ same) (is_member same_key (unwritten ws gs) key))
  | inr different ↦
      let later = guarded_member ws gs key other (rw different at is) in
      either (λ (keys : List Key). is_member same_key keys key ≡ true) (not (writes_key ws g)) (g ∷ unwritten ws gs)
      (unwritten ws gs) (member_later g (unwritten ws gs) key later) later
]

pub used_member : (ws : List Item) (gs : List Key) (key : Key) → is_used ws gs key ≡ true
    → is_member same_key (map item_key ws ++ unwritten ws gs) key ≡ true
used_member ws gs key is = elim (cases_Bool (writes_key ws key)) [
  | inl written ↦ member_first (map item_key ws) (unwritten ws gs) key (written_member ws key written)
  | inr other ↦
      member_last (map item_key ws) (unwritten ws gs) key (guarded_member ws gs key other (rw other at is))
]

-- 5. How many there are

-- one more key than those that are claimed
pub claimed_length : (cs : List Record) (key : Key) → is_claimed cs key ≡ false
    → length (with_guard (claimed_keys cs) key) ≡ suc (length cs)
claimed_length [] key new = refl
claimed_length (c ∷ cs) key new = elim (cases_Bool (same_key c.key key)) [
  | inl same ↦ absurd (false≢true (sym new ∙ rw same refl))
  | inr other ↦ rw other (ap suc (claimed_length cs key (rw other at new)))
]

pub once_within : (keys others : List Key) → AreOnce keys
    → ((key : Key) → is_member same_key keys key ≡ true → is_member same_key others key ≡ true)
    → length keys ≤ length others
once_within keys others once within = length-le_from_is_member key_equivalence keys others once within
