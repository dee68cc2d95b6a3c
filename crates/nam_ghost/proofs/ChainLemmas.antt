-- No stamp comes twice in a chain: the writer of each version has seen all before it, and not its own.
use Rattle.std.proofs.Common.{List, Some, [], arith, eqb, false, leb, length, slice_get, subst, suc, sym, true, zero, ℕ}
use Rattle.std.proofs.Common.{⊎_elim, ◌&&◌, ◌+◌, ◌-◌, ◌<◌, ◌∙◌, ◌∷◌, ◌≡◌}
use Rattle.std.specs.Prelude.{slice_index}
use Rattle.std.specs.List.{AllByRecursion}
use Rattle.std.proofs.lemmas.Bool.{and_parts, cases_order, cond_both, lt-leb, ne_eqb, true≢false}
use Rattle.std.proofs.lemmas.Option.{none-some, same_Some}
use Rattle.si_model.specs.Lists.{Pairwise}
use Rattle.nam_header.specs.Visible.{is_visible}
use Rattle.nam_store.specs.Everyone.{Someone}
use Rattle.nam_ghost.specs.Chains.{ChainOk, IsSeenBy, WrittenBy}
use Rattle.nam_ghost.specs.Moments.{Observer}
use Rattle.nam_ghost.specs.Versions.{Chain, IsNth, Version, versions}

-- an earlier element stands so to a later one
pub all_got : {A : Type 0} (P : A → Type 0) (xs : List A) (n : ℕ) (x : A) → AllByRecursion P xs
    → slice_get xs n ≡ Some x → P x
all_got P [] n x all is = absurd (none-some x is)
all_got P (y ∷ ys) zero x all is = subst P (same_Some y x is) all.0
all_got P (y ∷ ys) (suc n) x all is = all_got P ys n x all.1 is

pub pairs_got : {A : Type 0} (R : A → A → Type 0) (xs : List A) (a b : ℕ) (x y : A) → Pairwise R xs → a < b
    → slice_get xs a ≡ Some x → slice_get xs b ≡ Some y → R x y
pairs_got R [] a b x y pairs less at is = absurd (none-some x at)
pairs_got R (z ∷ zs) zero zero x y pairs less at is = absurd (omega arith)
pairs_got R (z ∷ zs) zero (suc b) x y pairs less at is =
    subst (λ u. R u y) (same_Some z x at) (all_got (R z) zs b y pairs.0 is)
pairs_got R (z ∷ zs) (suc a) zero x y pairs less at is = absurd (omega arith)
pairs_got R (z ∷ zs) (suc a) (suc b) x y pairs less at is = pairs_got R zs a b x y pairs.1 (omega arith) at is

-- no stamp comes twice in a chain: the later version's writer has seen the earlier one, and not its own
module _ (width : ℕ) (observers : List Observer) (chain : Chain) (ok : ChainOk width observers chain) where
  unseen : (version : Version) → Someone (WrittenBy version) observers → IsSeenBy version version → ⊥
  unseen version (nth, (observer, (here, by))) sees =
      let thread = by.thread in
      let before = by.before in
      let some : eqb version.stamp.thread 0 ≡ false = ne_eqb version.stamp.thread 0 (λ e. omega arith) in
      let entry : version.stamp.thread - 1 ≡ nth = omega arith in
      let past : leb version.stamp.number (slice_index version.seen (version.stamp.thread - 1)) ≡ false =
      subst (λ a. leb version.stamp.number (slice_index version.seen a) ≡ false) (sym entry)
      (lt-leb version.stamp.number (slice_index version.seen nth) before) in
      cond_both (eqb version.stamp.thread 0) (eqb version.stamp.number 0)
      (leb version.stamp.thread (length version.seen)
      && leb version.stamp.number (slice_index version.seen (version.stamp.thread - 1)))
      (λ b. b ≡ true → ⊥) (λ e f. true≢false (sym e ∙ some))
      (λ e f. true≢false (sym (and_parts (leb version.stamp.thread (length version.seen))
      (leb version.stamp.number (slice_index version.seen (version.stamp.thread - 1))) f).1 ∙ past)) sees

  before_apart : (a b : ℕ) (u v : Version) → a < b → IsNth chain a u → IsNth chain b v → u.stamp ≡ v.stamp → ⊥
  before_apart a zero u v less at is same = absurd (omega arith)
  before_apart a (suc b) u v less at is same =
      let plain : suc b ≡ b + 1 = omega arith in
      unseen v (ok.later b v (subst (λ n. IsNth chain n v) plain is))
      (subst (λ s. is_visible s v.seen ≡ true) same
      (pairs_got IsSeenBy (versions chain) a (suc b) u v ok.order less at is))

  pub once : (a b : ℕ) (u v : Version) → IsNth chain a u → IsNth chain b v → u.stamp ≡ v.stamp → a ≡ b
  once a b u v at is same =
      ⊎_elim (λ e. e)
      (λ apart. ⊎_elim (λ (less : a < b). absurd (before_apart a b u v less at is same))
      (λ (less : b < a). absurd (before_apart b a v u less is at (sym same))) apart)
      (cases_order a b)
