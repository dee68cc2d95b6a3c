-- Overtaking goes in no circle: commits can be numbered by their places in the order of publication.
use Rattle.std.proofs.Common.{List, Some, [], ap, arith, length, map, refl, subst, suc, sym, true, zero, ℕ}
use Rattle.std.proofs.Common.{◌+◌, ◌<◌, ◌∙◌, ◌∷◌, ◌≡◌, ◌≢◌, ◌≤◌}
use Rattle.std.specs.Prelude.{if◌then◌else◌, slice_get, slice_index_or}
use Rattle.std.proofs.lemmas.Bool.{cond_both, true≢false}
use Rattle.std.proofs.lemmas.Bool.Decides.{nat_tests}
use Rattle.std.proofs.lemmas.List.{length-map}
use Rattle.std.proofs.lemmas.Option.{none-some, same_Some}
use Rattle.si_model.specs.Commits.{Published, published_by, published_from, published_of}
use Rattle.si_model.specs.Consistency.{HaveNoCircle, is_overtaking}
use Rattle.si_model.specs.History.{same_stamp, stamp_of}
use Rattle.si_model.specs.Lists.{Listed, Pairwise}
use Rattle.si_model.specs.Tells.{Tell}
use Rattle.si_model.specs.declared.log.Stamp.{Stamp}
use Rattle.si_model.proofs.ListLemmas.{All-listed, listed_append_left, listed_append_right, listed_map}
use Rattle.si_law.proofs.GrowthCrowded.{length-le_from_listed}
use Rattle.nam_catalog.specs.declared.shape.Shape.{Shape}
use Rattle.nam_store.specs.Store.{Store}
use Rattle.nam_ghost.specs.Ghost.{Ghost}
use Rattle.nam_tells.specs.Teller.{Teller}
use Rattle.nam_told.specs.Commits.{commits_of}
use Rattle.nam_tells.specs.Logs.{logs_cut}
use Rattle.nam_order.specs.OrderLaw.{CircleLaw, RestsOn}
use Rattle.nam_order.proofs.FoundLemmas.{all_logs, got_listed, got_within, listed_got, place_within}
use Rattle.nam_order.proofs.GuardsLemmas.{overtakes}
use Rattle.nam_order.proofs.WinsLemmas.{found_of, was_published}

-- 1. The place of a stamp in an order

abbrev pub place_of : List Stamp → Stamp → ℕ
place_of [] stamp = 0
place_of (x ∷ xs) stamp = if same_stamp x stamp then 0 else suc (place_of xs stamp)

stamps_meet : (a b : Stamp) → same_stamp a b ≡ true → a ≡ b
stamps_meet a b is =
    let thread : a.thread ≡ b.thread = grind (arith, nat_tests) in
    let number : a.number ≡ b.number = grind (arith, nat_tests) in
    λ i. record { thread = thread i; number = number i }

same_self : (a : Stamp) → same_stamp a a ≡ true
same_self a = grind (arith, nat_tests)

-- where each stands once
place_is : (order : List Stamp) → Pairwise (λ a b. a ≢ b) order → (place : ℕ) (stamp : Stamp)
    → slice_get order place ≡ Some stamp → place_of order stamp ≡ place
place_is [] once place stamp e = absurd (none-some stamp e)
place_is (x ∷ xs) once zero stamp e =
    let same = same_Some x stamp e in
    cond_both (same_stamp x stamp) 0 (suc (place_of xs stamp)) (λ n. n ≡ 0) (λ is. refl)
    (λ other. absurd (true≢false (sym (subst (λ b. same_stamp x b ≡ true) same (same_self x)) ∙ other)))
place_is (x ∷ xs) once (suc place) stamp e =
    cond_both (same_stamp x stamp) 0 (suc (place_of xs stamp)) (λ n. n ≡ suc place)
    (λ is. absurd (All-listed (λ b. x ≢ b) xs stamp once.0 (got_listed xs place stamp e) (stamps_meet x stamp is)))
    (λ other. ap suc (place_is xs once.1 place stamp e))

-- 2. The logs list each of the commits

from_log : (i : ℕ) (tss : List (List Tell)) (n : ℕ) (c : Published) → n < length tss
    → Listed c (published_of (suc (i + n)) (slice_index_or tss n [])) → Listed c (published_from (suc i) tss)
from_log i [] n c less listed = absurd (omega arith)
from_log i (ts ∷ tss) zero c less listed =
    let same : i + 0 ≡ i = omega arith in
    listed_append_left (published_of (suc i) ts) (published_from (suc (suc i)) tss) c
    (subst (λ j. Listed c (published_of (suc j) ts)) same listed)
from_log i (ts ∷ tss) (suc n) c less listed =
    let same : i + suc n ≡ suc i + n = omega arith in
    listed_append_right (published_of (suc i) ts) (published_from (suc (suc i)) tss) c
    (from_log (suc i) tss n c (omega arith)
    (subst (λ j. Listed c (published_of (suc j) (slice_index_or tss n []))) same listed))

pub listed_commit : (tss : List (List Tell)) (nth : ℕ) (c : Published) → nth < length tss
    → Listed c (commits_of tss nth) → Listed c (published_by tss)
listed_commit tss nth c less listed =
    let same : nth ≡ 0 + nth = omega arith in
    from_log 0 tss nth c less (subst (λ j. Listed c (published_of (suc j) (slice_index_or tss nth []))) same listed)

-- 3. A store

module _ (shape : Shape) (store : Store) (tellers : ℕ → Teller) (ghost : Ghost)
    (rests : RestsOn shape store ghost tellers) where
  abbrev tss : List (List Tell)
  tss = logs_cut shape tellers store

  abbrev stamps : List Stamp
  stamps = map (λ (c : Published). stamp_of c.line) (published_by tss)

  -- each stamp of the order is that of a listed commit
  order_listed : (stamp : Stamp) → Listed stamp ghost.order → Listed stamp stamps
  order_listed stamp listed =
      let of = rests.since.comes stamp listed in
      let commit = of.0 in
      let nth = of.1.0 in
      let less = rests.since.inside nth commit of.1.1 in
      let at = listed_got (ghost.published nth) commit of.1.1 in
      let count = rests.commits.count nth less in
      let place = place_within (ghost.published nth) at.0 commit at.1 in
      let c = got_within (commits_of tss nth) at.0 (omega arith) in
      let is = rests.commits.each nth at.0 less commit c.0 at.1 c.1 in
      let long = all_logs shape store tellers rests.base.workers in
      let here = listed_commit tss nth c.0 (omega arith) (got_listed (commits_of tss nth) at.0 c.0 c.1) in
      subst (λ s. Listed s stamps) (is.stamp_is ∙ of.2)
      (listed_map (λ (d : Published). stamp_of d.line) (published_by tss) c.0 here)

  few : length ghost.order ≤ length (published_by tss)
  few =
      let most = length-le_from_listed ghost.order stamps rests.since.once order_listed in
      let long = length-map (published_by tss) (λ (c : Published). stamp_of c.line) in
      omega arith

  -- a listed commit has its place in the order
  placed : (c : Published) → Listed c (published_by tss)
      → (place : ℕ) × (slice_get ghost.order place ≡ Some (stamp_of c.line))
  placed c listed =
      let f = found_of shape store tellers ghost rests c listed in
      let stands = rests.since.listed f.commit (f.nth, was_published shape store tellers ghost rests c f) in
      listed_got ghost.order (stamp_of c.line) (subst (λ s. Listed s ghost.order) (sym f.is.stamp_is) stands)

  place_says : (c : Published) (place : ℕ) → slice_get ghost.order place ≡ Some (stamp_of c.line)
      → place_of ghost.order (stamp_of c.line) ≡ place
  place_says c place at = place_is ghost.order rests.since.once place (stamp_of c.line) at

  uncircled : HaveNoCircle is_overtaking (published_by tss)
  uncircled = record {
    place = place_of ghost.order;
    below = λ c listed.
        let at = placed c listed in
        let is = place_says c at.0 at.1 in
        let within = place_within ghost.order at.0 (stamp_of c.line) at.1 in
        let most = few in
        omega arith;
    rises = λ c d first second is.
        let f = found_of shape store tellers ghost rests c first in
        let g = found_of shape store tellers ghost rests d second in
        let before = rests.since.before f.commit g.commit
        (f.nth, was_published shape store tellers ghost rests c f)
        (g.nth, was_published shape store tellers ghost rests d g)
        (overtakes shape store tellers ghost rests c d f g is) in
        let first_is = place_says c before.0 (before.3 ∙ ap Some (sym f.is.stamp_is)) in
        let second_is = place_says d before.1 (before.4 ∙ ap Some (sym g.is.stamp_is)) in
        let less = before.2 in
        omega arith;
  }

pub circle_law : CircleLaw
circle_law = uncircled
