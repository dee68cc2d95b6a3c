-- Where versions come from, what is listed, and a commit that overtakes one that guards.
use Rattle.nam_ghost.proofs.CommitExample.{held_shape}
use Rattle.nam_ghost.proofs.Runs.{Calls, Seen, Turns, after_deeds, client_of, opened, stamp, turns, version}
use Rattle.nam_ghost.specs.Moments.{has_published}
use Rattle.nam_calls.specs.Memory.{memory}
use Rattle.nam_ghost.specs.Origins.{AreListed, HasOrigin, IsPublishedAs, listed_commits}
use Rattle.std.proofs.lemmas.Option.{none-some}
use Rattle.nam_ghost.specs.Publications.{Publication}
use Rattle.nam_ghost.specs.Since.{IsOvertaken, StandsBefore}
use Rattle.nam_ghost.specs.Versions.{Version}
use Rattle.nam_header.specs.Header.{flag}
use Rattle.nam_header.specs.Visible.{is_visible}
use Rattle.nam_protocol.proofs.Shown.{loaded}
use Rattle.nam_protocol.specs.Opening.{copies, load_from}
use Rattle.nam_protocol.specs.declared.client.Call.TheVariants.{Begin, Txn}
use Rattle.nam_protocol.specs.declared.txn.TxnCall.TheVariants.{Commit, Guard, Put}
use Rattle.si_model.specs.Lists.{last_of}
use Rattle.si_model.specs.declared.log.Stamp.{Stamp}
use Rattle.std.proofs.Common.{None, Some, [], ap, arith, false, inr, length, map, option_map, refl, slice_index_or}
use Rattle.std.proofs.Common.{true, ℕ, ◌+◌, ◌∷◌, ◌≡◌}

-- The second client has taken its snapshot. The first writes key 0 and guards key 1, after so many verbs of its commit.
abbrev guards : ℕ → Seen
guards verbs = after_deeds held_shape
    (opened held_shape (loaded 0 0 (5 ∷ 6 ∷ []) ∷ loaded 0 1 (1 ∷ 2 ∷ []) ∷ []))
    (Calls 1 (Begin 2 1) ∷ Turns 1 4 ∷ Calls 0 (Begin 1 1) ∷ Turns 0 4 ∷ Calls 0 (Txn (Put 0 0 (7 ∷ 8 ∷ []))) ∷
    Turns 0 1 ∷ Calls 0 (Txn (Guard 0 1)) ∷ Turns 0 6 ∷ Calls 0 (Txn Commit) ∷ Turns 0 verbs ∷ [])

-- then the second one writes the guarded key, which it had not seen
abbrev overtakes : ℕ → Seen
overtakes verbs = after_deeds held_shape (guards 30)
    (Calls 1 (Txn (Put 0 1 (9 ∷ 9 ∷ []))) ∷ Turns 1 1 ∷ Calls 1 (Txn Commit) ∷ Turns 1 verbs ∷ [])

abbrev written : Version
written = version 1 1 (Some (7 ∷ 8 ∷ [])) (0 ∷ 0 ∷ [])

-- 1. Origins: of a commit in flight, and of a published one

in_flight : HasOrigin (guards 27).ghost.published 0 written 0 (client_of (guards 27) 0)
unfolding turns copies load_from
in_flight = inr (0, omega arith, refl, refl)

abbrev commit_of : Seen → ℕ → Publication
commit_of seen nth = slice_index_or (seen.ghost.published nth) 0 no_commit
  where
    no_commit : Publication
    no_commit = record { stamp = stamp 0 0; seen = []; records = 0; locked = 0; row = λ p. 0; value = λ p. None }

of_published : IsPublishedAs (commit_of (guards 28) 0) 0 written
unfolding turns copies load_from
of_published = (0, omega arith, refl, refl)

-- two locked records, of which one is written
is_published : (commit_of (guards 28) 0).locked ≡ 2
unfolding turns copies load_from
is_published = refl

-- 2. What is listed: nothing while the guard is freed and the intent cleared, and then the commit

abbrev count_of : Seen → ℕ
count_of seen = length (listed_commits (client_of seen 0))

listed_late : map (λ verbs. count_of (guards verbs)) (27 ∷ 28 ∷ 29 ∷ 30 ∷ []) ≡ 0 ∷ 0 ∷ 0 ∷ 1 ∷ []
unfolding turns copies load_from
listed_late = refl

counted_at_each : map (λ verbs. count_of (guards verbs) + flag (has_published (client_of (guards verbs) 0).call))
    (27 ∷ 28 ∷ 29 ∷ 30 ∷ []) ≡ map (λ verbs. length ((guards verbs).ghost.published 0)) (27 ∷ 28 ∷ 29 ∷ 30 ∷ [])
unfolding turns copies load_from
counted_at_each = refl

-- published and not listed yet: the last publication is the one in flight
not_listed_yet : AreListed held_shape (memory held_shape (guards 29).store.words) (guards 29).ghost.published 0
    (client_of (guards 29) 0)
unfolding turns copies load_from
not_listed_yet = record { count = refl; each = λ k commit listed is none. absurd (none-some listed none) }

stands_last : option_map (λ (commit : Publication). commit.stamp) (last_of ((guards 29).ghost.published 0))
    ≡ Some (stamp 1 1)
unfolding turns copies load_from
stands_last = refl

listed_so : map (λ listed. listed.snap) (listed_commits (client_of (guards 30) 0)) ≡ (0 ∷ 0 ∷ []) ∷ []
unfolding turns copies load_from
listed_so = refl

-- 3. The order of publication, and the one that overtakes

order_is : (overtakes 24).ghost.order ≡ stamp 1 1 ∷ stamp 2 1 ∷ []
unfolding turns copies load_from
order_is = refl

overtaken : IsOvertaken (commit_of (overtakes 24) 0) (commit_of (overtakes 24) 1)
unfolding turns copies load_from
overtaken = (
  1,
  0,
  omega arith,
  omega arith,
  refl,
  (λ same. let e : (stamp 1 1).thread ≡ (stamp 2 1).thread = ap (λ (s : Stamp). s.thread) same in
      absurd (omega arith)),
  refl,
)

before : StandsBefore (overtakes 24).ghost.order (stamp 1 1) (stamp 2 1)
unfolding turns copies load_from
before = (0, 1, omega arith, refl, refl)

-- a snapshot taken after both contains both, and one taken between them the first alone
contains_both : map (λ s. is_visible (stamp 1 1) s) ((1 ∷ 1 ∷ []) ∷ (1 ∷ 0 ∷ []) ∷ []) ≡ true ∷ true ∷ []
contains_both = refl

contains_first : map (λ s. is_visible (stamp 2 1) s) ((1 ∷ 1 ∷ []) ∷ (1 ∷ 0 ∷ []) ∷ []) ≡ true ∷ false ∷ []
contains_first = refl
