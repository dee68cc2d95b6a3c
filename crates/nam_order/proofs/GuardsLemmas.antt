-- A commit that overtakes another stands behind it: in each snapshot, and in the order of publication.
use Rattle.std.proofs.Common.{List, ap, arith, inl, inr, length, map, not, refl, sym, true, ℕ}
use Rattle.std.proofs.Common.{◌+◌, ◌<◌, ◌∙◌, ◌≡◌}
use Rattle.std.specs.Prelude.{false, option_map, slice_get}
use Rattle.std.proofs.lemmas.Bool.{and_parts, cases_Bool, true≢false}
use Rattle.std.proofs.lemmas.Bool.Decides.{nat_tests}
use Rattle.std.proofs.lemmas.Option.{same_Some, slice_get-map}
use Rattle.si_model.specs.Arranged.{guards_write}
use Rattle.si_model.specs.Commits.{Published, published_by, snaps_by}
use Rattle.si_model.specs.Consistency.{KeepsGuards, is_overtaking}
use Rattle.si_model.specs.Evaluation.{guard_keys}
use Rattle.si_model.specs.History.{stamp_of}
use Rattle.si_model.specs.Lists.{Listed}
use Rattle.si_model.specs.Rows.{writes_key}
use Rattle.si_model.specs.Snapshots.{contains}
use Rattle.si_model.specs.declared.log.Stamp.{Stamp}
use Rattle.si_model.proofs.ListLemmas.{any_listed}
use Rattle.nam_catalog.specs.declared.shape.Shape.{Shape}
use Rattle.nam_header.specs.Visible.{is_visible}
use Rattle.nam_store.specs.Everyone.{Someone}
use Rattle.nam_store.specs.Store.{Store}
use Rattle.nam_ghost.specs.Ghost.{Ghost}
use Rattle.nam_ghost.specs.Moments.{IsCandidate, Observer, observer_of}
use Rattle.nam_ghost.specs.Since.{IsOvertaken}
use Rattle.nam_tells.specs.Teller.{Teller}
use Rattle.nam_told.specs.Commits.{commits_of}
use Rattle.nam_tells.specs.Logs.{logs_cut}
use Rattle.nam_order.specs.OrderLaw.{GuardsLaw, RestsOn}
use Rattle.nam_order.proofs.KeyLemmas.{row_once}
use Rattle.nam_order.proofs.WinsLemmas.{Found, contained_is, found_of, stamp_is, thread_is, was_published, writes_at}

-- 1. What a snapshot contains

-- a worker's stamp that a snapshot contains is one that it sees
pub sees_contained : (stamp : Stamp) (nth : ℕ) (seen : List ℕ) → stamp.thread ≡ nth + 1 → nth < length seen
    → contains seen stamp ≡ true → is_visible stamp seen ≡ true
sees_contained stamp nth seen thread less is = grind (arith, nat_tests)

-- one that it doesn't contain is one that it doesn't see
pub hidden_is : (stamp : Stamp) (nth : ℕ) (seen : List ℕ) → stamp.thread ≡ nth + 1 → contains seen stamp ≡ false
    → is_visible stamp seen ≡ false
hidden_is stamp nth seen thread out = elim (cases_Bool (is_visible stamp seen)) [
  | inl sees ↦ absurd (true≢false (sym (contained_is stamp nth seen thread sees) ∙ out))
  | inr hidden ↦ hidden
]

module _ (shape : Shape) (store : Store) (tellers : ℕ → Teller) (ghost : Ghost)
    (rests : RestsOn shape store ghost tellers) where
  abbrev IsOf : Published → Type 0
  IsOf = Found shape store tellers ghost rests

  -- 2. Commits of one stamp are one
  stamp_once : (c d : Published) (f : IsOf c) (g : IsOf d) → f.commit.stamp ≡ g.commit.stamp → c ≡ d
  stamp_once c d f g same =
      let stamps = sym (stamp_is shape store tellers ghost rests c f) ∙ f.is.stamp_is ∙ same ∙ sym g.is.stamp_is
      ∙ stamp_is shape store tellers ghost rests d g in
      let threads = ap (λ (s : Stamp). s.thread) stamps in
      let numbers = ap (λ (s : Stamp). s.number) stamps in
      let nth : f.nth ≡ g.nth = omega arith in
      let place : f.place ≡ g.place = omega arith in
      same_Some c d (sym f.here ∙ ap (λ n. slice_get (commits_of (logs_cut shape tellers store) n) f.place) nth
      ∙ ap (slice_get (commits_of (logs_cut shape tellers store) g.nth)) place ∙ g.here)

  -- 3. Overtaking
  pub overtakes : (c d : Published) (f : IsOf c) (g : IsOf d) → is_overtaking c d ≡ true
      → IsOvertaken f.commit g.commit
  overtakes c d f g is =
      let both = and_parts (guards_write c d) (not (contains c.snap (stamp_of d.line))) is in
      let one = any_listed (λ key. writes_key d.line.writes key) (guard_keys c.ops) both.0 in
      let key = one.0 in
      let guard = rests.guards f.nth f.place f.within f.commit c f.at f.here key one.1 in
      let w = writes_at shape store tellers ghost rests d g key one.2 in
      let published = was_published shape store tellers ghost rests c f in
      let within = rests.rows f.nth f.within f.commit published guard.1.0 guard.1.1.0 in
      let out : contains c.snap (stamp_of d.line) ≡ false = grind (arith, nat_tests) in
      let hidden = hidden_is (stamp_of d.line) g.nth c.snap (thread_is shape store tellers ghost rests d g) out in (
        guard.1.0,
        w.p,
        guard.1.1.0,
        w.less,
        row_once shape store.words rests.keys key (f.commit.row guard.1.0) (g.commit.row w.p) within w.within
            guard.1.1.1 w.bears,
        (λ same. true≢false (sym one.2
            ∙ ap (λ (x : Published). writes_key x.line.writes key) (sym (stamp_once c d f g same)) ∙ guard.0)),
        ap (λ (s : Stamp). is_visible s f.commit.seen) (sym g.is.stamp_is)
            ∙ ap (is_visible (stamp_of d.line)) (sym f.is.seen_is) ∙ hidden,
      )

  -- 4. Snapshots that are told
  taken_by : (snap : List ℕ) → Listed snap (snaps_by (logs_cut shape tellers store))
      → Someone (λ _ (observer : Observer). Listed snap observer.snaps) (map observer_of store.clients)
  taken_by snap listed =
      let of = rests.taken snap listed in (
        of.0,
        (
          observer_of of.1.0,
          (slice_get-map observer_of store.clients of.0 ∙ ap (option_map observer_of) of.1.1.0, of.1.1.1),
        ),
      )

  pub candidate : (snap : List ℕ) → Listed snap (snaps_by (logs_cut shape tellers store))
      → IsCandidate shape.workers (map observer_of store.clients) snap shape.workers
  candidate snap listed =
      let of = taken_by snap listed in (of.0, (of.1.0, (of.1.1.0, inr (refl, of.1.1.1))))

  pub wide : (snap : List ℕ) → Listed snap (snaps_by (logs_cut shape tellers store)) → length snap ≡ shape.workers
  wide snap listed =
      let of = taken_by snap listed in (rests.moments.each of.0 of.1.0 of.1.1.0).wide snap of.1.1.1

  guards_kept : (snap : List ℕ) → Listed snap (snaps_by (logs_cut shape tellers store))
      → KeepsGuards (published_by (logs_cut shape tellers store)) snap
  guards_kept snap listed c d first second is contains_d =
      let f = found_of shape store tellers ghost rests c first in
      let g = found_of shape store tellers ghost rests d second in
      let long = wide snap listed in
      let within = g.within in
      let sees_d = sees_contained (stamp_of d.line) g.nth snap (thread_is shape store tellers ghost rests d g)
      (omega arith) contains_d in
      let sees_c = rests.since.contained f.commit g.commit
      (f.nth, was_published shape store tellers ghost rests c f)
      (g.nth, was_published shape store tellers ghost rests d g) (overtakes c d f g is) snap shape.workers
      (candidate snap listed) (λ a from less. absurd (omega arith))
      (ap (λ (s : Stamp). is_visible s snap) (sym g.is.stamp_is) ∙ sees_d) in
      contained_is (stamp_of c.line) f.nth snap (thread_is shape store tellers ghost rests c f)
      (ap (λ (s : Stamp). is_visible s snap) f.is.stamp_is ∙ sees_c)

pub guards_law : GuardsLaw
guards_law = guards_kept
