-- Of two commits that write one key one is in the other's snapshot: their versions stand in one chain.
use Rattle.std.proofs.Common.{List, Some, ap, arith, inl, inr, map, subst, sym, true, ℕ}
use Rattle.std.proofs.Common.{◌+◌, ◌<◌, ◌∙◌, ◌≡◌, ◌≢◌, ◌⊎◌, ⊎_elim}
use Rattle.std.specs.Prelude.{slice_get}
use Rattle.std.proofs.lemmas.Bool.{cases_lt}
use Rattle.std.proofs.lemmas.Bool.Decides.{nat_tests}
use Rattle.std.proofs.lemmas.List.{length-map}
use Rattle.std.proofs.lemmas.Option.{same_Some}
use Rattle.si_model.specs.Commits.{Published, published_by}
use Rattle.si_model.specs.History.{stamp_of}
use Rattle.si_model.specs.Lists.{Listed}
use Rattle.si_model.specs.Rows.{writes_key}
use Rattle.si_model.specs.Snapshots.{contains}
use Rattle.si_model.specs.declared.log.Stamp.{Stamp}
use Rattle.si_model.specs.declared.row.Key.{Key}
use Rattle.nam_catalog.specs.declared.shape.Shape.{Shape}
use Rattle.nam_layout.specs.Address.{IsRow}
use Rattle.nam_layout.specs.declared.field.Field.{Field}
use Rattle.nam_header.specs.Visible.{is_visible}
use Rattle.nam_calls.specs.Memory.{memory}
use Rattle.nam_calls.specs.Words.{key_word}
use Rattle.nam_store.specs.Store.{Store}
use Rattle.nam_ghost.specs.Chains.{ChainOk, IsSeenBy}
use Rattle.nam_ghost.specs.Ghost.{Ghost}
use Rattle.nam_ghost.specs.Moments.{Observer, observer_of}
use Rattle.nam_ghost.specs.Publications.{Publication, PublicationsOk, published_version}
use Rattle.nam_ghost.specs.Versions.{Chain, IsVersion, Version, versions}
use Rattle.nam_ghost.proofs.ChainLemmas.{pairs_got}
use Rattle.nam_tells.specs.Teller.{Teller}
use Rattle.nam_tells.specs.Logs.{logs_cut}
use Rattle.nam_order.specs.OrderLaw.{RestsOn, RowBears, WinsLaw}
use Rattle.nam_order.proofs.FoundLemmas.{IsFound, all_logs, found, got_listed, got_within, listed_got, place_within}
use Rattle.nam_order.proofs.KeyLemmas.{item_of, key_shared, row_once}

-- 1. A stamp of a worker that a snapshot sees is one that it contains

pub contained_is : (stamp : Stamp) (nth : ℕ) (seen : List ℕ) → stamp.thread ≡ nth + 1 → is_visible stamp seen ≡ true
    → contains seen stamp ≡ true
contained_is stamp nth seen thread sees = grind (arith, nat_tests)

-- so where the stamp and the snapshot are a publication's
pub contained_as : (c d : Published) (first second : Publication) (nth : ℕ) → stamp_of c.line ≡ first.stamp
    → d.snap ≡ second.seen → (stamp_of c.line).thread ≡ nth + 1 → is_visible first.stamp second.seen ≡ true
    → contains d.snap (stamp_of c.line) ≡ true
contained_as c d first second nth stamp seen thread sees =
    contained_is (stamp_of c.line) nth d.snap thread
    (ap (λ (s : Stamp). is_visible s d.snap) stamp ∙ ap (is_visible first.stamp) seen ∙ sees)

-- 2. Versions of one chain

-- of two versions with other stamps one is in the other's snapshot
pub one_seen : (width : ℕ) (observers : List Observer) (chain : Chain) → ChainOk width observers chain → (a b : Version)
    → IsVersion chain a → IsVersion chain b → a.stamp ≢ b.stamp
    → (is_visible a.stamp b.seen ≡ true) ⊎ (is_visible b.stamp a.seen ≡ true)
one_seen width observers chain ok a b first second apart =
    let p = listed_got (versions chain) a first in
    let q = listed_got (versions chain) b second in
    elim (cases_lt p.0 q.0) [
      | inl less ↦ inl (pairs_got IsSeenBy (versions chain) p.0 q.0 a b ok.order less p.1 q.1)
      | inr least ↦ elim (cases_lt q.0 p.0) [
        | inl less ↦ inr (pairs_got IsSeenBy (versions chain) q.0 p.0 b a ok.order less q.1 p.1)
        | inr most ↦
            let same : p.0 ≡ q.0 = omega arith in
            absurd (apart (ap (λ (v : Version). v.stamp)
            (same_Some a b (sym p.1 ∙ ap (slice_get (versions chain)) same ∙ q.1))))
      ]
    ]

-- 3. Two commits

module _ (shape : Shape) (store : Store) (tellers : ℕ → Teller) (ghost : Ghost)
    (rests : RestsOn shape store ghost tellers) where
  abbrev m : Field → ℕ
  m = memory shape store.words

  abbrev pub Found : Published → Type 0
  Found = IsFound shape m ghost.published (logs_cut shape tellers store)

  pub found_of : (c : Published) → Listed c (published_by (logs_cut shape tellers store)) → Found c
  found_of =
      found shape m ghost.published (logs_cut shape tellers store)
      (all_logs shape store tellers rests.base.workers) rests.commits

  -- its client, as an observer and as a publisher
  pub publishes : (nth : ℕ) → nth < shape.workers
      → (observer : Observer)
      × ((slice_get (map observer_of store.clients) nth ≡ Some observer)
      × PublicationsOk shape.start ghost.chains ghost.published nth observer)
  publishes nth less =
      let workers = rests.base.workers in
      let long = length-map store.clients observer_of in
      let at = got_within (map observer_of store.clients) nth (omega arith) in
      (at.0, (at.1, rests.published nth at.0 at.1))

  module _ (c : Published) (is : Found c) where
    pub stamp_is : stamp_of c.line ≡ record { thread = is.nth + 1; number = shape.start + is.place + 1 }
    stamp_is = is.is.stamp_is ∙ (publishes is.nth is.within).1.1.stamped is.place is.commit is.at

    pub thread_is : (stamp_of c.line).thread ≡ is.nth + 1
    thread_is = ap (λ (s : Stamp). s.thread) stamp_is

    pub was_published : Listed is.commit (ghost.published is.nth)
    was_published = got_listed (ghost.published is.nth) is.place is.commit is.at

    -- it has written the key at one of its rows, and its version stands there
    pub record WritesAt (key : Key) : Type 0 where
      pub p : ℕ
      pub less : p < is.commit.records
      pub within : IsRow shape (is.commit.row p)
      pub bears : RowBears shape m (is.commit.row p) key
      pub stands : IsVersion (ghost.chains (is.commit.row p)) (published_version is.commit p)

    pub writes_at : (key : Key) → writes_key c.line.writes key ≡ true → WritesAt key
    writes_at key writes =
        let at = item_of c.line.writes key writes in
        let few = rests.few is.nth is.within is.commit was_published in
        let place = place_within c.line.writes at.0 at.1.0 at.1.1.0 in
        let count = is.is.writes_are in
        let less : at.0 < is.commit.records = omega arith in
        let each = is.is.each at.0 at.1.0 at.1.1.0 in
        record {
          p = at.0;
          less = less;
          within = rests.rows is.nth is.within is.commit was_published at.0 (omega arith);
          bears = (
            each.0 ∙ ap (λ (k : Key). k.table) at.1.1.1,
            each.1 ∙ ap (λ (k : Key). key_word k.key) at.1.1.1,
          );
          stands = (publishes is.nth is.within).1.1.installed is.commit was_published at.0 less;
        }

pub wins_law : WinsLaw
wins_law shape store tellers ghost rests c d first second apart shares =
    let f = found_of shape store tellers ghost rests c first in
    let g = found_of shape store tellers ghost rests d second in
    let key = key_shared c d shares in
    let a = writes_at shape store tellers ghost rests c f key.0 key.1.0 in
    let b = writes_at shape store tellers ghost rests d g key.0 key.1.1 in
    let row = row_once shape store.words rests.keys key.0 (f.commit.row a.p) (g.commit.row b.p) a.within b.within
    a.bears b.bears in
    let stands = subst (λ r. IsVersion (ghost.chains r) (published_version f.commit a.p)) row a.stands in
    ⊎_elim
    (λ is. inl (contained_as c d f.commit g.commit f.nth f.is.stamp_is g.is.seen_is
    (thread_is shape store tellers ghost rests c f) is))
    (λ is. inr (contained_as d c g.commit f.commit g.nth g.is.stamp_is f.is.seen_is
    (thread_is shape store tellers ghost rests d g) is))
    (one_seen _ _ (ghost.chains (g.commit.row b.p)) (rests.chains (g.commit.row b.p) b.within)
    (published_version f.commit a.p) (published_version g.commit b.p) stands b.stands
    (λ e. apart (f.is.stamp_is ∙ e ∙ sym g.is.stamp_is)))
