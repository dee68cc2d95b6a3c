-- What snapshots that were taken see, in each store that comes about and along any steps; and that each is of one
-- moment.
use Rattle.std.proofs.Common.{List, ℕ}
use Rattle.nam_catalog.specs.declared.shape.Shape.{Shape}
use Rattle.nam_ghost.specs.Commits.{CommitsOk}
use Rattle.nam_ghost.specs.Ghost.{Ghost, ghost_step, opening_ghost}
use Rattle.nam_ghost.specs.Moments.{IsTaken}
use Rattle.nam_ghost.specs.Versions.{Version}
use Rattle.nam_law.proofs.GroundLemmas.{commits, moments_go}
use Rattle.nam_law.proofs.LawLemmas.{law_keep, law_opens, words_hold}
use Rattle.nam_law.specs.SnapshotsLaw.{AllLaw, Begins, ComesAfter, ContainsLaw, FrontLaw, Goes, InstalledLaw, MomentLaw}
use Rattle.nam_law.specs.SnapshotsLaw.{OfEach, OnceLaw, PastLaw, StampsLaw, StaysLaw, SumLaw, WholeLaw}
use Rattle.nam_law.specs.WordsLaw.{LawOk}
use Rattle.nam_layout.specs.Address.{IsRow}
use Rattle.nam_past.proofs.OpeningLemmas.{past_open}
use Rattle.nam_past.proofs.StepLemmas.{past_keep}
use Rattle.nam_past.specs.Past.{PastOk}
use Rattle.nam_past.specs.PastLaw.{RestsOn}
use Rattle.nam_store.proofs.ReachedLemmas.{reached_keeps}
use Rattle.nam_store.specs.Store.{Store}
use Rattle.nam_versions.proofs.SeenLemmas.{chains_once, published_installed, published_once, seen_front, seen_same}
use Rattle.nam_versions.proofs.SeenLemmas.{seen_whole}
use Rattle.nam_versions.specs.SeenLaw.{Sees}
use Rattle.nam_past.proofs.PrefixLemmas as past

-- 1. What versions, publications and guards rest on

commits_reached : OfEach CommitsOk
commits_reached shape limits rows loaded store ghost reached =
    commits shape store ghost (words_hold shape limits rows loaded store ghost reached).ground

pub stamps_law : StampsLaw
stamps_law shape limits rows loaded store ghost reached =
    chains_once shape store ghost (commits_reached shape limits rows loaded store ghost reached).chains

pub once_law : OnceLaw
once_law shape limits rows loaded store ghost reached =
    published_once shape store ghost (commits_reached shape limits rows loaded store ghost reached)

pub installed_law : InstalledLaw
installed_law shape limits rows loaded store ghost reached =
    published_installed shape store ghost (commits_reached shape limits rows loaded store ghost reached)

pub front_law : FrontLaw
front_law shape limits rows loaded store ghost reached =
    seen_front shape store ghost (commits_reached shape limits rows loaded store ghost reached)

pub whole_law : WholeLaw
whole_law shape limits rows loaded store ghost reached =
    seen_whole shape store ghost (commits_reached shape limits rows loaded store ghost reached)

-- 2. It sees the same along any steps

module _ (shape : Shape) (store : Store) (ghost : Ghost) (ok : LawOk shape store ghost) (row : ℕ) (is : IsRow shape row)
    (s : List ℕ) (taken : IsTaken store s) where
  record SeesSame (after : Store) (later : Ghost) : Type 0 where
    holds : LawOk shape after later
    taken_still : IsTaken after s
    same : (number : ℕ) (version : Version)
        → (Sees s (ghost.chains row) number version → Sees s (later.chains row) number version)
        × (Sees s (later.chains row) number version → Sees s (ghost.chains row) number version)

  along : (after : Store) (later : Ghost) → ComesAfter shape store ghost after later → SeesSame after later
  along _ _ Begins =
      record { holds = ok; taken_still = taken; same = λ number version. (λ sees. sees, λ sees. sees) }
  along _ _ (Goes before after known comes goes) =
      let was = along before known comes in
      let ground = was.holds.words.ground in
      let step = seen_same shape before after goes known (commits shape before known ground)
      (moments_go shape before after goes known ground) row is s was.taken_still in
      record {
        holds = law_keep shape before after goes known was.holds;
        taken_still = step.0;
        same = λ number version. (
          λ sees. (step.1 number version).0 ((was.same number version).0 sees),
          λ sees. (was.same number version).1 ((step.1 number version).1 sees),
        );
      }

pub stays_law : StaysLaw
stays_law shape store ghost ok row is s taken after later comes =
    (along shape store ghost ok row is s taken after later comes).same

-- 3. Its moment

record HasPast (shape : Shape) (store : Store) (ghost : Ghost) : Type 0 where
  law : LawOk shape store ghost
  past : PastOk shape store ghost.order

-- what moments rest on
rests : (shape : Shape) (store : Store) (ghost : Ghost) → LawOk shape store ghost → RestsOn shape store
rests shape store ghost ok = record { base = ok.words.ground.base; moments = ok.words.ground.moments }

past_reached : OfEach HasPast
past_reached shape limits rows loaded =
    reached_keeps shape rows (opening_ghost shape rows) (ghost_step shape) (HasPast shape)
    record { law = law_opens shape limits rows loaded; past = past_open shape limits rows loaded }
    (λ before after ghost goes has. record {
      law = law_keep shape before after goes ghost has.law;
      past = past_keep shape before after goes ghost (rests shape before ghost has.law)
          (moments_go shape before after goes ghost has.law.words.ground) has.past;
    })

pub past_law : PastLaw
past_law shape limits rows loaded store ghost reached =
    (past_reached shape limits rows loaded store ghost reached).past

pub moment_law : MomentLaw
moment_law shape limits rows loaded store ghost reached =
    let has = past_reached shape limits rows loaded store ghost reached in
    past.moment_law shape store ghost.order (rests shape store ghost has.law) has.past

pub contains_law : ContainsLaw
contains_law shape limits rows loaded store ghost reached =
    let has = past_reached shape limits rows loaded store ghost reached in
    past.contains_law shape store ghost.order (rests shape store ghost has.law) has.past

pub all_law : AllLaw
all_law shape limits rows loaded store ghost reached =
    let has = past_reached shape limits rows loaded store ghost reached in
    past.all_law shape store ghost.order (rests shape store ghost has.law) has.past

pub sum_law : SumLaw
sum_law shape limits rows loaded store ghost reached =
    let has = past_reached shape limits rows loaded store ghost reached in
    past.sum_law shape store ghost.order (rests shape store ghost has.law) has.past
