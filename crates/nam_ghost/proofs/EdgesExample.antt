-- Edges of definitions: claims that hold by their last case, and claims that just fail.
use Rattle.nam_calls.specs.Memory.{memory}
use Rattle.nam_calls.specs.declared.reading.ReadPoint.{ReadPoint}
use Rattle.nam_calls.specs.declared.reading.ReadPoint.TheVariants.{ReadHorizon}
use Rattle.nam_calls.specs.declared.reading.ReadingEnd.TheVariants.{Passed}
use Rattle.nam_calls.specs.declared.record.InstallPoint.TheVariants.{InstallCount, InstallHead, InstallWord}
use Rattle.nam_catalog.specs.declared.form.Form.TheVariants.{Narrow}
use Rattle.nam_ghost.proofs.CommitExample.{commits}
use Rattle.nam_ghost.proofs.MoveExample.{collects, first, narrow_shape, second, third, tidies}
use Rattle.nam_ghost.proofs.Runs.{Calls, Seen, Turns, after_deeds, chain, client_of, stamp, turns}
use Rattle.nam_ghost.proofs.Small.{below_1, fits_by, of_none, of_some}
use Rattle.nam_ghost.proofs.UpkeepExample.{is_stored}
use Rattle.nam_ghost.specs.Cells.{InCell, IsEnded}
use Rattle.nam_ghost.specs.Chains.{IsSeenBy, WrittenBy}
use Rattle.nam_ghost.specs.Copiers.{copier_of}
use Rattle.nam_ghost.specs.Holders.{dirty_in, holder_of, words_in}
use Rattle.nam_ghost.specs.Moments.{Observer, observer_of}
use Rattle.nam_ghost.specs.Publications.{IsInstalled, Publication, published_version}
use Rattle.nam_ghost.specs.Publications.{PublicationsOk}
use Rattle.nam_ghost.specs.Reads.{IsAheadOf, ReadEndsAs, ReadOkAt}
use Rattle.nam_ghost.specs.Slots.{KeptOk}
use Rattle.nam_ghost.specs.Versions.{Chain, IsNth, IsVersion, Version, number_by, slot_image, versions}
use Rattle.nam_ghost.specs.Wanted.{IsNewest, Wanted}
use Rattle.nam_header.specs.Visible.{is_visible}
use Rattle.nam_layout.specs.Place.{place_at}
use Rattle.nam_layout.specs.declared.field.Field.{Field}
use Rattle.nam_layout.specs.declared.field.Field.TheVariants.{SlotWord}
use Rattle.nam_protocol.specs.Opening.{copies, load_from}
use Rattle.nam_protocol.specs.declared.client.Call.TheVariants.{Txn}
use Rattle.nam_protocol.specs.declared.txn.TxnCall.TheVariants.{Get}
use Rattle.nam_verbs.specs.declared.now.Now.TheVariants.{Over}
use Rattle.si_model.specs.Lists.{Pairwise}
use Rattle.si_model.specs.Lists.{Listed}
use Rattle.std.proofs.Common.{List, None, Some, [], ap, arith, false, inl, inr, map, refl, suc, true, zero, ℕ, ◌<◌}
use Rattle.std.proofs.Common.{slice_get, subst, ◌+◌}
use Rattle.std.proofs.Common.{◌∷◌, ◌≡◌, ◌≤◌}
use Rattle.std.specs.Prelude.{slice_index}
use Rattle.std.proofs.lemmas.Bool.{false≢true}

abbrev m : Seen → Field → ℕ
m seen = memory narrow_shape seen.store.words

-- 1. A slot whose version was moved, with the flag in its header

moved_kept : KeptOk (place_at narrow_shape 0) 0 (slot_image (m (tidies 14)) 0 0) ((tidies 14).ghost.chains 0)
    (record { number = 0; version = first; next = stamp 1 1; moved = true })
unfolding turns copies load_from number_by
moved_kept = record {
  home_is = refl;
  version_is = refl;
  next_is = of_some (λ (v : Version). v.stamp ≡ stamp 1 1) second refl;
  fits = fits_by Narrow (stamp 0 0) refl refl;
  next_fits = fits_by Narrow (stamp 1 1) refl refl;
  header_is = refl;
  ending_is = refl;
  data_is = below_1 (λ nth. m (tidies 14) (SlotWord 0 0 nth) ≡ slice_index (5 ∷ []) nth) refl;
}

-- 2. The number that was found stands from its word on, and the slot counts as free once its header is found so

counts_found : map (λ verbs. (holder_of (client_of (commits verbs) 0)).counts) (8 ∷ 9 ∷ 10 ∷ 11 ∷ [])
    ≡ [] ∷ (0 ∷ []) ∷ (0 ∷ []) ∷ (0 ∷ []) ∷ []
unfolding turns copies load_from
counts_found = refl

slots_checked : map (λ verbs. (copier_of (client_of (commits verbs) 0)).checked) (8 ∷ 9 ∷ 10 ∷ 11 ∷ 12 ∷ 23 ∷ [])
    ≡ 0 ∷ 0 ∷ 1 ∷ 1 ∷ 1 ∷ 0 ∷ []
unfolding turns copies load_from
slots_checked = refl

-- a deletion writes no data word: the count stands, and nothing is dirty
deletion_written : map (dirty_in None) (InstallCount ∷ InstallHead ∷ []) ≡ false ∷ false ∷ []
deletion_written = refl

value_written : map (dirty_in (Some (7 ∷ 8 ∷ []))) (InstallWord 0 ∷ InstallWord 1 ∷ InstallCount ∷ InstallHead ∷ [])
    ≡ false ∷ true ∷ true ∷ true ∷ []
value_written = refl

words_written : map (words_in (Some (7 ∷ 8 ∷ [])) 2) (InstallWord 1 ∷ InstallCount ∷ InstallHead ∷ []) ≡ 1 ∷ 2 ∷ 2 ∷ []
words_written = refl

-- 3. A chain of two versions, the second with the first number after its snapshot's

abbrev writer : Observer
writer = observer_of (client_of (tidies 14) 0)

abbrev two : Chain
two = chain (first ∷ []) second 0 false false

two_are : (tidies 14).ghost.chains 0 ≡ two
unfolding turns copies load_from number_by
two_are = refl

snaps_are : writer.snaps ≡ (0 ∷ 0 ∷ []) ∷ []
unfolding turns copies load_from number_by
snaps_are = refl

written : WrittenBy second 0 writer
unfolding turns copies load_from number_by
written = record { thread = refl; seen = inl refl; before = omega arith }

two_in_order : Pairwise IsSeenBy (versions two)
two_in_order = ((refl, tt), (tt, tt))

-- the other way round they are in no order: the loader saw nothing
not_in_order : IsSeenBy second first → ⊥
not_in_order sees = absurd (false≢true sees)

-- 4. A publication, by its number

abbrev published_once : ℕ → List Publication
published_once = (tidies 14).ghost.published

numbers_of : map (λ commit. commit.stamp) (published_once 0) ≡ stamp 1 1 ∷ []
unfolding turns copies load_from number_by
numbers_of = refl

abbrev commit_of : Publication
commit_of = record {
  stamp = stamp 1 1;
  seen = 0 ∷ 0 ∷ [];
  records = 1;
  locked = 1;
  row = λ p. 0;
  value = λ p. Some (6 ∷ []);
}

installed : IsInstalled (λ row. two) commit_of
installed = below_1 (λ p. IsVersion two (published_version commit_of p)) (inr (inl refl))

stamped : (k : ℕ) (commit : Publication) → slice_get (commit_of ∷ []) k ≡ Some commit
    → commit.stamp ≡ record { thread = 1; number = 0 + k + 1 }
stamped zero commit is = of_some (λ (c : Publication). c.stamp ≡ stamp 1 1) commit_of refl commit is
stamped (suc k) commit is =
    of_none (λ (c : Publication). c.stamp ≡ record { thread = 1; number = 0 + suc k + 1 }) commit is

installed_each : (commit : Publication) → Listed commit (commit_of ∷ []) → IsInstalled (λ row. two) commit
installed_each commit (inl same) = subst (IsInstalled (λ row. two)) same installed
installed_each commit (inr none) = absurd none

publications_ok : PublicationsOk 0 (λ row. two) (λ nth. commit_of ∷ []) 0
    (record { number = 1; pass = None; snaps = (0 ∷ 0 ∷ []) ∷ [] })
publications_ok = record { all = refl; stamped = stamped; installed = installed_each }

-- 5. Where a version stands: its cell is this one or comes after it; its end is within the horizon where both are equal

not_after : InCell narrow_shape (tidies 13).ghost.chains (tidies 13).ghost.rings (m (tidies 13)) (tidies 13).ghost.cells
    1 0 0 → ⊥
unfolding turns copies load_from number_by
not_after (zero, least, less, stores) = absurd (omega arith)
not_after (suc zero, least, less, stores) = absurd (false≢true (ap is_stored stores))
not_after (suc (suc cell), least, less, stores) = absurd (omega arith)

just_ended : IsEnded narrow_shape (collects 13).ghost.chains (collects 13).ghost.rings (m (collects 13))
    (collects 13).ghost.cells 0 1
unfolding turns copies load_from number_by
just_ended = (omega arith, omega arith, omega arith)

apart : (tag : ℕ) → tag ≡ 2 → tag ≡ 6 → ⊥
apart tag is other = absurd (omega arith)

-- under another tag than the cell's the version in it doesn't count: it stands in no later cell, and hasn't ended
not_under : IsAheadOf narrow_shape (tidies 13).ghost.chains (tidies 13).ghost.rings (m (tidies 13))
    (tidies 13).ghost.cells (0 ∷ 0 ∷ []) 0 0 0 6 → ⊥
unfolding turns copies load_from number_by
not_under (inl (inl in_cell)) = not_after in_cell
not_under (inl (inr ended)) = let past : 1 ≤ 0 = ended.2 in absurd (omega arith)
not_under (inr (tag, stores)) = apart 2 refl tag

under : IsAheadOf narrow_shape (tidies 13).ghost.chains (tidies 13).ghost.rings (m (tidies 13))
    (tidies 13).ghost.cells (0 ∷ 0 ∷ []) 0 0 0 2
unfolding turns copies load_from number_by
under = inr (refl, refl)

-- 6. A read that is too old: both versions were collected, and the horizon has passed the snapshot

abbrev late : ℕ → Seen
late verbs = after_deeds narrow_shape (collects 13) (Calls 1 (Txn (Get 0 0)) ∷ Turns 1 verbs ∷ [])

abbrev three : Chain
three = chain (first ∷ second ∷ []) third 0 false false

hidden_after : (n : ℕ) (newer : Version) → 0 < n → IsNth three n newer
    → is_visible newer.stamp (0 ∷ 0 ∷ []) ≡ false
hidden_after zero newer less is = absurd (omega arith)
hidden_after (suc zero) newer less is =
    of_some (λ (v : Version). is_visible v.stamp (0 ∷ 0 ∷ []) ≡ false) second refl newer is
hidden_after (suc (suc zero)) newer less is =
    of_some (λ (v : Version). is_visible v.stamp (0 ∷ 0 ∷ []) ≡ false) third refl newer is
hidden_after (suc (suc (suc n))) newer less is =
    of_none (λ (v : Version). is_visible v.stamp (0 ∷ 0 ∷ []) ≡ false) newer is

wanted : Wanted (0 ∷ 0 ∷ []) three 0 first
wanted = record { is = refl; sees = refl; newer = hidden_after }

abbrev LateSo : ReadPoint → Type 0
LateSo at = ReadOkAt narrow_shape (late 5).ghost.chains (late 5).ghost.rings (m (late 5)) (late 5).ghost.cells
    (0 ∷ 0 ∷ []) 0 (place_at narrow_shape 0) at

at_horizon : LateSo (ReadHorizon 1)
unfolding turns copies load_from number_by
at_horizon = (
  0,
  first,
  (wanted, omega arith),
  ((omega arith, omega arith, omega arith), (1, omega arith, omega arith, omega arith, omega arith)),
)

too_old : ReadEndsAs narrow_shape (late 5).ghost.chains (late 5).ghost.rings (m (late 5)) (late 5).ghost.cells
    (0 ∷ 0 ∷ []) 0 (Over (Passed 1 0 2))
unfolding turns copies load_from number_by
too_old = (refl, refl, omega arith, (0, first, wanted, (omega arith, omega arith, omega arith)))

-- astray it never is, and the newest value alone ends it well
newest : IsNewest (0 ∷ 0 ∷ []) three (Some (5 ∷ []))
newest = record { number = 0; version = first; wanted = wanted; value_is = refl }
