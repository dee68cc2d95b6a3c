-- Every group's claim on one store, after moments and locks: versions, what was published, slots, cells, reads, keys,
-- origins and guards. So the whole law can be met while a commit writes over what another client reads.
use Rattle.nam_calls.specs.Fits.{HasWidth}
use Rattle.nam_calls.specs.Words.{capacity_of, key_word}
use Rattle.nam_catalog.specs.declared.form.Form.TheVariants.{Narrow}
use Rattle.nam_ghost.proofs.LawExample.{cells, chains, clients, locks_ok, m, meets, moments_ok, one, other, rings}
use Rattle.nam_ghost.proofs.LawExample.{two_clients, watcher}
use Rattle.nam_ghost.proofs.MoveExample.{first, narrow_shape}
use Rattle.nam_ghost.proofs.Runs.{chain, stamp, turns, version}
use Rattle.nam_ghost.proofs.Small.{below_1, below_2, everyone_2, everyone_of, fits_by, of_none, of_some, of_true}
use Rattle.nam_ghost.specs.Cells.{CellIs, IsElsewhere, IsHorizonBehind, OldOk}
use Rattle.nam_ghost.specs.Chains.{ChainOk, ChainsOk, IsLoaded}
use Rattle.nam_ghost.specs.Copiers.{Copier, CopierOk, IsCopy, RowRing, SlotsOk, copier_of, has_copied, is_before}
use Rattle.nam_ghost.specs.Holders.{Holds}
use Rattle.nam_ghost.specs.Keys.{AreUnused, IsUnused, KeyClientOk, KeysOk}
use Rattle.nam_ghost.specs.Law.{GroundOk, WordsOk}
use Rattle.nam_ghost.specs.Moments.{observer_of}
use Rattle.nam_ghost.specs.Origins.{AreListed, IsStanding, ListedOk, OriginsOk}
use Rattle.nam_ghost.specs.Publications.{PublicationsOk, PublishedOk}
use Rattle.nam_ghost.specs.Reads.{ReaderOk, ReadsOk}
use Rattle.nam_ghost.specs.Since.{SinceOk}
use Rattle.nam_ghost.specs.Slots.{Kept, KeptOk, SlotIs, copied_count}
use Rattle.nam_ghost.specs.Upkeep.{CellsOk, UpkeepOk, upkeep_of}
use Rattle.nam_ghost.specs.Versions.{Chain, IsNth, IsVersion, Version, cell_image, slot_image}
use Rattle.nam_ghost.specs.Wanted.{Wanted}
use Rattle.nam_header.specs.Visible.{is_visible}
use Rattle.nam_layout.specs.Place.{place_at}
use Rattle.nam_layout.specs.Rows.{width_at}
use Rattle.nam_layout.specs.declared.field.Field.TheVariants.{Entry, Horizon, Key, SlotWord}
use Rattle.nam_protocol.specs.Opening.{copies, load_from}
use Rattle.nam_protocol.specs.Reader.{reader_of}
use Rattle.nam_protocol.specs.Telling.{new_client}
use Rattle.nam_protocol.specs.declared.client.ClientState.{ClientState}
use Rattle.nam_protocol.specs.declared.txn.Record.{Record}
use Rattle.nam_store.specs.LoadedLaw.{KeysStand}
use Rattle.nam_store.specs.Base.{BaseOk}
use Rattle.nam_store.specs.Everyone.{put}
use Rattle.si_model.specs.Lists.{Listed}
use Rattle.si_model.specs.Rows.{key_at}
use Rattle.std.proofs.Common.{List, None, Some, [], arith, false, inl, inr, map, refl, subst, suc, sym, true, zero, ℕ}
use Rattle.std.proofs.Common.{◌&&◌, ◌+◌, ◌<◌, ◌==◌, ◌∙◌, ◌∷◌, ◌≡◌, ◌≤◌}
use Rattle.std.proofs.lemmas.Bool.{false≢true}
use Rattle.std.proofs.lemmas.Option.{none-some, slice_get_within}
use Rattle.std.specs.Prelude.{slice_index}

-- 1. Versions: the loader's alone

abbrev alone : Chain
alone = chain [] first 1 true false

chain_is : chains 0 ≡ alone
unfolding turns copies load_from
chain_is = refl

loaded_ok : (version : Version) → Some first ≡ Some version → IsLoaded version
loaded_ok = of_some IsLoaded first record { stamp = (refl, refl); seen = refl }

wide_ok : (version : Version) → IsVersion alone version → HasWidth 1 version.value
wide_ok version (inl same) = subst (λ (v : Version). HasWidth 1 v.value) same refl
wide_ok version (inr none) = absurd none

chain_ok : ChainOk 1 (watcher ∷ watcher ∷ []) alone
chain_ok = record {
  first = loaded_ok;
  later = λ number version is.
      let less : number + 1 < 1 = slice_get_within (first ∷ []) (number + 1) version is in absurd (omega arith);
  order = (tt, tt);
  wide = wide_ok;
}

chains_ok : ChainsOk narrow_shape meets.store chains
unfolding turns copies load_from
chains_ok = below_1 (λ row. ChainOk (width_at narrow_shape.tables row) (map observer_of clients) (chains row)) chain_ok

-- 2. Nothing was published

publications_ok : (nth : ℕ) → PublicationsOk 0 chains (λ nth. []) nth watcher
publications_ok nth = record {
  all = refl;
  stamped = λ k commit none. absurd (none-some commit none);
  installed = λ commit none. absurd none;
}

published_ok : PublishedOk narrow_shape meets.store chains meets.ghost.published
unfolding turns copies load_from
published_ok =
    everyone_2 (PublicationsOk 0 chains (λ nth. [])) watcher watcher (publications_ok 0) (publications_ok 1)

-- 3. Slots: the current version's copy is whole, and its copier has gone on to install

abbrev kept_first : Kept
kept_first = record { number = 0; version = first; next = stamp 1 1; moved = false }

ring_is : rings 0 ≡ record { kept = put (put (λ slot. None) 0 None) 0 (Some kept_first); copied = true }
unfolding turns copies load_from
ring_is = refl

kept_ok : KeptOk (place_at narrow_shape 0) 0 (slot_image m 0 0) (chains 0) kept_first
unfolding turns copies load_from
kept_ok = record {
  home_is = refl;
  version_is = refl;
  next_is = of_none (λ (v : Version). v.stamp ≡ stamp 1 1);
  fits = fits_by Narrow (stamp 0 0) refl refl;
  next_fits = fits_by Narrow (stamp 1 1) refl refl;
  header_is = refl;
  ending_is = refl;
  data_is = below_1 (λ nth. m (SlotWord 0 0 nth) ≡ slice_index (5 ∷ []) nth) refl;
}

ring_ok : RowRing narrow_shape m 0 (chains 0) (rings 0)
unfolding turns copies load_from
ring_ok = record {
  slots = below_1 (λ slot. SlotIs (place_at narrow_shape 0) slot (slot_image m 0 slot) (chains 0) ((rings 0).kept slot))
      kept_ok;
  behind = below_1 (λ slot. (kept : Kept) → (rings 0).kept slot ≡ Some kept
      → kept.number < copied_count (chains 0) (rings 0)) (of_some (λ kept. kept.number < 1) kept_first (omega arith));
  whole = λ copied. (kept_first, refl, refl);
  dirty = λ dirty. refl;
  free = λ none. absurd (omega arith);
}

copied_0 : IsCopy 0 first (stamp 1 1) (Some kept_first)
copied_0 = record { kept = kept_first; is = refl; number_is = refl; version_is = refl; next_is = refl }

abbrev copier : Copier
copier = copier_of one

copier_only : (p : ℕ) → Holds copier.holder p → p ≡ 0
unfolding turns copies load_from
copier_only p holds = let less : p < 1 = holds.ends in omega arith

flag_0 : (rings (copier.holder.row 0)).copied ≡ (has_copied copier.copying && (0 == copier.holder.from))
unfolding turns copies load_from
flag_0 =
    let a : (rings (copier.holder.row 0)).copied ≡ true = refl in
    let b : (has_copied copier.copying && (0 == copier.holder.from)) ≡ true = refl in a ∙ sym b

from_0 : copier.holder.from ≡ 0
unfolding turns copies load_from
from_0 = refl

not_before : is_before copier.copying ≡ false
unfolding turns copies load_from
not_before = refl

copier_ok : CopierOk narrow_shape m chains rings copier
unfolding turns copies load_from
copier_ok = record {
  flag_is = λ p holds. subst
      (λ q. (rings (copier.holder.row q)).copied ≡ (has_copied copier.copying && (q == copier.holder.from)))
      (sym (copier_only p holds)) flag_0;
  free = λ p holds less before. of_true (sym (sym not_before ∙ before (copier_only p holds ∙ sym from_0)));
  copies = λ holds. copied_0;
}

abbrev bystander : Copier
bystander = copier_of other

copies_none : (p : ℕ) → Holds bystander.holder p → ⊥
unfolding turns copies load_from
copies_none p holds = let less : p < 0 = holds.ends in omega arith

bystander_ok : CopierOk narrow_shape m chains rings bystander
unfolding turns copies load_from
bystander_ok = record {
  flag_is = λ p holds. absurd (copies_none p holds);
  free = λ p holds less before. absurd (copies_none p holds);
  copies = λ holds. tt;
}

slots_ok : SlotsOk narrow_shape meets.store chains rings
slots_ok = record {
  rows = below_1 (λ row. RowRing narrow_shape m row (chains row) (rings row)) ring_ok;
  copiers = everyone_of (λ nth client. CopierOk narrow_shape m chains rings (copier_of client)) (new_client 0 0) clients
      two_clients copier_ok bystander_ok;
}

-- 4. Cells: both are free, and there is no old version yet

cell_ok : (cell : ℕ) → cell < 2 → CellIs narrow_shape chains rings 0 (cell_image m 0 cell) (cells 0 cell)
unfolding turns copies load_from
cell_ok = below_2 (λ cell. CellIs narrow_shape chains rings 0 (cell_image m 0 cell) (cells 0 cell)) refl refl

old_ok : OldOk (place_at narrow_shape 0) (IsElsewhere narrow_shape chains rings m cells 0) (chains 0) (rings 0)
unfolding turns copies load_from
old_ok = record {
  old = λ number less. absurd (omega arith);
  gone = below_1 (λ slot. (kept : Kept) → (rings 0).kept slot ≡ Some kept → kept.moved ≡ true
      → IsElsewhere narrow_shape chains rings m cells 0 kept.number)
      (of_some (λ kept. kept.moved ≡ true → IsElsewhere narrow_shape chains rings m cells 0 kept.number) kept_first
      (λ moved. of_true (sym moved)));
}

behind_ok : IsHorizonBehind narrow_shape m
unfolding turns copies load_from
behind_ok = below_2 (λ a. m (Horizon (a + 1)) ≤ m (Entry (a + 1))) (omega arith) (omega arith)

abbrev UpkeepIs : ℕ → ClientState → Type 0
UpkeepIs nth client = UpkeepOk narrow_shape chains rings m cells nth (upkeep_of narrow_shape client)

upkeep_one : UpkeepIs 0 one
unfolding turns copies load_from
upkeep_one = tt

upkeep_other : UpkeepIs 1 other
unfolding turns copies load_from
upkeep_other = tt

cells_ok : CellsOk narrow_shape meets.store chains rings cells
cells_ok = record {
  are = λ bucket cell is. below_1 (λ bucket. CellIs narrow_shape chains rings bucket (cell_image m bucket cell)
      (cells bucket cell)) (cell_ok cell is.1) bucket is.0;
  old = below_1 (λ row. OldOk (place_at narrow_shape row) (IsElsewhere narrow_shape chains rings m cells row)
      (chains row) (rings row)) old_ok;
  behind = behind_ok;
  upkeep = everyone_of UpkeepIs (new_client 0 0) clients two_clients upkeep_one upkeep_other;
}

-- 5. Reads: the second client has read the header; the data are no longer the version's, and it doesn't rely on them

wanted : Wanted (0 ∷ 0 ∷ []) (chains 0) 0 first
unfolding turns copies load_from
wanted = record { is = refl; sees = refl; newer = newer_none }
  where
    newer_none : (n : ℕ) (newer : Version) → 0 < n → IsNth alone n newer → is_visible newer.stamp (0 ∷ 0 ∷ []) ≡ false
    newer_none zero newer less is = absurd (omega arith)
    newer_none (suc n) newer less is = of_none (λ (v : Version). is_visible v.stamp (0 ∷ 0 ∷ []) ≡ false) newer is

abbrev ReadsSo : ℕ → ClientState → Type 0
ReadsSo nth client = ReaderOk narrow_shape chains rings m cells (reader_of narrow_shape client)

reads_one : ReadsSo 0 one
unfolding turns copies load_from
reads_one = tt

reads_other : ReadsSo 1 other
unfolding turns copies load_from
reads_other = (0, first, record { wanted = wanted; stamp_is = refl; some = refl }, (λ current clean. of_true clean))

reads_ok : ReadsOk narrow_shape meets.store chains rings cells
reads_ok = everyone_of ReadsSo (new_client 0 0) clients two_clients reads_one reads_other

-- 6. Keys: the one position bears key 0, which both have found

key_0 : m (Key 0) ≡ 1
unfolding turns copies load_from
key_0 = refl

paths_ok : KeysStand narrow_shape meets.store.words
paths_ok t key passed is less bears q before = absurd (below_1 (λ t. passed < capacity_of narrow_shape t → ⊥)
    (λ few. absurd (omega arith)) t is less)

unused_ok : AreUnused narrow_shape m chains
unfolding turns copies load_from
unused_ok = below_1 (λ row. m (Key row) ≡ 0 → IsUnused (chains row)) (λ none. absurd (omega arith))

abbrev KeysSo : ℕ → ClientState → Type 0
KeysSo nth client = KeyClientOk narrow_shape m client

abbrev claimed : List Record
claimed = record { key = key_at 0 0; place = place_at narrow_shape 0 } ∷ []

keys_one : KeysSo 0 one
unfolding turns copies load_from
keys_one = record { at = tt; claims = claims_of; scanned = tt }
  where
    claims_of : (claim : Record) → Listed claim claimed → m (Key claim.place.row) ≡ key_word claim.key.key
    claims_of claim (inl same) = subst (λ (c : Record). m (Key c.place.row) ≡ key_word c.key.key) same refl
    claims_of claim (inr none) = absurd none

keys_other : KeysSo 1 other
unfolding turns copies load_from
keys_other = record { at = refl; claims = λ claim none. absurd none; scanned = tt }

keys_ok : KeysOk narrow_shape meets.store chains
keys_ok = record {
  paths = paths_ok;
  unused = unused_ok;
  clients = everyone_of KeysSo (new_client 0 0) clients two_clients keys_one keys_other;
}

-- 7. Origins and guards: nothing was published, and no version is newer than the loader's

no_later : (row : ℕ) → row < 1 → (number : ℕ) (version : Version) → IsNth (chains row) (number + 1) version → ⊥
unfolding turns copies load_from
no_later = below_1 (λ row. (number : ℕ) (version : Version) → IsNth (chains row) (number + 1) version → ⊥)
    (λ number version is. let less : number + 1 < 1 = slice_get_within (first ∷ []) (number + 1) version is in
    absurd (omega arith))

abbrev ListedSo : ℕ → ClientState → Type 0
ListedSo nth client = AreListed narrow_shape m meets.ghost.published nth client

listed_one : ListedSo 0 one
unfolding turns copies load_from
listed_one = record { count = refl; each = λ k commit listed none is. absurd (none-some commit none) }

listed_other : ListedSo 1 other
unfolding turns copies load_from
listed_other = record { count = refl; each = λ k commit listed none is. absurd (none-some commit none) }

abbrev StandsSo : ℕ → ClientState → Type 0
StandsSo nth client = IsStanding meets.ghost.published nth client

stands_one : StandsSo 0 one
unfolding turns copies load_from
stands_one = λ attempt none opened. absurd (false≢true none)

stands_other : StandsSo 1 other
unfolding turns copies load_from
stands_other = λ attempt none opened. absurd (false≢true none)

origins_ok : OriginsOk narrow_shape meets.store chains meets.ghost.published
origins_ok = record {
  versions_are = λ row is number version newer. absurd (no_later row is number version newer);
  standing = everyone_of StandsSo (new_client 0 0) clients two_clients stands_one stands_other;
}

listed_ok : ListedOk narrow_shape meets.store meets.ghost.published
listed_ok = everyone_of ListedSo (new_client 0 0) clients two_clients listed_one listed_other

since_ok : SinceOk narrow_shape meets.store meets.ghost.published meets.ghost.order
unfolding turns copies load_from
since_ok = record {
  inside = λ nth commit none. absurd none;
  listed = λ commit published. absurd published.1;
  comes = λ stamp none. absurd none;
  once = tt;
  before = λ first second published later overtaken. absurd published.1;
  contained = λ first second published later overtaken s confirmed candidate unpassed sees. absurd published.1;
}

-- 8. All of it, beside what holds of every store

ground_ok : BaseOk narrow_shape meets.store → GroundOk narrow_shape meets.store meets.ghost
ground_ok base = record {
  base = base;
  moments = moments_ok;
  locks = locks_ok;
  chains = chains_ok;
  published = published_ok;
  slots = slots_ok;
  cells = cells_ok;
  keys = keys_ok;
  origins = origins_ok;
  since = since_ok;
}

words_ok : BaseOk narrow_shape meets.store → WordsOk narrow_shape meets.store meets.ghost
words_ok base = record { ground = ground_ok base; reads = reads_ok; listed = listed_ok }
