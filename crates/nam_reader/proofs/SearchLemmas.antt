-- The search of the ring under a locked record and without one.
use Rattle.std.proofs.Common.{◌≡◌, ℕ, ◌+◌, List, refl, Option}
use Rattle.nam_verbs.specs.declared.now.Now.TheVariants.{At, Over}
use Rattle.nam_calls.specs.declared.ring.RingPoint.{RingPoint}
use Rattle.nam_calls.specs.declared.ring.SearchEnd.TheVariants.{Found}
use Rattle.nam_calls.specs.declared.reading.Sight.{Sight}
use Rattle.nam_calls.specs.declared.reading.ReadingEnd.TheVariants.{Got}
use Rattle.nam_calls.specs.Ring.{ring_verb, ring_after, ring_left}
use Rattle.nam_calls.specs.Reading.{read_verb, read_after, read_left}
use Rattle.nam_calls.specs.Fits.{ReadFits, RingFits}
use Rattle.nam_reader.specs.declared.registers.Search.{Search}
use Rattle.nam_reader.specs.declared.registers.Search.TheVariants.{Locked, Plain}
use Rattle.nam_reader.specs.Registers.{searching, on_search, after_search}

module _ (value : List ℕ) (header : ℕ) where
  -- it goes on
  pub searched_at : (search : Search) (at : RingPoint)
      → on_search search value header (At at) ≡ At (searching search value header at)
  searched_at Locked at = refl
  searched_at Plain at = refl

  -- it has found a version
  pub searched_found : (search : Search) (found : Option (List ℕ))
      → on_search search value header (Over (Found found)) ≡ Over (Got found)
  searched_found Locked found = refl
  searched_found Plain found = refl

  module _ (sight : Sight) where
    pub verb_searching : (search : Search) (at : RingPoint)
        → read_verb sight (searching search value header at) ≡ ring_verb sight.place at
    verb_searching Locked at = refl
    verb_searching Plain at = refl

    pub after_searching : (search : Search) (seen : List ℕ) (at : RingPoint) (found : ℕ)
        → read_after sight seen (searching search value header at) found
        ≡ on_search search value header (ring_after sight.place seen at found)
    after_searching Locked seen at found = refl
    after_searching Plain seen at found = refl

    pub left_searching : (search : Search) (at : RingPoint)
        → read_left sight (searching search value header at) ≡ ring_left sight.place at + after_search sight search
    left_searching Locked at = refl
    left_searching Plain at = refl

    pub fits_searching : (search : Search) (at : RingPoint) → ReadFits sight (searching search value header at)
        → RingFits sight.place at
    fits_searching Locked at fits = fits.1
    fits_searching Plain at fits = fits
