-- The version that a read wants, and the search of a ring for it.
use Rattle.nam_calls.specs.declared.ring.RingPoint.{RingPoint}
use Rattle.nam_calls.specs.declared.ring.RingPoint.TheVariants.{SlotAgain, SlotEnding, SlotHead, SlotWords}
use Rattle.nam_calls.specs.declared.ring.SearchEnd.{SearchEnd}
use Rattle.nam_calls.specs.declared.ring.SearchEnd.TheVariants.{Found, NotThere}
use Rattle.nam_catalog.specs.declared.form.Form.{Form}
use Rattle.nam_ghost.specs.Slots.{Keeps, Kept, Ring, home}
use Rattle.nam_ghost.specs.Versions.{Chain, HasGot, IsNth, Version, current_number}
use Rattle.nam_header.specs.Stamp.{is_deleted, stamp_in}
use Rattle.nam_header.specs.Visible.{is_visible}
use Rattle.nam_layout.specs.declared.field.Place.{Place}
use Rattle.nam_verbs.specs.declared.now.Now.{Now}
use Rattle.nam_verbs.specs.declared.now.Now.TheVariants.{At, Over}
use Rattle.std.specs.Prelude.{Bool, List, Option, Some, [], false, is_some, not, true, ℕ, ◌<◌, ◌≡◌, ◌≤◌, ◌⊎◌}

-- 1. The wanted version: the newest that the snapshot sees

-- It stays the wanted one: versions stay with their numbers, and what is installed after a snapshot was taken isn't in
-- it.
pub record Wanted (seen : List ℕ) (chain : Chain) (number : ℕ) (version : Version) : Type 0 where
  pub is : IsNth chain number version
  pub sees : is_visible version.stamp seen ≡ true
  pub newer : (n : ℕ) (newer : Version) → number < n → IsNth chain n newer → is_visible newer.stamp seen ≡ false

-- the value is the newest visible version's
pub record IsNewest (seen : List ℕ) (chain : Chain) (value : Option (List ℕ)) : Type 0 where
  pub number : ℕ
  pub version : Version
  pub wanted : Wanted seen chain number version
  pub value_is : value ≡ version.value

-- 2. A slot in test

-- The version whose header was read: what was read of it is its own, while the slot keeps it. It is an old version, or
-- the slot keeps it still; so no other copy of that number comes into the slot, and the claim stays.
pub record SlotTest (form : Form) (seen : List ℕ) (chain : Chain) (slot : Option Kept) (header : ℕ) (got : List ℕ)
    (ended : Bool) : Type 0 where
  pub number : ℕ
  pub version : Version
  pub is : IsNth chain number version
  pub stamp_is : stamp_in form header ≡ version.stamp
  pub deleted_is : is_deleted form header ≡ not (is_some version.value)
  pub sees : is_visible version.stamp seen ≡ true
  pub words : (kept : Kept) → slot ≡ Some kept → kept.number ≡ number → HasGot got version.value
  pub hidden : ended ≡ true → (kept : Kept) → slot ≡ Some kept → kept.number ≡ number
      → is_visible kept.next seen ≡ false
  pub last : (number < current_number chain) ⊎ Keeps slot number

-- 3. A search of the ring for the version of a number

-- it is in its own slot, which is this one or comes after it
abbrev pub IsAhead : Place → Ring → ℕ → ℕ → Type 0
IsAhead place ring number from =
    Keeps (ring.kept (home place number)) number × (from ≤ home place number)

-- where the slot keeps it, it is what is tested
abbrev pub IsTested : ℕ → Option Kept → ℕ → Type 0
IsTested number slot tested = (kept : Kept) → slot ≡ Some kept → kept.number ≡ number → tested ≡ number

-- It is ahead, or `Away`. Why no slot is passed wrongly: a slot that keeps the wanted version shows a visible stamp and
-- an end that isn't visible, and one that keeps another version fails one of both, since a visible version whose next
-- one isn't is the wanted one.
module _ (place : Place) (seen : List ℕ) (chain : Chain) (ring : Ring) (Away : Type 0) (number : ℕ) where
  abbrev pub TestAt : ℕ → ℕ → List ℕ → Bool → Type 0
  TestAt slot header got ended =
      (test : SlotTest place.form seen chain (ring.kept slot) header got ended)
      × ((IsAhead place ring number slot × IsTested number (ring.kept slot) test.number) ⊎ Away)

  abbrev pub RingAt : RingPoint → Type 0
  RingAt (SlotHead slot) = IsAhead place ring number slot ⊎ Away
  RingAt (SlotEnding slot header) = TestAt slot header [] false
  RingAt (SlotWords slot header got) = TestAt slot header got true
  RingAt (SlotAgain slot header value) = TestAt slot header value true

  -- what a word of the search leads to: on, or to the wanted value, or it is away
  abbrev pub RingNow : Option (List ℕ) → Now RingPoint SearchEnd → Type 0
  RingNow value (At at) = RingAt at
  RingNow value (Over (Found got)) = got ≡ value
  RingNow value (Over NotThere) = Away
