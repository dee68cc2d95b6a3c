-- Under a step of one client the holders' moves stay, and so does what is said of each cell.
use Rattle.std.proofs.Common.{List, Some, ap, arith, false, inl, inr, length, refl, slice_get, subst}
use Rattle.std.proofs.Common.{sym, true, ℕ, ⊎_elim, ◌*◌, ◌+◌, ◌/◌, ◌<◌, ◌∙◌, ◌≡◌, ◌≢◌, ◌≤◌, ◌⊎◌, ◌^◌, ◌-◌}
use Rattle.std.specs.Prelude.{Bool, if◌then◌else◌}
use Rattle.std.proofs.lemmas.Bool.{cases_order}
use Rattle.std.proofs.lemmas.Bool.Decides.{nat_tests}
use Rattle.std.proofs.lemmas.List.{length_push}
use Rattle.std.proofs.lemmas.Option.{same_Some}
use Rattle.nam_catalog.specs.declared.shape.Shape.{Shape}
use Rattle.nam_filled.specs.Filled.{HeldOf, IsUsedUp}
use Rattle.nam_filled.specs.Filled.{OthersCollected, Scene, claims_of}
use Rattle.nam_filled.specs.Holders.{Mover, mover_of}
use Rattle.nam_filled.specs.Moves.{HasCollected, Move, MovesAt}
use Rattle.nam_filled.specs.Turn.{CellGoes, Claims, Fills, Frees, GivesBack, Keeps, Sticks, Turn}
use Rattle.nam_ghost.specs.Keys.{Bears, KeysNext}
use Rattle.nam_header.specs.Tag.{freed, generation_of, has_next}
use Rattle.nam_layout.specs.Address.{IsRow}
use Rattle.nam_layout.specs.Rows.{row_of}
use Rattle.nam_layout.specs.declared.field.Field.TheVariants.{Tag}
use Rattle.nam_layout.specs.declared.field.Field.{Field}
use Rattle.nam_protocol.specs.declared.client.ClientState.{ClientState}
use Rattle.nam_store.proofs.Lists.{get_beside, get_set}

pub freed_next : (tag : ℕ) → has_next tag ≡ true → freed tag ≡ (generation_of tag + 1) * 4
freed_next tag e = ap (λ (b : Bool). if b then (generation_of tag + 1) * 4 else tag) e

pub freed_last : (tag : ℕ) → has_next tag ≡ false → freed tag ≡ tag
freed_last tag e = ap (λ (b : Bool). if b then (generation_of tag + 1) * 4 else tag) e

-- the last tag counts as many claims as there are
pub last_counts : (tag count : ℕ) → has_next tag ≡ false → count ≡ claims_of tag → 2 ^ 62 - 1 ≤ count
last_counts tag count none counts =
    let least : 2 ^ 62 - 1 ≤ tag / 4 = grind (arith, nat_tests) in omega arith

apart_of : (a b : ℕ) → (a < b) ⊎ (b < a) → a ≢ b
apart_of a b order same = ⊎_elim (λ (less : a < b). absurd (omega arith)) (λ (less : b < a). absurd (omega arith)) order

-- what is done where two numbers are one, or not
pub by_order : {A : Type 0} (a b : ℕ) → (a ≡ b → A) → (a ≢ b → A) → A
by_order a b same apart = ⊎_elim same (λ order. apart (apart_of a b order)) (cases_order a b)

-- a key that stands at a row stands there still
pub key_stays : (shape : Shape) (m now : Field → ℕ) → KeysNext shape m now → (table key position row : ℕ)
    → row_of shape.tables table position ≡ row → IsRow shape row → Bears shape m table key position
    → Bears shape now table key position
key_stays shape m now keys table key position row same is bears =
    keys (row_of shape.tables table position) (subst (IsRow shape) (sym same) is)
    (λ zero. let word = bears in absurd (omega arith)) ∙ bears

module _ (shape : Shape) (s t : Scene) (nth : ℕ) (client later : ClientState)
    (turn : Turn shape s t nth client later) where
  -- 1. Clients

  pub record Follows (j : ℕ) (c : ClientState) : Type 0 where
    pub next : ClientState
    pub there : slice_get t.clients j ≡ Some next
    pub moves : (place : ℕ) (move : Move) → MovesAt shape c place move → MovesAt shape next place move
    pub collected : HasCollected c → HasCollected next
    pub which : ((j ≡ nth) × (c ≡ client) × (next ≡ later)) ⊎ ((j ≢ nth) × (next ≡ c))

  pub at_own : slice_get t.clients nth ≡ Some later
  at_own = ap (λ (cs : List ClientState). slice_get cs nth) turn.clients ∙ get_set s.clients nth client later turn.here

  pub follow : (j : ℕ) (c : ClientState) → slice_get s.clients j ≡ Some c → Follows j c
  follow j c here =
      by_order j nth
      (λ same.
      let is : c ≡ client = same_Some c client (sym here ∙ ap (slice_get s.clients) same ∙ turn.here) in
      record {
        next = later;
        there = ap (slice_get t.clients) same ∙ at_own;
        moves = λ place move.
            subst (λ (x : ClientState). MovesAt shape x place move → MovesAt shape later place move) (sym is)
            (turn.log.moves place move);
        collected = subst (λ (x : ClientState). HasCollected x → HasCollected later) (sym is) turn.log.collected;
        which = inl (same, is, refl);
      })
      (λ apart. record {
        next = c;
        there = ap (λ (cs : List ClientState). slice_get cs j) turn.clients
            ∙ get_beside s.clients nth j later apart ∙ here;
        moves = λ place move o. o;
        collected = λ has. has;
        which = inr (apart, refl);
      })

  pub others_stay : (j : ℕ) → OthersCollected shape s j → OthersCollected shape t j
  others_stay j (other, (c, (here, (apart, has)))) =
      let f = follow other c here in (other, (f.next, (f.there, (apart, f.collected has))))

  pub others_own : (j : ℕ) → j ≢ nth → HasCollected later → OthersCollected shape t j
  others_own j apart has = (nth, (later, (at_own, ((λ e. apart (sym e)), has))))

  -- 2. A holder's move

  abbrev pub held_stays : (bucket : ℕ) (mover : Mover) (row number : ℕ) → HeldOf shape s bucket mover row number
      → HeldOf shape t bucket mover row number
  held_stays bucket mover row number h = let f = follow h.nth h.client h.here in record {
    nth = h.nth;
    worker_is = h.worker_is;
    client = f.next;
    here = f.there;
    move = h.move;
    moves = f.moves mover.place h.move h.moves;
    bucket_is = h.bucket_is;
    of_table = h.of_table;
    position = h.position;
    short = h.short;
    row_is = h.row_is;
    inside = h.inside;
    within = h.within;
    bears = key_stays shape s.m t.m turn.frame.keys h.move.table h.move.key h.position row h.row_is h.inside h.bears;
    version = h.version;
    version_is = turn.frame.numbers row number h.version h.inside h.version_is;
    stamp_is = h.stamp_is;
  }

  -- 3. Tags and counts

  module _ (bucket cell : ℕ) where
    abbrev Goes : Type 0
    Goes = CellGoes shape s t nth client later bucket cell

    abbrev was : List Mover
    was = s.holders bucket cell

    abbrev are : List Mover
    are = t.holders bucket cell

    pub longer : Goes → length was ≤ length are
    longer (Keeps tag same holders fills) = let e = ap length holders in omega arith
    longer (Claims free tag claimed holders fills) =
        let e = ap length holders ∙ length_push was (mover_of nth client) in omega arith
    longer (Fills row number writes own tag stored holders by_move) = let e = ap length holders in omega arith
    longer (GivesBack writes next tag free holders) = let e = ap length holders in omega arith
    longer (Sticks writes none tag own holders) = let e = ap length holders in omega arith
    longer (Frees was_full next tag free holders collects) = let e = ap length holders in omega arith

    pub used_stays : Goes → IsUsedUp shape s bucket cell → IsUsedUp shape t bucket cell
    used_stays goes used = let up = longer goes in omega arith

    abbrev old_tag : ℕ
    old_tag = s.m (Tag bucket cell)

    pub counts_stay : Goes → length was ≡ claims_of (s.m (Tag bucket cell))
        → length are ≡ claims_of (t.m (Tag bucket cell))
    counts_stay (Keeps tag same holders fills) counts = let e = ap length holders in omega arith
    counts_stay (Claims free tag claimed holders fills) counts =
        let e = ap length holders ∙ length_push was (mover_of nth client) in omega arith
    counts_stay (Fills row number writes own tag stored holders by_move) counts =
        let e = ap length holders in omega arith
    counts_stay (GivesBack writes next tag free holders) counts =
        let e = ap length holders in let f = tag ∙ freed_next old_tag next in omega arith
    counts_stay (Sticks writes none tag own holders) counts = let e = ap length holders in omega arith
    counts_stay (Frees was_full next tag free holders collects) counts =
        let e = ap length holders in let f = tag ∙ freed_next old_tag next in omega arith
