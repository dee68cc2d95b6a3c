-- Steps by what they make of words, cells and holders.
use Rattle.std.proofs.Common.{Option, Some, ap, arith, inr, length, slice_get}
use Rattle.std.proofs.Common.{subst, ℕ, ⊎_elim, ◌+◌, ◌<◌, ◌≡◌, ◌⊎◌}
use Rattle.std.specs.Prelude.{slice_set}
use Rattle.nam_catalog.specs.declared.shape.Shape.{Shape}
use Rattle.nam_filled.proofs.LogLemmas.{IsCalm, calm_log, work_log}
use Rattle.nam_filled.specs.Filled.{NowOk, Scene}
use Rattle.nam_filled.specs.Moves.{FillsIn, HasCollected, IsCollecting, Lists, running_move}
use Rattle.nam_filled.specs.Turn.{CellGoes, Frame, Keeps, LogGoes, SameHolders, Turn}
use Rattle.nam_layout.specs.Address.{IsCell}
use Rattle.nam_layout.specs.declared.field.Field.TheVariants.{Horizon, Tag}
use Rattle.nam_layout.specs.declared.field.Field.{Field}
use Rattle.nam_protocol.specs.declared.client.ClientState.{ClientState}
use Rattle.nam_filled.proofs.SpotLemmas.{at_spot, spot_cases, tag_one}
use Rattle.nam_store.specs.Changed.{Changed, OthersStay}

-- tags and horizon entries are what they were
abbrev pub TagsStay : Shape → (Field → ℕ) → (Field → ℕ) → Type 0
TagsStay shape m now =
    (bucket cell : ℕ) → IsCell shape bucket cell → now (Tag bucket cell) ≡ m (Tag bucket cell)

abbrev pub HorizonStays : Shape → (Field → ℕ) → (Field → ℕ) → Type 0
HorizonStays shape m now = (a : ℕ) → a < shape.workers → now (Horizon (a + 1)) ≡ m (Horizon (a + 1))

-- the field that is written is none of them
abbrev pub IsElse : Option Field → Type 0
IsElse (Some (Tag bucket cell)) = ⊥
IsElse (Some (Horizon worker)) = ⊥
IsElse written = Unit {0}

pub tags_else : (shape : Shape) (m now : Field → ℕ) (written : Option Field) → OthersStay shape m now written
    → IsElse written → TagsStay shape m now
tags_else shape m now written stays other bucket cell is =
    stays (Tag bucket cell) is (λ e. subst IsElse e other)

pub horizon_else : (shape : Shape) (m now : Field → ℕ) (written : Option Field) → OthersStay shape m now written
    → IsElse written → HorizonStays shape m now
horizon_else shape m now written stays other a less =
    stays (Horizon (a + 1)) (omega arith, omega arith) (λ e. subst IsElse e other)

-- a tag that is written as it was
pub tags_unchanged : (shape : Shape) (m now : Field → ℕ) (bucket cell : ℕ)
    → Changed shape m now (Tag bucket cell) (m (Tag bucket cell)) → TagsStay shape m now
tags_unchanged shape m now bucket cell changed b c is =
    ⊎_elim (λ spot. at_spot (λ x y. now (Tag x y) ≡ m (Tag x y)) bucket cell b c spot changed.here)
    (λ apart. changed.others (Tag b c) is (λ e. apart (tag_one e))) (spot_cases bucket cell b c)

module _ (shape : Shape) (s t : Scene) (nth : ℕ) (client later : ClientState)
    (here : slice_get s.clients nth ≡ Some client) (clients : t.clients ≡ slice_set s.clients nth later)
    (frame : Frame shape s t.m t.chains t.rings) (cells : t.cells ≡ s.cells) (holders : t.holders ≡ s.holders)
    (tags : TagsStay shape s.m t.m) where
  -- all cells stay
  abbrev pub FillsOn : Type 0
  FillsOn = (bucket cell : ℕ) → FillsIn shape client.call bucket cell → FillsIn shape later.call bucket cell
      × (length later.log.events ≡ length client.log.events)

  all_keep : FillsOn → (bucket cell : ℕ) → IsCell shape bucket cell → CellGoes shape s t nth client later bucket cell
  all_keep fills bucket cell is =
      Keeps (tags bucket cell is) (λ k. cells k bucket cell) (λ k. holders k bucket cell) (fills bucket cell)

  pub still_turn : FillsOn → LogGoes shape s t nth client later
      → HasCollected later ⊎ HorizonStays shape s.m t.m → NowOk shape t nth later.call
      → Turn shape s t nth client later
  still_turn fills log horizon own = record {
    here = here;
    clients = clients;
    frame = frame;
    log = log;
    holders = SameHolders holders;
    cells = all_keep fills;
    horizon = horizon;
    own = own;
  }

  pub calm_turn : HorizonStays shape s.m t.m → IsCalm shape client.call
      → Lists client.log.events later.log.events → NowOk shape t nth later.call → Turn shape s t nth client later
  calm_turn horizon calm lists own =
      still_turn (λ bucket cell fills. absurd (calm.aside bucket cell fills))
      (calm_log shape s t nth client later calm lists) (inr horizon) own

  pub work_turn : HorizonStays shape s.m t.m → (IsCollecting client.call → ⊥)
      → later.log.events ≡ client.log.events → running_move shape later.call ≡ running_move shape client.call
      → ((bucket cell : ℕ) → FillsIn shape client.call bucket cell → FillsIn shape later.call bucket cell)
      → NowOk shape t nth later.call → Turn shape s t nth client later
  work_turn horizon idle same runs fills own =
      still_turn (λ bucket cell is. (fills bucket cell is, ap length same))
      (work_log shape s t nth client later idle same runs) (inr horizon) own
