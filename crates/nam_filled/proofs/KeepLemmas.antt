-- A step of one client keeps all that is claimed.
use Rattle.std.proofs.Common.{List, Some, [], ap, arith, inl, inr, length, append-nil, slice_get, subst, sym, ℕ, ⊎_elim}
use Rattle.std.proofs.Common.{◌++◌, ◌∙◌, ◌∷◌, ◌≡◌, ◌≤◌, ◌⊎◌}
use Rattle.std.proofs.lemmas.Option.{none-some, same_Some, slice_get_past}
use Rattle.si_model.proofs.ListLemmas.{listed_append_cases}
use Rattle.si_model.specs.Lists.{Listed}
use Rattle.nam_catalog.specs.Fits.{FitsLimits}
use Rattle.nam_catalog.specs.declared.shape.Shape.{Shape}
use Rattle.nam_filled.proofs.CallLemmas.{now_stays}
use Rattle.nam_filled.proofs.CellLemmas.{cell_stays}
use Rattle.nam_filled.proofs.SpotLemmas.{added_cases}
use Rattle.nam_filled.proofs.ListLemmas.{get_cases, get_listed}
use Rattle.nam_filled.proofs.StayLemmas.{counts_stay, held_stays}
use Rattle.nam_filled.specs.Filled.{IsFilled, IsHeld, NowOk, Scene}
use Rattle.nam_filled.specs.Holders.{Holders, Mover, add_holder, mover_of}
use Rattle.nam_filled.specs.Moves.{MovesAt, events_now, running_move}
use Rattle.nam_filled.specs.Turn.{HoldersGo, NewHolder, SameHolders, Turn}
use Rattle.nam_protocol.specs.ClientFits.{NowFits}
use Rattle.nam_protocol.specs.declared.client.ClientState.{ClientState}
use Rattle.nam_store.proofs.Lists.{everyone_set}
use Rattle.nam_store.specs.Everyone.{Everyone}

module _ (shape : Shape) (limits : FitsLimits shape) (s t : Scene) (nth : ℕ) (client later : ClientState)
    (turn : Turn shape s t nth client later) (filled : IsFilled shape s) where
  -- 1. Holders

  held_on : (bucket : ℕ) (mover : Mover) → IsHeld shape s bucket mover → IsHeld shape t bucket mover
  held_on bucket mover (row, number, held) =
      (row, number, held_stays shape s t nth client later turn bucket mover row number held)

  -- the move that claims a cell now has claimed none before
  fresh : running_move shape client.call ≡ [] → (bucket cell : ℕ) → Listed (mover_of nth client) (s.holders bucket cell)
      → ⊥
  fresh unclaimed bucket cell listed =
      let h = (filled.movers bucket cell (mover_of nth client) listed).2 in
      let same : h.nth ≡ nth = let e = h.worker_is in omega arith in
      let is : h.client ≡ client =
      same_Some h.client client (sym h.here ∙ ap (slice_get s.clients) same ∙ turn.here) in
      let moves = subst (λ (c : ClientState). MovesAt shape c (length client.log.events) h.move) is h.moves in
      let ends : events_now shape client ≡ client.log.events ++ [] = ap (λ es. client.log.events ++ es) unclaimed in
      let none = ap length (append-nil client.log.events) in
      let long : length (client.log.events ++ []) ≤ length client.log.events = omega arith in
      none-some moves.0
      (sym (ap (λ es. slice_get es (length client.log.events)) ends
      ∙ slice_get_past (client.log.events ++ []) (length client.log.events) long) ∙ moves.1)

  abbrev Movers : Holders → Type 0
  Movers holders = (bucket cell : ℕ) (mover : Mover) → Listed mover (holders bucket cell) → IsHeld shape t bucket mover

  abbrev Once : Holders → Type 0
  Once holders = (b c i d e j : ℕ) (mover : Mover) → slice_get (holders b c) i ≡ Some mover
      → slice_get (holders d e) j ≡ Some mover → (b ≡ d) × (c ≡ e) × (i ≡ j)

  movers_stay : HoldersGo shape s t nth client later → Movers t.holders
  movers_stay (SameHolders same) =
      subst Movers (sym same)
      (λ bucket cell mover listed. held_on bucket mover (filled.movers bucket cell mover listed))
  movers_stay (NewHolder at_bucket at_cell added unclaimed held) =
      subst Movers (sym added) (λ bucket cell mover.
      let old : Listed mover (s.holders bucket cell) → IsHeld shape t bucket mover =
      λ listed. held_on bucket mover (filled.movers bucket cell mover listed) in
      added_cases at_bucket at_cell bucket cell s.holders (mover_of nth client)
      (λ (xs : List Mover). Listed mover xs → IsHeld shape t bucket mover)
      (λ same_bucket same_cell listed.
      ⊎_elim old
      (λ new. ⊎_elim
      (λ (e : mover_of nth client ≡ mover). subst (IsHeld shape t bucket) e
      (subst (λ b. IsHeld shape t b (mover_of nth client)) (sym same_bucket) held)) (λ (none : ⊥). absurd none) new)
      (listed_append_cases (s.holders bucket cell) (mover_of nth client ∷ []) mover listed)) old)

  -- a holder that is there then was there, or is the new one
  module _ (at_bucket at_cell : ℕ) where
    abbrev IsNew : ℕ → ℕ → ℕ → Mover → Type 0
    IsNew b c i mover =
        (b ≡ at_bucket) × (c ≡ at_cell) × (i ≡ length (s.holders at_bucket at_cell)) × (mover_of nth client ≡ mover)

    origin : (b c i : ℕ) (mover : Mover)
        → slice_get (add_holder s.holders at_bucket at_cell (mover_of nth client) b c) i ≡ Some mover
        → (slice_get (s.holders b c) i ≡ Some mover) ⊎ IsNew b c i mover
    origin b c i mover =
        added_cases at_bucket at_cell b c s.holders (mover_of nth client)
        (λ (xs : List Mover). slice_get xs i ≡ Some mover
        → (slice_get (s.holders b c) i ≡ Some mover) ⊎ IsNew b c i mover)
        (λ same_bucket same_cell e.
        ⊎_elim (λ old. inl old)
        (λ (new : (i ≡ length (s.holders b c)) × (mover_of nth client ≡ mover)).
        inr (
          same_bucket,
          same_cell,
          new.0 ∙ (λ k. length (s.holders (same_bucket k) (same_cell k))),
          new.1,
        ))
        (get_cases (s.holders b c) (mover_of nth client) i mover e)) (λ old. inl old)

    new_once : running_move shape client.call ≡ []
        → Once (add_holder s.holders at_bucket at_cell (mover_of nth client))
    new_once unclaimed b c i d e j mover at is =
        let unlisted : (x y n : ℕ) → slice_get (s.holders x y) n ≡ Some mover → mover_of nth client ≡ mover → ⊥ =
        λ x y n got same. fresh unclaimed x y
        (subst (λ (m : Mover). Listed m (s.holders x y)) (sym same) (get_listed (s.holders x y) n mover got)) in
        ⊎_elim
        (λ old. ⊎_elim (λ older. filled.once b c i d e j mover old older)
        (λ (new : IsNew d e j mover). absurd (unlisted b c i old new.3)) (origin d e j mover is))
        (λ (new : IsNew b c i mover). ⊎_elim (λ old. absurd (unlisted d e j old new.3))
        (λ (newer : IsNew d e j mover). (new.0 ∙ sym newer.0, new.1 ∙ sym newer.1, new.2 ∙ sym newer.2))
        (origin d e j mover is)) (origin b c i mover at)

  once_stays : HoldersGo shape s t nth client later → Once t.holders
  once_stays (SameHolders same) = subst Once (sym same) filled.once
  once_stays (NewHolder at_bucket at_cell added unclaimed held) =
      subst Once (sym added) (new_once at_bucket at_cell unclaimed)

  -- 2. All of it

  pub filled_stays : ((j : ℕ) (c : ClientState) → slice_get s.clients j ≡ Some c → NowFits shape c.txn c.call)
      → IsFilled shape t
  filled_stays fits = record {
    movers = movers_stay turn.holders;
    once = once_stays turn.holders;
    tags = λ bucket cell is.
        counts_stay shape s t nth client later turn bucket cell (turn.cells bucket cell is)
        (filled.tags bucket cell is);
    cells = λ bucket cell is.
        cell_stays shape s t nth client later turn bucket cell is (turn.cells bucket cell is)
        (filled.tags bucket cell is) (filled.cells bucket cell is);
    calls = subst (Everyone (λ j (c : ClientState). NowOk shape t j c.call)) (sym turn.clients)
        (everyone_set (λ j (c : ClientState). NowOk shape s j c.call) (λ j (c : ClientState). NowOk shape t j c.call)
        s.clients nth later filled.calls
        (λ j c apart here was.
        now_stays shape limits s t nth client later turn filled j apart c.txn c.call (fits j c here) was) turn.own);
  }
