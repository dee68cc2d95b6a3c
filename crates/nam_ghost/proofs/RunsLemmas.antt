-- What the examples bring about are stores that come about, with what is known of them along their steps.
use Rattle.nam_catalog.specs.declared.shape.Shape.{Shape}
use Rattle.nam_ghost.proofs.Runs.{Seen, opened, turn, turn_at, turn_of, turns}
use Rattle.nam_ghost.specs.Ghost.{IsReachedWith}
use Rattle.nam_protocol.specs.HoldsWords.{CallHolds}
use Rattle.nam_protocol.specs.Own.{MayAsk}
use Rattle.nam_protocol.specs.declared.client.Answer.{Answer}
use Rattle.nam_protocol.specs.declared.client.Call.{Call}
use Rattle.nam_protocol.specs.declared.client.CallPoint.{CallPoint}
use Rattle.nam_protocol.specs.declared.client.ClientState.{ClientState}
use Rattle.nam_store.specs.Reached.{Opened, Stepped}
use Rattle.nam_store.specs.Store.{Asks, Cuts, Takes, ask, client_at, cut}
use Rattle.nam_verbs.specs.declared.now.Now.TheVariants.{At, Over}
use Rattle.nam_verbs.specs.declared.now.Now.{Now}
use Rattle.si_model.specs.declared.row.Row.{Row}
use Rattle.std.proofs.Common.{Bool, List, None, Option, Some, false, refl, suc, true, zero, ℕ, ◌≡◌}

module _ (shape : Shape) (rows : List Row) where
  -- the store and what is known of it
  abbrev pub Comes : Seen → Type 0
  Comes seen = IsReachedWith shape rows seen.store seen.ghost

  pub opening_comes : Comes (opened shape rows)
  opening_comes = Opened

  call_comes : (seen : Seen) (nth : ℕ) (client : ClientState) → Comes seen → client_at seen.store nth ≡ Some client
      → (cut : Bool) (call : Option (Now CallPoint Answer)) → client.cut ≡ cut → client.call ≡ call
      → Comes (turn_at shape seen nth client cut call)
  call_comes seen nth client was here false (Some (At place)) runs at =
      Stepped _ _ seen.ghost was (Takes nth client place here runs at)
  call_comes seen nth client was here false (Some (Over answer)) runs at = was
  call_comes seen nth client was here false None runs at = was
  call_comes seen nth client was here true call runs at = was

  client_comes : (seen : Seen) (nth : ℕ) → Comes seen → (client : Option ClientState)
      → client_at seen.store nth ≡ client → Comes (turn_of shape seen nth client)
  client_comes seen nth was None here = was
  client_comes seen nth was (Some client) here = call_comes seen nth client was here client.cut client.call refl refl

  pub turn_comes : (seen : Seen) (nth : ℕ) → Comes seen → Comes (turn shape seen nth)
  turn_comes seen nth was = client_comes seen nth was (client_at seen.store nth) refl

  pub turns_come : (nth verbs : ℕ) (seen : Seen) → Comes seen → Comes (turns shape nth verbs seen)
  unfolding turns
  turns_come nth zero seen was = was
  turns_come nth (suc verbs) seen was = turns_come nth verbs (turn shape seen nth) (turn_comes seen nth was)

  -- a call that may be asked, and a stop
  pub asked_comes : (seen : Seen) (nth : ℕ) (client : ClientState) (call : Call)
      → client_at seen.store nth ≡ Some client → MayAsk shape client call → CallHolds call → Comes seen
      → Comes (record seen { store = ask shape seen.store nth client call })
  asked_comes seen nth client call here may words was =
      Stepped _ _ seen.ghost was (Asks nth client call here may words)

  pub stopped_comes : (seen : Seen) (nth : ℕ) (client : ClientState) → client_at seen.store nth ≡ Some client
      → Comes seen → Comes (record seen { store = cut seen.store nth client })
  stopped_comes seen nth client here was = Stepped _ _ seen.ghost was (Cuts nth client here)
