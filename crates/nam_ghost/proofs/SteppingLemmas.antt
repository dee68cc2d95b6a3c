-- The client of a step stands in the store before it, and is the only one that is changed.
use Rattle.std.proofs.Common.{Some, refl, ◌≡◌}
use Rattle.std.specs.Prelude.{slice_set}
use Rattle.nam_catalog.specs.declared.shape.Shape.{Shape}
use Rattle.nam_store.specs.Store.{Abandons, Asks, Cuts, StepsTo, Store, Takes, client_at}
use Rattle.nam_ghost.specs.Stepping.{stepper_after, stepper_before, stepping}

pub stepper_here : (shape : Shape) (before after : Store) (goes : StepsTo shape before after)
    → client_at before (stepping shape before after goes) ≡ Some (stepper_before shape before after goes)
stepper_here shape before _ (Takes nth client place here runs at) = here
stepper_here shape before _ (Asks nth client asked here may words) = here
stepper_here shape before _ (Abandons nth client here rests) = here
stepper_here shape before _ (Cuts nth client here) = here

pub others_same : (shape : Shape) (before after : Store) (goes : StepsTo shape before after)
    → after.clients
    ≡ slice_set before.clients (stepping shape before after goes) (stepper_after shape before after goes)
others_same shape before _ (Takes nth client place here runs at) = refl
others_same shape before _ (Asks nth client asked here may words) = refl
others_same shape before _ (Abandons nth client here rests) = refl
others_same shape before _ (Cuts nth client here) = refl
