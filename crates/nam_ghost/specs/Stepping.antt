-- Whose step it is, and what its client is before and after it.
use Rattle.nam_catalog.specs.declared.shape.Shape.{Shape}
use Rattle.nam_protocol.specs.Client.{client_abandon, client_after, client_ask}
use Rattle.nam_protocol.specs.CutClient.{client_cut}
use Rattle.nam_protocol.specs.declared.client.ClientState.{ClientState}
use Rattle.nam_store.specs.Store.{Abandons, Asks, Cuts, StepsTo, Store, Takes, found_word}
use Rattle.std.specs.Prelude.{ℕ}

-- clients count from 0
abbrev pub stepping : (shape : Shape) (before after : Store) → StepsTo shape before after → ℕ
stepping shape before _ (Takes nth client place here runs at) = nth
stepping shape before _ (Asks nth client asked here may words) = nth
stepping shape before _ (Abandons nth client here rests) = nth
stepping shape before _ (Cuts nth client here) = nth

abbrev pub stepper_before : (shape : Shape) (before after : Store) → StepsTo shape before after → ClientState
stepper_before shape before _ (Takes nth client place here runs at) = client
stepper_before shape before _ (Asks nth client asked here may words) = client
stepper_before shape before _ (Abandons nth client here rests) = client
stepper_before shape before _ (Cuts nth client here) = client

abbrev pub stepper_after : (shape : Shape) (before after : Store) → StepsTo shape before after → ClientState
stepper_after shape before _ (Takes nth client place here runs at) =
    client_after shape client (found_word shape before client)
stepper_after shape before _ (Asks nth client asked here may words) = client_ask shape client asked
stepper_after shape before _ (Abandons nth client here rests) = client_abandon client
stepper_after shape before _ (Cuts nth client here) = client_cut client
