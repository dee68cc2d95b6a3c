-- The logs of a store's clients, were each of them cut now.
use Rattle.nam_catalog.specs.declared.shape.Shape.{Shape}
use Rattle.nam_protocol.specs.CutClient.{client_cut}
use Rattle.nam_protocol.specs.declared.client.ClientState.{ClientState}
use Rattle.nam_store.specs.Store.{Store}
use Rattle.nam_tells.specs.Teller.{Teller}
use Rattle.nam_tells.specs.TellsLaw.{tells_now}
use Rattle.si_model.specs.Tells.{Tell}
use Rattle.std.specs.Prelude.{List, [], suc, ℕ, ◌∷◌}

module _ (shape : Shape) (tellers : ℕ → Teller) where
  -- what the log of the nth client would tell
  abbrev pub tells_cut : ℕ → ClientState → List Tell
  tells_cut nth client = tells_now shape (tellers nth) (client_cut client)

  -- those of the clients from the nth on
  abbrev pub logs_from : ℕ → List ClientState → List (List Tell)
  logs_from nth [] = []
  logs_from nth (client ∷ clients) = tells_cut nth client ∷ logs_from (suc nth) clients

  abbrev pub logs_cut : Store → List (List Tell)
  logs_cut store = logs_from 0 store.clients
