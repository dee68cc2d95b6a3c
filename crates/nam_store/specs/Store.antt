-- A store: the words, and one client for each worker, which change them verb by verb.
use Rattle.std.specs.Prelude.{◌≡◌, ℕ, false, List, Option, Some, slice_get, slice_set}
use Rattle.nam_verbs.specs.declared.now.Now.{Now}
use Rattle.nam_verbs.specs.declared.now.Now.TheVariants.{At}
use Rattle.nam_verbs.specs.Verb.{after_verb}
use Rattle.nam_verbs.specs.VerbAt.{VerbAt, ReadAt, found_at}
use Rattle.nam_catalog.specs.declared.shape.Shape.{Shape}
use Rattle.nam_layout.specs.declared.field.Field.{Field}
use Rattle.nam_layout.specs.declared.field.Field.TheVariants.{Entry}
use Rattle.nam_calls.specs.Memory.{memory, verb_there}
use Rattle.nam_protocol.specs.declared.client.Answer.{Answer}
use Rattle.nam_protocol.specs.declared.client.Call.{Call}
use Rattle.nam_protocol.specs.declared.client.CallPoint.{CallPoint}
use Rattle.nam_protocol.specs.declared.client.ClientState.{ClientState}
use Rattle.nam_protocol.specs.Client.{call_verb, client_abandon, client_after, client_ask}
use Rattle.nam_protocol.specs.CutClient.{client_cut}
use Rattle.nam_protocol.specs.HoldsWords.{CallHolds}
use Rattle.nam_protocol.specs.Own.{MayAsk, Rests}

-- clients count from 0: the nth is that of worker nth + 1
pub record Store : Type 0 where
  pub words : List ℕ
  pub clients : List ClientState

abbrev pub client_at : Store → ℕ → Option ClientState
client_at store nth = slice_get store.clients nth

abbrev pub with_client : Store → ℕ → ClientState → Store
with_client store nth client = record store { clients = slice_set store.clients nth client }

module _ (shape : Shape) where
  -- 1. What one client does

  abbrev pub verb_at : ClientState → Option (Now CallPoint Answer) → VerbAt Field
  verb_at client (Some (At place)) = call_verb shape client place
  verb_at client _ = ReadAt (Entry client.worker)

  -- the verb of its point; it is said of a client whose call runs
  abbrev pub next_verb : ClientState → VerbAt Field
  next_verb client = verb_at client client.call

  -- the word that it finds
  abbrev pub found_word : Store → ClientState → ℕ
  found_word store client = found_at (memory shape store.words) (next_verb client)

  -- its verb is done on the words, and it takes the word that was found
  abbrev pub step : Store → ℕ → ClientState → Store
  step store nth client =
      let words = after_verb store.words (verb_there shape (next_verb client)) in
      with_client (record store { words = words }) nth (client_after shape client (found_word store client))

  -- it is asked a call
  abbrev pub ask : Store → ℕ → ClientState → Call → Store
  ask store nth client asked = with_client store nth (client_ask shape client asked)

-- it gives its transaction up
abbrev pub abandon : Store → ℕ → ClientState → Store
abandon store nth client = with_client store nth (client_abandon client)

-- it is stopped for good
abbrev pub cut : Store → ℕ → ClientState → Store
cut store nth client = with_client store nth (client_cut client)

-- 2. One step of a store: what any one of its clients does next

module _ (shape : Shape) (store : Store) where
  pub data StepsTo : Store → Type 0 where
    Takes : (nth : ℕ) (client : ClientState) (place : CallPoint) (here : client_at store nth ≡ Some client)
        (runs : client.cut ≡ false) (at : client.call ≡ Some (At place)) → StepsTo (step shape store nth client)
    Asks : (nth : ℕ) (client : ClientState) (asked : Call) (here : client_at store nth ≡ Some client)
        (may : MayAsk shape client asked) (words : CallHolds asked) → StepsTo (ask shape store nth client asked)
    Abandons : (nth : ℕ) (client : ClientState) (here : client_at store nth ≡ Some client) (rests : Rests client.call)
        → StepsTo (abandon store nth client)
    Cuts : (nth : ℕ) (client : ClientState) (here : client_at store nth ≡ Some client) → StepsTo (cut store nth client)
