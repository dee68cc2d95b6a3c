-- What a step of a store is, and what it does to the words.
use Rattle.std.specs.Prelude.{◌≡◌, ◌≢◌, ℕ, length, Some}
use Rattle.nam_verbs.specs.Verb.{after_verb, found_by}
use Rattle.nam_verbs.specs.VerbAt.{VerbAt}
use Rattle.nam_catalog.specs.declared.shape.Shape.{Shape}
use Rattle.nam_layout.specs.declared.field.Field.{Field}
use Rattle.nam_calls.specs.Memory.{verb_there}
use Rattle.nam_protocol.specs.declared.client.CallPoint.{CallPoint}
use Rattle.nam_protocol.specs.declared.client.ClientState.{ClientState}
use Rattle.nam_protocol.specs.Client.{client_after, client_verb}
use Rattle.nam_verbs.specs.declared.now.Now.TheVariants.{At}
use Rattle.nam_store.specs.Base.{BaseOk}
use Rattle.nam_store.specs.Changed.{Does}
use Rattle.nam_store.specs.Store.{Store, StepsTo, client_at, with_client}

-- a client that has a verb does it on the words, at its address, and takes the word that it finds there
abbrev pub done_by : Shape → Store → ℕ → ClientState → VerbAt Field → Store
done_by shape store nth client verb =
    let there = verb_there shape verb in
    with_client (record store { words = after_verb store.words there }) nth
    (client_after shape client (found_by store.words there))

abbrev pub StepByLaw : Type 0
StepByLaw = (shape : Shape) (store : Store) (nth : ℕ) (client : ClientState) (verb : VerbAt Field)
    → client_at store nth ≡ Some client → client_verb shape client ≡ Some verb
    → StepsTo shape store (done_by shape store nth client verb)

-- what the verb does, seen by fields
abbrev pub DoesLaw : Type 0
DoesLaw = (shape : Shape) (store : Store) → BaseOk shape store → (nth : ℕ) (client : ClientState) (place : CallPoint)
    → client_at store nth ≡ Some client → client.call ≡ Some (At place) → Does shape store nth client

-- one client alone is changed by a step
pub record ChangesOne (before after : Store) : Type 0 where
  pub nth : ℕ
  pub others : (other : ℕ) → other ≢ nth → client_at after other ≡ client_at before other
  pub workers : length after.clients ≡ length before.clients

abbrev pub OthersLaw : Type 0
OthersLaw = (shape : Shape) (before after : Store) → StepsTo shape before after → ChangesOne before after
