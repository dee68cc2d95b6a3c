-- What a step does to the words, as a function from fields.
use Rattle.std.specs.Prelude.{◌≡◌, ◌≢◌, ℕ, ◌+◌, length, None, Option, Some}
use Rattle.nam_verbs.specs.declared.now.Now.{Now}
use Rattle.nam_verbs.specs.declared.now.Now.TheVariants.{At}
use Rattle.nam_verbs.specs.VerbAt.{left_at, target}
use Rattle.nam_catalog.specs.declared.shape.Shape.{Shape}
use Rattle.nam_layout.specs.declared.field.Field.{Field}
use Rattle.nam_layout.specs.Address.{IsField}
use Rattle.nam_calls.specs.Memory.{memory}
use Rattle.nam_protocol.specs.declared.client.Answer.{Answer}
use Rattle.nam_protocol.specs.declared.client.CallPoint.{CallPoint}
use Rattle.nam_protocol.specs.declared.client.ClientState.{ClientState}
use Rattle.nam_protocol.specs.CallWrites.{call_writes}
use Rattle.nam_store.specs.Kinds.{Writes}
use Rattle.nam_store.specs.Store.{Store, next_verb, step}

module _ (shape : Shape) (was now : Field → ℕ) where
  -- a field has this word now, and every other one the word that it had
  pub record Changed (changed : Field) (word : ℕ) : Type 0 where
    pub here : now changed ≡ word
    pub others : (field : Field) → IsField shape field → field ≢ changed → now field ≡ was field

  -- every field has the word that it had, but for this one, if there is one
  abbrev pub OthersStay : Option Field → Type 0
  OthersStay written = (field : Field) → IsField shape field → written ≢ Some field → now field ≡ was field

-- the field that the verb of a client's point may change, if there is one
abbrev pub written_at : Shape → ClientState → Option (Now CallPoint Answer) → Option Field
written_at shape client (Some (At place)) = call_writes shape client place
written_at shape client _ = None

abbrev pub written_of : Shape → ClientState → Option Field
written_of shape client = written_at shape client client.call

-- what the nth client's verb does to the words
pub record Does (shape : Shape) (store : Store) (nth : ℕ) (client : ClientState) : Type 0 where
  pub at_field : IsField shape (target (next_verb shape client))
  -- it changes no field but its own
  pub changes : Changed shape (memory shape store.words) (memory shape (step shape store nth client).words)
      (target (next_verb shape client)) (left_at (memory shape store.words) (next_verb shape client))
  -- and that only where the client's point writes it
  pub leaves : OthersStay shape (memory shape store.words) (memory shape (step shape store nth client).words)
      (written_of shape client)
  -- nor any field that is not for its kind of call
  pub kinds : (field : Field) → IsField shape field → (Writes (nth + 1) client field → ⊥)
      → memory shape (step shape store nth client).words field ≡ memory shape store.words field
  pub whole : length (step shape store nth client).words ≡ length store.words
