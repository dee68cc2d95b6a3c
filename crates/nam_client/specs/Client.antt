-- What a client tells of itself.
use Rattle.std.specs.Prelude.{◌≡◌, ℕ, ◌-◌, ◌≤◌, Option, Some, None, length, option_map}
use Rattle.si_model.specs.Evaluation.{unwritten}
use Rattle.nam_verbs.specs.declared.verb.Verb.{Verb}
use Rattle.nam_catalog.specs.declared.shape.Shape.{Shape}
use Rattle.nam_catalog.specs.Fits.{FitsLimits}
use Rattle.nam_catalog.specs.Greatest.{greatest_number}
use Rattle.nam_calls.specs.Fits.{IsOf}
use Rattle.nam_calls.specs.Memory.{verb_there}
use Rattle.nam_protocol.specs.declared.client.Open.{Open}
use Rattle.nam_protocol.specs.Client.{client_verb}
use Rattle.nam_protocol.specs.Left.{Room}
use Rattle.nam_client.specs.declared.registers.Registers.{Registers}
use Rattle.nam_client.specs.Registers.{client_of}

-- how many calls it has room for
abbrev pub spare_of : Registers → Room
spare_of a = record { attempts = a.spare.attempts; ops = a.spare.ops; tidies = a.spare.tidies }

-- the room without that which a call takes
abbrev pub less_room : Room → Room → Room
less_room a b = record { attempts = a.attempts - b.attempts; ops = a.ops - b.ops; tidies = a.tidies - b.tidies }

-- the verb that stands, at its address
abbrev pub verb_of : Shape → Registers → Option Verb
verb_of shape a = option_map (verb_there shape) (client_verb shape (client_of a))

-- a new client of the worker is one of the store
pub record CanServe (shape : Shape) (worker start : ℕ) : Type 0 where
  pub limits : FitsLimits shape
  pub worker_is : IsOf shape.workers worker
  pub start_is : start ≤ greatest_number shape.form

-- of the open transaction, and 0 where none is open
abbrev pub of_open : (Open → ℕ) → Option Open → ℕ
of_open count None = 0
of_open count (Some attempt) = count attempt

abbrev pub ops_so_far : Option Open → ℕ
ops_so_far opened = of_open (λ attempt. attempt.ops_so_far) opened

abbrev pub written : Option Open → ℕ
written opened = of_open (λ attempt. length attempt.state.writes) opened

abbrev pub guarded : Option Open → ℕ
guarded opened = of_open (λ attempt. length (unwritten attempt.state.writes attempt.state.guards)) opened
