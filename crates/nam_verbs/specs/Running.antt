-- a call as a value: where it stands, and what its points are
use Rattle.std.specs.Prelude.{ℕ, Option, IsNone, IsSome, ◌↔◌}
use Rattle.nam_verbs.specs.declared.verb.Verb.{Verb}
use Rattle.nam_verbs.specs.declared.now.Now.{Now}
use Rattle.nam_verbs.specs.VerbAt.{VerbAt, verb_by}
use Rattle.nam_verbs.specs.Now.{verb_now, after_now, end_now, left_now, stands_until_over}

-- the addresses of words by their names, and what they are all below; the verb of each point, what follows each word
-- found there, and how many verbs are to come from it at the most; and where the call stands
pub record Running (W P E : Type 0) : Type 0 where
  pub address : W → ℕ
  pub reach : ℕ
  pub verb : P → VerbAt W
  pub after : P → ℕ → Now P E
  pub left : P → ℕ
  pub state : Now P E

module _ {W P E : Type 0} where
  -- the verb of a point
  abbrev pub verb_from : Running W P E → P → Verb
  verb_from call place = verb_by call.address (call.verb place)

  -- the verb that stands
  abbrev pub next_verb : Running W P E → Option Verb
  next_verb call = verb_now (verb_from call) call.state

  -- the call after a found word
  abbrev pub after_found : Running W P E → ℕ → Running W P E
  after_found call found = record call { state = after_now call.after call.state found }

  -- how the call ended
  abbrev pub end_of : Running W P E → Option E
  end_of call = end_now call.state

  -- how many verbs are to come at the most
  abbrev pub verbs_left : Running W P E → ℕ
  verbs_left call = left_now call.left call.state

  -- a verb stands exactly until the call has ended
  pub stands_until_end : (call : Running W P E) → IsNone (next_verb call) ↔ IsSome (end_of call)
  stands_until_end call = stands_until_over (verb_from call) call.state
