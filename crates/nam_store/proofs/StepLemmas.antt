-- What a client's step does to the words, and that it is its verb.
use Rattle.std.proofs.Common.{Bool, None, Option, Some, ap, false, length, refl, subst, sym, true, ℕ, List, ◌∙◌, ◌≡◌}
use Rattle.std.specs.Prelude.{if◌then◌else◌}
use Rattle.std.proofs.Common.{length-set}
use Rattle.std.proofs.lemmas.Option.{none-some, same_Some}
use Rattle.nam_verbs.specs.declared.now.Now.{Now}
use Rattle.nam_verbs.specs.declared.now.Now.TheVariants.{At, Over}
use Rattle.nam_verbs.specs.Verb.{after_verb, found_by}
use Rattle.nam_verbs.specs.VerbAt.{ExchangeAt, ReadAt, VerbAt, WriteAt, found_at, left_at, target}
use Rattle.nam_catalog.specs.declared.shape.Shape.{Shape}
use Rattle.nam_catalog.specs.Fits.{FitsLimits}
use Rattle.nam_catalog.specs.Words.{words_of}
use Rattle.nam_layout.specs.declared.field.Field.{Field}
use Rattle.nam_layout.specs.Address.{IsField}
use Rattle.nam_calls.specs.Memory.{Changes, memory, verb_there}
use Rattle.nam_calls.specs.Writes.{written_by}
use Rattle.nam_calls.proofs.MemoryLemmas.{verb_changes}
use Rattle.nam_protocol.specs.declared.client.Answer.{Answer}
use Rattle.nam_protocol.specs.declared.client.CallPoint.{CallPoint}
use Rattle.nam_protocol.specs.declared.client.ClientState.{ClientState}
use Rattle.nam_protocol.specs.Client.{call_verb, client_after, client_verb, verb_of}
use Rattle.nam_protocol.specs.ClientFits.{ClientFits}
use Rattle.nam_protocol.specs.FieldLaw.{IsAtField}
use Rattle.nam_protocol.proofs.CallWrites.{call_written}
use Rattle.nam_protocol.proofs.FieldLemmas.{call_fields}
use Rattle.nam_store.specs.Changed.{Changed, OthersStay, written_at, written_of}
use Rattle.nam_store.specs.Store.{Abandons, Asks, Cuts, Store, StepsTo, Takes, client_at, next_verb, step, verb_at}
use Rattle.nam_store.specs.Store.{with_client}
use Rattle.nam_store.specs.StoreLaw.{ChangesOne, OthersLaw, StepByLaw, done_by}
use Rattle.nam_store.proofs.Lists.{get_beside}

-- 1. A verb at a field

module _ (shape : Shape) (words : List ℕ) where
  abbrev was : Field → ℕ
  was = memory shape words

  abbrev now : VerbAt Field → Field → ℕ
  now verb = memory shape (after_verb words (verb_there shape verb))

  -- what it finds is the word of its field
  pub found_is : (verb : VerbAt Field) → found_by words (verb_there shape verb) ≡ found_at was verb
  found_is (ReadAt at) = refl
  found_is (WriteAt at word) = refl
  found_is (ExchangeAt at expect word) = refl

  module _ (verb : VerbAt Field) (whole : length words ≡ words_of shape) (is : IsField shape (target verb)) where
    changes : Changes shape words (after_verb words (verb_there shape verb)) (target verb) (left_at was verb)
    changes = (verb_changes shape words verb whole is).1

    pub verb_changed : Changed shape was (now verb) (target verb) (left_at was verb)
    verb_changed = record { here = changes.here; others = changes.others }

    pub verb_whole : length (after_verb words (verb_there shape verb)) ≡ length words
    verb_whole = changes.whole

  pub verb_leaves : (verb : VerbAt Field) → length words ≡ words_of shape → IsField shape (target verb)
      → OthersStay shape was (now verb) (written_by verb)
  verb_leaves (ReadAt at) whole is field of_shape other = refl
  verb_leaves (WriteAt at word) whole is field of_shape other =
      (verb_changed (WriteAt at word) whole is).others field of_shape (λ same. other (ap Some (sym same)))
  verb_leaves (ExchangeAt at expect word) whole is field of_shape other =
      (verb_changed (ExchangeAt at expect word) whole is).others field of_shape (λ same. other (ap Some (sym same)))

  -- a read changes nothing
  pub read_leaves : (verb : VerbAt Field) → written_by verb ≡ None → after_verb words (verb_there shape verb) ≡ words
  read_leaves (ReadAt at) none = refl
  read_leaves (WriteAt at word) none = absurd (none-some at (sym none))
  read_leaves (ExchangeAt at expect word) none = absurd (none-some at (sym none))

-- 2. The verb of a client's point

module _ (shape : Shape) (client : ClientState) (place : CallPoint) (at : client.call ≡ Some (At place)) where
  pub verb_is : next_verb shape client ≡ call_verb shape client place
  verb_is = ap (λ (call : Option (Now CallPoint Answer)). verb_at shape client call) at

  -- which field it may change
  pub written_is : written_by (next_verb shape client) ≡ written_of shape client
  written_is =
      ap (λ (verb : VerbAt Field). written_by verb) verb_is ∙ call_written shape client place
      ∙ ap (λ (call : Option (Now CallPoint Answer)). written_at shape client call) (sym at)

  -- it stands, where the client isn't cut
  pub verb_stands : client.cut ≡ false → client_verb shape client ≡ Some (next_verb shape client)
  verb_stands runs =
      ap (λ (cut : Bool). if cut then None else verb_of shape client client.call) runs
      ∙ ap (λ (call : Option (Now CallPoint Answer)). verb_of shape client call) at ∙ ap Some (sym verb_is)

  module _ (limits : FitsLimits shape) (fits : ClientFits shape client) where
    pub verb_at_field : IsAtField shape (next_verb shape client)
    verb_at_field = subst (IsAtField shape) (sym verb_is) (call_fields shape limits client place fits at)

-- 3. A verb that stands is that of the client's point

module _ (shape : Shape) (store : Store) (nth : ℕ) (client : ClientState) (verb : VerbAt Field) where
  abbrev Goes : VerbAt Field → Type 0
  Goes v = StepsTo shape store (done_by shape store nth client v)

  -- the same store, by the word of its field
  same_found : StepsTo shape store (step shape store nth client) → Goes (next_verb shape client)
  same_found goes =
      let verb = next_verb shape client in
      subst (λ (found : ℕ). StepsTo shape store
      (with_client (record store { words = after_verb store.words (verb_there shape verb) }) nth
      (client_after shape client found)))
      (sym (found_is shape store.words verb)) goes

  by_call : (runs : client.cut ≡ false) (here : client_at store nth ≡ Some client)
      (call : Option (Now CallPoint Answer)) → client.call ≡ call → verb_of shape client call ≡ Some verb → Goes verb
  by_call runs here None at e = absurd (none-some verb e)
  by_call runs here (Some (Over end)) at e = absurd (none-some verb e)
  by_call runs here (Some (At place)) at e =
      subst Goes (verb_is shape client place at ∙ same_Some (call_verb shape client place) verb e)
      (same_found (Takes nth client place here runs at))

  by_cut : (here : client_at store nth ≡ Some client) (cut : Bool) → client.cut ≡ cut
      → (if cut then None else verb_of shape client client.call) ≡ Some verb → Goes verb
  by_cut here true is e = absurd (none-some verb e)
  by_cut here false is e = by_call is here client.call refl e

pub step_by : StepByLaw
step_by shape store nth client verb here stands = by_cut shape store nth client verb here client.cut refl stands

-- 4. One client alone is changed

one_changed : (store : Store) (words : List ℕ) (nth : ℕ) (client : ClientState)
    → ChangesOne store (with_client (record store { words = words }) nth client)
one_changed store words nth client = record {
  nth = nth;
  others = λ other apart. get_beside store.clients nth other client apart;
  workers = length-set store.clients nth client;
}

pub others_stay : OthersLaw
others_stay shape before _ (Takes nth client place here runs at) = one_changed before _ nth _
others_stay shape before _ (Asks nth client asked here may words) = one_changed before before.words nth _
others_stay shape before _ (Abandons nth client here rests) = one_changed before before.words nth _
others_stay shape before _ (Cuts nth client here) = one_changed before before.words nth _
