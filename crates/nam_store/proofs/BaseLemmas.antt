-- Each step of a store keeps what holds of it whatever else its words say.
use Rattle.std.proofs.Common.{List, None, Some, arith, false, length, length-set, subst, ℕ, ◌+◌, ◌<◌, ◌==◌, ◌∙◌, ◌≡◌}
use Rattle.std.proofs.lemmas.Option.{slice_get_within}
use Rattle.std.specs.Prelude.{slice_index, slice_set}
use Rattle.nam_verbs.specs.declared.now.Now.TheVariants.{At}
use Rattle.nam_verbs.specs.Verb.{after_verb}
use Rattle.nam_verbs.specs.VerbAt.{ExchangeAt, ReadAt, VerbAt, WriteAt, found_at}
use Rattle.nam_catalog.specs.declared.shape.Shape.{Shape}
use Rattle.nam_layout.specs.declared.field.Field.{Field}
use Rattle.nam_layout.specs.Address.{address}
use Rattle.nam_calls.specs.Holds.{AreWords, IsWord, WritesWord}
use Rattle.nam_calls.specs.Memory.{memory, verb_there}
use Rattle.nam_calls.proofs.FallsTests.{either}
use Rattle.nam_calls.proofs.HoldsWords.{words_at, words_set}
use Rattle.nam_protocol.specs.declared.client.Call.{Call}
use Rattle.nam_protocol.specs.declared.client.CallPoint.{CallPoint}
use Rattle.nam_protocol.specs.declared.client.ClientState.{ClientState}
use Rattle.nam_protocol.specs.HoldsWords.{CallHolds}
use Rattle.nam_protocol.specs.Own.{MayAsk, OwnOpen, Rests}
use Rattle.nam_protocol.specs.Client.{client_after, client_ask}
use Rattle.nam_protocol.specs.Sorts.{AskOf, StepOf}
use Rattle.nam_protocol.proofs.HoldsVerbs.{client_writes}
use Rattle.nam_protocol.proofs.SortsLemmas.{ask_sort, word_sort}
use Rattle.nam_store.specs.Base.{BaseOk, ClientOk}
use Rattle.nam_store.specs.BaseLaw.{KeepsLaw}
use Rattle.nam_store.specs.Changed.{OthersStay, written_of}
use Rattle.nam_store.specs.Kinds.{Writes}
use Rattle.nam_store.specs.Store.{Abandons, Asks, Cuts, Store, Takes, abandon, ask, client_at, cut, found_word}
use Rattle.nam_store.specs.Store.{next_verb, step, with_client}
use Rattle.nam_store.specs.StoreLaw.{DoesLaw}
use Rattle.nam_store.proofs.ClientLemmas.{client_abandons, client_asked, client_stops, client_takes}
use Rattle.nam_store.proofs.KindsLemmas.{AllWritten, written_may}
use Rattle.nam_store.proofs.Lists.{everyone_put, some_within}
use Rattle.nam_store.proofs.StepLemmas.{read_leaves, verb_at_field, verb_changed, verb_leaves, verb_stands}
use Rattle.nam_store.proofs.StepLemmas.{verb_whole, written_is}

-- 1. Words

module _ (shape : Shape) (words : List ℕ) (all : AreWords words) where
  -- what a verb finds
  pub found_holds : (verb : VerbAt Field) → IsWord (found_at (memory shape words) verb)
  found_holds (ReadAt at) = words_at words (address shape at) all
  found_holds (WriteAt at word) = omega arith
  found_holds (ExchangeAt at expect word) = words_at words (address shape at) all

  -- and the words that it leaves
  pub left_hold : (verb : VerbAt Field) → WritesWord verb → AreWords (after_verb words (verb_there shape verb))
  left_hold (ReadAt at) is = all
  left_hold (WriteAt at word) is = words_set words (address shape at) word all is
  left_hold (ExchangeAt at expect word) is =
      either AreWords (slice_index words (address shape at) == expect) (slice_set words (address shape at) word) words
      (words_set words (address shape at) word all is) all

-- 2. A store

-- each worker has a client
pub client_of : (shape : Shape) (store : Store) → BaseOk shape store → (nth : ℕ) → nth < shape.workers
    → (client : ClientState) × (client_at store nth ≡ Some client)
client_of shape store base nth less =
    let same = base.workers in some_within store.clients nth (omega arith)

-- what a client's verb does to the words
pub does_law : DoesLaw
does_law shape store base nth client place here at =
    let ok = base.clients nth client here in
    let verb = next_verb shape client in
    let is = verb_at_field shape client place at base.limits ok.fits in
    let leaves = subst (OthersStay shape (memory shape store.words) (memory shape (step shape store nth client).words))
    (written_is shape client place at) (verb_leaves shape store.words verb base.whole is) in
    let own = subst (λ w. OwnOpen w client.last client.log.snaps client.txn) ok.own.worker_is ok.own.opened in
    record {
      at_field = is;
      changes = verb_changed shape store.words verb base.whole is;
      leaves = leaves;
      kinds = λ field of_shape unwritten.
          leaves field of_shape (λ (same : written_of shape client ≡ Some field).
          unwritten (subst (AllWritten (Writes (nth + 1) client)) same
          (written_may shape (nth + 1) client place at own)));
      whole = verb_whole shape store.words verb base.whole is;
    }

module _ (shape : Shape) (store : Store) (base : BaseOk shape store) (nth : ℕ) (client : ClientState)
    (here : client_at store nth ≡ Some client) where
  ok : ClientOk shape nth client
  ok = base.clients nth client here

  pub client_within : nth < shape.workers
  client_within = let within = slice_get_within store.clients nth client here in let same = base.workers in omega arith

  -- of which sort its step is, and what it is asked
  pub step_sort : (place : CallPoint) → client.call ≡ Some (At place)
      → let found = found_word shape store client in StepOf shape found client (client_after shape client found)
  step_sort place at = word_sort shape (found_word shape store client) client place ok.fits at

  pub asked_sort : (asked : Call) → MayAsk shape client asked → AskOf shape client (client_ask shape client asked)
  asked_sort asked may = ask_sort shape client asked may.fits

  -- where its point only reads, all words stay
  pub words_stay : (place : CallPoint) → client.call ≡ Some (At place) → written_of shape client ≡ None
      → (step shape store nth client).words ≡ store.words
  words_stay place at none = read_leaves shape store.words _ (written_is shape client place at ∙ none)

  -- the words are others, or the client
  moved : (words : List ℕ) (later : ClientState) → length words ≡ length store.words → AreWords words
      → ClientOk shape nth later → BaseOk shape (with_client (record store { words = words }) nth later)
  moved words later same all is = record {
    limits = base.limits;
    whole = same ∙ base.whole;
    words = all;
    workers = length-set store.clients nth later ∙ base.workers;
    clients = everyone_put (ClientOk shape) store.clients nth later base.clients is;
  }

  pub base_step : (place : CallPoint) → client.cut ≡ false → client.call ≡ Some (At place)
      → BaseOk shape (step shape store nth client)
  base_step place runs at =
      let verb = next_verb shape client in
      let writes = client_writes shape base.limits client verb ok.fits ok.holds (verb_stands shape client place at runs)
      in
      moved _ _ (does_law shape store base nth client place here at).whole
      (left_hold shape store.words base.words verb writes)
      (client_takes shape base.limits nth client ok place (found_word shape store client) runs at
      (found_holds shape store.words base.words verb))

  pub base_ask : (asked : Call) → MayAsk shape client asked → CallHolds asked
      → BaseOk shape (ask shape store nth client asked)
  base_ask asked may words =
      moved store.words _ (λ k. length store.words) base.words
      (client_asked shape base.limits nth client ok asked may words)

  pub base_abandon : Rests client.call → BaseOk shape (abandon store nth client)
  base_abandon rests =
      moved store.words _ (λ k. length store.words) base.words
      (client_abandons shape base.limits nth client ok rests)

  pub base_cut : BaseOk shape (cut store nth client)
  base_cut =
      moved store.words _ (λ k. length store.words) base.words (client_stops shape base.limits nth client ok)

-- 3. One step

pub base_keeps : KeepsLaw
base_keeps shape before _ (Takes nth client place here runs at) base =
    base_step shape before base nth client here place runs at
base_keeps shape before _ (Asks nth client asked here may words) base =
    base_ask shape before base nth client here asked may words
base_keeps shape before _ (Abandons nth client here rests) base = base_abandon shape before base nth client here rests
base_keeps shape before _ (Cuts nth client here) base = base_cut shape before base nth client here
