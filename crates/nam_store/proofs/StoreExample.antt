-- A store of two workers, some of whose calls overlap.
use Rattle.std.proofs.Common.{List, None, Option, Some, [], map, refl, suc, zero, ℕ, ◌∷◌, ◌≡◌}
use Rattle.std.specs.Prelude.{if◌then◌else◌, is_some}
use Rattle.si_model.specs.declared.log.Event.{Event}
use Rattle.si_model.specs.declared.log.Outcome.TheVariants as outcome
use Rattle.nam_catalog.specs.declared.form.Form.TheVariants.{Narrow}
use Rattle.nam_catalog.specs.declared.shape.Shape.{Shape}
use Rattle.nam_header.specs.Stamp.{mark, stamp_word, with_lock}
use Rattle.nam_layout.specs.declared.field.Field.TheVariants as field
use Rattle.nam_calls.specs.Memory.{memory}
use Rattle.nam_protocol.specs.declared.client.Answer.{Answer}
use Rattle.nam_protocol.specs.declared.client.Answer.TheVariants as answer
use Rattle.nam_protocol.specs.declared.client.Call.{Call}
use Rattle.nam_protocol.specs.declared.client.Call.TheVariants.{Begin, Txn}
use Rattle.nam_protocol.specs.declared.client.ClientState.{ClientState}
use Rattle.nam_protocol.specs.declared.txn.TxnAnswer.TheVariants as txn
use Rattle.nam_protocol.specs.declared.txn.TxnCall.TheVariants.{Commit, Put}
use Rattle.nam_protocol.specs.Client.{client_verb}
use Rattle.nam_protocol.specs.Opening.{copies, load_from}
use Rattle.nam_protocol.specs.Session.{answer_now}
use Rattle.nam_protocol.proofs.Shown.{loaded, lock, shape, table, tried}
use Rattle.nam_store.specs.Opening.{opening_store}
use Rattle.nam_store.specs.Store.{Store, abandon, ask, client_at, cut, step}

-- two keys in a table of two positions with a ring of one slot; key 0 is loaded
abbrev two : Shape
two = shape Narrow 2 (table 1 2 1 ∷ []) 1 1 0

abbrev opened : Store
opened = opening_store two (loaded 0 0 (5 ∷ []) ∷ [])

-- 1. What one client does, if there is one

abbrev one_verb : Store → ℕ → Option ClientState → Store
one_verb store nth None = store
one_verb store nth (Some client) = if is_some (client_verb two client) then step two store nth client else store

-- so many verbs, or as many as its call has
unfoldable verbs : ℕ → ℕ → Store → Store
verbs nth zero store = store
verbs nth (suc n) store = verbs nth n (one_verb store nth (client_at store nth))

abbrev on_client : (Store → ℕ → ClientState → Store) → ℕ → Option ClientState → Store → Store
on_client does nth None store = store
on_client does nth (Some client) store = does store nth client

abbrev asked : ℕ → Call → Store → Store
asked nth call store = on_client (λ s n client. ask two s n client call) nth (client_at store nth) store

abbrev called : ℕ → Call → Store → Store
called nth call store = verbs nth 100 (asked nth call store)

abbrev answer_at : ℕ → Store → Option Answer
answer_at nth store = of_client (client_at store nth)
  where
    of_client : Option ClientState → Option Answer
    of_client None = None
    of_client (Some client) = answer_now client.call

abbrev events_at : ℕ → Store → List Event
events_at nth store = of_client (client_at store nth)
  where
    of_client : Option ClientState → List Event
    of_client None = []
    of_client (Some client) = client.log.events

-- the worker's entry, and the words of the loaded key: its header, count and value, and its slot's
abbrev shown : ℕ → Store → List ℕ
shown worker store = map (memory two store.words)
    (field.Entry worker ∷ field.Header 0 ∷ field.Count 0 ∷ field.Word 0 0 ∷ field.SlotHeader 0 0 ∷ field.SlotEnd 0 0 ∷
    field.SlotWord 0 0 0 ∷ [])

-- 2. One after another

abbrev to_commit : ℕ → ℕ → Store → Store
to_commit nth value store = called nth (Txn (Put 0 0 (value ∷ []))) (called nth (Begin 1 1) store)

abbrev committed : Store
committed = called 0 (Txn Commit) (to_commit 0 9 opened)

abbrev first_stamp : ℕ
first_stamp = stamp_word Narrow record { thread = 1; number = 1 }

it_commits : answer_at 0 committed ≡ Some (answer.Txn (txn.Committed 1))
unfolding verbs copies load_from
it_commits = refl

it_is_shown : shown 1 committed ≡ 1 ∷ first_stamp ∷ 1 ∷ 9 ∷ 0 ∷ first_stamp ∷ 5 ∷ []
unfolding verbs copies load_from
it_is_shown = refl

-- 3. Under the first one's lock

abbrev locked : Store
locked = verbs 0 3 (asked 0 (Txn Commit) (to_commit 0 9 opened))

abbrev missed : Store
missed = called 1 (Txn Commit) (to_commit 1 7 locked)

it_is_locked : shown 1 missed ≡ 0 ∷ with_lock Narrow 1 0 ∷ 0 ∷ 5 ∷ mark ∷ 0 ∷ 0 ∷ []
unfolding verbs copies load_from
it_is_locked = refl

it_misses : answer_at 1 missed ≡ Some (answer.Txn (txn.Locked (lock 0 0 0 0)))
unfolding verbs copies load_from
it_misses = refl

-- the first one is stopped: it does nothing more, and its lock stays
abbrev stopped : Store
stopped = verbs 0 100 (on_client cut 0 (client_at missed 0) missed)

it_stays : shown 1 stopped ≡ shown 1 missed
unfolding verbs copies load_from
it_stays = refl

-- the other one gives its next transaction up, which is listed after the one that missed
abbrev given_up : Store
given_up = let begun = called 1 (Begin 2 1) stopped in on_client abandon 1 (client_at begun 1) begun

it_is_left : events_at 1 given_up
    ≡ tried 1 1 0 0 0 0 (outcome.Locked (lock 0 0 0 0)) ∷ tried 2 1 0 0 0 0 outcome.Left ∷ []
unfolding verbs copies load_from
it_is_left = refl
