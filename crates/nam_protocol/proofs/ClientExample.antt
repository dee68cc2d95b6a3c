-- A client's calls with their answers: alone on the words of a store, and with found words that others may have left.
use Rattle.std.proofs.Common.{◌≡◌, ℕ, zero, suc, true, false, List, [], ◌∷◌, ◌++◌, length, Option, Some, None, refl}
use Rattle.si_model.specs.declared.log.Lock.{Lock}
use Rattle.si_model.specs.declared.log.Outcome.{Outcome}
use Rattle.si_model.specs.declared.log.Event.TheVariants.{NoRoom, Collected, CollectAgain}
use Rattle.si_model.specs.declared.log.Log.{Log}
use Rattle.nam_verbs.specs.Verb.{found_by, after_verb}
use Rattle.nam_verbs.specs.VerbAt.{VerbAt}
use Rattle.nam_catalog.specs.declared.form.Form.TheVariants.{Narrow}
use Rattle.nam_catalog.specs.declared.shape.Shape.{Shape}
use Rattle.nam_header.specs.Stamp.{with_lock, with_moved, stamp_word, mark}
use Rattle.nam_layout.specs.declared.field.Field.{Field}
use Rattle.nam_calls.specs.Memory.{verb_there}
use Rattle.nam_protocol.specs.declared.txn.TxnCall.TheVariants.{Get, Put, Add, Del, Need, Guard, Commit}
use Rattle.nam_protocol.specs.declared.txn.TxnAnswer.{TxnAnswer}
use Rattle.nam_protocol.specs.declared.client.Call.{Call}
use Rattle.nam_protocol.specs.declared.client.Call.TheVariants.{Begin, Txn, Scan, Tidy, Collect}
use Rattle.nam_protocol.specs.declared.client.Answer.{Answer}
use Rattle.nam_protocol.specs.declared.client.ClientState.{ClientState}
use Rattle.nam_protocol.specs.Telling.{new_client}
use Rattle.nam_protocol.specs.Client.{client_ask, client_verb, client_after, client_abandon}
use Rattle.nam_protocol.specs.CutClient.{client_cut, into_log}
use Rattle.nam_protocol.specs.Session.{answer_now}
use Rattle.nam_protocol.specs.Opening.{copies, load_from, opening_words}
use Rattle.nam_protocol.proofs.Shown.{shape, table, loaded, item, lock, tried, unbegun, move, move_done, move_back}
use Rattle.si_model.specs.declared.log.Outcome.TheVariants as outcome
use Rattle.nam_protocol.specs.declared.txn.TxnAnswer.TheVariants as txn
use Rattle.nam_protocol.specs.declared.client.Answer.TheVariants as answer

-- 1. Alone on the words

-- words, and a client whose verbs alone change them
pub record Alone : Type 0 where
  pub words : List ℕ
  pub client : ClientState

module _ (shape : Shape) where
  abbrev pub verb_done : Alone → VerbAt Field → Alone
  verb_done alone verb = record {
    words = after_verb alone.words (verb_there shape verb);
    client = client_after shape alone.client (found_by alone.words (verb_there shape verb));
  }

  -- the call that runs comes to its answer, in no more than so many verbs
  unfoldable pub after_verbs : ℕ → Alone → Alone
  after_verbs zero alone = alone
  after_verbs (suc verbs) alone = elim (client_verb shape alone.client) [
    | None ↦ alone
    | Some verb ↦ after_verbs verbs (verb_done alone verb)
  ]

  abbrev pub called : Alone → Call → Alone
  called alone call = after_verbs 1000 (record alone { client = client_ask shape alone.client call })

  abbrev answers_alone : Alone → List Call → List (Option Answer)
  answers_alone alone [] = []
  answers_alone alone (call ∷ calls) =
      let next = called alone call in answer_now next.client.call ∷ answers_alone next calls

  abbrev pub after_calls : Alone → List Call → Alone
  after_calls alone [] = alone
  after_calls alone (call ∷ calls) = after_calls (called alone call) calls

-- one worker, two keys in a table of two positions with a ring of one slot each, and one cell
abbrev pub small : Shape
small = shape Narrow 1 (table 1 2 1 ∷ []) 1 1 0

abbrev pub opened : Alone
opened = record {
  words = opening_words small (loaded 0 0 (5 ∷ []) ∷ loaded 0 1 (6 ∷ []) ∷ []);
  client = new_client 1 0;
}

abbrev first_calls : List Call
first_calls =
    Begin 1 1 ∷ Txn (Get 0 0) ∷ Txn (Put 0 0 (9 ∷ [])) ∷ Txn (Get 0 0) ∷ Txn (Add 0 1 1 true 3) ∷ Txn (Need 0 1 1 9) ∷
    Txn (Guard 0 0) ∷ Scan 0 0 9 ∷ Scan 0 1 1 ∷ Scan 0 2 9 ∷ Txn Commit ∷ Tidy 0 0 ∷ Tidy 0 0 ∷ Tidy 0 7 ∷ Tidy 0 1 ∷
    Collect 0 ∷ Tidy 0 1 ∷ []

abbrev later_calls : List Call
later_calls =
    Begin 2 1 ∷ Txn (Put 0 4 (1 ∷ [])) ∷ Begin 2 2 ∷ Txn (Get 0 4) ∷ Txn Commit ∷ Begin 3 1 ∷ Scan 0 0 9 ∷
    Txn (Del 0 0) ∷ Scan 0 0 9 ∷ Txn (Need 0 0 1 1) ∷ Begin 4 1 ∷ Txn (Guard 0 1) ∷ []

-- a transaction with its own writes, and the tidying of its two keys
first_answers : answers_alone small opened first_calls
    ≡ Some (answer.Begun 0) ∷ Some (answer.Txn (txn.Value (Some (5 ∷ [])))) ∷ Some (answer.Txn txn.Written) ∷
    Some (answer.Txn (txn.Value (Some (9 ∷ [])))) ∷ Some (answer.Txn (txn.Added 9)) ∷ Some (answer.Txn txn.Met) ∷
    Some (answer.Txn (txn.Value (Some (9 ∷ [])))) ∷ Some (answer.Scanned 2) ∷ Some (answer.Scanned 1) ∷
    Some (answer.Scanned 0) ∷ Some (answer.Txn (txn.Committed 1)) ∷ Some answer.Moved ∷ Some answer.Nothing ∷
    Some answer.Nothing ∷ Some (answer.NoRoom 0) ∷ Some (answer.Collected (1 ∷ [])) ∷ Some answer.Moved ∷ []
unfolding after_verbs copies load_from
first_answers = refl

-- a full table, a commit of no writes, and a need of a key that the transaction has deleted
later_answers : answers_alone small (after_calls small opened first_calls) later_calls
    ≡ Some (answer.Begun 1) ∷ Some (answer.Txn (txn.NoSpace 0)) ∷ Some (answer.Begun 1) ∷
    Some (answer.Txn (txn.Value None)) ∷ Some (answer.Txn txn.ReadOnly) ∷ Some (answer.Begun 1) ∷
    Some (answer.Scanned 2) ∷ Some (answer.Txn txn.Written) ∷ Some (answer.Scanned 1) ∷
    Some (answer.Txn txn.Declined) ∷ Some (answer.Begun 1) ∷ Some (answer.Txn (txn.Value (Some (9 ∷ [])))) ∷ []
unfolding after_verbs copies load_from
later_answers = refl

abbrev last_client : ClientState
last_client = (after_calls small (after_calls small opened first_calls) later_calls).client

-- the log of all these calls, where the fourth transaction, which is still open, ends so
abbrev log_ending : Outcome → Log
log_ending how = record {
  events =
      tried 1 1 0 8 2 2 (outcome.Commit 1) ∷ move 0 0 0 0 0 move_done ∷ NoRoom 0 ∷ Collected 0 1 (1 ∷ []) false ∷
      move 0 0 1 0 0 move_done ∷ tried 2 1 1 0 0 0 (outcome.NoSpace 0) ∷ tried 2 2 1 1 0 0 outcome.ReadOnly ∷
      tried 3 1 1 4 0 0 (outcome.Declined 4) ∷ tried 4 1 1 1 0 0 how ∷ [];
  reads =
      item 0 0 (Some (5 ∷ [])) ∷ item 0 0 (Some (9 ∷ [])) ∷ item 0 1 (Some (6 ∷ [])) ∷ item 0 1 (Some (9 ∷ [])) ∷
      item 0 0 (Some (9 ∷ [])) ∷ item 0 0 (Some (9 ∷ [])) ∷ item 0 1 (Some (9 ∷ [])) ∷ item 0 1 (Some (9 ∷ [])) ∷
      item 0 4 None ∷ item 0 0 (Some (9 ∷ [])) ∷ item 0 1 (Some (9 ∷ [])) ∷ item 0 1 (Some (9 ∷ [])) ∷
      item 0 0 None ∷ item 0 1 (Some (9 ∷ [])) ∷ [];
  locks = lock 0 0 0 0 ∷ lock 0 1 0 0 ∷ [];
  writes = item 0 0 (Some (9 ∷ [])) ∷ item 0 1 (Some (9 ∷ [])) ∷ [];
  snaps = (0 ∷ []) ∷ (1 ∷ []) ∷ (1 ∷ []) ∷ (1 ∷ []) ∷ (1 ∷ []) ∷ (1 ∷ []) ∷ [];
}

closed_while_open : into_log small last_client ≡ log_ending outcome.Left
unfolding after_verbs copies load_from
closed_while_open = refl

-- stopped between two calls
cut_while_open : into_log small (client_cut last_client) ≡ log_ending outcome.Cut
unfolding after_verbs copies load_from
cut_while_open = refl

abandoned : (client_abandon last_client).log ≡ log_ending outcome.Left
unfolding after_verbs copies load_from
abandoned = refl

-- what was given up is closed no second time
abandoned_and_closed : into_log small (client_abandon last_client) ≡ log_ending outcome.Left
unfolding after_verbs copies load_from
abandoned_and_closed = refl

-- 2. With found words

-- a call, and the words that its verbs find
pub record Asked : Type 0 where
  pub call : Call
  pub found : List ℕ

-- the answers of calls, and the log at the end
record Heard : Type 0 where
  answers : List (Option Answer)
  log : Log

abbrev pub asked : Call → List ℕ → Asked
asked call found = record { call = call; found = found }

module _ (shape : Shape) where
  abbrev pub after_found : ClientState → List ℕ → ClientState
  after_found client [] = client
  after_found client (word ∷ words) = after_found (client_after shape client word) words

  abbrev pub after_asked : ClientState → Asked → ClientState
  after_asked client a = after_found (client_ask shape client a.call) a.found

  abbrev heard_before : List (Option Answer) → ClientState → List Asked → Heard
  heard_before answers client [] = record { answers = answers; log = into_log shape client }
  heard_before answers client (a ∷ rest) =
      let next = after_asked client a in heard_before (answers ++ answer_now next.call ∷ []) next rest

  abbrev heard : ClientState → List Asked → Heard
  heard client asks = heard_before [] client asks

-- a second worker
abbrev pub pair : Shape
pair = shape Narrow 2 (table 1 2 1 ∷ []) 1 1 0

abbrev pub worker_1 : ClientState
worker_1 = new_client 1 0

-- a transaction that sees no commit
abbrev pub begun : Asked
begun = asked (Begin 1 1) (0 ∷ 0 ∷ 0 ∷ 0 ∷ [])

abbrev told_begun : Option Answer
told_begun = Some (answer.Begun 0)

abbrev told_txn : TxnAnswer → Option Answer
told_txn end = Some (answer.Txn end)

-- the header of a version of worker 2's first commit
abbrev pub newer_header : ℕ
newer_header = stamp_word Narrow (record { thread = 2; number = 1 })

-- one attempt, with its locks and the snapshot of no commit
abbrev log_of : Outcome → List Lock → Log
log_of how locks = record {
  events = tried 1 1 0 0 (length locks) 0 how ∷ [];
  reads = [];
  locks = locks;
  writes = [];
  snaps = (0 ∷ 0 ∷ []) ∷ [];
}

begin_again : heard pair worker_1 (asked (Begin 1 1) (0 ∷ 0 ∷ 0 ∷ 1 ∷ []) ∷ []) ≡ record {
  answers = Some (answer.Again 2 0 1) ∷ [];
  log = record { events = unbegun 1 1 (outcome.Again 2 0 1) ∷ []; reads = []; locks = []; writes = []; snaps = [] };
}
begin_again = refl

-- the version that it looks for is nowhere, and the horizon has passed the snapshot
get_too_old : heard pair worker_1 (begun ∷ asked (Txn (Get 0 0)) (1 ∷ newer_header ∷ mark ∷ 0 ∷ 0 ∷ 3 ∷ []) ∷ [])
    ≡ record {
      answers = told_begun ∷ told_txn (txn.TooOld 2 0 3) ∷ [];
      log = log_of (outcome.TooOld 2 0 3) [];
    }
get_too_old = refl

-- it is nowhere, and the horizon has not passed
get_astray : heard pair worker_1 (begun ∷ asked (Txn (Get 0 0)) (1 ∷ newer_header ∷ mark ∷ 0 ∷ 0 ∷ 0 ∷ []) ∷ [])
    ≡ record {
      answers = told_begun ∷ told_txn txn.Astray ∷ [];
      log = log_of outcome.Left [];
    }
get_astray = refl

-- the same at the second position of a scan, which then lists no row
scan_too_old : heard pair worker_1 (
    begun
    ∷ asked (Scan 0 0 9) (1 ∷ 0 ∷ 5 ∷ 0 ∷ 2 ∷ newer_header ∷ mark ∷ 0 ∷ 0 ∷ 3 ∷ [])
    ∷ []
    ) ≡ record {
      answers = told_begun ∷ told_txn (txn.TooOld 2 0 3) ∷ [];
      log = log_of (outcome.TooOld 2 0 3) [];
    }
scan_too_old = refl

scan_astray : heard pair worker_1 (
    begun
    ∷ asked (Scan 0 0 9) (1 ∷ 0 ∷ 5 ∷ 0 ∷ 2 ∷ newer_header ∷ mark ∷ 0 ∷ 0 ∷ 0 ∷ [])
    ∷ []
    ) ≡ record {
      answers = told_begun ∷ told_txn txn.Astray ∷ [];
      log = log_of outcome.Left [];
    }
scan_astray = refl

-- the second of two records is locked: the first lock is listed, and given back
second_locked : heard pair worker_1 (
    begun
    ∷ asked (Txn (Put 0 0 (7 ∷ []))) (1 ∷ [])
    ∷ asked (Txn (Put 0 1 (7 ∷ []))) (2 ∷ [])
    ∷ asked (Txn Commit) (0 ∷ 0 ∷ with_lock Narrow 2 0 ∷ 0 ∷ [])
    ∷ []
    ) ≡ record {
      answers = told_begun ∷ told_txn txn.Written ∷ told_txn txn.Written ∷ told_txn (txn.Locked (lock 0 1 0 0)) ∷ [];
      log = log_of (outcome.Locked (lock 0 1 0 0)) (lock 0 0 0 0 ∷ []);
    }
second_locked = refl

-- another has committed between the look and the exchange
newer_at_exchange : heard pair worker_1 (
    begun
    ∷ asked (Txn (Put 0 0 (7 ∷ []))) (1 ∷ [])
    ∷ asked (Txn Commit) (0 ∷ newer_header ∷ [])
    ∷ []
    ) ≡ record {
      answers = told_begun ∷ told_txn txn.Written ∷ told_txn (txn.Newer (lock 0 0 2 1)) ∷ [];
      log = log_of (outcome.Newer (lock 0 0 2 1)) [];
    }
newer_at_exchange = refl

-- the slot's version was not moved: the lock is listed, and given back
slot_is_full : heard pair worker_1 (
    begun
    ∷ asked (Txn (Put 0 0 (7 ∷ []))) (1 ∷ [])
    ∷ asked (Txn Commit) (0 ∷ 0 ∷ 3 ∷ 0 ∷ 0 ∷ [])
    ∷ []
    ) ≡ record {
      answers = told_begun ∷ told_txn txn.Written ∷ told_txn (txn.Full (lock 0 0 0 0)) ∷ [];
      log = log_of (outcome.Full (lock 0 0 0 0)) (lock 0 0 0 0 ∷ []);
    }
slot_is_full = refl

-- the last number of the form is used, which is known without a verb
number_is_spent : heard small (new_client 1 4294967295) (
    asked (Begin 1 1) (4294967295 ∷ 4294967295 ∷ [])
    ∷ asked (Txn (Put 0 0 (7 ∷ []))) (1 ∷ [])
    ∷ asked (Txn Commit) []
    ∷ []
    ) ≡ record {
      answers = told_begun ∷ told_txn txn.Written ∷ told_txn txn.Spent ∷ [];
      log = record (log_of outcome.Spent []) { snaps = (4294967295 ∷ []) ∷ [] };
    }
number_is_spent = refl

-- the slot's header has changed under the copy
tidied_by_another : heard small worker_1 (
    asked (Tidy 0 0)
    (1 ∷ 1 ∷ 0 ∷ newer_header ∷ 0 ∷ 0 ∷ 5 ∷ 0 ∷ 0 ∷ 0 ∷ 0 ∷ with_moved Narrow 0 ∷ 0 ∷ [])
    ∷ []
    ) ≡ record {
      answers = Some answer.Back ∷ [];
      log = record { events = move 0 0 0 0 0 move_back ∷ []; reads = []; locks = []; writes = []; snaps = [] };
    }
tidied_by_another = refl

-- the log of a collection with the snapshot of a commit of each
abbrev collected : Log
collected = record {
  events = Collected 0 2 (1 ∷ 1 ∷ []) false ∷ [];
  reads = [];
  locks = [];
  writes = [];
  snaps = (1 ∷ 1 ∷ []) ∷ [];
}

-- an entry of the horizon above the snapshot's is known as it was found, and one below as it was raised
collect_knows_more : heard pair worker_1 (asked (Collect 0) (1 ∷ 1 ∷ 1 ∷ 1 ∷ 3 ∷ 0 ∷ 0 ∷ 0 ∷ []) ∷ []) ≡ record {
  answers = Some (answer.Collected (3 ∷ 1 ∷ [])) ∷ [];
  log = collected;
}
collect_knows_more = refl

-- another has raised the second entry first
collect_raises_late : heard pair worker_1 (asked (Collect 0) (1 ∷ 1 ∷ 1 ∷ 1 ∷ 1 ∷ 0 ∷ 2 ∷ 0 ∷ []) ∷ []) ≡ record {
  answers = Some (answer.Collected (1 ∷ 2 ∷ [])) ∷ [];
  log = collected;
}
collect_raises_late = refl

collect_again : heard pair worker_1 (asked (Collect 0) (1 ∷ 1 ∷ 1 ∷ 2 ∷ []) ∷ []) ≡ record {
  answers = Some (answer.Again 2 1 2) ∷ [];
  log = record { events = CollectAgain 0 2 1 2 ∷ []; reads = []; locks = []; writes = []; snaps = [] };
}
collect_again = refl
