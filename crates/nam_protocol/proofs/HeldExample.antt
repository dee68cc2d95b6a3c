-- The verbs of a commit in form Held, and the logs of a worker that is stopped at one of them.
use Rattle.std.proofs.Common.{◌≡◌, ℕ, zero, suc, true, false, List, [], ◌∷◌, drop, Option, Some, None, refl}
use Rattle.si_model.specs.declared.op.Op.TheVariants as op
use Rattle.si_model.specs.declared.log.Event.{Event}
use Rattle.si_model.specs.declared.log.Event.TheVariants.{TailCut}
use Rattle.si_model.specs.declared.log.Outcome.TheVariants.{Cut}
use Rattle.si_model.specs.declared.log.Outcome.TheVariants as outcome
use Rattle.nam_verbs.specs.Verb.{after_verb}
use Rattle.nam_verbs.specs.VerbAt.{VerbAt, ReadAt, WriteAt, ExchangeAt}
use Rattle.nam_catalog.specs.declared.form.Form.TheVariants.{Held}
use Rattle.nam_catalog.specs.declared.shape.Shape.{Shape}
use Rattle.nam_header.specs.Stamp.{with_lock, version_word, stamp_word, mark}
use Rattle.nam_layout.specs.declared.field.Field.{Field}
use Rattle.nam_layout.specs.declared.field.Field.TheVariants.{Entry, Header, Count, Word, SlotHeader, SlotEnd, SlotWord}
use Rattle.nam_layout.specs.declared.field.Field.TheVariants.{Intent}
use Rattle.nam_calls.specs.Memory.{verb_there}
use Rattle.nam_protocol.specs.declared.txn.TxnCall.TheVariants.{Put, Del, Guard, Commit}
use Rattle.nam_protocol.specs.declared.client.Call.{Call}
use Rattle.nam_protocol.specs.declared.client.Call.TheVariants.{Begin, Txn}
use Rattle.nam_protocol.specs.declared.txn.TxnAnswer.TheVariants as txn
use Rattle.nam_protocol.specs.declared.client.Answer.{Answer}
use Rattle.nam_protocol.specs.declared.client.Answer.TheVariants as answer
use Rattle.nam_protocol.specs.CutClient.{client_cut, into_log}
use Rattle.nam_protocol.specs.Session.{answer_now}
use Rattle.nam_protocol.specs.Left.{commit_bound}
use Rattle.nam_protocol.specs.Client.{client_ask, client_verb}
use Rattle.nam_protocol.specs.Telling.{new_client}
use Rattle.nam_protocol.specs.Opening.{copies, load_from, opening_words}
use Rattle.nam_protocol.proofs.ClientExample.{Alone, verb_done, after_verbs, after_calls}
use Rattle.nam_protocol.proofs.Shown.{shape, table, loaded, lock, tried}

-- 1. The order of verbs

-- two workers, and one table of four positions with rings of two slots
abbrev held_shape : Shape
held_shape = shape Held 2 (table 1 4 2 ∷ []) 1 1 0

abbrev opened : Alone
opened = record {
  words = opening_words held_shape (loaded 0 0 (0 ∷ []) ∷ loaded 0 1 (0 ∷ []) ∷ []);
  client = new_client 1 0;
}

-- the verbs of the call that runs, no more than so many
unfoldable verbs_of : ℕ → Alone → List (VerbAt Field)
verbs_of zero alone = []
verbs_of (suc verbs) alone = elim (client_verb held_shape alone.client) [
  | None ↦ []
  | Some verb ↦ verb ∷ verbs_of verbs (verb_done held_shape alone verb)
]

-- the verbs of a call after others
abbrev verbs_after : List Call → Call → List (VerbAt Field)
verbs_after calls call =
    let alone = after_calls held_shape opened calls in
    verbs_of 1000 (record alone { client = client_ask held_shape alone.client call })

abbrev opening_header : ℕ
opening_header = stamp_word Held record { thread = 0; number = 0 }

-- a commit of two values: both are listed, then locked; the decision stands before the first copy
two_values : verbs_after (Begin 1 1 ∷ Txn (Put 0 0 (1 ∷ [])) ∷ Txn (Put 0 1 (1 ∷ [])) ∷ []) (Txn Commit)
    ≡ WriteAt (Intent 1 2) 0 ∷ WriteAt (Intent 1 3) 0 ∷ WriteAt (Intent 1 5) 1 ∷ WriteAt (Intent 1 13) 1 ∷
    WriteAt (Intent 1 14) 0 ∷ WriteAt (Intent 1 16) 1 ∷ WriteAt (Intent 1 1) 1 ∷ WriteAt (Intent 1 0) 9 ∷
    ReadAt (Header 0) ∷ ExchangeAt (Header 0) opening_header (with_lock Held 1 opening_header) ∷ ReadAt (Header 1) ∷
    ExchangeAt (Header 1) opening_header (with_lock Held 1 opening_header) ∷ ReadAt (Count 0) ∷
    ReadAt (SlotHeader 0 0) ∷ ReadAt (Count 1) ∷ ReadAt (SlotHeader 1 0) ∷ WriteAt (Intent 1 4) 0 ∷
    WriteAt (Intent 1 15) 0 ∷ WriteAt (Intent 1 0) 10 ∷ ReadAt (Word 0 0) ∷ WriteAt (SlotHeader 0 0) mark ∷
    WriteAt (SlotEnd 0 0) (stamp_word Held record { thread = 1; number = 1 }) ∷ WriteAt (SlotWord 0 0 0) 0 ∷
    WriteAt (SlotHeader 0 0) opening_header ∷ WriteAt (Word 0 0) 1 ∷ WriteAt (Count 0) 1 ∷
    WriteAt (Header 0) (version_word Held record { thread = 1; number = 1 } false) ∷ ReadAt (Word 1 0) ∷
    WriteAt (SlotHeader 1 0) mark ∷ WriteAt (SlotEnd 1 0) (stamp_word Held record { thread = 1; number = 1 }) ∷
    WriteAt (SlotWord 1 0 0) 0 ∷ WriteAt (SlotHeader 1 0) opening_header ∷ WriteAt (Word 1 0) 1 ∷
    WriteAt (Count 1) 1 ∷ WriteAt (Header 1) (version_word Held record { thread = 1; number = 1 } false) ∷
    WriteAt (Entry 1) 1 ∷ WriteAt (Intent 1 0) 0 ∷ []
unfolding after_verbs verbs_of copies load_from
two_values = refl

-- a deletion and a guard have no data, and the intent is cleared after the guard is free
a_deletion_and_a_guard : verbs_after (Begin 1 1 ∷ Txn (Del 0 0) ∷ Txn (Guard 0 1) ∷ []) (Txn Commit)
    ≡ WriteAt (Intent 1 2) 0 ∷ WriteAt (Intent 1 3) 1 ∷ WriteAt (Intent 1 13) 1 ∷ WriteAt (Intent 1 14) 2 ∷
    WriteAt (Intent 1 1) 1 ∷ WriteAt (Intent 1 0) 9 ∷ ReadAt (Header 0) ∷
    ExchangeAt (Header 0) opening_header (with_lock Held 1 opening_header) ∷ ReadAt (Header 1) ∷
    ExchangeAt (Header 1) opening_header (with_lock Held 1 opening_header) ∷ ReadAt (Count 0) ∷
    ReadAt (SlotHeader 0 0) ∷ WriteAt (Intent 1 4) 0 ∷ WriteAt (Intent 1 0) 10 ∷ ReadAt (Word 0 0) ∷
    WriteAt (SlotHeader 0 0) mark ∷ WriteAt (SlotEnd 0 0) (stamp_word Held record { thread = 1; number = 1 }) ∷
    WriteAt (SlotWord 0 0 0) 0 ∷ WriteAt (SlotHeader 0 0) opening_header ∷ WriteAt (Count 0) 1 ∷
    WriteAt (Header 0) (version_word Held record { thread = 1; number = 1 } true) ∷ WriteAt (Entry 1) 1 ∷
    WriteAt (Header 1) opening_header ∷ WriteAt (Intent 1 0) 0 ∷ []
unfolding after_verbs verbs_of copies load_from
a_deletion_and_a_guard = refl

-- 2. What is in the way

-- another worker has written these words
abbrev words_left : Alone → List (VerbAt Field) → Alone
words_left alone [] = alone
words_left alone (verb ∷ verbs) =
    words_left (record alone { words = after_verb alone.words (verb_there held_shape verb) }) verbs

abbrev both_put : Alone
both_put = after_calls held_shape opened (Begin 1 1 ∷ Txn (Put 0 0 (1 ∷ [])) ∷ Txn (Put 0 1 (1 ∷ [])) ∷ [])

-- the commit is asked over such words
abbrev asked_over : List (VerbAt Field) → Alone
asked_over left = let alone = words_left both_put left in record alone {
  client = client_ask held_shape alone.client (Txn Commit);
}

-- its verbs after the 8 that list the two records, and its answer
pub record Refused : Type 0 where
  pub verbs : List (VerbAt Field)
  pub answer : Option Answer

abbrev refused_over : List (VerbAt Field) → Refused
refused_over left = record {
  verbs = drop 8 (verbs_of 1000 (asked_over left));
  answer = answer_now (after_verbs held_shape 1000 (asked_over left)).client.call;
}

abbrev locked_header : ℕ
locked_header = with_lock Held 2 opening_header

-- the first record's lock is written back and the intent is cleared before the answer
a_locked_record : refused_over (WriteAt (Header 1) locked_header ∷ []) ≡ record {
  verbs = ReadAt (Header 0) ∷ ExchangeAt (Header 0) opening_header (with_lock Held 1 opening_header) ∷
      ReadAt (Header 1) ∷ WriteAt (Header 0) opening_header ∷ WriteAt (Intent 1 0) 0 ∷ [];
  answer = Some (answer.Txn (txn.Locked (lock 0 1 0 0)));
}
unfolding after_verbs verbs_of copies load_from
a_locked_record = refl

a_newer_record : refused_over
    (WriteAt (Header 0) (version_word Held record { thread = 2; number = 1 } false) ∷ []) ≡ record {
      verbs = ReadAt (Header 0) ∷ WriteAt (Intent 1 0) 0 ∷ [];
      answer = Some (answer.Txn (txn.Newer (lock 0 0 2 1)));
    }
unfolding after_verbs verbs_of copies load_from
a_newer_record = refl

-- both locks are written back
a_full_ring : refused_over (WriteAt (SlotHeader 0 0) opening_header ∷ []) ≡ record {
  verbs = ReadAt (Header 0) ∷ ExchangeAt (Header 0) opening_header (with_lock Held 1 opening_header) ∷
      ReadAt (Header 1) ∷ ExchangeAt (Header 1) opening_header (with_lock Held 1 opening_header) ∷
      ReadAt (Count 0) ∷ ReadAt (SlotHeader 0 0) ∷ WriteAt (Header 0) opening_header ∷
      WriteAt (Header 1) opening_header ∷ WriteAt (Intent 1 0) 0 ∷ [];
  answer = Some (answer.Txn (txn.Full (lock 0 0 0 0)));
}
unfolding after_verbs verbs_of copies load_from
a_full_ring = refl

-- 3. The worker is stopped

-- the events of a worker that is stopped after so many verbs of its commit
abbrev events_at : ℕ → List Event
events_at verbs = (into_log held_shape (client_cut (after_verbs held_shape verbs (asked_over [])).client)).events

-- no lock yet, or all locks, or all but the entry: it is no commit
cut_while_listing : events_at 7 ≡ tried 1 1 0 0 0 0 Cut ∷ []
unfolding after_verbs copies load_from
cut_while_listing = refl

cut_with_a_lock : events_at 10 ≡ tried 1 1 0 0 1 0 Cut ∷ []
unfolding after_verbs copies load_from
cut_with_a_lock = refl

cut_before_the_entry : events_at 35 ≡ tried 1 1 0 0 2 0 Cut ∷ []
unfolding after_verbs copies load_from
cut_before_the_entry = refl

-- only the intent stands
cut_before_the_end : events_at 36 ≡ tried 1 1 0 0 2 2 (outcome.Commit 1) ∷ TailCut ∷ []
unfolding after_verbs copies load_from
cut_before_the_end = refl

-- 37 verbs are the most that two values of width 1 take
two_values_most : commit_bound held_shape (op.Put 0 0 (1 ∷ []) ∷ op.Put 0 1 (1 ∷ []) ∷ []) ≡ 37
two_values_most = refl
