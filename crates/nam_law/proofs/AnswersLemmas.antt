-- What an operation comes to that looks for its key and reads there.
use Rattle.std.proofs.Common.{None, Option, Some, ap, refl, subst, sym, ℕ, ◌∙◌, ◌≡◌}
use Rattle.nam_calls.specs.Index.{find_after, nth_key}
use Rattle.nam_calls.specs.Memory.{memory}
use Rattle.nam_calls.specs.Reading.{read_begin, sight_of}
use Rattle.nam_calls.specs.Words.{path_of}
use Rattle.nam_calls.specs.declared.index.FindEnd.{FindEnd}
use Rattle.nam_calls.specs.declared.reading.ReadPoint.{ReadPoint}
use Rattle.nam_calls.specs.declared.reading.ReadingEnd.{ReadingEnd}
use Rattle.nam_calls.specs.declared.reading.ReadingEnd.TheVariants.{Astray, Got, Passed}
use Rattle.nam_catalog.specs.declared.shape.Shape.{Shape}
use Rattle.nam_ghost.specs.Ghost.{Ghost}
use Rattle.nam_ghost.specs.Keys.{ViewOk, key_view}
use Rattle.nam_ghost.specs.Law.{GroundOk, WordsOk}
use Rattle.nam_keys.proofs.PositionLemmas.{none_bears}
use Rattle.nam_law.proofs.GroundLemmas.{for_reads}
use Rattle.nam_law.specs.AnswersLaw.{AnswersLaw, AtPosition, Decides, Goes, IsOf, IsTooOld, Looks, Nowhere, Reads}
use Rattle.nam_protocol.specs.Client.{open_verb}
use Rattle.nam_protocol.specs.Operations.{op_path}
use Rattle.nam_protocol.specs.Reader.{Reader, reader_in}
use Rattle.nam_protocol.specs.Txn.{on_find, on_read}
use Rattle.nam_protocol.specs.TxnCalls.{txn_after}
use Rattle.nam_protocol.specs.declared.client.Answer.{Answer}
use Rattle.nam_protocol.specs.declared.client.CallPoint.{CallPoint}
use Rattle.nam_protocol.specs.declared.client.CallPoint.TheVariants.{InTxn}
use Rattle.nam_protocol.specs.declared.client.ClientState.{ClientState}
use Rattle.nam_protocol.specs.declared.client.Open.{Open}
use Rattle.nam_protocol.specs.declared.txn.TxnPoint.{TxnPoint}
use Rattle.nam_protocol.specs.declared.txn.TxnPoint.TheVariants.{Claiming, Committing, Finding, Reading}
use Rattle.nam_reads.proofs.FoundLemmas.{never_astray, newest_got, too_old}
use Rattle.nam_reads.specs.FoundLaw.{ReadsAs, now_read}
use Rattle.nam_store.specs.Store.{Store, client_at, found_word, verb_at}
use Rattle.nam_verbs.specs.VerbAt.{found_at}
use Rattle.nam_verbs.specs.declared.now.Now.{Now}
use Rattle.nam_verbs.specs.declared.now.Now.TheVariants.{At, Over}
use Rattle.si_model.specs.Evaluation.{op_key}
use Rattle.si_model.specs.declared.op.Op.{Op}
use Rattle.nam_calls.specs.declared.index.FindEnd.TheVariants as found_key

module _ (shape : Shape) (store : Store) (ghost : Ghost) (ok : WordsOk shape store ghost) (nth : ℕ)
    (client : ClientState) (here : client_at store nth ≡ Some client) (attempt : Open)
    (opened : client.txn ≡ Some attempt) (op : Op) where
  abbrev ground : GroundOk shape store ghost
  ground = ok.ground

  abbrev GoesOn : (point : TxnPoint) → Type 0
  GoesOn point = client.call ≡ Some (At (InTxn point))

  -- it looks for its key
  module _ (passed : ℕ) (runs : client.call ≡ Some (At (InTxn (Finding op passed)))) where
    finds : found_word shape store client
        ≡ memory shape store.words (nth_key (path_of shape (op_key op).table (op_key op).key) passed)
    finds =
        let m = memory shape store.words in
        ap (λ (call : Option (Now CallPoint Answer)). found_at m (verb_at shape client call)) runs
        ∙ ap (λ (txn : Option Open). found_at m (open_verb shape txn (Finding op passed))) opened

    looks : (end : Now ℕ FindEnd) → find_after (op_path shape op) passed (found_word shape store client) ≡ end
        → Goes shape store ghost attempt.state op (on_find shape attempt.state op end)
    looks (At next) is = Looks next
    looks (Over (found_key.At position)) is = Reads position read_begin
    looks (Over found_key.Absent) is =
        let key = op_key op in
        Decides None (Nowhere (none_bears shape store ground.base ghost.chains ground.keys nth client here key.table
        key.key passed (ap key_view runs)
        (subst (λ found. find_after (op_path shape op) passed found ≡ Over found_key.Absent) finds is)))

  -- it reads at its position
  module _ (position : ℕ) (point : ReadPoint) (runs : client.call ≡ Some (At (InTxn (Reading op position point)))) where
    abbrev reader : Reader
    reader = record {
      sight = sight_of shape (op_key op).table position;
      seen = attempt.state.seen;
      at = point;
    }

    abbrev reads_as : ReadsAs shape store reader
    reads_as = record {
      nth = nth;
      client = client;
      here = here;
      reads = ap (λ (txn : Option Open). reader_in shape txn client.call) opened
          ∙ ap (λ (call : Option (Now CallPoint Answer)). reader_in shape (Some attempt) call) runs;
    }

    bears : ViewOk shape (memory shape store.words) (key_view client.call)
    bears = (ground.keys.clients nth client here).at

    reads : (end : Now ReadPoint ReadingEnd) → now_read shape store reader reads_as ≡ end
        → Goes shape store ghost attempt.state op (on_read shape attempt.state op position end)
    reads (At next) is = Reads position next
    reads (Over (Got value)) is =
        Decides value (AtPosition position value (subst (λ (call : Option (Now CallPoint Answer)).
        ViewOk shape (memory shape store.words) (key_view call)) runs bears)
        (newest_got shape store ghost (for_reads shape store ghost ok) reader reads_as value is).0)
    reads (Over (Passed worker entry horizon)) is =
        let t = too_old shape store ghost (for_reads shape store ghost ok) reader reads_as worker entry horizon is in
        IsTooOld worker entry horizon t.0 t.1 t.2
    reads (Over Astray) is =
        absurd (never_astray shape store ghost (for_reads shape store ghost ok) reader reads_as is)

  pub goes : (point : TxnPoint) → client.call ≡ Some (At (InTxn point)) → IsOf op point
      → Goes shape store ghost attempt.state op
      (txn_after shape attempt.state point (found_word shape store client))
  goes (Finding o passed) runs same =
      subst (λ x. Goes shape store ghost attempt.state op
      (txn_after shape attempt.state (Finding x passed) (found_word shape store client))) (sym same)
      (looks passed (runs ∙ ap (λ x. Some (At (InTxn (Finding x passed)))) same) _ refl)
  goes (Reading o position point) runs same =
      subst (λ x. Goes shape store ghost attempt.state op
      (txn_after shape attempt.state (Reading x position point) (found_word shape store client))) (sym same)
      (reads position point (runs ∙ ap (λ x. Some (At (InTxn (Reading x position point)))) same) _ refl)
  goes (Claiming o at) runs same = absurd same
  goes (Committing at) runs same = absurd same

pub answers_law : AnswersLaw
answers_law shape store ghost ok nth client here attempt opened point runs op is =
    goes shape store ghost ok nth client here attempt opened op point runs is
