-- A client as a reader: where it reads, and how it goes on after its word and after what it is asked.
use Rattle.std.proofs.Common.{List, None, Option, Some, inl, inr, length, refl, subst, sym, ℕ, ◌≡◌, ◌⊎◌}
use Rattle.std.proofs.lemmas.Option.{none-some, same_Some}
use Rattle.nam_calls.specs.Fits.{ReadFits}
use Rattle.nam_calls.specs.Horizon.{collect_after}
use Rattle.nam_calls.specs.Mover.{move_after}
use Rattle.nam_calls.specs.Reading.{read_after, read_verb, sight_of}
use Rattle.nam_calls.specs.declared.horizon.CollectPoint.{CollectPoint}
use Rattle.nam_calls.specs.declared.mover.MoveAnswer.{MoveAnswer}
use Rattle.nam_calls.specs.declared.mover.MovePoint.{MovePoint}
use Rattle.nam_catalog.specs.Fits.{FitsLimits}
use Rattle.nam_catalog.specs.declared.shape.Shape.{Shape}
use Rattle.nam_ghost.specs.Moments.{IsTaken}
use Rattle.nam_layout.proofs.PositionLemmas.{position_is_row}
use Rattle.nam_layout.specs.Address.{IsRow}
use Rattle.nam_layout.specs.Place.{bucket_of, cells_of, place_at}
use Rattle.nam_layout.specs.Rows.{row_of}
use Rattle.nam_layout.specs.declared.field.Field.{Field}
use Rattle.nam_protocol.proofs.FallsKeys.{op_table}
use Rattle.nam_protocol.proofs.GoesClient.{begin_goes, snap_goes}
use Rattle.nam_protocol.proofs.GoesCommit.{ask_commit_goes, commit_goes}
use Rattle.nam_protocol.specs.Client.{abandon_open, client_abandon, client_ask, on_collect, on_move}
use Rattle.nam_protocol.specs.ClientFits.{NowFits}
use Rattle.nam_protocol.specs.Own.{OwnOpen, Rests}
use Rattle.nam_protocol.specs.Reader.{Reader, ReadsAnew, ReadsOn, reader_at, reader_in, reader_of}
use Rattle.nam_protocol.specs.Sorts.{AskOf, AsksBegin, AsksCollect, AsksCommit, AsksPlain, Begins, Collects, Commits}
use Rattle.nam_protocol.specs.Sorts.{Finds, Moves, Reads, Snaps, StepOf, committing_at}
use Rattle.nam_protocol.specs.Telling.{go, stepped}
use Rattle.nam_protocol.specs.declared.client.Answer.{Answer}
use Rattle.nam_protocol.specs.declared.client.CallPoint.{CallPoint}
use Rattle.nam_protocol.specs.declared.client.CallPoint.TheVariants.{Beginning, Collecting, InTxn, Moving, Scanning}
use Rattle.nam_protocol.specs.declared.client.CallPoint.TheVariants.{Snapping}
use Rattle.nam_protocol.specs.declared.client.ClientState.{ClientState}
use Rattle.nam_protocol.specs.declared.client.Open.{Open}
use Rattle.nam_protocol.specs.declared.scan.ScanPoint.TheVariants.{ScanRead}
use Rattle.nam_protocol.specs.declared.txn.TxnPoint.TheVariants.{Reading}
use Rattle.nam_reads.specs.Comes.{row_sight}
use Rattle.nam_store.specs.Base.{BaseOk}
use Rattle.nam_store.specs.Store.{Store, client_at, next_verb}
use Rattle.nam_vector.specs.Snap.{snap_after, snap_begin}
use Rattle.nam_verbs.specs.VerbAt.{VerbAt}
use Rattle.nam_verbs.specs.declared.now.Now.{Now}
use Rattle.nam_verbs.specs.declared.now.Now.TheVariants.{At, Over}
use Rattle.si_model.specs.Evaluation.{op_key}
use Rattle.si_model.specs.Lists.{Listed}
use Rattle.nam_calls.specs.declared.mover.MoveAnswer.TheVariants as move_end

-- 1. Where it reads

-- it looks at a row of the store, its point fits, its verb is the read's, and its snapshot is one of these
pub record IsReading (shape : Shape) (snaps : List (List ℕ)) (verb : VerbAt Field) (reader : Reader) : Type 0 where
  pub inside : IsRow shape reader.sight.place.row
  pub sight_is : reader.sight ≡ row_sight shape reader.sight.place.row
  pub fits : ReadFits reader.sight reader.at
  pub verb_is : verb ≡ read_verb reader.sight reader.at
  pub listed : Listed reader.seen snaps

module _ (shape : Shape) (limits : FitsLimits shape) (client : ClientState) (worker last : ℕ)
    (snaps : List (List ℕ)) where
  abbrev here : Option Open → Option (Now CallPoint Answer) → Reader → Type 0
  here opened call reader =
      IsReading shape snaps (next_verb shape (record client { txn = opened; call = call })) reader

  reading_in : (opened : Option Open) (call : Option (Now CallPoint Answer)) → NowFits shape opened call
      → OwnOpen worker last snaps opened → (reader : Reader) → reader_in shape opened call ≡ Some reader
      → here opened call reader
  reading_in (Some attempt) (Some (At (InTxn (Reading op position at)))) fits own reader e =
      let table = (op_key op).table in
      let is : Reader = record { sight = sight_of shape table position; seen = attempt.state.seen; at = at } in
      subst (here (Some attempt) (Some (At (InTxn (Reading op position at))))) (same_Some is reader e) record {
        inside = (position_is_row shape.tables table position
            (op_table shape limits attempt.state.claims op fits.0, fits.1)).within;
        sight_is = refl;
        fits = fits.2;
        verb_is = refl;
        listed = own.listed;
      }
  reading_in (Some attempt) (Some (At (Scanning table low high (ScanRead position key at)))) fits own reader e =
      let is : Reader = record { sight = sight_of shape table position; seen = attempt.state.seen; at = at } in
      subst (here (Some attempt) (Some (At (Scanning table low high (ScanRead position key at)))))
      (same_Some is reader e) record {
        inside = (position_is_row shape.tables table position (fits.1, fits.2.0)).within;
        sight_is = refl;
        fits = fits.2.1;
        verb_is = refl;
        listed = own.listed;
      }
  reading_in (Some attempt) (Some (At (InTxn _))) fits own reader e = absurd (none-some reader e)
  reading_in (Some attempt) (Some (At (Scanning table low high _))) fits own reader e = absurd (none-some reader e)
  reading_in (Some attempt) (Some (At _)) fits own reader e = absurd (none-some reader e)
  reading_in (Some attempt) (Some (Over answer)) fits own reader e = absurd (none-some reader e)
  reading_in (Some attempt) None fits own reader e = absurd (none-some reader e)
  reading_in None (Some (At place)) fits own reader e = absurd (none-some reader e)
  reading_in None (Some (Over answer)) fits own reader e = absurd (none-some reader e)
  reading_in None None fits own reader e = absurd (none-some reader e)

module _ (shape : Shape) (store : Store) (base : BaseOk shape store) (nth : ℕ) (client : ClientState)
    (here : client_at store nth ≡ Some client) (reader : Reader) (reads : reader_of shape client ≡ Some reader) where
  pub reading : IsReading shape client.log.snaps (next_verb shape client) reader
  reading =
      let ok = base.clients nth client here in
      reading_in shape base.limits client client.worker client.last client.log.snaps client.txn client.call ok.fits.2
      ok.own.opened reader reads

  -- its snapshot was taken
  pub reading_taken : IsTaken store reader.seen
  reading_taken = (nth, (client, (here, reading.listed)))

-- 2. How it goes on

module _ (shape : Shape) where
  abbrev Anew : ClientState → Type 0
  Anew client = ReadsAnew (reader_of shape client)

  -- no version is read there
  abbrev ReadsNot : CallPoint → Type 0
  ReadsNot (InTxn at) = ⊥
  ReadsNot (Scanning table low high at) = ⊥
  ReadsNot _ = Unit {0}

  anew_at : (opened : Option Open) (place : CallPoint) → ReadsNot place → ReadsAnew (reader_at shape opened place)
  anew_at (Some attempt) (InTxn at) is = absurd is
  anew_at (Some attempt) (Scanning table low high at) is = absurd is
  anew_at (Some attempt) _ is = tt
  anew_at None place is = tt

  anew_none : (o : Option Reader) → o ≡ None → ReadsAnew o
  anew_none None e = tt
  anew_none (Some reader) e = absurd (none-some reader (sym e))

  moves_anew : (client : ClientState) (table key position bucket : ℕ) (now : Now MovePoint MoveAnswer)
      → Anew (on_move shape client table key position bucket now)
  moves_anew client table key position bucket (At place) = anew_at client.txn (Moving table key position place) tt
  moves_anew client table key position bucket (Over (move_end.Moved stamp)) = tt
  moves_anew client table key position bucket (Over (move_end.Back stamp)) = tt
  moves_anew client table key position bucket (Over move_end.Nothing) = tt
  moves_anew client table key position bucket (Over (move_end.NoRoom full)) = tt

  collects_anew : (client : ClientState) (bucket prefix : ℕ) (seen : List ℕ) (now : Now CollectPoint (List ℕ))
      → Anew (on_collect shape client bucket prefix seen now)
  collects_anew client bucket prefix seen (At place) = anew_at client.txn (Collecting bucket prefix seen place) tt
  collects_anew client bucket prefix seen (Over known) = tt

  -- after a word it reads no more, or a read begins, or its read goes on
  module _ (found : ℕ) where
    abbrev pub GoesOn : ClientState → ClientState → Type 0
    GoesOn before after =
        ReadsAnew (reader_of shape after)
        ⊎ ((reader : Reader) × (reader_of shape before ≡ Some reader)
        × ReadsOn reader (reader_of shape after) (read_after reader.sight reader.seen reader.at found))

    pub goes_on : (before after : ClientState) → StepOf shape found before after → GoesOn before after
    goes_on _ _ (Finds client place key plain anew) = inl anew
    goes_on _ _ (Reads client place reader at plain on) = inr (reader, at, on)
    goes_on _ _ (Moves client table key position at plain) =
        let place = place_at shape (row_of shape.tables table position) in
        inl (moves_anew (go client (Moving table key position at)) table key position (bucket_of shape place.row)
        (move_after place (cells_of shape (bucket_of shape place.row)) at found))
    goes_on _ _ (Collects client bucket prefix seen at plain) =
        inl (collects_anew (go client (Collecting bucket prefix seen at)) bucket prefix seen
        (collect_after (cells_of shape bucket) shape.workers seen at found))
    goes_on _ _ (Begins client txn nth at) =
        inl (begin_goes Anew shape (go client (Beginning txn nth at)) txn nth (snap_after shape.workers at found)
        (λ next e. anew_at client.txn (Beginning txn nth next) tt) (λ seen e. tt) (λ worker first second e. tt))
    goes_on _ _ (Snaps client bucket at) =
        inl (snap_goes Anew shape (go client (Snapping bucket at)) bucket (snap_after shape.workers at found)
        (λ next e. anew_at client.txn (Snapping bucket next) tt) (λ seen e. anew_at client.txn _ tt)
        (λ worker first second e. tt))
    goes_on _ _ (Commits client attempt at) =
        inl (commit_goes
        (λ step. Anew (stepped (committing_at client attempt at) attempt (length attempt.state.held) step))
        attempt.state at found (λ next e. tt) (λ header next e f. tt) (λ place count next e f. tt) (λ answer e. tt))

  -- and after what it is asked no more, or a read begins
  pub asked_anew : (before after : ClientState) → AskOf shape before after → Anew after
  asked_anew _ _ (AsksPlain client asked plain none) = anew_none (reader_of shape (client_ask shape client asked)) none
  asked_anew _ _ (AsksBegin client txn nth) = anew_at client.txn (Beginning txn nth snap_begin) tt
  asked_anew _ _ (AsksCollect client bucket) = anew_at client.txn (Snapping bucket snap_begin) tt
  asked_anew _ _ (AsksCommit client attempt) =
      ask_commit_goes (λ step. Anew (stepped (record client { txn = Some attempt }) attempt 0 step)) attempt.state
      shape (λ e. tt) (λ e f. tt) (λ e f g. tt) (λ e f g. tt)

  rests_anew : (opened : Option Open) (call : Option (Now CallPoint Answer)) → Rests call
      → ReadsAnew (reader_in shape opened call)
  rests_anew opened (Some (At place)) rests = absurd rests
  rests_anew opened (Some (Over answer)) rests = tt
  rests_anew opened None rests = tt

  pub abandoned_anew : (client : ClientState) → Rests client.call → Anew (client_abandon client)
  abandoned_anew client rests = by_txn client.txn
    where
      by_txn : (opened : Option Open) → Anew (abandon_open client opened)
      by_txn None = rests_anew client.txn client.call rests
      by_txn (Some attempt) = rests_anew None client.call rests
