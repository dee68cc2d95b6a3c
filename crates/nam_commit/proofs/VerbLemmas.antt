-- The address of each verb is that of its field in the store's shape, and below the number of its words.
use Rattle.std.proofs.Common.{◌≡◌, ℕ, ◌+◌, ◌<◌, ◌≤◌, length, refl, sym, ap, subst, arith, ◌∙◌, true, false}
use Rattle.std.proofs.lemmas.Bool.{false≢true}
use Rattle.std.specs.Prelude.{slice_index, Some, None, Option, IfSome}
use Rattle.nam_verbs.specs.declared.now.Now.{Now}
use Rattle.nam_verbs.specs.declared.now.Now.TheVariants.{At, Over}
use Rattle.nam_verbs.specs.declared.verb.Verb.{Verb}
use Rattle.nam_verbs.specs.declared.verb.Verb.TheVariants.{Read, Write, Exchange}
use Rattle.nam_verbs.specs.Now.{FitsNow, verb_now}
use Rattle.nam_verbs.specs.Verb.{address_of}
use Rattle.nam_verbs.specs.VerbAt.{VerbAt, ReadAt, WriteAt, ExchangeAt, target, verb_by}
use Rattle.nam_catalog.specs.declared.form.Form.{Form}
use Rattle.nam_catalog.specs.declared.form.Form.TheVariants.{Narrow, Wide, Held}
use Rattle.nam_catalog.specs.declared.shape.Shape.{Shape}
use Rattle.nam_catalog.specs.Fits.{FitsLimits}
use Rattle.nam_catalog.specs.Words.{words_of}
use Rattle.nam_layout.specs.declared.field.Field.{Field}
use Rattle.nam_layout.specs.declared.field.Field.TheVariants.{Intent}
use Rattle.nam_layout.specs.declared.field.Place.{Place}
use Rattle.nam_layout.specs.Address.{address}
use Rattle.nam_layout.specs.Known.{IsOfPlace}
use Rattle.nam_layout.specs.Place.{place_at, position_address}
use Rattle.nam_layout.specs.PlaceFits.{FitsPlace}
use Rattle.nam_layout.proofs.PlaceLemmas.{place_stands}
use Rattle.nam_calls.specs.Memory.{verb_there}
use Rattle.nam_calls.specs.declared.lock.LockPoint.{LockPoint}
use Rattle.nam_calls.specs.declared.lock.LockPoint.TheVariants.{Peek, Seize, GiveBack}
use Rattle.nam_calls.specs.Intent.{record_from}
use Rattle.nam_calls.proofs.FieldLemmas.{install_field, slot_field, copy_field}
use Rattle.nam_protocol.specs.declared.txn.TxnState.{TxnState}
use Rattle.nam_protocol.specs.declared.txn.TxnAnswer.{TxnAnswer}
use Rattle.nam_protocol.specs.declared.txn.ListPoint.{ListPoint}
use Rattle.nam_protocol.specs.declared.txn.ListPoint.TheVariants.{ListRow, ListKind, ListData, ListNumber, ListState}
use Rattle.nam_protocol.specs.declared.txn.CommitPoint.{CommitPoint}
use Rattle.nam_protocol.specs.declared.txn.CommitPoint.TheVariants.{Locking, Checking, Returning, Saving, Copying}
use Rattle.nam_protocol.specs.declared.txn.CommitPoint.TheVariants.{Installing, Publishing, Freeing}
use Rattle.nam_protocol.specs.declared.txn.CommitPoint.TheVariants.{Listing, Counting, Deciding, Clearing, Ending}
use Rattle.nam_protocol.specs.Commit.{commit_verb, records_of, record_place, value_at, own_stamp, new_header}
use Rattle.nam_protocol.specs.Commit.{tells_intent, has_intents}
use Rattle.nam_protocol.specs.TxnFits.{StateFits, CommitFits}
use Rattle.nam_protocol.proofs.FallsKeys.{nth_fits, writes_within, tells_by_form}
use Rattle.nam_protocol.proofs.FieldLemmas.{placed, commit_at, reached_within}
use Rattle.nam_commit.specs.Commits.{Commits, CommitsFit, commits_verb}
use Rattle.nam_commit.specs.Stands.{point_address, intent_address, lock_place}

-- two ways to name words that agree on the verb's word
by_target : (f g : Field → ℕ) (verb : VerbAt Field) → f (target verb) ≡ g (target verb)
    → verb_by f verb ≡ verb_by g verb
by_target f g (ReadAt at) e = ap (λ n. Read n) e
by_target f g (WriteAt at word) e = ap (λ n. Write n word) e
by_target f g (ExchangeAt at expect word) e = ap (λ n. Exchange n expect word) e

held_form : (form : Form) → has_intents form ≡ true → form ≡ Held
held_form Narrow e = absurd (false≢true e)
held_form Wide e = absurd (false≢true e)
held_form Held e = refl

module _ (shape : Shape) (limits : FitsLimits shape) (state : TxnState) (fits : StateFits shape state) (intent_at : ℕ)
    (intent : shape.form ≡ Held → intent_at ≡ address shape (Intent state.worker 0)) where
  -- a field of a record
  of_record : state.records ≡ records_of state → (nth : ℕ) (f : Field) → nth < length state.records
      → (FitsPlace (record_place state nth) → IsOfPlace (record_place state nth) f)
      → position_address (record_place state nth) f ≡ address shape f
  of_record are nth f l is =
      let p = placed shape limits state fits are nth l in
      ap (λ place. position_address place f) p.place_is
      ∙ sym (place_stands shape (record_place state nth).row f
      (subst (λ place. IsOfPlace place f) p.place_is (is (nth_fits shape state fits are limits nth l)))).0

  -- a word of the intent
  of_intent : (at : CommitPoint) → CommitFits shape state at → tells_intent state ≡ true → (word : ℕ)
      → intent_address intent_at (Intent state.worker word) ≡ address shape (Intent state.worker word)
  of_intent at c tells word =
      let e = intent (held_form shape.form (sym (tells_by_form shape state fits c.0 c.1) ∙ tells)) in
      omega arith

  less : (at : CommitPoint) → CommitFits shape state at → (nth : ℕ) → nth < length state.writes
      → nth < length state.records
  less at c nth l = let w = writes_within shape state fits c.0 in omega arith

  abbrev Named : CommitPoint → Type 0
  Named at =
      point_address state intent_at at (target (commit_verb state at)) ≡ address shape (target (commit_verb state at))

  list_named : (at : ListPoint) → CommitFits shape state (Listing at) → Named (Listing at)
  list_named (ListRow nth) c = of_intent (Listing (ListRow nth)) c c.2.3 (record_from nth)
  list_named (ListKind nth) c = of_intent (Listing (ListKind nth)) c c.2.3 (record_from nth + 1)
  list_named (ListData nth word) c = of_intent (Listing (ListData nth word)) c c.2.3 (record_from nth + 3 + word)
  list_named ListNumber c = of_intent (Listing ListNumber) c c.2.3 1
  list_named ListState c = of_intent (Listing ListState) c c.2.3 0

  lock_named : (at : LockPoint) → CommitFits shape state (Locking at) → Named (Locking at)
  lock_named Peek c = of_record c.0 (length state.held) (target (commit_verb state (Locking Peek))) c.2.0 (λ fit. refl)
  lock_named (Seize header) c =
      of_record c.0 (length state.held) (target (commit_verb state (Locking (Seize header)))) c.2.0
      (λ fit. refl)
  lock_named (GiveBack given found) c =
      of_record c.0 given (target (commit_verb state (Locking (GiveBack given found))))
      (let m = c.2.0.0 in let n = c.2.0.1 in omega arith) (λ fit. refl)

  named : (at : CommitPoint) → CommitFits shape state at → Named at
  named (Listing at) c = list_named at c
  named (Locking at) c = lock_named at c
  named (Checking at) c =
      let nth = length state.counts in
      of_record c.0 nth (target (commit_verb state (Checking at))) (less (Checking at) c nth c.2.1)
      (λ fit. slot_field (record_place state nth) fit at)
  named (Returning given full) c =
      of_record c.0 given (target (commit_verb state (Returning given full))) c.2.1 (λ fit. refl)
  named (Counting nth) c = of_intent (Counting nth) c c.2.3 (record_from nth + 2)
  named Deciding c = of_intent Deciding c c.2.2 0
  named (Saving nth got) c =
      of_record c.0 nth (target (commit_verb state (Saving nth got))) (less (Saving nth got) c nth c.2.2)
      (λ fit. (refl, c.2.3))
  named (Copying nth old at) c =
      of_record c.0 nth (target (commit_verb state (Copying nth old at))) (less (Copying nth old at) c nth c.2.2)
      (λ fit. copy_field (record_place state nth) fit (slice_index state.counts nth) (slice_index state.held nth) old
      (own_stamp state) at c.2.4)
  named (Installing nth at) c =
      of_record c.0 nth (target (commit_verb state (Installing nth at))) (less (Installing nth at) c nth c.2.2)
      (λ fit. install_field (record_place state nth) fit (value_at state nth) (slice_index state.counts nth)
      (new_header state nth) at c.2.3)
  named Publishing c = refl
  named (Freeing nth) c = of_record c.0 nth (target (commit_verb state (Freeing nth))) c.2.3 (λ fit. refl)
  named (Clearing refusal) c = of_intent (Clearing refusal) c c.2.2 0
  named Ending c = of_intent Ending c c.2.2 0

  now_named : (now : Now CommitPoint TxnAnswer) → FitsNow (CommitFits shape state) now
      → verb_now (λ at. verb_by (point_address state intent_at at) (commit_verb state at)) now
      ≡ verb_now (λ at. verb_there shape (commit_verb state at)) now
  now_named (At at) c =
      ap (λ verb. Some verb)
      (by_target (point_address state intent_at at) (address shape) (commit_verb state at) (named at c))
  now_named (Over answer) c = refl

  now_within : (now : Now CommitPoint TxnAnswer) → FitsNow (CommitFits shape state) now
      → IfSome (verb_now (λ at. verb_there shape (commit_verb state at)) now) (λ verb. address_of verb < words_of shape)
  now_within (At at) c = (reached_within shape (commit_verb state at) (commit_at shape limits state fits at c)).0
  now_within (Over answer) c = tt

pub verb_named : (shape : Shape) (state : TxnState) (a : Commits) → CommitsFit shape state a
    → verb_now (λ at. verb_by (point_address state a.intent_at at) (commit_verb state at)) a.state
    ≡ commits_verb shape state a
verb_named shape state a fit =
    now_named shape fit.limits state fit.state_fits a.intent_at fit.intent a.state fit.point

pub verb_within : (shape : Shape) (state : TxnState) (a : Commits) → CommitsFit shape state a
    → IfSome (commits_verb shape state a) (λ verb. address_of verb < words_of shape)
verb_within shape state a fit =
    now_within shape fit.limits state fit.state_fits a.intent_at fit.intent a.state fit.point
