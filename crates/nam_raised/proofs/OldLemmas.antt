-- Why an attempt is too old: the horizon's entry is above its snapshot's, so it is neither the start nor of the
-- client's own collections; and it is not of its own worker, whose entry in the snapshot is the last number.
use Rattle.std.proofs.Common.{List, None, Option, Some, ap, arith, false, inl, inr, option_map, refl, subst, sym}
use Rattle.std.proofs.Common.{true, ℕ, ◌+◌, ◌-◌, ◌<◌, ◌∙◌, ◌≡◌, ◌≢◌, ◌≤◌, ⊎_elim}
use Rattle.std.specs.List.{AllByRecursion}
use Rattle.std.specs.Prelude.{IsTrue, if◌then◌else◌, slice_get, slice_index}
use Rattle.std.proofs.lemmas.Bool.{cases_eq, eqb-true}
use Rattle.std.proofs.lemmas.Option.{same_Some, slice_get-map}
use Rattle.si_model.proofs.ListLemmas.{All-listed, any_listed}
use Rattle.si_model.specs.Causes.{collects_entry}
use Rattle.si_model.specs.Tells.{Tell}
use Rattle.si_model.specs.declared.log.Event.{Event}
use Rattle.si_model.specs.declared.log.Event.TheVariants.{Collected}
use Rattle.nam_verbs.specs.VerbAt.{found_at}
use Rattle.nam_verbs.specs.declared.now.Now.{Now}
use Rattle.nam_verbs.specs.declared.now.Now.TheVariants.{At, Over}
use Rattle.nam_catalog.specs.declared.shape.Shape.{Shape}
use Rattle.nam_layout.specs.declared.field.Field.{Field}
use Rattle.nam_layout.specs.declared.field.Field.TheVariants.{Horizon}
use Rattle.nam_calls.specs.Memory.{memory}
use Rattle.nam_protocol.specs.Client.{after_call}
use Rattle.nam_protocol.specs.ClientFits.{NowFits}
use Rattle.nam_protocol.specs.Own.{IsOpenNow, OwnOpen}
use Rattle.nam_protocol.specs.declared.client.Answer.{Answer}
use Rattle.nam_protocol.specs.declared.client.CallPoint.{CallPoint}
use Rattle.nam_protocol.specs.declared.client.CallPoint.TheVariants.{Beginning, Collecting, InTxn, Moving, Scanning}
use Rattle.nam_protocol.specs.declared.client.CallPoint.TheVariants.{Seeking, Snapping}
use Rattle.nam_protocol.specs.declared.client.ClientState.{ClientState}
use Rattle.nam_protocol.specs.declared.client.Open.{Open}
use Rattle.nam_store.specs.Store.{Store, client_at, found_word}
use Rattle.nam_store.specs.Everyone.{Someone}
use Rattle.nam_store.proofs.BaseLemmas.{client_within}
use Rattle.nam_store.proofs.StepLemmas.{verb_is}
use Rattle.nam_ghost.specs.Cells.{IsHorizonBehind}
use Rattle.nam_ghost.specs.Moments.{AtMost, has_published, number_now, observer_of}
use Rattle.nam_tells.specs.Teller.{Teller}
use Rattle.nam_tells.specs.TellsLaw.{tells_now}
use Rattle.nam_raised.specs.OldLaw.{IsOldBy, OldLaw}
use Rattle.nam_raised.specs.Raised.{IsCollected, OfEntries, RaisedOk, SeesLast, tells_entry}
use Rattle.nam_raised.specs.RaisedLaw.{IsBehind, RestsOn}
use Rattle.nam_raised.proofs.AnswerLemmas.{IsAbove, Old, too_old}
use Rattle.nam_raised.proofs.BehindLemmas.{open_behind}
use Rattle.nam_raised.proofs.EntryLemmas.{runs_entry, told_cases}
use Rattle.nam_raised.proofs.StoreLemmas.{observer_ok}
use Rattle.nam_protocol.specs.declared.client.Answer.TheVariants as client_answer
use Rattle.nam_protocol.specs.declared.txn.TxnAnswer.TheVariants as txn_answer

-- 1. Collections that are behind a snapshot

event_most : (workers : ℕ) (seen : List ℕ) (a entry : ℕ) (event : Event) → a < workers
    → OfEntries (λ entries. AtMost workers entries seen) event → collects_entry (a + 1) entry event ≡ true
    → entry ≤ slice_index seen a
event_most workers seen a entry (Collected bucket prefix entries cut) less behind is =
    let one : (a + 1) - 1 ≡ a = omega arith in
    let same : slice_index entries a ≡ entry =
    ap (slice_index entries) (sym one) ∙ eqb-true (slice_index entries ((a + 1) - 1)) entry is in
    let most = behind a less in omega arith
event_most workers seen a entry _ less behind is = absurd (cc)

front_most : (workers : ℕ) (seen : List ℕ) (a entry : ℕ) (tells : List Tell) → a < workers
    → AllByRecursion (IsBehind workers seen) tells → tells_entry (a + 1) entry tells ≡ true
    → entry ≤ slice_index seen a
front_most workers seen a entry tells less behind is =
    let one = any_listed (λ (t : Tell). collects_entry (a + 1) entry t.event) tells is in
    event_most workers seen a entry one.0.event less (All-listed (IsBehind workers seen) tells one.0 behind one.1) one.2

-- where a transaction is open, no collection runs
open_not : (worker entry : ℕ) (attempt : Open) (call : Option (Now CallPoint Answer)) → IsOpenNow (Some attempt) call
    → runs_entry worker entry call ≡ true → ⊥
open_not worker entry attempt (Some (At (Collecting bucket prefix seen at))) opens is = absurd (cc)
open_not worker entry attempt (Some (At (Beginning txn nth at))) opens is = absurd (cc)
open_not worker entry attempt (Some (At (InTxn at))) opens is = absurd (cc)
open_not worker entry attempt (Some (At (Scanning table low high at))) opens is = absurd (cc)
open_not worker entry attempt (Some (At (Seeking table key passed))) opens is = absurd (cc)
open_not worker entry attempt (Some (At (Moving table key position at))) opens is = absurd (cc)
open_not worker entry attempt (Some (At (Snapping bucket at))) opens is = absurd (cc)
open_not worker entry attempt (Some (Over answer)) opens is = absurd (cc)
open_not worker entry attempt None opens is = absurd (cc)

-- 2. A client whose attempt is too old

module _ (shape : Shape) (store : Store) (tellers : ℕ → Teller) (rests : RestsOn shape store tellers)
    (behind : IsHorizonBehind shape (memory shape store.words)) (ok : RaisedOk shape store tellers) (nth : ℕ)
    (client : ClientState) (here : client_at store nth ≡ Some client) (attempt : Open)
    (opened : client.txn ≡ Some attempt) where
  abbrev m : Field → ℕ
  m = memory shape store.words

  abbrev seen : List ℕ
  seen = attempt.state.seen

  -- its snapshot is no less than the start
  from_start : (a : ℕ) → a < shape.workers → shape.start ≤ slice_index seen a
  from_start a less =
      let own = subst (OwnOpen client.worker client.last client.log.snaps) opened
      (rests.base.clients nth client here).own.opened in
      let there = slice_get-map observer_of store.clients nth ∙ ap (option_map observer_of) here in
      (rests.moments.moments.within seen shape.workers (nth, (observer_of client, (there, inr (refl, own.listed)))) a
      less).0

  -- of its own entries none is above its snapshot's
  own_most : (a entry : ℕ) → a < shape.workers
      → tells_entry (a + 1) entry (tells_now shape (tellers nth) client) ≡ true → entry ≤ slice_index seen a
  own_most a entry less is =
      let told = rests.told nth client here in
      ⊎_elim (λ (front : tells_entry (a + 1) entry (tellers nth).front ≡ true).
      front_most shape.workers seen a entry (tellers nth).front less
      (open_behind shape.workers client (tellers nth) nth told (ok.each nth client here) attempt opened) front)
      (λ (runs : runs_entry (a + 1) entry client.call ≡ true).
      absurd (open_not (a + 1) entry attempt client.call
      (subst (λ (o : Option Open). IsOpenNow o client.call) opened told.opens) runs))
      (told_cases (a + 1) entry shape (tellers nth) client is)

  -- nor is that of its own worker
  own_entry : has_published client.call ≡ false → m (Horizon (nth + 1)) ≤ slice_index seen nth
  own_entry silent =
      let below = behind nth (client_within shape store rests.base nth client here) in
      let entry = (observer_ok shape store rests.moments nth client here).entry in
      let last : slice_index seen nth ≡ client.last =
      subst (SeesLast nth client.last) opened (ok.each nth client here).last in
      let number : number_now client.call client.last ≡ client.last =
      ap (λ published. if published then client.last + 1 else client.last) silent in
      omega arith

  module _ (a entry horizon : ℕ) (less : a < shape.workers)
      (above : IsAbove shape.workers m seen (a + 1) entry horizon) (silent : has_published client.call ≡ false) where
    -- the word that was found
    abbrev word : ℕ
    word = m (Horizon (a + 1))

    entry_is : slice_index seen a ≡ entry
    entry_is = let one : (a + 1) - 1 ≡ a = omega arith in ap (slice_index seen) (sym one) ∙ above.entry_is

    word_above : slice_index seen a < word
    word_above = let e = entry_is in let h = above.horizon_is in let less = above.above in omega arith

    other_worker : a + 1 ≢ nth + 1
    other_worker same =
        let e : a ≡ nth = omega arith in
        let own : m (Horizon (a + 1)) ≤ slice_index seen a =
        subst (λ k. m (Horizon (k + 1)) ≤ slice_index seen k) (sym e) (own_entry silent) in
        let up = word_above in omega arith

    not_started : word ≡ shape.start → ⊥
    not_started same = let up = word_above in let least = from_start a less in omega arith

    not_own : tells_entry (a + 1) word (tells_now shape (tellers nth) client) ≡ true → ⊥
    not_own is = let up = word_above in let most = own_most a word less is in omega arith

    abbrev Others : ℕ → Type 0
    Others entry = Someone (λ k one. (k ≢ nth)
        × IsTrue (tells_entry (a + 1) entry (tells_now shape (tellers k) one))) store.clients

    by_others : IsCollected shape tellers store.clients (a + 1) word → Others word
    by_others (k, (one, (there, is))) = elim (cases_eq k nth) [
      | inl same ↦
          let ones : one ≡ client = same_Some one client (sym there ∙ ap (slice_get store.clients) same ∙ here) in
          absurd (not_own
          (subst (λ (u : ℕ × ClientState). tells_entry (a + 1) word (tells_now shape (tellers u.0) u.1) ≡ true)
          (λ i. (same i, ones i)) is))
      | inr apart ↦ (k, (one, (there, (apart, is))))
    ]

    pub old_by : IsOldBy shape store tellers nth seen (a + 1) entry horizon
    old_by = record {
      least = above.inside.0;
      most = above.inside.1;
      other = other_worker;
      entry_is = above.entry_is;
      above = above.above;
      collected = subst Others (sym above.horizon_is)
          (⊎_elim (λ (starts : word ≡ shape.start). absurd (not_started starts)) by_others (ok.entries a less));
    }

-- 3. The answer

pub old_holds : OldLaw
old_holds shape store tellers rests behind ok nth client attempt worker entry horizon ends =
    let place = ends.at in
    let found = found_word shape store client in
    let m = memory shape store.words in
    let fits = (rests.base.clients nth client ends.here).fits.2 in
    let old : Old shape m client attempt found place worker entry horizon =
    too_old shape m client attempt found place ends.runs ends.opened
    (subst (λ (o : Option Open). NowFits shape o (Some (At place))) ends.opened
    (subst (NowFits shape client.txn) ends.runs fits))
    (ap (found_at m) (verb_is shape client place ends.runs)) worker entry horizon
    (subst (λ (call : Option (Now CallPoint Answer)). (after_call shape client call found).call
    ≡ Some (Over (client_answer.Txn (txn_answer.TooOld worker entry horizon)))) ends.runs ends.answers) in
    let least = old.0.inside.0 in
    let most = old.0.inside.1 in
    let one : (worker - 1) + 1 ≡ worker = omega arith in
    let Is : ℕ → Type 0 = λ w. IsOldBy shape store tellers nth attempt.state.seen w entry horizon in
    subst Is one
    (old_by shape store tellers rests behind ok nth client ends.here attempt ends.opened (worker - 1) entry horizon
    (omega arith)
    (subst (λ w. IsAbove shape.workers m attempt.state.seen w entry horizon) (sym one) old.0)
    (ap has_published ends.runs ∙ old.1))
