-- Each word of a commit, and its asking, keeps what its client carries, and its answer tells.
use Rattle.std.proofs.Common.{◌≡◌, ℕ, ◌+◌, ◌≤◌, ◌<◌, Bool, true, false, List, [], ◌∷◌, ◌++◌, length, drop}
use Rattle.std.proofs.Common.{None, inl, inr, refl, sym, subst, ap, ◌∙◌, append-nil, append_assoc, length-append}
use Rattle.std.proofs.Common.{arith}
use Rattle.std.specs.Prelude.{◌==◌}
use Rattle.std.proofs.lemmas.Bool.{eqb-true, eqb-false}
use Rattle.std.proofs.Math.Seq.{drop-append_seam}
use Rattle.si_model.specs.declared.log.Lock.{Lock}
use Rattle.si_model.specs.declared.log.Outcome.{Outcome}
use Rattle.si_model.specs.declared.log.Outcome.TheVariants as outcome
use Rattle.nam_verbs.specs.declared.now.Now.TheVariants.{Over}
use Rattle.nam_catalog.specs.declared.shape.Shape.{Shape}
use Rattle.nam_catalog.specs.Greatest.{greatest_number}
use Rattle.nam_verbs.proofs.TestLemmas.{by_test}
use Rattle.nam_calls.specs.declared.lock.LockPoint.{LockPoint}
use Rattle.nam_calls.specs.declared.lock.LockPoint.TheVariants.{Peek, Seize, GiveBack}
use Rattle.nam_calls.specs.declared.ring.SlotPoint.{SlotPoint}
use Rattle.nam_calls.specs.declared.ring.SlotPoint.TheVariants.{CheckCount, CheckHead}
use Rattle.nam_calls.specs.Lock.{give_back}
use Rattle.nam_calls.specs.Record.{install_begin, words_begin}
use Rattle.nam_calls.specs.Ring.{copy_begin, slot_begin}
use Rattle.nam_calls.proofs.GoesTests.{give_back_goes, peek_goes, seize_goes, slot_goes}
use Rattle.nam_protocol.specs.declared.client.Answer.{Answer}
use Rattle.nam_protocol.specs.declared.client.ClientState.{ClientState}
use Rattle.nam_protocol.specs.declared.client.Open.{Open}
use Rattle.nam_protocol.specs.declared.txn.CommitPoint.{CommitPoint}
use Rattle.nam_protocol.specs.declared.txn.CommitPoint.TheVariants.{Checking, Copying, Freeing, Installing, Locking}
use Rattle.nam_protocol.specs.declared.txn.CommitPoint.TheVariants.{Publishing, Returning, Saving}
use Rattle.nam_protocol.specs.declared.txn.CommitPoint.TheVariants.{Listing, Counting, Deciding, Clearing, Ending}
use Rattle.nam_protocol.specs.declared.txn.Refusal.TheVariants as refusal
use Rattle.nam_protocol.specs.declared.txn.TxnAnswer.{TxnAnswer}
use Rattle.nam_protocol.specs.declared.txn.TxnState.{TxnState}
use Rattle.nam_protocol.specs.AnswersLaw.{CommitTells, CommitAskTells, IsWordInWay}
use Rattle.nam_protocol.specs.Told.{Ends, LockMissed}
use Rattle.nam_protocol.specs.Carries.{CommitCarries, IsInTheWay, IsMissed, Took}
use Rattle.nam_protocol.specs.Commit.{ask_commit, commit_after, go, lock_at, on_lock, on_slot, places}
use Rattle.nam_protocol.specs.Commit.{next_free, record_place, tells_intent, value_at}
use Rattle.nam_protocol.specs.Telling.{locks_from, new_locks, on_call, stepped}
use Rattle.nam_protocol.specs.Txn.{Stepped, over}
use Rattle.nam_protocol.specs.TxnFits.{CommitFits}
use Rattle.nam_protocol.proofs.AnswersOps.{Good, TakesNone, none_took, quiet_over}
use Rattle.nam_protocol.proofs.GoesCommit.{ask_commit_goes, holding_locks, next_free_goes, on_copy_goes}
use Rattle.nam_protocol.proofs.GoesCommit.{next_count_goes, on_install_goes, on_list_goes, refused_goes}
use Rattle.nam_protocol.proofs.GoesCommit.{on_return_goes, on_words_goes, with_count}
use Rattle.nam_protocol.specs.declared.client.Answer.TheVariants as client_answer
use Rattle.nam_protocol.specs.declared.txn.TxnAnswer.TheVariants as txn_answer

-- 1. The locks of headers

pub locks_number : (s : TxnState) (nth : ℕ) (headers : List ℕ) → length (locks_from s nth headers) ≡ length headers
locks_number s nth [] = refl
locks_number s nth (header ∷ headers) = let l = locks_number s (nth + 1) headers in omega arith

-- those of more headers follow
locks_more : (s : TxnState) (nth : ℕ) (headers more : List ℕ)
    → locks_from s nth (headers ++ more) ≡ locks_from s nth headers ++ locks_from s (nth + length headers) more
locks_more s nth [] more = ap (λ n. locks_from s n more) (omega arith)
locks_more s nth (header ∷ headers) more =
    ap (λ locks. lock_at s nth header ∷ locks)
    (locks_more s (nth + 1) headers more
    ∙ ap (λ n. locks_from s (nth + 1) headers ++ locks_from s n more) (omega arith))

-- they are those of the records, whatever else the transaction has at hand
same_locks : (s t : TxnState) → t.records ≡ s.records → (nth : ℕ) (headers : List ℕ)
    → locks_from t nth headers ≡ locks_from s nth headers
same_locks s t same nth [] = refl
same_locks s t same nth (header ∷ headers) =
    ap (λ records. lock_at (record s { records = records }) nth header ∷ locks_from t (nth + 1) headers) same
    ∙ ap (λ locks. lock_at s nth header ∷ locks) (same_locks s t same (nth + 1) headers)

-- the log's last locks after a step that took more
took_more : (locks : List Lock) (attempt later : Open) (more : List ℕ)
    → attempt.state.held ++ more ≡ later.state.held → later.state.records ≡ attempt.state.records
    → let new = new_locks later.state (length attempt.state.held) later.state.held in
    later.locks ≡ attempt.locks + length new → Took locks attempt → Took (locks ++ new) later
took_more locks attempt later more whole same number took = record {
  earlier = took.earlier;
  listed =
      ap (λ ls. ls ++ new_locks later.state (length held) all) took.listed
      ∙ append_assoc took.earlier (locks_from attempt.state 0 held) (new_locks later.state (length held) all)
      ∙ ap (λ ls. took.earlier ++ ls)
      (ap (λ ls. ls ++ new_locks later.state (length held) all)
      (sym (same_locks attempt.state later.state same 0 held))
      ∙ ap (λ ls. locks_from later.state 0 held ++ ls) new_is
      ∙ ap (λ n. locks_from later.state 0 held ++ locks_from later.state n more) (zero_plus (length held))
      ∙ sym (locks_more later.state 0 held more)
      ∙ ap (λ hs. locks_from later.state 0 hs) whole);
  number =
      let a = took.number in
      let b = ap length new_is in
      let c = locks_number later.state (length held) more in
      let d = ap length whole in
      let e = length-append held more in
      number ∙ (omega arith);
}
  where
    held : List ℕ
    held = attempt.state.held

    all : List ℕ
    all = later.state.held

    new_is : new_locks later.state (length held) all ≡ locks_from later.state (length held) more
    new_is =
        ap (λ hs. locks_from later.state (length held) (drop (length held) hs)) (sym whole)
        ∙ ap (λ hs. locks_from later.state (length held) hs) (drop-append_seam held more)

    zero_plus : (n : ℕ) → n ≡ 0 + n
    zero_plus n = omega arith

-- 2. A point of a commit

pub record AtCommit (shape : Shape) (client : ClientState) (attempt : Open) (word : ℕ)
    (Tells : ClientState → Answer → Type 0) (at : CommitPoint) : Type 0 where
  pub last_is : attempt.state.last ≡ client.last
  pub took : Took client.log.locks attempt
  pub carries : CommitCarries attempt.state at
  pub fits : CommitFits shape attempt.state at
  pub tells : (after : ClientState) (end : TxnAnswer) → CommitTells shape word client after attempt at end
      → Tells after (client_answer.Txn end)

module _ (shape : Shape) (client : ClientState) (attempt : Open) (word : ℕ) (Tells : ClientState → Answer → Type 0)
    (at : CommitPoint) (f : AtCommit shape client attempt word Tells at) where
  abbrev state : TxnState
  state = attempt.state

  abbrev Steps : Stepped → Type 0
  Steps step = Good Tells (stepped client attempt (length state.held) step)

  -- it goes on, holding these headers more
  goes : (s : TxnState) (next : CommitPoint) (more : List ℕ) → state.held ++ more ≡ s.held
      → s.last ≡ state.last → s.records ≡ state.records → CommitCarries s next → Steps (go s next)
  goes s next more whole last same carries = (
    record {
      opened = record {
        last_is = last ∙ f.last_is;
        took = took_more client.log.locks attempt
            record attempt {
              locks = attempt.locks + length (new_locks s (length state.held) s.held);
              state = s;
            } more whole same refl f.took;
        held = tt;
        point = carries;
      };
      scanned = tt;
      collected = tt;
    },
    tt,
  )

  -- with no more
  goes_on : (next : CommitPoint) → CommitCarries state next → Steps (go state next)
  goes_on next carries = goes state next [] (append-nil state.held) refl refl carries

  closes : (end : TxnAnswer) → Good Tells (on_call client attempt (Over end)) → Steps (over state end)
  closes end good =
      subst (Good Tells) (sym (quiet_over client attempt (length state.held) state end (omega arith))) good

  -- 3. It is refused: it is answered, or the intent is cleared first

  lock_missed : (found : ℕ) (lock : Lock) (locked : Bool) (how : Outcome) → IsWordInWay word at found
      → IsMissed state found lock locked
      → (after : ClientState) → Ends client after attempt how
      → (found : ℕ) × IsWordInWay word at found × LockMissed client after attempt found lock locked how
  lock_missed found lock locked how way missed after log =
      (found, way, record { missed = missed; took = f.took; log = log })

  given_back : (given found : ℕ) → IsWordInWay word at found → length state.held < length state.records
      → IsInTheWay state found → Steps (on_lock state (give_back (places state) state.held given found))
  given_back given found way within in_way =
      let lock = lock_at state (length state.held) found in
      give_back_goes (λ now. Steps (on_lock state now)) (places state) state.held given found
      (λ e locked.
      let missed : IsMissed state found lock true =
      record { within = within; lock_is = refl; locked_is = locked; way = in_way } in
      refused_goes Steps state (refusal.Locked lock) (λ t. goes_on (Clearing (refusal.Locked lock)) (found, missed))
      (λ t. closes (txn_answer.Locked lock) (
        record { opened = tt; scanned = tt; collected = tt },
        f.tells _ (txn_answer.Locked lock)
            (lock_missed found lock true (outcome.Locked lock) way missed _ refl),
      )))
      (λ e free.
      let missed : IsMissed state found lock false =
      record { within = within; lock_is = refl; locked_is = free; way = in_way } in
      refused_goes Steps state (refusal.Newer lock) (λ t. goes_on (Clearing (refusal.Newer lock)) (found, missed))
      (λ t. closes (txn_answer.Newer lock) (
        record { opened = tt; scanned = tt; collected = tt },
        f.tells _ (txn_answer.Newer lock)
            (lock_missed found lock false (outcome.Newer lock) way missed _ refl),
      )))
      (λ e. goes_on (Locking (GiveBack given found)) in_way)

  -- 4. The end

  committed : Steps (over state (txn_answer.Committed (state.last + 1)))
  committed =
      closes (txn_answer.Committed (state.last + 1)) (
        record { opened = tt; scanned = tt; collected = tt },
        f.tells _ (txn_answer.Committed (state.last + 1))
            record { next = ap (λ n. n + 1) f.last_is; last = refl; log = refl },
      )

  freed : (nth : ℕ) → Steps (next_free state nth)
  freed nth =
      next_free_goes Steps state nth (λ e t. goes_on Ending tt) (λ e t. committed) (λ e. goes_on (Freeing nth) tt)

-- 5. Each point

module _ (shape : Shape) (client : ClientState) (attempt : Open) (word : ℕ)
    (Tells : ClientState → Answer → Type 0) where
  abbrev At_point : CommitPoint → Type 0
  At_point = AtCommit shape client attempt word Tells

  abbrev GoodAt : CommitPoint → Type 0
  GoodAt at =
      Good Tells (stepped client attempt (length attempt.state.held) (commit_after attempt.state at word))

  abbrev s : TxnState
  s = attempt.state

  lock_good : (at : LockPoint) → At_point (Locking at) → GoodAt (Locking at)
  lock_good Peek f =
      let point = Locking Peek in
      let back = λ (way : IsInTheWay s word).
      given_back shape client attempt word Tells point f 0 word refl f.fits.2.0 way in
      peek_goes (λ now. Steps shape client attempt word Tells point f (on_lock s now)) (places s) s.seen s.held word
      (λ locked. back (inl locked))
      (λ free sees. goes_on shape client attempt word Tells point f (Locking (Seize word)) sees)
      (λ free unseen. back (inr (inl unseen)))
  lock_good (Seize header) f =
      let point = Locking (Seize header) in
      let more = header ∷ [] in
      let holding = holding_locks s (s.held ++ more) in
      seize_goes (λ now. Steps shape client attempt word Tells point f (on_lock s now)) (places s) s.seen s.held
      header word
      (λ same last. goes shape client attempt word Tells point f holding (Checking slot_begin) more refl refl refl tt)
      (λ same next. goes shape client attempt word Tells point f holding (Locking Peek) more refl refl refl tt)
      (λ lost. given_back shape client attempt word Tells point f 0 word refl f.fits.2.0
      (inr (inr (header, f.carries, lost))))
  lock_good (GiveBack given earlier) f =
      given_back shape client attempt word Tells (Locking (GiveBack given earlier)) f (given + 1) earlier refl
      f.fits.2.0.0 f.carries

  check_good : (at : SlotPoint) → At_point (Checking at) → GoodAt (Checking at)
  check_good CheckCount f =
      goes_on shape client attempt word Tells (Checking CheckCount) f (Checking (CheckHead word)) tt
  check_good (CheckHead count) f =
      let point = Checking (CheckHead count) in
      slot_goes (λ now. Steps shape client attempt word Tells point f (on_slot s now))
      (record_place s (length s.counts)) count word
      (λ moved. by_test (Steps shape client attempt word Tells point f)
      (length (s.counts ++ count ∷ []) == length s.writes) _ _
      (λ last. by_test (Steps shape client attempt word Tells point f) (tells_intent s) _ _
      (λ t. goes shape client attempt word Tells point f (with_count s count) (Counting 0) []
      (append-nil s.held) refl refl tt)
      (λ t. goes shape client attempt word Tells point f (with_count s count) (Saving 0 words_begin) []
      (append-nil s.held) refl refl tt))
      (λ next. goes shape client attempt word Tells point f (with_count s count) (Checking slot_begin) []
      (append-nil s.held) refl refl tt))
      (λ still. goes_on shape client attempt word Tells point f
      (Returning 0 (lock_at s (length s.counts) word)) record {
        nth = length s.counts;
        head = word;
        within = f.fits.2.1;
        lock = refl;
        not_moved = still;
      })

  pub commit_good : (at : CommitPoint) → At_point at → GoodAt at
  commit_good (Listing at) f =
      let point = Listing at in
      on_list_goes (Steps shape client attempt word Tells point f) s _
      (λ next e. goes_on shape client attempt word Tells point f (Listing next) tt)
      (λ e. goes_on shape client attempt word Tells point f (Locking Peek) tt)
  commit_good (Locking at) f = lock_good at f
  commit_good (Checking at) f = check_good at f
  commit_good (Returning given full) f =
      let point = Returning given full in
      on_return_goes (Steps shape client attempt word Tells point f) s full _
      (λ next e. goes_on shape client attempt word Tells point f (Returning next full) f.carries)
      (λ e t. goes_on shape client attempt word Tells point f (Clearing (refusal.Full full)) f.carries)
      (λ e t. closes shape client attempt word Tells point f (txn_answer.Full full)
      (record { opened = tt; scanned = tt; collected = tt }, f.tells _ (txn_answer.Full full) (f.carries, refl)))
  commit_good (Counting nth) f =
      let point = Counting nth in
      next_count_goes (Steps shape client attempt word Tells point f) s (nth + 1)
      (λ e. goes_on shape client attempt word Tells point f Deciding tt)
      (λ e. goes_on shape client attempt word Tells point f (Counting (nth + 1)) tt)
  commit_good Deciding f = goes_on shape client attempt word Tells Deciding f (Saving 0 words_begin) tt
  commit_good (Saving nth got) f =
      let point = Saving nth got in
      on_words_goes (Steps shape client attempt word Tells point f) s nth _
      (λ more e. goes_on shape client attempt word Tells point f (Saving nth more) tt)
      (λ old e. goes_on shape client attempt word Tells point f (Copying nth old copy_begin) tt)
  commit_good (Copying nth old at) f =
      let point = Copying nth old at in
      on_copy_goes (Steps shape client attempt word Tells point f) s nth old _
      (λ next e. goes_on shape client attempt word Tells point f (Copying nth old next) tt)
      (λ e. goes_on shape client attempt word Tells point f (Installing nth (install_begin (value_at s nth))) tt)
  commit_good (Installing nth at) f =
      let point = Installing nth at in
      on_install_goes (Steps shape client attempt word Tells point f) s nth _
      (λ next e. goes_on shape client attempt word Tells point f (Installing nth next) tt)
      (λ e last. goes_on shape client attempt word Tells point f Publishing tt)
      (λ e next. goes_on shape client attempt word Tells point f (Saving (nth + 1) words_begin) tt)
  commit_good Publishing f =
      freed shape client attempt word Tells Publishing f (length s.writes)
  commit_good (Freeing nth) f =
      freed shape client attempt word Tells (Freeing nth) f (nth + 1)
  commit_good (Clearing (refusal.Locked lock)) f =
      let point = Clearing (refusal.Locked lock) in let found = f.carries.0 in
      closes shape client attempt word Tells point f (txn_answer.Locked lock) (
        record { opened = tt; scanned = tt; collected = tt },
        f.tells _ (txn_answer.Locked lock)
            (found, tt, record { missed = f.carries.1; took = f.took; log = refl }),
      )
  commit_good (Clearing (refusal.Newer lock)) f =
      let point = Clearing (refusal.Newer lock) in let found = f.carries.0 in
      closes shape client attempt word Tells point f (txn_answer.Newer lock) (
        record { opened = tt; scanned = tt; collected = tt },
        f.tells _ (txn_answer.Newer lock)
            (found, tt, record { missed = f.carries.1; took = f.took; log = refl }),
      )
  commit_good (Clearing (refusal.Full lock)) f =
      let point = Clearing (refusal.Full lock) in
      closes shape client attempt word Tells point f (txn_answer.Full lock)
      (record { opened = tt; scanned = tt; collected = tt }, f.tells _ (txn_answer.Full lock) (f.carries, refl))
  commit_good Ending f = committed shape client attempt word Tells Ending f

  -- 6. It is asked

  pub commit_asked : TakesNone client attempt
      → ((after : ClientState) (end : TxnAnswer) → CommitAskTells shape client after attempt end
      → Tells after (client_answer.Txn end))
      → Good Tells (stepped client attempt 0 (ask_commit shape attempt.state))
  commit_asked rest tells =
      let none = rest.locks in
      let few : length s.held ≤ 0 =
      (let e : length s.held ≡ 0 = ap (λ (hs : List ℕ). length hs) rest.held in omega arith) in
      ask_commit_goes (λ step. Good Tells (stepped client attempt 0 step)) s shape
      (λ e. subst (Good Tells)
      (sym (quiet_over client attempt 0 record s { read = None } txn_answer.ReadOnly few)) (
        record { opened = tt; scanned = tt; collected = tt },
        tells _ txn_answer.ReadOnly (eqb-true (length s.writes) 0 e, refl),
      ))
      (λ some e. subst (Good Tells)
      (sym (quiet_over client attempt 0 record s { read = None } txn_answer.Spent few)) (
        record { opened = tt; scanned = tt; collected = tt },
        tells _ txn_answer.Spent (
          (let n = eqb-false (length s.writes) 0 some in omega arith),
          sym rest.last_is ∙ eqb-true s.last (greatest_number shape.form) e,
          refl,
        ),
      ))
      (λ some free t. (
        record {
          opened = record {
            last_is = rest.last_is;
            took = none_took _ _ refl (omega arith);
            held = tt;
            point = tt;
          };
          scanned = tt;
          collected = tt;
        },
        tt,
      ))
      (λ some free t. (
        record {
          opened = record {
            last_is = rest.last_is;
            took = none_took _ _ refl (omega arith);
            held = tt;
            point = tt;
          };
          scanned = tt;
          collected = tt;
        },
        tt,
      ))
