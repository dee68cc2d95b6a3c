-- A worker's transactions one after another, and all workers: the serial run is a run.
use Rattle.std.proofs.Common.{◌≡◌, ℕ, zero, suc, ◌+◌, ◌<◌, ◌≤◌, Bool, true, false, cond, List, [], ◌∷◌, ◌++◌, length}
use Rattle.std.proofs.Common.{map, refl, ap, sym, ◌∙◌, subst, arith, append_assoc, append-nil, zero-add, inl, inr}
use Rattle.std.proofs.Common.{length-append}
use Rattle.std.specs.Prelude.{filter, ◌==◌, ◌&&◌}
use Rattle.std.specs.List.{AllByRecursion}
use Rattle.std.proofs.Math.Seq.{take-append_seam, drop-append_seam}
use Rattle.std.proofs.lemmas.Bool.{eq-eqb, eqb-true, ne_eqb, cases_Bool}
use Rattle.std.proofs.lemmas.List.Elements.{filter-append}
use Rattle.std.proofs.lemmas.Bool.Decides.{nat_tests}
use Rattle.si_model.specs.declared.log.Event.{Event}
use Rattle.si_model.specs.declared.log.Outcome.TheVariants.{Commit}
use Rattle.si_model.specs.declared.report.CommitLine.{CommitLine}
use Rattle.si_model.specs.declared.evaluated.Evaluated.TheVariants.{Done}
use Rattle.si_model.specs.Rows.{rows_of}
use Rattle.si_model.specs.History.{count_of, entries_at}
use Rattle.si_model.specs.Tells.{Tell, tells_of, last_number}
use Rattle.si_model.specs.View.{View, by_history}
use Rattle.si_model.specs.Setting.{Setting, by_script, txns_of}
use Rattle.si_model.specs.Knowledge.{AreAtMost, SeesForward}
use Rattle.si_model.specs.Answers.{AnswersMatch}
use Rattle.si_model.specs.Causes.{HaveCausesAfter}
use Rattle.si_model.specs.Run.{times_listed, is_listed_as}
use Rattle.namdb.specs.Serial.{writes_by, entry_by, evaluated_after, tell_after, entry_after, tells_after}
use Rattle.namdb.specs.Serial.{history_after, log_of, logs_after, end_after}
use Rattle.namdb.proofs.HistoryLemmas.{count_of-append, count_of-own, at_most-refl}
use Rattle.namdb.proofs.SerialLemmas.{by_outcome, told, answers_after, sees_after, known_then, caused_after}
use Rattle.namdb.proofs.SerialLemmas.{last_number_then}

module _ (s : Setting) (j : ℕ) where
  -- the history only grows
  pub history_grows : (history : List CommitLine) (xs : List ℕ) → (more : List CommitLine)
      × (history_after s j history xs ≡ history ++ more)
  history_grows history [] = ([], sym (append-nil history))
  history_grows history (x ∷ xs) =
      let rest = history_grows (history ++ entry_after s j history x) xs in
      (entry_after s j history x ++ rest.0, rest.1 ∙ append_assoc history (entry_after s j history x) rest.0)

  module _ (final : List CommitLine) where
    abbrev view : View
    view = by_history (rows_of s.rows) s.workers s.start final

    -- the final history, seen from the next attempt
    from_next : (history : List CommitLine) (x : ℕ) (xs : List ℕ) (more : List CommitLine)
        → final ≡ history_after s j history (x ∷ xs) ++ more → (rest : List CommitLine)
        × (final ≡ history ++ entry_after s j history x ++ rest)
    from_next history x xs more longer =
        let grown = history_grows (history ++ entry_after s j history x) xs in (
          grown.0 ++ more,
          longer ∙ ap (λ h. h ++ more) grown.1
              ∙ append_assoc (history ++ entry_after s j history x) grown.0 more,
        )

    pub answers_all : (history : List CommitLine) (xs : List ℕ) (more : List CommitLine)
        → final ≡ history_after s j history xs ++ more
        → AnswersMatch s (by_script s) view j (tells_after s j history xs)
    answers_all history [] more longer = tt
    answers_all history (x ∷ xs) more longer =
        let next = from_next history x xs more longer in (
          answers_after s j history x final next.0 next.1,
          answers_all (history ++ entry_after s j history x) xs more longer,
        )

    pub sees_all : 1 ≤ j → j ≤ s.workers → (history : List CommitLine) (xs : List ℕ) (more : List CommitLine)
        (known : List ℕ) → final ≡ history_after s j history xs ++ more
        → AreAtMost known (entries_at s.workers s.start history)
        → SeesForward view j known (tells_after s j history xs)
    sees_all low high history [] more known longer most = tt
    sees_all low high history (x ∷ xs) more known longer most =
        let next = from_next history x xs more longer in (
          sees_after s j history x final next.0 next.1 known most,
          subst (λ k. SeesForward view j k (tells_after s j (history ++ entry_after s j history x) xs))
              (sym (known_then s j history x final next.0 next.1 known low high))
              (sees_all low high (history ++ entry_after s j history x) xs more
              (entries_at s.workers s.start (history ++ entry_after s j history x)) longer (at_most-refl _)),
        )

    pub causes_all : (tss : List (List Tell)) (history : List CommitLine) (xs : List ℕ) (more : List CommitLine)
        (done : List Tell) → final ≡ history_after s j history xs ++ more
        → last_number s.start done ≡ s.start + count_of j history
        → HaveCausesAfter s view tss j done (tells_after s j history xs)
    causes_all tss history [] more done longer number = tt
    causes_all tss history (x ∷ xs) more done longer number =
        let next = from_next history x xs more longer in (
          caused_after s j history x final next.0 next.1 tss done number,
          causes_all tss (history ++ entry_after s j history x) xs more (done ++ tell_after s j history x ∷ []) longer
              (last_number_then s j history x done number),
        )

-- what a log tells that was made of these: each takes its own items
module _ (s : Setting) (j : ℕ) where
  abbrev events_of : List CommitLine → List ℕ → List Event
  events_of history xs = map (λ t. t.event) (tells_after s j history xs)

  pub tells_back : (history : List CommitLine) (xs : List ℕ)
      → tells_of s.jobs (log_of (tells_after s j history xs)) ≡ tells_after s j history xs
  tells_back history [] = refl
  tells_back history (x ∷ xs) =
      let rest = log_of (tells_after s j (history ++ entry_after s j history x) xs) in
      let t = tell_after s j history x in
      rw (
        take-append_seam t.reads rest.reads,
        drop-append_seam t.reads rest.reads,
        take-append_seam t.locks rest.locks,
        drop-append_seam t.locks rest.locks,
        take-append_seam t.writes rest.writes,
        drop-append_seam t.writes rest.writes,
      )
      (ap (λ us. t ∷ us) (tells_back (history ++ entry_after s j history x) xs))

-- are the two lines of one commit
abbrev pub same_line : CommitLine → CommitLine → Bool
same_line e c = (e.worker == c.worker) && (c.number == e.number) && (c.prefix == e.prefix) && (c.txn == e.txn)

abbrev pub times_in : CommitLine → List CommitLine → ℕ
times_in e history = length (filter (same_line e) history)

times_in-append : (e : CommitLine) (xs ys : List CommitLine) → times_in e (xs ++ ys) ≡ times_in e xs + times_in e ys
times_in-append e xs ys = ap length (filter-append (same_line e) xs ys)
    ∙ length-append (filter (same_line e) xs) (filter (same_line e) ys)

-- one element passes or not, whatever it is
one_passes : {A B : Type 0} (b : Bool) (x : A) (y : B) → length (cond b (x ∷ []) []) ≡ length (cond b (y ∷ []) [])
one_passes true x y = refl
one_passes false x y = refl

module _ (s : Setting) (j : ℕ) (e : CommitLine) where
  -- an attempt lists the line as often as it adds it
  listed_one : (history : List CommitLine) (x : ℕ)
      → length (filter (is_listed_as e j) (tell_after s j history x ∷ [])) ≡ times_in e (entry_after s j history x)
  listed_one history x =
      by_outcome (λ v o. length (filter (is_listed_as e j) (told s j history x v o ∷ []))
      ≡ times_in e (entry_by j x (length history) (writes_by v o) o)) s.greatest (s.start + count_of j history)
      (evaluated_after s j history x)
      (λ op reads. grind (arith, nat_tests))
      (λ reads guards. grind (arith, nat_tests))
      (λ reads ws w guards l. grind (arith, nat_tests))
      (λ reads ws w guards.
      let line : CommitLine = record {
        worker = j;
        number = s.start + count_of j history + 1;
        prefix = length history;
        txn = x;
        writes = w ∷ ws;
      } in
      one_passes (same_line e line) (told s j history x (Done reads (w ∷ ws) guards)
      (Commit (s.start + count_of j history + 1))) line)

  -- all its attempts list the line as often as the history has gained it
  listed_all : (history : List CommitLine) (xs : List ℕ)
      → length (filter (is_listed_as e j) (tells_after s j history xs)) + times_in e history
      ≡ times_in e (history_after s j history xs)
  listed_all history [] = zero-add _
  listed_all history (x ∷ xs) =
      let one = listed_one history x in
      let rest = listed_all (history ++ entry_after s j history x) xs in
      let both = ap length (filter-append (is_listed_as e j) (tell_after s j history x ∷ [])
      (tells_after s j (history ++ entry_after s j history x) xs))
      ∙ length-append (filter (is_listed_as e j) (tell_after s j history x ∷ []))
      (filter (is_listed_as e j) (tells_after s j (history ++ entry_after s j history x) xs)) in
      omega (arith, one, rest, both, times_in-append e history (entry_after s j history x))

-- the workers from j on list the line as often as the history gains it
pub times_after : (s : Setting) (e : CommitLine) (j : ℕ) (history : List CommitLine) (n : ℕ)
    → times_listed e j (map (tells_of s.jobs) (logs_after s j history n)) + times_in e history
    ≡ times_in e (end_after s j history n)
times_after s e j history zero = zero-add _
times_after s e j history (suc n) =
    let xs = txns_of j s.owners in
    let own = ap (λ ts. length (filter (is_listed_as e j) ts)) (tells_back s j history xs) in
    omega (arith, own, listed_all s j e history xs, times_after s e (suc j) (history_after s j history xs) n)

-- each line of a history stands there once, and no number is above its worker's
pub record IsOnce (start : ℕ) (history : List CommitLine) (e : CommitLine) : Type 0 where
  pub once : times_in e history ≡ 1
  pub within : e.number ≤ start + count_of e.worker history

all_snoc : {A : Type 0} (P : A → Type 0) (xs : List A) (x : A) → AllByRecursion P xs → P x
    → AllByRecursion P (xs ++ x ∷ [])
all_snoc P [] x all one = (one, tt)
all_snoc P (y ∷ ys) x all one = (all.0, all_snoc P ys x all.1 one)

pub all_map : {A : Type 0} (P Q : A → Type 0) (xs : List A) → ((x : A) → P x → Q x) → AllByRecursion P xs
    → AllByRecursion Q xs
all_map P Q [] f all = tt
all_map P Q (y ∷ ys) f all = (f y all.0, all_map P Q ys f all.1)

-- lines of one worker with different numbers are different
other_line : (e c : CommitLine) → (e.worker ≡ c.worker → e.number < c.number) → same_line e c ≡ false
other_line e c below =
    elim (cases_Bool (e.worker == c.worker)) [
      | inl same ↦
          let less = below (eqb-true e.worker c.worker same) in
          let differ : (c.number == e.number) ≡ false = ne_eqb c.number e.number (λ q. omega (arith, q, less)) in
          rw (same, differ) refl
      | inr other ↦ rw other refl
    ]

other_line_above : (c e : CommitLine) → (c.worker ≡ e.worker → e.number < c.number) → same_line c e ≡ false
other_line_above c e above =
    elim (cases_Bool (c.worker == e.worker)) [
      | inl same ↦
          let less = above (eqb-true c.worker e.worker same) in
          let differ : (e.number == c.number) ≡ false = ne_eqb e.number c.number (λ q. omega (arith, q, less)) in
          rw (same, differ) refl
      | inr other ↦ rw other refl
    ]

same_self : (c : CommitLine) → same_line c c ≡ true
same_self c =
    rw (
      eq-eqb c.worker c.worker refl,
      eq-eqb c.number c.number refl,
      eq-eqb c.prefix c.prefix refl,
      eq-eqb c.txn c.txn refl,
    ) refl

none_same : (start : ℕ) (history lines : List CommitLine) (c : CommitLine)
    → AllByRecursion (λ e. e.number ≤ start + count_of e.worker history) lines
    → c.number ≡ start + count_of c.worker history + 1 → times_in c lines ≡ 0
none_same start history [] c within number = refl
none_same start history (e ∷ es) c within number =
    let differ : same_line c e ≡ false =
    other_line_above c e (λ w. let high = within.0 in omega (arith, number, high, ap (λ v. count_of v history) w))
    in
    rw differ (none_same start history es c within.1 number)

pub once_more : (start : ℕ) (history : List CommitLine) (c : CommitLine) → AllByRecursion (IsOnce start history) history
    → c.number ≡ start + count_of c.worker history + 1
    → AllByRecursion (IsOnce start (history ++ c ∷ [])) (history ++ c ∷ [])
once_more start history c once number =
    let stays : (e : CommitLine) → IsOnce start history e → IsOnce start (history ++ c ∷ []) e = λ e o. record {
      once =
          let high = o.within in
          let differ : same_line e c ≡ false =
          other_line e c (λ w. omega (arith, number, high, ap (λ v. count_of v history) w)) in
          times_in-append e history (c ∷ []) ∙ ap (λ n. n + times_in e (c ∷ [])) o.once
          ∙ ap (λ b. 1 + length (cond b (c ∷ []) [])) differ;
      within = omega (arith, o.within, count_of-append e.worker history (c ∷ []));
    } in
    let within =
    all_map (IsOnce start history) (λ e. e.number ≤ start + count_of e.worker history) history (λ e o. o.within)
    once in
    all_snoc (IsOnce start (history ++ c ∷ [])) history c
    (all_map (IsOnce start history) (IsOnce start (history ++ c ∷ [])) history stays once) (record {
      once = times_in-append c history (c ∷ [])
          ∙ ap (λ n. n + times_in c (c ∷ [])) (none_same start history history c within number)
          ∙ ap (λ b. 0 + length (cond b (c ∷ []) [])) (same_self c);
      within = omega (arith, number, count_of-own c.worker history c refl);
    })
