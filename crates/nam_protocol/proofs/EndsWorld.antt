-- A world's verbs to come fall with each turn, and so each simulated run reaches its end.
use Rattle.std.proofs.Common.{◌≡◌, ℕ, zero, suc, ◌+◌, ◌-◌, ◌<◌, ◌≤◌, List, [], ◌∷◌, length, refl, sym, ◌∙◌, ap, subst}
use Rattle.std.proofs.Common.{arith, inl, inr, ◌⊎◌, Bool, true, false, Option, Some, None}
use Rattle.std.specs.Prelude.{◌==◌, ◌||◌, if◌then◌else◌, map, slice_get, slice_set, option_map, is_some, IsSome}
use Rattle.std.specs.List.{AllByRecursion, list_any}
use Rattle.std.proofs.lemmas.Bool.{false≢true}
use Rattle.std.proofs.lemmas.List.{length-set, length-map}
use Rattle.si_model.specs.declared.op.Policy.{Policy}
use Rattle.nam_verbs.specs.Verb.{found_by, after_verb}
use Rattle.nam_verbs.specs.VerbAt.{VerbAt}
use Rattle.nam_line.specs.Plan.{Line, refuses_next}
use Rattle.nam_catalog.specs.declared.shape.Shape.{Shape}
use Rattle.nam_catalog.specs.Fits.{FitsLimits}
use Rattle.nam_layout.specs.declared.field.Field.{Field}
use Rattle.nam_calls.specs.Memory.{verb_there}
use Rattle.nam_calls.proofs.FallsTests.{either}
use Rattle.nam_protocol.specs.declared.session.Job.{Job}
use Rattle.nam_protocol.specs.declared.session.SessionState.{SessionState}
use Rattle.nam_protocol.specs.Session.{session_verb, session_after, session_cut}
use Rattle.nam_protocol.specs.World.{World, Turn, Step, Cut, session_of, with_session, verb_in}
use Rattle.nam_protocol.specs.World.{step_by, step_of, step, cut_of, cut, after_turn, is_cut, new_sessions, HasNoVerb}
use Rattle.nam_protocol.specs.World.{HasEnded}
use Rattle.nam_protocol.specs.Schedule.{Run, Owned, Simulated, numbers_from, line_of, turn_by, turn_on, turn_of}
use Rattle.nam_protocol.specs.Schedule.{after_workers, after_round, after_rounds, scheduled, jobs_of, all_jobs, opened}
use Rattle.nam_protocol.specs.Schedule.{is_live, until_ended, run_to_end}
use Rattle.nam_protocol.specs.Left.{session_left}
use Rattle.nam_protocol.specs.SessionFits.{OpsFit, JobFits, SessionFits}
use Rattle.nam_protocol.specs.EndsLaw.{sessions_left, world_left, WorldFits, IsTurn, TurnLaw}
use Rattle.nam_protocol.specs.EndsLaw.{lists_bound, EndsLaw}
use Rattle.nam_protocol.proofs.Rounds.{rounds_rest, simulated_once}
use Rattle.nam_protocol.proofs.EndsSession.{nth_holds, new_session_ends, session_word}
use Rattle.nam_protocol.proofs.EndsSettled.{session_cut_ends}

-- 1. One session of a world's

module _ (shape : Shape) where
  -- a session takes the point of another
  set_fits : (sessions : List SessionState) (k : ℕ) (session : SessionState)
      → AllByRecursion (SessionFits shape) sessions → SessionFits shape session
      → AllByRecursion (SessionFits shape) (slice_set sessions k session)
  set_fits [] k session all fits = tt
  set_fits (s ∷ sessions) zero session all fits = (fits, all.1)
  set_fits (s ∷ sessions) (suc k) session all fits = (all.0, set_fits sessions k session all.1 fits)

  set_left : (sessions : List SessionState) (k : ℕ) (old session : SessionState) → slice_get sessions k ≡ Some old
      → sessions_left shape (slice_set sessions k session) + session_left shape old
      ≡ sessions_left shape sessions + session_left shape session
  set_left [] k old session e = absurd (cc)
  set_left (s ∷ sessions) zero old session e =
      let is : s ≡ old = cc in
      let same = ap (session_left shape) is in
      omega arith
  set_left (s ∷ sessions) (suc k) old session e =
      let more = set_left sessions k old session e in omega arith

  -- 2. A turn

  -- a world follows another: it has as many sessions, which fit, and no more verbs to come; it has fewer where it
  -- turned
  record Follows (Turned : Type 0) (before after : World) : Type 0 where
    fits : WorldFits shape after
    many : length after.sessions ≡ length before.sessions
    within : world_left shape after ≤ world_left shape before
    falls : Turned → world_left shape after < world_left shape before

  abbrev HasVerb : Option (VerbAt Field) → Type 0
  HasVerb verb = IsSome verb

  rests : (world : World) → WorldFits shape world → Follows (HasVerb None) world world
  rests world fits = record { fits = fits; many = refl; within = omega arith; falls = λ some. absurd (false≢true some) }

  follows_if : (A B : Type 0) (before after : World) → (A → B) → Follows B before after → Follows A before after
  follows_if A B before after holds f =
      record { fits = f.fits; many = f.many; within = f.within; falls = λ a. f.falls (holds a) }

  -- a session gave way to one with no more verbs to come
  replaced : (Turned : Type 0) (world : World) (words : List ℕ) (worker : ℕ) (old new : SessionState)
      → WorldFits shape world → session_of world worker ≡ Some old → SessionFits shape new
      → session_left shape new ≤ session_left shape old
      → (Turned → session_left shape new < session_left shape old)
      → Follows Turned world (with_session (record world { words = words }) worker new)
  replaced Turned world words worker old new fits here is within falls =
      let sum = set_left world.sessions (worker - 1) old new here in
      record {
        fits = set_fits world.sessions (worker - 1) new fits is;
        many = length-set world.sessions (worker - 1) new;
        within = omega arith;
        falls = λ some. let l = falls some in omega arith;
      }

  module _ (limits : FitsLimits shape) (world : World) (fits : WorldFits shape world) (worker : ℕ) where
    session_fits : (session : SessionState) → session_of world worker ≡ Some session → SessionFits shape session
    session_fits session here = nth_holds (SessionFits shape) world.sessions (worker - 1) session fits here

    step_by_follows : (session : SessionState) → session_of world worker ≡ Some session
        → (verb : Option (VerbAt Field)) → session_verb shape session ≡ verb
        → Follows (HasVerb verb) world (step_by shape world worker session verb)
    step_by_follows session here None e = rests world fits
    step_by_follows session here (Some verb) e =
        let there = verb_there shape verb in
        let w = session_word shape limits session verb (found_by world.words there) (session_fits session here) e in
        replaced (HasVerb (Some verb)) world (after_verb world.words there) worker session
        (session_after shape session (found_by world.words there)) fits here w.0 (let l = w.1 in omega arith)
        (λ some. w.1)

    step_follows : (o : Option SessionState) → session_of world worker ≡ o
        → Follows (HasVerb (verb_in shape o)) world (step_of shape world worker o)
    step_follows None here = rests world fits
    step_follows (Some session) here = step_by_follows session here (session_verb shape session) refl

    -- one that is stopped has fewer where it was not cut before
    abbrev IsStopped : Option SessionState → Type 0
    IsStopped o = HasVerb (verb_in shape o) × (is_cut o ≡ false)

    cut_follows : (o : Option SessionState) → session_of world worker ≡ o
        → Follows (IsStopped o) world (cut_of shape world worker o)
    cut_follows None here =
        follows_if (IsStopped None) (HasVerb None) world world (λ stopped. stopped.0) (rests world fits)
    cut_follows (Some session) here =
        let c = session_cut_ends shape limits session (session_fits session here) in
        replaced (IsStopped (Some session)) world world.words worker session (session_cut shape.form session) fits here
        c.fits c.within (λ stopped. c.falls stopped.1 stopped.0)

  turn_follows : FitsLimits shape → (world : World) (turn : Turn) → WorldFits shape world
      → Follows (IsTurn shape world turn) world (after_turn shape world turn)
  turn_follows limits world (Step worker) fits = step_follows limits world fits worker (session_of world worker) refl
  turn_follows limits world (Cut worker) fits = cut_follows limits world fits worker (session_of world worker) refl

pub turns_fall : TurnLaw
turns_fall shape limits world turn fits =
    let f = turn_follows shape limits world turn fits in
    record { fits = f.fits; within = f.within; falls = f.falls }

-- 2. Turns of a simulated run

both_false : (a b : Bool) → (a || b) ≡ false → (a ≡ false) × (b ≡ false)
both_false true b e = absurd (false≢true (sym e))
both_false false b e = (refl, e)

no_verb_some : (verb : Option (VerbAt Field)) → is_some verb ≡ false → verb ≡ None
no_verb_some None e = refl
no_verb_some (Some verb) e = absurd (false≢true (sym e))

module _ (shape : Shape) (limits : FitsLimits shape) where
  abbrev verb_at : Run → ℕ → Option (VerbAt Field)
  verb_at run worker = verb_in shape (session_of run.world worker)

  abbrev Goes : Option (VerbAt Field) → Run → Run → Type 0
  Goes verb before after = Follows shape (HasVerb shape verb) before.world after.world

  -- a worker whose line is asked is not cut
  uncut_asks : (cut : Bool) (line : Option Line) (asked : Line) → (if cut then None else line) ≡ Some asked
      → cut ≡ false
  uncut_asks true line asked e = absurd (cc)
  uncut_asks false line asked e = refl

  turn_by_follows : (run : Run) (worker : ℕ) (line : Option Line) → line_of run worker ≡ line
      → WorldFits shape run.world → Goes (verb_at run worker) run (turn_by shape run worker line)
  turn_by_follows run worker None e fits =
      step_follows shape limits run.world fits worker (session_of run.world worker) refl
  turn_by_follows run worker (Some line) e fits =
      let session = session_of run.world worker in
      let uncut = uncut_asks (is_cut session) (slice_get run.lines (worker - 1)) line e in
      either (Follows shape (HasVerb shape (verb_at run worker)) run.world) (refuses_next line)
      (cut shape run.world worker) (step shape run.world worker)
      (follows_if shape (HasVerb shape (verb_at run worker))
      (HasVerb shape (verb_at run worker) × (is_cut session ≡ false)) run.world (cut shape run.world worker)
      (λ some. (some, uncut))
      (cut_follows shape limits run.world fits worker session refl))
      (step_follows shape limits run.world fits worker session refl)

  turn_on_follows : (run : Run) (worker : ℕ) (verb : Option (VerbAt Field)) → WorldFits shape run.world
      → verb_at run worker ≡ verb
      → Goes verb run (turn_on shape run worker (option_map (verb_there shape) verb))
  turn_on_follows run worker None fits e = rests shape run.world fits
  turn_on_follows run worker (Some verb) fits e =
      subst (λ v. Goes v run (turn_by shape run worker (line_of run worker))) e
      (turn_by_follows run worker (line_of run worker) refl fits)

  turn_of_follows : (run : Run) (worker : ℕ) → WorldFits shape run.world
      → Goes (verb_at run worker) run (turn_of shape run worker)
  turn_of_follows run worker fits = turn_on_follows run worker (verb_at run worker) fits refl

  -- after turns of some workers: fewer verbs are to come, or none of them has one
  record AfterTurns (run after : Run) (workers : List ℕ) : Type 0 where
    fits : WorldFits shape after.world
    many : length after.world.sessions ≡ length run.world.sessions
    within : world_left shape after.world ≤ world_left shape run.world
    ends : (world_left shape after.world < world_left shape run.world)
        ⊎ AllByRecursion (λ worker. verb_at run worker ≡ None) workers

  after_one : (run : Run) (worker : ℕ) (workers : List ℕ) (after : Run) (verb : Option (VerbAt Field))
      → verb_at run worker ≡ verb
      → Goes verb run (turn_of shape run worker)
      → AfterTurns (turn_of shape run worker) after workers
      → AfterTurns run after (worker ∷ workers)
  after_one run worker workers after (Some verb) e f later = record {
    fits = later.fits;
    many = later.many ∙ f.many;
    within = let l = later.within in let m = f.within in omega arith;
    ends = inl (let l = later.within in let m = f.falls refl in omega arith);
  }
  after_one run worker workers after None e f later =
      let same : turn_of shape run worker ≡ run =
      ap (λ v. turn_on shape run worker (option_map (verb_there shape) v)) e in
      let l = subst (λ r. AfterTurns r after workers) same later in
      record {
        fits = l.fits;
        many = l.many;
        within = l.within;
        ends = elim l.ends [ inl less ↦ inl less | inr none ↦ inr (e, none) ];
      }

  workers_follow : (run : Run) (workers : List ℕ) → WorldFits shape run.world
      → AfterTurns run (after_workers shape run workers) workers
  unfolding after_workers
  workers_follow run [] fits = record { fits = fits; many = refl; within = omega arith; ends = inr tt }
  workers_follow run (worker ∷ workers) fits =
      let f = turn_of_follows run worker fits in
      after_one run worker workers (after_workers shape (turn_of shape run worker) workers) (verb_at run worker) refl f
      (workers_follow (turn_of shape run worker) workers f.fits)

  -- 3. Rounds

  all_numbers : (P : ℕ → Type 0) (n count : ℕ) → AllByRecursion P (numbers_from n count) → (k : ℕ) → k < count
      → P (n + k)
  all_numbers P n zero all k l = absurd (omega arith)
  all_numbers P n (suc count) all zero l = let e : n ≡ n + 0 = omega arith in subst P e all.0
  all_numbers P n (suc count) all (suc k) l =
      let e : n + 1 + k ≡ n + suc k = omega arith in
      subst P e (all_numbers P (n + 1) count all.1 k (omega arith))

  none_has : (sessions : List SessionState)
      → ((k : ℕ) → k < length sessions → verb_in shape (slice_get sessions k) ≡ None)
      → AllByRecursion (HasNoVerb shape) sessions
  none_has [] none = tt
  none_has (s ∷ sessions) none =
      (none zero (omega arith), none_has sessions (λ k l. none (suc k) (omega arith)))

  -- a round with no verb at any worker's turn
  all_ended : (run : Run) → length run.world.sessions ≤ shape.workers
      → AllByRecursion (λ worker. verb_at run worker ≡ None) (numbers_from 1 shape.workers)
      → HasEnded shape run.world
  all_ended run few all =
      none_has run.world.sessions (λ k l. let e : 1 + k - 1 ≡ k = omega arith in
      subst (λ n. verb_in shape (slice_get run.world.sessions n) ≡ None) e
      (all_numbers (λ worker. verb_at run worker ≡ None) 1 shape.workers all k (omega arith)))

  -- nothing is to come
  no_verb_left : (session : SessionState) → SessionFits shape session → session_left shape session ≤ 0
      → (verb : Option (VerbAt Field)) → session_verb shape session ≡ verb
      → verb ≡ None
  no_verb_left session fits l None e = refl
  no_verb_left session fits l (Some verb) e =
      let w = session_word shape limits session verb 0 fits e in let m = w.1 in absurd (omega arith)

  none_left_has : (sessions : List SessionState) → AllByRecursion (SessionFits shape) sessions
      → sessions_left shape sessions ≤ 0
      → AllByRecursion (HasNoVerb shape) sessions
  none_left_has [] fits l = tt
  none_left_has (s ∷ sessions) fits l =
      (no_verb_left s fits.0 (omega arith) (session_verb shape s) refl, none_left_has sessions fits.1 (omega arith))

  pub rounds_end : (rounds : ℕ) (run : Run) → WorldFits shape run.world
      → length run.world.sessions ≤ shape.workers
      → world_left shape run.world ≤ rounds
      → HasEnded shape (after_rounds shape rounds run).world
  unfolding after_rounds
  rounds_end zero run fits few l = none_left_has run.world.sessions fits l
  rounds_end (suc rounds) run fits few l =
      let a = workers_follow run (numbers_from 1 shape.workers) fits in
      elim a.ends [
        | inl less ↦ rounds_end rounds (after_round shape run) a.fits (let m = a.many in omega arith) (omega arith)
        | inr none ↦
            let ended = all_ended run few none in
            subst (λ (r : Run). HasEnded shape r.world) (sym (rounds_rest shape run ended (suc rounds))) ended
      ]

  -- 4. The rounds as they are computed

  none_live : (sessions : List SessionState)
      → list_any (λ session. is_some (session_verb shape session)) sessions ≡ false
      → AllByRecursion (HasNoVerb shape) sessions
  none_live [] e = tt
  none_live (s ∷ sessions) e =
      let l = both_false (is_some (session_verb shape s)) _ e in
      (no_verb_some (session_verb shape s) l.0, none_live sessions l.1)

  live_or_not : (rounds : ℕ) (run : Run) (live : Bool) → is_live shape run.world ≡ live
      → until_ended shape rounds (after_round shape run) ≡ after_rounds shape rounds (after_round shape run)
      → (elim live [ false ↦ run | true ↦ until_ended shape rounds (after_round shape run) ])
      ≡ after_rounds shape (suc rounds) run
  unfolding after_rounds
  live_or_not rounds run true e later = later
  live_or_not rounds run false e later = sym (rounds_rest shape run (none_live run.world.sessions e) (suc rounds))

  pub until_is : (rounds : ℕ) (run : Run) → until_ended shape rounds run ≡ after_rounds shape rounds run
  unfolding until_ended after_rounds
  until_is zero run = refl
  until_is (suc rounds) run =
      live_or_not rounds run (is_live shape run.world) refl (until_is rounds (after_round shape run))

  -- 5. The opened world

  -- sessions that fit, as many as these lists of jobs, with at most so many verbs to come
  record Opens (policy : Policy) (lists : List (List Job)) (sessions : List SessionState) : Type 0 where
    fits : AllByRecursion (SessionFits shape) sessions
    many : length sessions ≡ length lists
    within : sessions_left shape sessions ≤ lists_bound shape policy lists

  sessions_open : (policy : Policy) (worker : ℕ) (lists : List (List Job)) → 1 ≤ policy.tries → 1 ≤ worker
      → worker + length lists ≤ shape.workers + 1
      → AllByRecursion (λ jobs. AllByRecursion (JobFits shape) jobs) lists
      → Opens policy lists (new_sessions shape policy worker lists)
  sessions_open policy worker [] least first few fit = record { fits = tt; many = refl; within = omega arith }
  sessions_open policy worker (jobs ∷ lists) least first few fit =
      let s = new_session_ends shape limits worker shape.start jobs policy (first, omega arith) limits.start fit.0
      least in
      let more = sessions_open policy (worker + 1) lists least (omega arith) (omega arith) fit.1 in
      record {
        fits = (s.0, more.fits);
        many = ap suc more.many;
        within = let l = s.1 in let m = more.within in omega arith;
      }

  jobs_fit : (worker txn : ℕ) (txns : List Owned)
      → AllByRecursion (λ (t : Owned). OpsFit shape t.ops) txns
      → AllByRecursion (JobFits shape) (jobs_of worker txn txns)
  jobs_fit worker txn [] fit = tt
  jobs_fit worker txn (t ∷ txns) fit =
      let more = jobs_fit worker (txn + 1) txns fit.1 in
      either (AllByRecursion (JobFits shape)) (t.worker == worker)
      (record { txn = txn; ops = t.ops } ∷ jobs_of worker (txn + 1) txns)
      (jobs_of worker (txn + 1) txns) (fit.0, more) more

  all_fit : (txns : List Owned) (workers : List ℕ)
      → AllByRecursion (λ (t : Owned). OpsFit shape t.ops) txns
      → AllByRecursion (λ jobs. AllByRecursion (JobFits shape) jobs) (map (λ worker. jobs_of worker 1 txns) workers)
  all_fit txns [] fit = tt
  all_fit txns (worker ∷ workers) fit = (jobs_fit worker 1 txns fit, all_fit txns workers fit)

many_numbers : (n count : ℕ) → length (numbers_from n count) ≡ count
many_numbers n zero = refl
many_numbers n (suc count) = ap suc (many_numbers (n + 1) count)

-- 6. A simulated run

pub runs_end : EndsLaw
unfolding after_rounds
runs_end c fits lines rounds l =
    let shape = c.shape in
    let lists = all_jobs shape.workers c.txns in
    let numbers = numbers_from 1 shape.workers in
    let many : length lists ≡ shape.workers =
    length-map numbers (λ worker. jobs_of worker 1 c.txns) ∙ many_numbers 1 shape.workers in
    let open_ = sessions_open shape fits.limits c.policy 1 lists fits.tries (omega arith) (omega arith)
    (all_fit shape fits.limits c.txns numbers fits.txns) in
    let start = opened c lines in
    let a = workers_follow shape fits.limits start (scheduled shape c.schedule) open_.fits in
    let turned = after_workers shape start (scheduled shape c.schedule) in
    let ended = rounds_end shape fits.limits rounds turned a.fits
    (let m = a.many in let n = open_.many in omega arith)
    (let m = a.within in let n = open_.within in omega arith) in
    let same = until_is shape fits.limits rounds turned in
    let is : Simulated c lines (run_to_end rounds c lines) = record {
      rounds = rounds;
      run_is = sym same;
      ended = subst (λ (r : Run). HasEnded shape r.world) (sym same) ended;
    } in
    record { is = is; only = λ other o. simulated_once c lines other (run_to_end rounds c lines) o is }
