-- A tidying goes on, or is over, with an answer, and so does the walk.
use Rattle.std.proofs.Common.{◌≡◌, ℕ, suc, ◌+◌, Bool, true, false, cond, List, [], ◌∷◌, ◌++◌, length, drop, refl, ap}
use Rattle.std.proofs.Common.{sym, ◌∙◌}
use Rattle.std.proofs.Common.{arith, Some, None}
use Rattle.std.specs.Prelude.{◌==◌, ◌&&◌, nat_lt, ◌<◌, slice_get}
use Rattle.std.specs.List.{flat_map}
use Rattle.std.proofs.lemmas.Bool.{false≢true, and_parts, or_right, eq-eqb, lt-ltb}
use Rattle.si_model.proofs.EvaluationLemmas.{same_key-refl}
use Rattle.si_model.specs.declared.row.Key.{Key}
use Rattle.si_model.specs.declared.log.MoveEnd.TheVariants as moved
use Rattle.si_model.specs.declared.log.Event.{Event}
use Rattle.si_model.specs.declared.log.Event.TheVariants.{Tried, NoRoom, Moved, Collected, CollectAgain, CollectCut}
use Rattle.si_model.specs.declared.log.Event.TheVariants.{TidyCut, TailCut, Finished}
use Rattle.si_model.specs.Rows.{key_at, same_key}
use Rattle.si_model.specs.Tells.{Tell}
use Rattle.si_model.specs.View.{View}
use Rattle.si_model.specs.Setting.{Setting}
use Rattle.si_model.specs.Tries.{tells_in, tidied, Owed, goes_on, owed_after, going, TidyEnd, well, badly, tidy_end}
use Rattle.si_model.specs.Tries.{first_end}
use Rattle.si_model.specs.Tries.{second_end, collected_end, collect_end, tidied_owed, is_collect_of, is_at_noroom}
use Rattle.si_model.specs.Tries.{is_tidying, may_be_at_hand}
use Rattle.si_model.proofs.TriesLemmas.{hand_follows, tidying_follows}
use Rattle.nam_protocol.specs.declared.client.Answer.{Answer}
use Rattle.nam_protocol.specs.declared.client.Answer.TheVariants as answer
use Rattle.nam_protocol.specs.declared.session.Job.{Job}
use Rattle.nam_protocol.specs.declared.session.DriverPoint.{DriverPoint}
use Rattle.nam_protocol.specs.declared.session.DriverPoint.TheVariants.{ToTidy, ToCollect}
use Rattle.nam_protocol.specs.declared.session.DriverState.{DriverState}
use Rattle.nam_protocol.specs.Driver.{key_number, tidying, on_tidy}
use Rattle.nam_follows.specs.Tells.{TellsEvent, HasCollected, TidyTells, CollectTells}
use Rattle.nam_follows.specs.Follows.{Owes, TidiesOwed, IsFollowing}
use Rattle.nam_follows.proofs.OwedLemmas.{first_key, tidy_after, to_tidying}

-- 1. How a tidying ends

module _ (key : Key) where
  pub first_ends : (hand ts : List Tell) (event : Event) (end : TidyEnd) → hand ≡ [] → TellsEvent event ts
      → first_end key event [] ≡ Some end → tidy_end key (hand ++ ts) ≡ Some end
  first_ends hand ts event end none h is =
      ap (λ xs. tidy_end key (xs ++ ts)) none ∙ ap (tidy_end key) h.1 ∙ ap (λ e. first_end key e []) h.2 ∙ is

  -- whatever a collect that went to its end is
  collect_goes : (bucket : ℕ) (e : Event) (ts : List Tell) → is_collect_of bucket e ≡ true
      → collect_end key bucket e ts ≡ collected_end key bucket ts
  collect_goes bucket (Collected c prefix entries true) ts h =
      absurd (false≢true (and_parts (c == bucket) false h).1)
  collect_goes bucket (Collected c prefix entries false) ts h =
      ap (λ b. cond b (collected_end key bucket ts) None) (and_parts (c == bucket) true h).0
  collect_goes bucket (CollectAgain c i first second) ts h = ap (λ b. cond b (collected_end key bucket ts) None) h
  collect_goes bucket (Tried a) ts h = absurd (false≢true h)
  collect_goes bucket (NoRoom c) ts h = absurd (false≢true h)
  collect_goes bucket (Moved c table k stamp how) ts h = absurd (false≢true h)
  collect_goes bucket (CollectCut c) ts h = absurd (false≢true h)
  collect_goes bucket (TidyCut table k) ts h = absurd (false≢true h)
  collect_goes bucket TailCut ts h = absurd (false≢true h)
  collect_goes bucket (Finished how) ts h = absurd (false≢true h)

  -- behind a noroom and its collect
  pub behind_ends : (bucket : ℕ) (hand ts : List Tell) → HasCollected bucket [] hand
      → tidy_end key (hand ++ ts) ≡ collected_end key bucket ts
  behind_ends bucket hand ts h =
      ap (λ xs. tidy_end key (xs ++ ts)) h.2 ∙ ap (λ e. first_end key e (h.1 ∷ ts)) h.3
      ∙ collect_goes bucket (h.1).event ts h.4

  pub second_ends : (bucket : ℕ) (hand ts : List Tell) (event : Event) (end : TidyEnd) → HasCollected bucket [] hand
      → TellsEvent event ts → second_end key bucket event ≡ Some end → tidy_end key (hand ++ ts) ≡ Some end
  second_ends bucket hand ts event end collected h is =
      behind_ends bucket hand ts collected ∙ ap (collected_end key bucket) h.1 ∙ ap (second_end key bucket) h.2 ∙ is

  -- the key's own move
  pub own_key : (end : TidyEnd) → cond (same_key (key_at key.table key.key) key) (Some end) None ≡ Some end
  own_key end = ap (λ b. cond b (Some end) None) (same_key-refl key)

-- 2. What is at hand

begun : (owed : Owed) (ts : List Tell) → is_tidying ts ≡ true → goes_on owed.stage ≡ true → 0 < length owed.keys
    → may_be_at_hand owed ts ≡ true
begun owed ts tidies goes some =
    rw (
      tidies,
      or_right (length ts == 0) (goes_on owed.stage && nat_lt 0 (length owed.keys))
          (rw (goes, lt-ltb 0 (length owed.keys) some) refl),
    ) refl

noroom_begins : (bucket : ℕ) (hand ts : List Tell) → hand ≡ [] → TellsEvent (NoRoom bucket) ts
    → is_tidying (hand ++ ts) ≡ true
noroom_begins bucket hand ts none h =
    ap (λ xs. is_tidying (xs ++ ts)) none ∙ ap is_tidying h.1 ∙ ap (λ e. is_at_noroom e []) h.2

collect_begins : (bucket : ℕ) (hand ts : List Tell) (t : Tell)
    → (first : Tell) × (hand ≡ first ∷ []) × (first.event ≡ NoRoom bucket) → ts ≡ t ∷ []
    → is_collect_of bucket t.event ≡ true → is_tidying (hand ++ ts) ≡ true
collect_begins bucket hand ts t h one collects =
    ap (λ xs. is_tidying (xs ++ ts)) h.1 ∙ ap (λ xs. is_tidying (h.0 ∷ xs)) one
    ∙ ap (λ e. is_at_noroom e (t ∷ [])) h.2 ∙ ap (λ b. b && true) collects

-- 3. By the answer

-- where keys are to be tidied, some are owed
pub some_owes : (jobs : List Job) (job try : ℕ) (owed : Owed) (keys : List Key) (retry : Bool)
    → TidiesOwed jobs job try owed keys retry → (txns : List ℕ) × (tries : ℕ) × Owes owed keys txns tries
some_owes jobs job try owed keys true h = (_, _, h)
some_owes jobs job try owed keys false h = (_, _, h)

-- one key fewer
rest_owes : (jobs : List Job) (job try : ℕ) (owed : Owed) (keys rest : List Key) (retry : Bool)
    → TidiesOwed jobs job try owed keys retry
    → TidiesOwed jobs job try (record owed { keys = rest; stage = going }) rest retry
rest_owes jobs job try owed keys rest true h =
    record { keys_are = refl; txns_are = h.txns_are; tries_are = h.tries_are; goes = refl }
rest_owes jobs job try owed keys rest false h =
    record { keys_are = refl; txns_are = h.txns_are; tries_are = h.tries_are; goes = refl }

module _ (s : Setting) (v : View) (j : ℕ) (jobs : List Job) (driver : DriverState) (job : Job) (front : List Tell)
    (here : slice_get jobs driver.job ≡ Some job) (keys : List Key) (n : ℕ) (retry : Bool) where
  abbrev key : Key
  key = key_number keys n

  abbrev at : DriverPoint → DriverState
  at point = record driver { place = point }

  abbrev Follows : DriverState → List Tell → Type 0
  Follows d ts = IsFollowing s v j jobs d ts

  -- the key is owed first, and what a tidying of it comes to
  pub key_after : (owed : Owed) (ts : List Tell) (end : TidyEnd) → n < length keys
      → TidiesOwed jobs driver.job driver.nth owed (drop n keys) retry → tidy_end key ts ≡ Some end
      → owed_after s.policy owed (tidied key ts) ≡ Some (tidied_owed (drop (n + 1) keys) owed end)
  key_after owed ts end within owes is =
      let o = some_owes jobs driver.job driver.nth owed (drop n keys) retry owes in
      tidy_after s.policy owed key (drop (n + 1) keys) o.0 o.1 ts end
      (record {
        keys_are = (o.2).keys_are ∙ first_key keys n within;
        txns_are = (o.2).txns_are;
        tries_are = (o.2).tries_are;
        goes = (o.2).goes;
      }) is

  -- it is over
  over_follows : (again : Bool) (ts : List Tell) (end : TidyEnd) (told : Follows (at (ToTidy keys n again retry)) front)
      → ((owed : Owed) → tidied_owed (drop (n + 1) keys) owed end
      ≡ record owed { keys = drop (n + 1) keys; stage = going })
      → tidy_end key (told.walk.at_hand ++ ts) ≡ Some end
      → Follows (tidying (at (ToTidy keys n again retry)) keys (n + 1) retry) (front ++ ts)
  over_follows again ts end told goes is =
      let owed = told.walk.owed in
      let next : Owed = record owed { keys = drop (n + 1) keys; stage = going } in
      let hand = told.walk.at_hand ++ ts in
      let within = (told.stands).0 in
      to_tidying s v j jobs (at (ToTidy keys n again retry)) (front ++ ts)
      (record { parts = told.walk.parts ++ tidied key hand ∷ []; at_hand = []; owed = next })
      (tidying_follows s v j front told.walk told.so_far key ts next
      (key_after owed hand end within told.owes is ∙ ap Some (goes owed)))
      refl told.policy_is told.some_try told.tries job here keys (n + 1) retry (told.stands).1 (omega (arith, within))
      (rest_owes jobs driver.job driver.nth owed (drop n keys) (drop (n + 1) keys) retry told.owes)

  -- it goes on with an event
  some_keys : (owed : Owed) → n < length keys → TidiesOwed jobs driver.job driver.nth owed (drop n keys) retry
      → (goes_on owed.stage ≡ true) × (0 < length owed.keys)
  some_keys owed within owes =
      let o = some_owes jobs driver.job driver.nth owed (drop n keys) retry owes in
      let more : length owed.keys ≡ suc (length (drop (n + 1) keys)) =
      ap length ((o.2).keys_are ∙ first_key keys n within) in
      ((o.2).goes, omega (arith, more))

  noroom_follows : (bucket : ℕ) (ts : List Tell) → Follows (at (ToTidy keys n false retry)) front
      → TellsEvent (NoRoom bucket) ts → Follows (at (ToCollect bucket keys n retry)) (front ++ ts)
  noroom_follows bucket ts told h =
      let some = some_keys told.walk.owed (told.stands).0 told.owes in record {
        walk = record told.walk { at_hand = told.walk.at_hand ++ ts };
        so_far =
            hand_follows s v j front told.walk told.so_far ts (begun told.walk.owed (told.walk.at_hand ++ ts)
            (noroom_begins bucket told.walk.at_hand ts told.hand h) some.0 some.1);
        owes = told.owes;
        hand = (h.0, ap (λ xs. xs ++ ts) told.hand ∙ h.1, h.2);
        policy_is = told.policy_is;
        some_try = told.some_try;
        tries = told.tries;
        stands = told.stands;
        at_job = told.at_job;
      }

  collected_follows : (bucket : ℕ) (ts : List Tell) (t : Tell) → Follows (at (ToCollect bucket keys n retry)) front
      → ts ≡ t ∷ [] → is_collect_of bucket t.event ≡ true → Follows (at (ToTidy keys n true retry)) (front ++ ts)
  collected_follows bucket ts t told one collects =
      let some = some_keys told.walk.owed (told.stands).0 told.owes in
      let hand = told.hand in record {
        walk = record told.walk { at_hand = told.walk.at_hand ++ ts };
        so_far =
            hand_follows s v j front told.walk told.so_far ts (begun told.walk.owed (told.walk.at_hand ++ ts)
            (collect_begins bucket told.walk.at_hand ts t hand one collects) some.0 some.1);
        owes = told.owes;
        hand = (bucket, (hand.0, t, ap (λ xs. xs ++ ts) hand.1 ∙ ap (λ xs. hand.0 ∷ xs) one, hand.2, collects));
        policy_is = told.policy_is;
        some_try = told.some_try;
        tries = told.tries;
        stands = told.stands;
        at_job = told.at_job;
      }

  pub first_follows : (end : Answer) (ts : List Tell) (told : Follows (at (ToTidy keys n false retry)) front)
      → TidyTells key false front end ts
      → Follows (on_tidy (at (ToTidy keys n false retry)) keys n false retry end) (front ++ ts)
  first_follows answer.Nothing ts told h =
      over_follows false ts well told (λ owed. refl)
      (ap (λ xs. tidy_end key (xs ++ ts)) told.hand ∙ ap (tidy_end key) h)
  first_follows answer.Moved ts told h =
      over_follows false ts well told (λ owed. refl)
      (first_ends key told.walk.at_hand ts (Moved h.0 key.table key.key h.1 moved.Done) well told.hand h.2
      (own_key key well))
  first_follows answer.Back ts told h =
      over_follows false ts well told (λ owed. refl)
      (first_ends key told.walk.at_hand ts (Moved h.0 key.table key.key h.1 moved.Back) well told.hand h.2
      (own_key key well))
  first_follows (answer.NoRoom bucket) ts told h = noroom_follows bucket ts told h.0
  first_follows (answer.Begun prefix) ts told h = absurd h
  first_follows (answer.Again worker first second) ts told h = absurd h
  first_follows (answer.Txn end) ts told h = absurd h
  first_follows (answer.Scanned items) ts told h = absurd h
  first_follows (answer.Collected known) ts told h = absurd h

  pub second_follows : (end : Answer) (ts : List Tell) (told : Follows (at (ToTidy keys n true retry)) front)
      → TidyTells key true front end ts
      → Follows (on_tidy (at (ToTidy keys n true retry)) keys n true retry end) (front ++ ts)
  second_follows answer.Nothing ts told h =
      let b = told.hand in
      over_follows true ts well told (λ owed. refl)
      (behind_ends key b.0 told.walk.at_hand ts b.1 ∙ ap (collected_end key b.0) h)
  second_follows answer.Moved ts told h =
      let b = told.hand in
      over_follows true ts well told (λ owed. refl)
      (second_ends key b.0 told.walk.at_hand ts (Moved h.0 key.table key.key h.1 moved.Done) well b.1 h.2
      (own_key key well))
  second_follows answer.Back ts told h =
      let b = told.hand in
      over_follows true ts well told (λ owed. refl)
      (second_ends key b.0 told.walk.at_hand ts (Moved h.0 key.table key.key h.1 moved.Back) well b.1 h.2
      (own_key key well))
  second_follows (answer.NoRoom bucket) ts told h =
      let b = told.hand in
      let ends = ap (λ xs. flat_map tells_in told.walk.parts ++ xs) (b.1).2 in
      let is = h.1 b.0 (flat_map tells_in told.walk.parts)
      ((b.1).0, (b.1).1, sym told.so_far.read ∙ ends, (b.1).3, (b.1).4) in
      let same = eq-eqb bucket b.0 (sym is) in
      over_follows true ts badly told (λ owed. refl)
      (second_ends key b.0 told.walk.at_hand ts (NoRoom bucket) badly b.1 h.0 (ap (λ x. cond x (Some badly) None) same))
  second_follows (answer.Begun prefix) ts told h = absurd h
  second_follows (answer.Again worker first second) ts told h = absurd h
  second_follows (answer.Txn end) ts told h = absurd h
  second_follows (answer.Scanned items) ts told h = absurd h
  second_follows (answer.Collected known) ts told h = absurd h

  pub collect_follows : (bucket : ℕ) (end : Answer) (ts : List Tell)
      → Follows (at (ToCollect bucket keys n retry)) front → CollectTells bucket end ts
      → Follows (at (ToTidy keys n true retry)) (front ++ ts)
  collect_follows bucket (answer.Collected known) ts told h =
      let t = h.2 in
      collected_follows bucket ts t.0 told t.1
      (ap (is_collect_of bucket) t.2 ∙ ap (λ b. b && true) (eq-eqb bucket bucket refl))
  collect_follows bucket (answer.Again worker first second) ts told h =
      collected_follows bucket ts h.0 told h.1 (ap (is_collect_of bucket) h.2 ∙ eq-eqb bucket bucket refl)
  collect_follows bucket (answer.Begun prefix) ts told h = absurd h
  collect_follows bucket (answer.Txn end) ts told h = absurd h
  collect_follows bucket (answer.Scanned items) ts told h = absurd h
  collect_follows bucket answer.Moved ts told h = absurd h
  collect_follows bucket answer.Back ts told h = absurd h
  collect_follows bucket answer.Nothing ts told h = absurd h
  collect_follows bucket (answer.NoRoom b) ts told h = absurd h
