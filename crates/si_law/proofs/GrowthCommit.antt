-- An end may be exchanged for one that starts with a commit.
use Rattle.std.proofs.Common.{◌≡◌, ◌≢◌, ℕ, suc, ◌+◌, ◌<◌, true, false, inl, inr, List, [], ◌∷◌, ◌++◌, length}
use Rattle.std.proofs.Common.{refl, ap, sym, ◌∙◌, subst, arith, not, Some}
use Rattle.std.specs.Prelude.{IsTrue, ◌&&◌, if◌then◌else◌, replicate, map, slice_index_or}
use Rattle.std.specs.List.{AllByRecursion}
use Rattle.std.proofs.lemmas.Bool.{cond_both, false≢true, false_from_ne_true, and_parts}
use Rattle.si_model.specs.declared.row.Key.{Key}
use Rattle.si_model.specs.declared.row.Item.{Item}
use Rattle.si_model.specs.declared.log.Stamp.{Stamp}
use Rattle.si_model.specs.declared.log.Attempt.{Attempt}
use Rattle.si_model.specs.declared.log.Outcome.TheVariants.{Commit}
use Rattle.si_model.specs.declared.evaluated.Evaluated.TheVariants.{Done}
use Rattle.si_model.specs.Lists.{Listed, concat_of}
use Rattle.si_model.specs.Rows.{rows_of, item_key, same_key, writes_key}
use Rattle.si_model.specs.Evaluation.{evaluation_of, guard_keys, keys_from, key_guarded, ops_write}
use Rattle.si_model.specs.History.{stamp_at, stamp_of, same_stamp, keys_of}
use Rattle.si_model.specs.Tells.{Tell, prefix_in, last_number}
use Rattle.si_model.specs.Commits.{Published, entry_of, published_of, published_by, snaps_of, snaps_by}
use Rattle.si_model.specs.Snapshots.{contains, rows_in}
use Rattle.si_model.specs.View.{View}
use Rattle.si_model.specs.Setting.{Setting, Asked}
use Rattle.si_model.specs.Arranged.{guards_write}
use Rattle.si_model.specs.Knowledge.{SeesForward}
use Rattle.si_model.specs.Answers.{lock_key, AnswersWith, AnswersOn, AnswersIn, AreNewest}
use Rattle.si_model.specs.Causes.{others_of, EventCause, OutcomeCause, HaveCausesAfter}
use Rattle.si_model.specs.Consistency.{OwnsSnapshot, NumbersFollow, OwnsAll, IsWithin, MayBePublished, share_key}
use Rattle.si_model.specs.Consistency.{FirstWins, is_overtaking, KeepsGuards, HaveNoCircle, IsSound, AreSound}
use Rattle.si_model.specs.Consistency.{AreConsistent, view_by}
use Rattle.si_law.specs.Views.{AsksMore, Extends, Agrees, AgreeOn, KeepCauses}
use Rattle.si_law.specs.Growth.{ending, worker_of, known_after_all, IsNoCommit, OwesCommit, CommitGrowth}
use Rattle.si_model.proofs.ListLemmas.{All-append, listed_append_left, listed_append_right, listed_append_cases}
use Rattle.si_model.proofs.ListLemmas.{filter_listed, listed_map, any_listed, listed_any}
use Rattle.si_model.proofs.EvaluationLemmas.{same_key-refl, same_key_says, done-writes_key, done-guards}
use Rattle.si_law.proofs.Moved.{same_stamp-refl, same_stamp_says, moved_answers, moved_sees, moved_causes_after}
use Rattle.si_law.proofs.Moved.{moved_sound}
use Rattle.si_law.proofs.GrowthEnds.{number_after, number_is, tells_own, last_number-append}
use Rattle.si_law.proofs.GrowthEnds.{next_outside, listed_snap, listed_joined_snap, others_joined, listed_own}
use Rattle.si_law.proofs.GrowthEnds.{snaps_cases}
use Rattle.si_law.proofs.GrowthCommits.{IsCommitOn, published_on, owned_commit, published_of-append, silent_last}
use Rattle.si_law.proofs.GrowthCommits.{commit_published, commit_last, last_is, follow_append, published_snap}
use Rattle.si_law.proofs.GrowthCommits.{published_number}
use Rattle.si_law.proofs.GrowthKeeps.{All-front, sees_front, sees_append, causes_front, causes_append, same_known_all}
use Rattle.si_law.proofs.GrowthKeeps.{keeps_causes, order_end, owned_end, sound_end, Stops}
use Rattle.si_law.proofs.GrowthQuiet.{silent_end}
use Rattle.si_law.proofs.GrowthView.{IsWithOneMore, one_more_listed, one_more_cases, one_more_length, one_more_rows}
use Rattle.si_law.proofs.GrowthView.{one_more_extends, one_more_agrees, one_more_ending}

-- ---- keys of write sets

writes_listed : (is : List Item) (key : Key) → writes_key is key ≡ true → Listed key (map item_key is)
writes_listed [] key h = absurd (false≢true h)
writes_listed (i ∷ is) key h =
    cond_both (same_key (item_key i) key) true (writes_key is key) (λ b. b ≡ true
    → Listed key (item_key i ∷ map item_key is))
    (λ same e. inl (same_key_says (item_key i) key same))
    (λ other e. inr (writes_listed is key e)) h

item_writes : (is : List Item) (i : Item) → Listed i is → writes_key is (item_key i) ≡ true
item_writes [] i l = elim l [ ]
item_writes (x ∷ is) i l =
    cond_both (same_key (item_key x) (item_key i)) true (writes_key is (item_key i)) (λ b. b ≡ true)
    (λ same. refl)
    (λ other. elim l [
      | inl e ↦ absurd (false≢true (sym other ∙ ap (λ z. same_key (item_key z) (item_key i)) e
          ∙ same_key-refl (item_key i)))
      | inr r ↦ item_writes is i r
    ])

module _ (s : Setting) (asked more : Asked) (before : List (List Tell)) (ts was : List Tell) (t : Tell)
    (rest : List Tell) (after : List (List Tell))
    (asks : AsksMore asked more) (consistent : AreConsistent s asked (ending before ts was after))
    (silent : AllByRecursion IsNoCommit was)
    (owes : OwesCommit s more before ts was t rest after) where
  abbrev old : List (List Tell)
  old = ending before ts was after

  abbrev new : List (List Tell)
  new = ending before ts (t ∷ rest) after

  abbrev worker : ℕ
  worker = worker_of before

  abbrev number : ℕ
  number = last_number s.start ts + 1

  abbrev cs : List Published
  cs = published_by old

  abbrev cs' : List Published
  cs' = published_by new

  abbrev v : View
  v = view_by s old

  abbrev w : View
  w = view_by s new

  pub tried : (a : Attempt) × (p : ℕ) × IsCommitOn t a p number
  tried = owned_commit s.start t number owes.owes.owned.0 owes.commit.number

  -- the commit as it is listed
  abbrev pub mine : Published
  mine = published_on worker t tried.0 tried.1 number

  abbrev stamp : Stamp
  stamp = stamp_at worker number

  last_was : last_number s.start (ts ++ was) ≡ last_number s.start ts
  last_was = last_number-append s.start ts was ∙ silent_last (last_number s.start ts) was silent

  last_now : last_number s.start (ts ++ t ∷ rest) ≡ number
  last_now = last_number-append s.start ts (t ∷ rest)
      ∙ commit_last (last_number s.start ts) number t rest owes.commit.number owes.silent

  pub published_now : (j : ℕ) → published_of j (ts ++ t ∷ rest) ≡ published_of j ts
      ++ published_on j t tried.0 tried.1 number ∷ []
  published_now j =
      published_of-append j ts (t ∷ rest) ∙ ap (λ ds. published_of j ts ++ ds)
      (commit_published j t rest tried.0 tried.1 number tried.2 owes.silent)

  pub one_more : IsWithOneMore mine cs cs'
  one_more =
      one_more_ending mine before (ts ++ was) (ts ++ t ∷ rest) after
      (published_now worker ∙ ap (λ ds. ds ++ mine ∷ []) (sym (silent_end worker ts was silent)))

  -- ---- no snapshot contains it, and none of the others bears its stamp

  outside : (snap : List ℕ) → IsWithin s.start snap old → contains snap stamp ≡ false
  outside snap within =
      ap (λ n. contains snap (stamp_at worker (n + 1))) (sym last_was)
      ∙ next_outside s.start snap before (ts ++ was) after within

  pub old_outside : (snap : List ℕ) → Listed snap (snaps_by old) → contains snap stamp ≡ false
  old_outside snap l = outside snap (consistent.order.within snap l)

  pub new_outside : (snap : List ℕ) → Listed snap (snaps_of (t ∷ rest)) → contains snap stamp ≡ false
  new_outside snap l = outside snap ((owes.owes.moments snap l).within)

  pub commit_outside : (d : Published) → Listed d cs → contains d.snap stamp ≡ false
  commit_outside d l = old_outside d.snap (published_snap 1 old d l)

  own_snap : Listed t.snap (snaps_of (t ∷ rest))
  own_snap = listed_snap t (t ∷ rest) tried.1 (inl refl) (ap prefix_in tried.2.tried ∙ tried.2.prefix)

  other_stamp : (d : Published) → Listed d cs → stamp_of d.line ≢ stamp
  other_stamp d l e =
      let h = published_number s.start 1 old d consistent.order.owned l in
      let place : h.0 ≡ length before = omega (arith, h.1, ap (λ z. z.thread) e) in
      let log = ap (λ i. last_number s.start (slice_index_or old i [])) place
      ∙ ap (last_number s.start) (tells_own (ts ++ was) after before) in
      omega (arith, h.2, log, last_was, ap (λ z. z.number) e)

  -- ---- the views

  pub extends : Extends v w
  extends = one_more_extends mine cs cs' one_more (rows_of s.rows)

  agrees : (u : Tell) → contains u.snap stamp ≡ false → Agrees v w u
  agrees u out = one_more_agrees mine cs cs' one_more (rows_of s.rows) u commit_outside out

  pub agree_old : (log : List Tell) → ((u : Tell) → Listed u log → Listed u (concat_of old)) → AgreeOn v w log
  agree_old log within u l p e = agrees u (old_outside u.snap (listed_joined_snap u old p (within u l) e))

  pub agree_new : AgreeOn v w (t ∷ rest)
  agree_new u l p e = agrees u (new_outside u.snap (listed_snap u (t ∷ rest) p l e))

  pub agree_front : AgreeOn v w ts
  agree_front = agree_old ts (λ u l. listed_own u before (ts ++ was) after (listed_append_left ts was u l))

  pub same_rows : (snap : List ℕ) → contains snap stamp ≡ false
      → rows_in (rows_of s.rows) cs snap ≡ rows_in (rows_of s.rows) cs' snap
  same_rows snap out = one_more_rows mine cs cs' one_more (rows_of s.rows) snap out

  evaluates : evaluation_of s.widths (w.value t) t.ops ≡ Done t.reads t.writes owes.commit.guards
  evaluates =
      subst (λ rows. evaluation_of s.widths rows t.ops ≡ Done t.reads t.writes owes.commit.guards)
      (same_rows t.snap (new_outside t.snap own_snap)) owes.commit.evaluates

  -- ---- what the commits are to each other

  may_be : (c : Published) → Listed c cs' → MayBePublished s.widths (rows_of s.rows) cs' c
  may_be c l = elim (one_more_cases mine cs cs' one_more c l) [
    | inl a ↦
        let h = consistent.published c a in
        record {
          own = h.own;
          reads = h.reads;
          guards = h.guards;
          evaluates =
              subst (λ rows. evaluation_of s.widths rows c.ops ≡ Done h.reads c.line.writes h.guards)
              (same_rows c.snap (commit_outside c a)) h.evaluates;
          writes = h.writes;
        }
    | inr e ↦ subst (MayBePublished s.widths (rows_of s.rows) cs') e (record {
      own = new_outside t.snap own_snap;
      reads = t.reads;
      guards = owes.commit.guards;
      evaluates = evaluates;
      writes = owes.commit.writes;
    })
  ]

  sees_item : (d : Published) (i : Item) → Listed d cs → Listed i t.writes
      → writes_key d.line.writes (item_key i) ≡ true →
      contains t.snap (stamp_of d.line) ≡ true
  sees_item d i l m e =
      owes.commit.sees_writers d (item_key i) l
      (listed_append_left (map item_key t.writes) owes.commit.guards (item_key i) (listed_map item_key t.writes i m)) e

  sees_sharing : (d : Published) → Listed d cs → share_key mine d ≡ true → contains t.snap (stamp_of d.line) ≡ true
  sees_sharing d l e = let a = any_listed (λ i. writes_key d.line.writes (item_key i)) t.writes e in
      sees_item d a.0 l a.1 a.2

  sees_shared : (d : Published) → Listed d cs → share_key d mine ≡ true → contains t.snap (stamp_of d.line) ≡ true
  sees_shared d l e =
      let a = any_listed (λ i. writes_key t.writes (item_key i)) d.line.writes e in
      owes.commit.sees_writers d (item_key a.0) l
      (listed_append_left (map item_key t.writes) owes.commit.guards (item_key a.0)
      (writes_listed t.writes (item_key a.0) a.2))
      (item_writes d.line.writes a.0 a.1)

  first_wins : FirstWins cs'
  first_wins c d l m apart shares = elim (one_more_cases mine cs cs' one_more c l) [
    | inl a ↦ elim (one_more_cases mine cs cs' one_more d m) [
      | inl b ↦ consistent.first_wins c d a b apart shares
      | inr f ↦ inl (subst (λ z. contains z.snap (stamp_of c.line) ≡ true) f
          (sees_shared c a (subst (λ z. share_key c z ≡ true) (sym f) shares)))
    ]
    | inr e ↦ elim (one_more_cases mine cs cs' one_more d m) [
      | inl b ↦ inr (subst (λ z. contains z.snap (stamp_of d.line) ≡ true) e
          (sees_sharing d b (subst (λ z. share_key z d ≡ true) (sym e) shares)))
      | inr f ↦ absurd (apart (ap (λ z. stamp_of z.line) (sym e ∙ f)))
    ]
  ]

  guards_are : owes.commit.guards ≡ guard_keys t.ops
  guards_are = done-guards s.widths (v.value t) t.ops t.reads t.writes owes.commit.guards owes.commit.evaluates

  guarded_key : (d : Published) → guards_write mine d ≡ true → (key : Key) × Listed key (guard_keys t.ops)
      × (writes_key d.line.writes key ≡ true)
  guarded_key d h = any_listed (λ key. writes_key d.line.writes key) (guard_keys t.ops) h

  -- it overtakes none of the others, nor itself
  overtakes_none : (d : Published) → Listed d cs' → is_overtaking mine d ≡ true → ⊥
  overtakes_none d l h =
      let both = and_parts (guards_write mine d) (not (contains t.snap (stamp_of d.line))) h in
      let g = guarded_key d both.0 in
      elim (one_more_cases mine cs cs' one_more d l) [
        | inl a ↦
            let key : Listed g.0 (keys_of t.writes owes.commit.guards) =
            listed_append_right (map item_key t.writes) owes.commit.guards g.0 (subst (Listed g.0) (sym guards_are) g.1)
            in
            false≢true (sym (ap not (owes.commit.sees_writers d g.0 a key g.2)) ∙ both.1)
        | inr e ↦
            let unwritten : not (ops_write g.0 t.ops) ≡ true =
            (filter_listed (λ key. not (ops_write key t.ops)) (keys_from key_guarded [] t.ops) g.0 g.1).1 in
            let written : ops_write g.0 t.ops ≡ true =
            sym (done-writes_key s.widths (v.value t) t.ops t.reads t.writes owes.commit.guards owes.commit.evaluates
            g.0)
            ∙ subst (λ z. writes_key z.line.writes g.0 ≡ true) (sym e) g.2 in
            false≢true (sym (ap not written) ∙ unwritten)
      ]

  keeps_guards : (snap : List ℕ) → contains snap stamp ≡ false → KeepsGuards cs snap → KeepsGuards cs' snap
  keeps_guards snap out keep c d l m overtakes contained = elim (one_more_cases mine cs cs' one_more d m) [
    | inr f ↦ absurd (false≢true (sym out ∙ ap (λ z. contains snap (stamp_of z.line)) f ∙ contained))
    | inl b ↦ elim (one_more_cases mine cs cs' one_more c l) [
      | inl a ↦ keep c d a b overtakes contained
      | inr e ↦ absurd (overtakes_none d m (subst (λ z. is_overtaking z d ≡ true) (sym e) overtakes))
    ]
  ]

  abbrev place_now : Stamp → ℕ
  place_now z = if same_stamp z stamp then length cs else consistent.no_circle.place z

  place_old : (d : Published) → Listed d cs → place_now (stamp_of d.line) ≡ consistent.no_circle.place (stamp_of d.line)
  place_old d l =
      rw (false_from_ne_true (same_stamp (stamp_of d.line) stamp)
      (λ e. other_stamp d l (same_stamp_says (stamp_of d.line) stamp e))) refl

  place_mine : place_now stamp ≡ length cs
  place_mine = rw (same_stamp-refl stamp) refl

  no_circle : HaveNoCircle is_overtaking cs'
  no_circle = record { place = place_now; below = below; rises = rises }
    where
      long : length cs' ≡ suc (length cs)
      long = one_more_length mine cs cs' one_more

      below : (c : Published) → Listed c cs' → place_now (stamp_of c.line) < length cs'
      below c l = elim (one_more_cases mine cs cs' one_more c l) [
        | inl a ↦ omega (arith, place_old c a, consistent.no_circle.below c a, long)
        | inr e ↦ subst (λ z. place_now (stamp_of z.line) < length cs') e (omega (arith, place_mine, long))
      ]

      rises : (c d : Published) → Listed c cs' → Listed d cs' → IsTrue (is_overtaking c d)
          → place_now (stamp_of c.line) < place_now (stamp_of d.line)
      rises c d l m overtakes = elim (one_more_cases mine cs cs' one_more c l) [
        | inr e ↦ absurd (overtakes_none d m (subst (λ z. is_overtaking z d ≡ true) (sym e) overtakes))
        | inl a ↦ elim (one_more_cases mine cs cs' one_more d m) [
          | inl b ↦ omega (arith, place_old c a, place_old d b, consistent.no_circle.rises c d a b overtakes)
          | inr f ↦
              subst (λ z. place_now (stamp_of c.line) < place_now (stamp_of z.line)) f
              (omega (arith, place_old c a, consistent.no_circle.below c a, place_mine))
        ]
      ]

  -- ---- what is right of each log

  commit_stops : Stops s before ts was (t ∷ rest) after w
  commit_stops key ends = elim (owes.stops key ends) [
    | inl writes ↦ inl (listed_any (λ e. same_stamp (stamp_of e) stamp && writes_key e.writes key) (map entry_of cs')
        mine.line
        (listed_map entry_of cs' mine (one_more_listed mine cs cs' one_more)) (rw (same_stamp-refl stamp, writes) refl))
    | inr unfound ↦ inr (inr unfound)
  ]

  keep_of : (i : ℕ) (log : List Tell) → i ≢ worker → ((u : Tell) → Listed u log → Listed u (others_of worker old))
      → KeepCauses s w old new i log
  keep_of i log apart listed =
      keeps_causes s before ts was (t ∷ rest) after w silent commit_stops i log (λ _. listed) owes.owes.listed
      owes.owes.buckets
      (λ u l. others_joined 1 worker old u (listed u l))

  keep_own : KeepCauses s w old new worker ts
  keep_own =
      keeps_causes s before ts was (t ∷ rest) after w silent commit_stops worker ts (λ apart. absurd (apart refl))
      owes.owes.listed owes.owes.buckets
      (λ u l. listed_own u before (ts ++ was) after (listed_append_left ts was u l))

  each_sound : (i : ℕ) (log : List Tell) → i ≢ worker → ((u : Tell) → Listed u log → Listed u (others_of worker old))
      → IsSound s asked v old i log →
      IsSound s more w new i log
  each_sound i log apart listed sound =
      moved_sound s asked more v w old new i log asks extends (keep_of i log apart listed)
      (agree_old log (λ u l. others_joined 1 worker old u (listed u l))) sound

  commit_answer : AnswersWith s more w worker t tried.0 (evaluation_of s.widths (w.value t) t.ops) tried.1
      (Commit number)
  commit_answer = (
    t.writes,
    owes.commit.guards,
    evaluates,
    (listed_map entry_of cs' mine (one_more_listed mine cs cs' one_more), owes.commit.locks),
  )

  commit_newest : AreNewest w t
  commit_newest =
      subst (λ newest. AllByRecursion (λ l. l.stamp ≡ newest (lock_key l)) t.locks)
      (agrees t (new_outside t.snap own_snap)).newest owes.commit.newest

  commit_answers : AnswersIn s more w worker t t.event
  commit_answers =
      let h = tried.2 in
      let on : AnswersOn s more w worker t tried.0 (Some tried.1) = (
        subst (λ o. AnswersWith s more w worker t tried.0 (evaluation_of s.widths (w.value t) t.ops) tried.1 o)
            (sym h.outcome) commit_answer,
        commit_newest,
      ) in
      subst (λ e. AnswersIn s more w worker t e) (sym h.tried)
      (subst (λ q. AnswersOn s more w worker t tried.0 q) (sym h.prefix) on)

  commit_cause : EventCause s w new worker ts t t.event
  commit_cause =
      subst (λ e. EventCause s w new worker ts t e) (sym tried.2.tried)
      (subst (λ o. OutcomeCause s w new worker ts t o) (sym tried.2.outcome) tt)

  keep_rest : KeepCauses s w new new worker rest
  keep_rest = record {
    locks = λ key q h. h;
    entries = λ i n h. h;
    collects = λ h. h;
    done = λ key q h. h;
    moves = λ b. omega arith;
    all_moves = λ b. omega arith;
    buckets = λ b key moves h. h;
    stops = λ key q tells apart ends next. inr (ends, next);
  }

  rest_causes : HaveCausesAfter s w new worker (ts ++ t ∷ []) rest
  rest_causes =
      moved_causes_after s more more v w more_refl extends new new worker rest (ts ++ t ∷ []) rest keep_rest front
      (λ u l. agree_new u (inr l)) (λ u l. l) owes.answers owes.owes.causes.1
    where
      more_refl : AsksMore more more
      more_refl = record { ops = λ op l. l; by_calls = λ h. h }

      front : AgreeOn v w (ts ++ t ∷ [])
      front u l = elim (listed_append_cases ts (t ∷ []) u l) [
        | inl a ↦ agree_front u a
        | inr a ↦ agree_new u (elim a [ inl e ↦ inl e | inr b ↦ elim b [ ] ])
      ]

  own_sound : IsSound s asked v old worker (ts ++ was) → IsSound s more w new worker (ts ++ t ∷ rest)
  own_sound sound =
      let known = replicate s.workers s.start in
      let answers = All-front (λ u. AnswersIn s asked v worker u u.event) ts was sound.answers in
      let causes = causes_front s v old worker [] ts was sound.causes in
      let sees : SeesForward w worker (known_after_all w worker known ts) (t ∷ rest) =
      subst (λ k. SeesForward w worker k (t ∷ rest))
      (same_known_all s asked more v w asks extends worker known ts agree_front)
      (moved_sees s asked more v w asks extends worker (known_after_all v worker known ts) (t ∷ rest) agree_new
      owes.owes.sees) in
      record {
        sees =
            sees_append w worker known ts (t ∷ rest)
            (moved_sees s asked more v w asks extends worker known ts agree_front
            (sees_front v worker known ts was sound.sees)) sees;
        answers = All-append (λ u. AnswersIn s more w worker u u.event) ts (t ∷ rest)
            (moved_answers s asked more v w asks extends worker ts agree_front answers) (
              commit_answers,
              moved_answers s more more v w (record { ops = λ op l. l; by_calls = λ h. h }) extends
                  worker rest (λ u l. agree_new u (inr l)) owes.answers,
            );
        causes = causes_append s w new worker [] ts (t ∷ rest)
            (moved_causes_after s asked more v w asks extends old new worker ts [] ts keep_own (λ u l. elim l [ ])
            agree_front (λ u l. l) answers causes)
            (commit_cause, rest_causes);
      }

  commit_sound : AreSound s more w new 1 new
  commit_sound =
      sound_end s asked more v w old new worker each_sound 1 before (ts ++ was) (ts ++ t ∷ rest) after
      (number_is before) own_sound
      (λ u l. l) consistent.sound

  -- ---- all together

  commit_owned : (j : ℕ) → OwnsAll s.start j (ts ++ was) → OwnsAll s.start j (ts ++ t ∷ rest)
  commit_owned j owned =
      let snapshots = All-front (OwnsSnapshot s.start) ts was owned.snapshots in
      let numbers : NumbersFollow s.start (published_of j ts) =
      subst (NumbersFollow s.start) (silent_end j ts was silent) owned.numbers in
      let last = last_is s.start j s.start ts snapshots numbers in
      record {
        snapshots = All-append (OwnsSnapshot s.start) ts (t ∷ rest) snapshots owes.owes.owned;
        numbers =
            subst (NumbersFollow s.start) (sym (published_now j))
            (follow_append s.start (published_of j ts) (published_on j t tried.0 tried.1 number) numbers
            (omega (arith, last)));
      }

  commit_guards : (snap : List ℕ) → Listed snap (snaps_by new) → KeepsGuards cs' snap
  commit_guards snap l = elim (snaps_cases snap before ts was (t ∷ rest) after l) [
    | inl a ↦ keeps_guards snap (old_outside snap a) (consistent.guards snap a)
    | inr a ↦ keeps_guards snap (new_outside snap a) (owes.owes.moments snap a).guards
  ]

  commit_consistent : AreConsistent s more new
  commit_consistent = record {
    one_log_each = same_length before ∙ consistent.one_log_each;
    order = order_end s before ts was (t ∷ rest) after consistent.order owes.owes.moments
        (omega (arith, last_was, last_now))
        (owned_end s.start 1 before (ts ++ was) (ts ++ t ∷ rest) after (commit_owned (number_after 1 before))
        consistent.order.owned);
    published = may_be;
    first_wins = first_wins;
    guards = commit_guards;
    no_circle = no_circle;
    sound = commit_sound;
  }
    where
      same_length : (before : List (List Tell))
          → length (ending before ts (t ∷ rest) after) ≡ length (ending before ts was after)
      same_length [] = refl
      same_length (b ∷ before) = ap suc (same_length before)

pub commit_growth : CommitGrowth
commit_growth s asked more before ts was t rest after asks consistent silent owes =
    commit_consistent s asked more before ts was t rest after asks consistent silent owes
