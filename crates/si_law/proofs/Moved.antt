-- What one view and the logs of all allow, a view that says more and logs that keep what causes rest on allow too.
use Rattle.std.proofs.Common.{◌≡◌, ℕ, suc, ◌+◌, ◌-◌, ◌≤◌, Bool, true, false, cond, ◌⊎◌, inl, inr, List, [], ◌∷◌, ◌++◌}
use Rattle.std.proofs.Common.{take, refl, ap, sym, ◌∙◌, subst, arith, not, Option, Some, None}
use Rattle.std.specs.Prelude.{◌&&◌, ◌||◌, ◌==◌, nat_lt, filter, replicate, slice_index}
use Rattle.std.specs.List.{list_any, AllByRecursion}
use Rattle.std.proofs.lemmas.Bool.{cases_Bool, cond_both, false≢true, and_parts}
use Rattle.std.proofs.lemmas.Bool.Decides.{nat_tests}
use Rattle.si_model.specs.declared.row.Key.{Key}
use Rattle.si_model.specs.declared.row.Item.{Item}
use Rattle.si_model.specs.declared.op.Op.{Op}
use Rattle.si_model.specs.declared.log.Stamp.{Stamp}
use Rattle.si_model.specs.declared.log.Attempt.{Attempt}
use Rattle.si_model.specs.declared.log.MoveEnd.{MoveEnd}
use Rattle.si_model.specs.declared.log.Outcome.{Outcome}
use Rattle.si_model.specs.declared.log.Outcome.TheVariants.{Commit, NoSpace, Again, Locked, Newer, TooOld, Full, Cut}
use Rattle.si_model.specs.declared.log.Outcome.TheVariants.{Left}
use Rattle.si_model.specs.declared.log.Event.{Event}
use Rattle.si_model.specs.declared.log.Event.TheVariants.{Tried, NoRoom, Moved, Collected, CollectAgain}
use Rattle.si_model.specs.declared.report.CommitLine.{CommitLine}
use Rattle.si_model.specs.declared.evaluated.Evaluated.{Evaluated}
use Rattle.si_model.specs.Lists.{Listed}
use Rattle.si_model.specs.Rows.{key_at, same_key, writes_key}
use Rattle.si_model.specs.Evaluation.{evaluation_of}
use Rattle.si_model.specs.History.{loader, same_stamp, stamp_at, stamp_of, versions_of, is_version}
use Rattle.si_model.specs.Tells.{Tell, prefix_in}
use Rattle.si_model.specs.View.{View}
use Rattle.si_model.specs.Setting.{Setting, Asked}
use Rattle.si_model.specs.Knowledge.{AreAtMost, SeesPrefix, SeesOutcome, SeesEvent, SeesForward, known_with, known_by}
use Rattle.si_model.specs.Knowledge.{known_after}
use Rattle.si_model.specs.Answers.{lock_key, is_overtaken, reads_prefix, reads_item, reads_overtaken, AnswersWith}
use Rattle.si_model.specs.Answers.{AnswersOn, AnswersIn, AnswersMatch, ReadsFirst}
use Rattle.si_model.specs.Causes.{others_of, has_collected, is_written, frees, fills, filling, AgainCause, LockedCause}
use Rattle.si_model.specs.Causes.{NewerCause, OldCause, FullCause, OutcomeCause, NoRoomCause, MoveCause, EventCause}
use Rattle.si_model.specs.Causes.{HaveCausesAfter}
use Rattle.si_model.specs.Consistency.{IsSound}
use Rattle.si_model.proofs.ListLemmas.{listed_append_cases, listed_filter, filter_listed, listed_map, map_listed}
use Rattle.si_model.proofs.ListLemmas.{any_listed, listed_any}
use Rattle.si_model.proofs.EvaluationLemmas.{same_key-refl}
use Rattle.si_law.specs.Views.{AsksMore, Extends, Agrees, AgreeOn, moves_key_into, is_newer, tells_newer, KeepCauses}
use Rattle.si_law.proofs.GrowthCrowded.{crowded_stays}

-- ---- tests of lists, and stamps

-- what passes one test in one list passes another in another
pub list_any_moves : {X : Type 0} (p q : X → Bool) (xs ys : List X)
    → ((x : X) → Listed x xs → p x ≡ true → Listed x ys × (q x ≡ true)) →
    list_any p xs ≡ true → list_any q ys ≡ true
list_any_moves p q xs ys move h =
    let a = any_listed p xs h in
    let b = move a.0 a.1 a.2 in
    listed_any q ys a.0 b.0 b.1

-- a test that passes in a list passes where its elements stand too
pub list_any_stays : {X : Type 0} (p : X → Bool) (xs ys : List X) → ((x : X) → Listed x xs → Listed x ys)
    → list_any p xs ≡ true → list_any p ys ≡ true
list_any_stays p xs ys stay h = list_any_moves p p xs ys (λ x l e. (stay x l, e)) h

pub same_stamp-refl : (q : Stamp) → same_stamp q q ≡ true
same_stamp-refl q = grind (arith, nat_tests)

pub same_stamp_says : (a b : Stamp) → same_stamp a b ≡ true → a ≡ b
same_stamp_says a b same =
    let thread : a.thread ≡ b.thread = grind (arith, nat_tests) in
    let number : a.number ≡ b.number = grind (arith, nat_tests) in
    ap (λ t. stamp_at t a.number) thread ∙ ap (stamp_at b.thread) number

-- the stamp of an entry that writes the key is a version
pub version_listed : (key : Key) (e : CommitLine) (es : List CommitLine) → Listed e es → writes_key e.writes key ≡ true
    → Listed (stamp_of e) (versions_of key es)
version_listed key e es l h =
    let writes : CommitLine → Bool = λ f. writes_key f.writes key in
    inr (listed_map stamp_of (filter writes es) e (listed_filter writes es e l h))

-- and each version is one, or the loader's
pub version_cases : (key : Key) (q : Stamp) (es : List CommitLine) → Listed q (versions_of key es) →
    (loader ≡ q) ⊎ ((e : CommitLine) × Listed e es × (writes_key e.writes key ≡ true) × (stamp_of e ≡ q))
version_cases key q es l = elim l [
  | inl e ↦ inl e
  | inr r ↦
      let writes : CommitLine → Bool = λ f. writes_key f.writes key in
      let d = map_listed stamp_of (filter writes es) q r in
      let f = filter_listed writes es d.0 d.1 in
      inr (d.0, f.0, f.1, d.2)
]

-- a version stays one where all entries stay
pub is_version_moves : (key : Key) (q : Stamp) (es fs : List CommitLine)
    → ((e : CommitLine) → Listed e es → Listed e fs) →
    is_version key q es ≡ true → is_version key q fs ≡ true
is_version_moves key q es fs stay h =
    list_any_stays (λ p. same_stamp p q) (versions_of key es) (versions_of key fs) version h
  where
    version : (p : Stamp) → Listed p (versions_of key es) → Listed p (versions_of key fs)
    version p l = elim (version_cases key p es l) [
      | inl e ↦ inl e
      | inr (e, m, writes, is) ↦ subst (λ z. Listed z (versions_of key fs)) is
          (version_listed key e fs (stay e m) writes)
    ]

-- the views say the same of the event, if it has a prefix
abbrev pub AgreesAt : View → View → Tell → Event → Type 0
AgreesAt v w t e = (p : ℕ) → prefix_in e ≡ Some p → Agrees v w t

module _ (s : Setting) (asked more : Asked) (v w : View) (asks : AsksMore asked more) (extends : Extends v w) where
  -- ---- answers

  moved_overtaken : (t : Tell) (test : Item → Bool) → Agrees v w t → is_overtaken v t test ≡ true
      → is_overtaken w t test ≡ true
  moved_overtaken t test same h =
      list_any_moves (λ e. list_any test e.writes && not (v.has t (stamp_of e)))
      (λ e. list_any test e.writes && not (w.has t (stamp_of e))) v.all w.all
      (λ e l p. (extends.listed e l, ap (λ has. list_any test e.writes && not (has (stamp_of e))) (sym same.has) ∙ p)) h

  moved_reads_overtaken : (t : Tell) (before : List Op) (op : Op) → Agrees v w t → reads_overtaken v t before op ≡ true
      →
      reads_overtaken w t before op ≡ true
  moved_reads_overtaken t before op same h =
      let both = and_parts (reads_prefix before op) (is_overtaken v t (reads_item op)) h in
      ap (λ b. b && is_overtaken w t (reads_item op)) both.0 ∙ moved_overtaken t (reads_item op) same both.1

  module _ (j : ℕ) (t : Tell) (a : Attempt) (same : Agrees v w t) where
    moved_reads_first : (k : ℕ) → ReadsFirst s.widths (v.value t) t.ops k t.reads
        → ReadsFirst s.widths (w.value t) t.ops k t.reads
    moved_reads_first k h = subst (λ rows. ReadsFirst s.widths rows t.ops k t.reads) same.value h

    moved_with : (e : Evaluated) (p : ℕ) (o : Outcome) → AnswersWith s asked v j t a e p o
        → AnswersWith s more w j t a e p o
    moved_with e p (Commit n) h = (h.0, h.1, h.2, (extends.listed _ h.3.0, h.3.1))
    moved_with e p (NoSpace table) h =
        let room = h.3 in (
          h.0,
          h.1,
          h.2,
          (room.0, room.1, crowded_stays s asked more asks room.0 room.2),
          moved_reads_first (suc h.0) h.4,
          h.5,
        )
    moved_with e p (TooOld i x y) h =
        (h.0, h.1, h.2, moved_reads_overtaken t (take h.0 t.ops) h.1 same h.3, moved_reads_first h.0 h.4, h.5)
    moved_with e p Left h = (asks.by_calls h.0, h.1, h.2)
    moved_with e p o h = h

  moved_on : (j : ℕ) (t : Tell) (a : Attempt) (p : Option ℕ) → ((q : ℕ) → p ≡ Some q → Agrees v w t)
      → AnswersOn s asked v j t a p →
      AnswersOn s more w j t a p
  moved_on j t a None agree h = h
  moved_on j t a (Some p) agree h =
      let same = agree p refl in (
        subst (λ rows. AnswersWith s more w j t a (evaluation_of s.widths rows t.ops) p a.outcome) same.value
            (moved_with j t a same (evaluation_of s.widths (v.value t) t.ops) p a.outcome h.0),
        subst (λ newest. AllByRecursion (λ l. l.stamp ≡ newest (lock_key l)) t.locks) same.newest h.1,
      )

  -- the answer of one event
  pub moved_answer : (j : ℕ) (t : Tell) (e : Event) → AgreesAt v w t e → AnswersIn s asked v j t e
      → AnswersIn s more w j t e
  moved_answer j t (Tried a) agree h = moved_on j t a a.prefix agree h
  moved_answer j t e agree h = h

  pub moved_answers : (j : ℕ) (ts : List Tell) → AgreeOn v w ts → AnswersMatch s asked v j ts
      → AnswersMatch s more w j ts
  moved_answers j [] agree h = tt
  moved_answers j (t ∷ ts) agree h =
      (moved_answer j t t.event (agree t (inl refl)) h.0, moved_answers j ts (λ x l. agree x (inr l)) h.1)

  -- ---- knowledge

  same_with : (t : Tell) (known : List ℕ) (p : Option ℕ) → ((q : ℕ) → p ≡ Some q → Agrees v w t)
      → known_with v t known p ≡ known_with w t known p
  same_with t known None agree = refl
  same_with t known (Some p) agree = (agree p refl).entries

  pub same_known : (j : ℕ) (t : Tell) (known : List ℕ) (e : Event) → AgreesAt v w t e
      → known_after v j t known e ≡ known_after w j t known e
  same_known j t known (Tried a) agree = ap (λ k. known_by j k a.outcome) (same_with t known a.prefix agree)
  same_known j t known (Collected b p ns cut) agree = (agree p refl).entries
  same_known j t known (CollectAgain b i x y) agree = refl
  same_known j t known e agree = refl

  moved_sees_prefix : (t : Tell) (known : List ℕ) (p : Option ℕ) → ((q : ℕ) → p ≡ Some q → Agrees v w t)
      → SeesPrefix v t known p →
      SeesPrefix w t known p
  moved_sees_prefix t known None agree h = tt
  moved_sees_prefix t known (Some p) agree h =
      (omega (arith, h.0, extends.long), subst (AreAtMost known) (agree p refl).entries h.1)

  moved_sees_event : (j : ℕ) (t : Tell) (known : List ℕ) (e : Event) → AgreesAt v w t e → SeesEvent v t known e
      → SeesEvent w t known e
  moved_sees_event j t known (Tried a) agree h = (
    moved_sees_prefix t known a.prefix agree h.0,
    subst (λ k. SeesOutcome k a.outcome) (same_with t known a.prefix agree) h.1,
  )
  moved_sees_event j t known (Collected b p ns cut) agree h = moved_sees_prefix t known (Some p) agree h
  moved_sees_event j t known (CollectAgain b i x y) agree h = h
  moved_sees_event j t known e agree h = h

  pub moved_sees : (j : ℕ) (known : List ℕ) (ts : List Tell) → AgreeOn v w ts → SeesForward v j known ts
      → SeesForward w j known ts
  moved_sees j known [] agree h = tt
  moved_sees j known (t ∷ ts) agree h = (
    moved_sees_event j t known t.event (agree t (inl refl)) h.0,
    moved_sees j (known_after w j t known t.event) ts (λ x l. agree x (inr l))
        (subst (λ k. SeesForward v j k ts) (same_known j t known t.event (agree t (inl refl))) h.1),
  )

  -- ---- causes

  same_frees : (b : ℕ) (key : Key) (q : Stamp) (t : Tell) (e : Event) → AgreesAt v w t e
      → frees v b key q t e ≡ frees w b key q t e
  same_frees b key q t (Collected c p ns cut) agree =
      ap (λ n. (c == b) && not cut && nat_lt 0 n) ((agree p refl).later key q)
  same_frees b key q t (Tried a) agree = refl
  same_frees b key q t e agree = refl

  same_freeing : (b : ℕ) (key : Key) (q : Stamp) (ts : List Tell) → AgreeOn v w ts →
      list_any (λ t. frees v b key q t t.event) ts ≡ list_any (λ t. frees w b key q t t.event) ts
  same_freeing b key q [] agree = refl
  same_freeing b key q (t ∷ ts) agree =
      rw (same_frees b key q t t.event (agree t (inl refl)), same_freeing b key q ts (λ x l. agree x (inr l))) refl

  module _ (flag flag' : Bool) (kept : flag ≡ true → flag' ≡ true) (b : ℕ) where
    fills_grow : (ts : List Tell) (e : Event) → AgreeOn v w ts → fills v flag b ts e ≡ true
        → fills w flag' b ts e ≡ true
    fills_grow ts (Moved c table key q how) agree h =
        grows (c == b) flag flag' _ _ kept (same_freeing b (key_at table key) q ts agree) h
      where
        grows : (into f f' freed freed' : Bool) → (f ≡ true → f' ≡ true) → freed ≡ freed'
            → (into && (f || not freed)) ≡ true →
            (into && (f' || not freed')) ≡ true
        grows false f f' freed freed' keep same h = h
        grows true true f' freed freed' keep same h = ap (λ x. x || not freed') (keep refl)
        grows true false true freed freed' keep same h = refl
        grows true false false freed freed' keep same h = ap not (sym same) ∙ h
    fills_grow ts e agree h = h

    filling_grows : (ts : List Tell) → AgreeOn v w ts → filling v flag b ts ≤ filling w flag' b ts
    filling_grows [] agree = omega arith
    filling_grows (t ∷ ts) agree =
        counts (fills v flag b ts t.event) (fills w flag' b ts t.event) _ _
        (fills_grow ts t.event (λ x l. agree x (inr l)))
        (filling_grows ts (λ x l. agree x (inr l)))
      where
        counts : (x y : Bool) (m n : ℕ) → (x ≡ true → y ≡ true) → m ≤ n → cond x 1 0 + m ≤ cond y 1 0 + n
        counts false y m n keep le =
            cond_both y 1 0 (λ k. 0 + m ≤ k + n) (λ _. omega (arith, le)) (λ _. omega (arith, le))
        counts true true m n keep le = omega (arith, le)
        counts true false m n keep le = absurd (false≢true (keep refl))

  module _ (tss now : List (List Tell)) (j : ℕ) (all : List Tell) (keep : KeepCauses s w tss now j all)
      (done : List Tell) (t : Tell) where
    moved_again : (i x y : ℕ) → AgainCause s v tss j done t i x y → AgainCause s w now j done t i x y
    moved_again i x y h =
        (h.0, h.1, list_any_stays (λ e. same_stamp (stamp_of e) (stamp_at i y)) v.all w.all extends.listed h.2)

    moved_locked : (key : Key) (q : Stamp) → Agrees v w t → LockedCause s v tss j done t key q
        → LockedCause s w now j done t key q
    moved_locked key q same h = (keep.locks key q h.0, λ k. sym (same.later key q) ∙ none)
      where
        none : v.later t key q ≡ 0
        none = elim (cases_Bool (is_version key q v.all)) [ inl e ↦ h.1 e | inr e ↦ extends.unversioned t key q e ]

    moved_written : (key : Key) (q : Stamp) → is_written v key q ≡ true → is_written w key q ≡ true
    moved_written key q h =
        list_any_stays (λ e. same_stamp (stamp_of e) q && writes_key e.writes key) v.all w.all extends.listed h

    moved_newer : (key : Key) (q : Stamp) → Agrees v w t → tells_newer key q t.event ≡ true → Listed t all
        → NewerCause s v tss j done t key q →
        NewerCause s w now j done t key q
    moved_newer key q same tells l h = (
      h.0,
      ap (λ has. has q) (sym same.has) ∙ h.1,
      elim h.2 [
        | inl e ↦ inl (moved_written key q e)
        | inr e ↦ keep.stops key q (listed_any (λ o. tells_newer key q o.event) all t l tells) h.0 e.0 e.1
      ],
    )

    moved_old : (i x y : ℕ) → Agrees v w t → OldCause s v tss j done t i x y → OldCause s w now j done t i x y
    moved_old i x y same h = (h.0, subst (λ ns. slice_index ns (i - 1) ≡ x) same.entries h.1, h.2, keep.entries i y h.3)

    moved_full : (key : Key) (q : Stamp) → Agrees v w t → FullCause s v tss j done t key q
        → FullCause s w now j done t key q
    moved_full key q same h =
        (is_version_moves key q v.all w.all extends.listed h.0, omega (arith, h.1, same.later key q), h.2)

    moved_outcome : (a : Attempt) (o : Outcome) → t.event ≡ Tried a → a.outcome ≡ o → Listed t all → Agrees v w t
        → OutcomeCause s v tss j done t o →
        OutcomeCause s w now j done t o
    moved_outcome a (Again i x y) is ends l same h = moved_again i x y h
    moved_outcome a (Locked k) is ends l same h = moved_locked (lock_key k) k.stamp same h
    moved_outcome a (Newer k) is ends l same h =
        moved_newer (lock_key k) k.stamp same
        (ap (tells_newer (lock_key k) k.stamp) is ∙ ap (is_newer (lock_key k) k.stamp) ends
        ∙ rw (same_key-refl (lock_key k), same_stamp-refl k.stamp) refl) l h
    moved_outcome a (TooOld i x y) is ends l same h = moved_old i x y same h
    moved_outcome a (Full k) is ends l same h = moved_full (lock_key k) k.stamp same h
    moved_outcome a o is ends l same h = h

    -- without a snapshot there is no cause that rests on one
    moved_without : (a : Attempt) (o : Outcome) → AnswersOn s asked v j t (record a { outcome = o }) None
        → OutcomeCause s v tss j done t o →
        OutcomeCause s w now j done t o
    moved_without a (Again i x y) answers h = moved_again i x y h
    moved_without a Cut answers h = h
    moved_without a o answers h = elim answers [ ]

    moved_tried : (a : Attempt) (p : Option ℕ) → t.event ≡ Tried a → ((q : ℕ) → p ≡ Some q → Agrees v w t)
        → Listed t all →
        AnswersOn s asked v j t a p → OutcomeCause s v tss j done t a.outcome → OutcomeCause s w now j done t a.outcome
    moved_tried a None is agree l answers h = moved_without a a.outcome answers h
    moved_tried a (Some p) is agree l answers h = moved_outcome a a.outcome is refl l (agree p refl) h

    moved_no_room : (b : ℕ) → AgreeOn v w done → NoRoomCause s v tss j done t b → NoRoomCause s w now j done t b
    moved_no_room b agree h = elim h [
      | inl q ↦ inl (omega (
        arith,
        q,
        filling_grows (list_any (λ o. has_collected o.event) (others_of j tss))
            (list_any (λ o. has_collected o.event) (others_of j now)) keep.collects b done agree,
        keep.moves b,
      ))
      | inr q ↦ inr (omega (arith, q, keep.all_moves b))
    ]

    moved_move : (b : ℕ) (key : Key) (q : Stamp) (how : MoveEnd) → moves_key_into b key t.event ≡ true → Listed t all →
        MoveCause s v tss j done t b key q how → MoveCause s w now j done t b key q how
    moved_move b key q how moves l h = (
      is_version_moves key q v.all w.all extends.listed h.0,
      keep.buckets b key (listed_any (λ o. moves_key_into b key o.event) all t l moves) h.1,
      λ back. keep.done key q (h.2 back),
    )

    -- the cause of one event, where it answers too
    pub moved_cause : (e : Event) → t.event ≡ e → AgreeOn v w done → AgreesAt v w t e → Listed t all
        → AnswersIn s asked v j t e →
        EventCause s v tss j done t e → EventCause s w now j done t e
    moved_cause (Tried a) is before agree l answers h = moved_tried a a.prefix is agree l answers h
    moved_cause (NoRoom b) is before agree l answers h = moved_no_room b before h
    moved_cause (Moved b table key q how) is before agree l answers h =
        moved_move b (key_at table key) q how (ap (moves_key_into b (key_at table key)) is ∙ into b (key_at table key))
        l h
      where
        into : (b : ℕ) (key : Key) → ((b == b) && same_key key key) ≡ true
        into b key = grind (arith, nat_tests)
    moved_cause (Collected b p ns cut) is before agree l answers h = h ∙ (agree p refl).entries
    moved_cause (CollectAgain b i x y) is before agree l answers h = moved_again i x y h
    moved_cause e is before agree l answers h = h

  -- the causes of events among those that the logs keep the causes of
  pub moved_causes_after : (tss now : List (List Tell)) (j : ℕ) (all done ts : List Tell) → KeepCauses s w tss now j all
      → AgreeOn v w done →
      AgreeOn v w ts → ((x : Tell) → Listed x ts → Listed x all) → AnswersMatch s asked v j ts →
      HaveCausesAfter s v tss j done ts → HaveCausesAfter s w now j done ts
  moved_causes_after tss now j all done [] keep before agree within answers h = tt
  moved_causes_after tss now j all done (t ∷ ts) keep before agree within answers h = (
    moved_cause tss now j all keep done t t.event refl before (agree t (inl refl)) (within t (inl refl)) answers.0 h.0,
    moved_causes_after tss now j all (done ++ t ∷ []) ts keep
        (λ x l. elim (listed_append_cases done (t ∷ []) x l) [
          | inl a ↦ before x a
          | inr a ↦ agree x (elim a [ inl e ↦ inl e | inr b ↦ elim b [ ] ])
        ])
        (λ x l. agree x (inr l)) (λ x l. within x (inr l)) answers.1 h.1,
  )

-- what one view and logs allow of worker j's events, others do
pub moved_sound : (s : Setting) (asked more : Asked) (v w : View) (tss now : List (List Tell)) (j : ℕ) (ts : List Tell)
    →
    AsksMore asked more → Extends v w → KeepCauses s w tss now j ts → AgreeOn v w ts → IsSound s asked v tss j ts
    → IsSound s more w now j ts
moved_sound s asked more v w tss now j ts asks extends keep agree sound = record {
  sees = moved_sees s asked more v w asks extends j (replicate s.workers s.start) ts agree sound.sees;
  answers = moved_answers s asked more v w asks extends j ts agree sound.answers;
  causes = moved_causes_after s asked more v w asks extends tss now j ts [] ts keep (λ x l. elim l [ ]) agree (λ x l. l)
      sound.answers sound.causes;
}
