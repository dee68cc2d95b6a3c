-- The view by the arranged history and the view by the snapshots say the same.
use Rattle.std.proofs.Common.{◌≡◌, ℕ, zero, suc, ◌+◌, ◌-◌, ◌<◌, Bool, true, false, cond, inl, inr, List, [], ◌∷◌}
use Rattle.std.proofs.Common.{length, get_or, take, drop, refl, ap, sym, ◌∙◌, subst, arith, eqb, Some}
use Rattle.std.specs.Prelude.{filter, map, unwrap_or, ◌&&◌, ◌||◌}
use Rattle.std.specs.List.{AllByRecursion, list_any}
use Rattle.std.proofs.Math.Path.{fun_ext}
use Rattle.std.proofs.lemmas.Bool.{false≢true, true≢false, cases_Bool, false_from_ne_true, eq-eqb, ne_eqb, or_parts}
use Rattle.std.proofs.lemmas.List.{length-append, length-map, take-map}
use Rattle.std.proofs.lemmas.List.Elements.{filter-append}
use Rattle.std.proofs.lemmas.List.Sorted.{length_permutation, IsPermutation-map}
use Rattle.si_model.specs.declared.row.Key.{Key}
use Rattle.si_model.specs.declared.log.Stamp.{Stamp}
use Rattle.si_model.specs.declared.report.CommitLine.{CommitLine}
use Rattle.si_model.specs.Lists.{Listed, Pairwise}
use Rattle.si_model.specs.Rows.{Rows, writes_key}
use Rattle.si_model.specs.State.{state_at}
use Rattle.si_model.specs.History.{loader, stamp_of, same_stamp, has_stamp, count_of, entries_from, entries_at}
use Rattle.si_model.specs.History.{newest_writer, versions_of, is_version, after_stamp, versions_after}
use Rattle.si_model.specs.Tells.{Tell, prefix_in, prefix_of}
use Rattle.si_model.specs.Commits.{Published, entry_of, published_of, published_from, published_by, snaps_by}
use Rattle.si_model.specs.Snapshots.{contains, inside, sum_above, is_after}
use Rattle.si_model.specs.View.{View, by_history, by_snapshots}
use Rattle.si_model.specs.Consistency.{AreOwned, IsWithin, HaveOrder, FirstWins}
use Rattle.si_model.proofs.ListLemmas.{Pairwise-weaker, Pairwise-filter, All-listed, All-from_listed, filter-all}
use Rattle.si_model.proofs.ListLemmas.{filter-none, filter_listed, listed_filter, length_filter_permutation, listed_map}
use Rattle.si_model.proofs.ListLemmas.{map_listed, any_listed, listed_any}
use Rattle.si_model.proofs.SnapshotLemmas.{contains_at_most}
use Rattle.si_law.specs.Views.{Extends, Agrees}
use Rattle.si_law.proofs.Moved.{same_stamp-refl, same_stamp_says}
use Rattle.si_law.proofs.Standing.{worker_of, worker_from, last_number-is, is_of, is_writer, is_inside, AreOutside}
use Rattle.si_law.proofs.Standing.{worker_is}
use Rattle.si_law.proofs.Counted.{IsOrdered, count_one, drop_cons, first_entries, from_history, to_history}
use Rattle.si_law.proofs.Newest.{share_from}
use Rattle.si_law.proofs.Order.{stands, before_prefix, writers_in_order, to_inside, from_inside, state_agrees}
use Rattle.si_law.proofs.Order.{stamp_agrees, SeesWriter}

-- ---- lists

filter-filter : {X : Type 0} (p q : X → Bool) (xs : List X) → filter q (filter p xs) ≡ filter (λ x. p x && q x) xs
filter-filter p q [] = refl
filter-filter p q (x ∷ xs) =
    elim (cases_Bool (p x)) [
      | inl e ↦ rw (e, filter-filter p q xs) refl
      | inr e ↦ rw (e, filter-filter p q xs) refl
    ]

same_bool : (a b : Bool) → (a ≡ true → b ≡ true) → (b ≡ true → a ≡ true) → a ≡ b
same_bool true true f g = refl
same_bool true false f g = sym (f refl)
same_bool false true f g = g refl
same_bool false false f g = refl

same_any : {X : Type 0} (p : X → Bool) (xs ys : List X) → ((x : X) → Listed x xs → Listed x ys)
    → ((x : X) → Listed x ys → Listed x xs)
    → list_any p xs ≡ list_any p ys
same_any p xs ys to from =
    same_bool (list_any p xs) (list_any p ys)
    (λ h. let r = any_listed p xs h in listed_any p ys r.0 (to r.0 r.1) r.2)
    (λ h. let r = any_listed p ys h in listed_any p xs r.0 (from r.0 r.1) r.2)

mapped : {X Y : Type 0} (f : X → Y) (xs ys : List X) → ((x : X) → Listed x xs → Listed x ys) → (y : Y)
    → Listed y (map f xs) → Listed y (map f ys)
mapped f xs ys to y l = let r = map_listed f xs y l in
    subst (λ z. Listed z (map f ys)) r.2 (listed_map f ys r.0 (to r.0 r.1))

-- ---- how many of a worker's commits a snapshot contains

count_filter : (j : ℕ) (cs : List Published) → count_of j (map entry_of cs) ≡ length (filter (is_of j) cs)
count_filter j [] = refl
count_filter j (c ∷ cs) =
    elim (cases_Bool (eqb c.line.worker j)) [
      | inl e ↦ rw (e, count_filter j cs) (omega arith)
      | inr e ↦ rw (e, count_filter j cs) (omega arith)
    ]

all_of : (j : ℕ) (cs : List Published) → ((c : Published) → Listed c cs → c.line.worker ≡ j) → filter (is_of j) cs ≡ cs
all_of j cs h =
    filter-all (is_of j) cs (All-from_listed (λ c. is_of j c ≡ true) cs (λ c l. eq-eqb c.line.worker j (h c l)))

none_of : (j : ℕ) (cs : List Published) → ((c : Published) → Listed c cs → c.line.worker ≡ j → ⊥)
    → filter (is_of j) cs ≡ []
none_of j cs h =
    filter-none (is_of j) cs (All-from_listed (λ c. is_of j c ≡ false) cs (λ c l. ne_eqb c.line.worker j (h c l)))

-- of the commits inside a snapshot, those of worker i + 1 + k are as many as its entry says
count_worker : (start i : ℕ) (snap ns : List ℕ) (tss : List (List Tell)) → drop i snap ≡ ns → IsWithin start ns tss
    → AreOwned start (suc i) tss → (k : ℕ) → k < length ns
    → start + length (filter (is_of (suc i + k)) (inside snap (published_from (suc i) tss))) ≡ get_or ns k 0
count_worker start i snap [] tss e w h k lt = absurd (omega arith)
count_worker start i snap (n ∷ ns) [] e w h k lt = elim w [ ]
count_worker start i snap (n ∷ ns) (ts ∷ tss) e w h zero lt =
    let p : Published → Bool = is_inside snap in
    let A = published_of (suc i) ts in
    let B = published_from (suc (suc i)) tss in
    let here : get_or snap (suc i - 1) 0 ≡ n = let q : suc i - 1 ≡ i =
    omega arith in rw q (drop_cons snap i n ns e).0 in
    let one = count_one (suc i) start n snap (omega arith) here A (worker_of (suc i) ts) h.0.numbers in
    let last = last_number-is start (suc i) start ts h.0.snapshots h.0.numbers in
    let mine : filter (is_of (suc i + 0)) (filter p A) ≡ filter p A =
    all_of (suc i + 0) (filter p A) (λ c l. omega (arith, worker_is (suc i) ts c (filter_listed p A c l).0)) in
    let none : filter (is_of (suc i + 0)) (filter p B) ≡ [] =
    none_of (suc i + 0) (filter p B) (λ c l q.
    omega (arith, q, worker_from (suc (suc i)) tss c (filter_listed p B c l).0)) in
    rw (filter-append p A B, filter-append (is_of (suc i + 0)) (filter p A) (filter p B), mine, none)
    (omega (arith, length-append (filter p A) [], one, last, w.0, w.1))
count_worker start i snap (n ∷ ns) (ts ∷ tss) e w h (suc k) lt =
    let p : Published → Bool = is_inside snap in
    let A = published_of (suc i) ts in
    let B = published_from (suc (suc i)) tss in
    let rest = count_worker start (suc i) snap ns tss (drop_cons snap i n ns e).1 w.2 h.1 k (omega arith) in
    let same : suc (suc i) + k ≡ suc i + suc k = omega arith in
    let rest' : start + length (filter (is_of (suc i + suc k)) (filter p B)) ≡ get_or ns k 0 =
    subst (λ j. start + length (filter (is_of j) (filter p B)) ≡ get_or ns k 0) same rest in
    let none : filter (is_of (suc i + suc k)) (filter p A) ≡ [] =
    none_of (suc i + suc k) (filter p A) (λ c l q. omega (arith, q, worker_is (suc i) ts c (filter_listed p A c l).0))
    in
    rw (filter-append p A B, filter-append (is_of (suc i + suc k)) (filter p A) (filter p B), none) rest'

entries_are : (start i : ℕ) (ns : List ℕ) (es : List CommitLine)
    → ((k : ℕ) → k < length ns → start + count_of (suc i + k) es ≡ get_or ns k 0)
    → entries_from (length ns) (suc i) start es ≡ ns
entries_are start i [] es h = refl
entries_are start i (n ∷ ns) es h =
    let at : start + count_of (suc i) es ≡ n =
    subst (λ j. start + count_of j es ≡ n) (omega arith) (h 0 (omega arith)) in
    let rest = entries_are start (suc i) ns es
    (λ k lt. subst (λ j. start + count_of j es ≡ get_or ns k 0) (omega arith) (h (suc k) (omega arith))) in
    rw (at, rest) refl

-- ---- versions after a version

-- the stamps of the commits that write the key
written_by : (key : Key) (cs : List Published)
    → filter (λ e. writes_key e.writes key) (map entry_of cs) ≡ map entry_of (filter (is_writer key) cs)
written_by key [] = refl
written_by key (c ∷ cs) =
    elim (cases_Bool (writes_key c.line.writes key)) [
      | inl e ↦ rw (e, written_by key cs) refl
      | inr e ↦ rw (e, written_by key cs) refl
    ]

abbrev stamps : List Published → List Stamp
stamps cs = map (λ c. stamp_of c.line) cs

stamps_map : (cs : List Published) → map stamp_of (map entry_of cs) ≡ stamps cs
stamps_map [] = refl
stamps_map (c ∷ cs) = ap (λ ss. stamp_of c.line ∷ ss) (stamps_map cs)

versions_are : (key : Key) (cs : List Published) → versions_of key (map entry_of cs) ≡ loader
    ∷ stamps (filter (is_writer key) cs)
versions_are key cs = ap (λ es. loader ∷ map stamp_of es) (written_by key cs)
    ∙ ap (λ ss. loader ∷ ss) (stamps_map (filter (is_writer key) cs))

-- in a list where each snapshot contains the commits before it, those after c are those whose snapshots contain c
after_count : (e : Published) (cs : List Published) → Pairwise (λ c d. contains d.snap (stamp_of c.line) ≡ true) cs
    → ((c : Published) → Listed c cs → contains c.snap (stamp_of c.line) ≡ false)
    → ((c : Published) → Listed c cs → contains c.snap (stamp_of e.line) ≡ true → Listed e cs)
    → ((c d : Published) → Listed c cs → Listed d cs → contains d.snap (stamp_of c.line) ≡ true
    → contains c.snap (stamp_of d.line) ≡ true → ⊥)
    → length (after_stamp (stamp_of e.line) (stamps cs)) ≡ length (filter (λ c. contains c.snap (stamp_of e.line)) cs)
after_count e [] p own has apart = refl
after_count e (c ∷ cs) p own has apart =
    elim (cases_Bool (same_stamp (stamp_of c.line) (stamp_of e.line))) [
      | inl t ↦
          let q = same_stamp_says (stamp_of c.line) (stamp_of e.line) t in
          let here : contains c.snap (stamp_of e.line) ≡ false =
          subst (λ z. contains c.snap z ≡ false) q (own c (inl refl)) in
          let rest : filter (λ c. contains c.snap (stamp_of e.line)) cs ≡ cs =
          filter-all (λ c. contains c.snap (stamp_of e.line)) cs
          (subst (λ z. AllByRecursion (λ d. contains d.snap z ≡ true) cs) q p.0) in
          rw (t, here, rest) (length-map cs (λ c. stamp_of c.line))
      | inr f ↦
          let later : Listed e (c ∷ cs) → Listed e cs = λ l. elim l [
            | inl q ↦ absurd (false≢true (sym f ∙ ap (λ z. same_stamp (stamp_of z.line) (stamp_of e.line)) q
                ∙ same_stamp-refl (stamp_of e.line)))
            | inr r ↦ r
          ] in
          let here : contains c.snap (stamp_of e.line) ≡ false =
          false_from_ne_true (contains c.snap (stamp_of e.line)) (λ t.
          let l = later (has c (inl refl) t) in
          apart c e (inl refl) (inr l) (All-listed (λ d. contains d.snap (stamp_of c.line) ≡ true) cs e p.0 l) t) in
          rw (f, here) (after_count e cs p.1 (λ d l. own d (inr l)) (λ d l t. later (has d (inr l) t))
          (λ x y l k. apart x y (inr l) (inr k)))
    ]

after_none : (s : Stamp) (cs : List Published)
    → ((c : Published) → Listed c cs → same_stamp (stamp_of c.line) s ≡ false)
    → after_stamp s (stamps cs) ≡ []
after_none s [] h = refl
after_none s (c ∷ cs) h = rw (h c (inl refl)) (after_none s cs (λ d l. h d (inr l)))

same_stamp-sym : (a b : Stamp) → same_stamp a b ≡ same_stamp b a
same_stamp-sym a b = same_bool (same_stamp a b) (same_stamp b a)
    (λ h. let e = same_stamp_says a b h in rw e (same_stamp-refl b)) (λ h. let e = same_stamp_says b a h in
    rw e (same_stamp-refl a))

-- ---- the views

module _ (start : ℕ) (tss : List (List Tell)) (ok : HaveOrder start tss) (own : AreOutside tss)
    (first : FirstWins (published_by tss)) (history : List Published) (arr : IsOrdered start tss history) (rows : Rows)
    (workers : ℕ) where
  abbrev H : List CommitLine
  H = map entry_of history

  abbrev by_h : View
  by_h = by_history rows workers start H

  abbrev by_s : View
  by_s = by_snapshots rows (published_by tss)

  pub extends : Extends by_s by_h
  extends = record {
    listed = mapped entry_of (published_by tss) history (to_history start tss ok history arr);
    long = omega (
      arith,
      length_permutation (map entry_of (published_by tss)) H
          (IsPermutation-map entry_of (published_by tss) history arr.same),
    );
    unversioned = λ t key q out. rw out refl;
  }

  module _ (t : Tell) (p : ℕ) (here : prefix_in t.event ≡ Some p)
      (l : Listed t.snap (snaps_by tss)) (owns : p ≡ sum_above start t.snap) (wide : length t.snap ≡ workers) where
    firsts : take (prefix_of t) H ≡ map entry_of (inside t.snap history)
    firsts =
        ap (λ o. take (unwrap_or o 0) H) here ∙ ap (λ n. take n H) owns
        ∙ take-map entry_of (sum_above start t.snap) history
        ∙ ap (map entry_of) (first_entries start tss ok history arr t.snap l)

    value_agrees : by_s.value t ≡ by_h.value t
    value_agrees = sym (ap (state_at rows) firsts ∙ state_agrees start tss ok own first history arr t.snap l rows)

    newest_agrees : by_s.newest t ≡ by_h.newest t
    newest_agrees =
        fun_ext (λ key. sym (ap (newest_writer key) firsts
        ∙ stamp_agrees start tss ok own first history arr t.snap l key))

    -- a count over what the snapshot contains
    counted : (q : Published → Bool) → length (filter q (inside t.snap history))
        ≡ length (filter q (inside t.snap (published_by tss)))
    counted q =
        ap length (filter-filter (is_inside t.snap) q history)
        ∙ sym (length_filter_permutation (λ c. contains t.snap (stamp_of c.line) && q c) (published_by tss) history
        arr.same)
        ∙ sym (ap length (filter-filter (is_inside t.snap) q (published_by tss)))

    has_agrees : by_s.has t ≡ by_h.has t
    has_agrees = fun_ext (λ s.
        same_any (λ e. same_stamp (stamp_of e) s) (map entry_of (inside t.snap (published_by tss)))
        (map entry_of (inside t.snap history))
        (mapped entry_of (inside t.snap (published_by tss)) (inside t.snap history)
        (to_inside start tss ok own first history arr t.snap l))
        (mapped entry_of (inside t.snap history) (inside t.snap (published_by tss))
        (from_inside start tss ok own first history arr t.snap l))
        ∙ ap (λ es. has_stamp es s) (sym firsts))

    entries_agree : by_s.entries t ≡ by_h.entries t
    entries_agree =
        sym (ap (entries_at workers start) firsts
        ∙ subst (λ n. entries_from n 1 start (map entry_of (inside t.snap history)) ≡ t.snap) wide
        (entries_are start 0 t.snap (map entry_of (inside t.snap history)) (λ k lt.
        ap (λ n. start + n) (count_filter (1 + k) (inside t.snap history) ∙ counted (is_of (1 + k)))
        ∙ count_worker start 0 t.snap t.snap tss refl (ok.within t.snap l) ok.owned k lt)))

    module _ (key : Key) where
      abbrev W : List Published
      W = filter (is_writer key) (inside t.snap history)

      in_inside : (c : Published) → Listed c W → Listed c (inside t.snap history)
          × (writes_key c.line.writes key ≡ true)
      in_inside c k = filter_listed (is_writer key) (inside t.snap history) c k

      contained : (c : Published) → Listed c W → contains t.snap (stamp_of c.line) ≡ true
      contained c k = (filter_listed (is_inside t.snap) history c (in_inside c k).0).1

      in_published : (c : Published) → Listed c W → Listed c (published_by tss)
      in_published c k =
          from_history start tss ok history arr c (filter_listed (is_inside t.snap) history c (in_inside c k).0).0

      -- a commit that a writer in the snapshot sees is in the snapshot too
      seen_inside : (e : Published) → Listed e (published_by tss) → writes_key e.line.writes key ≡ true
          → (c : Published) → Listed c W
          → contains c.snap (stamp_of e.line) ≡ true → Listed e W
      seen_inside e le we c k h =
          let lc = in_published c k in
          let sc = stands start tss ok own c lc in
          elim (ok.ordered c.snap t.snap sc.snap l) [
            | inl b ↦
                let here = contains_at_most c.snap t.snap (stamp_of e.line) b h in
                let among = listed_filter (is_inside t.snap) history e (to_history start tss ok history arr e le) here
                in
                listed_filter (is_writer key) (inside t.snap history) e among we
            | inr b ↦ absurd (true≢false (sym (contains_at_most t.snap c.snap (stamp_of c.line) b (contained c k))
                ∙ own c lc))
          ]

      -- after the version of commit e of the key
      after_version : (e : Published) → Listed e (published_by tss) → writes_key e.line.writes key ≡ true
          → length (after_stamp (stamp_of e.line) (stamps W))
          ≡ length (filter (λ c. contains c.snap (stamp_of e.line)) W)
      after_version e le we =
          after_count e W
          (Pairwise-weaker (λ c. writes_key c.line.writes key ≡ true) SeesWriter
          (λ c d. contains d.snap (stamp_of c.line) ≡ true)
          (λ c d v w r. r (share_from d.line.writes c.line.writes key w v)) W (λ c k. (in_inside c k).1)
          (Pairwise-filter SeesWriter (is_writer key) (inside t.snap history)
          (Pairwise-filter SeesWriter (is_inside t.snap) history
          (writers_in_order start tss ok own first history arr))))
          (λ c k. own c (in_published c k))
          (seen_inside e le we)
          (λ c d k m p q.
          let lc = in_published c k in
          let ld = in_published d m in
          omega (arith, before_prefix start tss ok own c d lc ld p, before_prefix start tss ok own d c ld lc q))

      abbrev V : List Published
      V = filter (is_writer key) (published_by tss)

      version_is : (s : Stamp)
          → is_version key s (map entry_of (published_by tss))
          ≡ (same_stamp loader s || list_any (λ q. same_stamp q s) (stamps V))
      version_is s = ap (λ qs. list_any (λ q. same_stamp q s) qs) (versions_are key (published_by tss))

      later_is : (s : Stamp) → by_h.later t key s
          ≡ length (cond (same_stamp loader s) (stamps W) (after_stamp s (stamps W)))
      later_is s = ap (λ es. length (versions_after key s es)) firsts
          ∙ ap (λ qs. length (after_stamp s qs)) (versions_are key (inside t.snap history))

      later_one : (s : Stamp) (b : Bool) → same_stamp loader s ≡ b
          → (b || list_any (λ q. same_stamp q s) (stamps V)) ≡ true
          → length (cond b (stamps W) (after_stamp s (stamps W))) ≡ length (filter (λ c. b || contains c.snap s) W)
      later_one s true z h =
          length-map W (λ c. stamp_of c.line) ∙ sym
          (ap length (filter-all (λ c. true) W (All-from_listed (λ c. true ≡ true) W (λ c k. refl))))
      later_one s false z h =
          let r = any_listed (λ q. same_stamp q s) (stamps V) h in
          let c = map_listed (λ c. stamp_of c.line) V r.0 r.1 in
          let f = filter_listed (is_writer key) (published_by tss) c.0 c.1 in
          let at : stamp_of c.0.line ≡ s = c.2 ∙ same_stamp_says r.0 s r.2 in
          subst (λ z. length (after_stamp z (stamps W)) ≡ length (filter (λ c. contains c.snap z) W)) at
          (after_version c.0 f.0 f.1)

      later_version : (s : Stamp) → is_version key s (map entry_of (published_by tss)) ≡ true
          → by_h.later t key s ≡ length (filter (λ c. writes_key c.line.writes key && is_after s c)
          (inside t.snap (published_by tss)))
      later_version s h =
          later_is s ∙ later_one s (same_stamp loader s) refl (sym (version_is s) ∙ h)
          ∙ ap (λ b. length (filter (λ c. b || contains c.snap s) W)) (same_stamp-sym loader s)
          ∙ ap length (filter-filter (is_writer key) (is_after s) (inside t.snap history))
          ∙ counted (λ c. writes_key c.line.writes key && is_after s c)

      later_none : (s : Stamp) → is_version key s (map entry_of (published_by tss)) ≡ false → by_h.later t key s ≡ 0
      later_none s h =
          let among : (c : Published) → Listed c W → Listed (stamp_of c.line) (stamps V) = λ c k.
          listed_map (λ c. stamp_of c.line) V c (listed_filter (is_writer key) (published_by tss) c (in_published c k)
          (in_inside c k).1) in
          let both = or_parts (same_stamp loader s) (list_any (λ q. same_stamp q s) (stamps V)) (sym (version_is s) ∙ h)
          in
          later_is s
          ∙ ap (λ b. length (cond b (stamps W) (after_stamp s (stamps W)))) both.0
          ∙ ap length (after_none s W (λ c k. false_from_ne_true (same_stamp (stamp_of c.line) s) (λ q.
          true≢false (sym (listed_any (λ q. same_stamp q s) (stamps V) (stamp_of c.line) (among c k) q) ∙ both.1))))

      later_agrees : (s : Stamp) → by_s.later t key s ≡ by_h.later t key s
      later_agrees s = elim (cases_Bool (is_version key s (map entry_of (published_by tss)))) [
        | inl h ↦ rw h (sym (later_version s h))
        | inr h ↦ rw h (sym (later_none s h))
      ]

    pub agrees : Agrees by_s by_h t
    agrees = record {
      value = value_agrees;
      newest = newest_agrees;
      entries = entries_agree;
      has = has_agrees;
      later = later_agrees;
    }
