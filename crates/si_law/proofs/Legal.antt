-- The arranged history is legal.
use Rattle.std.proofs.Common.{◌≡◌, ℕ, zero, suc, ◌-◌, ◌<◌, ◌≤◌, Bool, true, false, inl, inr, List, [], ◌∷◌, ◌++◌}
use Rattle.std.proofs.Common.{length, take, drop, refl, ap, sym, ◌∙◌, subst, arith, not}
use Rattle.std.specs.Prelude.{map, slice_index_or}
use Rattle.std.specs.List.{list_all}
use Rattle.std.proofs.lemmas.Bool.{true≢false, cases_lt, false_from_ne_true}
use Rattle.std.proofs.lemmas.List.{take-map, drop-map, length-map, take-append-le, drop-append-le, append_assoc}
use Rattle.std.proofs.lemmas.List.{map-append}
use Rattle.si_model.specs.declared.row.Key.{Key}
use Rattle.si_model.specs.declared.op.Op.{Op}
use Rattle.si_model.specs.declared.evaluated.Evaluated.TheVariants.{Done}
use Rattle.si_model.specs.Lists.{Listed, Pairwise}
use Rattle.si_model.specs.Rows.{Rows, item_key, writes_key}
use Rattle.si_model.specs.Evaluation.{evaluation_of, guard_keys}
use Rattle.si_model.specs.State.{state_at}
use Rattle.si_model.specs.History.{stamp_of, keys_of, none_writes, MayFollow, IsLegalAfter, IsLegal}
use Rattle.si_model.specs.Tells.{Tell}
use Rattle.si_model.specs.Commits.{Published, entry_of, published_by, snaps_by}
use Rattle.si_model.specs.Snapshots.{contains, inside, rows_in}
use Rattle.si_model.specs.Consistency.{HaveOrder, MayBePublished, FirstWins, KeepsGuards}
use Rattle.si_model.proofs.ListLemmas.{Pairwise-before, filter_listed, listed_any, listed_append_left}
use Rattle.si_model.proofs.ListLemmas.{listed_append_right, listed_append_cases, map_listed}
use Rattle.si_model.proofs.EvaluationLemmas.{done-guards}
use Rattle.si_law.proofs.Counted.{IsOrdered, first_entries, later_entries, from_history}
use Rattle.si_law.proofs.Order.{stands, writers_in_order, guards_in_order, state_agrees, SeesWriter, SeesGuarded}
use Rattle.si_law.proofs.Standing.{is_inside, AreOutside}

listed_take_past : {X : Type 0} (xs : List X) (c : X) (ys : List X) (n : ℕ) → length xs < n
    → Listed c (take n (xs ++ c ∷ ys))
listed_take_past [] c ys zero h = absurd (omega arith)
listed_take_past [] c ys (suc n) h = inl refl
listed_take_past (x ∷ xs) c ys zero h = absurd (omega arith)
listed_take_past (x ∷ xs) c ys (suc n) h = inr (listed_take_past xs c ys n (omega arith))

listed_drop : {X : Type 0} (n : ℕ) (xs : List X) (x : X) → Listed x (drop n xs) → Listed x xs
listed_drop zero xs x l = l
listed_drop (suc n) [] x l = l
listed_drop (suc n) (y ∷ xs) x l = inr (listed_drop n xs x l)

all_not : {X : Type 0} (p : X → Bool) (xs : List X) → ((x : X) → Listed x xs → p x ≡ false)
    → list_all (λ x. not (p x)) xs ≡ true
all_not p [] h = refl
all_not p (x ∷ xs) h = rw (h x (inl refl)) (all_not p xs (λ y l. h y (inr l)))

none_writes_from : (keys : List Key) (cs : List Published)
    → ((d : Published) → Listed d cs → (key : Key) → Listed key keys → writes_key d.line.writes key ≡ false)
    → none_writes keys (map entry_of cs) ≡ true
none_writes_from keys [] h = refl
none_writes_from keys (c ∷ cs) h =
    rw (all_not (writes_key c.line.writes) keys (h c (inl refl))) (none_writes_from keys cs (λ d l. h d (inr l)))

module _ (start : ℕ) (tss : List (List Tell)) (ok : HaveOrder start tss) (own : AreOutside tss)
    (first : FirstWins (published_by tss)) (keeps : (snap : List ℕ) → Listed snap (snaps_by tss)
    → KeepsGuards (published_by tss) snap)
    (history : List Published) (arr : IsOrdered start tss history)
    (widths : List ℕ) (rows : Rows) (jobs : List (List Op))
    (published : (c : Published) → Listed c (published_by tss) → MayBePublished widths rows (published_by tss) c)
    (jobs_in_range : (c : Published) → Listed c (published_by tss) → (1 ≤ c.line.txn) × (c.line.txn ≤ length jobs))
    (scripted : (c : Published) → Listed c (published_by tss) → c.ops ≡ slice_index_or jobs (c.line.txn - 1) []) where
  -- a commit may follow those before it
  follows : (done : List Published) (c : Published) (rest : List Published) → history ≡ done ++ c ∷ rest
      → MayFollow widths rows jobs (map entry_of done) c.line
  follows done c rest e =
      let here : Listed c history = rw e (listed_append_right done (c ∷ rest) c (inl refl)) in
      let l = from_history start tss ok history arr c here in
      let s = stands start tss ok own c l in
      let m = published c l in
      let p = c.line.prefix in
      let firsts : take p history ≡ inside c.snap history =
      rw s.prefix (first_entries start tss ok history arr c.snap s.snap) in
      let short : p ≤ length done = elim (cases_lt (length done) p) [
        | inl lt ↦
            let in' : Listed c (inside c.snap history) =
            subst (Listed c) firsts (rw e (listed_take_past done c rest p lt)) in
            absurd (true≢false (sym (filter_listed (is_inside c.snap) history c in').1 ∙ m.own))
        | inr ge ↦ ge
      ] in
      let firsts_done : take p done ≡ inside c.snap history =
      sym (take-append-le p done (c ∷ rest) short) ∙ ap (take p) (sym e) ∙ firsts in
      let same : state_at rows (take p (map entry_of done)) ≡ rows_in rows (published_by tss) c.snap =
      ap (state_at rows) (take-map entry_of p done ∙ ap (map entry_of) firsts_done)
      ∙ state_agrees start tss ok own first history arr c.snap s.snap rows in
      let job = slice_index_or jobs (c.line.txn - 1) [] in
      let evaluates : evaluation_of widths (state_at rows (take p (map entry_of done))) job
      ≡ Done m.reads c.line.writes m.guards =
      ap (λ z. evaluation_of widths z job) same
      ∙ ap (λ ops. evaluation_of widths (rows_in rows (published_by tss) c.snap) ops) (sym (scripted c l))
      ∙ m.evaluates in
      let guards : m.guards ≡ guard_keys c.ops =
      done-guards widths (rows_in rows (published_by tss) c.snap) c.ops m.reads c.line.writes m.guards m.evaluates in
      let later : (d : Published) → Listed d (drop p done) → contains c.snap (stamp_of d.line) ≡ false = λ d k.
      later_entries start tss ok history arr c.snap s.snap d
      (rw (← s.prefix) (rw (e, drop-append-le p done (c ∷ rest) short)
      (listed_append_left (drop p done) (c ∷ rest) d k))) in
      let writers : Pairwise SeesWriter (done ++ c ∷ rest) =
      rw e at (writers_in_order start tss ok own first history arr) in
      let guarders : Pairwise SeesGuarded (done ++ c ∷ rest) =
      rw e at (guards_in_order start tss ok own first history arr keeps) in
      record {
        job = jobs_in_range c l;
        prefix = rw length-map short;
        reads = m.reads;
        guards = m.guards;
        evaluates = evaluates;
        writes = m.writes;
        first_wins = rw drop-map (none_writes_from (keys_of c.line.writes m.guards) (drop p done) (λ d k key q.
            false_from_ne_true (writes_key d.line.writes key) (λ w.
            true≢false (sym (elim (listed_append_cases (map item_key c.line.writes) m.guards key q) [
              | inl written ↦
                  let i = map_listed item_key c.line.writes key written in
                  Pairwise-before SeesWriter done c rest writers d (listed_drop p done d k)
                  (listed_any (λ i. writes_key d.line.writes (item_key i)) c.line.writes i.0 i.1
                  (ap (writes_key d.line.writes) i.2 ∙ w))
              | inr guarded ↦
                  Pairwise-before SeesGuarded done c rest guarders d (listed_drop p done d k)
                  (listed_any (λ key. writes_key d.line.writes key) (guard_keys c.ops) key
                  (subst (Listed key) guards guarded) w)
            ]) ∙ later d k))));
      }

  legal_from : (done rest : List Published) → history ≡ done ++ rest
      → IsLegalAfter widths rows jobs (map entry_of done) (map entry_of rest)
  legal_from done [] e = tt
  legal_from done (c ∷ rest) e = (
    follows done c rest e,
    subst (λ z. IsLegalAfter widths rows jobs z (map entry_of rest)) (map-append entry_of done (c ∷ []))
        (legal_from (done ++ c ∷ []) rest (e ∙ sym (append_assoc done (c ∷ []) rest))),
  )

  pub legal : IsLegal widths rows jobs (map entry_of history)
  legal = legal_from [] history refl
