-- Of two commits of an arranged history, one of which writes a key that the other writes or guards, the first is in the
-- second's snapshot.
use Rattle.std.proofs.Common.{◌≡◌, ◌≢◌, ℕ, suc, ◌<◌, ◌≤◌, true, false, ◌⊎◌, inl, inr, List, [], ◌∷◌, length, refl, ap}
use Rattle.std.proofs.Common.{sym, ◌∙◌, arith, not, Option, Some, None}
use Rattle.std.specs.Prelude.{filter, map}
use Rattle.std.proofs.Math.Path.{fun_ext}
use Rattle.std.proofs.lemmas.Bool.{true≢false, cases_Bool, cases_lt, cases_eq, and_parts, and_from, eqb-true, eq-eqb}
use Rattle.si_model.specs.declared.row.Key.{Key}
use Rattle.si_model.specs.declared.log.Stamp.{Stamp}
use Rattle.si_model.specs.declared.report.CommitLine.{CommitLine}
use Rattle.si_model.specs.Lists.{Listed, Pairwise}
use Rattle.si_model.specs.Rows.{Rows, writes_key}
use Rattle.si_model.specs.State.{state_at}
use Rattle.si_model.specs.History.{loader, stamp_of, newest_writer}
use Rattle.si_model.specs.Tells.{Tell}
use Rattle.si_model.specs.Commits.{Published, entry_of, published_by, snaps_by}
use Rattle.si_model.specs.Snapshots.{contains, inside, sum_above, newest_in, stamp_or_loader, value_by, rows_in}
use Rattle.si_model.specs.Arranged.{level_of, guards_write, guards_beside, above_all, Precedes}
use Rattle.si_model.specs.Consistency.{HaveOrder, HaveNoCircle, share_key, FirstWins, is_overtaking, KeepsGuards}
use Rattle.si_model.proofs.ListLemmas.{Pairwise-weaker, Pairwise-filter, listed_filter, filter_listed}
use Rattle.si_model.proofs.SnapshotLemmas.{contains_at_most, at_most_by_sum, level_says}
use Rattle.si_law.proofs.Standing.{IsStanding, standing, stamp_path, one_stamp, is_inside, AreOutside}
use Rattle.si_law.proofs.Counted.{IsOrdered, level_top, inside_level, level_inside, precedes_level, from_history}
use Rattle.si_law.proofs.Counted.{to_history, Before}
use Rattle.si_law.proofs.Newest.{share_from, newest_same, Rises, state_newest, stamp_or, stamp_newest, RisesBy}

-- the first commit is in the second's snapshot, where the second writes a key that the first writes
abbrev pub SeesWriter : Published → Published → Type 0
SeesWriter c d = share_key d c ≡ true → contains d.snap (stamp_of c.line) ≡ true

-- and where it guards one
abbrev pub SeesGuarded : Published → Published → Type 0
SeesGuarded c d = guards_write d c ≡ true → contains d.snap (stamp_of c.line) ≡ true

stamp_cases : (a b : Stamp) → (a ≡ b) ⊎ (a ≢ b)
stamp_cases a b = elim (cases_eq a.thread b.thread) [
  | inl p ↦ elim (cases_eq a.number b.number) [
    | inl q ↦ inl (stamp_path a.thread b.thread a.number b.number p q)
    | inr q ↦ inr (λ e. q (ap (λ s. s.number) e))
  ]
  | inr p ↦ inr (λ e. p (ap (λ s. s.thread) e))
]

pub precedes_apart : (level depth : Stamp → ℕ) (a b : CommitLine) → Precedes level depth a b → stamp_of a ≢ stamp_of b
precedes_apart level depth a b h e =
    let f : a.worker ≡ b.worker = ap (λ s. s.thread) e in
    let g : a.number ≡ b.number = ap (λ s. s.number) e in
    elim h [
      | inl p ↦ omega (arith, p, ap level e)
      | inr p ↦ elim p.1 [
        | inl q ↦ omega (arith, q, ap depth e)
        | inr q ↦ elim q.1 [ inl w ↦ omega (arith, w, f) | inr w ↦ omega (arith, w.1, g) ]
      ]
    ]

precedes_depth : (level depth : Stamp → ℕ) (a b : CommitLine) → Precedes level depth a b
    → level (stamp_of a) ≡ level (stamp_of b)
    → depth (stamp_of a) ≤ depth (stamp_of b)
precedes_depth level depth a b h e = elim h [
  | inl p ↦ absurd (omega (arith, p, e))
  | inr p ↦ elim p.1 [ inl q ↦ omega (arith, q) | inr q ↦ omega (arith, q.0) ]
]

above_one : (depth : Stamp → ℕ) (cs : List Published) (d : Published) → Listed d cs
    → depth (stamp_of d.line) < above_all depth cs
above_one depth [] d l = elim l [ ]
above_one depth (c ∷ cs) d l = elim l [
  | inl q ↦ omega (arith, ap (λ z. depth (stamp_of z.line)) q)
  | inr r ↦ omega (arith, above_one depth cs d r)
]

module _ (start : ℕ) (tss : List (List Tell)) (ok : HaveOrder start tss) (own : AreOutside tss) where
  pub stands : (c : Published) → Listed c (published_by tss) → IsStanding start tss c
  stands c l = standing start 1 tss ok.owned c l

  -- a commit's prefix is above those of the commits in its snapshot
  pub before_prefix : (c d : Published) → Listed c (published_by tss) → Listed d (published_by tss)
      → contains d.snap (stamp_of c.line) ≡ true → c.line.prefix < d.line.prefix
  before_prefix c d l k h =
      let sc = stands c l in
      let sd = stands d k in
      elim (cases_lt (sum_above start c.snap) (sum_above start d.snap)) [
        | inl lt ↦ omega (arith, sc.prefix, sd.prefix)
        | inr ge ↦
            let most = at_most_by_sum start d.snap c.snap tss (ok.within d.snap sd.snap) (ok.within c.snap sc.snap)
            (ok.ordered d.snap c.snap sd.snap sc.snap) ge in
            absurd (true≢false (sym (contains_at_most d.snap c.snap (stamp_of c.line) most h) ∙ own c l))
      ]

  -- the level of a commit is above its prefix
  pub level_outside : (c : Published) → Listed c (published_by tss) → (s : Stamp) → contains c.snap s ≡ true
      → level_of start tss (stamp_of c.line) ≤ level_of start tss s → ⊥
  level_outside c l s h le =
      let sc = stands c l in
      let low = level_inside start tss ok c.snap sc.snap s h in
      true≢false (sym (inside_level start tss ok c.snap sc.snap (stamp_of c.line) (omega (arith, low, le))) ∙ own c l)

  -- guards of a level make no circle, where overtaking makes none
  pub no_circle : HaveNoCircle is_overtaking (published_by tss)
      → HaveNoCircle (guards_beside (level_of start tss)) (published_by tss)
  no_circle h = record {
    place = h.place;
    below = h.below;
    rises = λ c d l k b.
        let both = and_parts _ _ b in
        let level : level_of start tss (stamp_of c.line) ≡ level_of start tss (stamp_of d.line) = eqb-true _ _ both.0 in
        let out : contains c.snap (stamp_of d.line) ≡ false = elim (cases_Bool (contains c.snap (stamp_of d.line))) [
          | inl t ↦ absurd (level_outside c l (stamp_of d.line) t (omega (arith, level)))
          | inr f ↦ f
        ] in
        h.rises c d l k (and_from _ _ both.1 (ap not out));
  }

  module _ (first : FirstWins (published_by tss)) where
    pub one_writer : (key : Key) (c d : Published) → Listed c (published_by tss) → Listed d (published_by tss)
        → writes_key c.line.writes key ≡ true → writes_key d.line.writes key ≡ true → c.line.prefix ≡ d.line.prefix
        → c ≡ d
    one_writer key c d l k v w e =
        elim (stamp_cases (stamp_of c.line) (stamp_of d.line)) [
          | inl q ↦ one_stamp start 1 tss ok.owned c d l k q
          | inr q ↦ elim (first c d l k q (share_from c.line.writes d.line.writes key v w)) [
            | inl b ↦ absurd (omega (arith, before_prefix c d l k b, e))
            | inr b ↦ absurd (omega (arith, before_prefix d c k l b, e))
          ]
        ]

    module _ (history : List Published) (arr : IsOrdered start tss history) where
      -- of two commits that write one key
      pub writers_in_order : Pairwise SeesWriter history
      writers_in_order =
          Pairwise-weaker (λ c. Listed c (published_by tss)) (Before start tss arr.depth) SeesWriter
          (λ c d l k p s.
          elim (first d c k l (λ e. precedes_apart (level_of start tss) arr.depth c.line d.line p (sym e)) s) [
            | inl b ↦ absurd (level_outside c l (stamp_of d.line) b
                (precedes_level (level_of start tss) arr.depth c.line d.line p))
            | inr b ↦ b
          ])
          history (from_history start tss ok history arr) arr.ordered

      -- of two commits, the second of which guards a key that the first writes
      pub guards_in_order : ((snap : List ℕ) → Listed snap (snaps_by tss) → KeepsGuards (published_by tss) snap)
          → Pairwise SeesGuarded history
      guards_in_order keeps =
          Pairwise-weaker (λ c. Listed c (published_by tss)) (Before start tss arr.depth) SeesGuarded
          (λ c d l k p g. elim (cases_Bool (contains d.snap (stamp_of c.line))) [
            | inl t ↦ t
            | inr f ↦ absurd (overtaken c d l k p g f)
          ])
          history (from_history start tss ok history arr) arr.ordered
        where
          level : Stamp → ℕ
          level = level_of start tss

          overtaken : (c d : Published) → Listed c (published_by tss) → Listed d (published_by tss)
              → Precedes level arr.depth c.line d.line
              → guards_write d c ≡ true → contains d.snap (stamp_of c.line) ≡ false → ⊥
          overtaken c d l k p g f =
              let over : is_overtaking d c ≡ true = and_from _ _ g (ap not f) in
              let says = level_says start (suc (length (published_by tss))) (snaps_by tss) (stamp_of c.line) in
              let up : level (stamp_of d.line) ≤ level (stamp_of c.line) = elim says [
                | inl t ↦ omega (arith, t, level_top start tss ok (stamp_of d.line))
                | inr (snap, m, h, q) ↦ omega (
                  arith,
                  q,
                  level_inside start tss ok snap m (stamp_of d.line) (keeps snap m d c k l over h),
                )
              ] in
              let same : level (stamp_of d.line) ≡ level (stamp_of c.line) =
              omega (arith, up, precedes_level level arr.depth c.line d.line p) in
              let beside : guards_beside level d c ≡ true = and_from _ _ (eq-eqb _ _ same) g in
              let among = listed_filter (λ x. guards_beside level x c) (published_by tss) d k beside in
              let deep = above_one arr.depth (filter (λ x. guards_beside level x c) (published_by tss)) d among in
              omega (arith, deep, arr.depths c l, precedes_depth level arr.depth c.line d.line p (sym same))

      pub rises : (key : Key) → Rises key history
      rises key =
          Pairwise-weaker (λ c. Listed c (published_by tss)) SeesWriter
          (RisesBy key)
          (λ c d l k p v w. before_prefix c d l k (p (share_from d.line.writes c.line.writes key w v)))
          history (from_history start tss ok history arr) writers_in_order

      -- the state after the whole history
      pub state_is : (rows : Rows) → state_at rows (map entry_of history)
          ≡ (λ key. value_by rows key (newest_in key (published_by tss)))
      state_is rows = fun_ext (λ key.
          state_newest key rows history (rises key)
          ∙ ap (value_by rows key) (newest_same key history (published_by tss) (from_history start tss ok history arr)
          (to_history start tss ok history arr)
          (λ c d h k. one_writer key c d (from_history start tss ok history arr c h)
          (from_history start tss ok history arr d k))))

      module _ (snap : List ℕ) (l : Listed snap (snaps_by tss)) where
        pub to_inside : (c : Published) → Listed c (inside snap (published_by tss)) → Listed c (inside snap history)
        to_inside c h =
            let f = filter_listed (is_inside snap) (published_by tss) c h in
            listed_filter (is_inside snap) history c (to_history start tss ok history arr c f.0) f.1

        pub from_inside : (c : Published) → Listed c (inside snap history) → Listed c (inside snap (published_by tss))
        from_inside c h =
            let f = filter_listed (is_inside snap) history c h in
            listed_filter (is_inside snap) (published_by tss) c (from_history start tss ok history arr c f.0) f.1

        inside_published : (c : Published) → Listed c (inside snap history) → Listed c (published_by tss)
        inside_published c h = from_history start tss ok history arr c (filter_listed (is_inside snap) history c h).0

        rises_inside : (key : Key) → Rises key (inside snap history)
        rises_inside key = Pairwise-filter (RisesBy key) (is_inside snap) history (rises key)

        newest_agrees : (key : Key) → newest_in key (inside snap history)
            ≡ newest_in key (inside snap (published_by tss))
        newest_agrees key =
            newest_same key (inside snap history) (inside snap (published_by tss)) from_inside to_inside
            (λ c d h k. one_writer key c d (inside_published c h) (inside_published d k))

        -- the state at a prefix is what the snapshot shows
        pub state_agrees : (rows : Rows) → state_at rows (map entry_of (inside snap history))
            ≡ rows_in rows (published_by tss) snap
        state_agrees rows =
            fun_ext (λ key. state_newest key rows (inside snap history) (rises_inside key)
            ∙ ap (value_by rows key) (newest_agrees key))

        -- and so is the newest stamp of a key
        pub stamp_agrees : (key : Key)
            → newest_writer key (map entry_of (inside snap history))
            ≡ stamp_or_loader (newest_in key (inside snap (published_by tss)))
        stamp_agrees key =
            stamp_newest key loader (inside snap history) (rises_inside key)
            ∙ ap (stamp_or key loader) (newest_agrees key) ∙ or_loader (newest_in key (inside snap (published_by tss)))
          where
            or_loader : (r : Option Published) → stamp_or key loader r ≡ stamp_or_loader r
            or_loader None = refl
            or_loader (Some c) = refl
