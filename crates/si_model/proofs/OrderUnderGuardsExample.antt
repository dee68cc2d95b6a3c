-- The worked row 'order under guards': its logs are consistent, and arranged they give its history, which is a run.
use Rattle.std.proofs.Common.{ℕ, ◌-◌, ◌<◌, ◌≤◌, ◌≡◌, ◌≢◌, ◌⊎◌, false, List, [], ◌∷◌, length, refl, arith, inl, inr, map}
use Rattle.std.specs.Prelude.{IsTrue, filter}
use Rattle.std.proofs.lemmas.Bool.Decides.{nat_tests}
use Rattle.std.proofs.lemmas.List.Sorted.{IsPermutation-swap}
use Rattle.si_model.specs.declared.log.Log.{Log}
use Rattle.si_model.specs.declared.log.Stamp.{Stamp}
use Rattle.si_model.specs.declared.op.Op.TheVariants.{Put, Guard}
use Rattle.si_model.specs.declared.report.Report.{Report}
use Rattle.si_model.specs.Rows.{key_at, rows_of}
use Rattle.si_model.specs.Setting.{Setting}
use Rattle.si_model.specs.Tries.Part.{attempted}
use Rattle.si_model.specs.History.{stamp_of}
use Rattle.si_model.specs.Tells.{Tell, tells_of}
use Rattle.si_model.specs.Commits.{Published, published_by, snaps_by}
use Rattle.si_model.specs.Snapshots.{contains}
use Rattle.si_model.specs.Knowledge.{AreAtMost}
use Rattle.si_model.specs.Arranged.{level_of, guards_beside, above_all, IsArranged}
use Rattle.si_model.specs.Consistency.{IsWithin, MayBePublished, share_key, is_overtaking, KeepsGuards}
use Rattle.si_model.specs.Consistency.{AreConsistentFor}
use Rattle.si_model.specs.Run.{IsRun}
use Rattle.si_model.proofs.ListLemmas.{All-listed}
use Rattle.si_model.proofs.ExampleWords.{row, item, lock, commits, whole_log, entry, audited, unmarked, setting_with}
use Rattle.si_model.proofs.ExampleWords.{of_pairs}

abbrev setting : Setting
setting = setting_with 2 1 false 4 2 (row 0 0 60 ∷ row 0 1 60 ∷ []) ((Guard 0 0 ∷ Put 0 1 (1 ∷ []) ∷ [])
    ∷ (Put 0 0 (9 ∷ []) ∷ []) ∷ []) (2 ∷ 1 ∷ [])

abbrev logs : List Log
logs =
    whole_log (commits 2 1 0 0 1 1 1 ∷ []) [] (lock 0 0 0 0 ∷ []) (item 0 0 9 ∷ []) ((0 ∷ 0 ∷ []) ∷ [])
    ∷ whole_log (commits 1 1 0 1 2 1 1 ∷ []) (item 0 0 60 ∷ []) (lock 0 1 0 0 ∷ lock 0 0 0 0 ∷ []) (item 0 1 1 ∷ [])
    ((0 ∷ 0 ∷ []) ∷ [])
    ∷ []

abbrev report : Report
report = record {
  history = entry 2 1 0 1 (item 0 1 1 ∷ []) ∷ entry 1 1 0 2 (item 0 0 9 ∷ []) ∷ [];
  logs = logs;
  audit = audited 0 0 9 ∷ audited 0 1 1 ∷ [];
}

abbrev told : List (List Tell)
told = map (tells_of setting.jobs) logs

abbrev cs : List Published
cs = published_by told

abbrev place : Stamp → ℕ
place s = 2 - s.thread

abbrev depth : Stamp → ℕ
depth s = 2 - s.thread

consistent : AreConsistentFor setting logs
consistent = record {
  counts = (
    record { reads = refl; locks = refl; writes = refl; snaps = refl },
    (record { reads = refl; locks = refl; writes = refl; snaps = refl }, tt),
  );
  calls = record {
    one_log_each = refl;
    order = record {
      owned = (
        record { snapshots = (record { sum = refl; commit = λ yes. refl }, tt); numbers = (refl, tt) },
        (record { snapshots = (record { sum = refl; commit = λ yes. refl }, tt); numbers = (refl, tt) }, tt),
      );
      within = λ snap l. All-listed (λ z. IsWithin 0 z told) (snaps_by told) snap (
        (omega arith, omega arith, (omega arith, omega arith, tt)),
        ((omega arith, omega arith, (omega arith, omega arith, tt)), tt),
      ) l;
      ordered = of_pairs (λ a b. AreAtMost a b ⊎ AreAtMost b a) (snaps_by told) (
        (inl (omega arith, (omega arith, tt)), (inl (omega arith, (omega arith, tt)), tt)),
        ((inl (omega arith, (omega arith, tt)), (inl (omega arith, (omega arith, tt)), tt)), tt),
      );
    };
    published = λ c l. All-listed (MayBePublished setting.widths (rows_of setting.rows) cs) cs c (
      record { own = refl; reads = []; guards = []; evaluates = refl; writes = omega arith },
      (
        record {
          own = refl;
          reads = item 0 0 60 ∷ [];
          guards = key_at 0 0 ∷ [];
          evaluates = refl;
          writes = omega arith;
        },
        tt,
      ),
    ) l;
    first_wins =
        of_pairs (λ c d. stamp_of c.line ≢ stamp_of d.line → IsTrue (share_key c d)
        → IsTrue (contains d.snap (stamp_of c.line)) ⊎ IsTrue (contains c.snap (stamp_of d.line))) cs (
          ((λ apart h. absurd (apart refl)), ((λ apart h. absurd cc), tt)),
          (((λ apart h. absurd cc), ((λ apart h. absurd (apart refl)), tt)), tt),
        );
    guards = λ snap k. All-listed (KeepsGuards cs) (snaps_by told) snap (
      of_pairs (λ c d. IsTrue (is_overtaking c d) → IsTrue (contains (0 ∷ 0 ∷ []) (stamp_of d.line))
          → IsTrue (contains (0 ∷ 0 ∷ []) (stamp_of c.line))) cs (
            ((λ h k. absurd cc), ((λ h k. absurd cc), tt)),
            (((λ h k. absurd cc), ((λ h k. absurd cc), tt)), tt),
          ),
      (
        of_pairs (λ c d. IsTrue (is_overtaking c d) → IsTrue (contains (0 ∷ 0 ∷ []) (stamp_of d.line))
            → IsTrue (contains (0 ∷ 0 ∷ []) (stamp_of c.line))) cs (
              ((λ h k. absurd cc), ((λ h k. absurd cc), tt)),
              (((λ h k. absurd cc), ((λ h k. absurd cc), tt)), tt),
            ),
        tt,
      ),
    ) k;
    no_circle = record {
      place = place;
      below = λ c l. All-listed (λ d. place (stamp_of d.line) < 2) cs c (omega arith, (omega arith, tt)) l;
      rises = of_pairs (λ c d. IsTrue (is_overtaking c d) → place (stamp_of c.line) < place (stamp_of d.line)) cs
          (((λ h. absurd cc), ((λ h. absurd cc), tt)), (((λ h. omega arith), ((λ h. absurd cc), tt)), tt));
    };
    sound = (
      record {
        sees = (((omega arith, (omega arith, (omega arith, tt))), tt), tt);
        answers = (((item 0 0 9 ∷ [], [], refl, (inl refl, refl)), (refl, tt)), tt);
        causes = (tt, tt);
      },
      (
        record {
          sees = (((omega arith, (omega arith, (omega arith, tt))), tt), tt);
          answers = (((item 0 1 1 ∷ [], key_at 0 0 ∷ [], refl, (inr (inl refl), refl)), (refl, (refl, tt))), tt);
          causes = (tt, tt);
        },
        tt,
      ),
    );
  };
  jobs_in_range =
      λ c l. All-listed (λ d. (1 ≤ d.line.txn) × (d.line.txn ≤ length setting.jobs)) cs c (
        (omega arith, omega arith),
        ((omega arith, omega arith), tt),
      ) l;
  policies = (
    record { parts = attempted _ ∷ []; read = refl; settled = refl; fulls = λ no_tidy. absurd cc },
    (record { parts = attempted _ ∷ []; read = refl; settled = refl; fulls = λ no_tidy. absurd cc }, tt),
  );
}

arranged : IsArranged 0 told report.history
arranged = record {
  same = IsPermutation-swap _ _ 0 1 (omega arith) (omega arith) refl;
  depth = depth;
  depths = λ c l. All-listed (λ d. depth (stamp_of d.line)
      ≡ above_all depth (filter (λ e. guards_beside (level_of 0 told) e d) cs)) cs c (refl, (refl, tt)) l;
  ordered = ((inr (refl, inl (omega arith)), tt), (tt, tt));
}

run : IsRun setting report
run = record {
  one_log_each = refl;
  legal = (
    record {
      job = (omega arith, omega arith);
      prefix = omega arith;
      reads = item 0 0 60 ∷ [];
      guards = key_at 0 0 ∷ [];
      evaluates = refl;
      writes = omega arith;
      first_wins = refl;
    },
    (
      record {
        job = (omega arith, omega arith);
        prefix = omega arith;
        reads = [];
        guards = [];
        evaluates = refl;
        writes = omega arith;
        first_wins = refl;
      },
      tt,
    ),
  );
  numbered = (refl, (refl, tt));
  workers = (
    record {
      sees = (((omega arith, (omega arith, (omega arith, tt))), tt), tt);
      follows = record { parts = attempted _ ∷ []; read = refl; settled = refl; fulls = λ no_tidy. absurd cc };
      answers = (((item 0 0 9 ∷ [], [], refl, (inr (inl refl), refl)), (refl, tt)), tt);
      causes = (tt, tt);
    },
    (
      record {
        sees = (((omega arith, (omega arith, (omega arith, tt))), tt), tt);
        follows = record { parts = attempted _ ∷ []; read = refl; settled = refl; fulls = λ no_tidy. absurd cc };
        answers = (((item 0 1 1 ∷ [], key_at 0 0 ∷ [], refl, (inl refl, refl)), (refl, (refl, tt))), tt);
        causes = (tt, tt);
      },
      tt,
    ),
  );
  listed = (refl, (refl, tt));
  audit = record {
    state = record { ordered = ((refl, tt), (tt, tt)); same = λ key. grind (arith, nat_tests) };
    lines = (unmarked _ 0 0 9, (unmarked _ 0 1 1, tt));
  };
}

-- by worker alone the commits aren't arranged
not_by_worker : IsArranged 0 told (entry 1 1 0 2 (item 0 0 9 ∷ []) ∷ entry 2 1 0 1 (item 0 1 1 ∷ []) ∷ []) → ⊥
not_by_worker h =
    let first = h.depths _ (inl refl) in
    elim h.ordered.0.0 [
      | inl less ↦ absurd (omega (arith, less))
      | inr same ↦ elim same.1 [
        | inl less ↦ absurd (omega (arith, less, first))
        | inr equal ↦ absurd (omega (arith, equal.0, first))
      ]
    ]
