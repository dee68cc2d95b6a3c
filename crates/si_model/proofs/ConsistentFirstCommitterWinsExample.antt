-- The logs of the worked row 'first committer wins' are consistent, and arranged they give its history.
use Rattle.std.proofs.Common.{◌-◌, ◌<◌, ◌≤◌, ◌≡◌, ◌≢◌, ◌⊎◌, List, [], ◌∷◌, refl, arith, Some, inl, inr, map}
use Rattle.std.specs.Prelude.{IsTrue, filter}
use Rattle.std.proofs.lemmas.List.Sorted.{IsPermutation-refl}
use Rattle.si_model.specs.declared.log.Log.{Log}
use Rattle.si_model.specs.declared.log.Outcome.TheVariants.{Newer}
use Rattle.si_model.specs.Tries.Part.{attempted}
use Rattle.si_model.specs.History.{stamp_of}
use Rattle.si_model.specs.Tells.{Tell, tells_of}
use Rattle.si_model.specs.Commits.{Published, published_by, snaps_by}
use Rattle.si_model.specs.Rows.{rows_of}
use Rattle.si_model.specs.Snapshots.{contains}
use Rattle.si_model.specs.Knowledge.{AreAtMost}
use Rattle.si_model.specs.Arranged.{level_of, guards_beside, above_all, IsArranged}
use Rattle.si_model.specs.Consistency.{IsWithin, MayBePublished, share_key, is_overtaking, AreConsistentFor}
use Rattle.si_model.proofs.ListLemmas.{All-listed}
use Rattle.si_model.proofs.ExampleWords.{item, lock, tried, commits, whole_log, of_pairs}
use Rattle.si_model.proofs.FirstCommitterWinsExample.{setting, report}

abbrev logs : List Log
logs =
    whole_log (commits 1 1 0 1 1 1 1 ∷ []) (item 0 0 100 ∷ []) (lock 0 0 0 0 ∷ []) (item 0 0 105 ∷ []) ((0 ∷ 0 ∷ [])
    ∷ [])
    ∷ whole_log (tried 2 1 (Some 0) 1 0 (Newer (lock 0 0 1 1)) ∷ commits 2 2 1 1 1 1 1 ∷ []) (item 0 0 100
    ∷ item 0 0 105 ∷ []) (lock 0 0 1 1 ∷ []) (item 0 0 112 ∷ [])
    ((0 ∷ 0 ∷ []) ∷ (1 ∷ 0 ∷ []) ∷ [])
    ∷ []

abbrev told : List (List Tell)
told = map (tells_of setting.jobs) logs

abbrev cs : List Published
cs = published_by told

consistent : AreConsistentFor setting logs
consistent = record {
  counts = (
    record { reads = refl; locks = refl; writes = refl; snaps = refl },
    (record { reads = refl; locks = refl; writes = refl; snaps = refl }, tt),
  );
  calls = record {
    one_log_each = refl;
    order = record {
      owned = (
        record { snapshots = (record { sum = refl; commit = λ yes. refl }, tt); numbers = (refl, tt) },
        (
          record {
            snapshots = (
              record { sum = refl; commit = λ yes. absurd cc },
              (record { sum = refl; commit = λ yes. refl }, tt),
            );
            numbers = (refl, tt);
          },
          tt,
        ),
      );
      within = λ snap l. All-listed (λ z. IsWithin 0 z told) (snaps_by told) snap (
        start_within,
        (start_within, ((omega arith, omega arith, (omega arith, omega arith, tt)), tt)),
      ) l;
      ordered = of_pairs (λ a b. AreAtMost a b ⊎ AreAtMost b a) (snaps_by told) (
        (
          inl (omega arith, (omega arith, tt)),
          (
            inl (omega arith, (omega arith, tt)),
            (inl (omega arith, (omega arith, tt)), tt),
          ),
        ),
        (
          (
            inl (omega arith, (omega arith, tt)),
            (
              inl (omega arith, (omega arith, tt)),
              (inl (omega arith, (omega arith, tt)), tt),
            ),
          ),
          (
            (
              inr (omega arith, (omega arith, tt)),
              (inr (omega arith, (omega arith, tt)), (inl (omega arith, (omega arith, tt)), tt)),
            ),
            tt,
          ),
        ),
      );
    };
    published = λ c l. All-listed (MayBePublished setting.widths (rows_of setting.rows) cs) cs c (
      record { own = refl; reads = item 0 0 100 ∷ []; guards = []; evaluates = refl; writes = omega arith },
      (record { own = refl; reads = item 0 0 105 ∷ []; guards = []; evaluates = refl; writes = omega arith }, tt),
    ) l;
    first_wins =
        of_pairs (λ c d. stamp_of c.line ≢ stamp_of d.line → IsTrue (share_key c d)
        → IsTrue (contains d.snap (stamp_of c.line)) ⊎ IsTrue (contains c.snap (stamp_of d.line))) cs (
          ((λ apart h. absurd (apart refl)), ((λ apart h. inl refl), tt)),
          (((λ apart h. inr refl), ((λ apart h. absurd (apart refl)), tt)), tt),
        );
    guards = λ snap l. of_pairs (λ c d. IsTrue (is_overtaking c d) → IsTrue (contains snap (stamp_of d.line))
        → IsTrue (contains snap (stamp_of c.line))) cs (
          ((λ h k. absurd cc), ((λ h k. absurd cc), tt)),
          (((λ h k. absurd cc), ((λ h k. absurd cc), tt)), tt),
        );
    no_circle = record {
      place = λ s. s.thread - 1;
      below = λ c l. All-listed (λ d. d.line.worker - 1 < 2) cs c (omega arith, (omega arith, tt)) l;
      rises = of_pairs (λ c d. IsTrue (is_overtaking c d) → c.line.worker - 1 < d.line.worker - 1) cs (
        ((λ h. absurd cc), ((λ h. absurd cc), tt)),
        (((λ h. absurd cc), ((λ h. absurd cc), tt)), tt),
      );
    };
    sound = (
      record {
        sees = (((omega arith, (omega arith, (omega arith, tt))), tt), tt);
        answers = ((((item 0 0 105 ∷ [], [], refl, (inl refl, refl))), (refl, tt)), tt);
        causes = (tt, tt);
      },
      (
        record {
          sees = (
            ((omega arith, (omega arith, (omega arith, tt))), tt),
            (((omega arith, (omega arith, (omega arith, tt))), tt), tt),
          );
          answers = (
            ((item 0 0 107 ∷ [], [], refl, (omega arith, [], refl)), tt),
            ((((item 0 0 112 ∷ [], [], refl, (inr (inl refl), refl))), (refl, tt)), tt),
          );
          causes = ((omega arith, refl, inl refl), (tt, tt));
        },
        tt,
      ),
    );
  };
  jobs_in_range =
      λ c l. All-listed (λ d. (1 ≤ d.line.txn) × (d.line.txn ≤ 2)) cs c (
        (omega arith, omega arith),
        ((omega arith, omega arith), tt),
      ) l;
  policies = (
    record { parts = attempted _ ∷ []; read = refl; settled = refl; fulls = λ no_tidy. absurd cc },
    (record { parts = attempted _ ∷ attempted _ ∷ []; read = refl; settled = refl; fulls = λ no_tidy. absurd cc }, tt),
  );
}
  where
    start_within : IsWithin 0 (0 ∷ 0 ∷ []) told
    start_within = (omega arith, omega arith, (omega arith, omega arith, tt))

arranged : IsArranged 0 told report.history
arranged = record {
  same = IsPermutation-refl report.history;
  depth = λ s. 0;
  depths = λ c l. All-listed (λ d. 0 ≡ above_all (λ s. 0) (filter (λ e. guards_beside (level_of 0 told) e d) cs)) cs c
      (refl, (refl, tt)) l;
  ordered = ((inl (omega arith), tt), (tt, tt));
}
