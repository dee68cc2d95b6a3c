-- The logs of the worked row 'snapshot again' are consistent, and arranged they give its history.
use Rattle.std.proofs.Common.{ℕ, ◌<◌, ◌≤◌, ◌≡◌, ◌≢◌, ◌⊎◌, List, [], ◌∷◌, length, refl, arith, Some, None, inl, inr, map}
use Rattle.std.specs.Prelude.{IsTrue, filter}
use Rattle.std.proofs.lemmas.List.Sorted.{IsPermutation-refl}
use Rattle.si_model.specs.declared.log.Log.{Log}
use Rattle.si_model.specs.declared.log.Stamp.{Stamp}
use Rattle.si_model.specs.declared.log.Outcome.TheVariants.{Again, ReadOnly}
use Rattle.si_model.specs.Rows.{rows_of}
use Rattle.si_model.specs.Tries.Part.{attempted}
use Rattle.si_model.specs.History.{stamp_of}
use Rattle.si_model.specs.Tells.{Tell, tells_of}
use Rattle.si_model.specs.Commits.{Published, published_by, snaps_by}
use Rattle.si_model.specs.Snapshots.{contains}
use Rattle.si_model.specs.Knowledge.{AreAtMost}
use Rattle.si_model.specs.Arranged.{level_of, guards_beside, above_all, IsArranged}
use Rattle.si_model.specs.Consistency.{IsWithin, MayBePublished, share_key, is_overtaking, KeepsGuards}
use Rattle.si_model.specs.Consistency.{AreConsistentFor}
use Rattle.si_model.proofs.ListLemmas.{All-listed}
use Rattle.si_model.proofs.ExampleWords.{item, lock, tried, commits, whole_log, of_pairs}
use Rattle.si_model.proofs.SnapshotAgainExample.{setting, report}

abbrev logs : List Log
logs =
    whole_log (tried 1 1 None 0 0 (Again 2 0 1) ∷ tried 1 2 (Some 1) 1 0 ReadOnly ∷ []) (item 0 0 101 ∷ []) [] []
    ((0 ∷ 1 ∷ []) ∷ [])
    ∷ whole_log (commits 2 1 0 1 1 1 1 ∷ []) (item 0 0 100 ∷ []) (lock 0 0 0 0 ∷ []) (item 0 0 101 ∷ []) ((0 ∷ 0 ∷ [])
    ∷ [])
    ∷ []

abbrev told : List (List Tell)
told = map (tells_of setting.jobs) logs

abbrev cs : List Published
cs = published_by told

abbrev place : Stamp → ℕ
place s = 0

abbrev depth : Stamp → ℕ
depth s = 0

consistent : AreConsistentFor setting logs
consistent = record {
  counts = (
    record { reads = refl; locks = refl; writes = refl; snaps = refl },
    (record { reads = refl; locks = refl; writes = refl; snaps = refl }, tt),
  );
  calls = record {
    one_log_each = refl;
    order = record {
      owned = (
        record {
          snapshots = (
            record { sum = tt; commit = λ yes. absurd cc },
            (record { sum = refl; commit = λ yes. absurd cc }, tt),
          );
          numbers =
              tt;
        },
        (
          record { snapshots = (record { sum = refl; commit = λ yes. refl }, tt); numbers = (refl, tt) },
          tt,
        ),
      );
      within = λ snap l. All-listed (λ z. IsWithin 0 z told) (snaps_by told) snap (
        (omega arith, omega arith, (omega arith, omega arith, tt)),
        ((omega arith, omega arith, (omega arith, omega arith, tt)), tt),
      ) l;
      ordered = of_pairs (λ a b. AreAtMost a b ⊎ AreAtMost b a) (snaps_by told) (
        (inl (omega arith, (omega arith, tt)), (inr (omega arith, (omega arith, tt)), tt)),
        ((inl (omega arith, (omega arith, tt)), (inl (omega arith, (omega arith, tt)), tt)), tt),
      );
    };
    published = λ c l. All-listed (MayBePublished setting.widths (rows_of setting.rows) cs) cs c
        (record { own = refl; reads = item 0 0 100 ∷ []; guards = []; evaluates = refl; writes = omega arith }, tt) l;
    first_wins =
        of_pairs (λ c d. stamp_of c.line ≢ stamp_of d.line → IsTrue (share_key c d)
        → IsTrue (contains d.snap (stamp_of c.line)) ⊎ IsTrue (contains c.snap (stamp_of d.line))) cs
        (((λ apart h. absurd (apart refl)), tt), tt);
    guards = λ snap k. All-listed (KeepsGuards cs) (snaps_by told) snap (
      of_pairs (λ c d. IsTrue (is_overtaking c d) → IsTrue (contains (0 ∷ 1 ∷ []) (stamp_of d.line))
          → IsTrue (contains (0 ∷ 1 ∷ []) (stamp_of c.line))) cs (((λ h k. absurd cc), tt), tt),
      (
        of_pairs (λ c d. IsTrue (is_overtaking c d) → IsTrue (contains (0 ∷ 0 ∷ []) (stamp_of d.line))
            → IsTrue (contains (0 ∷ 0 ∷ []) (stamp_of c.line))) cs (((λ h k. absurd cc), tt), tt),
        tt,
      ),
    ) k;
    no_circle = record {
      place = place;
      below = λ c l. All-listed (λ d. place (stamp_of d.line) < 1) cs c (omega arith, tt) l;
      rises = of_pairs (λ c d. IsTrue (is_overtaking c d) → place (stamp_of c.line) < place (stamp_of d.line)) cs
          (((λ h. absurd cc), tt), tt);
    };
    sound = (
      record {
        sees = (
          (tt, (omega arith, omega arith, omega arith)),
          (((omega arith, (omega arith, (omega arith, tt))), tt), tt),
        );
        answers = ((refl, refl), (((([], refl, refl)), tt), tt));
        causes = ((omega arith, omega arith, refl), (tt, tt));
      },
      (
        record {
          sees = (((omega arith, (omega arith, (omega arith, tt))), tt), tt);
          answers = (((item 0 0 101 ∷ [], [], refl, (inl refl, refl)), (refl, tt)), tt);
          causes = (tt, tt);
        },
        tt,
      ),
    );
  };
  jobs_in_range =
      λ c l. All-listed (λ d. (1 ≤ d.line.txn) × (d.line.txn ≤ length setting.jobs)) cs c (
        (omega arith, omega arith),
        tt,
      ) l;
  policies = (
    record {
      parts = attempted _ ∷ attempted _ ∷ [];
      read = refl;
      settled = refl;
      fulls = λ no_tidy. absurd cc;
    },
    (
      record {
        parts = attempted _ ∷ [];
        read = refl;
        settled = refl;
        fulls = λ no_tidy. absurd cc;
      },
      tt,
    ),
  );
}

arranged : IsArranged 0 told report.history
arranged = record {
  same = IsPermutation-refl report.history;
  depth = depth;
  depths = λ c l. All-listed (λ d. depth (stamp_of d.line)
      ≡ above_all depth (filter (λ e. guards_beside (level_of 0 told) e d) cs)) cs c (refl, tt) l;
  ordered = (tt, tt);
}
