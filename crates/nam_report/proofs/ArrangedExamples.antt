-- The counts of the worked examples' logs fit.
use Rattle.std.proofs.Common.{◌≡◌, ℕ, ◌+◌, ◌<◌, ◌*◌, ◌^◌, zero, suc, List, [], ◌∷◌, ◌++◌, length, refl, ap, sym}
use Rattle.std.proofs.Common.{◌∙◌, arith}
use Rattle.std.specs.Prelude.{replicate}
use Rattle.std.specs.List.{AllByRecursion}
use Rattle.std.proofs.lemmas.List.{length-replicate}
use Rattle.si_model.specs.declared.log.Event.{Event}
use Rattle.si_model.specs.declared.log.Log.{Log}
use Rattle.si_model.specs.Tells.{CountsFit, total, reads_in, locks_in, writes_in, snaps_in}
use Rattle.nam_report.specs.ArrangedExamples.{AreReady, IsSized, commit, sized_events, first_committer_logs}
use Rattle.nam_report.specs.ArrangedExamples.{write_skew_logs, again_logs, cause_logs, guard_logs, unordered_logs}
use Rattle.nam_report.specs.ArrangedExamples.{tied_logs}

pub first_committer_ready : AreReady first_committer_logs
first_committer_ready = record {
  few = omega arith;
  counts = (
    record { reads = refl; locks = refl; writes = refl; snaps = refl },
    (record { reads = refl; locks = refl; writes = refl; snaps = refl }, tt),
  );
}

pub write_skew_ready : AreReady write_skew_logs
write_skew_ready = record {
  few = omega arith;
  counts = (
    record { reads = refl; locks = refl; writes = refl; snaps = refl },
    (record { reads = refl; locks = refl; writes = refl; snaps = refl }, tt),
  );
}

pub again_ready : AreReady again_logs
again_ready = record {
  few = omega arith;
  counts = (
    record { reads = refl; locks = refl; writes = refl; snaps = refl },
    (record { reads = refl; locks = refl; writes = refl; snaps = refl }, tt),
  );
}

pub cause_ready : AreReady cause_logs
cause_ready = record {
  few = omega arith;
  counts = (
    record { reads = refl; locks = refl; writes = refl; snaps = refl },
    (
      record { reads = refl; locks = refl; writes = refl; snaps = refl },
      (record { reads = refl; locks = refl; writes = refl; snaps = refl }, tt),
    ),
  );
}

pub guard_ready : AreReady guard_logs
guard_ready = record {
  few = omega arith;
  counts = (
    record { reads = refl; locks = refl; writes = refl; snaps = refl },
    (record { reads = refl; locks = refl; writes = refl; snaps = refl }, tt),
  );
}

pub unordered_ready : AreReady unordered_logs
unordered_ready = record {
  few = omega arith;
  counts = (
    record { reads = refl; locks = refl; writes = refl; snaps = refl },
    (record { reads = refl; locks = refl; writes = refl; snaps = refl }, tt),
  );
}

pub tied_ready : AreReady tied_logs
tied_ready = record {
  few = omega arith;
  counts = (record { reads = refl; locks = refl; writes = refl; snaps = refl }, tt);
}

-- ---- logs of any size

more : (a n : ℕ) → sized_events a n ++ commit 1 1 0 (suc (a + n)) ∷ [] ≡ sized_events a (suc n)
more a zero = let e : a + 0 ≡ a = omega arith in rw e refl
more a (suc n) = let e : a + suc n ≡ suc a + n =
    omega arith in rw e (ap (λ es. commit 1 1 0 (suc a) ∷ es) (more (suc a) n))

-- one more commit
pub sized_more : (n : ℕ) → sized_events 0 n ++ commit 1 1 0 (n + 1) ∷ [] ≡ sized_events 0 (n + 1)
sized_more n = let e : n + 1 ≡ suc n = omega arith in let z : 0 + n ≡ n = omega arith in rw e (rw z at (more 0 n))

total_of : (owned : Event → ℕ) (m a n : ℕ) → ((k : ℕ) → owned (commit 1 1 0 k) ≡ m)
    → total owned (sized_events a n) ≡ n * m
total_of owned m a zero h = omega arith
total_of owned m a (suc n) h = let rest = total_of owned m (suc a) n h in let here =
    h (suc a) in omega (arith, rest, here)

counts : (w n : ℕ) (logs : List Log) → AllByRecursion (IsSized w n) logs → AllByRecursion CountsFit logs
counts w n [] h = tt
counts w n (l ∷ logs) h = (
  record {
    reads = ap (total reads_in) h.0.events ∙ total_of reads_in 0 0 n (λ k. refl) ∙ zero_times n
        ∙ sym (ap length h.0.reads);
    locks = ap (total locks_in) h.0.events ∙ total_of locks_in 0 0 n (λ k. refl) ∙ zero_times n
        ∙ sym (ap length h.0.locks);
    writes = ap (total writes_in) h.0.events ∙ total_of writes_in 1 0 n (λ k. refl) ∙ one_times n ∙ sym h.0.writes;
    snaps = ap (total snaps_in) h.0.events ∙ total_of snaps_in 1 0 n (λ k. refl) ∙ one_times n
        ∙ sym (ap length h.0.snaps ∙ length-replicate n (replicate w 0));
  },
  counts w n logs h.1,
)
  where
    zero_times : (n : ℕ) → n * 0 ≡ 0
    zero_times n = omega arith

    one_times : (n : ℕ) → n * 1 ≡ n
    one_times n = omega arith

pub sized_ready : (w n : ℕ) (logs : List Log) → length logs ≡ w → w < 2 ^ 31 → AllByRecursion (IsSized w n) logs
    → AreReady logs
sized_ready w n logs long few h = record { few = omega (arith, long, few); counts = counts w n logs h }
