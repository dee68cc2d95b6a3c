-- What the growth laws owe can be met where an end is given up for another. Where another worker found the version that
-- a stopped one wrote, its commit can be completed, and not undone.
use Rattle.std.proofs.Common.{List, [], ◌∷◌, refl, arith, inl, inr}
use Rattle.std.proofs.lemmas.Bool.{false≢true}
use Rattle.si_model.specs.declared.log.Outcome.TheVariants.{Cut}
use Rattle.si_model.specs.declared.log.MoveEnd.TheVariants.{Done as WellDone}
use Rattle.si_model.specs.declared.log.Finish.TheVariants.{Undone, RolledOn}
use Rattle.si_model.specs.declared.log.Event.TheVariants.{NoRoom, CollectCut, TidyCut, Finished}
use Rattle.si_model.specs.History.{stamp_at}
use Rattle.si_model.specs.Tells.{Tell}
use Rattle.si_model.specs.Consistency.{AreConsistent}
use Rattle.si_law.specs.Growth.{OwesQuietly, OwesCommit}
use Rattle.si_law.proofs.GrowthSteps.{IsNextSnapshot, next_moment, keeps_tried}
use Rattle.si_law.proofs.GrowthSteps.{owes_with}
use Rattle.si_law.proofs.GrowthExample.{setting, asked, put, seven, lock_on, tried, locking, committed}
use Rattle.si_law.proofs.GrowthExample.{reading, same_asked, front, grown, writes_same, commit_consistent}
use Rattle.si_law.proofs.GrowthOutcomesExample.{cut, second_snapshot, full}
use Rattle.si_law.proofs.GrowthCommit.{commit_growth}
use Rattle.si_law.proofs.GrowthEventsExample.{told, moved}
use Rattle.si_law.proofs.GrowthOthersExample.{none, newer, newer_consistent}

-- ---- a read is listed

cut_snapshot : IsNextSnapshot (setting 1) ((cut ∷ []) ∷ []) (0 ∷ []) 0 (0 ∷ [])
cut_snapshot = record {
  sum = refl;
  below = omega arith;
  least = (omega arith, tt);
  within = (omega arith, omega arith, tt);
  ordered = (inl (omega arith, tt), tt);
  unguarded = tt;
}

owes_read : OwesQuietly (setting 1) asked [] [] (cut ∷ []) (reading ∷ []) []
owes_read = record {
  silent = (refl, tt);
  owes = record {
    listed = keeps_tried cut _ (reading ∷ []) refl (λ key q h. h);
    owned = (record { sum = refl; commit = λ h. absurd (false≢true h) }, tt);
    moments = next_moment (setting 1) ((cut ∷ []) ∷ []) (0 ∷ []) 0 reading refl cut_snapshot;
    sees = (((omega arith, (omega arith, tt)), tt), tt);
    causes = (tt, tt);
    buckets = λ b key h. refl;
  };
  answers = ((([], refl, refl), tt), tt);
  stops = λ key h. absurd (false≢true h);
}

-- ---- a commit is given up under its lock, since the ring is full

abbrev holding : Tell
holding = tried 1 (1 ∷ []) (put ∷ []) [] (lock_on (stamp_at 1 1) ∷ []) [] Cut

owes_holding : OwesQuietly (setting 1) asked [] front [] (holding ∷ []) []
owes_holding = owes_with (setting 1) asked [] front holding [] 1 refl second_snapshot (record {
  silent = refl;
  sees = ((omega arith, (omega arith, tt)), tt);
  answers = ((([], refl), inr (seven ∷ [], [], refl, (omega arith, ([], refl)))), (refl, tt));
  cause = tt;
  buckets = λ b key h. refl;
  stops = λ key h. absurd (false≢true h);
})

holding_consistent : AreConsistent (setting 1) asked ((committed (0 ∷ []) ∷ holding ∷ []) ∷ [])
holding_consistent = grown 1 [] front holding [] commit_consistent owes_holding

holding_snapshot : IsNextSnapshot (setting 1) ((committed (0 ∷ []) ∷ holding ∷ []) ∷ []) (1 ∷ []) 1 (1 ∷ [])
holding_snapshot = record {
  sum = refl;
  below = omega arith;
  least = (omega arith, tt);
  within = (omega arith, omega arith, tt);
  ordered = (inr (omega arith, tt), (inl (omega arith, tt), tt));
  unguarded = (refl, tt);
}

owes_given_up : OwesQuietly (setting 1) asked [] front (holding ∷ []) (full ∷ []) []
owes_given_up = record {
  silent = (refl, tt);
  owes = record {
    listed = keeps_tried holding _ (full ∷ []) refl (λ key q h. h);
    owned = (record { sum = refl; commit = λ h. absurd (false≢true h) }, tt);
    moments = next_moment (setting 1) ((committed (0 ∷ []) ∷ holding ∷ []) ∷ []) (1 ∷ []) 1 full refl holding_snapshot;
    sees = (((omega arith, (omega arith, tt)), tt), tt);
    causes = ((refl, omega arith, refl), tt);
    buckets = λ b key h. refl;
  };
  answers = (((seven ∷ [], [], refl, (refl, refl)), (refl, tt)), tt);
  stops = λ key h. inr refl;
}

-- ---- a tidying goes on: it found no room

owes_tidying : OwesQuietly (setting 1) asked [] (committed (0 ∷ []) ∷ moved WellDone ∷ []) (told (TidyCut 0 0) [] ∷ [])
    (told (NoRoom 0) [] ∷ told (CollectCut 0) [] ∷ []) []
owes_tidying = record {
  silent = (refl, (refl, tt));
  owes = record {
    listed = record {
      locks = λ key q h. h;
      entries = λ i n h. absurd (false≢true h);
      collects = λ h. absurd (false≢true h);
      done = λ key q h. absurd (false≢true h);
      moves = λ b. omega arith;
    };
    owned = (
      record { sum = tt; commit = λ h. absurd (false≢true h) },
      (record { sum = tt; commit = λ h. absurd (false≢true h) }, tt),
    );
    moments = λ snap l. absurd l;
    sees = (tt, (tt, tt));
    causes = (inl (omega arith), (tt, tt));
    buckets = λ b key h. refl;
  };
  answers = (tt, (tt, tt));
  stops = λ key h. absurd (false≢true h);
}

-- ---- a worker was stopped under its lock, and another one found the version that it wrote

abbrev found : List (List Tell)
found = (newer ∷ []) ∷ (locking none ∷ []) ∷ []

found_snapshot : IsNextSnapshot (setting 2) found none 0 none
found_snapshot = record {
  sum = refl;
  below = omega arith;
  least = (omega arith, (omega arith, tt));
  within = (omega arith, omega arith, (omega arith, omega arith, tt));
  ordered = (inl (omega arith, (omega arith, tt)), (inl (omega arith, (omega arith, tt)), tt));
  unguarded = tt;
}

-- its commit is completed
owes_completed : OwesCommit (setting 2) asked ((newer ∷ []) ∷ []) [] (locking none ∷ []) (committed none)
    (told (Finished RolledOn) [] ∷ []) []
owes_completed = record {
  commit = record {
    number = refl;
    guards = [];
    evaluates = refl;
    writes = omega arith;
    locks = refl;
    newest = (refl, tt);
    sees_writers = λ d key l m writes. absurd l;
  };
  silent = (refl, tt);
  owes = record {
    listed = keeps_tried (locking none) _ (committed none ∷ told (Finished RolledOn) [] ∷ []) refl (λ key q h. h);
    owned = (
      record { sum = refl; commit = λ h. refl },
      (record { sum = tt; commit = λ h. absurd (false≢true h) }, tt),
    );
    moments = λ snap l.
        let its = next_moment (setting 2) found none 0 (committed none) refl found_snapshot snap l in
        record { within = its.within; ordered = its.ordered; guards = its.guards };
    sees = (((omega arith, (omega arith, (omega arith, tt))), tt), (tt, tt));
    causes = (tt, ((refl, refl), tt));
    buckets = λ b key h. refl;
  };
  answers = (tt, tt);
  stops = λ key h. inl (writes_same _ h);
}

completed_consistent : AreConsistent (setting 2) asked
    ((newer ∷ []) ∷ (committed none ∷ told (Finished RolledOn) [] ∷ []) ∷ [])
completed_consistent =
    commit_growth (setting 2) asked asked ((newer ∷ []) ∷ []) [] (locking none ∷ []) (committed none)
    (told (Finished RolledOn) [] ∷ []) [] same_asked newer_consistent (refl, tt) owes_completed

-- it can't be undone
undone_found : AreConsistent (setting 2) asked
    ((newer ∷ []) ∷ (locking none ∷ told (Finished Undone) [] ∷ []) ∷ []) → ⊥
undone_found h =
    elim h.sound.0.causes.0.2 [
      | inl written ↦ false≢true written
      | inr stopped ↦ false≢true stopped.0
    ]
