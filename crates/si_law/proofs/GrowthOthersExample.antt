-- What the growth laws owe can be met by each outcome and event that another worker brings about.
use Rattle.std.proofs.Common.{ℕ, Bool, true, false, List, [], ◌∷◌, refl, arith, inl, inr}
use Rattle.std.specs.Prelude.{IsTrue, ◌==◌, ◌&&◌, ◌||◌, not}
use Rattle.std.proofs.lemmas.Bool.{false≢true}
use Rattle.si_model.specs.declared.log.Outcome.TheVariants.{Again, Locked, Newer, TooOld}
use Rattle.si_model.specs.declared.log.MoveEnd.TheVariants.{Done, Back}
use Rattle.si_model.specs.declared.log.Event.TheVariants.{Collected, CollectAgain}
use Rattle.si_model.specs.Rows.{key_at, same_key}
use Rattle.si_model.specs.History.{stamp_at, loader}
use Rattle.si_model.specs.Tells.{Tell}
use Rattle.si_model.specs.Consistency.{AreConsistent}
use Rattle.si_law.specs.Growth.{OwesQuietly, OwesCommit}
use Rattle.si_law.proofs.GrowthStart.{start_consistent}
use Rattle.si_law.proofs.GrowthCommit.{commit_growth}
use Rattle.si_law.proofs.GrowthSteps.{IsNextSnapshot, next_moment, keeps_nothing}
use Rattle.si_law.proofs.GrowthSteps.{owes_with, owes_without}
use Rattle.si_law.proofs.GrowthExample.{setting, asked, put, get, seven, lock_on, tried, locking, committed}
use Rattle.si_law.proofs.GrowthExample.{same_asked, grown}
use Rattle.si_law.proofs.GrowthOutcomesExample.{untried}
use Rattle.si_law.proofs.GrowthEventsExample.{told, moved}

abbrev pub none : List ℕ
none = 0 ∷ 0 ∷ []

-- ---- the second worker commits

nobody_snapshot : IsNextSnapshot (setting 2) ([] ∷ [] ∷ []) none 0 none
nobody_snapshot = record {
  sum = refl;
  below = omega arith;
  least = (omega arith, (omega arith, tt));
  within = (omega arith, omega arith, (omega arith, omega arith, tt));
  ordered = tt;
  unguarded = tt;
}

abbrev other_commit : List (List Tell)
other_commit = (committed none ∷ []) ∷ []

owes_other_commit : OwesCommit (setting 2) asked ([] ∷ []) [] [] (committed none) [] []
owes_other_commit = record {
  commit = record {
    number = refl;
    guards = [];
    evaluates = refl;
    writes = omega arith;
    locks = refl;
    newest = (refl, tt);
    sees_writers = λ d key l m writes. absurd l;
  };
  silent = tt;
  owes = record {
    listed = keeps_nothing (committed none ∷ []);
    owned = (record { sum = refl; commit = λ h. refl }, tt);
    moments = next_moment (setting 2) ([] ∷ [] ∷ []) none 0 (committed none) refl nobody_snapshot;
    sees = (((omega arith, (omega arith, (omega arith, tt))), tt), tt);
    causes = (tt, tt);
    buckets = λ b key h. refl;
  };
  answers = tt;
  stops = λ key h. absurd (false≢true h);
}

other_commit_consistent : AreConsistent (setting 2) asked ([] ∷ other_commit)
other_commit_consistent =
    commit_growth (setting 2) asked asked ([] ∷ []) [] [] (committed none) [] [] same_asked
    (start_consistent (setting 2) asked) tt owes_other_commit

commit_snapshot : IsNextSnapshot (setting 2) ([] ∷ other_commit) none 0 none
commit_snapshot = record {
  sum = refl;
  below = omega arith;
  least = (omega arith, (omega arith, tt));
  within = (omega arith, omega arith, (omega arith, omega arith, tt));
  ordered = (inl (omega arith, (omega arith, tt)), tt);
  unguarded = (refl, tt);
}

owes_again : OwesQuietly (setting 2) asked [] [] [] (untried (Again 2 0 1) ∷ []) other_commit
owes_again = owes_without (setting 2) asked [] [] (untried (Again 2 0 1)) other_commit refl (record {
  silent = refl;
  sees = (tt, (omega arith, omega arith, omega arith));
  answers = (refl, refl);
  cause = ((λ e. omega (arith, e)), omega arith, refl);
  buckets = λ b key h. refl;
  stops = λ key h. absurd (false≢true h);
})

owes_collect_again : OwesQuietly (setting 2) asked [] [] [] (told (CollectAgain 0 2 0 1) [] ∷ []) other_commit
owes_collect_again = owes_without (setting 2) asked [] [] (told (CollectAgain 0 2 0 1) []) other_commit refl (record {
  silent = refl;
  sees = (omega arith, omega arith, omega arith);
  answers = tt;
  cause = ((λ e. omega (arith, e)), omega arith, refl);
  buckets = λ b key h. refl;
  stops = λ key h. absurd (false≢true h);
})

abbrev pub newer : Tell
newer = tried 0 none (put ∷ []) [] [] [] (Newer (lock_on (stamp_at 2 1)))

owes_newer : OwesQuietly (setting 2) asked [] [] [] (newer ∷ []) other_commit
owes_newer = owes_with (setting 2) asked [] [] newer other_commit 0 refl commit_snapshot (record {
  silent = refl;
  sees = ((omega arith, (omega arith, (omega arith, tt))), tt);
  answers = ((seven ∷ [], [], refl, (omega arith, [], refl)), tt);
  cause = ((λ e. omega (arith, e)), refl, inl refl);
  buckets = λ b key h. refl;
  stops = λ key h. absurd (false≢true h);
})

-- ---- the second worker is stopped under its lock

abbrev pub other_lock : List (List Tell)
other_lock = (locking none ∷ []) ∷ []

owes_other_lock : OwesQuietly (setting 2) asked ([] ∷ []) [] [] (locking none ∷ []) []
owes_other_lock = owes_with (setting 2) asked ([] ∷ []) [] (locking none) [] 0 refl nobody_snapshot (record {
  silent = refl;
  sees = ((omega arith, (omega arith, (omega arith, tt))), tt);
  answers = ((([], refl), inr (seven ∷ [], [], refl, (omega arith, ([], refl)))), (refl, tt));
  cause = tt;
  buckets = λ b key h. refl;
  stops = λ key h. absurd (false≢true h);
})

other_lock_consistent : AreConsistent (setting 2) asked ([] ∷ other_lock)
other_lock_consistent = grown 2 ([] ∷ []) [] (locking none) [] (start_consistent (setting 2) asked) owes_other_lock

lock_snapshot : IsNextSnapshot (setting 2) ([] ∷ other_lock) none 0 none
lock_snapshot = record {
  sum = refl;
  below = omega arith;
  least = (omega arith, (omega arith, tt));
  within = (omega arith, omega arith, (omega arith, omega arith, tt));
  ordered = (inl (omega arith, (omega arith, tt)), tt);
  unguarded = tt;
}

abbrev locked : Tell
locked = tried 0 none (put ∷ []) [] [] [] (Locked (lock_on loader))

owes_locked : OwesQuietly (setting 2) asked [] [] [] (locked ∷ []) other_lock
owes_locked = owes_with (setting 2) asked [] [] locked other_lock 0 refl lock_snapshot (record {
  silent = refl;
  sees = ((omega arith, (omega arith, (omega arith, tt))), tt);
  answers = ((seven ∷ [], [], refl, (omega arith, [], refl)), tt);
  cause = (refl, λ version. refl);
  buckets = λ b key h. refl;
  stops = λ key h. absurd (false≢true h);
})

-- it had written the version, and not published it
owes_newer_stopped : OwesQuietly (setting 2) asked [] [] [] (newer ∷ []) other_lock
owes_newer_stopped = owes_with (setting 2) asked [] [] newer other_lock 0 refl lock_snapshot (record {
  silent = refl;
  sees = ((omega arith, (omega arith, (omega arith, tt))), tt);
  answers = ((seven ∷ [], [], refl, (omega arith, [], refl)), tt);
  cause = ((λ e. omega (arith, e)), refl, inr (refl, refl));
  buckets = λ b key h. refl;
  stops = λ key h. absurd (false≢true h);
})

pub newer_consistent : AreConsistent (setting 2) asked ((newer ∷ []) ∷ other_lock)
newer_consistent = grown 2 [] [] newer other_lock other_lock_consistent owes_newer_stopped

-- ---- it has collected after its commit

abbrev collected : Tell
collected = told (Collected 0 1 (0 ∷ 1 ∷ []) false) (0 ∷ 1 ∷ [])

abbrev other_collect : List (List Tell)
other_collect = (committed none ∷ collected ∷ []) ∷ []

owes_other_collect : OwesQuietly (setting 2) asked ([] ∷ []) (committed none ∷ []) [] (collected ∷ []) []
owes_other_collect =
    owes_with (setting 2) asked ([] ∷ []) (committed none ∷ []) collected [] 1 refl (record {
      sum = refl;
      below = omega arith;
      least = (omega arith, (omega arith, tt));
      within = (omega arith, omega arith, (omega arith, omega arith, tt));
      ordered = (inr (omega arith, (omega arith, tt)), tt);
      unguarded = (refl, tt);
    }) (record {
      silent = refl;
      sees = (omega arith, (omega arith, (omega arith, tt)));
      answers = tt;
      cause = refl;
      buckets = λ b key h. refl;
      stops = λ key h. absurd (false≢true h);
    })

other_collect_consistent : AreConsistent (setting 2) asked ([] ∷ other_collect)
other_collect_consistent =
    grown 2 ([] ∷ []) (committed none ∷ []) collected [] other_commit_consistent owes_other_collect

collect_snapshot : IsNextSnapshot (setting 2) ([] ∷ other_collect) none 0 none
collect_snapshot = record {
  sum = refl;
  below = omega arith;
  least = (omega arith, (omega arith, tt));
  within = (omega arith, omega arith, (omega arith, omega arith, tt));
  ordered = (inl (omega arith, (omega arith, tt)), (inl (omega arith, (omega arith, tt)), tt));
  unguarded = (refl, tt);
}

abbrev too_old : Tell
too_old = tried 0 none (get ∷ []) [] [] [] (TooOld 2 0 1)

owes_too_old : OwesQuietly (setting 2) asked [] [] [] (too_old ∷ []) other_collect
owes_too_old = owes_with (setting 2) asked [] [] too_old other_collect 0 refl collect_snapshot (record {
  silent = refl;
  sees = ((omega arith, (omega arith, (omega arith, tt))), (omega arith, omega arith));
  answers = ((0, get, ([], refl), refl, (refl, refl), refl), tt);
  cause = ((λ e. omega (arith, e)), refl, omega arith, refl);
  buckets = λ b key h. refl;
  stops = λ key h. absurd (false≢true h);
})

-- ---- it has moved the version

abbrev other_move : List (List Tell)
other_move = (moved Done ∷ []) ∷ []

owes_other_move : OwesQuietly (setting 2) asked ([] ∷ []) [] [] (moved Done ∷ []) []
owes_other_move = owes_without (setting 2) asked ([] ∷ []) [] (moved Done) [] refl (record {
  silent = refl;
  sees = tt;
  answers = tt;
  cause = (refl, refl, λ back. absurd cc);
  buckets = λ b key h. absurd (false≢true h);
  stops = λ key h. absurd (false≢true h);
})

other_move_consistent : AreConsistent (setting 2) asked ([] ∷ other_move)
other_move_consistent = grown 2 ([] ∷ []) [] (moved Done) [] (start_consistent (setting 2) asked) owes_other_move

keeps : (here same : Bool) → IsTrue ((here && same) || false) → IsTrue ((not same || here) && true)
keeps true true h = refl
keeps true false h = absurd (false≢true h)
keeps false same h = absurd (false≢true h)

owes_back : OwesQuietly (setting 2) asked [] [] [] (moved Back ∷ []) other_move
owes_back = owes_without (setting 2) asked [] [] (moved Back) other_move refl (record {
  silent = refl;
  sees = tt;
  answers = tt;
  cause = (refl, refl, λ back. refl);
  buckets = λ b key h. keeps (0 == b) (same_key (key_at 0 0) key) h;
  stops = λ key h. absurd (false≢true h);
})
