-- What the growth laws owe can be met by each event of a tidying and of a stopped worker that needs no other worker.
use Rattle.std.proofs.Common.{ℕ, Bool, List, [], ◌∷◌, refl, arith, inl, inr}
use Rattle.std.proofs.lemmas.Bool.{false≢true}
use Rattle.si_model.specs.declared.log.MoveEnd.{MoveEnd}
use Rattle.si_model.specs.declared.log.MoveEnd.TheVariants.{Done, Cut}
use Rattle.si_model.specs.declared.log.Finish.TheVariants.{Clean, Undone, RolledOn}
use Rattle.si_model.specs.declared.log.Event.{Event}
use Rattle.si_model.specs.declared.log.Event.TheVariants.{NoRoom, Moved, Collected, CollectCut, TidyCut, TailCut}
use Rattle.si_model.specs.declared.log.Event.TheVariants.{Finished}
use Rattle.si_model.specs.History.{loader}
use Rattle.si_model.specs.Tells.{Tell}
use Rattle.si_model.specs.Consistency.{AreConsistent}
use Rattle.si_law.specs.Growth.{OwesQuietly}
use Rattle.si_law.proofs.GrowthSteps.{owes_with, owes_without}
use Rattle.si_law.proofs.GrowthExample.{setting, asked, committed, locking, front, grown}
use Rattle.si_law.proofs.GrowthExample.{commit_consistent}
use Rattle.si_law.proofs.GrowthOutcomesExample.{second_snapshot}

-- an event that owns no more than a snapshot
abbrev pub told : Event → List ℕ → Tell
told event snap = record { event = event; ops = []; reads = []; locks = []; writes = []; snap = snap }

-- the loader's version is moved into the bucket
abbrev pub moved : MoveEnd → Tell
moved how = told (Moved 0 0 0 loader how) []

abbrev collected : Bool → Tell
collected cut = told (Collected 0 1 (1 ∷ []) cut) (1 ∷ [])

owes_moved : OwesQuietly (setting 1) asked [] front [] (moved Done ∷ []) []
owes_moved = owes_without (setting 1) asked [] front (moved Done) [] refl (record {
  silent = refl;
  sees = tt;
  answers = tt;
  cause = (refl, refl, λ back. absurd cc);
  buckets = λ b key h. absurd (false≢true h);
  stops = λ key h. absurd (false≢true h);
})

moved_consistent : AreConsistent (setting 1) asked ((committed (0 ∷ []) ∷ moved Done ∷ []) ∷ [])
moved_consistent = grown 1 [] front (moved Done) [] commit_consistent owes_moved

owes_move_cut : OwesQuietly (setting 1) asked [] front [] (moved Cut ∷ []) []
owes_move_cut = owes_without (setting 1) asked [] front (moved Cut) [] refl (record {
  silent = refl;
  sees = tt;
  answers = tt;
  cause = (refl, refl, λ back. absurd cc);
  buckets = λ b key h. absurd (false≢true h);
  stops = λ key h. absurd (false≢true h);
})

-- the only cell is filled by the worker's own move
owes_no_room : OwesQuietly (setting 1) asked [] (committed (0 ∷ []) ∷ moved Done ∷ []) [] (told (NoRoom 0) [] ∷ []) []
owes_no_room =
    owes_without (setting 1) asked [] (committed (0 ∷ []) ∷ moved Done ∷ []) (told (NoRoom 0) []) [] refl (record {
      silent = refl;
      sees = tt;
      answers = tt;
      cause = inl (omega arith);
      buckets = λ b key h. refl;
      stops = λ key h. absurd (false≢true h);
    })

owes_collected : (cut : Bool) → OwesQuietly (setting 1) asked [] front [] (collected cut ∷ []) []
owes_collected cut = owes_with (setting 1) asked [] front (collected cut) [] 1 refl second_snapshot (record {
  silent = refl;
  sees = (omega arith, (omega arith, tt));
  answers = tt;
  cause = refl;
  buckets = λ b key h. refl;
  stops = λ key h. absurd (false≢true h);
})

owes_collect_cut : OwesQuietly (setting 1) asked [] front [] (told (CollectCut 0) [] ∷ []) []
owes_collect_cut = owes_without (setting 1) asked [] front (told (CollectCut 0) []) [] refl (record {
  silent = refl;
  sees = tt;
  answers = tt;
  cause = tt;
  buckets = λ b key h. refl;
  stops = λ key h. absurd (false≢true h);
})

owes_tidy_cut : OwesQuietly (setting 1) asked [] front [] (told (TidyCut 0 0) [] ∷ []) []
owes_tidy_cut = owes_without (setting 1) asked [] front (told (TidyCut 0 0) []) [] refl (record {
  silent = refl;
  sees = tt;
  answers = tt;
  cause = tt;
  buckets = λ b key h. refl;
  stops = λ key h. absurd (false≢true h);
})

tidy_cut_consistent : AreConsistent (setting 1) asked ((committed (0 ∷ []) ∷ told (TidyCut 0 0) [] ∷ []) ∷ [])
tidy_cut_consistent = grown 1 [] front (told (TidyCut 0 0) []) [] commit_consistent owes_tidy_cut

owes_clean : OwesQuietly (setting 1) asked [] (committed (0 ∷ []) ∷ told (TidyCut 0 0) [] ∷ []) []
    (told (Finished Clean) [] ∷ []) []
owes_clean =
    owes_without (setting 1) asked [] (committed (0 ∷ []) ∷ told (TidyCut 0 0) [] ∷ []) (told (Finished Clean) []) []
    refl (record {
      silent = refl;
      sees = tt;
      answers = tt;
      cause = (refl, refl);
      buckets = λ b key h. refl;
      stops = λ key h. absurd (false≢true h);
    })

-- a header names its holder, so that a commit may be stopped before its locks are given back
owes_tail_cut : OwesQuietly (setting 1) asked [] front [] (told TailCut [] ∷ []) []
owes_tail_cut = owes_without (setting 1) asked [] front (told TailCut []) [] refl (record {
  silent = refl;
  sees = tt;
  answers = tt;
  cause = refl;
  buckets = λ b key h. refl;
  stops = λ key h. absurd (false≢true h);
})

tail_cut_consistent : AreConsistent (setting 1) asked ((committed (0 ∷ []) ∷ told TailCut [] ∷ []) ∷ [])
tail_cut_consistent = grown 1 [] front (told TailCut []) [] commit_consistent owes_tail_cut

owes_rolled_on : OwesQuietly (setting 1) asked [] (committed (0 ∷ []) ∷ told TailCut [] ∷ []) []
    (told (Finished RolledOn) [] ∷ []) []
owes_rolled_on =
    owes_without (setting 1) asked [] (committed (0 ∷ []) ∷ told TailCut [] ∷ []) (told (Finished RolledOn) []) []
    refl (record {
      silent = refl;
      sees = tt;
      answers = tt;
      cause = (refl, refl);
      buckets = λ b key h. refl;
      stops = λ key h. absurd (false≢true h);
    })

-- nobody found the version that was given back
owes_undone : OwesQuietly (setting 1) asked [] (locking (0 ∷ []) ∷ []) [] (told (Finished Undone) [] ∷ []) []
owes_undone = owes_without (setting 1) asked [] (locking (0 ∷ []) ∷ []) (told (Finished Undone) []) [] refl (record {
  silent = refl;
  sees = tt;
  answers = tt;
  cause = (refl, refl);
  buckets = λ b key h. refl;
  stops = λ key h. inr refl;
})
