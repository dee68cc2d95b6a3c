-- What the growth laws owe can be met by each outcome that needs no other worker.
use Rattle.std.proofs.Common.{[], ◌∷◌, refl, arith, None, inl, inr}
use Rattle.std.proofs.lemmas.Bool.{false≢true}
use Rattle.si_model.specs.declared.log.Outcome.{Outcome}
use Rattle.si_model.specs.declared.log.Outcome.TheVariants.{Declined, NoSpace, Spent, Full, Cut, Left}
use Rattle.si_model.specs.declared.log.Event.TheVariants.{Tried}
use Rattle.si_model.specs.Rows.{key_at}
use Rattle.si_model.specs.History.{stamp_at, loader}
use Rattle.si_model.specs.Tells.{Tell}
use Rattle.si_law.specs.Growth.{OwesQuietly}
use Rattle.si_law.proofs.GrowthSteps.{IsNextSnapshot, owes_with, owes_without}
use Rattle.si_law.proofs.GrowthExample.{setting, asked, put, get, need, put_second, absent, seven, lock_on, tried}
use Rattle.si_law.proofs.GrowthExample.{front, owes_first}

-- an attempt without a snapshot
abbrev pub untried : Outcome → Tell
untried outcome = record {
  event = Tried (record { txn = 1; nth = 1; prefix = None; reads = 0; locks = 0; writes = 0; outcome = outcome });
  ops = put ∷ [];
  reads = [];
  locks = [];
  writes = [];
  snap = [];
}

abbrev declined : Tell
declined = tried 0 (0 ∷ []) (need ∷ []) (absent ∷ []) [] [] (Declined 1)

owes_declined : OwesQuietly (setting 1) asked [] [] [] (declined ∷ []) []
owes_declined = owes_first declined refl refl (record {
  silent = refl;
  sees = ((omega arith, (omega arith, tt)), tt);
  answers = ((refl, refl), tt);
  cause = tt;
  buckets = λ b key h. refl;
  stops = λ key h. absurd (false≢true h);
})

abbrev without_room : Tell
without_room = tried 0 (0 ∷ []) (put_second ∷ []) [] [] [] (NoSpace 0)

owes_no_space : OwesQuietly (setting 1) asked [] [] [] (without_room ∷ []) []
owes_no_space = owes_first without_room refl refl (record {
  silent = refl;
  sees = ((omega arith, (omega arith, tt)), tt);
  answers = ((0, put_second, ([], refl), (key_at 0 1, (refl, refl, refl), refl), (refl, refl), refl), tt);
  cause = tt;
  buckets = λ b key h. refl;
  stops = λ key h. absurd (false≢true h);
})

-- before the read is listed
abbrev pub cut : Tell
cut = tried 0 (0 ∷ []) (get ∷ []) [] [] [] Cut

owes_cut : OwesQuietly (setting 1) asked [] [] [] (cut ∷ []) []
owes_cut = owes_first cut refl refl (record {
  silent = refl;
  sees = ((omega arith, (omega arith, tt)), tt);
  answers = (((absent ∷ [], refl), inl refl), tt);
  cause = tt;
  buckets = λ b key h. refl;
  stops = λ key h. absurd (false≢true h);
})

owes_cut_without : OwesQuietly (setting 1) asked [] [] [] (untried Cut ∷ []) []
owes_cut_without = owes_without (setting 1) asked [] [] (untried Cut) [] refl (record {
  silent = refl;
  sees = (tt, tt);
  answers = (refl, refl);
  cause = tt;
  buckets = λ b key h. refl;
  stops = λ key h. absurd (false≢true h);
})

abbrev left : Tell
left = tried 0 (0 ∷ []) (get ∷ []) [] [] [] Left

owes_left : OwesQuietly (setting 1) asked [] [] [] (left ∷ []) []
owes_left = owes_first left refl refl (record {
  silent = refl;
  sees = ((omega arith, (omega arith, tt)), tt);
  answers = ((refl, (absent ∷ [], refl), refl), tt);
  cause = tt;
  buckets = λ b key h. refl;
  stops = λ key h. absurd (false≢true h);
})

-- ---- after the commit

pub second_snapshot : IsNextSnapshot (setting 1) (front ∷ []) (1 ∷ []) 1 (1 ∷ [])
second_snapshot = record {
  sum = refl;
  below = omega arith;
  least = (omega arith, tt);
  within = (omega arith, omega arith, tt);
  ordered = (inr (omega arith, tt), tt);
  unguarded = (refl, tt);
}

-- the only number is used
abbrev spent : Tell
spent = tried 1 (1 ∷ []) (put ∷ []) [] [] [] Spent

owes_spent : OwesQuietly (setting 1) asked [] front [] (spent ∷ []) []
owes_spent = owes_with (setting 1) asked [] front spent [] 1 refl second_snapshot (record {
  silent = refl;
  sees = ((omega arith, (omega arith, tt)), tt);
  answers = ((seven ∷ [], [], refl, (omega arith, refl)), tt);
  cause = refl;
  buckets = λ b key h. refl;
  stops = λ key h. absurd (false≢true h);
})

-- the only slot holds the loader's version
abbrev pub full : Tell
full = tried 1 (1 ∷ []) (put ∷ []) [] (lock_on (stamp_at 1 1) ∷ []) [] (Full (lock_on loader))

owes_full : OwesQuietly (setting 1) asked [] front [] (full ∷ []) []
owes_full = owes_with (setting 1) asked [] front full [] 1 refl second_snapshot (record {
  silent = refl;
  sees = ((omega arith, (omega arith, tt)), tt);
  answers = ((seven ∷ [], [], refl, (refl, refl)), (refl, tt));
  cause = (refl, omega arith, refl);
  buckets = λ b key h. refl;
  stops = λ key h. absurd (false≢true h);
})
