-- What the growth laws owe can be met: a cut under a lock, the commit in its place, a read, and a commit with a guard,
-- each the smallest.
use Rattle.std.proofs.Common.{◌≡◌, ℕ, Bool, true, false, List, [], ◌∷◌, refl, sym, subst}
use Rattle.std.proofs.Common.{arith, Some, None, inl, inr}
use Rattle.std.specs.Prelude.{IsTrue, ◌||◌, if◌then◌else◌}
use Rattle.std.proofs.lemmas.Bool.{false≢true}
use Rattle.si_model.specs.declared.row.Item.{Item}
use Rattle.si_model.specs.declared.op.Op.{Op}
use Rattle.si_model.specs.declared.op.Op.TheVariants.{Get, Put, Need, Guard}
use Rattle.si_model.specs.declared.log.Stamp.{Stamp}
use Rattle.si_model.specs.declared.log.Lock.{Lock}
use Rattle.si_model.specs.declared.log.Outcome.{Outcome}
use Rattle.si_model.specs.declared.log.Outcome.TheVariants.{Commit, ReadOnly, Cut}
use Rattle.si_model.specs.declared.log.Event.TheVariants.{Tried}
use Rattle.si_model.specs.Rows.{key_at}
use Rattle.si_model.specs.History.{loader}
use Rattle.si_model.specs.Tells.{Tell, prefix_in}
use Rattle.si_model.specs.Setting.{Setting, Asked}
use Rattle.si_model.specs.Consistency.{AreConsistent}
use Rattle.si_law.specs.Views.{AsksMore}
use Rattle.si_law.specs.Growth.{OwesQuietly, OwesCommit, ending}
use Rattle.si_law.proofs.GrowthStart.{start_consistent}
use Rattle.si_law.proofs.GrowthQuiet.{quiet_growth}
use Rattle.si_law.proofs.GrowthCommit.{commit_growth}
use Rattle.si_law.proofs.GrowthSteps.{IsNextSnapshot, OwesAlone, next_moment, keeps_nothing, keeps_tried}
use Rattle.si_law.proofs.GrowthSteps.{owes_with}

-- one table of one field and one position, with a ring of one slot; a bucket has one cell, a worker one commit number
abbrev pub setting : ℕ → Setting
setting workers = record {
  workers = workers;
  start = 0;
  greatest = 1;
  held = true;
  widths = 1 ∷ [];
  capacities = 1 ∷ [];
  rings = 1 ∷ [];
  cells = 1;
  rows = [];
  jobs = [];
  owners = [];
  policy = record { tries = 1; tidy = false };
}

abbrev pub put : Op
put = Put 0 0 (7 ∷ [])

abbrev pub get : Op
get = Get 0 0

abbrev pub need : Op
need = Need 0 0 1 1

-- the second key has no position
abbrev pub put_second : Op
put_second = Put 0 1 (7 ∷ [])

abbrev pub asked : Asked
asked = record { ops = put ∷ get ∷ need ∷ put_second ∷ []; by_calls = true }

abbrev pub absent : Item
absent = record { table = 0; key = 0; value = None }

abbrev pub seven : Item
seven = record { table = 0; key = 0; value = Some (7 ∷ []) }

abbrev pub lock_on : Stamp → Lock
lock_on q = record { table = 0; key = 0; stamp = q }

-- an attempt on the first p entries
abbrev pub tried : ℕ → List ℕ → List Op → List Item → List Lock → List Item → Outcome → Tell
tried p snap ops reads locks writes outcome = record {
  event = Tried (record {
    txn = 1;
    nth = 1;
    prefix = Some p;
    reads = 0;
    locks = 0;
    writes = 0;
    outcome = outcome;
  });
  ops = ops;
  reads = reads;
  locks = locks;
  writes = writes;
  snap = snap;
}

-- the put, stopped under the lock of its key
abbrev pub locking : List ℕ → Tell
locking snap = tried 0 snap (put ∷ []) [] (lock_on loader ∷ []) [] Cut

abbrev pub committed : List ℕ → Tell
committed snap = tried 0 snap (put ∷ []) [] (lock_on loader ∷ []) (seven ∷ []) (Commit 1)

abbrev pub reading : Tell
reading = tried 0 (0 ∷ []) (get ∷ []) (absent ∷ []) [] [] ReadOnly

pub same_asked : AsksMore asked asked
same_asked = record { ops = λ op l. l; by_calls = λ h. h }

-- logs that the event is listed in stay consistent
pub grown : (workers : ℕ) (before : List (List Tell)) (ts : List Tell) (t : Tell) (after : List (List Tell))
    → AreConsistent (setting workers) asked (ending before ts [] after)
    → OwesQuietly (setting workers) asked before ts [] (t ∷ []) after
    → AreConsistent (setting workers) asked (ending before ts (t ∷ []) after)
grown workers before ts t after consistent owes =
    quiet_growth (setting workers) asked asked before ts [] (t ∷ []) after same_asked consistent tt owes

first_snapshot : IsNextSnapshot (setting 1) ([] ∷ []) (0 ∷ []) 0 (0 ∷ [])
first_snapshot = record {
  sum = refl;
  below = omega arith;
  least = (omega arith, tt);
  within = (omega arith, omega arith, tt);
  ordered = tt;
  unguarded = tt;
}

abbrev pub OwesFirst : Tell → Type 0
OwesFirst t = OwesAlone (setting 1) asked [] [] t []

pub owes_first : (t : Tell) → prefix_in t.event ≡ Some 0 → t.snap ≡ 0 ∷ [] → OwesFirst t
    → OwesQuietly (setting 1) asked [] [] [] (t ∷ []) []
owes_first t has snap h =
    owes_with (setting 1) asked [] [] t [] 0 has
    (subst (IsNextSnapshot (setting 1) ([] ∷ []) (0 ∷ []) 0) (sym snap) first_snapshot) h

owes_reading : OwesQuietly (setting 1) asked [] [] [] (reading ∷ []) []
owes_reading = owes_first reading refl refl (record {
  silent = refl;
  sees = ((omega arith, (omega arith, tt)), tt);
  answers = (([], refl, refl), tt);
  cause = tt;
  buckets = λ b key h. refl;
  stops = λ key h. absurd (false≢true h);
})

owes_locking : OwesQuietly (setting 1) asked [] [] [] (locking (0 ∷ []) ∷ []) []
owes_locking = owes_first (locking (0 ∷ [])) refl refl (record {
  silent = refl;
  sees = ((omega arith, (omega arith, tt)), tt);
  answers = ((([], refl), inr (seven ∷ [], [], refl, (omega arith, ([], refl)))), (refl, tt));
  cause = tt;
  buckets = λ b key h. refl;
  stops = λ key h. absurd (false≢true h);
})

pub locking_consistent : AreConsistent (setting 1) asked ((locking (0 ∷ []) ∷ []) ∷ [])
locking_consistent = grown 1 [] [] (locking (0 ∷ [])) [] (start_consistent (setting 1) asked) owes_locking

pub writes_same : (same : Bool) → IsTrue (same || false) → IsTrue (if same then true else false)
writes_same true h = refl
writes_same false h = absurd (false≢true h)

owes_commit : OwesCommit (setting 1) asked [] [] (locking (0 ∷ []) ∷ []) (committed (0 ∷ [])) [] []
owes_commit = record {
  commit = record {
    number = refl;
    guards = [];
    evaluates = refl;
    writes = omega arith;
    locks = refl;
    newest = (refl, tt);
    sees_writers = λ d key l m writes. absurd l;
  };
  silent = tt;
  owes = record {
    listed = keeps_tried (locking (0 ∷ [])) _ (committed (0 ∷ []) ∷ []) refl (λ key q h. h);
    owned = (record { sum = refl; commit = λ h. refl }, tt);
    moments = next_moment (setting 1) ((locking (0 ∷ []) ∷ []) ∷ []) (0 ∷ []) 0 (committed (0 ∷ [])) refl (record {
      sum = refl;
      below = omega arith;
      least = (omega arith, tt);
      within = (omega arith, omega arith, tt);
      ordered = (inl (omega arith, tt), tt);
      unguarded = tt;
    });
    sees = (((omega arith, (omega arith, tt)), tt), tt);
    causes = (tt, tt);
    buckets = λ b key h. refl;
  };
  answers = tt;
  stops = λ key h. inl (writes_same _ h);
}

abbrev pub front : List Tell
front = committed (0 ∷ []) ∷ []

pub commit_consistent : AreConsistent (setting 1) asked (front ∷ [])
commit_consistent =
    commit_growth (setting 1) asked asked [] [] (locking (0 ∷ []) ∷ []) (committed (0 ∷ [])) [] [] same_asked
    locking_consistent (refl, tt) owes_commit

-- ---- a commit that guards the second key, with no end before

abbrev guarding : Tell
guarding =
    tried 0 (0 ∷ []) (Guard 0 1 ∷ put ∷ []) (record { table = 0; key = 1; value = None } ∷ [])
    (lock_on loader ∷ record { table = 0; key = 1; stamp = loader } ∷ []) (seven ∷ []) (Commit 1)

owes_guarding : OwesCommit (setting 1) asked [] [] [] guarding [] []
owes_guarding = record {
  commit = record {
    number = refl;
    guards = key_at 0 1 ∷ [];
    evaluates = refl;
    writes = omega arith;
    locks = refl;
    newest = (refl, (refl, tt));
    sees_writers = λ d key l m writes. absurd l;
  };
  silent = tt;
  owes = record {
    listed = keeps_nothing (guarding ∷ []);
    owned = (record { sum = refl; commit = λ h. refl }, tt);
    moments = next_moment (setting 1) ([] ∷ []) (0 ∷ []) 0 guarding refl first_snapshot;
    sees = (((omega arith, (omega arith, tt)), tt), tt);
    causes = (tt, tt);
    buckets = λ b key h. refl;
  };
  answers = tt;
  stops = λ key h. absurd (false≢true h);
}
