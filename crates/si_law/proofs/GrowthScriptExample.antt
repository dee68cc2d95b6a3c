-- What the growth laws for a script owe can be met: a worker reads, commits and has nothing to tidy, each the smallest,
-- and is through.
use Rattle.std.proofs.Common.{◌≡◌, ℕ, true, List, [], ◌∷◌, length, refl, sym, ◌∙◌, arith, Some, inl}
use Rattle.std.specs.Prelude.{is_some}
use Rattle.std.proofs.lemmas.Bool.{false≢true, true≢false}
use Rattle.si_model.specs.declared.row.Item.{Item}
use Rattle.si_model.specs.declared.op.Op.{Op}
use Rattle.si_model.specs.declared.log.Lock.{Lock}
use Rattle.si_model.specs.declared.log.Outcome.{Outcome}
use Rattle.si_model.specs.declared.log.Outcome.TheVariants.{Commit, ReadOnly}
use Rattle.si_model.specs.declared.log.Event.TheVariants.{Tried}
use Rattle.si_model.specs.declared.log.Log.{Log}
use Rattle.si_model.specs.Rows.{key_at}
use Rattle.si_model.specs.History.{loader}
use Rattle.si_model.specs.Tells.{Tell, prefix_in, reads_in, locks_in, writes_in, is_attempt, OwnsItems, empty_log}
use Rattle.si_model.specs.Tells.{with_tell}
use Rattle.si_model.specs.Setting.{Setting, by_script}
use Rattle.si_model.specs.Tries.{Walk, attempted, tidied, next_owed, first_walk}
use Rattle.si_model.specs.Tries.Stage.{going, committed}
use Rattle.si_model.specs.Consistency.{AreConsistentFor, AreConsistentSoFar, view_by}
use Rattle.si_model.proofs.TriesLemmas.{attempt_follows, tidying_follows}
use Rattle.si_law.specs.Growth.{OwesQuietly, OwesCommit, OwesForScript}
use Rattle.si_law.proofs.GrowthEvent.{owes_dropped, stops_under_none}
use Rattle.si_law.proofs.GrowthListed.{listed_nothing}
use Rattle.si_law.proofs.GrowthSteps.{owes_with, next_moment, keeps_nothing}
use Rattle.si_law.proofs.GrowthExample.{setting, put, get, absent, seven, lock_on}
use Rattle.si_law.proofs.GrowthScript.{script_quiet_growth, script_commit_growth, owes_script_event, script_start}
use Rattle.si_law.proofs.GrowthScript.{script_through}

-- one worker with a transaction that reads and one that writes; it tidies, and tries once
abbrev script : Setting
script = record (setting 1) {
  jobs = (get ∷ []) ∷ (put ∷ []) ∷ [];
  owners = 1 ∷ 1 ∷ [];
  policy = record { tries = 1; tidy = true };
}

abbrev attempt : ℕ → List Op → ℕ → List Item → ℕ → List Lock → ℕ → List Item → Outcome → Tell
attempt txn ops reads rs locks ls writes ws outcome = record {
  event = Tried (record {
    txn = txn;
    nth = 1;
    prefix = Some 0;
    reads = reads;
    locks = locks;
    writes = writes;
    outcome = outcome;
  });
  ops = ops;
  reads = rs;
  locks = ls;
  writes = ws;
  snap = 0 ∷ [];
}

abbrev reading : Tell
reading = attempt 1 (get ∷ []) 1 (absent ∷ []) 0 [] 0 [] ReadOnly

abbrev writing : Tell
writing = attempt 2 (put ∷ []) 0 [] 1 (lock_on loader ∷ []) 1 (seven ∷ []) (Commit 1)

abbrev read_log : Log
read_log = with_tell empty_log reading

abbrev written_log : Log
written_log = with_tell read_log writing

-- an attempt with a snapshot counts its items
owns : (t : Tell) → is_some (prefix_in t.event) ≡ true → reads_in t.event ≡ length t.reads
    → locks_in t.event ≡ length t.locks → writes_in t.event ≡ length t.writes → is_attempt t.event ≡ true → OwnsItems t
owns t seen reads locks writes tried = record {
  reads = reads;
  locks = locks;
  writes = writes;
  snap = λ none. absurd (true≢false (sym seen ∙ none));
  ops = λ none. absurd (true≢false (sym tried ∙ none));
}

start : AreConsistentSoFar script (empty_log ∷ []) (first_walk script 1 ∷ [])
start = script_start script

-- ---- it reads

owes_read : OwesQuietly script (by_script script) [] [] [] (reading ∷ []) []
owes_read =
    owes_with script (by_script script) [] [] reading [] 0 refl (record {
      sum = refl;
      below = omega arith;
      least = (omega arith, tt);
      within = (omega arith, omega arith, tt);
      ordered = tt;
      unguarded = tt;
    }) (record {
      silent = refl;
      sees = ((omega arith, (omega arith, tt)), tt);
      answers = (([], refl, refl), tt);
      cause = tt;
      buckets = λ b key h. refl;
      stops = λ key h. absurd (false≢true h);
    })

-- the second transaction is owed still
abbrev read_walk : Walk
read_walk = record { parts = attempted reading ∷ []; at_hand = []; owed = next_owed [] (2 ∷ []) going }

owes_read_script : OwesForScript script [] [] [] (reading ∷ []) [] read_log read_walk
owes_read_script =
    owes_script_event script [] empty_log [] reading [] read_walk start.counts.0
    (owns reading refl refl refl refl refl) refl
    (attempt_follows script (view_by script ([] ∷ [])) 1 [] (first_walk script 1) start.follow.0 reading
    (next_owed [] (2 ∷ []) going) refl refl (λ tidy. tt))

read_so_far : AreConsistentSoFar script (read_log ∷ []) (read_walk ∷ [])
read_so_far =
    script_quiet_growth script [] empty_log read_log [] [] (first_walk script 1) read_walk [] [] [] (reading ∷ []) refl
    refl start tt owes_read owes_read_script

-- ---- it commits

owes_write : OwesCommit script (by_script script) [] (reading ∷ []) [] writing [] []
owes_write = record {
  commit = record {
    number = refl;
    guards = [];
    evaluates = refl;
    writes = omega arith;
    locks = refl;
    newest = (refl, tt);
    sees_writers = λ d key l m writes. absurd l;
  };
  silent = tt;
  owes = record {
    listed = keeps_nothing (writing ∷ []);
    owned = (record { sum = refl; commit = λ h. refl }, tt);
    moments = next_moment script ((reading ∷ []) ∷ []) (0 ∷ []) 0 writing refl (record {
      sum = refl;
      below = omega arith;
      least = (omega arith, tt);
      within = (omega arith, omega arith, tt);
      ordered = (inl (omega arith, tt), tt);
      unguarded = tt;
    });
    sees = (((omega arith, (omega arith, tt)), tt), tt);
    causes = (tt, tt);
    buckets = λ b key h. refl;
  };
  answers = tt;
  stops = λ key h. absurd (false≢true h);
}

-- the key is to be tidied
abbrev written_walk : Walk
written_walk = record {
  parts = attempted reading ∷ attempted writing ∷ [];
  at_hand = [];
  owed = next_owed (key_at 0 0 ∷ []) [] committed;
}

owes_write_script : OwesForScript script [] (reading ∷ []) [] (writing ∷ []) [] written_log written_walk
owes_write_script =
    owes_script_event script [] read_log [] writing [] written_walk read_so_far.counts.0
    (owns writing refl refl refl refl refl) refl
    (attempt_follows script (view_by script ((reading ∷ []) ∷ [])) 1 (reading ∷ []) read_walk read_so_far.follow.0
    writing (next_owed (key_at 0 0 ∷ []) [] committed) refl refl (λ tidy. tt))

written_so_far : AreConsistentSoFar script (written_log ∷ []) (written_walk ∷ [])
written_so_far =
    script_commit_growth script [] read_log written_log [] [] read_walk written_walk [] (reading ∷ []) [] writing []
    refl refl read_so_far tt (omega arith, omega arith) owes_write owes_write_script

-- ---- nothing is to be moved

abbrev all : List Tell
all = reading ∷ writing ∷ []

owes_no_move : OwesQuietly script (by_script script) [] all [] [] []
owes_no_move =
    owes_dropped script [] all [] [] (by_script script) (listed_nothing [])
    (stops_under_none script [] all [] [] [] (λ key. refl))

abbrev through_walk : Walk
through_walk = record {
  parts = attempted reading ∷ attempted writing ∷ tidied (key_at 0 0) [] ∷ [];
  at_hand = [];
  owed = next_owed [] [] going;
}

owes_no_move_script : OwesForScript script [] all [] [] [] written_log through_walk
owes_no_move_script = record {
  counts = written_so_far.counts.0;
  tells = refl;
  follows =
      tidying_follows script (view_by script (all ∷ [])) 1 all written_walk written_so_far.follow.0 (key_at 0 0) []
      (next_owed [] [] going) refl;
}

through_so_far : AreConsistentSoFar script (written_log ∷ []) (through_walk ∷ [])
through_so_far =
    script_quiet_growth script [] written_log written_log [] [] written_walk through_walk [] all [] [] refl refl
    written_so_far tt owes_no_move owes_no_move_script

consistent : AreConsistentFor script (written_log ∷ [])
consistent = script_through script (written_log ∷ []) (through_walk ∷ []) through_so_far refl
