-- Logs that are consistent and arranged: a guard stands before the write that it didn't see, though its worker comes
-- later.
use Rattle.std.proofs.Common.{◌≡◌, ℕ, ◌<◌, true, false, List, [], ◌∷◌, refl, subst, arith, Some, inl, inr}
use Rattle.std.specs.Prelude.{IsTrue, filter, map, ◌⊎◌, ◌≤◌, ◌==◌, if◌then◌else◌}
use Rattle.std.proofs.lemmas.Bool.{false≢true}
use Rattle.std.proofs.lemmas.Bool.Decides.{nat_tests}
use Rattle.std.proofs.lemmas.List.Sorted.{IsPermutation-append_comm}
use Rattle.si_model.specs.declared.row.Key.{Key}
use Rattle.si_model.specs.declared.row.Row.{Row}
use Rattle.si_model.specs.declared.row.Item.{Item}
use Rattle.si_model.specs.declared.op.Op.TheVariants.{Add, Guard}
use Rattle.si_model.specs.declared.evaluated.Evaluated.TheVariants.{Done}
use Rattle.si_model.specs.declared.log.Stamp.{Stamp}
use Rattle.si_model.specs.declared.log.Lock.{Lock}
use Rattle.si_model.specs.declared.log.Outcome.TheVariants.{Commit}
use Rattle.si_model.specs.declared.log.Event.{Event}
use Rattle.si_model.specs.declared.log.Event.TheVariants.{Tried}
use Rattle.si_model.specs.declared.log.Log.{Log}
use Rattle.si_model.specs.declared.report.CommitLine.{CommitLine}
use Rattle.si_model.specs.declared.report.AuditRow.{AuditRow}
use Rattle.si_model.specs.Lists.{Listed}
use Rattle.si_model.specs.Rows.{key_at, rows_of}
use Rattle.si_model.specs.State.{state_at}
use Rattle.si_model.specs.History.{stamp_at, stamp_of, keys_of, none_writes}
use Rattle.si_model.specs.Tells.{Tell, tells_of}
use Rattle.si_model.specs.Commits.{Published, published_by, snaps_by}
use Rattle.si_model.specs.Snapshots.{contains}
use Rattle.si_model.specs.Setting.{Setting}
use Rattle.si_model.specs.Arranged.{level_of, guards_beside, above_all, IsArranged}
use Rattle.si_model.specs.Knowledge.{AreAtMost}
use Rattle.si_model.specs.Tries.Part.{attempted}
use Rattle.si_model.specs.Audit.{IsAudit}
use Rattle.si_model.specs.Run.{IsRun}
use Rattle.si_model.specs.Consistency.{IsWithin, HaveOrder, MayBePublished, share_key, is_overtaking, AreConsistentFor}
use Rattle.si_model.proofs.ListLemmas.{All-listed}
use Rattle.si_law.proofs.TheLaw.{arranged_is_run}

abbrev row : ℕ → ℕ → Row
row k v = record { table = 0; key = k; value = v ∷ [] }

abbrev item : ℕ → ℕ → Item
item k v = record { table = 0; key = k; value = Some (v ∷ []) }

-- a lock on a loaded row
abbrev lock : ℕ → Lock
lock k = record { table = 0; key = k; stamp = stamp_at 0 0 }

-- the first commit of a worker, on the loaded rows
abbrev committed : ℕ → ℕ → ℕ → Event
committed x reads locks =
    Tried (record { txn = x; nth = 1; prefix = Some 0; reads = reads; locks = locks; writes = 1; outcome = Commit 1 })

abbrev entry : ℕ → Item → CommitLine
entry j i = record { worker = j; number = 1; prefix = 0; txn = j; writes = i ∷ [] }

abbrev audited : ℕ → ℕ → AuditRow
audited k v = record { table = 0; key = k; value = Some (v ∷ []); locked = false }

-- worker 1 writes key 1; worker 2 guards it, and writes key 0
abbrev setting : Setting
setting = record {
  workers = 2;
  start = 0;
  greatest = 4294967295;
  held = false;
  widths = 1 ∷ [];
  capacities = 4 ∷ [];
  rings = 2 ∷ [];
  cells = 1;
  rows = row 0 60 ∷ row 1 60 ∷ [];
  jobs = (Add 0 1 1 false 60 ∷ []) ∷ (Guard 0 1 ∷ Add 0 0 1 false 60 ∷ []) ∷ [];
  owners = 1 ∷ 2 ∷ [];
  policy = record { tries = 1; tidy = false };
}

abbrev logs : List Log
logs =
    record {
      events = committed 1 1 1 ∷ [];
      reads = item 1 60 ∷ [];
      locks = lock 1 ∷ [];
      writes = item 1 0 ∷ [];
      snaps = (0 ∷ 0 ∷ []) ∷ [];
    }
    ∷ record {
      events = committed 2 2 2 ∷ [];
      reads = item 1 60 ∷ item 0 60 ∷ [];
      locks = lock 0 ∷ lock 1 ∷ [];
      writes = item 0 0 ∷ [];
      snaps = (0 ∷ 0 ∷ []) ∷ [];
    }
    ∷ []

abbrev told : List (List Tell)
told = map (tells_of (setting.jobs)) logs

abbrev commits : List Published
commits = published_by told

abbrev history : List CommitLine
history = entry 2 (item 0 0) ∷ entry 1 (item 1 0) ∷ []

abbrev audit : List AuditRow
audit = audited 0 0 ∷ audited 1 0 ∷ []

of_snaps : (P : List ℕ → Type 0) → P (0 ∷ 0 ∷ []) → (snap : List ℕ) → Listed snap (snaps_by told) → P snap
of_snaps P h snap l = All-listed P (snaps_by told) snap (h, (h, tt)) l

order : HaveOrder 0 told
order = record {
  owned = (
    record { snapshots = (record { sum = refl; commit = λ h. refl }, tt); numbers = (refl, tt) },
    (record { snapshots = (record { sum = refl; commit = λ h. refl }, tt); numbers = (refl, tt) }, tt),
  );
  within = of_snaps (λ snap. IsWithin 0 snap told) (omega arith, omega arith, (omega arith, omega arith, tt));
  ordered = λ a b l k. inl (of_snaps (λ a. AreAtMost a b)
      (of_snaps (λ b. AreAtMost (0 ∷ 0 ∷ []) b) (omega arith, (omega arith, tt)) b k) a l);
}

abbrev writer : Published
writer = record { line = entry 1 (item 1 0); snap = 0 ∷ 0 ∷ []; ops = Add 0 1 1 false 60 ∷ [] }

abbrev guarder : Published
guarder = record { line = entry 2 (item 0 0); snap = 0 ∷ 0 ∷ []; ops = Guard 0 1 ∷ Add 0 0 1 false 60 ∷ [] }

of_commits : (P : Published → Type 0) → P writer → P guarder → (c : Published) → Listed c commits → P c
of_commits P a b c l = All-listed P commits c (a, (b, tt)) l

of_pairs : (P : Published → Published → Type 0) → P writer writer → P writer guarder → P guarder writer
    → P guarder guarder
    → (c d : Published) → Listed c commits → Listed d commits → P c d
of_pairs P ww wg gw gg c d l k =
    of_commits (λ c. P c d) (of_commits (P writer) ww wg d k) (of_commits (P guarder) gw gg d k) c l

outside : (snap : List ℕ) → Listed snap (snaps_by told) → (c : Published) → Listed c commits
    → IsTrue (contains snap (stamp_of c.line)) → false ≡ true
outside snap l c k =
    of_snaps (λ snap. IsTrue (contains snap (stamp_of c.line)) → false ≡ true)
    (of_commits (λ c. IsTrue (contains (0 ∷ 0 ∷ []) (stamp_of c.line)) → false ≡ true) (λ h. h) (λ h. h) c k) snap l

-- the guarding commit has place 0
abbrev place : Stamp → ℕ
place s = if s.thread == 1 then 1 else 0

consistent : AreConsistentFor setting logs
consistent = record {
  counts = (
    record { reads = refl; locks = refl; writes = refl; snaps = refl },
    (record { reads = refl; locks = refl; writes = refl; snaps = refl }, tt),
  );
  calls = record {
    one_log_each = refl;
    order = order;
    published = of_commits (MayBePublished (1 ∷ []) (rows_of setting.rows) commits)
        (record { own = refl; reads = item 1 60 ∷ []; guards = []; evaluates = refl; writes = omega arith })
        (record {
          own = refl;
          reads = item 1 60 ∷ item 0 60 ∷ [];
          guards = key_at 0 1 ∷ [];
          evaluates = refl;
          writes = omega arith;
        });
    first_wins = λ c d l k apart share.
        of_pairs
        (λ c d. (stamp_of c.line ≡ stamp_of d.line → ⊥) → IsTrue (share_key c d)
        → IsTrue (contains d.snap (stamp_of c.line)) ⊎ IsTrue (contains c.snap (stamp_of d.line)))
        (λ n s. absurd (n refl)) (λ n s. absurd (false≢true s)) (λ n s. absurd (false≢true s)) (λ n s. absurd (n refl))
        c d l k apart share;
    guards = λ snap l c d m k over inside.
        absurd (false≢true (outside snap l d k inside));
    no_circle = record {
      place = place;
      below = of_commits (λ c. place (stamp_of c.line) < 2) (omega arith) (omega arith);
      rises = of_pairs (λ c d. IsTrue (is_overtaking c d) → place (stamp_of c.line) < place (stamp_of d.line))
          (λ h. absurd (false≢true h)) (λ h. absurd (false≢true h)) (λ h. omega arith) (λ h. absurd (false≢true h));
    };
    sound = (
      record {
        sees = (((omega arith, (omega arith, (omega arith, tt))), tt), tt);
        answers = (((item 1 0 ∷ [], [], refl, (inl refl, refl)), (refl, tt)), tt);
        causes = (tt, tt);
      },
      (
        record {
          sees = (((omega arith, (omega arith, (omega arith, tt))), tt), tt);
          answers = (((item 0 0 ∷ [], key_at 0 1 ∷ [], refl, (inr (inl refl), refl)), (refl, (refl, tt))), tt);
          causes = (tt, tt);
        },
        tt,
      ),
    );
  };
  jobs_in_range =
      of_commits (λ c. (1 ≤ c.line.txn) × (c.line.txn ≤ 2)) (omega arith, omega arith) (omega arith, omega arith);
  policies = (
    record { parts = attempted _ ∷ []; read = refl; settled = refl; fulls = λ no_tidy. absurd cc },
    (record { parts = attempted _ ∷ []; read = refl; settled = refl; fulls = λ no_tidy. absurd cc }, tt),
  );
}

arranged : IsArranged 0 told history
arranged = record {
  same = IsPermutation-append_comm (entry 1 (item 1 0) ∷ []) (entry 2 (item 0 0) ∷ []);
  depth = place;
  depths = of_commits (λ c. place (stamp_of c.line)
      ≡ above_all place (filter (λ d. guards_beside (level_of 0 told) d c) commits)) refl refl;
  ordered = ((inr (refl, inl (omega arith)), tt), (tt, tt));
}

is_audit : IsAudit (state_at (rows_of setting.rows) history) told audit
is_audit = record {
  state = record { ordered = ((refl, tt), (tt, tt)); same = λ key. grind (arith, nat_tests) };
  lines = (
    record { absent = λ none. absurd cc; locked = λ yes'. absurd cc },
    (record { absent = λ none. absurd cc; locked = λ yes'. absurd cc }, tt),
  );
}

run : IsRun setting (record { history = history; logs = logs; audit = audit })
run = arranged_is_run setting logs history audit consistent arranged is_audit

other_guards : {reads : List Item} {guards : List Key}
    → Done (item 1 60 ∷ item 0 60 ∷ []) (item 0 0 ∷ []) (key_at 0 1 ∷ []) ≡ Done reads (item 0 0 ∷ []) guards
    → guards ≡ key_at 0 1 ∷ []
other_guards e = cc

-- in the order of the workers they are none: the guarded key is written before the guard
other_order : IsRun setting (record {
  history = entry 1 (item 1 0) ∷ entry 2 (item 0 0) ∷ [];
  logs = logs;
  audit = audit;
}) → ⊥
other_order h =
    let second = h.legal.1.0 in
    let written : IsTrue (none_writes (keys_of (item 0 0 ∷ []) (key_at 0 1 ∷ [])) (entry 1 (item 1 0) ∷ [])) =
    subst (λ gs. IsTrue (none_writes (keys_of (item 0 0 ∷ []) gs) (entry 1 (item 1 0) ∷ [])))
    (other_guards second.evaluates) second.first_wins in
    false≢true written
