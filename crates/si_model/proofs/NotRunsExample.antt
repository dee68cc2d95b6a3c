-- Worked rows with one number changed are no runs.
use Rattle.std.proofs.Common.{◌≡◌, ◌≢◌, ℕ, true, List, [], ◌∷◌, refl, ap, sym, subst, arith, Some, None, inl, inr}
use Rattle.std.specs.List.{flat_map}
use Rattle.std.proofs.lemmas.Bool.{false≢true}
use Rattle.si_model.specs.declared.row.Key.{Key}
use Rattle.si_model.specs.declared.row.Item.{Item}
use Rattle.si_model.specs.declared.op.Op.TheVariants.{Add}
use Rattle.si_model.specs.declared.evaluated.Evaluated.TheVariants.{Done}
use Rattle.si_model.specs.declared.log.Outcome.TheVariants.{Commit, Newer, ReadOnly, Again, TooOld}
use Rattle.si_model.specs.declared.log.Event.TheVariants.{NoRoom}
use Rattle.si_model.specs.Rows.{key_at}
use Rattle.si_model.specs.History.{keys_of}
use Rattle.si_model.specs.Tells.{Tell}
use Rattle.si_model.specs.Tries.{Part, tells_in, settles, owes_all}
use Rattle.si_model.specs.Tries.Part.{attempted, tidied, stopped}
use Rattle.si_model.specs.Tries.Stage.{going}
use Rattle.si_model.specs.Run.{IsRun}
use Rattle.si_model.proofs.ExampleWords.{item, lock, tried, moved, collected, entry, log, audited, marked}
use Rattle.si_model.proofs.FirstCommitterWinsExample as first
use Rattle.si_model.proofs.SnapshotAgainExample as again
use Rattle.si_model.proofs.ReaderTooOldExample as old
use Rattle.si_model.proofs.TransferExample as transfer

values_differ : (a b : ℕ) → a ≢ b → Some (a ∷ []) ≡ Some (b ∷ []) → ⊥
values_differ a b differ same = differ (cc)

reads_differ : (a b : ℕ) → a ≢ b → (ws vs : List Item) (gs hs : List Key)
    → Done (item 0 0 a ∷ []) ws gs ≡ Done (item 0 0 b ∷ []) vs hs → ⊥
reads_differ a b differ ws vs gs hs same = let items : item 0 0 a ≡ item 0 0 b =
    cc in values_differ a b differ (ap (λ (i : Item). i.value) items)

nothing_locked : (reads ws : List Item) (gs hs : List Key) → Done reads (item 0 0 105 ∷ []) gs ≡ Done reads ws hs
    → [] ≡ keys_of ws hs → ⊥
nothing_locked reads ws gs hs evaluates locked = let writes : item 0 0 105 ∷ [] ≡ ws =
    cc in first_key hs (subst (λ is. [] ≡ keys_of is hs) (sym writes) locked)
  where
    first_key : (hs : List Key) → [] ≡ key_at 0 0 ∷ hs → ⊥
    first_key hs same = absurd cc

-- ---- first committer wins

-- 106 read where the prefix has 105
read_changed : IsRun first.setting (record first.report {
  logs =
      log (tried 1 1 (Some 0) 1 1 (Commit 1) ∷ []) (item 0 0 100 ∷ []) (lock 0 0 0 0 ∷ [])
      ∷ log (tried 2 1 (Some 0) 1 0 (Newer (lock 0 0 1 1)) ∷ tried 2 2 (Some 1) 1 1 (Commit 1) ∷ []) (item 0 0 100
      ∷ item 0 0 106 ∷ []) (lock 0 0 1 1 ∷ [])
      ∷ [];
}) → ⊥
read_changed run = reads_differ 105 106 (omega arith) _ _ _ _ run.workers.1.0.answers.1.0.0.2

-- the entries exchanged
order_changed : IsRun first.setting (record first.report {
  history = entry 2 1 1 2 (item 0 0 112 ∷ [])
      ∷ entry 1 1 0 1 (item 0 0 105 ∷ []) ∷ [];
}) → ⊥
order_changed run = omega (arith, run.legal.0.prefix)

-- a commit without its lock
lock_missing : IsRun first.setting (record first.report {
  logs =
      log (tried 1 1 (Some 0) 1 0 (Commit 1) ∷ []) (item 0 0 100 ∷ []) []
      ∷ log (tried 2 1 (Some 0) 1 0 (Newer (lock 0 0 1 1)) ∷ tried 2 2 (Some 1) 1 1 (Commit 1) ∷ []) (item 0 0 100
      ∷ item 0 0 105 ∷ []) (lock 0 0 1 1 ∷ [])
      ∷ [];
}) → ⊥
lock_missing run = nothing_locked _ _ _ _ run.workers.0.answers.0.0.2 run.workers.0.answers.0.0.3.1

-- the newer version that was met is no commit
newer_changed : IsRun first.setting (record first.report {
  logs =
      log (tried 1 1 (Some 0) 1 1 (Commit 1) ∷ []) (item 0 0 100 ∷ []) (lock 0 0 0 0 ∷ [])
      ∷ log (tried 2 1 (Some 0) 1 0 (Newer (lock 0 0 1 2)) ∷ tried 2 2 (Some 1) 1 1 (Commit 1) ∷ []) (item 0 0 100
      ∷ item 0 0 105 ∷ []) (lock 0 0 1 1 ∷ [])
      ∷ [];
}) → ⊥
newer_changed run = elim run.workers.1.0.causes.0.2 [
  | inl written ↦ false≢true written
  | inr unfinished ↦ false≢true unfinished.0
]

-- no try is left to the second worker, though the first of its two was in vain
abbrev newer_try : Tell
newer_try = record {
  event = tried 2 1 (Some 0) 1 0 (Newer (lock 0 0 1 1));
  ops = Add 0 0 1 true 7 ∷ [];
  reads = item 0 0 100 ∷ [];
  locks = [];
  writes = [];
  snap = [];
}

one_try_owed : (ps : List Part) → flat_map tells_in ps ≡ []
    → settles first.setting.policy (record { keys = []; txns = 2 ∷ []; tries = 1; stage = going }) ps ≡ true → ⊥
one_try_owed [] read settled = false≢true settled
one_try_owed (attempted t ∷ ps) read settled = absurd cc
one_try_owed (tidied key ts ∷ ps) read settled = false≢true settled
one_try_owed (stopped t ∷ ps) read settled = absurd cc

both_tries_owed : (ps : List Part) → flat_map tells_in ps ≡ newer_try ∷ []
    → settles first.setting.policy (owes_all (2 ∷ [])) ps ≡ true → ⊥
both_tries_owed [] read settled = absurd cc
both_tries_owed (attempted t ∷ ps) read settled =
    let same : t ≡ newer_try = cc in
    let rest : flat_map tells_in ps ≡ [] = cc in
    one_try_owed ps rest (subst (λ (u : Tell). settles first.setting.policy (owes_all (2 ∷ [])) (attempted u ∷ ps)
    ≡ true) same settled)
both_tries_owed (tidied key ts ∷ ps) read settled = false≢true settled
both_tries_owed (stopped t ∷ ps) read settled =
    let same : t ≡ newer_try = cc in
    false≢true (subst (λ (u : Tell). settles first.setting.policy (owes_all (2 ∷ [])) (stopped u ∷ ps) ≡ true) same
    settled)

try_missing : IsRun first.setting (record {
  history = entry 1 1 0 1 (item 0 0 105 ∷ []) ∷ [];
  logs =
      log (tried 1 1 (Some 0) 1 1 (Commit 1) ∷ []) (item 0 0 100 ∷ []) (lock 0 0 0 0 ∷ [])
      ∷ log (tried 2 1 (Some 0) 1 0 (Newer (lock 0 0 1 1)) ∷ []) (item 0 0 100 ∷ []) []
      ∷ [];
  audit = audited 0 0 105 ∷ [];
}) → ⊥
try_missing run =
    both_tries_owed run.workers.1.0.follows.parts run.workers.1.0.follows.read run.workers.1.0.follows.settled

-- ---- snapshot again

-- the second try begins before what the first was told
prefix_changed : IsRun again.setting (record again.report {
  logs =
      log (tried 1 1 None 0 0 (Again 2 0 1) ∷ tried 1 2 (Some 0) 1 0 ReadOnly ∷ []) (item 0 0 100 ∷ []) []
      ∷ log (tried 2 1 (Some 0) 1 1 (Commit 1) ∷ []) (item 0 0 100 ∷ []) (lock 0 0 0 0 ∷ [])
      ∷ [];
}) → ⊥
prefix_changed run = omega (arith, run.workers.0.sees.1.0.0.1.1.0)

-- the second pass found a number that is no commit
second_changed : IsRun again.setting (record again.report {
  logs =
      log (tried 1 1 None 0 0 (Again 2 0 2) ∷ tried 1 2 (Some 1) 1 0 ReadOnly ∷ []) (item 0 0 101 ∷ []) []
      ∷ log (tried 2 1 (Some 0) 1 1 (Commit 1) ∷ []) (item 0 0 100 ∷ []) (lock 0 0 0 0 ∷ [])
      ∷ [];
}) → ⊥
second_changed run = false≢true run.workers.0.causes.0.2

-- ---- reader is too old

-- no collect has this horizon
horizon_changed : IsRun old.setting (record old.report {
  logs =
      log
      (
      tried 1 1 (Some 0) 1 1 (Commit 1)
      ∷ moved 0 0 0 0 0
      ∷ tried 2 1 (Some 1) 1 1 (Commit 2)
      ∷ NoRoom 0
      ∷ collected 0 2 (2 ∷ 0 ∷ [])
      ∷ moved 0 0 0 1 1
      ∷ []
      )
      (item 0 0 5 ∷ item 0 0 6 ∷ []) (lock 0 0 0 0 ∷ lock 0 0 1 1 ∷ [])
      ∷ log (tried 3 1 (Some 0) 0 0 (TooOld 1 0 3) ∷ []) [] []
      ∷ [];
}) → ⊥
horizon_changed run = false≢true run.workers.1.0.causes.0.3

-- ---- transfer

-- a row that the history doesn't leave
audit_changed : IsRun transfer.setting (record transfer.report { audit = audited 0 0 91 ∷ audited 0 1 10 ∷ [] }) → ⊥
audit_changed run = values_differ 91 90 (omega arith) (run.audit.state.same (key_at 0 0))

-- a mark without a cut
mark_changed : IsRun transfer.setting (record transfer.report { audit = marked 0 0 90 ∷ audited 0 1 10 ∷ [] }) → ⊥
mark_changed run = false≢true (run.audit.lines.0.locked refl)
