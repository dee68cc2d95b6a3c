-- Words that make a commit last as long as it can: each record is free, and all goes well.
use Rattle.std.proofs.Common.{◌≡◌, ℕ, zero, suc, ◌+◌, ◌-◌, ◌*◌, ◌≤◌, List, [], ◌∷◌, ◌++◌, length, refl, arith}
use Rattle.std.proofs.Common.{Bool, true, false, is_some, Option, Some, None}
use Rattle.std.proofs.lemmas.Bool.{eq-eqb}
use Rattle.std.proofs.lemmas.Bool.Decides.{nat_tests}
use Rattle.std.specs.Prelude.{if◌then◌else◌, ◌==◌}
use Rattle.nam_verbs.specs.declared.now.Now.TheVariants.{At, Over}
use Rattle.nam_catalog.specs.declared.form.Form.{Form}
use Rattle.nam_catalog.specs.declared.form.Form.TheVariants.{Narrow, Wide, Held}
use Rattle.nam_catalog.specs.declared.shape.Shape.{Shape}
use Rattle.nam_header.specs.Stamp.{is_locked, is_moved}
use Rattle.nam_calls.specs.declared.ring.CopyPoint.TheVariants.{CopyMark, CopyEnding, CopyWord, CopyHead}
use Rattle.nam_calls.specs.declared.record.InstallPoint.TheVariants.{InstallWord, InstallCount, InstallHead}
use Rattle.nam_calls.specs.Record.{install_begin}
use Rattle.nam_calls.proofs.FallsTests.{or_last, one_more}
use Rattle.nam_protocol.specs.declared.txn.TxnState.{TxnState}
use Rattle.nam_protocol.specs.declared.txn.TxnAnswer.TheVariants.{Committed}
use Rattle.nam_protocol.specs.declared.txn.CommitPoint.{CommitPoint}
use Rattle.nam_protocol.specs.declared.txn.CommitPoint.TheVariants.{Saving, Copying, Installing}
use Rattle.nam_protocol.specs.declared.txn.CommitPoint.TheVariants.{Publishing, Freeing}
use Rattle.nam_protocol.specs.declared.txn.CommitPoint.TheVariants.{Ending}
use Rattle.nam_protocol.specs.declared.txn.TxnPoint.TheVariants.{Committing}
use Rattle.nam_protocol.specs.Txn.{over}
use Rattle.nam_protocol.specs.Commit.{record_place, value_at, tells_intent, go}
use Rattle.nam_protocol.specs.Commit.{on_words, on_copy, on_install, ended, next_free, commit_after}
use Rattle.nam_protocol.specs.Bound.{publish_most, clear_left}
use Rattle.nam_calls.specs.Holds.{IsWord}
use Rattle.nam_longest.proofs.LastsMachines.{on_true, on_false}
use Rattle.nam_longest.proofs.LastsTxn.{TxnLasts, at_lasts, over_lasts}

pub unlocked_0 : (form : Form) → is_locked form 0 ≡ false
unlocked_0 Narrow = refl
unlocked_0 Wide = refl
unlocked_0 Held = refl

pub moved_4 : (form : Form) → is_moved form 4 ≡ true
moved_4 Narrow = refl
moved_4 Wide = refl
moved_4 Held = refl

module _ (shape : Shape) where
  -- a word before what follows
  pub then_lasts : (state : TxnState) (place : CommitPoint) (found n m : ℕ) → IsWord found → m ≡ n + 1
      → TxnLasts shape (commit_after state place found) n → TxnLasts shape (go state place) m
  then_lasts state place found n m is e h = at_lasts shape state (Committing place) found n m is e h

  module _ (state : TxnState) where
    abbrev writes : ℕ
    writes = length state.writes

    abbrev records : ℕ
    records = length state.records

    -- 1. After the records

    ended_lasts : TxnLasts shape (ended state) (clear_left state)
    ended_lasts = finish (tells_intent state)
      where
        finish : (b : Bool) → TxnLasts shape (if b then go state Ending else over state (Committed (state.last + 1)))
            (if b then 1 else 0)
        finish true =
            then_lasts state Ending 0 0 1 (omega arith) refl (over_lasts shape state (Committed (state.last + 1)))
        finish false = over_lasts shape state (Committed (state.last + 1))

    frees_last : (rest nth m : ℕ) → nth + rest ≡ records → m ≡ rest + clear_left state
        → TxnLasts shape (next_free state nth) m
    frees_last zero nth m e f =
        let same : m ≡ clear_left state = omega arith in
        on_true (λ step. TxnLasts shape step m) (nth == records) (ended state) (go state (Freeing nth))
        (eq-eqb nth records (omega arith)) (rw same ended_lasts)
    frees_last (suc rest) nth m e f =
        on_false (λ step. TxnLasts shape step m) (nth == records) (ended state) (go state (Freeing nth))
        (grind (arith, nat_tests))
        (then_lasts state (Freeing nth) 0 (rest + clear_left state) m (omega arith) (omega arith)
        (frees_last rest (nth + 1) (rest + clear_left state) (omega arith) refl))

    pub publish_lasts : writes ≤ records → TxnLasts shape (go state Publishing) (publish_most state + clear_left state)
    publish_lasts l =
        then_lasts state Publishing 0 (records - writes + clear_left state) _ (omega arith) (omega arith)
        (frees_last (records - writes) writes _ (omega arith) refl)

    -- 2. A record: its words, the copy, and the new version

    module _ (nth : ℕ) (some : 1 ≤ (record_place state nth).width) where
      abbrev width : ℕ
      width = (record_place state nth).width

      words_saved : (rest : ℕ) (got : List ℕ) (n m : ℕ) → length got + suc rest ≡ width → m ≡ n + suc rest
          → ((old : List ℕ) → TxnLasts shape (go state (Copying nth old CopyMark)) n)
          → TxnLasts shape (go state (Saving nth got)) m
      words_saved zero got n m e f next =
          then_lasts state (Saving nth got) 0 n m (omega arith) (omega arith)
          (one_more (λ now. TxnLasts shape (on_words state nth now) n) width got 0 At Over (omega arith)
          (λ a b. absurd (omega arith)) (λ a b. next (got ++ 0 ∷ [])))
      words_saved (suc rest) got n m e f next =
          then_lasts state (Saving nth got) 0 (n + suc rest) m (omega arith) (omega arith)
          (one_more (λ now. TxnLasts shape (on_words state nth now) (n + suc rest)) width got 0 At Over (omega arith)
          (λ a b. words_saved rest (got ++ 0 ∷ []) n (n + suc rest) (omega arith) refl next)
          (λ a b. absurd (omega arith)))

      words_copied : (old : List ℕ) (rest word n m : ℕ) → word + suc rest ≡ width → m ≡ n + suc rest
          → TxnLasts shape (go state (Copying nth old CopyHead)) n
          → TxnLasts shape (go state (Copying nth old (CopyWord word))) m
      words_copied old zero word n m e f next =
          then_lasts state (Copying nth old (CopyWord word)) 0 n m (omega arith) (omega arith)
          (or_last (λ now. TxnLasts shape (on_copy state nth old now) n) width word (At CopyHead)
          (At (CopyWord (word + 1))) (omega arith) (λ t. next) (λ t. absurd (omega arith)))
      words_copied old (suc rest) word n m e f next =
          then_lasts state (Copying nth old (CopyWord word)) 0 (n + suc rest) m (omega arith) (omega arith)
          (or_last (λ now. TxnLasts shape (on_copy state nth old now) (n + suc rest)) width word (At CopyHead)
          (At (CopyWord (word + 1))) (omega arith) (λ t. absurd (omega arith))
          (λ t. words_copied old rest (word + 1) n (n + suc rest) (omega arith) refl next))

      copied : (old : List ℕ) (n m : ℕ) → m ≡ n + (width + 3)
          → TxnLasts shape (go state (Installing nth (install_begin (value_at state nth)))) n
          → TxnLasts shape (go state (Copying nth old CopyMark)) m
      copied old n m e next =
          then_lasts state (Copying nth old CopyMark) 0 (n + (width + 2)) m (omega arith) (omega arith)
          (then_lasts state (Copying nth old CopyEnding) 0 (n + (width + 1)) _ (omega arith) (omega arith)
          (words_copied old (width - 1) 0 (n + 1) _ (omega arith) (omega arith)
          (then_lasts state (Copying nth old CopyHead) 0 n _ (omega arith) refl next)))

      head_installed : (n m : ℕ) → m ≡ n + 2 → TxnLasts shape (on_install state nth (Over tt)) n
          → TxnLasts shape (go state (Installing nth InstallCount)) m
      head_installed n m e next =
          then_lasts state (Installing nth InstallCount) 0 (n + 1) m (omega arith) (omega arith)
          (then_lasts state (Installing nth InstallHead) 0 n (n + 1) (omega arith) refl next)

      words_installed : (rest word n m : ℕ) → word + suc rest ≡ width → m ≡ n + suc rest
          → TxnLasts shape (go state (Installing nth InstallCount)) n
          → TxnLasts shape (go state (Installing nth (InstallWord word))) m
      words_installed zero word n m e f next =
          then_lasts state (Installing nth (InstallWord word)) 0 n m (omega arith) (omega arith)
          (or_last (λ now. TxnLasts shape (on_install state nth now) n) width word (At InstallCount)
          (At (InstallWord (word + 1))) (omega arith) (λ t. next) (λ t. absurd (omega arith)))
      words_installed (suc rest) word n m e f next =
          then_lasts state (Installing nth (InstallWord word)) 0 (n + suc rest) m (omega arith) (omega arith)
          (or_last (λ now. TxnLasts shape (on_install state nth now) (n + suc rest)) width word (At InstallCount)
          (At (InstallWord (word + 1))) (omega arith) (λ t. absurd (omega arith))
          (λ t. words_installed rest (word + 1) n (n + suc rest) (omega arith) refl next))

      installed : (value : Option (List ℕ)) (n m : ℕ) → m ≡ n + ((if is_some value then width else 0) + 2)
          → TxnLasts shape (on_install state nth (Over tt)) n
          → TxnLasts shape (go state (Installing nth (install_begin value))) m
      installed None n m e next = head_installed n m (omega arith) next
      installed (Some value) n m e next =
          words_installed (width - 1) 0 (n + 2) m (omega arith) (omega arith) (head_installed n (n + 2) refl next)

      pub record_lasts : (n m : ℕ) → m ≡ n + ((if is_some (value_at state nth) then width else 0) + (2 * width + 5))
          → TxnLasts shape (on_install state nth (Over tt)) n → TxnLasts shape (go state (Saving nth [])) m
      record_lasts n m e next =
          let last = (if is_some (value_at state nth) then width else 0) + 2 in
          words_saved (width - 1) [] (n + last + (width + 3)) m (omega arith) (omega arith)
          (λ old. copied old (n + last) (n + last + (width + 3)) refl
          (installed (value_at state nth) n (n + last) refl next))
