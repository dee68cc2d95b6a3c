-- A worker of a serial run follows the retry policy: each transaction is tried once, and after a commit each written
-- key is tidied.
use Rattle.std.proofs.Common.{◌≡◌, ℕ, ◌+◌, Bool, true, List, [], ◌∷◌, ◌++◌, map, refl, ap, ◌∙◌, Some, None}
use Rattle.std.specs.Prelude.{◌||◌, false, if◌then◌else◌}
use Rattle.std.specs.List.{flat_map}
use Rattle.std.proofs.lemmas.Bool.{eq-eqb}
use Rattle.si_model.specs.declared.row.Key.{Key}
use Rattle.si_model.specs.declared.op.Op.{Op}
use Rattle.si_model.specs.declared.op.Policy.{Policy}
use Rattle.si_model.specs.declared.log.Outcome.{Outcome}
use Rattle.si_model.specs.declared.log.Outcome.TheVariants.{Commit}
use Rattle.si_model.specs.declared.report.CommitLine.{CommitLine}
use Rattle.si_model.specs.Evaluation.{written_keys}
use Rattle.si_model.specs.History.{count_of}
use Rattle.si_model.specs.View.{View}
use Rattle.si_model.specs.Setting.{Setting}
use Rattle.si_model.specs.Tries.{Part, tells_in, settles, next_owed, outcome_owed, Stage, goes_on, is_short, FullEvent}
use Rattle.si_model.specs.Tries.{FullsFollow}
use Rattle.si_model.specs.Tries.Part.{attempted, tidied}
use Rattle.si_model.specs.Tries.Stage.{going, committed}
use Rattle.si_model.proofs.EvaluationLemmas.{same_key-refl}
use Rattle.namdb.specs.Serial.{ops_of, evaluated_after, outcome_after, tell_after, entry_after, tells_after}
use Rattle.namdb.proofs.SerialLemmas.{by_outcome, told}

or_true : (b : Bool) → (b || true) ≡ true
or_true true = refl
or_true false = refl

-- tidyings of keys, none of which lists an event
abbrev tidyings : List Key → List Part
tidyings keys = map (λ key. tidied key []) keys

-- the keys that are tidied after an attempt at the operations that ended so
abbrev keys_tidied : Policy → List Op → Outcome → List Key
keys_tidied policy ops (Commit number) = if policy.tidy then written_keys ops else []
keys_tidied policy ops outcome = []

tidyings_read : (keys : List Key) (ps : List Part) → flat_map tells_in (tidyings keys ++ ps) ≡ flat_map tells_in ps
tidyings_read [] ps = refl
tidyings_read (key ∷ keys) ps = tidyings_read keys ps

-- tidyings of the owed keys settle what is owed before the next transactions
tidyings_settle : (policy : Policy) (keys : List Key) (txns : List ℕ) (ps : List Part) (stage : Stage)
    → goes_on stage ≡ true
    → ((next : Stage) → goes_on next ≡ true → settles policy (next_owed [] txns next) ps ≡ true)
    → settles policy (next_owed keys txns stage) (tidyings keys ++ ps) ≡ true
tidyings_settle policy [] txns ps stage goes rest = rest stage goes
tidyings_settle policy (key ∷ keys) txns ps stage goes rest =
    rw (goes, same_key-refl key) (tidyings_settle policy keys txns ps going refl rest)

tidyings_follow : (v : View) (j : ℕ) (done : List Part) (keys : List Key) (ps : List Part)
    → ((before : List Part) → FullsFollow v j before ps) → FullsFollow v j done (tidyings keys ++ ps)
tidyings_follow v j done [] ps rest = rest done
tidyings_follow v j done (key ∷ keys) ps rest = (tt, tidyings_follow v j (done ++ tidied key [] ∷ []) keys ps rest)

module _ (s : Setting) (j : ℕ) where
  -- the parts of what worker j tells of its transactions, one after another
  abbrev pub parts_after : List CommitLine → List ℕ → List Part
  parts_after history [] = []
  parts_after history (x ∷ xs) =
      attempted (tell_after s j history x) ∷ tidyings (keys_tidied s.policy (ops_of s x) (outcome_after s j history x))
      ++ parts_after (history ++ entry_after s j history x) xs

  pub parts_read : (history : List CommitLine) (xs : List ℕ)
      → flat_map tells_in (parts_after history xs) ≡ tells_after s j history xs
  parts_read history [] = refl
  parts_read history (x ∷ xs) =
      let more = parts_after (history ++ entry_after s j history x) xs in
      ap (λ ts. tell_after s j history x ∷ ts)
      (tidyings_read (keys_tidied s.policy (ops_of s x) (outcome_after s j history x)) more
      ∙ parts_read (history ++ entry_after s j history x) xs)

  -- nothing is owed at the end
  pub parts_settle : (history : List CommitLine) (xs : List ℕ) (stage : Stage) → goes_on stage ≡ true
      → settles s.policy (next_owed [] xs stage) (parts_after history xs) ≡ true
  parts_settle history [] stage goes = or_true (is_short stage)
  parts_settle history (x ∷ xs) stage goes =
      let more = parts_after (history ++ entry_after s j history x) xs in
      let next = parts_settle (history ++ entry_after s j history x) xs in
      rw (goes, eq-eqb x x refl)
      (by_outcome (λ e o. elim (outcome_owed s.policy (told s j history x e o) x xs 1 o) [
        | None ↦ false
        | Some owed ↦ settles s.policy owed (tidyings (keys_tidied s.policy (ops_of s x) o) ++ more)
      ] ≡ true)
      s.greatest (s.start + count_of j history) (evaluated_after s j history x)
      (λ op reads. next going refl)
      (λ reads guards. next going refl)
      (λ reads ws w guards l. next going refl)
      (λ reads ws w guards. tidyings_settle s.policy (if s.policy.tidy then written_keys (ops_of s x) else []) xs more
      committed refl next))

  -- no ring is ever full
  pub parts_follow : (v : View) (done : List Part) (history : List CommitLine) (xs : List ℕ)
      → FullsFollow v j done (parts_after history xs)
  parts_follow v done history [] = tt
  parts_follow v done history (x ∷ xs) =
      let t = tell_after s j history x in (
        by_outcome (λ e o. FullEvent v j done (told s j history x e o) (told s j history x e o).event) s.greatest
            (s.start + count_of j history) (evaluated_after s j history x)
            (λ op reads. tt)
            (λ reads guards. tt)
            (λ reads ws w guards l. tt)
            (λ reads ws w guards. tt),
        tidyings_follow v j (done ++ attempted t ∷ []) (keys_tidied s.policy (ops_of s x) (outcome_after s j history x))
            (parts_after (history ++ entry_after s j history x) xs)
            (λ before. parts_follow v before (history ++ entry_after s j history x) xs),
      )
