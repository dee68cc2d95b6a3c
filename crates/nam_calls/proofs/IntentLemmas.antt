-- The words of an intent are read as they were written.
use Rattle.std.specs.Prelude.{if◌then◌else◌, nat_le}
use Rattle.std.proofs.Common.{◌≡◌, ℕ, ◌+◌, ◌*◌, ◌/◌, ◌%◌, ◌==◌, ◌≤◌, true, Option, Some, None, refl, subst, arith}
use Rattle.std.proofs.lemmas.Bool.Decides.{nat_tests}
use Rattle.std.proofs.lemmas.Bool.{eqb-true}
use Rattle.std.proofs.lemmas.Option.{none-some, same_Some}
use Rattle.nam_verbs.proofs.TestLemmas.{by_test}
use Rattle.nam_catalog.specs.declared.bounds.TheConstants.{MOST_KEYS}
use Rattle.nam_calls.specs.declared.intent.IntentPhase.{IntentPhase}
use Rattle.nam_calls.specs.declared.intent.IntentPhase.TheVariants.{Listed, Decided}
use Rattle.nam_calls.specs.declared.intent.IntentState.{IntentState}
use Rattle.nam_calls.specs.declared.intent.IntentKind.{IntentKind}
use Rattle.nam_calls.specs.declared.intent.IntentKind.TheVariants.{Value, Deletion, Guard}
use Rattle.nam_calls.specs.Intent.{phase_word, state_word, state_of_records, state_in, kind_word, kind_in}
use Rattle.nam_calls.specs.Intent.{IntentWordsLaw, StateReadLaw, StateWrittenLaw, KindReadLaw, KindWrittenLaw}

pub words_fill : IntentWordsLaw
words_fill = refl

-- 1. The state

pub state_read : StateReadLaw
state_read records Listed most =
    let rest : (4 * records + 1) % 4 ≡ 1 = omega arith in
    let quotient : (4 * records + 1) / 4 ≡ records = omega arith in
    let few : nat_le records MOST_KEYS ≡ true = grind (arith, nat_tests) in
    rw (rest, quotient, few) refl
state_read records Decided most =
    let rest : (4 * records + 2) % 4 ≡ 2 = omega arith in
    let quotient : (4 * records + 2) / 4 ≡ records = omega arith in
    let few : nat_le records MOST_KEYS ≡ true = grind (arith, nat_tests) in
    rw (rest, quotient, few) refl

module _ (word : ℕ) (state : IntentState) where
  abbrev IsWritten : IntentState → Type 0
  IsWritten s = (word ≡ state_word s.records s.phase) × (s.records ≤ MOST_KEYS)

  abbrev Reads : Option IntentState → Type 0
  Reads found = found ≡ Some state → IsWritten state

  counted : (records : ℕ) (phase : IntentPhase) → word ≡ state_word records phase
      → Reads (state_of_records records phase)
  counted records phase is =
      let this : IntentState = record { records = records; phase = phase } in
      by_test Reads (nat_le records MOST_KEYS) (Some this) None
      (λ few e. subst IsWritten (same_Some this state e) (is, grind (arith, nat_tests)))
      (λ many e. absurd (none-some state e))

  written : Reads (state_in word)
  written =
      by_test Reads (word % 4 == phase_word Listed) (state_of_records (word / 4) Listed)
      (if word % 4 == phase_word Decided then state_of_records (word / 4) Decided else None)
      (λ test. counted (word / 4) Listed (grind (arith, nat_tests)))
      (λ other. by_test Reads (word % 4 == phase_word Decided) (state_of_records (word / 4) Decided) None
      (λ test. counted (word / 4) Decided (grind (arith, nat_tests)))
      (λ none e. absurd (none-some state e)))

pub state_written : StateWrittenLaw
state_written = written

-- 2. The kind

pub kind_read : KindReadLaw
kind_read Value = refl
kind_read Deletion = refl
kind_read Guard = refl

module _ (word : ℕ) (kind : IntentKind) where
  abbrev ReadsKind : Option IntentKind → Type 0
  ReadsKind found = found ≡ Some kind → word ≡ kind_word kind

  told : (this : IntentKind) → word ≡ kind_word this → ReadsKind (Some this)
  told this is e = subst (λ k. word ≡ kind_word k) (same_Some this kind e) is

  kind_is : ReadsKind (kind_in word)
  kind_is =
      by_test ReadsKind (word == kind_word Value) (Some Value)
      (if word == kind_word Deletion then Some Deletion
      else if word == kind_word Guard then Some Guard
      else None)
      (λ test. told Value (eqb-true word (kind_word Value) test))
      (λ other. by_test ReadsKind (word == kind_word Deletion) (Some Deletion)
      (if word == kind_word Guard then Some Guard else None)
      (λ test. told Deletion (eqb-true word (kind_word Deletion) test))
      (λ others. by_test ReadsKind (word == kind_word Guard) (Some Guard) None
      (λ test. told Guard (eqb-true word (kind_word Guard) test)) (λ none e. absurd (none-some kind e))))

pub kind_written : KindWrittenLaw
kind_written = kind_is
