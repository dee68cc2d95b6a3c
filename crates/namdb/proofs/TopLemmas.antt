-- What follows from how a call ended, for each status.
use Rattle.std.proofs.Common.{◌≡◌, ◌≤◌, ℕ, List, [], length, ◌⊎◌, Option, Some, None, String, refl, sym, ◌∙◌, ap, subst}
use Rattle.std.proofs.Common.{arith, append-nil, inl, inr}
use Rattle.std.specs.declared.alloc.Global.{Global}
use Rattle.std.specs.Io.KnownBytes.{Appends, Consumes}
use Rattle.nam_io.specs.Faults.{Rose}
use Rattle.nam_io.specs.Fronts.{AppendsFront}
use Rattle.namdb.specs.declared.status.Status.{Status}
use Rattle.namdb.specs.declared.status.Status.TheVariants.{Done, Usage, BadScript, ReadFault, WriteFault, Memory}
use Rattle.namdb.specs.declared.status.Status.TheVariants.{TooLong}
use Rattle.namdb.specs.Status.{line_of}
use Rattle.std.specs.Prelude.{◌<◌, IfSome, Result, Ok, Err, codes, slice_get, string_bytes, false}
use Rattle.std.specs.Str.{bytes_eq}
use Rattle.std.proofs.lemmas.Bool.{false≢true}
use Rattle.std.proofs.lemmas.Slice.Eq.{bytes_eq-Decides}
use Rattle.namdb.specs.declared.command.Command.{Command}
use Rattle.namdb.specs.declared.command.Command.TheVariants.{Run, Sim}
use Rattle.nam_line.specs.Plan.{Line}
use Rattle.nam_script.specs.declared.script.Script.{Script}
use Rattle.nam_script.specs.declared.refusal.Kind.{Kind}
use Rattle.nam_script.specs.Parse.{Fault, script_of}
use Rattle.namdb.specs.Headline.{AreWords, AreWordsFor, IsAllThatWasLeft, IsWholeInput, IsAnsweredBy, HasAtMost, MayRefuse}
use Rattle.namdb.specs.Headline.{IsReportOn, MayBeDone, MayWrite}
use Rattle.namdb.specs.Ending.{HasLine, MakesLine, Sends}

-- a second word that is neither command's
by_command : (words : List (String Global)) (word : String Global) (text : List ℕ) → slice_get words 1 ≡ Some word
    → text ≡ string_bytes word → bytes_eq text (codes "run") ≡ false → bytes_eq text (codes "sim") ≡ false
    → (command : Command) → AreWordsFor words command → ⊥
by_command words word text second value no_run no_sim Run are =
    let is = subst (λ o. IfSome o (λ w. string_bytes w ≡ codes "run")) second are.1 in
    false≢true (sym no_run ∙ (bytes_eq-Decides text (codes "run")).1 (value ∙ is))
by_command words word text second value no_run no_sim Sim are =
    let is = subst (λ o. IfSome o (λ w. string_bytes w ≡ codes "sim")) second are.1 in
    false≢true (sym no_sim ∙ (bytes_eq-Decides text (codes "sim")).1 (value ∙ is))

pub no_command : (words : List (String Global)) (word : String Global) (text : List ℕ) → slice_get words 1 ≡ Some word
    → text ≡ string_bytes word → bytes_eq text (codes "run") ≡ false → bytes_eq text (codes "sim") ≡ false
    → AreWords words → ⊥
no_command words word text second value no_run no_sim are =
    by_command words word text second value no_run no_sim are.0 are.1

-- an input that was read whole has at most so many bytes
all_at_most : (left now : Option (List ℕ)) (input : List ℕ) → IsAllThatWasLeft left now input → length input ≤ 1048576
    → HasAtMost left now
all_at_most None now input all few = ([], tt, omega arith)
all_at_most (Some bytes) now input all few =
    (input, subst (λ n. Consumes (Some bytes) n input) (sym all.1) (all.0 ∙ sym (append-nil input)), few)

-- of a sink, which is as it was if `Kept` holds
module _ (taken now : Option (List ℕ)) (writes writes_now : ℕ) (Kept : Type 0) where
  -- a status with a line ends so
  abbrev pub SendsLine : Status → Status → Type 0
  SendsLine status result = Sends taken now writes writes_now status (line_of status) result
      ⊎ (MakesLine status × (result ≡ Memory) × Kept)

  usage_ends_so : (result : Status) → SendsLine Usage result → (result ≡ Usage) ⊎ (result ≡ WriteFault)
  usage_ends_so result (inl (inl sent)) = inl sent.0
  usage_ends_so result (inl (inr failed)) = inr failed.0
  usage_ends_so result (inr memory) = absurd memory.0

  -- the line of `Usage` takes no memory
  pub usage_ends : (status result : Status) → (HasLine status → SendsLine status result) → status ≡ Usage
      → (result ≡ Usage) ⊎ (result ≡ WriteFault)
  usage_ends status result line is = usage_ends_so result (rw is at line tt)

  line_keeps : (status result : Status) → SendsLine status result → (status ≡ Memory → ⊥) → result ≡ Memory
      → MakesLine status × Kept
  line_keeps status result (inl (inl sent)) other is = absurd (other (sym sent.0 ∙ is))
  line_keeps status result (inl (inr failed)) other is = let fault = failed.0 in absurd (cc)
  line_keeps status result (inr memory) other is = (memory.0, memory.2)

-- of a whole call
module _ (words : List (String Global)) (left left_now : Option (List ℕ)) (reads reads_now : ℕ)
    (taken now : Option (List ℕ)) (writes writes_now : ℕ) (lines : List Line) where
  -- the sink failed, and took a front of what some status would have written
  abbrev pub SinkFailed : Type 0
  SinkFailed =
      Rose writes writes_now × ((status : Status)
      × ((text : List ℕ) × MayWrite words left left_now reads reads_now lines status text × AppendsFront taken now text))

  pub text_fails : (status : Status) (text : List ℕ) (result : Status)
      → MayWrite words left left_now reads reads_now lines status text → Sends taken now writes writes_now status text result
      → (status ≡ WriteFault → ⊥) → result ≡ WriteFault → SinkFailed
  text_fails status text result may (inl sent) other is = absurd (other (sym sent.0 ∙ is))
  text_fails status text result may (inr failed) other is = (failed.1, (status, (text, may, failed.2)))

  -- the text went out whole
  abbrev pub HasDone : Type 0
  HasDone =
      (command : Command) × AreWordsFor words command
      × ((input : List ℕ) × IsWholeInput left left_now input
      × ((text : List ℕ) × IsReportOn command lines input text × Appends taken now text))

  pub text_done : (text out : List ℕ) (result : Status) → MayBeDone words left left_now lines text → out ≡ text
      → Sends taken now writes writes_now Done out result → result ≡ Done → HasDone
  text_done text out result may same (inl sent) is =
      (may.0, may.1, (may.2.0, may.2.1, (text, may.2.2, subst (Appends taken now) same sent.1)))
  text_done text out result may same (inr failed) is = absurd (let fault = sym failed.0 ∙ is in cc)

  line_fails : (Kept : Type 0) (status result : Status)
      → MayWrite words left left_now reads reads_now lines status (line_of status)
      → SendsLine taken now writes writes_now Kept status result → (status ≡ WriteFault → ⊥) → result ≡ WriteFault
      → SinkFailed
  line_fails Kept status result may (inl sends) other is = text_fails status (line_of status) result may sends other is
  line_fails Kept status result may (inr memory) other is = let wanted = memory.1 in absurd (cc)

  pub refusal_fails : (Kept : Type 0) (status result : Status) → MayRefuse words left left_now reads reads_now status
      → (HasLine status → SendsLine taken now writes writes_now Kept status result)
      → (status ≡ Memory → (result ≡ Memory) × Kept) → result ≡ WriteFault → SinkFailed
  refusal_fails Kept Usage result may line memory is =
      line_fails Kept Usage result (may, refl) (line tt) (λ same. cc) is
  refusal_fails Kept (BadScript number kind) result may line memory is =
      line_fails Kept (BadScript number kind) result (may, refl) (line tt) (λ same. cc) is
  refusal_fails Kept ReadFault result may line memory is =
      line_fails Kept ReadFault result (may, refl) (line tt) (λ same. cc) is
  refusal_fails Kept TooLong result may line memory is =
      line_fails Kept TooLong result (may, refl) (line tt) (λ same. cc) is
  refusal_fails Kept Memory result may line memory is = let wanted = (memory refl).0 in absurd (cc)
  refusal_fails Kept Done result may line memory is = absurd may
  refusal_fails Kept WriteFault result may line memory is = absurd may

  line_sends : (Kept : Type 0) (status result : Status) → SendsLine taken now writes writes_now Kept status result
      → MayRefuse words left left_now reads reads_now status → HasLine result
      → MayRefuse words left left_now reads reads_now result × Appends taken now (line_of result)
  line_sends Kept status result (inl (inl sent)) may has = rw sent.0 (may, sent.1)
  line_sends Kept status result (inl (inr failed)) may has = absurd (rw failed.0 at has)
  line_sends Kept status result (inr memory) may has = absurd (rw memory.1 at has)

  -- a refusal that ends with a line of its own
  pub refusal_sends : (Kept : Type 0) (status result : Status) → MayRefuse words left left_now reads reads_now status
      → (HasLine status → SendsLine taken now writes writes_now Kept status result)
      → (status ≡ Memory → (result ≡ Memory) × Kept) → HasLine result
      → MayRefuse words left left_now reads reads_now result × Appends taken now (line_of result)
  refusal_sends Kept Usage result may line memory has = line_sends Kept Usage result (line tt) may has
  refusal_sends Kept (BadScript number kind) result may line memory has =
      line_sends Kept (BadScript number kind) result (line tt) may has
  refusal_sends Kept ReadFault result may line memory has = line_sends Kept ReadFault result (line tt) may has
  refusal_sends Kept TooLong result may line memory has = line_sends Kept TooLong result (line tt) may has
  refusal_sends Kept Memory result may line memory has = absurd (rw (memory refl).0 at has)
  refusal_sends Kept Done result may line memory has = absurd may
  refusal_sends Kept WriteFault result may line memory has = absurd may

  -- a whole input has at most so many bytes
  whole_at_most : (input : List ℕ) → IsWholeInput left left_now input → HasAtMost left left_now
  whole_at_most input whole = all_at_most left left_now input whole.0 whole.1

  -- want of memory comes after the words, and before anything is written
  pub memory_keeps : (Kept : Type 0) (status result : Status) → MayRefuse words left left_now reads reads_now status
      → (HasLine status → SendsLine taken now writes writes_now Kept status result)
      → (status ≡ Memory → (result ≡ Memory) × Kept) → result ≡ Memory → AreWords words × HasAtMost left left_now
      × Kept
  memory_keeps Kept Usage result may line memory is =
      absurd (line_keeps taken now writes writes_now Kept Usage result (line tt) (λ same. cc) is).0
  memory_keeps Kept (BadScript number kind) result may line memory is = (
    may.0,
    whole_at_most may.1.0 may.1.1,
    (line_keeps taken now writes writes_now Kept (BadScript number kind) result (line tt) (λ same. cc) is).1,
  )
  memory_keeps Kept ReadFault result may line memory is =
      absurd (line_keeps taken now writes writes_now Kept ReadFault result (line tt) (λ same. cc) is).0
  memory_keeps Kept TooLong result may line memory is =
      absurd (line_keeps taken now writes writes_now Kept TooLong result (line tt) (λ same. cc) is).0
  memory_keeps Kept Memory result may line memory is = (may.0, may.1, (memory refl).1)
  memory_keeps Kept Done result may line memory is = absurd may
  memory_keeps Kept WriteFault result may line memory is = absurd may

  -- of a source that tells this input, without a fault
  module _ (input : List ℕ) (is : left ≡ Some input) (few : length input ≤ 1048576) (run : AreWords words)
      (reads_fine : Rose reads reads_now → ⊥) (writes_fine : Rose writes writes_now → ⊥) where
    the_input : (whole : List ℕ) → IsWholeInput left left_now whole → whole ≡ input
    the_input whole h = let told : IsAllThatWasLeft (Some input) left_now whole =
        subst (λ z. IsAllThatWasLeft z left_now whole) is h.0 in sym told.0

    memory_answers : (given : Result Script Fault) (result : Status) → result ≡ Memory → IsAnsweredBy given result
    memory_answers (Ok script) result e = inr e
    memory_answers (Err fault) result e = inr e

    pub text_answers : (text out : List ℕ) (result : Status) → MayWrite words left left_now reads reads_now lines Done text
        → Sends taken now writes writes_now Done out result → IsAnsweredBy (script_of input) result
    text_answers text out result may (inl sent) =
        subst (λ given. IsAnsweredBy given result) (sym (ap script_of (sym (the_input may.2.0 may.2.1)) ∙ may.2.2.read))
        (inl sent.0)
    text_answers text out result may (inr failed) = absurd (writes_fine failed.1)

    bad_answers : (line : ℕ) (kind : Kind) (Kept : Type 0) (result : Status)
        → script_of input ≡ Err (record { line = line; kind = kind })
        → SendsLine taken now writes writes_now Kept (BadScript line kind) result
        → IsAnsweredBy (script_of input) result
    bad_answers line kind Kept result bad (inl (inl sent)) =
        subst (λ given. IsAnsweredBy given result) (sym bad) (inl sent.0)
    bad_answers line kind Kept result bad (inl (inr failed)) = absurd (writes_fine failed.1)
    bad_answers line kind Kept result bad (inr memory) = memory_answers (script_of input) result memory.1

    pub refusal_answers : (Kept : Type 0) (status result : Status)
        → MayRefuse words left left_now reads reads_now status
        → (HasLine status → SendsLine taken now writes writes_now Kept status result)
        → (status ≡ Memory → (result ≡ Memory) × Kept) → IsAnsweredBy (script_of input) result
    refusal_answers Kept Usage result may line memory = absurd (may.0 run)
    refusal_answers Kept (BadScript number kind) result may line memory =
        bad_answers number kind Kept result (ap script_of (sym (the_input may.1.0 may.1.1)) ∙ may.1.2) (line tt)
    refusal_answers Kept ReadFault result may line memory = absurd (reads_fine may.1)
    refusal_answers Kept TooLong result may line memory =
        let much : IfSome (Some input) (λ bytes. 1048576 < length bytes) =
        subst (λ z. IfSome z (λ bytes. 1048576 < length bytes)) is may.1.0 in
        absurd (omega (arith, much, few))
    refusal_answers Kept Memory result may line memory = memory_answers (script_of input) result (memory refl).0
    refusal_answers Kept Done result may line memory = absurd may
    refusal_answers Kept WriteFault result may line memory = absurd may
