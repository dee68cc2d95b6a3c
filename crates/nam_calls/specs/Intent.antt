-- The words of a worker's intent: its state, the number of its commit, and for each listed record its row, its kind,
-- the number of the version that was locked, and the data words of the next one.
use Rattle.std.specs.Prelude.{◌≡◌, if◌then◌else◌, ℕ, ◌+◌, ◌*◌, ◌/◌, ◌%◌, ◌==◌, ◌≤◌, nat_le, Option, Some, None}
use Rattle.nam_catalog.specs.declared.bounds.TheConstants.{MOST_KEYS, MOST_WIDTH, INTENT_WORDS}
use Rattle.nam_layout.specs.declared.field.Field.{Field}
use Rattle.nam_layout.specs.declared.field.Field.TheVariants.{Intent}
use Rattle.nam_calls.specs.declared.intent.IntentPhase.{IntentPhase}
use Rattle.nam_calls.specs.declared.intent.IntentPhase.TheVariants.{Listed, Decided}
use Rattle.nam_calls.specs.declared.intent.IntentState.{IntentState}
use Rattle.nam_calls.specs.declared.intent.IntentKind.{IntentKind}
use Rattle.nam_calls.specs.declared.intent.IntentKind.TheVariants.{Value, Deletion, Guard}

-- 1. Where each word stands

abbrev pub state_field : ℕ → Field
state_field worker = Intent worker 0

abbrev pub number_field : ℕ → Field
number_field worker = Intent worker 1

-- a record has its row, its kind and its count, and room for the widest value
abbrev pub record_words : ℕ
record_words = 3 + MOST_WIDTH

-- the records follow the state and the number
abbrev pub record_from : ℕ → ℕ
record_from nth = 2 + nth * record_words

abbrev pub row_field : ℕ → ℕ → Field
row_field worker nth = Intent worker (record_from nth)

abbrev pub kind_field : ℕ → ℕ → Field
kind_field worker nth = Intent worker (record_from nth + 1)

abbrev pub count_field : ℕ → ℕ → Field
count_field worker nth = Intent worker (record_from nth + 2)

-- a data word of a record's next version
abbrev pub data_field : ℕ → ℕ → ℕ → Field
data_field worker nth word = Intent worker (record_from nth + 3 + word)

-- 2. The state

-- there is no intent
abbrev pub no_intent : ℕ
no_intent = 0

abbrev pub phase_word : IntentPhase → ℕ
phase_word Listed = 1
phase_word Decided = 2

-- so many records, of a commit that is so far
abbrev pub state_word : ℕ → IntentPhase → ℕ
state_word records phase = 4 * records + phase_word phase

-- so many records, if a commit can have as many
abbrev pub state_of_records : ℕ → IntentPhase → Option IntentState
state_of_records records phase =
    if nat_le records MOST_KEYS then Some (record { records = records; phase = phase }) else None

-- what a state says; no intent, or a word that no commit writes, says nothing
abbrev pub state_in : ℕ → Option IntentState
state_in word =
    if word % 4 == phase_word Listed then state_of_records (word / 4) Listed
    else if word % 4 == phase_word Decided then state_of_records (word / 4) Decided
    else None

-- 3. The kind of a record

abbrev pub kind_word : IntentKind → ℕ
kind_word Value = 0
kind_word Deletion = 1
kind_word Guard = 2

-- the kind that the word says, if any
abbrev pub kind_in : ℕ → Option IntentKind
kind_in word =
    if word == kind_word Value then Some Value
    else if word == kind_word Deletion then Some Deletion
    else if word == kind_word Guard then Some Guard
    else None

-- 4. Each word is read as it was written

-- the records fill the words of an intent
abbrev pub IntentWordsLaw : Type 0
IntentWordsLaw = record_from MOST_KEYS ≡ INTENT_WORDS

abbrev pub StateReadLaw : Type 0
StateReadLaw = (records : ℕ) (phase : IntentPhase) → records ≤ MOST_KEYS
    → state_in (state_word records phase) ≡ Some (record { records = records; phase = phase })

abbrev pub StateWrittenLaw : Type 0
StateWrittenLaw = (word : ℕ) (state : IntentState) → state_in word ≡ Some state
    → (word ≡ state_word state.records state.phase) × (state.records ≤ MOST_KEYS)

abbrev pub KindReadLaw : Type 0
KindReadLaw = (kind : IntentKind) → kind_in (kind_word kind) ≡ Some kind

abbrev pub KindWrittenLaw : Type 0
KindWrittenLaw = (word : ℕ) (kind : IntentKind) → kind_in word ≡ Some kind → word ≡ kind_word kind
