-- The lines of a script: how each kind of line is spelt, and which line a list of fields spells.
use Rattle.std.specs.Prelude.{◌≡◌, ℕ, ◌+◌, List, [], ◌∷◌, ◌++◌, take, drop, Option, Some, None, Bool, true, false}
use Rattle.std.specs.Prelude.{if◌then◌else◌, codes, ◌==◌}
use Rattle.std.specs.List.{position}
use Rattle.nam_catalog.specs.declared.bounds.TheConstants.{MOST_WIDTH}
use Rattle.nam_catalog.specs.declared.form.Form.{Form}
use Rattle.nam_catalog.specs.declared.form.Form.TheVariants.{Narrow, Wide, Held}
use Rattle.nam_text.specs.Token.{number_of, number_text}
use Rattle.nam_text.specs.Read.{◌>>=◌}
use Rattle.nam_text.specs.Spelling.{Field, FitsWord, IsWord, number, name, choice, nothing, word, last, next, some}
use Rattle.nam_text.specs.Kinds.{LineKind, kind, Spelt, of, Reader, no_line, or}
use Rattle.nam_script.specs.declared.line.Change.{Change}
use Rattle.nam_script.specs.declared.line.SpeltStint.{SpeltStint}
use Rattle.nam_script.specs.Line.{Line}
use Rattle.nam_script.specs.Line.{Version, Header, Workers, Tries, Tidy, Start, Overflow}
use Rattle.nam_script.specs.Line.{Table, Row, Txn, Get, Put, Add, Del, Need, Guard, Scan}
use Rattle.nam_script.specs.Line.{End, Turns, Seed}

-- ---- parts of lines

abbrev pub form_word : Form → List ℕ
form_word Narrow = codes "narrow"
form_word Wide = codes "wide"
form_word Held = codes "held"

abbrev pub form : Field Form
form = choice form_word (Narrow ∷ Wide ∷ Held ∷ [])

abbrev pub switch_word : Bool → List ℕ
switch_word on = if on then codes "on" else codes "off"

abbrev pub switch : Field Bool
switch = choice switch_word (true ∷ false ∷ [])

abbrev pub sign_text : Bool → List ℕ
sign_text up = (if up then 43 else 45) ∷ []

abbrev pub change_text : Change → List ℕ
change_text c = sign_text c.up ++ number_text c.by

abbrev pub is_zero : Option ℕ → Bool
is_zero None = false
is_zero (Some n) = n == 0

-- a sign and a number; -0 isn't one
abbrev pub change_by : ℕ → Option ℕ → Option Change
change_by sign n =
    if sign == 43 then Some (record { up = true; by = n })
    else if sign == 45 then (if is_zero n then None else Some (record { up = false; by = n }))
    else None

unfoldable pub change_of : List ℕ → Option Change
change_of [] = None
change_of (sign ∷ digits) = do
  n ← number_of digits
  change_by sign n

-- a change by 0 has the sign +
abbrev pub FitsChange : Change → Type 0
FitsChange c = FitsWord c.by × (c.up ≡ false → (c.by ≡ Some 0) → ⊥)

abbrev pub change : Field Change
change = record { Fits = FitsChange; IsSmall = λ c. IsWord c.by; text = change_text; read = change_of }

abbrev pub spelt_stint_text : SpeltStint → List ℕ
spelt_stint_text s = number_text s.worker ++ 42 ∷ number_text s.steps

-- numbers before and after a star
unfoldable pub parted_at : List ℕ → Option ℕ → Option SpeltStint
parted_at field None = None
parted_at field (Some star) = do
  worker ← number_of (take star field)
  steps ← number_of (drop (star + 1) field)
  Some (record { worker = worker; steps = steps })

-- numbers parted by a star
abbrev pub stint_of : List ℕ → Option SpeltStint
stint_of field = parted_at field (position (λ b. b == 42) field)

abbrev pub FitsStint : SpeltStint → Type 0
FitsStint s = FitsWord s.worker × FitsWord s.steps

abbrev pub stint : Field SpeltStint
stint = record {
  Fits = FitsStint;
  IsSmall = λ s. IsWord s.worker × IsWord s.steps;
  text = spelt_stint_text;
  read = stint_of;
}

-- ---- the kinds of lines

abbrev pub version_line : LineKind Line
version_line = kind (codes "namdb") (word (codes "1") nothing) (λ _. Version)

abbrev pub header_line : LineKind Line
header_line = kind (codes "header") (last form) (λ x. Header x)

abbrev pub workers_line : LineKind Line
workers_line = kind (codes "workers") (last number) (λ n. Workers n)

abbrev pub tries_line : LineKind Line
tries_line = kind (codes "tries") (last number) (λ n. Tries n)

abbrev pub tidy_line : LineKind Line
tidy_line = kind (codes "tidy") (last switch) (λ on. Tidy on)

abbrev pub start_line : LineKind Line
start_line = kind (codes "start") (last number) (λ n. Start n)

abbrev pub overflow_line : LineKind Line
overflow_line = kind (codes "overflow") (next number (last number)) (λ (b, c). Overflow b c)

abbrev pub table_line : LineKind Line
table_line =
    kind (codes "table")
    (next name (word (codes "width")
    (next number (word (codes "capacity") (next number (word (codes "ring") (last number)))))))
    (λ (t, (w, (k, r))). Table t w k r)

abbrev pub row_line : LineKind Line
row_line = kind (codes "row") (next name (next number (some MOST_WIDTH number))) (λ (t, (k, vs)). Row t k vs)

abbrev pub txn_line : LineKind Line
txn_line = kind (codes "txn") (last number) (λ w. Txn w)

abbrev pub get_line : LineKind Line
get_line = kind (codes "get") (next name (last number)) (λ (t, k). Get t k)

abbrev pub put_line : LineKind Line
put_line = kind (codes "put") (next name (next number (some MOST_WIDTH number))) (λ (t, (k, vs)). Put t k vs)

abbrev pub add_line : LineKind Line
add_line = kind (codes "add") (next name (next number (next number (last change)))) (λ (t, (k, (f, c))). Add t k f c)

abbrev pub del_line : LineKind Line
del_line = kind (codes "del") (next name (last number)) (λ (t, k). Del t k)

abbrev pub need_line : LineKind Line
need_line = kind (codes "need") (next name (next number (next number (last number)))) (λ (t, (k, (f, n))). Need t k f n)

abbrev pub guard_line : LineKind Line
guard_line = kind (codes "guard") (next name (last number)) (λ (t, k). Guard t k)

abbrev pub scan_line : LineKind Line
scan_line = kind (codes "scan") (next name (next number (last number))) (λ (t, (l, h)). Scan t l h)

abbrev pub end_line : LineKind Line
end_line = kind (codes "end") nothing (λ _. End)

abbrev pub turns_line : LineKind Line
turns_line = kind (codes "turns") (some 64 stint) (λ ss. Turns ss)

abbrev pub seed_line : LineKind Line
seed_line = kind (codes "seed") (next number (last number)) (λ (x, n). Seed x n)

-- how a line is spelt
unfoldable pub spelt_line : Line → Spelt
spelt_line Version = of version_line tt
spelt_line (Header form) = of header_line form
spelt_line (Workers n) = of workers_line n
spelt_line (Tries n) = of tries_line n
spelt_line (Tidy on) = of tidy_line on
spelt_line (Start n) = of start_line n
spelt_line (Overflow buckets cells) = of overflow_line (buckets, cells)
spelt_line (Table name width capacity ring) = of table_line (name, (width, (capacity, ring)))
spelt_line (Row table key values) = of row_line (table, (key, values))
spelt_line (Txn worker) = of txn_line worker
spelt_line (Get table key) = of get_line (table, key)
spelt_line (Put table key values) = of put_line (table, (key, values))
spelt_line (Add table key field change) = of add_line (table, (key, (field, change)))
spelt_line (Del table key) = of del_line (table, key)
spelt_line (Need table key field least) = of need_line (table, (key, (field, least)))
spelt_line (Guard table key) = of guard_line (table, key)
spelt_line (Scan table low high) = of scan_line (table, (low, high))
spelt_line End = of end_line tt
spelt_line (Turns stints) = of turns_line stints
spelt_line (Seed seed picks) = of seed_line (seed, picks)

-- ---- any line

-- an operation, by its first word
unfoldable pub op_of : Reader Line
op_of =
    or get_line (or put_line (or add_line (or del_line (or need_line (or guard_line (or scan_line no_line))))))

-- a line behind the settings, by its first word
unfoldable pub body_of : Reader Line
body_of = or table_line (or row_line (or txn_line (or end_line (or turns_line (or seed_line op_of)))))

-- a line by its first word
unfoldable pub word_of : Reader Line
word_of =
    or version_line (or header_line (or workers_line (or tries_line (or tidy_line (or start_line
    (or overflow_line body_of))))))

-- the line that the fields spell
unfoldable pub line_of : List (List ℕ) → Option Line
line_of [] = None
line_of (word ∷ fs) = word_of word fs
