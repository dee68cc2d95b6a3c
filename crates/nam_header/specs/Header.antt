-- Header words: each field stands at a power of two.
use Rattle.std.specs.Prelude.{ℕ, ◌+◌, ◌*◌, ◌/◌, ◌%◌, ◌^◌, ◌<◌, ◌==◌, Bool, true, false}
use Rattle.nam_catalog.specs.declared.form.Form.{Form}
use Rattle.nam_catalog.specs.declared.form.Form.TheVariants.{Narrow, Wide, Held}
use Rattle.nam_header.specs.declared.header.Header.{Header}

-- where a form has the thread and the holder, and what thread, number and holder are below
pub record Fields : Type 0 where
  pub thread_at : ℕ
  pub holder_at : ℕ
  pub threads : ℕ
  pub numbers : ℕ
  pub holders : ℕ

-- a holder that stands above the word can only be 0
abbrev pub fields_of : Form → Fields
fields_of Narrow = record { thread_at = 2 ^ 35; holder_at = 2 ^ 64; threads = 2 ^ 29; numbers = 2 ^ 32; holders = 1 }
fields_of Wide = record { thread_at = 2 ^ 48; holder_at = 2 ^ 64; threads = 2 ^ 16; numbers = 2 ^ 45; holders = 1 }
fields_of Held = record { thread_at = 2 ^ 35; holder_at = 2 ^ 59; threads = 2 ^ 24; numbers = 2 ^ 32; holders = 2 ^ 5 }

-- the fields are below the form's bounds
pub record IsWithin (form : Form) (h : Header) : Type 0 where
  pub thread : h.stamp.thread < (fields_of form).threads
  pub number : h.stamp.number < (fields_of form).numbers
  pub holder : h.holder < (fields_of form).holders

-- what a flag counts
abbrev pub flag : Bool → ℕ
flag true = 1
flag false = 0

-- the word of a header
abbrev pub word_of : Form → Header → ℕ
word_of form h =
    h.holder * (fields_of form).holder_at + h.stamp.thread * (fields_of form).thread_at + h.stamp.number * 2 ^ 3
    + 4 * flag h.moved + 2 * flag h.deleted + flag h.locked

-- the header of a word
abbrev pub header_of : Form → ℕ → Header
header_of form word = record {
  stamp = record {
    thread = word / (fields_of form).thread_at % (fields_of form).threads;
    number = word / 2 ^ 3 % (fields_of form).numbers;
  };
  moved = word / 4 % 2 == 1;
  deleted = word / 2 % 2 == 1;
  locked = word % 2 == 1;
  holder = word / (fields_of form).holder_at;
}
