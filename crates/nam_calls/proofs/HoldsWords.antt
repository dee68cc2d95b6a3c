-- What is below 2^64 stays so: lists of words, header words and tags.
use Rattle.std.specs.Prelude.{replicate, slice_index, slice_set}
use Rattle.std.proofs.Common.{Bool, List, None, Option, Some, [], arith, false, length, ℕ, ◌*◌, ◌++◌, ◌+◌, ◌-◌, ◌<◌}
use Rattle.std.proofs.Common.{suc, zero, ◌==◌, ◌^◌, ◌∷◌, ◌≤◌}
use Rattle.std.proofs.lemmas.Bool.Decides.{nat_tests}
use Rattle.nam_verbs.specs.Until.{until}
use Rattle.nam_verbs.proofs.TestLemmas.{by_test}
use Rattle.nam_catalog.specs.declared.bounds.TheConstants.{MOST_WORKERS}
use Rattle.nam_catalog.specs.declared.form.Form.{Form}
use Rattle.nam_catalog.specs.declared.form.Form.TheVariants.{Narrow, Wide, Held}
use Rattle.nam_catalog.specs.Greatest.{greatest_number}
use Rattle.nam_header.specs.declared.header.Header.{Header}
use Rattle.nam_header.specs.Flag.{holder_named, locked_by, unlocked, moved}
use Rattle.nam_header.specs.Header.{IsWithin, fields_of, header_of, word_of}
use Rattle.nam_header.specs.Stamp.{mark, with_lock, with_moved, without_moved, version_word}
use Rattle.nam_header.specs.Tag.{freed, full, generation_of, has_next, written}
use Rattle.nam_calls.specs.Holds.{AreWords, HasWords, IsWord}
use Rattle.nam_calls.specs.Medic.{without_lock}
use Rattle.nam_calls.specs.Record.{word_in}
use Rattle.nam_calls.specs.Words.{wrapped}
use Rattle.nam_calls.proofs.FallsTests.{either}

-- 1. Lists

pub words_push : (got : List ℕ) (word : ℕ) → AreWords got → IsWord word → AreWords (got ++ word ∷ [])
words_push [] word all is = (is, tt)
words_push (w ∷ ws) word all is = (all.0, words_push ws word all.1 is)

pub words_at : (words : List ℕ) (nth : ℕ) → AreWords words → IsWord (slice_index words nth)
words_at [] nth all = omega arith
words_at (w ∷ ws) zero all = all.0
words_at (w ∷ ws) (suc nth) all = words_at ws nth all.1

pub words_set : (words : List ℕ) (nth word : ℕ) → AreWords words → IsWord word → AreWords (slice_set words nth word)
words_set [] nth word all is = tt
words_set (w ∷ ws) zero word all is = (is, all.1)
words_set (w ∷ ws) (suc nth) word all is = (all.0, words_set ws nth word all.1 is)

pub words_append : (xs ys : List ℕ) → AreWords xs → AreWords ys → AreWords (xs ++ ys)
words_append [] ys all more = more
words_append (x ∷ xs) ys all more = (all.0, words_append xs ys all.1 more)

pub same_words : (n word : ℕ) → IsWord word → AreWords (replicate {A = ℕ} n word)
same_words zero word is = tt
same_words (suc n) word is = (is, same_words n word is)

-- a word of a value, or 0
pub value_word : (value : Option (List ℕ)) (nth : ℕ) → HasWords value → IsWord (word_in value nth)
value_word None nth has = omega arith
value_word (Some words) nth has = words_at words nth has

-- one more word was read
pub until_holds : {A : Type 0} (Holds : A → Type 0) (width : ℕ) (got : List ℕ) (more done : List ℕ → A)
    → Holds (more got) → Holds (done got) → Holds (until width got more done)
until_holds Holds width got more done m d = either Holds (length got == width) (done got) (more got) d m

-- 2. Header words

pub header_word : (form : Form) (h : Header) → IsWithin form h → IsWord (word_of form h)
header_word form h within = grind arith

pub header_within : (form : Form) (word : ℕ) → IsWord word → IsWithin form (header_of form word)
header_within form word is = grind arith

-- a worker's number can be named by a header
named_within : (form : Form) (worker : ℕ) → worker ≤ MOST_WORKERS
    → holder_named form worker < (fields_of form).holders
named_within Narrow worker l = omega arith
named_within Wide worker l = omega arith
named_within Held worker l = omega arith

pub locked_word : (form : Form) (worker word : ℕ) → worker ≤ MOST_WORKERS → IsWord word
    → IsWord (with_lock form worker word)
locked_word form worker word l is =
    let h = header_within form word is in
    header_word form (locked_by worker form word)
    record { thread = h.thread; number = h.number; holder = named_within form worker l }

pub moved_word : (form : Form) (word : ℕ) → IsWord word → IsWord (with_moved form word)
moved_word form word is =
    let h = header_within form word is in
    header_word form (moved form word) record { thread = h.thread; number = h.number; holder = h.holder }

pub unmoved_word : (form : Form) (word : ℕ) → IsWord word → IsWord (without_moved form word)
unmoved_word form word is =
    let h = header_within form word is in
    header_word form (record (header_of form word) { moved = false })
    record { thread = h.thread; number = h.number; holder = h.holder }

no_holder : (form : Form) → 0 < (fields_of form).holders
no_holder Narrow = omega arith
no_holder Wide = omega arith
no_holder Held = omega arith

pub unlocked_word : (form : Form) (word : ℕ) → IsWord word → IsWord (without_lock form word)
unlocked_word form word is =
    let h = header_within form word is in
    header_word form (unlocked form word) record { thread = h.thread; number = h.number; holder = no_holder form }

thread_within : (form : Form) (worker : ℕ) → worker ≤ MOST_WORKERS → worker < (fields_of form).threads
thread_within Narrow worker l = omega arith
thread_within Wide worker l = omega arith
thread_within Held worker l = omega arith

number_within : (form : Form) (number : ℕ) → number ≤ greatest_number form → number < (fields_of form).numbers
number_within Narrow number l = omega arith
number_within Wide number l = omega arith
number_within Held number l = omega arith

-- a worker's stamp of a number that the form has, as a new version or as an end
pub stamped_word : (form : Form) (worker number : ℕ) (deleted : Bool) → worker ≤ MOST_WORKERS
    → number ≤ greatest_number form
    → IsWord (version_word form record { thread = worker; number = number } deleted)
stamped_word form worker number deleted w n =
    header_word form
    record {
      stamp = record { thread = worker; number = number };
      moved = false;
      deleted = deleted;
      locked = false;
      holder = 0;
    }
    record {
      thread = thread_within form worker w;
      number = number_within form number n;
      holder = no_holder form;
    }

pub number_word : (form : Form) (number : ℕ) → number ≤ greatest_number form → IsWord number
number_word Narrow number l = omega arith
number_word Wide number l = omega arith
number_word Held number l = omega arith

pub mark_word : IsWord mark
mark_word = omega arith

pub count_word : (count : ℕ) → IsWord (wrapped count)
count_word count = omega arith

-- 3. Tags

pub written_word : (tag : ℕ) → IsWord tag → IsWord (written tag)
written_word tag is = omega arith

pub full_word : (tag : ℕ) → IsWord tag → IsWord (full tag)
full_word tag is = omega arith

pub freed_word : (tag : ℕ) → IsWord tag → IsWord (freed tag)
freed_word tag is =
    by_test IsWord (has_next tag) ((generation_of tag + 1) * 4) tag
    (λ e. let l : generation_of tag < 2 ^ 62 - 1 = grind (arith, nat_tests) in omega arith) (λ e. is)
