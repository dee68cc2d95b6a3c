-- A line whose first word is tried before the others.
use Rattle.std.proofs.Common.{◌≡◌, ℕ, true, List, [], ◌∷◌, None, refl}
use Rattle.std.specs.Prelude.{codes}
use Rattle.std.specs.Str.{bytes_eq}
use Rattle.std.proofs.lemmas.Slice.Eq.{bytes_eq-Decides}
use Rattle.nam_text.specs.Kinds.{line_at}
use Rattle.nam_script.specs.Lines.{add_line, need_line, get_line, txn_line, end_line, put_line, del_line, op_of}
use Rattle.nam_script.specs.Lines.{body_of, word_of, line_of}

pub no_word : (all : List (List ℕ)) → all ≡ [] → line_of all ≡ None
unfolding line_of
no_word all e = rw e refl

pub any_word : (all fs : List (List ℕ)) (word : List ℕ) → all ≡ word ∷ fs → line_of all ≡ word_of word fs
unfolding line_of
any_word all fs word e = rw e refl

same_word : (fs : List (List ℕ)) (word w : List ℕ) → bytes_eq word w ≡ true → word_of word fs ≡ word_of w fs
same_word fs word w is = rw ((bytes_eq-Decides word w).0 is) refl

of_word : (all fs : List (List ℕ)) (word w : List ℕ) → all ≡ word ∷ fs → bytes_eq word w ≡ true
    → line_of all ≡ word_of w fs
unfolding line_of
of_word all fs word w e is = rw e (same_word fs word w is)

pub add_first : (all fs : List (List ℕ)) (word : List ℕ) → all ≡ word ∷ fs → bytes_eq word (codes "add") ≡ true
    → line_of all ≡ line_at add_line fs
unfolding word_of body_of op_of
add_first all fs word e is = of_word all fs word (codes "add") e is

pub need_first : (all fs : List (List ℕ)) (word : List ℕ) → all ≡ word ∷ fs → bytes_eq word (codes "need") ≡ true
    → line_of all ≡ line_at need_line fs
unfolding word_of body_of op_of
need_first all fs word e is = of_word all fs word (codes "need") e is

pub get_first : (all fs : List (List ℕ)) (word : List ℕ) → all ≡ word ∷ fs → bytes_eq word (codes "get") ≡ true
    → line_of all ≡ line_at get_line fs
unfolding word_of body_of op_of
get_first all fs word e is = of_word all fs word (codes "get") e is

pub txn_first : (all fs : List (List ℕ)) (word : List ℕ) → all ≡ word ∷ fs → bytes_eq word (codes "txn") ≡ true
    → line_of all ≡ line_at txn_line fs
unfolding word_of body_of op_of
txn_first all fs word e is = of_word all fs word (codes "txn") e is

pub end_first : (all fs : List (List ℕ)) (word : List ℕ) → all ≡ word ∷ fs → bytes_eq word (codes "end") ≡ true
    → line_of all ≡ line_at end_line fs
unfolding word_of body_of op_of
end_first all fs word e is = of_word all fs word (codes "end") e is

pub put_next : (fs : List (List ℕ)) (word : List ℕ) → bytes_eq word (codes "put") ≡ true
    → word_of word fs ≡ line_at put_line fs
unfolding word_of body_of op_of
put_next fs word is = same_word fs word (codes "put") is

pub del_next : (fs : List (List ℕ)) (word : List ℕ) → bytes_eq word (codes "del") ≡ true
    → word_of word fs ≡ line_at del_line fs
unfolding word_of body_of op_of
del_next fs word is = same_word fs word (codes "del") is

pub ruleset first_words = (no_word, add_first, need_first, get_first, txn_first, end_first, any_word)

pub ruleset next_words = (put_next, del_next)
