use Rattle.std.proofs.Common.{◌≡◌, ◌++◌, drop}
use Rattle.std.specs.Prelude.{string_bytes}
use Rattle.nam_text.specs.Value.{words_text}
use Rattle.nam_text.proofs.value.push_words.Given as goal

-- the words from here on are still to come
abbrev pub invariant-loop-word : goal.invariant-loop-word
invariant-loop-word l =
    string_bytes l.out ++ words_text (drop l.word-index l.words) ≡ string_bytes l.initial.out ++ words_text l.words
