use Rattle.std.proofs.Common.{◌≡◌, ◌∙◌, sym, ap, arith, Some}
use Rattle.std.specs.Prelude.{codes, slice_get}
use Rattle.std.proofs.lemmas.Option.{slice_get-get_or}
use Rattle.std.proofs.lemmas.Slice.Eq.{bytes_eq-Decides}
use Rattle.namdb.proofs.TopLemmas.{no_command}
use Rattle.namdb.proofs.top.command_of.Goals as goal

pub returns-then-eq-clause-some : goal.returns-then-eq-clause-some
returns-then-eq-clause-some c =
    let word = c.index-words-1.result in
    let second : slice_get c.args.words.now 1 ≡ Some word =
    slice_get-get_or c.args.words.now 1 word (omega arith) ∙ ap Some (sym c.index-words-1.is) in
    let decides = bytes_eq-Decides c.as_str-word.result.now (codes "run") in
    (c.if-words-ne2.false, rw second (sym c.as_str-word.ensures.value ∙ decides.0 (sym c.eq.ensures ∙ c.if-eq.true)))

pub returns-then-eq-2-clause-some : goal.returns-then-eq-2-clause-some
returns-then-eq-2-clause-some c =
    let word = c.index-words-1.result in
    let second : slice_get c.args.words.now 1 ≡ Some word =
    slice_get-get_or c.args.words.now 1 word (omega arith) ∙ ap Some (sym c.index-words-1.is) in
    let decides = bytes_eq-Decides c.as_str-word.result.now (codes "sim") in
    (c.if-words-ne2.false, rw second (sym c.as_str-word.ensures.value ∙ decides.0 (sym c.eq-else-eq.ensures ∙ c.if-eq-2.true)))

pub returns-else-eq-2-clause-none : goal.returns-else-eq-2-clause-none
returns-else-eq-2-clause-none c =
    let word = c.index-words-1.result in
    let second : slice_get c.args.words.now 1 ≡ Some word =
    slice_get-get_or c.args.words.now 1 word (omega arith) ∙ ap Some (sym c.index-words-1.is) in
    no_command c.args.words.now word c.as_str-word.result.now second c.as_str-word.ensures.value
    (sym c.eq.ensures ∙ c.if-eq.false) (sym c.eq-else-eq.ensures ∙ c.if-eq-2.false)
