-- What several calls tell together.
use Rattle.std.proofs.Common.{ℕ, ◌+◌, List, ◌++◌, length, take, drop, Option, sym, ap, ◌∙◌, append_assoc, length-append}
use Rattle.std.proofs.Common.{take-append-drop}
use Rattle.std.specs.Io.KnownBytes.{Consumes, Appends}
use Rattle.std.proofs.KnownBytes.{Consumes-trans, Appends-trans}
use Rattle.nam_io.specs.Fronts.{LosesFront, AppendsBefore}

-- what two reads got came off in order
pub LosesFront-both : (a b c : Option (List ℕ)) (xs ys : List ℕ) (P : ℕ → Type 0) → Consumes a b xs → Consumes b c ys
    → P (length xs + length ys) → LosesFront a c P
LosesFront-both a b c xs ys P first second counted =
    (xs ++ ys, Consumes-trans a b c xs ys first second, rw (length-append xs ys) counted)

-- n bytes more of the rest went out
pub AppendsBefore-more : (a b c : Option (List ℕ)) (bytes rest : List ℕ) (n : ℕ) → AppendsBefore a b bytes rest
    → Appends b c (take n rest) → AppendsBefore a c bytes (drop n rest)
AppendsBefore-more a b c bytes rest n (front, split, gone) more = (
  front ++ take n rest,
  split ∙ ap (λ (t : List ℕ). front ++ t) (sym (take-append-drop n rest))
      ∙ sym (append_assoc front (take n rest) (drop n rest)),
  Appends-trans a b c front (take n rest) gone more,
)
