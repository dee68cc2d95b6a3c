-- A turn of the reader: one line is taken, and the others are left.
use Rattle.std.proofs.Common.{◌≡◌, ℕ, ◌+◌, Bool, true, false, cond, ◌&&◌, eqb, List, [], ◌∷◌, length, Ok, Err, refl}
use Rattle.std.specs.List.{onto_first}
use Rattle.nam_script.specs.declared.refusal.Kind.TheVariants as kind
use Rattle.nam_script.specs.declared.refusal.LineEnd.{LineEnd}
use Rattle.nam_script.specs.declared.refusal.LineEnd.TheVariants as line_ends
use Rattle.nam_script.specs.declared.draft.Draft.{Draft}
use Rattle.nam_script.specs.Admit.{admit_text, Takes}
use Rattle.nam_text.specs.Fields.{lines_of}
use Rattle.nam_script.specs.Stages.{can_end}
use Rattle.nam_script.specs.Parse.{draft_from, end_at, GivesDraft}

some_from : (b : Bool) (x : ℕ) (parts : List (List ℕ))
    → (y : List ℕ) × (ys : List (List ℕ)) × (cond b ([] ∷ parts) (onto_first x parts) ≡ y ∷ ys)
some_from true x parts = ([], parts, refl)
some_from false x [] = (x ∷ [], [], refl)
some_from false x (part ∷ parts) = (x ∷ part, parts, refl)

-- a text has a first line
pub some_line : (text : List ℕ) → (y : List ℕ) × (ys : List (List ℕ)) × (lines_of text ≡ y ∷ ys)
some_line [] = ([], [], refl)
some_line (b ∷ text) = some_from (eqb b 10) b (lines_of text)

pub goes_on : (n : ℕ) (d e : Draft) (text rest : List ℕ) → admit_text d text ≡ Ok e
    → draft_from n d (text ∷ lines_of rest) ≡ draft_from (n + 1) e (lines_of rest)
unfolding draft_from
goes_on n d e text rest given = let s = some_line rest in rw (s.2, given) refl

pub stops : (n : ℕ) (d e : Draft) (text rest : List ℕ) (end : LineEnd) → Takes (Err end) e (admit_text d text)
    → GivesDraft (Err (end_at n end)) (draft_from n d (text ∷ lines_of rest))
unfolding draft_from
stops n d e text rest (line_ends.Bad k) given = let s = some_line rest in rw (s.2, given) refl
stops n d e text rest line_ends.Memory given = tt

-- no newline is left
pub no_more : (n : ℕ) (d : Draft) (rest : List ℕ) → lines_of rest ≡ rest ∷ []
    → draft_from n d (lines_of rest)
    ≡ cond (eqb (length rest) 0 && can_end d.stage) (Ok d) (Err (record { line = n; kind = kind.Cut }))
unfolding draft_from
no_more n d rest e = rw e refl
