-- What a collection exchanges.
use Rattle.std.proofs.Common.{◌≡◌, ◌⊎◌, inl, inr, ℕ, zero, suc, ◌+◌, ◌<◌, List, [], ◌∷◌, ◌++◌, length, refl, sym, ◌∙◌}
use Rattle.std.proofs.Common.{ap, arith}
use Rattle.std.specs.Prelude.{slice_index}
use Rattle.std.proofs.lemmas.List.{append_assoc}
use Rattle.nam_verbs.specs.Steps.{Step, saw, tried, Stretches}
use Rattle.nam_header.specs.Tag.{freed}
use Rattle.nam_layout.specs.declared.field.Cells.{Cells}
use Rattle.nam_layout.specs.declared.field.Field.{Field}
use Rattle.nam_layout.specs.declared.field.Field.TheVariants as field
use Rattle.nam_horizon.specs.CollectLaw.{raise_steps, EntryKnown, was_reached, is_raised, was_lost, EntriesKnown}
use Rattle.nam_horizon.specs.CollectLaw.{look_steps, CellCollected, not_full, is_kept, is_freed, CollectedBy, RaisesEntry}
use Rattle.nam_horizon.specs.CollectLaw.{FreesCell}

-- 1. A step among some steps

-- it is among the first, or among the rest
in_either : (x : Step Field) (first rest before after : List (Step Field)) → first ++ rest ≡ before ++ x ∷ after
    → ((later : List (Step Field)) × (first ≡ before ++ x ∷ later))
    ⊎ ((earlier : List (Step Field)) × (before ≡ first ++ earlier) × (rest ≡ earlier ++ x ∷ after))
in_either x [] rest before after is = inr (before, refl, is)
in_either x (step ∷ first) rest [] after is = inl (first, (let same : step ≡ x = cc in ap (λ s. s ∷ first) same))
in_either x (step ∷ first) rest (one ∷ before) after is =
    let same : step ≡ one = cc in
    elim (in_either x first rest before after (cc)) [
      | inl here ↦ inl (here.0, (let later = here.1 in cc))
      | inr there ↦ inr (there.0, (let earlier = there.1 in cc), there.2)
    ]

among_none : (x : Step Field) (before after : List (Step Field)) → [] ≡ before ++ x ∷ after → ⊥
among_none x [] after is = cc
among_none x (step ∷ before) after is = cc

among_one : (x a : Step Field) (before after : List (Step Field)) → a ∷ [] ≡ before ++ x ∷ after
    → (x ≡ a) × (before ≡ [])
among_one x a [] after is = (cc, refl)
among_one x a (step ∷ before) after is = absurd (among_none x before after (cc))

among_two : (x a b : Step Field) (before after : List (Step Field)) → a ∷ b ∷ [] ≡ before ++ x ∷ after → (x ≡ a)
    ⊎ ((x ≡ b) × (before ≡ a ∷ []))
among_two x a b [] after is = inl (cc)
among_two x a b (step ∷ before) after is =
    let later = among_one x b before after (cc) in let none = later.1 in inr (later.0, cc)

among_three : (x a b c : Step Field) (before after : List (Step Field)) → a ∷ b ∷ c ∷ [] ≡ before ++ x ∷ after
    → ((x ≡ a) ⊎ (x ≡ b)) ⊎ ((x ≡ c) × (before ≡ a ∷ b ∷ []))
among_three x a b c [] after is = inl (inl (cc))
among_three x a b c (step ∷ before) after is = elim (among_two x b c before after (cc)) [
  | inl second ↦ inl (inr second)
  | inr third ↦ let one = third.1 in inr (third.0, cc)
]

-- an exchange is no read, and its words are its own
no_read : (at : Field) (expected new found : ℕ) (other : Field) (word : ℕ)
    → tried at expected new found ≡ saw other word → ⊥
no_read at expected new found other word is = let verb = ap (λ (step : Step Field). step.verb) is in cc

same_exchange : (at : Field) (expected new found : ℕ) (other : Field) (old word lost : ℕ)
    → tried at expected new found ≡ tried other old word lost
    → (at ≡ other) × (expected ≡ old) × (new ≡ word)
same_exchange at expected new found other old word lost is = let verb = ap (λ (step : Step Field). step.verb) is
    in (cc, cc, cc)

-- 2. The exchanges among some steps

module _ (cells : Cells) (workers : ℕ) (seen known : List ℕ) where
  abbrev Allowed : List (Step Field) → Field → ℕ → ℕ → Type 0
  Allowed before at expected new = RaisesEntry workers seen before at expected new
      ⊎ FreesCell cells known before at expected new

  abbrev Exchanges : List (Step Field) → Type 0
  Exchanges steps =
      (before after : List (Step Field)) (at : Field) (expected new found : ℕ)
      → steps ≡ before ++ tried at expected new found ∷ after
      → Allowed before at expected new

  -- steps that were done earlier don't matter
  later_too : (first before : List (Step Field)) (at : Field) (expected new : ℕ) → Allowed before at expected new
      → Allowed (first ++ before) at expected new
  later_too first before at expected new (inl raises) = inl (record {
    nth = raises.nth;
    within = raises.within;
    at_is = raises.at_is;
    new_is = raises.new_is;
    rises = raises.rises;
    earlier = first ++ raises.earlier;
    before_is = rw raises.before_is (sym (append_assoc first raises.earlier (saw at expected ∷ [])));
  })
  later_too first before at expected new (inr frees) = inr (record {
    cell = frees.cell;
    within = frees.within;
    at_is = frees.at_is;
    new_is = frees.new_is;
    ending = frees.ending;
    may = frees.may;
    earlier = first ++ frees.earlier;
    before_is = rw frees.before_is
        (sym (append_assoc first frees.earlier (look_steps cells known frees.cell expected frees.ending)));
  })

  joined : (first rest : List (Step Field)) → Exchanges first → Exchanges rest → Exchanges (first ++ rest)
  joined first rest are also before after at expected new found is =
      elim (in_either (tried at expected new found) first rest before after is) [
        | inl here ↦ are before here.0 at expected new found here.1
        | inr there ↦
            rw there.1
            (later_too first there.0 at expected new (also there.0 after at expected new found there.2))
      ]

  none : Exchanges []
  none before after at expected new found is = absurd
      (among_none (tried at expected new found) before after is)

  -- 3. The exchanges of an entry, and of a cell

  raises : (nth entry word : ℕ) → nth < workers → entry < slice_index seen nth
      → Exchanges (raise_steps seen nth entry word)
  raises nth entry word within lower before after at expected new found is =
      let entry_at = field.Horizon (nth + 1) in
      elim (among_two (tried at expected new found) (saw entry_at entry)
      (tried entry_at entry (slice_index seen nth) word)
      before after is) [
        | inl read ↦ absurd (no_read at expected new found entry_at entry read)
        | inr exchange ↦
            let same = same_exchange at expected new found entry_at entry (slice_index seen nth) word exchange.0 in
            let expected_is = same.1 in
            let new_is = same.2 in
            inl (record {
              nth = nth;
              within = within;
              at_is = same.0;
              new_is = new_is;
              rises = omega arith;
              earlier = [];
              before_is = rw (same.0, expected_is) exchange.1;
            })
      ]

  entry_exchanges : (nth entry : ℕ) (steps : List (Step Field)) → nth < workers → EntryKnown seen nth entry steps
      → Exchanges steps
  entry_exchanges nth entry steps within (was_reached least are) before after at expected new found is =
      absurd (no_read at expected new found (field.Horizon (nth + 1)) entry
      (among_one (tried at expected new found) (saw (field.Horizon (nth + 1)) entry) before after
      (sym are ∙ is)).0)
  entry_exchanges nth entry steps within (is_raised other lower same are) before after at expected new found is =
      raises nth other other within lower before after at expected new found (sym are ∙ is)
  entry_exchanges nth entry steps within (was_lost other lower lost are) before after at expected new found is =
      raises nth other entry within lower before after at expected new found (sym are ∙ is)

  entries_exchange : (entries : List ℕ) (nth : ℕ) (steps : List (Step Field)) → nth + length entries ≡ workers
      → EntriesKnown seen nth entries steps
      → Exchanges steps
  entries_exchange [] nth steps all are = rw are none
  entries_exchange (entry ∷ entries) nth steps all are =
      rw are.2
      (joined are.0 are.1 (entry_exchanges nth entry are.0 (omega arith) are.3)
      (entries_exchange entries (nth + 1) are.1 (omega arith) are.4))

  cell_exchanges : (cell : ℕ) (steps : List (Step Field)) → cell < cells.cells → CellCollected cells known cell steps
      → Exchanges steps
  cell_exchanges cell steps within (not_full tag other are) before after at expected new found is =
      absurd (no_read at expected new found (field.Tag cells.bucket cell) tag
      (among_one (tried at expected new found) (saw (field.Tag cells.bucket cell) tag) before after (sym are ∙ is)).0)
  cell_exchanges cell steps within (is_kept tag ending full why are) before after at expected new found is =
      elim (among_two (tried at expected new found) (saw (field.Tag cells.bucket cell) tag)
      (saw (field.End cells.bucket cell) ending) before after (sym are ∙ is)) [
        | inl read ↦ absurd (no_read at expected new found (field.Tag cells.bucket cell) tag read)
        | inr read ↦ absurd (no_read at expected new found (field.End cells.bucket cell) ending read.0)
      ]
  cell_exchanges cell steps within (is_freed tag ending word may are) before after at expected new found is =
      let free = tried (field.Tag cells.bucket cell) tag (freed tag) word in
      elim (among_three (tried at expected new found) (saw (field.Tag cells.bucket cell) tag)
      (saw (field.End cells.bucket cell) ending) free before after (sym are ∙ is)) [
        | inl (inl read) ↦ absurd (no_read at expected new found (field.Tag cells.bucket cell) tag read)
        | inl (inr read) ↦ absurd (no_read at expected new found (field.End cells.bucket cell) ending read)
        | inr exchange ↦
            let same =
            same_exchange at expected new found (field.Tag cells.bucket cell) tag (freed tag) word exchange.0 in
            inr (record {
              cell = cell;
              within = within;
              at_is = same.0;
              new_is = rw same.1 same.2;
              ending = ending;
              may = rw same.1 may;
              earlier = [];
              before_is = rw same.1 exchange.1;
            })
      ]

  cells_exchange : (count cell : ℕ) (steps : List (Step Field)) → cell + count ≡ cells.cells
      → Stretches (CellCollected cells known) cell count steps
      → Exchanges steps
  cells_exchange zero cell steps all are = rw are none
  cells_exchange (suc count) cell steps all are =
      rw are.2
      (joined are.0 are.1 (cell_exchanges cell are.0 (omega arith) are.3)
      (cells_exchange count (cell + 1) are.1 (omega arith) are.4))

  pub exchanges : (steps : List (Step Field)) → CollectedBy cells workers seen known steps → Exchanges steps
  exchanges steps by =
      let all = by.all in
      rw by.steps_are (joined by.raising by.freeing (entries_exchange known 0 by.raising (omega arith) by.entries)
      (cells_exchange cells.cells 0 by.freeing (omega arith) by.bucket))
