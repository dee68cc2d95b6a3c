-- A read on words that nobody changes.
use Rattle.std.proofs.Common.{◌≡◌, ℕ, suc, ◌-◌, ◌<◌, ◌≤◌, List, Some, None, refl, sym, ◌∙◌, ap, subst, arith}
use Rattle.std.specs.Prelude.{slice_index}
use Rattle.nam_verbs.specs.declared.now.Now.{Now}
use Rattle.nam_verbs.specs.declared.now.Now.TheVariants.{At, Over}
use Rattle.nam_verbs.specs.declared.verb.Verb.{Verb}
use Rattle.nam_verbs.specs.Now.{verb_now, after_now, left_now, FitsNow}
use Rattle.nam_verbs.specs.Verb.{address_of, found_by}
use Rattle.nam_verbs.specs.VerbAt.{VerbAt, ReadAt, WriteAt, ExchangeAt, target, verb_by, found_at}
use Rattle.nam_verbs.specs.Falls.{FallsTo}
use Rattle.nam_catalog.specs.declared.shape.Shape.{Shape}
use Rattle.nam_catalog.specs.Words.{words_of}
use Rattle.nam_catalog.specs.Fits.{FitsLimits}
use Rattle.nam_layout.specs.declared.field.Field.{Field}
use Rattle.nam_layout.specs.Rows.{row_of}
use Rattle.nam_layout.specs.Address.{IsField, address}
use Rattle.nam_layout.specs.Place.{bucket_of}
use Rattle.nam_layout.proofs.AddressLemmas.{found_there}
use Rattle.nam_layout.proofs.PlaceLemmas.{known_stands}
use Rattle.nam_calls.specs.declared.reading.Sight.{Sight}
use Rattle.nam_calls.specs.declared.reading.ReadPoint.{ReadPoint}
use Rattle.nam_calls.specs.declared.reading.ReadingEnd.{ReadingEnd}
use Rattle.nam_calls.specs.declared.reading.ReadingEnd.TheVariants.{Got, Passed, Astray}
use Rattle.nam_calls.specs.Memory.{memory}
use Rattle.nam_calls.specs.Words.{capacity_of}
use Rattle.nam_calls.specs.Reading.{sight_of, read_begin, read_verb, read_after, read_left}
use Rattle.nam_calls.specs.Fits.{IsTableOf, ReadFits}
use Rattle.nam_calls.proofs.FallsRead.{read_falls}
use Rattle.nam_calls.proofs.FallsTables.{sight_fits, bucket_within}
use Rattle.nam_calls.proofs.FieldLemmas.{read_field, row_within}
use Rattle.nam_protocol.specs.Closed.{vector, value_under, read_alone}
use Rattle.nam_reader.specs.Reading.{sight_address}
use Rattle.nam_core.specs.Audit.{value_in}

-- from where the read stands it gives the position's value, whose verbs suffice
pub record GoesOn (shape : Shape) (table position : ℕ) (words : List ℕ) (now : Now ReadPoint ReadingEnd) : Type 0 where
  pub fits : FitsNow (ReadFits (sight_of shape table position)) now
  pub verbs : ℕ
  pub enough : left_now (read_left (sight_of shape table position)) now ≤ verbs
  pub gives :
      read_alone (sight_of shape table position) (vector shape words) (memory shape words) verbs now
      ≡ value_under shape words table position

-- where a call goes that falls, it fits and has fewer verbs to come
falls_now : {P E : Type 0} (Fits : P → Type 0) (Ends : E → Type 0) (left : P → ℕ) (after : E → ℕ) (n : ℕ)
    (now : Now P E) → FallsTo Fits Ends left after n now → FitsNow Fits now × (left_now left now < n)
falls_now Fits Ends left after n (At at) falls = falls
falls_now Fits Ends left after n (Over end) falls = let less = falls.1 in (tt, omega arith)

-- what a verb reaches and finds, where its word has the address of its field
reaches : (verb : VerbAt Field) (f : Field → ℕ) → address_of (verb_by f verb) ≡ f (target verb)
reaches (ReadAt at) f = refl
reaches (WriteAt at word) f = refl
reaches (ExchangeAt at expect word) f = refl

finds : (shape : Shape) (words : List ℕ) (verb : VerbAt Field) (f : Field → ℕ)
    → f (target verb) ≡ address shape (target verb)
    → found_by words (verb_by f verb) ≡ found_at (memory shape words) verb
finds shape words (ReadAt at) f same = ap (slice_index words) same
finds shape words (WriteAt at word) f same = refl
finds shape words (ExchangeAt at expect word) f same = ap (slice_index words) same

module _ (shape : Shape) (table position : ℕ) (words : List ℕ) where
  abbrev sight : Sight
  sight = sight_of shape table position

  abbrev seen : List ℕ
  seen = vector shape words

  abbrev verb_at : ReadPoint → Verb
  verb_at at = verb_by (sight_address sight) (read_verb sight at)

  pub goes_begin : GoesOn shape table position words (At read_begin)
  goes_begin = record { fits = tt; verbs = read_left sight read_begin; enough = omega arith; gives = refl }

  pub goes_end : (now : Now ReadPoint ReadingEnd) → GoesOn shape table position words now
      → None ≡ verb_now verb_at now → value_in now ≡ value_under shape words table position
  goes_end (At at) so none = absurd (cc)
  goes_end (Over (Got value)) so none = so.gives
  goes_end (Over (Passed worker entry horizon)) so none = so.gives
  goes_end (Over Astray) so none = so.gives

  module _ (limits : FitsLimits shape) (is : IsTableOf shape table) (less : position < capacity_of shape table) where
    abbrev row : ℕ
    row = row_of shape.tables table position

    address_is : (at : ReadPoint) → ReadFits sight at
        → address shape (target (read_verb sight at)) ≡ sight_address sight (target (read_verb sight at))
    address_is at fits =
        (known_stands shape row (bucket_of shape row) (target (read_verb sight at))
        (read_field sight (sight_fits shape limits table position is less) at fits)).0

    in_shape : (at : ReadPoint) → ReadFits sight at → IsField shape (target (read_verb sight at))
    in_shape at fits =
        (known_stands shape row (bucket_of shape row) (target (read_verb sight at))
        (read_field sight (sight_fits shape limits table position is less) at fits)).1
        (row_within shape table position is less) (bucket_within shape limits table position is less)

    pub goes_within : (now : Now ReadPoint ReadingEnd) (verb : Verb) → GoesOn shape table position words now
        → Some verb ≡ verb_now verb_at now → address_of verb < words_of shape
    goes_within (At at) verb so stands =
        let here : verb ≡ verb_at at = cc in
        let there = ap address_of here ∙ reaches (read_verb sight at) (sight_address sight)
        ∙ sym (address_is at so.fits) in
        subst (λ n. n < words_of shape) (sym there)
        (found_there shape (target (read_verb sight at)) (in_shape at so.fits)).0
    goes_within (Over end) verb so stands = absurd (cc)

    pub goes_next : (now : Now ReadPoint ReadingEnd) (verb : Verb) → GoesOn shape table position words now
        → Some verb ≡ verb_now verb_at now
        → GoesOn shape table position words (after_now (read_after sight seen) now (found_by words verb))
    goes_next (At at) verb so stands =
        let here : verb ≡ verb_at at = cc in
        let word = found_at (memory shape words) (read_verb sight at) in
        let found : found_by words verb ≡ word = ap (found_by words) here
        ∙ finds shape words (read_verb sight at) (sight_address sight) (sym (address_is at so.fits)) in
        let falls = falls_now _ _ _ _ _ _
        (read_falls sight (sight_fits shape limits table position is less) seen at word so.fits) in
        let fewer = falls.1 in
        let enough = so.enough in
        let some : suc (so.verbs - 1) ≡ so.verbs = omega arith in
        subst (λ n. GoesOn shape table position words (read_after sight seen at n)) (sym found) record {
          fits = falls.0;
          verbs = so.verbs - 1;
          enough = omega arith;
          gives = ap (λ n. read_alone sight seen (memory shape words) n (At at)) some ∙ so.gives;
        }
    goes_next (Over end) verb so stands = absurd (cc)
