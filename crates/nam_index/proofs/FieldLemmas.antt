-- each verb is at the key word of a row of the table
use Rattle.std.proofs.Common.{ℕ, sym, subst}
use Rattle.nam_verbs.specs.VerbAt.{target}
use Rattle.nam_verbs.specs.Machine.{Always}
use Rattle.nam_verbs.proofs.TakenLemmas.{holds_always}
use Rattle.nam_catalog.specs.declared.shape.Shape.{Shape}
use Rattle.nam_catalog.specs.Fits.{FitsLimits}
use Rattle.nam_layout.specs.Address.{IsRow}
use Rattle.nam_calls.specs.declared.index.ClaimKeyPoint.{ClaimKeyPoint}
use Rattle.nam_calls.specs.declared.index.ClaimKeyPoint.TheVariants.{KeyLook, KeyTake}
use Rattle.nam_calls.specs.Words.{capacity_of, path_of}
use Rattle.nam_calls.specs.Index.{nth_position, nth_key, find_verb, claim_key_verb}
use Rattle.nam_calls.specs.Fits.{FindFits, FindEnds, ClaimKeyFits, ClaimKeyEnds, IsTableOf}
use Rattle.nam_calls.proofs.FallsMachines.{find_falls, claim_key_falls}
use Rattle.nam_calls.proofs.FallsTables.{has_capacity}
use Rattle.nam_calls.proofs.FieldLemmas.{row_after, key_is, path_field}
use Rattle.nam_index.specs.FieldLaw.{IsKeyWord}
use Rattle.nam_index.proofs.PathLemmas.{stands}
use Rattle.nam_index.specs.Find as find
use Rattle.nam_index.specs.Claim as claim

module _ (shape : Shape) (limits : FitsLimits shape) (table : ℕ) (is : IsTableOf shape table) (key : ℕ) where
  nth_is_key : (passed : ℕ) → FindFits (capacity_of shape table) passed
      → IsKeyWord shape table key (nth_key (path_of shape table key) passed)
  nth_is_key passed fits = record {
    passed = passed;
    within = fits;
    is_key = key_is shape table key passed;
    is_field = subst (IsRow shape)
        (sym (row_after shape.tables table (nth_position (path_of shape table key) passed)))
        (path_field shape table key passed is fits);
    stands = stands shape limits table is key passed fits;
  }

  claims_at_key : (at : ClaimKeyPoint) → ClaimKeyFits (capacity_of shape table) at
      → IsKeyWord shape table key (target (claim_key_verb (path_of shape table key) at))
  claims_at_key (KeyLook passed) = nth_is_key passed
  claims_at_key (KeyTake passed) = nth_is_key passed

  pub finds_at_keys : Always (λ passed. IsKeyWord shape table key (target (find_verb (path_of shape table key) passed)))
      (find.running (find.finding shape table key))
  finds_at_keys =
      holds_always (FindFits (capacity_of shape table)) (FindEnds (capacity_of shape table))
      (find.running (find.finding shape table key))
      (λ passed fits found. find_falls (path_of shape table key) passed found fits) _
      (has_capacity shape limits table is) nth_is_key

  pub claims_at_keys : Always
      (λ at. IsKeyWord shape table key (target (claim_key_verb (path_of shape table key) at)))
      (claim.running (claim.claiming shape table key))
  claims_at_keys =
      holds_always (ClaimKeyFits (capacity_of shape table)) (ClaimKeyEnds (capacity_of shape table))
      (claim.running (claim.claiming shape table key))
      (λ at fits found. claim_key_falls (path_of shape table key) at found fits) _
      (has_capacity shape limits table is) claims_at_key
