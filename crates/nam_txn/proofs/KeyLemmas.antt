-- A list with one more key, by whether the key stands in it.
use Rattle.std.proofs.Common.{◌≡◌, ℕ, suc, ◌+◌, ◌<◌, ◌≤◌, List, [], ◌∷◌, ◌++◌, length, length-append, ap, refl, ◌∙◌, arith}
use Rattle.std.proofs.Common.{true, false, Option, Some, None, inl, inr}
use Rattle.std.specs.List.{position_from}
use Rattle.std.specs.Option.{option_map}
use Rattle.std.proofs.lemmas.Bool.{cases_Bool, false≢true}
use Rattle.std.proofs.lemmas.Bool.Decides.{nat_tests}
use Rattle.si_model.specs.declared.row.Key.{Key}
use Rattle.si_model.specs.declared.row.Item.{Item}
use Rattle.si_model.specs.Rows.{same_key, has_key, item_key}
use Rattle.si_model.specs.Evaluation.{with_write, with_guard}
use Rattle.si_model.proofs.WriteLemmas.{guarded_new}
use Rattle.si_model.specs.Places.{place_of}
use Rattle.si_model.proofs.PlaceLemmas.{wrote_first}
use Rattle.nam_protocol.specs.declared.txn.Record.{Record}
use Rattle.nam_protocol.specs.Txn.{with_claim}
use Rattle.nam_protocol.specs.TxnFits.{is_claimed}
use Rattle.nam_txn.specs.Read.{first_written, has_claim}

plus_suc : (n : ℕ) (o : Option ℕ) → option_map (λ k. (n + 1) + k) o ≡ option_map (λ k. n + k) (option_map suc o)
plus_suc n None = refl
plus_suc n (Some k) = ap Some (omega arith)

position_is : (ws : List Item) (key : Key) (n : ℕ)
    → position_from (λ i. same_key (item_key i) key) n ws ≡ option_map (λ k. n + k) (place_of ws key)
position_is [] key n = refl
position_is (w ∷ ws) key n = elim (cases_Bool (same_key (item_key w) key)) [
  | inl here ↦ rw here (ap Some (omega arith))
  | inr other ↦ rw other (position_is ws key (n + 1) ∙ plus_suc n (place_of ws key))
]

none_added : (o : Option ℕ) → option_map (λ k. 0 + k) o ≡ o
none_added None = refl
none_added (Some k) = ap Some (omega arith)

pub first_is : (ws : List Item) (key : Key) → first_written ws key ≡ place_of ws key
first_is ws key = position_is ws key 0 ∙ none_added (place_of ws key)

-- one more takes a place
one_longer : {A : Type 0} (xs : List A) (x : A) (n : ℕ) → length (xs ++ x ∷ []) ≤ n → length xs < n
one_longer xs x n within = let e = length-append xs (x ∷ []) in omega (arith, e, within)

pub write_room : (ws : List Item) (i : Item) (n : ℕ) → place_of ws (item_key i) ≡ None
    → length (with_write ws i) ≤ n → length ws < n
write_room ws i n none within = one_longer ws i n (rw (wrote_first ws i none) within)

pub guard_room : (gs : List Key) (key : Key) (n : ℕ) → has_key gs key ≡ false → length (with_guard gs key) ≤ n
    → length gs < n
guard_room gs key n new within = one_longer gs key n (rw (guarded_new gs key new) at within)

pub claim_same : (cs : List Record) (r : Record) → is_claimed cs r.key ≡ true → with_claim cs r ≡ cs
claim_same [] r there = absurd (false≢true there)
claim_same (c ∷ cs) r there = let rest = claim_same cs r in grind (arith, nat_tests)

pub claim_last : (cs : List Record) (r : Record) → is_claimed cs r.key ≡ false → with_claim cs r ≡ cs ++ r ∷ []
claim_last [] r there = refl
claim_last (c ∷ cs) r there = let rest = claim_last cs r in grind (arith, nat_tests)

pub claimed_any : (cs : List Record) (key : Key) → has_claim cs key ≡ is_claimed cs key
claimed_any [] key = refl
claimed_any (c ∷ cs) key = let rest = claimed_any cs key in grind (arith, nat_tests)

pub claim_room : (cs : List Record) (r : Record) (n : ℕ) → is_claimed cs r.key ≡ false
    → length (with_claim cs r) ≤ n → length cs < n
claim_room cs r n new within = one_longer cs r n (rw (claim_last cs r new) at within)
