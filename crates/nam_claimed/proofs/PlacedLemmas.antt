-- Where a claim ends with a position, the key stands there once its word is taken.
use Rattle.std.proofs.Common.{Some, ap, arith, inl, inr, subst, sym, ℕ, ◌+◌, ◌<◌, ◌∙◌, ◌≡◌}
use Rattle.std.specs.Prelude.{◌==◌, ◌||◌}
use Rattle.std.proofs.lemmas.Bool.{eqb-true, or_cases}
use Rattle.si_model.specs.Evaluation.{op_key}
use Rattle.si_model.specs.declared.op.Op.{Op}
use Rattle.nam_verbs.specs.declared.now.Now.{Now}
use Rattle.nam_verbs.specs.declared.now.Now.TheVariants.{At, Over}
use Rattle.nam_verbs.proofs.TestLemmas.{by_equal, by_test}
use Rattle.nam_catalog.specs.declared.shape.Shape.{Shape}
use Rattle.nam_layout.specs.declared.field.Field.{Field}
use Rattle.nam_calls.specs.Index.{claim_key_after, claim_key_next, nth_key, nth_position}
use Rattle.nam_calls.specs.Memory.{memory}
use Rattle.nam_calls.specs.Words.{capacity_of, key_word}
use Rattle.nam_calls.specs.declared.index.ClaimKeyEnd.{ClaimKeyEnd}
use Rattle.nam_calls.specs.declared.index.ClaimKeyPoint.{ClaimKeyPoint}
use Rattle.nam_calls.specs.declared.index.ClaimKeyPoint.TheVariants.{KeyLook, KeyTake}
use Rattle.nam_calls.specs.declared.index.Path.{Path}
use Rattle.nam_calls.proofs.FieldLemmas.{key_is}
use Rattle.nam_protocol.specs.Operations.{op_path}
use Rattle.nam_protocol.specs.declared.client.CallPoint.TheVariants.{InTxn}
use Rattle.nam_protocol.specs.declared.client.ClientState.{ClientState}
use Rattle.nam_protocol.specs.declared.txn.TxnPoint.TheVariants.{Claiming}
use Rattle.nam_store.specs.Base.{BaseOk}
use Rattle.nam_store.specs.LoadedLaw.{KeysStand}
use Rattle.nam_store.specs.Store.{Store, client_at, found_word, step}
use Rattle.nam_store.proofs.PathLemmas.{on_row, row_on}
use Rattle.nam_ghost.specs.Keys.{KeysNext, key_view}
use Rattle.nam_claimed.specs.EndsLaw.{PlacedLaw}
use Rattle.nam_claimed.specs.Home.{home_of}
use Rattle.nam_claimed.proofs.EndLemmas.{finds}
use Rattle.nam_claimed.proofs.HomeLemmas.{home_at, table_within}
use Rattle.nam_claimed.proofs.PathLemmas.{word_on}
use Rattle.nam_claimed.proofs.WriteLemmas.{take_changes}
use Rattle.nam_calls.specs.declared.index.ClaimKeyEnd.TheVariants as claimed_key

-- the position that a claim ends with
abbrev position_in : Now ClaimKeyPoint ClaimKeyEnd → ℕ
position_in (Over (claimed_key.At position)) = position
position_in _ = 0

module _ (shape : Shape) (store : Store) (base : BaseOk shape store) (nth : ℕ) (client : ClientState)
    (here : client_at store nth ≡ Some client)
    (next : KeysNext shape (memory shape store.words) (memory shape (step shape store nth client).words))
    (stand : KeysStand shape (step shape store nth client).words) (op : Op) (position : ℕ) where
  abbrev m : Field → ℕ
  m = memory shape store.words

  abbrev now : Field → ℕ
  now = memory shape (step shape store nth client).words

  abbrev table : ℕ
  table = (op_key op).table

  abbrev key : ℕ
  key = (op_key op).key

  abbrev path : Path
  path = op_path shape op

  abbrev Placed : Now ClaimKeyPoint ClaimKeyEnd → Type 0
  Placed end = end ≡ Over (claimed_key.At position) → home_of shape now (op_key op) ≡ Some position

  module _ (passed : ℕ) (less : passed < capacity_of shape table) where
    -- the key stands there
    stands_there : word_on shape now table key passed ≡ key_word key
        → Placed (Over (claimed_key.At (nth_position path passed)))
    stands_there bears ends =
        subst (λ p. home_of shape now (op_key op) ≡ Some p) (ap position_in ends)
        (home_at shape (step shape store nth client).words stand (op_key op) (nth_position path passed) (omega arith)
        (ap now (sym (key_is shape table key passed)) ∙ bears))

    -- so it does where it stood before the word
    stood_there : word_on shape m table key passed ≡ key_word key
        → Placed (Over (claimed_key.At (nth_position path passed)))
    stood_there bears =
        stands_there (next (row_on shape table key passed)
        (on_row shape table (table_within shape table passed less) key passed less).within
        (λ none. let word = sym bears ∙ none in omega arith) ∙ bears)

    next_placed : Placed (claim_key_next path passed)
    next_placed =
        by_equal Placed (passed + 1) (capacity_of shape table) (Over claimed_key.NoSpace) (At (KeyLook (passed + 1)))
        (λ whole e. absurd (cc)) (λ more e. absurd (cc))

    module _ (found : ℕ) (is : found ≡ word_on shape m table key passed) where
      look_placed : Placed (claim_key_after path (KeyLook passed) found)
      look_placed =
          by_equal Placed found (key_word key) (Over (claimed_key.At (nth_position path passed))) _
          (λ same. stood_there (sym is ∙ same))
          (λ other. by_equal Placed found 0 (At (KeyTake passed)) (claim_key_next path passed) (λ free e. absurd (cc))
          (λ some. next_placed))

      -- the exchange has left the key where none stood
      taken_there : client.call ≡ Some (At (InTxn (Claiming op (KeyTake passed)))) → found ≡ 0
          → word_on shape now table key passed ≡ key_word key
      taken_there runs none =
          by_equal (λ word. now (nth_key path passed) ≡ word → now (nth_key path passed) ≡ key_word key)
          (m (nth_key path passed)) 0 (key_word key) (m (nth_key path passed)) (λ free written. written)
          (λ some stays. absurd (some (sym is ∙ none)))
          (take_changes shape store base nth client here op passed runs).here

      take_placed : client.call ≡ Some (At (InTxn (Claiming op (KeyTake passed))))
          → Placed (claim_key_after path (KeyTake passed) found)
      take_placed runs =
          by_test Placed ((found == 0) || (found == key_word key)) (Over (claimed_key.At (nth_position path passed)))
          (claim_key_next path passed)
          (λ has. elim (or_cases (found == 0) (found == key_word key) has) [
            | inl none ↦ stands_there (taken_there runs (eqb-true found 0 none))
            | inr same ↦ stood_there (sym is ∙ eqb-true found (key_word key) same)
          ])
          (λ neither. next_placed)

  placed : (at : ClaimKeyPoint) → client.call ≡ Some (At (InTxn (Claiming op at)))
      → Placed (claim_key_after path at (found_word shape store client))
  placed (KeyLook passed) runs =
      let found = finds shape store base nth client here table key passed (ap key_view runs) in
      look_placed passed found.0 (found_word shape store client) found.1
  placed (KeyTake passed) runs =
      let found = finds shape store base nth client here table key passed (ap key_view runs) in
      take_placed passed found.0 (found_word shape store client) found.1 runs

pub placed_holds : PlacedLaw
placed_holds shape store base nth client here next stand op at runs position ends =
    placed shape store base nth client here next stand op position at runs ends
