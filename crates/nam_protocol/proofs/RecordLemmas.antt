-- The nth record of a commit: by what is read of the list there, and its key.
use Rattle.std.specs.List.{AllByRecursion}
use Rattle.std.specs.Prelude.{slice_index_or}
use Rattle.std.proofs.Common.{List, [], ap, arith, length, map, refl, subst, suc, sym, true, zero, ℕ, ◌++◌, ◌<◌, ◌∙◌}
use Rattle.std.proofs.Common.{◌∷◌, ◌≡◌}
use Rattle.std.proofs.lemmas.List.{get_or_read}
use Rattle.si_model.specs.declared.row.Item.{Item}
use Rattle.si_model.specs.declared.row.Key.{Key}
use Rattle.si_model.specs.Evaluation.{unwritten}
use Rattle.si_model.specs.Rows.{item_key, key_at}
use Rattle.nam_catalog.specs.declared.shape.Shape.{Shape}
use Rattle.nam_header.specs.Stamp.{stamp_in}
use Rattle.nam_protocol.specs.declared.txn.Record.{Record}
use Rattle.nam_protocol.specs.declared.txn.TxnState.{TxnState}
use Rattle.nam_protocol.specs.Commit.{commit_keys, lock_at, no_item, no_record, record_at, record_in, record_place}
use Rattle.nam_protocol.specs.Commit.{records_of}
use Rattle.nam_protocol.specs.TxnFits.{StateFits, is_claimed}
use Rattle.nam_protocol.proofs.FallsBegins.{record_key}
use Rattle.nam_protocol.proofs.FallsKeys.{keys_claimed, place_of_nth}

-- 1. What is read of the list

module _ (state : TxnState) (nth : ℕ) where
  pub place_is : record_place state nth ≡ (record_at state nth).place
  place_is = place_of_nth state.records nth

  -- whatever would stand past the list's end
  module _ (within : nth < length state.records) (r : Record) (read : r ≡ slice_index_or state.records nth r) where
    pub record_read : record_at state nth ≡ r
    record_read = sym (get_or_read state.records nth r within read no_record)

    pub place_read : record_place state nth ≡ r.place
    place_read = place_is ∙ ap (λ (s : Record). s.place) record_read

    -- with the stamp of the header that was found
    pub lock_read : (word : ℕ)
        → lock_at state nth word
        ≡ record { table = r.key.table; key = r.key.key; stamp = stamp_in r.place.form word }
    lock_read word =
        ap (λ (s : Record). record { table = s.key.table; key = s.key.key; stamp = stamp_in s.place.form word })
        record_read

-- 2. Keys

keys_in : (cs : List Record) (keys : List Key) → AllByRecursion (λ key. is_claimed cs key ≡ true) keys → (nth : ℕ)
    → (slice_index_or (map (record_in cs) keys) nth no_record).key ≡ slice_index_or keys nth (key_at 0 0)
keys_in cs [] all nth = refl
keys_in cs (key ∷ keys) all zero = record_key cs key all.0
keys_in cs (key ∷ keys) all (suc nth) = keys_in cs keys all.1 nth

written_first : (ws : List Item) (keys : List Key) (nth : ℕ) → nth < length ws
    → slice_index_or (map item_key ws ++ keys) nth (key_at 0 0) ≡ item_key (slice_index_or ws nth no_item)
written_first [] keys nth within = absurd (omega arith)
written_first (w ∷ ws) keys zero within = refl
written_first (w ∷ ws) keys (suc nth) within = written_first ws keys nth (omega arith)

module _ (shape : Shape) (state : TxnState) (fits : StateFits shape state) (are : state.records ≡ records_of state)
    (nth : ℕ) where
  -- the nth record is that of the commit's nth key, and those of the written items come first, in their order
  pub key_is : (record_at state nth).key ≡ slice_index_or (commit_keys state) nth (key_at 0 0)
  key_is =
      subst (λ (rs : List Record). (slice_index_or rs nth no_record).key
      ≡ slice_index_or (commit_keys state) nth (key_at 0 0)) (sym are)
      (keys_in state.claims (commit_keys state) (keys_claimed shape state fits) nth)

  pub written_key_is : nth < length state.writes
      → (record_at state nth).key ≡ item_key (slice_index_or state.writes nth no_item)
  written_key_is within = key_is ∙ written_first state.writes (unwritten state.writes state.guards) nth within
