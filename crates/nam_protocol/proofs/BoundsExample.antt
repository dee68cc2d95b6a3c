-- Calls that take as many verbs as their bound says, or as any words can make them take.
use Rattle.std.proofs.Common.{◌≡◌, ℕ, ◌+◌, Bool, true, ◌&&◌, not, is_some, List, [], ◌∷◌, ◌++◌, length, refl}
use Rattle.std.specs.Prelude.{Some, option_map}
use Rattle.nam_catalog.specs.declared.form.Form.TheVariants.{Narrow}
use Rattle.nam_catalog.specs.declared.shape.Shape.{Shape}
use Rattle.nam_header.specs.Stamp.{with_lock, stamp_word, mark}
use Rattle.si_model.specs.declared.op.Op.TheVariants as op
use Rattle.nam_protocol.specs.declared.txn.TxnCall.TheVariants.{Get, Put, Guard}
use Rattle.nam_protocol.specs.declared.client.Call.TheVariants.{Begin, Txn, Scan, Tidy, Collect}
use Rattle.nam_protocol.specs.declared.client.ClientState.{ClientState}
use Rattle.nam_protocol.specs.declared.client.Open.{Open}
use Rattle.nam_protocol.specs.Client.{client_ask, client_verb, client_after}
use Rattle.nam_protocol.specs.Bound.{find_bound, op_bound, scan_bound, tidy_bound, collect_bound}
use Rattle.nam_protocol.proofs.Shown.{shape, table}
use Rattle.nam_protocol.proofs.ClientExample.{after_asked, worker_1, begun, newer_header, after_verbs, after_calls}
use Rattle.nam_protocol.proofs.ClientExample.{small}
use Rattle.nam_protocol.proofs.ClientExample.{opened}
use Rattle.nam_protocol.specs.Opening.{copies, load_from}

-- 1. How long a call lasts

module _ (shape : Shape) where
  -- the call has a verb for each of these words, and none after them
  abbrev takes_all : ClientState → List ℕ → Bool
  takes_all client [] = not (is_some (client_verb shape client))
  takes_all client (word ∷ words) =
      is_some (client_verb shape client) && takes_all (client_after shape client word) words

-- two workers, a table of so many positions with a ring of one slot each, and a bucket of two cells
abbrev store : ℕ → Shape
store capacity = shape Narrow 2 (table 1 capacity 1 ∷ []) 1 2 0

-- worker 1, in a transaction that sees no commit
abbrev reader : ℕ → ClientState
reader capacity = after_asked (store capacity) worker_1 begun

-- 2. Bounds that are met

-- the key at the last position, the first cell lost, the second one claimed and filled
abbrev tidied : List ℕ
tidied = 9 ∷ 1 ∷ 0 ∷ 0 ∷ newer_header ∷ 0 ∷ 4 ∷ 0 ∷ 0 ∷ 5 ∷ 0 ∷ 0 ∷ 0 ∷ 0 ∷ 0 ∷ 0 ∷ 0 ∷ []

tidy_is_met : takes_all (store 2) (client_ask (store 2) worker_1 (Tidy 0 0)) tidied ≡ true
tidy_is_met = refl

tidy_bound_is : length tidied ≡ tidy_bound (store 2) 0
tidy_bound_is = refl

abbrev first_header : ℕ
first_header = stamp_word Narrow (record { thread = 1; number = 1 })

-- each entry of the horizon raised, and each cell set free
abbrev collected : List ℕ
collected = 1 ∷ 1 ∷ 1 ∷ 1 ∷ 0 ∷ 0 ∷ 0 ∷ 0 ∷ 2 ∷ first_header ∷ 2 ∷ 2 ∷ first_header ∷ 2 ∷ []

collect_is_met : takes_all (store 2) (client_ask (store 2) worker_1 (Collect 0)) collected ≡ true
collect_is_met = refl

collect_bound_is : length collected ≡ collect_bound (store 2)
collect_bound_is = refl

-- 3. The longest reads, which end without a value: one verb below their bound

-- a version of the ring or of a cell that isn't there any more once its words are read
abbrev lost_slot : List ℕ
lost_slot = 0 ∷ newer_header ∷ 5 ∷ mark ∷ []

abbrev lost_cell : ℕ → List ℕ
lost_cell row = 2 ∷ row ∷ 0 ∷ newer_header ∷ 5 ∷ 6 ∷ []

-- the record is locked under the read, and by then has another version: all steps up to the last cell
abbrev long_read : ℕ → List ℕ
long_read row =
    (0 ∷ 5 ∷ with_lock Narrow 2 0 ∷ []) ++ lost_slot ++ (newer_header ∷ []) ++ lost_slot ++ lost_cell row

abbrev no_horizon : List ℕ
no_horizon = 0 ∷ 0 ∷ []

abbrev astray_get : List ℕ
astray_get = 9 ∷ 1 ∷ long_read 1 ++ lost_cell 1 ++ no_horizon

get_is_met : takes_all (store 2) (client_ask (store 2) (reader 2) (Txn (Get 0 0))) astray_get ≡ true
get_is_met = refl

get_bound_is : length astray_get + 1 ≡ find_bound (store 2) 0
get_bound_is = refl

abbrev astray_scan : List ℕ
astray_scan = 1 ∷ long_read 0 ++ lost_cell 0 ++ no_horizon

scan_is_met : takes_all (store 1) (client_ask (store 1) (reader 1) (Scan 0 0 9)) astray_scan ≡ true
scan_is_met = refl

scan_bound_is : length astray_scan + 1 ≡ scan_bound (store 1) 0
scan_bound_is = refl

-- 4. The longest guard: it goes on to claim its key only where the read has found a value, before the horizon

abbrev long_guard : List ℕ
long_guard = 9 ∷ 1 ∷ long_read 1 ++ (2 ∷ 1 ∷ 0 ∷ newer_header ∷ 5 ∷ 2 ∷ []) ++ (0 ∷ 9 ∷ 0 ∷ 0 ∷ [])

guard_is_met : takes_all (store 2) (client_ask (store 2) (reader 2) (Txn (Guard 0 0))) long_guard ≡ true
guard_is_met = refl

guard_bound_is : length long_guard + 1 + length no_horizon ≡ op_bound (store 2) (op.Guard 0 0)
guard_bound_is = refl

-- 5. Operations so far: a scan counts as the positions of its table

abbrev counts_of : Open → ℕ × ℕ
counts_of attempt = (attempt.ops, attempt.ops_so_far)

operations_so_far : option_map counts_of
    (after_calls small opened (Begin 1 1 ∷ Txn (Get 0 0) ∷ Scan 0 0 9 ∷ Txn (Put 0 0 (9 ∷ [])) ∷ [])).client.txn
    ≡ Some (3, 4)
unfolding after_verbs copies load_from
operations_so_far = refl
