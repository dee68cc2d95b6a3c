-- Words that make calls take as many verbs as their longest, at three shapes.
use Rattle.std.proofs.Common.{◌≡◌, ℕ, ◌+◌, ◌-◌, ◌*◌, Bool, true, ◌&&◌, not, is_some, List, [], ◌∷◌, ◌++◌, length, refl}
use Rattle.std.specs.Prelude.{zero, suc, replicate, ◌==◌}
use Rattle.nam_catalog.specs.declared.form.Form.TheVariants.{Narrow, Held}
use Rattle.nam_catalog.specs.declared.shape.Shape.{Shape}
use Rattle.nam_header.specs.Stamp.{stamp_word}
use Rattle.nam_layout.specs.Rows.{row_of}
use Rattle.nam_calls.specs.Words.{width_of, capacity_of, ring_of}
use Rattle.nam_protocol.specs.declared.txn.TxnCall.{TxnCall}
use Rattle.nam_protocol.specs.declared.txn.TxnCall.TheVariants.{Get, Put, Add, Del, Need, Guard, Commit}
use Rattle.nam_protocol.specs.declared.client.Call.{Call}
use Rattle.nam_protocol.specs.declared.client.Call.TheVariants.{Begin, Txn, Scan, Tidy, Collect}
use Rattle.nam_protocol.specs.declared.client.ClientState.{ClientState}
use Rattle.nam_protocol.specs.Bound.{find_bound, claim_bound, scan_bound}
use Rattle.nam_protocol.specs.Client.{client_ask, client_verb, client_after}
use Rattle.nam_protocol.specs.Telling.{new_client}
use Rattle.nam_protocol.proofs.Shown.{shape, table}
use Rattle.nam_longest.specs.Longest.{get_longest, guard_longest, scan_longest, call_longest}

-- 1. How long a call lasts

module _ (shape : Shape) where
  -- the call has a verb for each of these words, and none after them
  abbrev takes_all : ClientState → List ℕ → Bool
  takes_all client [] = not (is_some (client_verb shape client))
  takes_all client (word ∷ words) =
      is_some (client_verb shape client) && takes_all (client_after shape client word) words

  abbrev after_words : ClientState → List ℕ → ClientState
  after_words client [] = client
  after_words client (word ∷ words) = after_words (client_after shape client word) words

  -- worker 1, in a transaction that sees no commit
  abbrev reader : ClientState
  reader = after_words (client_ask shape (new_client 1 0) (Begin 1 1)) (replicate (2 * shape.workers) 0)

  -- the client's call takes these words, and they are as many as its longest
  abbrev is_longest_of : ClientState → Call → List ℕ → Bool
  is_longest_of client call words =
      takes_all (client_ask shape client call) words && (length words == call_longest shape client call)

  abbrev is_longest : Call → List ℕ → Bool
  is_longest call words = is_longest_of reader call words

-- 2. The words of a read

-- a header that each snapshot sees, the same locked, and one that no snapshot sees
abbrev seen : ℕ
seen = 0

abbrev seen_locked : ℕ
seen_locked = 1

abbrev unseen : ℕ
unseen = 8

-- the tag of a full cell
abbrev full : ℕ
full = 2

-- so many times these words
abbrev times : ℕ → List ℕ → List ℕ
times zero words = []
times (suc n) words = words ++ times n words

module _ (shape : Shape) (table : ℕ) where
  abbrev value : List ℕ
  value = replicate (width_of shape table) 5

  -- a version in a slot, which isn't there any more once its words are read
  abbrev lost_slots : List ℕ
  lost_slots = times (ring_of shape table) (seen ∷ unseen ∷ value ++ unseen ∷ [])

  abbrev cell : ℕ → ℕ → List ℕ
  cell position tag = full ∷ row_of shape.tables table position ∷ seen ∷ unseen ∷ value ++ tag ∷ []

  -- the record is locked under the read, and by then has another version: all steps up to the last cell
  abbrev to_last_cell : ℕ → List ℕ
  to_last_cell position =
      seen ∷ value ++ seen_locked ∷ lost_slots ++ unseen ∷ lost_slots
      ++ times (shape.cells - 1) (cell position unseen)

  -- the last cell has the version, or has lost it, so that the read goes astray
  abbrev finding : ℕ → List ℕ
  finding position = to_last_cell position ++ cell position full

  abbrev astray : ℕ → List ℕ
  astray position = to_last_cell position ++ cell position unseen ++ replicate shape.workers 0

  -- key 0 is at the last position
  abbrev found_last : List ℕ
  found_last = replicate (capacity_of shape table - 1) 9 ++ 1 ∷ []

  abbrev last : ℕ
  last = capacity_of shape table - 1

  -- each position is free, and its exchange finds another key
  abbrev claims : List ℕ
  claims = times (capacity_of shape table) (0 ∷ 9 ∷ [])

  -- 3. The longest words of calls

  abbrev get_words : List ℕ
  get_words = found_last ++ astray last

  abbrev guard_words : List ℕ
  guard_words = found_last ++ finding last ++ claims

  -- key 0 at each of the positions from this one on
  abbrev scan_words : ℕ → ℕ → List ℕ
  scan_words zero position = []
  scan_words (suc zero) position = 1 ∷ astray position
  scan_words (suc n) position = 1 ∷ finding position ++ scan_words n (position + 1)

  abbrev whole_scan : List ℕ
  whole_scan = scan_words (capacity_of shape table) 0

  -- each cell but the last is lost to another exchange, and the version is moved to the last one
  abbrev tidy_words : List ℕ
  tidy_words =
      found_last ++ 0 ∷ seen ∷ unseen ∷ times (shape.cells - 1) (0 ∷ 4 ∷ []) ++ 0 ∷ 0 ∷ value
      ++ replicate (width_of shape table + 3) 0 ++ 0 ∷ 0 ∷ 0 ∷ []

-- each entry of the horizon is raised, and each cell set free
abbrev collect_words : Shape → List ℕ
collect_words shape =
    replicate (2 * shape.workers) 1 ++ replicate (2 * shape.workers) 0
    ++ times shape.cells (full ∷ stamp_word shape.form (record { thread = 1; number = 1 }) ∷ full ∷ [])

-- a table of two positions
abbrev small : Shape
small = shape Narrow 2 (table 1 2 1 ∷ []) 1 2 0

-- a second table, of three positions of two words each, with rings of two slots, three cells and three workers
abbrev large : Shape
large = shape Held 3 (table 1 2 1 ∷ table 2 3 2 ∷ []) 2 3 0

-- fewer verbs claim a key than the horizon has entries
abbrev lone : Shape
lone = shape Narrow 3 (table 1 1 1 ∷ []) 1 1 0

small_get : is_longest small (Txn (Get 0 0)) (get_words small 0) ≡ true
small_get = refl

large_get : is_longest large (Txn (Get 1 0)) (get_words large 1) ≡ true
large_get = refl

large_need : is_longest large (Txn (Need 1 0 1 9)) (get_words large 1) ≡ true
large_need = refl

small_guard : is_longest small (Txn (Guard 0 0)) (guard_words small 0) ≡ true
small_guard = refl

large_guard : is_longest large (Txn (Guard 1 0)) (guard_words large 1) ≡ true
large_guard = refl

large_add : is_longest large (Txn (Add 1 0 1 true 3)) (guard_words large 1) ≡ true
large_add = refl

lone_guard : is_longest lone (Txn (Guard 0 0)) (get_words lone 0) ≡ true
lone_guard = refl

large_put : is_longest large (Txn (Put 1 0 (7 ∷ 7 ∷ []))) (claims large 1) ≡ true
large_put = refl

large_del : is_longest large (Txn (Del 1 0)) (claims large 1) ≡ true
large_del = refl

small_scan : is_longest small (Scan 0 0 9) (whole_scan small 0) ≡ true
small_scan = refl

large_scan : is_longest large (Scan 1 0 9) (whole_scan large 1) ≡ true
large_scan = refl

lone_scan : is_longest lone (Scan 0 0 9) (whole_scan lone 0) ≡ true
lone_scan = refl

large_begin : is_longest_of large (new_client 1 0) (Begin 1 1) (replicate 6 0) ≡ true
large_begin = refl

large_tidy : is_longest_of large (new_client 1 0) (Tidy 1 0) (tidy_words large 1) ≡ true
large_tidy = refl

large_collect : is_longest_of large (new_client 1 0) (Collect 1) (collect_words large) ≡ true
large_collect = refl

-- after a put or a deletion of key 0 another key is guarded
abbrev writer : Shape → TxnCall → ClientState
writer shape write =
    let wrote = after_words shape (client_ask shape (reader shape) (Txn write)) (1 ∷ []) in
    after_words shape (client_ask shape wrote (Txn (Guard 0 1))) (0 ∷ 2 ∷ [])

-- in form Held the intent is listed first, and counted and decided after the locks and the slot
small_commit : is_longest_of small (writer small (Put 0 0 (7 ∷ []))) (Txn Commit)
    (replicate 4 0 ++ 0 ∷ 4 ∷ replicate 10 0) ≡ true
small_commit = refl

large_commit : is_longest_of large (writer large (Put 0 0 (7 ∷ []))) (Txn Commit)
    (replicate 7 0 ++ replicate 4 0 ++ 0 ∷ 4 ∷ replicate 13 0) ≡ true
large_commit = refl

-- a deletion installs no data word, and lists none
small_deletion : is_longest_of small (writer small (Del 0 0)) (Txn Commit)
    (replicate 4 0 ++ 0 ∷ 4 ∷ replicate 9 0) ≡ true
small_deletion = refl

large_deletion : is_longest_of large (writer large (Del 0 0)) (Txn Commit)
    (replicate 6 0 ++ replicate 4 0 ++ 0 ∷ 4 ∷ replicate 12 0) ≡ true
large_deletion = refl

-- 4. How far below their bounds they are

get_below : get_longest large 1 + 1 ≡ find_bound large 1
get_below = refl

guard_below : guard_longest large 1 + 1 + large.workers ≡ find_bound large 1 + claim_bound large 1
guard_below = refl

-- where a claim takes fewer verbs than the horizon has entries, a guard may take as many as a get
lone_guard_is : guard_longest lone 0 ≡ get_longest lone 0
lone_guard_is = refl

scan_below : scan_longest large 1 + 3 * (1 + large.workers) ≡ scan_bound large 1 + large.workers
scan_below = refl
