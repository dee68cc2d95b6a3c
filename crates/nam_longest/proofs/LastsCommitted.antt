-- A commit that is asked may last as long as its longest.
use Rattle.std.proofs.Common.{◌≡◌, ℕ, ◌+◌, ◌-◌, ◌*◌, ◌<◌, ◌≤◌, List, [], ◌∷◌, ◌++◌, length, take, refl, sym, ◌∙◌}
use Rattle.std.proofs.Common.{arith, ap, Bool, true, false, is_some}
use Rattle.std.proofs.lemmas.Bool.Decides.{nat_tests}
use Rattle.std.proofs.lemmas.List.{length-map}
use Rattle.std.specs.Prelude.{if◌then◌else◌, ◌==◌, map, None}
use Rattle.std.specs.List.{AllByRecursion}
use Rattle.si_model.specs.declared.row.Key.{Key}
use Rattle.si_model.specs.declared.row.Item.{Item}
use Rattle.si_model.specs.Rows.{item_key}
use Rattle.si_model.specs.Evaluation.{unwritten}
use Rattle.nam_verbs.proofs.TestLemmas.{by_test}
use Rattle.nam_catalog.specs.declared.shape.Shape.{Shape}
use Rattle.nam_catalog.specs.Fits.{FitsLimits}
use Rattle.nam_catalog.specs.Greatest.{greatest_number}
use Rattle.nam_layout.specs.declared.field.Place.{Place}
use Rattle.nam_calls.specs.Words.{width_of}
use Rattle.nam_calls.specs.Lock.{lock_begin}
use Rattle.nam_protocol.specs.declared.txn.Record.{Record}
use Rattle.nam_protocol.specs.declared.txn.TxnState.{TxnState}
use Rattle.nam_protocol.specs.declared.txn.TxnPoint.TheVariants.{Committing}
use Rattle.nam_protocol.specs.declared.txn.CommitPoint.TheVariants.{Listing, Locking}
use Rattle.nam_protocol.specs.declared.txn.TxnAnswer.TheVariants.{ReadOnly, Spent}
use Rattle.nam_protocol.specs.Txn.{at, over}
use Rattle.nam_protocol.specs.Commit.{record_in, records_of, ask_commit, commit_begin, committing, list_begin, places}
use Rattle.nam_protocol.specs.Commit.{go}
use Rattle.nam_protocol.specs.Commit.{tells_intent, has_intents}
use Rattle.nam_protocol.specs.Bound.{installs_most, writes_bound, values_bound, intent_bound, commit_left, listed_from}
use Rattle.nam_protocol.specs.Bound.{listed_most, of_intent, after_locks, clear_left}
use Rattle.nam_protocol.specs.TxnFits.{is_claimed, IsPlaced, StateFits}
use Rattle.nam_protocol.proofs.FallsKeys.{records_length, tells_by_form}
use Rattle.nam_protocol.proofs.FallsBegins.{record_width}
use Rattle.nam_longest.specs.Deletions.{deleted_words, commit_longest, spared_from, commit_spared}
use Rattle.nam_longest.proofs.CommitToCome.{within, later_spared}
use Rattle.nam_longest.proofs.CallsToCome.{deleted_is}
use Rattle.nam_longest.proofs.LastsMachines.{on_false}
use Rattle.nam_longest.proofs.LastsTxn.{TxnLasts}
use Rattle.nam_longest.proofs.LastsListed.{unlocked, locked_lasts, listed_last}

-- 1. From its first verb on

module _ (shape : Shape) (limits : FitsLimits shape) (state : TxnState) (fits : StateFits shape state)
    (are : state.records ≡ records_of state) (some : 1 ≤ length state.writes) where
  begun_lasts : (m : ℕ)
      → m + commit_spared (unlocked state) (commit_begin (unlocked state))
      ≡ commit_left (unlocked state) (commit_begin (unlocked state))
      → TxnLasts shape (go (unlocked state) (commit_begin (unlocked state))) m
  begun_lasts m =
      let w = within shape limits state fits are some in
      let s = later_spared shape limits state fits are some 0 in
      let k = 2 * length (places state) + after_locks state + clear_left state - spared_from state 0 in
      by_test (λ place. m + commit_spared (unlocked state) place ≡ commit_left (unlocked state) place
      → TxnLasts shape (go (unlocked state) place) m)
      (tells_intent (unlocked state)) (Listing list_begin) (Locking lock_begin)
      (λ t e. listed_last shape limits (unlocked state) fits are some (length state.records - 1) 0 k m (omega arith)
      (omega arith) (locked_lasts shape limits state fits are some k (omega arith)))
      (λ t e. locked_lasts shape limits state fits are some m (omega arith))

-- 2. How many verbs that is

deleted_least : (shape : Shape) (ws : List Item)
    → (deleted_words shape ws ≤ writes_bound shape (map item_key ws))
    × (deleted_words shape ws ≤ values_bound shape (map item_key ws))
deleted_least shape [] = (omega arith, omega arith)
deleted_least shape (w ∷ ws) =
    let r = deleted_least shape ws in
    let o = one (is_some w.value) (width_of shape w.table) in
    let a = r.0 in
    let b = r.1 in
    (omega arith, omega arith)
  where
    one : (b : Bool) (width : ℕ) → (if b then 0 else width) ≤ width
    one true width = omega arith
    one false width = omega arith

module _ (shape : Shape) (limits : FitsLimits shape) where
  abbrev places_in : List Record → List Key → List Place
  places_in cs keys = map (λ (r : Record). r.place) (map (record_in cs) keys)

  writes_take : (cs : List Record) (ws : List Item) (others : List Key) → AllByRecursion (IsPlaced shape) cs
      → AllByRecursion (λ item. is_claimed cs (item_key item) ≡ true) ws
      → installs_most (take (length ws) (places_in cs (map item_key ws ++ others))) + 4 * length ws
      ≡ writes_bound shape (map item_key ws)
  writes_take cs [] others placed all = refl
  writes_take cs (w ∷ ws) others placed all =
      let r = writes_take cs ws others placed all.1 in
      let e = record_width shape limits cs (item_key w) placed all.0 in
      omega arith

  guards_take : (cs : List Record) (keys : List Key) → listed_most 0 (places_in cs keys) ≡ 2 * length keys
  guards_take cs [] = refl
  guards_take cs (key ∷ keys) = let r = guards_take cs keys in omega arith

  intent_takes : (cs : List Record) (ws : List Item) (others : List Key) → AllByRecursion (IsPlaced shape) cs
      → AllByRecursion (λ item. is_claimed cs (item_key item) ≡ true) ws
      → listed_most (length ws) (places_in cs (map item_key ws ++ others)) + length ws
      ≡ values_bound shape (map item_key ws) + 2 * length others
  intent_takes cs [] others placed all = let r = guards_take cs others in omega arith
  intent_takes cs (w ∷ ws) others placed all =
      let r = intent_takes cs ws others placed all.1 in
      let e = record_width shape limits cs (item_key w) placed all.0 in
      omega arith

  longest_is : (state : TxnState) → StateFits shape state → 1 ≤ length state.writes
      → commit_longest shape state + commit_spared (committing state) (commit_begin (committing state))
      ≡ commit_left (committing state) (commit_begin (committing state))
  longest_is state fits some =
      let others = unwritten state.writes state.guards in
      let now = committing state in
      let w = writes_take state.claims state.writes others fits.placed fits.written in
      let i = intent_takes state.claims state.writes others fits.placed fits.written in
      let d = deleted_is shape limits state.claims state.writes others fits.placed fits.written in
      let l = deleted_least shape state.writes in
      let a = l.0 in
      let b = l.1 in
      let r = records_length shape state fits in
      let p : length (map (λ (r : Record). r.place) (records_of state)) ≡ length (records_of state) =
      length-map (records_of state) (λ (r : Record). r.place) in
      let same = tells_by_form shape now fits refl some in
      let all : length state.writes - 0 ≡ length state.writes = omega arith in
      let listed : listed_from now 0 ≡ listed_most (length state.writes) (places now) =
      ap (λ n. listed_most n (places now)) all in
      let part : (b : Bool) (n : ℕ) → tells_intent now ≡ b → of_intent now n ≡ (if b then n else 0) =
      λ b n e. ap (λ (b : Bool). if b then n else 0) e in
      let bound : (b : Bool) → has_intents shape.form ≡ b
      → intent_bound shape (map item_key state.writes) (length others)
      ≡ (if b then values_bound shape (map item_key state.writes) + 2 * length others + 4 else 0) =
      λ b e. ap (λ (b : Bool). if b then values_bound shape (map item_key state.writes) + 2 * length others + 4 else 0)
      e in
      let less : (b : Bool) → has_intents shape.form ≡ b
      → (if has_intents shape.form then deleted_words shape state.writes else 0)
      ≡ (if b then deleted_words shape state.writes else 0) =
      λ b e. ap (λ (b : Bool). if b then deleted_words shape state.writes else 0) e in
      by_test (λ place. commit_longest shape state + commit_spared now place ≡ commit_left now place)
      (tells_intent now) (Listing list_begin) (Locking lock_begin)
      (λ t. let f = part true (length state.writes + 1) t in
      let g = part true 1 t in
      let c = bound true (sym same ∙ t) in
      let k = less true (sym same ∙ t) in
      omega arith)
      (λ t. let f = part false (length state.writes + 1) t in
      let g = part false 1 t in
      let c = bound false (sym same ∙ t) in
      let k = less false (sym same ∙ t) in
      omega arith)

  -- 3. It is asked

  pub commit_reached : (state : TxnState) → StateFits shape state → 1 ≤ length state.writes
      → state.last < greatest_number shape.form
      → TxnLasts shape (ask_commit shape state) (commit_longest shape state)
  commit_reached state fits some room =
      let n = commit_longest shape state in
      let none = record state { read = None } in
      let begun = at (committing state) (Committing (commit_begin (committing state))) in
      on_false (λ step. TxnLasts shape step n) (length state.writes == 0) (over none ReadOnly)
      (if state.last == greatest_number shape.form then over none Spent else begun) (grind (arith, nat_tests))
      (on_false (λ step. TxnLasts shape step n) (state.last == greatest_number shape.form) (over none Spent) begun
      (grind (arith, nat_tests))
      (begun_lasts shape limits (committing state) fits refl some n (longest_is state fits some)))
