-- The tables of operations, the keys that a transaction claims, and the records of its commit.
use Rattle.std.proofs.Common.{◌≡◌, ℕ, zero, suc, ◌+◌, ◌-◌, ◌<◌, ◌≤◌, List, [], ◌∷◌, length, refl, sym, ◌∙◌, ap, subst}
use Rattle.std.proofs.Common.{arith, inl, inr, Bool, true, false, not, Option, Some, None}
use Rattle.std.specs.Prelude.{if◌then◌else◌, map, replicate, slice_index_or}
use Rattle.std.specs.List.{AllByRecursion}
use Rattle.std.proofs.lemmas.Bool.{cases_Bool, false≢true}
use Rattle.std.proofs.lemmas.List.{length-set, length-replicate, length-map, length-append}
use Rattle.si_model.specs.declared.row.Key.{Key}
use Rattle.si_model.specs.declared.row.Item.{Item}
use Rattle.si_model.specs.declared.op.Op.{Op}
use Rattle.si_model.specs.declared.op.Op.TheVariants.{Get, Put, Add, Del, Need, Guard, Scan}
use Rattle.si_model.specs.Rows.{key_at, same_key, item_key, item_at, writes_key}
use Rattle.si_model.specs.Evaluation.{field_of, with_field, new_number, with_write, with_guard, writes_after}
use Rattle.si_model.specs.Evaluation.{guards_after, op_key}
use Rattle.si_model.specs.Evaluation.{unwritten, OpFits}
use Rattle.si_model.specs.Operations.{op_claims}
use Rattle.si_model.specs.EvaluationLaws.{IsWide}
use Rattle.si_model.proofs.EvaluationLemmas.{same_key-refl, same_key_says}
use Rattle.si_model.proofs.ListLemmas.{All-append, All-map}
use Rattle.nam_verbs.proofs.TestLemmas.{by_test}
use Rattle.nam_catalog.specs.declared.bounds.TheConstants.{MOST_KEYS}
use Rattle.nam_catalog.specs.declared.shape.Table.{Table}
use Rattle.nam_layout.specs.declared.field.Place.{Place}
use Rattle.nam_catalog.specs.declared.shape.Shape.{Shape}
use Rattle.nam_catalog.specs.Fits.{FitsLimits}
use Rattle.nam_catalog.specs.Tables.{widths_of}
use Rattle.nam_layout.specs.PlaceFits.{FitsPlace}
use Rattle.nam_layout.specs.Place.{no_place}
use Rattle.nam_calls.specs.Words.{width_of}
use Rattle.nam_calls.specs.Fits.{HasWidth, IsTableOf}
use Rattle.nam_calls.proofs.FallsTests.{either}
use Rattle.nam_calls.proofs.FallsTables.{place_fits}
use Rattle.nam_protocol.specs.declared.txn.Record.{Record}
use Rattle.nam_protocol.specs.declared.txn.TxnState.{TxnState}
use Rattle.nam_protocol.specs.Operations.{holding, own_value}
use Rattle.nam_protocol.specs.Txn.{with_claim}
use Rattle.nam_protocol.specs.Commit.{has_intents, tells_intent, record_in, commit_keys, records_of, places}
use Rattle.nam_protocol.specs.Commit.{record_place, no_record, record_at}
use Rattle.nam_protocol.specs.TxnFits.{is_claimed, is_used, IsPlaced, KeysFit, StateFits, OpStands}
use Rattle.nam_protocol.proofs.KeyLemmas.{AreOnce, guarded_once, map_wrote, claimed_keys, map_claimed, claims_within}
use Rattle.nam_protocol.proofs.KeyLemmas.{used_after, used_kept, used_now, all_filter}

-- 1. Lists

module _ {A : Type 0} (P : A → Type 0) where
  pub all_at : (d : A) (xs : List A) (nth : ℕ) → AllByRecursion P xs → nth < length xs → P (slice_index_or xs nth d)
  all_at d [] nth all l = absurd (omega arith)
  all_at d (x ∷ xs) zero all l = all.0
  all_at d (x ∷ xs) (suc nth) all l = all_at d xs nth all.1 (omega arith)

pub place_of_nth : (rs : List Record) (nth : ℕ)
    → slice_index_or (map (λ (r : Record). r.place) rs) nth no_place ≡ (slice_index_or rs nth no_record).place
place_of_nth [] nth = refl
place_of_nth (r ∷ rs) zero = refl
place_of_nth (r ∷ rs) (suc nth) = place_of_nth rs nth

-- 2. Tables of operations

module _ (shape : Shape) (limits : FitsLimits shape) where
  pub op_table : (claims : List Record) (op : Op) → OpStands shape claims op → IsTableOf shape (op_key op).table
  op_table claims (Get t k) s = let e = length-map shape.tables (λ (t : Table). t.width) in let l = s.0.0 in omega arith
  op_table claims (Put t k v) s =
      let e = length-map shape.tables (λ (t : Table). t.width) in let l = s.0.0.0 in omega arith
  op_table claims (Add t k f up by) s =
      let e = length-map shape.tables (λ (t : Table). t.width) in let l = s.0.0.0 in omega arith
  op_table claims (Del t k) s = let e = length-map shape.tables (λ (t : Table). t.width) in let l = s.0.0 in omega arith
  op_table claims (Need t k f least) s =
      let e = length-map shape.tables (λ (t : Table). t.width) in let l = s.0.0.0 in omega arith
  op_table claims (Guard t k) s =
      let e = length-map shape.tables (λ (t : Table). t.width) in let l = s.0.0 in omega arith
  op_table claims (Scan t low high) s =
      let e = length-map shape.tables (λ (t : Table). t.width) in let l = s.0.0 in omega arith

-- 3. Claimed keys

or_else : (b x y : Bool) → (x ≡ true → y ≡ true) → (if b then true else x) ≡ true → (if b then true else y) ≡ true
or_else true x y f e = refl
or_else false x y f e = f e

claimed_more : (cs : List Record) (r : Record) (key : Key) → is_claimed cs key ≡ true
    → is_claimed (with_claim cs r) key ≡ true
claimed_more [] r key e = absurd (false≢true e)
claimed_more (c ∷ cs) r key e =
    either (λ (all : List Record). is_claimed all key ≡ true) (same_key c.key r.key) (c ∷ cs) (c ∷ with_claim cs r) e
    (or_else (same_key c.key key) (is_claimed cs key) (is_claimed (with_claim cs r) key) (claimed_more cs r key) e)

if_true : (b y : Bool) → b ≡ true → (if b then true else y) ≡ true
if_true true y e = refl
if_true false y e = absurd (false≢true e)

if_later : (b y : Bool) → y ≡ true → (if b then true else y) ≡ true
if_later true y e = refl
if_later false y e = e

claimed_now : (cs : List Record) (r : Record) → is_claimed (with_claim cs r) r.key ≡ true
claimed_now [] r = if_true (same_key r.key r.key) false (same_key-refl r.key)
claimed_now (c ∷ cs) r =
    by_test (λ (all : List Record). is_claimed all r.key ≡ true) (same_key c.key r.key) (c ∷ cs) (c ∷ with_claim cs r)
    (λ e. if_true (same_key c.key r.key) (is_claimed cs r.key) e)
    (λ e. if_later (same_key c.key r.key) (is_claimed (with_claim cs r) r.key) (claimed_now cs r))

-- a key that the write set writes is claimed where all of its keys are
written_claimed : (cs : List Record) (ws : List Item) (key : Key)
    → AllByRecursion (λ item. is_claimed cs (item_key item) ≡ true) ws
    → writes_key ws key ≡ true
    → is_claimed cs key ≡ true
written_claimed cs [] key all e = absurd (false≢true e)
written_claimed cs (w ∷ ws) key all e = elim (cases_Bool (same_key (item_key w) key)) [
  | inl same ↦ subst (λ (k : Key). is_claimed cs k ≡ true) (same_key_says (item_key w) key same) all.0
  | inr other ↦ written_claimed cs ws key all.1 (rw other at e)
]

pub all_wrote : (P : Item → Type 0) (ws : List Item) (i : Item) → AllByRecursion P ws → P i
    → AllByRecursion P (with_write ws i)
all_wrote P [] i all new = (new, tt)
all_wrote P (w ∷ ws) i all new =
    either (AllByRecursion P) (same_key (item_key w) (item_key i)) (i ∷ ws) (w ∷ with_write ws i) (new, all.1)
    (all.0, all_wrote P ws i all.1 new)

pub all_guarded : (P : Key → Type 0) (gs : List Key) (key : Key) → AllByRecursion P gs → P key
    → AllByRecursion P (with_guard gs key)
all_guarded P [] key all new = (new, tt)
all_guarded P (g ∷ gs) key all new =
    either (AllByRecursion P) (same_key g key) (g ∷ gs) (g ∷ with_guard gs key) all
    (all.0, all_guarded P gs key all.1 new)

all_claimed : {A : Type 0} (key : A → Key) (cs : List Record) (r : Record) (xs : List A)
    → AllByRecursion (λ x. is_claimed cs (key x) ≡ true) xs
    → AllByRecursion (λ x. is_claimed (with_claim cs r) (key x) ≡ true) xs
all_claimed key cs r [] all = tt
all_claimed key cs r (x ∷ xs) all = (claimed_more cs r (key x) all.0, all_claimed key cs r xs all.1)

field_width : (width f n : ℕ) (value : Option (List ℕ)) → HasWidth width value
    → length (with_field width value f n) ≡ width
field_width width f n None wide = length-set (replicate width 0) (f - 1) n ∙ length-replicate width 0
field_width width f n (Some v) wide = length-set v (f - 1) n ∙ wide

-- what holds of each claimed key and of one more
pub all_claims : (P : Record → Type 0) (cs : List Record) (r : Record) → AllByRecursion P cs → P r
    → AllByRecursion P (with_claim cs r)
all_claims P [] r all new = (new, tt)
all_claims P (c ∷ cs) r all new =
    either (AllByRecursion P) (same_key c.key r.key) (c ∷ cs) (c ∷ with_claim cs r) all
    (all.0, all_claims P cs r all.1 new)

pub claims_each : (P Q : Record → Type 0) → ((r : Record) → P r → Q r) → (cs : List Record) → AllByRecursion P cs
    → AllByRecursion Q cs
claims_each P Q each [] all = tt
claims_each P Q each (c ∷ cs) all = (each c all.0, claims_each P Q each cs all.1)

module _ (shape : Shape) where
  -- these keys are claimed, and among them all that are written or guarded so far
  pub record AreClaimed (claims : List Record) (writes : List Item) (guards : List Key) : Type 0 where
    pub few : length claims ≤ MOST_KEYS
    pub placed : AllByRecursion (IsPlaced shape) claims
    pub once : AreOnce (claimed_keys claims)
    pub written : AllByRecursion (λ item. is_claimed claims (item_key item) ≡ true) writes
    pub guarded : AllByRecursion (λ key. is_claimed claims key ≡ true) guards

  module _ (worker last : ℕ) (seen : List ℕ) (cs : List Record) (ws : List Item) (gs : List Key)
      (fits : KeysFit shape worker last seen cs ws gs) where
    pub are_claimed : AreClaimed cs ws gs
    are_claimed = record {
      few = fits.few;
      placed = fits.placed;
      once = fits.claimed_once;
      written = fits.written;
      guarded = fits.guarded;
    }

    -- one more key is claimed
    pub claim_fits : (r : Record) → IsPlaced shape r → (is_claimed cs r.key ≡ false → length cs < MOST_KEYS)
        → AreClaimed (with_claim cs r) ws gs × (is_claimed (with_claim cs r) r.key ≡ true)
    claim_fits r new room = (
      record {
        few = claims_within cs r MOST_KEYS fits.few room;
        placed = all_claims (IsPlaced shape) cs r fits.placed new;
        once = subst AreOnce (sym (map_claimed cs r)) (guarded_once (claimed_keys cs) r.key fits.claimed_once);
        written = all_claimed item_key cs r ws fits.written;
        guarded = all_claimed (λ (k : Key). k) cs r gs fits.guarded;
      },
      claimed_now cs r,
    )

    module _ (claims : List Record) (are : AreClaimed claims ws gs) where
      same_fits : AllByRecursion (λ (r : Record). is_used ws gs r.key ≡ true) claims
          → KeysFit shape worker last seen claims ws gs
      same_fits used = record {
        worker_is = fits.worker_is;
        last_is = fits.last_is;
        seen_is = fits.seen_is;
        few = are.few;
        placed = are.placed;
        claimed_once = are.once;
        written_once = fits.written_once;
        guarded_once = fits.guarded_once;
        written = are.written;
        guarded = are.guarded;
        used = used;
        wide = fits.wide;
      }

      write_fits : (key : Key) (value : Option (List ℕ)) → is_claimed claims key ≡ true
          → HasWidth (width_of shape key.table) value
          → AllByRecursion (λ (r : Record). is_used (with_write ws (item_at key value)) gs r.key ≡ true) claims
          → KeysFit shape worker last seen claims (with_write ws (item_at key value)) gs
      write_fits key value claimed wide used = record {
        worker_is = fits.worker_is;
        last_is = fits.last_is;
        seen_is = fits.seen_is;
        few = are.few;
        placed = are.placed;
        claimed_once = are.once;
        written_once = subst AreOnce (sym (map_wrote ws (item_at key value)))
            (guarded_once (map item_key ws) key fits.written_once);
        guarded_once = fits.guarded_once;
        written =
            all_wrote (λ item. is_claimed claims (item_key item) ≡ true) ws (item_at key value) are.written claimed;
        guarded = are.guarded;
        used = used;
        wide = all_wrote (IsWide (widths_of shape.tables)) ws (item_at key value) fits.wide wide;
      }

      guard_fits : (key : Key) → is_claimed claims key ≡ true
          → AllByRecursion (λ (r : Record). is_used ws (with_guard gs key) r.key ≡ true) claims
          → KeysFit shape worker last seen claims ws (with_guard gs key)
      guard_fits key claimed used = record {
        worker_is = fits.worker_is;
        last_is = fits.last_is;
        seen_is = fits.seen_is;
        few = are.few;
        placed = are.placed;
        claimed_once = are.once;
        written_once = fits.written_once;
        guarded_once = guarded_once gs key fits.guarded_once;
        written = are.written;
        guarded = all_guarded (λ k. is_claimed claims k ≡ true) gs key are.guarded claimed;
        used = used;
        wide = fits.wide;
      }

      -- an operation's write and guard, of a claimed key; after it all that is claimed is used
      pub op_fits : (op : Op) (value : Option (List ℕ)) → OpFits (widths_of shape.tables) op
          → is_claimed claims (op_key op) ≡ true → HasWidth (width_of shape (op_key op).table) value
          → AllByRecursion
          (λ (r : Record). used_after (widths_of shape.tables) (holding value) ws gs op r.key ≡ true) claims
          → KeysFit shape worker last seen claims (writes_after (widths_of shape.tables) op (holding value) ws)
          (guards_after op gs)
      op_fits (Get t k) value f claimed wide used = same_fits used
      op_fits (Put t k v) value f claimed wide used = write_fits (key_at t k) (Some v) claimed f.1 used
      op_fits (Add t k i up by) value f claimed wide used =
          write_fits (key_at t k)
          (Some (with_field (width_of shape t) value i (new_number up (field_of value i) by))) claimed
          (field_width (width_of shape t) i (new_number up (field_of value i) by) value wide) used
      op_fits (Del t k) value f claimed wide used = write_fits (key_at t k) None claimed tt used
      op_fits (Need t k i least) value f claimed wide used = same_fits used
      op_fits (Guard t k) value f claimed wide used = guard_fits (key_at t k) claimed used
      op_fits (Scan t low high) value f claimed wide used = same_fits used

    -- of a key that is claimed already
    pub own_fits : (op : Op) (value : Option (List ℕ)) → OpFits (widths_of shape.tables) op
        → is_claimed cs (op_key op) ≡ true → HasWidth (width_of shape (op_key op).table) value
        → KeysFit shape worker last seen cs (writes_after (widths_of shape.tables) op (holding value) ws)
        (guards_after op gs)
    own_fits op value f claimed wide =
        op_fits cs are_claimed op value f claimed wide
        (claims_each (λ r. is_used ws gs r.key ≡ true)
        (λ r. used_after (widths_of shape.tables) (holding value) ws gs op r.key ≡ true)
        (λ r. used_kept (widths_of shape.tables) (holding value) ws gs op r.key) cs fits.used)

    -- of a key that was claimed just now
    pub new_fits : (op : Op) (r : Record) (value : Option (List ℕ)) → OpFits (widths_of shape.tables) op
        → op_claims op ≡ true → r.key ≡ op_key op → IsPlaced shape r
        → (is_claimed cs r.key ≡ false → length cs < MOST_KEYS) → HasWidth (width_of shape (op_key op).table) value
        → KeysFit shape worker last seen (with_claim cs r)
        (writes_after (widths_of shape.tables) op (holding value) ws) (guards_after op gs)
    new_fits op r value f claims same new room wide =
        let c = claim_fits r new room in
        let Used : Record → Type 0 =
        λ (r : Record). used_after (widths_of shape.tables) (holding value) ws gs op r.key ≡ true in
        op_fits (with_claim cs r) c.0 op value f
        (subst (λ key. is_claimed (with_claim cs r) key ≡ true) same c.1) wide
        (all_claims Used cs r
        (claims_each (λ r. is_used ws gs r.key ≡ true) Used
        (λ r. used_kept (widths_of shape.tables) (holding value) ws gs op r.key) cs fits.used)
        (subst (λ key. used_after (widths_of shape.tables) (holding value) ws gs op key ≡ true) (sym same)
        (used_now (widths_of shape.tables) (holding value) ws gs op claims)))

    pub own_claimed : (key : Key) → writes_key ws key ≡ true → is_claimed cs key ≡ true
    own_claimed key e = written_claimed cs ws key fits.written e

  pub own_wide : (ws : List Item) (key : Key) → AllByRecursion (IsWide (widths_of shape.tables)) ws
      → HasWidth (width_of shape key.table) (own_value ws key)
  own_wide [] key all = tt
  own_wide (w ∷ ws) key all =
      by_test (HasWidth (width_of shape key.table)) (same_key (item_key w) key) w.value (own_value ws key)
      (λ e. subst (λ (k : Key). HasWidth (width_of shape k.table) w.value) (same_key_says (item_key w) key e) all.0)
      (λ e. own_wide ws key all.1)

  -- 4. The records of a commit

  -- the record of a claimed key
  pub record_placed : (cs : List Record) (key : Key) → AllByRecursion (IsPlaced shape) cs → is_claimed cs key ≡ true
      → IsPlaced shape (record_in cs key)
  record_placed [] key all e = absurd (false≢true e)
  record_placed (c ∷ cs) key all e =
      by_test (IsPlaced shape) (same_key c.key key) c (record_in cs key) (λ f. all.0)
      (λ f. record_placed cs key all.1 (rw f at e))

  each_placed : (cs : List Record) → AllByRecursion (IsPlaced shape) cs → (keys : List Key)
      → AllByRecursion (λ key. is_claimed cs key ≡ true) keys
      → AllByRecursion (λ key. IsPlaced shape (record_in cs key)) keys
  each_placed cs placed [] all = tt
  each_placed cs placed (k ∷ ks) all = (record_placed cs k placed all.0, each_placed cs placed ks all.1)

  module _ (state : TxnState) (fits : StateFits shape state) where
    -- each of the commit's keys is claimed
    pub keys_claimed : AllByRecursion (λ key. is_claimed state.claims key ≡ true) (commit_keys state)
    keys_claimed =
        let P : Key → Type 0 = λ key. is_claimed state.claims key ≡ true in
        All-append P (map item_key state.writes) (unwritten state.writes state.guards)
        (All-map item_key P state.writes fits.written)
        (all_filter P (λ key. not (writes_key state.writes key)) state.guards fits.guarded)

    records_placed : AllByRecursion (IsPlaced shape) (records_of state)
    records_placed =
        All-map (record_in state.claims) (IsPlaced shape) (commit_keys state)
        (each_placed state.claims fits.placed (commit_keys state) keys_claimed)

    -- how many records there are
    pub records_length : length (records_of state) ≡ length state.writes + length (unwritten state.writes state.guards)
    records_length =
        length-map (commit_keys state) (record_in state.claims)
        ∙ length-append (map item_key state.writes) (unwritten state.writes state.guards)
        ∙ ap (λ n. n + length (unwritten state.writes state.guards)) (length-map state.writes item_key)

    module _ (are : state.records ≡ records_of state) where
      pub places_length : length (places state) ≡ length state.records
      places_length = length-map state.records (λ (r : Record). r.place)

      pub writes_within : length state.writes ≤ length state.records
      writes_within = let e = records_length in let f = ap (λ (rs : List Record). length rs) are in omega arith

      pub record_is_placed : (nth : ℕ) → nth < length state.records → IsPlaced shape (record_at state nth)
      record_is_placed nth l =
          all_at (IsPlaced shape) no_record state.records nth
          (subst (AllByRecursion (IsPlaced shape)) (sym are) records_placed) l

      pub nth_fits : FitsLimits shape → (nth : ℕ) → nth < length state.records → FitsPlace (record_place state nth)
      nth_fits limits nth l =
          let p = record_is_placed nth l in
          subst FitsPlace (sym (place_of_nth state.records nth ∙ p.2))
          (place_fits shape limits (record_at state nth).key.table p.0 p.1.0 p.1.1)

      -- a commit tells its intent exactly in form Held
      pub tells_by_form : 1 ≤ length state.writes → tells_intent state ≡ has_intents shape.form
      tells_by_form some =
          let w = writes_within in
          let p = record_is_placed 0 (omega arith) in
          ap (λ (p : Place). has_intents p.form) (place_of_nth state.records 0 ∙ p.2)
