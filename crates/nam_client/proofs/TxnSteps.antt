-- What a word does with a transaction, in numbers: its claims, its locks, and what it has read.
use Rattle.std.specs.Prelude.{Option, Some, None}
use Rattle.std.proofs.Common.{Bool, List, [], ◌∷◌, ◌++◌, ap, length, refl, sym, subst, true, false, ℕ, ◌+◌, ◌≤◌, ◌<◌}
use Rattle.std.proofs.Common.{◌≡◌, ◌∙◌, arith}
use Rattle.std.proofs.Common.{inl, inr, ◌⊎◌}
use Rattle.std.proofs.lemmas.Bool.{false≢true}
use Rattle.std.proofs.lemmas.List.{length-append}
use Rattle.si_model.specs.declared.row.Item.{Item}
use Rattle.nam_verbs.specs.declared.now.Now.{Now}
use Rattle.nam_verbs.specs.declared.now.Now.TheVariants.{At, Over}
use Rattle.nam_catalog.specs.declared.shape.Shape.{Shape}
use Rattle.nam_calls.specs.declared.lock.LockPoint.TheVariants.{Seize}
use Rattle.nam_protocol.specs.declared.txn.CommitPoint.{CommitPoint}
use Rattle.nam_protocol.specs.declared.txn.CommitPoint.TheVariants.{Locking, Checking, Returning, Saving, Copying}
use Rattle.nam_protocol.specs.declared.txn.CommitPoint.TheVariants.{Installing, Publishing, Freeing}
use Rattle.nam_protocol.specs.declared.txn.CommitPoint.TheVariants.{Listing, Counting, Deciding, Clearing, Ending}
use Rattle.nam_protocol.specs.declared.txn.Record.{Record}
use Rattle.nam_protocol.specs.declared.txn.Refusal.TheVariants as refusal
use Rattle.nam_protocol.specs.declared.txn.TxnAnswer.{TxnAnswer}
use Rattle.nam_protocol.specs.declared.txn.TxnAnswer.TheVariants as txn_answer
use Rattle.nam_protocol.specs.declared.txn.TxnPoint.{TxnPoint}
use Rattle.nam_protocol.specs.declared.txn.TxnPoint.TheVariants.{Finding, Reading, Claiming, Committing}
use Rattle.nam_protocol.specs.declared.txn.TxnState.{TxnState}
use Rattle.nam_protocol.specs.AttemptLaw.{has_passed}
use Rattle.nam_protocol.specs.Telling.{items_of}
use Rattle.nam_protocol.specs.Txn.{Stepped, with_claim}
use Rattle.nam_protocol.specs.TxnCalls.{txn_after}
use Rattle.nam_protocol.specs.TxnFits.{CommitPointFits, StateFits, TxnPointFits}
use Rattle.nam_protocol.proofs.FallsCommit.{held_within}
use Rattle.nam_protocol.proofs.FallsKeys.{records_length}
use Rattle.nam_protocol.proofs.FewLemmas.{few_keys}
use Rattle.nam_protocol.proofs.GoesCommit.{EndsAs, commit_goes}
use Rattle.nam_protocol.proofs.GoesTxn.{finding_goes, reading_goes, claiming_goes}
use Rattle.nam_protocol.proofs.KeyLemmas.{claims_within}
use Rattle.nam_txn.specs.Txn.{HeldFits}
use Rattle.nam_txn.proofs.ClaimLemmas.{claims_once}
use Rattle.nam_client.specs.Room.{lists_read}

-- 1. Reads that are owed

-- an operation may read a key, and claim one
abbrev pub owed_at : TxnPoint → ℕ
owed_at (Committing at) = 0
owed_at at = 1

abbrev pub owed_now : Now TxnPoint TxnAnswer → ℕ
owed_now (At at) = owed_at at
owed_now (Over end) = 0

-- an answer that lists reads has no more at hand than were owed
abbrev pub ReadsWithin : ℕ → Stepped → Now TxnPoint TxnAnswer → Type 0
ReadsWithin owed next (At at) = Unit {0}
ReadsWithin owed next (Over end) = lists_read end ≡ true → length (items_of next.state.read) ≤ owed

-- what a step does
pub record Steps (state : TxnState) (owed : ℕ) (next : Stepped) : Type 0 where
  pub owed_less : owed_now next.call ≤ owed
  pub claims : length next.state.claims + owed_now next.call ≤ length state.claims + owed
  pub reads : ReadsWithin owed next next.call
  pub least : length state.held ≤ length next.state.held
  pub most : length next.state.held ≤ length state.held + 1
  pub held : length next.state.held ≤ length state.claims

-- 2. An operation

owed_once : (at : TxnPoint) → owed_at at ≤ 1
owed_once (Finding op passed) = omega arith
owed_once (Reading op position at) = omega arith
owed_once (Claiming op at) = omega arith
owed_once (Committing at) = omega arith

pub owed_now_once : (now : Now TxnPoint TxnAnswer) → owed_now now ≤ 1
owed_now_once (At at) = owed_once at
owed_now_once (Over end) = omega arith

items_once : (read : Option Item) → length (items_of read) ≤ 1
items_once None = omega arith
items_once (Some item) = omega arith

pub reads_once : (next : Stepped) (now : Now TxnPoint TxnAnswer) → ReadsWithin 1 next now
reads_once next (At at) = tt
reads_once next (Over end) = λ lists. items_once next.state.read

-- an operation keeps the locks as they are
abbrev KeepsHeld : TxnState → Stepped → Type 0
KeepsHeld state next = next.state.held ≡ state.held

abbrev ClaimsOne : TxnState → Stepped → Type 0
ClaimsOne state next = length next.state.claims + owed_now next.call ≤ length state.claims + 1

claimed_one : (claims : List Record) (r : Record) → length (with_claim claims r) ≤ length claims + 1
claimed_one claims r = claims_within claims r (length claims + 1) (omega arith) (λ new. omega arith)

claims_one : (shape : Shape) (state : TxnState) (at : TxnPoint) (found : ℕ)
    → ClaimsOne state (txn_after shape state at found)
claims_one shape state at found = elim (claims_once shape state at found) [
  | inl same ↦
      let next = txn_after shape state at found in
      let once = owed_now_once next.call in
      let claims = ap (λ (cs : List Record). length cs) same in
      omega arith
  | inr (r, end, claims, over) ↦
      let next = txn_after shape state at found in
      let none : owed_now next.call ≡ 0 = ap owed_now over in
      let more = ap (λ (cs : List Record). length cs) claims in
      let one = claimed_one state.claims r in
      omega arith
]

op_steps : (shape : Shape) (state : TxnState) (at : TxnPoint) (found : ℕ) → state.held ≡ []
    → KeepsHeld state (txn_after shape state at found) → Steps state 1 (txn_after shape state at found)
op_steps shape state at found none keeps =
    let next = txn_after shape state at found in
    let now = ap (λ (hs : List ℕ). length hs) keeps in
    let before = ap (λ (hs : List ℕ). length hs) none in
    record {
      owed_less = owed_now_once next.call;
      claims = claims_one shape state at found;
      reads = reads_once next next.call;
      least = omega arith;
      most = omega arith;
      held = omega arith;
    }

-- 3. A commit

abbrev pub Quiet : TxnState → Stepped → Now TxnPoint TxnAnswer → Type 0
Quiet state next (At at) = owed_at at ≡ 0
Quiet state next (Over end) = lists_read end ≡ false

-- a lock is taken where its header was exchanged
abbrev TakesOne : TxnState → CommitPoint → Stepped → Type 0
TakesOne state place next =
    (next.state.held ≡ state.held)
    ⊎ ((header : ℕ) × (place ≡ Locking (Seize header)) × (next.state.held ≡ state.held ++ header ∷ []))

abbrev CommitsOn : TxnState → CommitPoint → Stepped → Type 0
CommitsOn state place next =
    (next.state.claims ≡ state.claims) × Quiet state next next.call × TakesOne state place next

quiet_end : (state : TxnState) (place : CommitPoint) (end : TxnAnswer)
    → EndsAs (λ (s : Stepped). Unit {0}) state place end → lists_read end ≡ false
quiet_end state (Listing at) end ends = absurd ends
quiet_end state (Locking at) end (lock, inl is) = ap lists_read is
quiet_end state (Locking at) end (lock, inr is) = ap lists_read is
quiet_end state (Checking at) end ends = absurd ends
quiet_end state (Returning given full) end is = ap lists_read is
quiet_end state (Counting nth) end ends = absurd ends
quiet_end state Deciding end ends = absurd ends
quiet_end state (Saving nth got) end ends = absurd ends
quiet_end state (Copying nth old at) end ends = absurd ends
quiet_end state (Installing nth at) end ends = absurd ends
quiet_end state Publishing end is = ap lists_read is
quiet_end state (Freeing nth) end is = ap lists_read is
quiet_end state (Clearing (refusal.Locked lock)) end is = ap lists_read is
quiet_end state (Clearing (refusal.Newer lock)) end is = ap lists_read is
quiet_end state (Clearing (refusal.Full lock)) end is = ap lists_read is
quiet_end state Ending end is = ap lists_read is

commits_on : (shape : Shape) (state : TxnState) (place : CommitPoint) (found : ℕ)
    → CommitsOn state place (txn_after shape state (Committing place) found)
commits_on shape state place found =
    commit_goes (CommitsOn state place) state place found (λ next goes. (refl, refl, inl refl))
    (λ header next is goes. (refl, refl, inr (header, is, refl)))
    (λ at count next is goes. (refl, refl, inl refl))
    (λ end ends. (refl, quiet_end state place end ends, inl refl))

pub quiet_owes : (state : TxnState) (next : Stepped) (now : Now TxnPoint TxnAnswer) → Quiet state next now
    → owed_now now ≡ 0
quiet_owes state next (At at) quiet = quiet
quiet_owes state next (Over end) quiet = refl

pub quiet_reads : (state : TxnState) (next : Stepped) (now : Now TxnPoint TxnAnswer) → Quiet state next now
    → ReadsWithin 0 next now
quiet_reads state next (At at) quiet = tt
quiet_reads state next (Over end) quiet = λ lists. absurd (false≢true (sym quiet ∙ lists))

module _ (shape : Shape) (state : TxnState) where
  -- the locks are no more than the records
  places_within : (at : CommitPoint) → CommitPointFits shape state at → length state.held ≤ length state.records
  places_within (Listing at) c = let h = c.0 in omega arith
  places_within (Locking at) c = held_within (length state.records) state.held at c.0
  places_within (Checking at) c = let h = c.0 in omega arith
  places_within (Returning given full) c = let h = c.0 in omega arith
  places_within (Counting nth) c = let h = c.0 in omega arith
  places_within Deciding c = let h = c.0 in omega arith
  places_within (Saving nth got) c = let h = c.0 in omega arith
  places_within (Copying nth old at) c = let h = c.0 in omega arith
  places_within (Installing nth at) c = let h = c.0 in omega arith
  places_within Publishing c = let h = c.0 in omega arith
  places_within (Freeing nth) c = let h = c.0 in omega arith
  places_within (Clearing refusal) c = let h = c.0 in omega arith
  places_within Ending c = let h = c.0 in omega arith

  one_more : (place : CommitPoint) (header : ℕ) → place ≡ Locking (Seize header) → CommitPointFits shape state place
      → length state.held < length state.records
  one_more place header is fits =
      (subst (λ (p : CommitPoint). CommitPointFits shape state p) is fits).0

  commit_steps : (place : CommitPoint) (found : ℕ) → StateFits shape state
      → TxnPointFits shape state (Committing place)
      → Steps state 0 (txn_after shape state (Committing place) found)
  commit_steps place found fits c =
      let next = txn_after shape state (Committing place) found in
      let on = commits_on shape state place found in
      let owes = quiet_owes state next next.call on.1 in
      let claims = ap (λ (cs : List Record). length cs) on.0 in
      let records = ap (λ (rs : List Record). length rs) c.0 in
      let many = records_length shape state fits in
      let exact = (few_keys shape state fits).exact in
      let within = places_within place c.2 in
      elim on.2 [
        | inl same ↦
            let held = ap (λ (hs : List ℕ). length hs) same in
            record {
              owed_less = omega arith;
              claims = omega arith;
              reads = quiet_reads state next next.call on.1;
              least = omega arith;
              most = omega arith;
              held = omega arith;
            }
        | inr (header, point, taken) ↦
            let held = ap (λ (hs : List ℕ). length hs) taken ∙ length-append state.held (header ∷ []) in
            let less = one_more place header point c.2 in
            record {
              owed_less = omega arith;
              claims = omega arith;
              reads = quiet_reads state next next.call on.1;
              least = omega arith;
              most = omega arith;
              held = omega arith;
            }
      ]

  -- 4. Each point

  pub steps : (at : TxnPoint) (found : ℕ) → StateFits shape state → TxnPointFits shape state at
      → HeldFits state (At at) → Steps state (owed_at at) (txn_after shape state at found)
  steps (Finding o passed) found fits c none =
      op_steps shape state (Finding o passed) found none
      (finding_goes shape (KeepsHeld state) o state passed found (λ next e. refl) (λ position e. refl) (λ e f. refl)
      (λ e end silent. refl))
  steps (Reading o position place) found fits c none =
      op_steps shape state (Reading o position place) found none
      (reading_goes shape (KeepsHeld state) o state position place found (λ next e. refl) (λ value e f. refl)
      (λ value e end silent. refl) (λ worker entry horizon e. refl) (λ e. refl))
  steps (Claiming o place) found fits c none =
      op_steps shape state (Claiming o place) found none
      (claiming_goes shape (KeepsHeld state) o state place found (λ next e. refl) (λ e. refl)
      (λ position e end silent is. refl))
  steps (Committing place) found fits c held = commit_steps place found fits c
