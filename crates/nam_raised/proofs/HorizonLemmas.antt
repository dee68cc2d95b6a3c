-- What a step makes of the horizon: an entry stays, or is raised to that of the snapshot by which the client collects.
use Rattle.std.proofs.Common.{List, Option, Some, ap, arith, inl, inr, length, refl, subst, sym, ℕ, ◌+◌, ◌<◌}
use Rattle.std.proofs.Common.{◌≡◌, ◌≢◌, ◌⊎◌}
use Rattle.std.specs.Prelude.{slice_index}
use Rattle.std.proofs.lemmas.Bool.{cases_eq}
use Rattle.std.proofs.lemmas.Option.{none-some, same_Some}
use Rattle.nam_verbs.proofs.TestLemmas.{by_equal}
use Rattle.nam_verbs.specs.VerbAt.{VerbAt, left_at, target}
use Rattle.nam_verbs.specs.declared.now.Now.{Now}
use Rattle.nam_verbs.specs.declared.now.Now.TheVariants.{At}
use Rattle.nam_catalog.specs.declared.shape.Shape.{Shape}
use Rattle.nam_layout.specs.Place.{cells_of}
use Rattle.nam_layout.specs.declared.field.Field.{Field}
use Rattle.nam_layout.specs.declared.field.Field.TheVariants.{Horizon}
use Rattle.nam_calls.specs.Memory.{memory}
use Rattle.nam_calls.specs.Writes.{collect_writes}
use Rattle.nam_calls.specs.declared.horizon.CollectPoint.{CollectPoint}
use Rattle.nam_calls.specs.declared.horizon.CollectPoint.TheVariants.{CollectEnding, CollectFree, CollectTag}
use Rattle.nam_calls.specs.declared.horizon.CollectPoint.TheVariants.{HorizonLook, HorizonRaise}
use Rattle.nam_protocol.specs.Client.{call_verb}
use Rattle.nam_protocol.specs.declared.client.Answer.{Answer}
use Rattle.nam_protocol.specs.declared.client.CallPoint.{CallPoint}
use Rattle.nam_protocol.specs.declared.client.CallPoint.TheVariants.{Beginning, Collecting, InTxn, Moving, Scanning}
use Rattle.nam_protocol.specs.declared.client.CallPoint.TheVariants.{Seeking, Snapping}
use Rattle.nam_protocol.specs.declared.client.ClientState.{ClientState}
use Rattle.nam_protocol.specs.declared.txn.TxnPoint.TheVariants.{Claiming, Committing}
use Rattle.nam_store.specs.Base.{BaseOk}
use Rattle.nam_store.specs.Changed.{Changed, Does, OthersStay, written_at}
use Rattle.nam_store.specs.Kinds.{MayWrite, MayWriteAt}
use Rattle.nam_store.specs.Store.{Store, client_at, step}
use Rattle.nam_store.proofs.BaseLemmas.{does_law}
use Rattle.nam_store.proofs.StepLemmas.{verb_is}

-- the client collects, by a snapshot with this entry
pub record CollectsBy (client : ClientState) (a entry : ℕ) : Type 0 where
  pub bucket : ℕ
  pub prefix : ℕ
  pub seen : List ℕ
  pub at : CollectPoint
  pub runs : client.call ≡ Some (At (Collecting bucket prefix seen at))
  pub entry_is : slice_index seen a ≡ entry

-- entries of one number are one
horizon_one : (a b : ℕ) → Horizon (a + 1) ≡ Horizon (b + 1) → a ≡ b
horizon_one a b same = let one = ap worker_in same in omega arith
  where
    worker_in : Field → ℕ
    worker_in (Horizon worker) = worker
    worker_in _ = 0

module _ (shape : Shape) (store : Store) (base : BaseOk shape store) (nth : ℕ) (client : ClientState)
    (here : client_at store nth ≡ Some client) (a : ℕ) (less : a < shape.workers) where
  abbrev m : Field → ℕ
  m = memory shape store.words

  abbrev now : Field → ℕ
  now = memory shape (step shape store nth client).words

  abbrev Goes : Type 0
  Goes = (now (Horizon (a + 1)) ≡ m (Horizon (a + 1))) ⊎ CollectsBy client a (now (Horizon (a + 1)))

  module _ (place : CallPoint) (at : client.call ≡ Some (At place)) where
    does : Does shape store nth client
    does = does_law shape store base nth client place here at

    -- a call that writes no word of the horizon
    aside : (MayWrite (nth + 1) place (Horizon (a + 1)) → ⊥) → Goes
    aside none =
        inl (does.kinds (Horizon (a + 1)) (omega arith, omega arith)
        (λ writes. none (subst (λ (call : Option (Now CallPoint Answer)).
        MayWriteAt (nth + 1) call (Horizon (a + 1))) at writes)))

  module _ (bucket prefix : ℕ) (seen : List ℕ) where
    abbrev collecting : CollectPoint → CallPoint
    collecting at = Collecting bucket prefix seen at

    -- one that writes another word, or none
    unwritten : (at : CollectPoint) → client.call ≡ Some (At (collecting at))
        → (collect_writes (cells_of shape bucket) at ≢ Some (Horizon (a + 1))) → Goes
    unwritten at runs other =
        let stays : OthersStay shape m now (written_at shape client client.call) = (does (collecting at) runs).leaves in
        inl (subst (λ (call : Option (Now CallPoint Answer)). OthersStay shape m now (written_at shape client call))
        runs stays (Horizon (a + 1)) (omega arith, omega arith) other)

    -- the exchange of this entry: it is won, or the entry stays
    exchanged : (known : List ℕ) (expected : ℕ) → client.call ≡ Some (At (collecting (HorizonRaise known expected)))
        → length known ≡ a → Goes
    exchanged known expected runs same =
        let verb = call_verb shape client (collecting (HorizonRaise known expected)) in
        let changed : Changed shape m now (target verb) (left_at m verb) =
        subst (λ (v : VerbAt Field). Changed shape m now (target v) (left_at m v))
        (verb_is shape client (collecting (HorizonRaise known expected)) runs)
        (does (collecting (HorizonRaise known expected)) runs).changes in
        subst (λ k. (now (Horizon (k + 1)) ≡ m (Horizon (k + 1))) ⊎ CollectsBy client k (now (Horizon (k + 1)))) same
        (subst (λ word. (word ≡ m (Horizon (length known + 1))) ⊎ CollectsBy client (length known) word)
        (sym changed.here)
        (by_equal (λ word. (word ≡ m (Horizon (length known + 1))) ⊎ CollectsBy client (length known) word)
        (m (Horizon (length known + 1))) expected (slice_index seen (length known)) (m (Horizon (length known + 1)))
        (λ won. inr record {
          bucket = bucket;
          prefix = prefix;
          seen = seen;
          at = HorizonRaise known expected;
          runs = runs;
          entry_is = refl;
        })
        (λ lost. inl refl)))

    collects : (at : CollectPoint) → client.call ≡ Some (At (collecting at)) → Goes
    collects (HorizonLook known) runs = unwritten (HorizonLook known) runs (λ e. none-some _ e)
    collects (HorizonRaise known expected) runs = elim (cases_eq (length known) a) [
      | inl same ↦ exchanged known expected runs same
      | inr other ↦
          unwritten (HorizonRaise known expected) runs
          (λ e. other (horizon_one (length known) a (same_Some (Horizon (length known + 1)) (Horizon (a + 1)) e)))
    ]
    collects (CollectTag known cell) runs = unwritten (CollectTag known cell) runs (λ e. none-some _ e)
    collects (CollectEnding known cell tag) runs = unwritten (CollectEnding known cell tag) runs (λ e. none-some _ e)
    collects (CollectFree known cell tag) runs = unwritten (CollectFree known cell tag) runs (λ e. cc)

  pub horizon_goes : (place : CallPoint) → client.call ≡ Some (At place) → Goes
  horizon_goes (Collecting bucket prefix seen at) runs = collects bucket prefix seen at runs
  horizon_goes (Beginning txn number at) runs = aside (Beginning txn number at) runs (λ w. w)
  horizon_goes (InTxn (Claiming op at)) runs = aside (InTxn (Claiming op at)) runs (λ w. w)
  horizon_goes (InTxn (Committing at)) runs = aside (InTxn (Committing at)) runs (λ w. w)
  horizon_goes (InTxn at) runs = aside (InTxn at) runs (λ w. w)
  horizon_goes (Scanning table low high at) runs = aside (Scanning table low high at) runs (λ w. w)
  horizon_goes (Seeking table key passed) runs = aside (Seeking table key passed) runs (λ w. w)
  horizon_goes (Moving table key position at) runs = aside (Moving table key position at) runs (λ w. w)
  horizon_goes (Snapping bucket at) runs = aside (Snapping bucket at) runs (λ w. w)
