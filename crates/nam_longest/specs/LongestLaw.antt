-- No words make a call of a client take more verbs than its longest, and some make it take as many.
use Rattle.std.specs.Prelude.{◌≡◌, ℕ, ◌<◌, ◌≤◌, false, List, [], ◌∷◌, length, Option, Some, None, IsSome}
use Rattle.si_model.specs.Rows.{key_at, writes_key}
use Rattle.nam_verbs.specs.declared.now.Now.TheVariants.{At}
use Rattle.nam_catalog.specs.declared.shape.Shape.{Shape}
use Rattle.nam_catalog.specs.Fits.{FitsLimits}
use Rattle.nam_catalog.specs.Greatest.{greatest_number}
use Rattle.nam_calls.specs.Holds.{IsWord, AreWords}
use Rattle.nam_calls.specs.Words.{key_word}
use Rattle.nam_protocol.specs.declared.txn.TxnCall.TheVariants.{Get, Put, Add, Del, Need, Guard, Commit}
use Rattle.nam_protocol.specs.declared.client.Call.{Call}
use Rattle.nam_protocol.specs.declared.client.Call.TheVariants.{Begin, Txn, Scan, Tidy, Collect}
use Rattle.nam_protocol.specs.declared.client.Open.{Open}
use Rattle.nam_protocol.specs.declared.client.CallPoint.{CallPoint}
use Rattle.nam_protocol.specs.declared.client.ClientState.{ClientState}
use Rattle.nam_protocol.specs.Client.{client_ask, client_verb, client_after}
use Rattle.nam_protocol.specs.ClientFits.{ClientFits, CallStands}
use Rattle.nam_longest.specs.Longest.{call_longest, client_to_come}

-- the client's call takes these words: a verb stands before each of them
abbrev pub TakesWords : Shape → ClientState → List ℕ → Type 0
TakesWords shape client [] = Unit {0}
TakesWords shape client (word ∷ words) =
    IsSome (client_verb shape client) × TakesWords shape (client_after shape client word) words

-- each word leaves fewer verbs to come
abbrev pub ToComeLaw : Type 0
ToComeLaw = (shape : Shape) → FitsLimits shape → (client : ClientState) (place : CallPoint) (found : ℕ)
    → ClientFits shape client
    → client.cut ≡ false → client.call ≡ Some (At place)
    → client_to_come shape (client_after shape client found) < client_to_come shape client

-- right after the ask no more than the longest are to come
abbrev pub AskedLaw : Type 0
AskedLaw = (shape : Shape) → FitsLimits shape → (client : ClientState) (call : Call) → ClientFits shape client
    → CallStands shape client.txn call
    → client_to_come shape (client_ask shape client call) ≤ call_longest shape client call

-- whatever words the call finds, they are no more than its longest
abbrev pub LongestLaw : Type 0
LongestLaw = (shape : Shape) → FitsLimits shape → (client : ClientState) (call : Call) → ClientFits shape client
    → CallStands shape client.txn call
    → (words : List ℕ) → TakesWords shape (client_ask shape client call) words
    → length words ≤ call_longest shape client call

-- the client's call takes some words, so many of them, each below 2^64
abbrev pub LastsWords : Shape → ClientState → ℕ → Type 0
LastsWords shape client n =
    (words : List ℕ) × AreWords words × TakesWords shape client words × (length words ≡ n)

-- a transaction is open that has not written this key: an operation on a written one takes no verb
abbrev pub Unwritten : Option Open → ℕ → ℕ → Type 0
Unwritten None table key = ⊥
Unwritten (Some attempt) table key = writes_key attempt.state.writes (key_at table key) ≡ false

-- a transaction is open that has a write, and a number is left for its commit
abbrev pub CanCommit : Shape → Option Open → Type 0
CanCommit shape None = ⊥
CanCommit shape (Some attempt) =
    (1 ≤ length attempt.state.writes) × (attempt.state.last < greatest_number shape.form)

-- Calls that may take verbs: an operation where its key isn't written, a scan where its range has such a key, and a
-- commit of writes. The number of an add is a word
abbrev pub MayLast : Shape → Option Open → Call → Type 0
MayLast shape opened (Txn (Get t k)) = Unwritten opened t k
MayLast shape opened (Txn (Put t k v)) = Unwritten opened t k
MayLast shape opened (Txn (Add t k f up by)) = Unwritten opened t k × IsWord by
MayLast shape opened (Txn (Del t k)) = Unwritten opened t k
MayLast shape opened (Txn (Need t k f least)) = Unwritten opened t k
MayLast shape opened (Txn (Guard t k)) = Unwritten opened t k
MayLast shape opened (Txn Commit) = CanCommit shape opened
MayLast shape opened (Scan table low high) =
    (key : ℕ) × (low ≤ key) × (key ≤ high) × IsWord (key_word key) × Unwritten opened table key
MayLast shape opened (Begin txn nth) = Unit {0}
MayLast shape opened (Tidy table key) = Unit {0}
MayLast shape opened (Collect bucket) = Unit {0}

-- some words make the call last as long as its longest
abbrev pub ReachedLaw : Type 0
ReachedLaw = (shape : Shape) → FitsLimits shape → (client : ClientState) (call : Call) → ClientFits shape client
    → CallStands shape client.txn call → client.cut ≡ false → MayLast shape client.txn call
    → LastsWords shape (client_ask shape client call) (call_longest shape client call)
