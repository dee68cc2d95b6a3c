-- Two workers: the first commits twice, moves both old versions and collects; the second, which had its snapshot
-- before, reads then and is too old. What is claimed at each phase, by computing.
use Rattle.std.proofs.Common.{Bool, List, None, Option, Some, [], ap, arith, false, inl, inr, length, refl}
use Rattle.std.proofs.Common.{slice_index_or, suc, sym, true, zero, ◌∙◌}
use Rattle.std.proofs.Common.{ℕ, ◌+◌, ◌∷◌, ◌≡◌, ◌≢◌, ◌≤◌, ◌⊎◌}
use Rattle.std.specs.Prelude.{IsTrue, slice_index}
use Rattle.si_model.specs.Tells.{Tell}
use Rattle.nam_verbs.specs.declared.now.Now.{Now}
use Rattle.nam_verbs.specs.declared.now.Now.TheVariants.{At, Over}
use Rattle.nam_calls.specs.Memory.{memory}
use Rattle.nam_layout.specs.declared.field.Field.TheVariants.{Horizon}
use Rattle.nam_protocol.proofs.Shown.{loaded}
use Rattle.nam_protocol.specs.Client.{client_after}
use Rattle.nam_protocol.specs.Opening.{copies, load_from}
use Rattle.nam_protocol.specs.Telling.{new_client}
use Rattle.nam_protocol.specs.declared.client.Answer.{Answer}
use Rattle.nam_protocol.specs.declared.client.Call.{Call}
use Rattle.nam_protocol.specs.declared.client.Call.TheVariants.{Begin, Collect, Tidy, Txn}
use Rattle.nam_protocol.specs.declared.client.CallPoint.{CallPoint}
use Rattle.nam_protocol.specs.declared.client.ClientState.{ClientState}
use Rattle.nam_protocol.specs.declared.txn.TxnCall.TheVariants.{Commit, Get, Put}
use Rattle.nam_ghost.proofs.MoveExample.{narrow_shape, put_deeds}
use Rattle.nam_ghost.proofs.Runs.{Calls, Deed, Stops, Turns}
use Rattle.nam_ghost.proofs.Small.{below_2}
use Rattle.nam_ghost.specs.Moments.{AtMost}
use Rattle.nam_protocol.specs.declared.client.Open.{Open}
use Rattle.nam_store.specs.Everyone.{Someone, put}
use Rattle.nam_store.specs.Opening.{opening_store}
use Rattle.nam_store.specs.Store.{Store, ask, client_at, cut, found_word, step}
use Rattle.nam_tells.specs.Steps.{no_tells, told_after, told_asked}
use Rattle.nam_tells.specs.Teller.{Teller}
use Rattle.nam_tells.specs.TellsLaw.{tells_now}
use Rattle.nam_raised.specs.OldLaw.{IsOldBy}
use Rattle.nam_raised.specs.Raised.{AreRaised, IsCollected, SeesLast, SnapsRise, tells_entry}
use Rattle.nam_protocol.specs.declared.client.Answer.TheVariants as client_answer
use Rattle.nam_protocol.specs.declared.txn.TxnAnswer.TheVariants as txn_answer

-- 1. A store with its tellers, and what its clients do one after another

record Known : Type 0 where
  store : Store
  tellers : ℕ → Teller

abbrev taken : Known → ℕ → ClientState → Known
taken known nth client =
    let found = found_word narrow_shape known.store client in
    record {
      store = step narrow_shape known.store nth client;
      tellers = put known.tellers nth (told_after narrow_shape client found (known.tellers nth));
    }

abbrev turn_at : Known → ℕ → ClientState → Bool → Option (Now CallPoint Answer) → Known
turn_at known nth client false (Some (At place)) = taken known nth client
turn_at known nth client cut now = known

abbrev turn_of : Known → ℕ → Option ClientState → Known
turn_of known nth None = known
turn_of known nth (Some client) = turn_at known nth client client.cut client.call

unfoldable turns : ℕ → ℕ → Known → Known
turns nth zero known = known
turns nth (suc verbs) known = turns nth verbs (turn_of known nth (client_at known.store nth))

abbrev asked_of : Known → ℕ → Call → Option ClientState → Known
asked_of known nth call None = known
asked_of known nth call (Some client) = record {
  store = ask narrow_shape known.store nth client call;
  tellers = put known.tellers nth (told_asked narrow_shape client call (known.tellers nth));
}

abbrev stopped_of : Known → ℕ → Option ClientState → Known
stopped_of known nth None = known
stopped_of known nth (Some client) = record known { store = cut known.store nth client }

abbrev done : Known → Deed → Known
done known (Turns nth verbs) = turns nth verbs known
done known (Calls nth call) = asked_of known nth call (client_at known.store nth)
done known (Stops nth) = stopped_of known nth (client_at known.store nth)

abbrev after : Known → List Deed → Known
after known [] = known
after known (deed ∷ deeds) = after (done known deed) deeds

-- the second worker has its snapshot; the first has put 6 and 7 then, and moved what was there before
abbrev moved : Known
moved = after
    (after record { store = opening_store narrow_shape (loaded 0 0 (5 ∷ []) ∷ []); tellers = no_tells }
    (Calls 1 (Begin 9 1) ∷ Turns 1 4 ∷ put_deeds 0 6))
    (Calls 0 (Tidy 0 0) ∷ Turns 0 14 ∷ Calls 0 (Begin 2 1) ∷ Turns 0 4 ∷ Calls 0 (Txn (Put 0 0 (7 ∷ []))) ∷ Turns 0 1 ∷
    Calls 0 (Txn Commit) ∷ Turns 0 13 ∷ Calls 0 (Tidy 0 0) ∷ Turns 0 15 ∷ [])

abbrev collects : ℕ → Known
collects verbs = after moved (Calls 0 (Collect 0) ∷ Turns 0 verbs ∷ [])

-- and reads
abbrev late : ℕ → Known
late verbs = after (collects 13) (Calls 1 (Txn (Get 0 0)) ∷ Turns 1 verbs ∷ [])

abbrev client_of : Known → ℕ → ClientState
client_of known nth = slice_index_or known.store.clients nth (new_client 0 0)

abbrev horizon_of : Known → List ℕ
horizon_of known =
    let m = memory narrow_shape known.store.words in m (Horizon 1) ∷ m (Horizon 2) ∷ []

abbrev told_by : Known → ℕ → List Tell
told_by known nth = tells_now narrow_shape (known.tellers nth) (client_of known nth)

-- of the first of two clients, whatever list they are, and of a snapshot, whatever transaction it is of
first_of_two : (P : ℕ → ClientState → Type 0) (other : ClientState) (clients : List ClientState) → length clients ≡ 2
    → P 0 (slice_index_or clients 0 other) → Someone P clients
first_of_two P other [] two is = absurd (omega arith)
first_of_two P other (client ∷ clients) two is = (0, (client, (refl, is)))

abbrev seen_of : Option Open → List ℕ
seen_of None = []
seen_of (Some attempt) = attempt.state.seen

sees_of : (nth last : ℕ) (opened : Option Open) → slice_index (seen_of opened) nth ≡ last → SeesLast nth last opened
sees_of nth last None is = tt
sees_of nth last (Some attempt) is = is

-- 2. The collection has its snapshot, and the horizon is the start; it is told before its first word

begun : horizon_of (collects 4) ≡ 0 ∷ 0 ∷ []
unfolding turns copies load_from
begun = refl

told_at_once : tells_entry 1 2 (told_by (collects 4) 0) ≡ true
unfolding turns copies load_from
told_at_once = refl

-- 3. It has raised the first entry: by a collection that isn't over, nor if its client is stopped there

raised : horizon_of (collects 7) ≡ 2 ∷ 0 ∷ []
unfolding turns copies load_from
raised = refl

told_running : tells_entry 1 2 (told_by (collects 7) 0) ≡ true
unfolding turns copies load_from
told_running = refl

not_ended : tells_entry 1 2 ((collects 7).tellers 0).front ≡ false
unfolding turns copies load_from
not_ended = refl

told_stopped : tells_entry 1 2 (told_by (after (collects 7) (Stops 0 ∷ [])) 0) ≡ true
unfolding turns copies load_from
told_stopped = refl

entries_running : AreRaised narrow_shape (collects 7).tellers (collects 7).store
unfolding turns copies load_from
entries_running =
    below_2 (λ a. let entry = memory narrow_shape (collects 7).store.words (Horizon (a + 1)) in
    (entry ≡ 0) ⊎ IsCollected narrow_shape (collects 7).tellers (collects 7).store.clients (a + 1) entry)
    (inr (first_of_two (λ nth client.
    IsTrue (tells_entry 1 2 (tells_now narrow_shape ((collects 7).tellers nth) client))) (new_client 0 0)
    (collects 7).store.clients refl refl))
    (inl refl)

-- 4. It is over, and is told with the entries of its snapshot

ended : tells_entry 1 2 ((collects 13).tellers 0).front ≡ true
unfolding turns copies load_from
ended = refl

entries_ended : AreRaised narrow_shape (collects 13).tellers (collects 13).store
unfolding turns copies load_from
entries_ended =
    below_2 (λ a. let entry = memory narrow_shape (collects 13).store.words (Horizon (a + 1)) in
    (entry ≡ 0) ⊎ IsCollected narrow_shape (collects 13).tellers (collects 13).store.clients (a + 1) entry)
    (inr (first_of_two (λ nth client.
    IsTrue (tells_entry 1 2 (tells_now narrow_shape ((collects 13).tellers nth) client))) (new_client 0 0)
    (collects 13).store.clients refl refl))
    (inl refl)

most : (s t : List ℕ) → slice_index s 0 ≤ slice_index t 0 → slice_index s 1 ≤ slice_index t 1 → AtMost 2 s t
most s t first second = below_2 (λ a. slice_index s a ≤ slice_index t a) first second

-- two commits, with a move after each, and the collection; its snapshots were none, one and two commits of its own
collector_rises : SnapsRise 2 0 (client_of (collects 13) 0) ((collects 13).tellers 0)
unfolding turns copies load_from
collector_rises = record {
  rising = (
    (
      most (0 ∷ 0 ∷ []) (1 ∷ 0 ∷ []) (omega arith) (omega arith),
      (most (0 ∷ 0 ∷ []) (2 ∷ 0 ∷ []) (omega arith) (omega arith), tt),
    ),
    ((most (1 ∷ 0 ∷ []) (2 ∷ 0 ∷ []) (omega arith) (omega arith), tt), (tt, tt)),
  );
  shows = (tt, (tt, (tt, (tt, (refl, tt)))));
  last = tt;
}

-- 5. The second worker's read is too old: by the first one's collection, and by none of its own

answer : (client_after narrow_shape (client_of (late 5) 1)
    (found_word narrow_shape (late 5).store (client_of (late 5) 1))).call
    ≡ Some (Over (client_answer.Txn (txn_answer.TooOld 1 0 2)))
unfolding turns copies load_from
answer = refl

because : IsOldBy narrow_shape (late 5).store (late 5).tellers 1 (0 ∷ 0 ∷ []) 1 0 2
unfolding turns copies load_from
because = record {
  least = omega arith;
  most = omega arith;
  other = λ same. omega arith;
  entry_is = refl;
  above = omega arith;
  collected =
      first_of_two (λ nth client. (nth ≢ 1)
      × IsTrue (tells_entry 1 2 (tells_now narrow_shape ((late 5).tellers nth) client))) (new_client 0 0)
      (late 5).store.clients refl ((λ same. omega arith), refl);
}

none_own : tells_entry 1 2 (told_by (late 5) 1) ≡ false
unfolding turns copies load_from
none_own = refl

-- its snapshot has its own last number, which is the start; and so it is after a commit
reader_rises : SnapsRise 2 1 (client_of (late 5) 1) ((late 5).tellers 1)
unfolding turns copies load_from
reader_rises = record { rising = (tt, tt); shows = tt; last = refl }

abbrev begun_again : ClientState
begun_again =
    client_of
    (after (after record { store = opening_store narrow_shape (loaded 0 0 (5 ∷ []) ∷ []); tellers = no_tells }
    (put_deeds 0 6)) (Calls 0 (Begin 2 1) ∷ Turns 0 4 ∷ [])) 0

one_last : begun_again.last ≡ 1
unfolding turns copies load_from
one_last = refl

one_seen : seen_of begun_again.txn ≡ 1 ∷ 0 ∷ []
unfolding turns copies load_from
one_seen = refl

sees_last : SeesLast 0 begun_again.last begun_again.txn
sees_last =
    sees_of 0 begun_again.last begun_again.txn (ap (λ (seen : List ℕ). slice_index seen 0) one_seen ∙ sym one_last)
