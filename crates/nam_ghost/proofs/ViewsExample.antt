-- What a client shows at points of a commit in form Held: as an observer, a holder and a copier.
use Rattle.nam_calls.specs.Memory.{memory}
use Rattle.nam_ghost.proofs.CommitExample.{commits, held_shape}
use Rattle.nam_ghost.proofs.Runs.{Calls, Seen, Stops, Turns, after_deeds, client_of, opened, stamp, turns}
use Rattle.nam_ghost.specs.Copiers.{Aside, CopyState, EndNext, Fills, MarkNext, Saves, copier_of}
use Rattle.nam_ghost.specs.Holders.{holder_of}
use Rattle.nam_ghost.specs.Moments.{AreOrdered, IsUnpassed, observer_of}
use Rattle.nam_ghost.specs.Moments.{IsCandidateOf}
use Rattle.nam_layout.specs.declared.field.Field.TheVariants.{Entry}
use Rattle.nam_protocol.proofs.Shown.{loaded}
use Rattle.nam_protocol.specs.Opening.{copies, load_from}
use Rattle.nam_protocol.specs.declared.client.Call.TheVariants.{Begin, Txn}
use Rattle.nam_protocol.specs.declared.txn.TxnCall.TheVariants.{Commit, Guard, Put}
use Rattle.si_model.specs.declared.log.Stamp.{Stamp}
use Rattle.std.proofs.Common.{Bool, List, [], arith, false, inl, inr, length, map, refl, true, ℕ, ◌∷◌, ◌≡◌, ◌≤◌}

-- one record is written and another only guarded
abbrev guards : ℕ → Seen
guards verbs = after_deeds held_shape
    (opened held_shape (loaded 0 0 (5 ∷ 6 ∷ []) ∷ loaded 0 1 (1 ∷ 2 ∷ []) ∷ []))
    (Calls 0 (Begin 1 1) ∷ Turns 0 4 ∷ Calls 0 (Txn (Put 0 0 (7 ∷ 8 ∷ []))) ∷ Turns 0 1 ∷
    Calls 0 (Txn (Guard 0 1)) ∷ Turns 0 6 ∷ Calls 0 (Txn Commit) ∷ Turns 0 verbs ∷ [])

-- 1. An observer: the number that its worker has published, and its client's last one

pub record Numbers : Type 0 where
  pub published : ℕ
  pub last : ℕ
  pub entry : ℕ

abbrev numbers_of : Seen → Numbers
numbers_of seen = record {
  published = (observer_of (client_of seen 0)).number;
  last = (client_of seen 0).last;
  entry = memory held_shape seen.store.words (Entry 1);
}

abbrev numbers : ℕ → ℕ → ℕ → Numbers
numbers published last entry = record { published = published; last = last; entry = entry }

-- before the entry's write, with the guard's lock still held, with the intent still told, and at the end
before_entry : numbers_of (guards 27) ≡ numbers 0 0 0
unfolding turns copies load_from
before_entry = refl

while_freeing : numbers_of (guards 28) ≡ numbers 1 0 1
unfolding turns copies load_from
while_freeing = refl

while_clearing : numbers_of (guards 29) ≡ numbers 1 0 1
unfolding turns copies load_from
while_clearing = refl

at_end : numbers_of (guards 30) ≡ numbers 1 1 1
unfolding turns copies load_from
at_end = refl

-- a client that is stopped there has published still
when_stopped : numbers_of (after_deeds held_shape (guards 29) (Stops 0 ∷ [])) ≡ numbers 1 0 1
unfolding turns copies load_from
when_stopped = refl

-- 2. A holder: the first record whose lock is held, how many were locked, how many are done; and of the record at hand
-- the words, whether there are any, and the count

pub record Progress : Type 0 where
  pub from : ℕ
  pub locked : ℕ
  pub done : ℕ
  pub words : ℕ
  pub dirty : Bool
  pub counted : Bool

abbrev progress_of : Seen → Progress
progress_of seen =
    let holder = holder_of (client_of seen 0) in
    record {
      from = holder.from;
      locked = length holder.held;
      done = holder.done;
      words = holder.words;
      dirty = holder.dirty;
      counted = holder.counted;
    }

abbrev progress : ℕ → ℕ → ℕ → ℕ → Bool → Bool → Progress
progress from locked done words dirty counted = record {
  from = from;
  locked = locked;
  done = done;
  words = words;
  dirty = dirty;
  counted = counted;
}

one_locked : progress_of (guards 10) ≡ progress 0 1 0 0 false false
unfolding turns copies load_from
one_locked = refl

both_locked : progress_of (guards 16) ≡ progress 0 2 0 0 false false
unfolding turns copies load_from
both_locked = refl

word_written : progress_of (guards 24) ≡ progress 0 2 0 1 true false
unfolding turns copies load_from
word_written = refl

count_written : progress_of (guards 26) ≡ progress 0 2 0 2 true true
unfolding turns copies load_from
count_written = refl

header_written : progress_of (guards 27) ≡ progress 1 2 1 0 false false
unfolding turns copies load_from
header_written = refl

guard_held : progress_of (guards 28) ≡ progress 1 2 1 0 false false
unfolding turns copies load_from
guard_held = refl

nothing_held : progress_of (guards 29) ≡ progress 2 2 1 0 false false
unfolding turns copies load_from
nothing_held = refl

-- 3. A commit that is refused: the second of two records is locked by the other worker, so the first lock is given
-- back; the intent is still told then, and nothing is held

abbrev refused : ℕ → Seen
refused verbs = after_deeds held_shape
    (opened held_shape (loaded 0 0 (5 ∷ 6 ∷ []) ∷ loaded 0 1 (1 ∷ 2 ∷ []) ∷ []))
    (Calls 0 (Begin 1 1) ∷ Turns 0 4 ∷ Calls 0 (Txn (Put 0 0 (7 ∷ 8 ∷ []))) ∷ Turns 0 1 ∷
    Calls 0 (Txn (Put 0 1 (9 ∷ 9 ∷ []))) ∷ Turns 0 1 ∷
    Calls 1 (Begin 2 1) ∷ Turns 1 4 ∷ Calls 1 (Txn (Put 0 1 (3 ∷ 3 ∷ []))) ∷ Turns 1 1 ∷ Calls 1 (Txn Commit) ∷
    Turns 1 8 ∷ Calls 0 (Txn Commit) ∷ Turns 0 verbs ∷ [])

abbrev holders_of : Seen → List ℕ
holders_of seen = map (λ row. (seen.ghost.chains row).holder) (0 ∷ 1 ∷ [])

-- in the commit with a guard both rows are locked, and each lock ends with its header
both_rows_locked : map (λ verbs. holders_of (guards verbs)) (10 ∷ 12 ∷ 27 ∷ 28 ∷ 29 ∷ [])
    ≡ (1 ∷ 0 ∷ []) ∷ (1 ∷ 1 ∷ []) ∷ (0 ∷ 1 ∷ []) ∷ (0 ∷ 1 ∷ []) ∷ (0 ∷ 0 ∷ []) ∷ []
unfolding turns copies load_from
both_rows_locked = refl

each_holds_one : holders_of (refused 12) ≡ 1 ∷ 2 ∷ []
unfolding turns copies load_from
each_holds_one = refl

is_given_back : holders_of (refused 14) ≡ 0 ∷ 2 ∷ []
unfolding turns copies load_from
is_given_back = refl

nothing_held_while_clearing : progress_of (refused 14) ≡ progress 1 1 0 0 false false
unfolding turns copies load_from
nothing_held_while_clearing = refl

-- 4. A copier, as the slot is checked, the decision stands, and the words are saved and copied

pub record CopyShown : Type 0 where
  pub checked : ℕ
  pub copying : CopyState

abbrev copy_shown : Seen → CopyShown
copy_shown seen =
    record { checked = (copier_of (client_of seen 0)).checked; copying = (copier_of (client_of seen 0)).copying }

abbrev copies_so : ℕ → CopyState → CopyShown
copies_so checked copying = record { checked = checked; copying = copying }

slot_is_checked : copy_shown (commits 10) ≡ copies_so 1 Aside
unfolding turns copies load_from
slot_is_checked = refl

is_decided : copy_shown (commits 12) ≡ copies_so 1 (Saves [])
unfolding turns copies load_from
is_decided = refl

is_saved : copy_shown (commits 14) ≡ copies_so 1 (MarkNext (5 ∷ 6 ∷ []))
unfolding turns copies load_from
is_saved = refl

is_marked : copy_shown (commits 15) ≡ copies_so 1 (EndNext (5 ∷ 6 ∷ []))
unfolding turns copies load_from
is_marked = refl

word_is_copied : copy_shown (commits 17) ≡ copies_so 1 (Fills (5 ∷ 6 ∷ []) 1)
unfolding turns copies load_from
word_is_copied = refl

both_are_copied : copy_shown (commits 18) ≡ copies_so 1 (Fills (5 ∷ 6 ∷ []) 2)
unfolding turns copies load_from
both_are_copied = refl

-- 5. What was published: the commit with its stamp and snapshot, and both its clients' lists

abbrev stamps_published : Seen → List (List Stamp)
stamps_published seen = map (λ nth. map (λ commit. commit.stamp) (seen.ghost.published nth)) (0 ∷ 1 ∷ [])

nothing_yet : stamps_published (guards 27) ≡ [] ∷ [] ∷ []
unfolding turns copies load_from
nothing_yet = refl

published_once : stamps_published (guards 28) ≡ (stamp 1 1 ∷ []) ∷ [] ∷ []
unfolding turns copies load_from
published_once = refl

-- the records that are written, not the guarded one
published_records : map (λ commit. commit.records) ((guards 28).ghost.published 0) ≡ 1 ∷ []
unfolding turns copies load_from
published_records = refl

-- 6. Candidates: in the second pass, with what it has confirmed, and once it was taken, wholly; in the first pass none

abbrev begins : ℕ → Seen
begins verbs = after_deeds held_shape (opened held_shape []) (Calls 0 (Begin 1 1) ∷ Turns 0 verbs ∷ [])

abbrev CandidateAt : ℕ → ℕ → Type 0
CandidateAt verbs confirmed = IsCandidateOf 2 (observer_of (client_of (begins verbs) 0)) (0 ∷ 0 ∷ []) confirmed

passing : CandidateAt 3 1
unfolding turns copies load_from
passing = inl (refl, refl)

was_taken : CandidateAt 4 2
unfolding turns copies load_from
was_taken = inr (refl, inl refl)

not_yet : CandidateAt 1 0 → ⊥
unfolding turns copies load_from
not_yet (inl none) = absurd none
not_yet (inr (confirmed, none)) = absurd none

-- 7. Double collect: two passes that found each other's entry before may be unordered; but then the vector has passed
-- an entry of each that its second pass has not confirmed

abbrev one : List ℕ
one = 0 ∷ 1 ∷ []

abbrev other : List ℕ
other = 1 ∷ 0 ∷ []

unordered : AreOrdered 2 one other → ⊥
unordered (inl at_most) = absurd (true_is_false (at_most 1 (omega arith)))
  where
    true_is_false : 1 ≤ 0 → ⊥
    true_is_false least = absurd (omega arith)
unordered (inr at_most) = absurd (true_is_false (at_most 0 (omega arith)))
  where
    true_is_false : 1 ≤ 0 → ⊥
    true_is_false least = absurd (omega arith)

passed : IsUnpassed 2 (λ a. 1) one 0 → ⊥
passed unpassed = let least : 1 ≤ 0 = unpassed 0 (omega arith) (omega arith) in absurd (omega arith)
