-- A log with one more event, that of the open attempt or one that owns nothing, and the last number after it.
use Rattle.std.proofs.Common.{List, None, Some, [], ap, append_assoc, length, subst, sym, refl, ℕ, ◌++◌, ◌∙◌}
use Rattle.std.proofs.Common.{◌∷◌, ◌≡◌}
use Rattle.std.specs.List.{flat_map}
use Rattle.std.specs.Prelude.{unwrap_or}
use Rattle.si_law.proofs.GrowthEnds.{last_number-append}
use Rattle.si_model.proofs.TellsLemmas.{lists_event}
use Rattle.si_model.specs.Tells.{ListsTells, OwnsItems, Tell, commit_in, last_number, locks_in, own_snaps, reads_in}
use Rattle.si_model.specs.Tells.{writes_in}
use Rattle.si_model.specs.declared.log.Event.TheVariants.{Tried}
use Rattle.si_model.specs.declared.log.Event.{Event}
use Rattle.si_model.specs.declared.log.Lock.{Lock}
use Rattle.si_model.specs.declared.log.Log.{Log}
use Rattle.si_model.specs.declared.log.Outcome.TheVariants as outcome
use Rattle.si_model.specs.declared.log.Outcome.{Outcome}
use Rattle.si_model.specs.declared.row.Item.{Item}
use Rattle.nam_protocol.specs.Log.{attempt_of, with_event, with_writes}
use Rattle.nam_protocol.specs.declared.client.Open.{Open}
use Rattle.nam_tells.specs.Teller.{IsBlank, Teller, attempt_tell, bare_tell, tried}

-- 1. The last number

pub number_same : (start last : ℕ) (front : List Tell) (t : Tell) → last ≡ last_number start front
    → commit_in t.event ≡ None → last ≡ last_number start (front ++ t ∷ [])
number_same start last front t is silent =
    is ∙ sym (last_number-append start front (t ∷ []) ∙ ap (λ n. unwrap_or n (last_number start front)) silent)

pub number_new : (start number : ℕ) (front : List Tell) (t : Tell) → commit_in t.event ≡ Some number
    → number ≡ last_number start (front ++ t ∷ [])
number_new start number front t commits =
    sym (last_number-append start front (t ∷ []) ∙ ap (λ n. unwrap_or n (last_number start front)) commits)

-- 2. Nothing of an attempt is left

pub none_blank : (front : List Tell)
    → IsBlank (record { front = front; ops = []; passed = []; reads = []; locks = [] })
none_blank front = record { ops_none = refl; passed_none = refl; reads_none = refl; locks_none = refl }

-- 3. An event that owns nothing but, where it has one, a snapshot

pub bare_owns : (event : Event) → reads_in event ≡ 0 → locks_in event ≡ 0 → writes_in event ≡ 0
    → OwnsItems (bare_tell event [])
bare_owns event no_reads no_locks no_writes =
    record { reads = no_reads; locks = no_locks; writes = no_writes; snap = λ e. refl; ops = λ e. refl }

pub lists_bare : (log : Log) (teller : Teller) (event : Event) (snap : List ℕ) → OwnsItems (bare_tell event snap)
    → IsBlank teller
    → ListsTells log teller.front teller.reads teller.locks [] (own_snaps (bare_tell event snap))
    → ListsTells (with_event log event) (teller.front ++ bare_tell event snap ∷ []) [] [] [] []
lists_bare log teller event snap owns blank lists =
    let t = bare_tell event snap in
    lists_event log teller.front t
    (subst (λ (rs : List Item). ListsTells log teller.front rs [] [] (own_snaps t)) blank.reads_none
    (subst (λ (ls : List Lock). ListsTells log teller.front teller.reads ls [] (own_snaps t)) blank.locks_none lists))
    owns

-- 4. The open attempt has ended

module _ (teller : Teller) (attempt : Open) (reads_are : attempt.reads ≡ length teller.reads)
    (locks_are : attempt.locks ≡ length teller.locks) where
  attempt_event : (how : Outcome) (writes : ℕ) → attempt_of attempt how writes ≡ Tried (tried teller attempt how writes)
  attempt_event how writes =
      ap (λ (n : ℕ). Tried (record (tried teller attempt how writes) { reads = n; locks = attempt.locks })) reads_are
      ∙ ap (λ (n : ℕ). Tried (record (tried teller attempt how writes) { locks = n })) locks_are

  attempt_owns : (how : Outcome) (writes : List Item) → OwnsItems (attempt_tell teller attempt how writes)
  attempt_owns how writes =
      record { reads = refl; locks = refl; writes = refl; snap = λ e. absurd (cc); ops = λ e. absurd (cc) }

  module _ (log : Log)
      (lists : ListsTells log teller.front teller.reads teller.locks [] (attempt.state.seen ∷ [])) where
    pub lists_attempt : (how : Outcome)
        → ListsTells (with_event log (attempt_of attempt how 0))
        (teller.front ++ attempt_tell teller attempt how [] ∷ []) [] [] [] []
    lists_attempt how =
        let t = attempt_tell teller attempt how [] in
        subst (λ (e : Event). ListsTells (with_event log e) (teller.front ++ t ∷ []) [] [] [] [])
        (sym (attempt_event how 0)) (lists_event log teller.front t lists (attempt_owns how []))

    -- with what it has written
    written : (writes : List Item)
        → ListsTells (with_writes log writes) teller.front teller.reads teller.locks writes (attempt.state.seen ∷ [])
    written writes = record {
      events = lists.events;
      reads = lists.reads;
      locks = lists.locks;
      writes = ap (λ (ws : List Item). ws ++ writes) lists.writes
          ∙ append_assoc (flat_map (λ (t : Tell). t.writes) teller.front) [] writes;
      snaps = lists.snaps;
      owned = lists.owned;
    }

    pub lists_commit : (number : ℕ) (writes : List Item)
        → ListsTells
        (with_writes (with_event log (attempt_of attempt (outcome.Commit number) (length writes))) writes)
        (teller.front ++ attempt_tell teller attempt (outcome.Commit number) writes ∷ []) [] [] [] []
    lists_commit number writes =
        let how = outcome.Commit number in
        let t = attempt_tell teller attempt how writes in
        subst (λ (e : Event). ListsTells (with_writes (with_event log e) writes) (teller.front ++ t ∷ []) [] [] [] [])
        (sym (attempt_event how (length writes)))
        (lists_event (with_writes log writes) teller.front t (written writes) (attempt_owns how writes))
