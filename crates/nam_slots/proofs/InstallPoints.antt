-- The points of a commit at which it installs a record's new version, over one that it has copied.
use Rattle.std.proofs.Common.{[], arith, false, length, refl, subst, sym, true, ℕ, ◌+◌, ◌<◌, ◌∙◌, ◌≡◌, ◌≢◌}
use Rattle.std.proofs.lemmas.Bool.{true≢false}
use Rattle.nam_calls.specs.declared.record.InstallPoint.{InstallPoint}
use Rattle.nam_calls.specs.declared.record.InstallPoint.TheVariants.{InstallHead}
use Rattle.nam_catalog.specs.declared.shape.Shape.{Shape}
use Rattle.nam_ghost.proofs.ValueLemmas.{got_none}
use Rattle.nam_ghost.specs.Copiers.{CopierOk, IsCopy, copier_at, copier_now, current_slot}
use Rattle.nam_ghost.specs.Holders.{Holds, from_at, holder_at, record_row}
use Rattle.nam_ghost.specs.Slots.{IsFreeSlot, Ring, copy_ended, home}
use Rattle.nam_ghost.specs.Steps.{new_version, renewed}
use Rattle.nam_ghost.specs.Versions.{Chain, Version, current_number}
use Rattle.nam_layout.specs.Place.{place_at}
use Rattle.nam_layout.specs.declared.field.Field.{Field}
use Rattle.nam_protocol.specs.Commit.{commit_after, go, own_stamp}
use Rattle.nam_protocol.specs.Txn.{Stepped}
use Rattle.nam_protocol.specs.declared.txn.CommitPoint.{CommitPoint}
use Rattle.nam_protocol.specs.declared.txn.CommitPoint.TheVariants.{Installing, Publishing, Saving}
use Rattle.nam_protocol.specs.declared.txn.TxnState.{TxnState}
use Rattle.nam_slots.proofs.HandLemmas.{Works, alone, copied_is, held_some, knows, other_free, other_uncopied}
use Rattle.nam_slots.proofs.HandLemmas.{stays_there}
use Rattle.nam_slots.proofs.OwnLemmas.{CommitKnown}
use Rattle.nam_slots.proofs.SpotLemmas.{chain_changes, one_changes}
use Rattle.nam_slots.specs.Change.{Installs, RowsChange, Turns}
use Rattle.nam_slots.specs.Spots.{AllSame}
use Rattle.nam_store.proofs.Lists.{put_beside, put_here}
use Rattle.nam_store.specs.Everyone.{put}
use Rattle.nam_verbs.proofs.TestLemmas.{by_equal}

module _ (shape : Shape) (m now : Field → ℕ) (chains : ℕ → Chain) (rings : ℕ → Ring) (nth : ℕ) (state : TxnState)
    (Flagged : ℕ → ℕ → Type 0) (p : ℕ) (at : InstallPoint)
    (known : CommitKnown shape m chains rings nth state (Installing p at)) (same : AllSame shape m now) where
  abbrev row : ℕ
  row = record_row state p

  abbrev point : CommitPoint
  point = Installing p at

  pub works_installing : Works state (Installing p at) p
  works_installing = record {
    from_is = refl;
    checked_is = refl;
    counts_is = refl;
    all = known.point.2.0;
    counted = known.point.2.1;
    less = known.point.2.2;
  }

  abbrev Goes : (ℕ → Chain) → (ℕ → Ring) → CommitPoint → Type 0
  Goes later next goes =
      RowsChange shape m now nth chains rings Flagged later next
      × CopierOk shape now later next (copier_at state goes)

  copied : (rings row).copied ≡ true
  copied = copied_is shape m chains rings nth state (Installing p at) known p works_installing

  -- 1. A word of the record is written by its holder, who has copied the version

  pub writes : (chain : Chain) → chain.old ≡ (chains row).old → chain.now ≡ (chains row).now
      → chain.holder ≡ (chains row).holder → (chain.dirty ≡ false → (chains row).dirty ≡ false) → (goes : InstallPoint)
      → Goes (put chains row chain) rings (Installing p goes)
  writes chain old now_is holder clean goes =
      let later = put chains row chain in
      let some = held_some shape m chains rings nth state (Installing p at) known p works_installing in (
        chain_changes shape m now nth chains rings Flagged row chain same
            (λ is. Turns (same row is) (alone shape m chains rings nth state (Installing p at) known p works_installing)
            old now_is (λ dirty. copied) (λ free. absurd (some (sym holder ∙ free))) clean),
        stays_there shape m chains rings nth state (Installing p at) known p works_installing now later rings
            (λ other apart. (put_beside chains row chain other apart, refl)) chain (rings row)
            (put_here chains row chain) refl (Installing p goes) refl refl copied
            (λ before. absurd (true≢false (sym before)))
            (subst (λ xs. let number = length xs in
            IsCopy number chain.now (own_stamp state) ((rings row).kept (home (place_at shape row) number))) (sym old)
            (subst (λ (version : Version). IsCopy (current_number (chains row)) version (own_stamp state)
            ((rings row).kept (current_slot shape chains row))) (sym now_is)
            (knows shape m chains rings nth state (Installing p at) known p works_installing))),
      )

  -- 2. The header: the new version is installed

  abbrev newer : Chain
  newer = renewed (new_version state p) (chains (record_row state p))

  abbrev renewed_chains : ℕ → Chain
  renewed_chains =
      put chains (record_row state p) (renewed (new_version state p) (chains (record_row state p)))

  abbrev ended_rings : ℕ → Ring
  ended_rings = put rings (record_row state p) (copy_ended (rings (record_row state p)))

  renewing : RowsChange shape m now nth chains rings Flagged renewed_chains ended_rings
  renewing =
      one_changes shape m now nth chains rings Flagged row newer (copy_ended (rings row))
      (λ other is apart. same other is)
      (λ is. Installs (same row is) (alone shape m chains rings nth state (Installing p at) known p works_installing)
      refl refl copied (knows shape m chains rings nth state (Installing p at) known p works_installing)) renewed_chains
      ended_rings (put_here chains row newer) (put_here rings row (copy_ended (rings row)))
      (λ other apart. (
        put_beside chains row newer other apart,
        put_beside rings row (copy_ended (rings row)) other apart,
      ))

  -- it goes on to the next record, or has done all
  module _ (after : CommitPoint) (from : p < from_at state after) where
    was : (r : ℕ) → Holds (holder_at state after) r → Holds (holder_at state (Installing p at)) r × (r ≢ p)
    was r is = let a = is.begins in (record { begins = omega arith; ends = is.ends }, λ e. omega arith)

    beside : (other : ℕ) → other ≢ row
        → (renewed_chains other ≡ chains other) × (ended_rings other ≡ rings other)
    beside other apart =
        (put_beside chains row newer other apart, put_beside rings row (copy_ended (rings row)) other apart)

    left_uncopied : (r : ℕ) → Holds (holder_at state after) r → (ended_rings (record_row state r)).copied ≡ false
    left_uncopied r is =
        other_uncopied shape m chains rings nth state (Installing p at) known p works_installing now renewed_chains
        ended_rings beside r (was r is).0 (was r is).1

    left_free : (r : ℕ) → Holds (holder_at state after) r → r < length state.counts
        → IsFreeSlot ((ended_rings (record_row state r)).kept (current_slot shape renewed_chains (record_row state r)))
    left_free r is less =
        other_free shape m chains rings nth state (Installing p at) known p works_installing now renewed_chains
        ended_rings beside r (was r is).0 (was r is).1 less

  pub installs : length state.held ≡ length state.records
      → RowsChange shape m now nth chains rings Flagged renewed_chains ended_rings
      × (let step = commit_after state (Installing p InstallHead) 0 in
      CopierOk shape now renewed_chains ended_rings (copier_now state.worker step.state step.call))
  installs all =
      let less = known.point.2.2 in (
        renewing,
        by_equal (λ (step : Stepped). CopierOk shape now renewed_chains ended_rings
            (copier_now state.worker step.state step.call)) (p + 1) (length state.writes) (go state Publishing)
            (go state (Saving (p + 1) []))
            (λ last. record {
              flag_is = left_uncopied Publishing (omega arith);
              free = λ r is none. absurd (omega arith);
              copies = λ is. tt;
            })
            (λ more. record {
              flag_is = left_uncopied (Saving (p + 1) []) (omega arith);
              free = λ r is less before. left_free (Saving (p + 1) []) (omega arith) r is less;
              copies = λ is. got_none (renewed_chains (record_row state (p + 1))).now.value;
            }),
      )
