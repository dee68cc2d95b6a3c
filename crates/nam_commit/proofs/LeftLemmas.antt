-- How many verbs are to come of the records from one on.
use Rattle.std.proofs.Common.{◌≡◌, ℕ, zero, suc, ◌+◌, ◌-◌, ◌*◌, ◌<◌, ◌≤◌, List, [], ◌∷◌, length, map, take, drop}
use Rattle.std.proofs.Common.{arith, ◌∙◌, refl, sym, ap}
use Rattle.std.proofs.lemmas.List.{get_or-take, length-take}
use Rattle.std.proofs.Math.Seq.{drop-cons, drop-length}
use Rattle.nam_layout.specs.declared.field.Place.{Place}
use Rattle.nam_layout.specs.Place.{no_place}
use Rattle.nam_calls.specs.declared.ring.SlotPoint.{SlotPoint}
use Rattle.nam_calls.specs.declared.ring.SlotPoint.TheVariants.{CheckCount, CheckHead}
use Rattle.nam_calls.specs.declared.ring.CopyPoint.{CopyPoint}
use Rattle.nam_calls.specs.declared.ring.CopyPoint.TheVariants.{CopyMark, CopyEnding, CopyWord, CopyHead}
use Rattle.nam_calls.specs.declared.record.InstallPoint.{InstallPoint}
use Rattle.nam_calls.specs.declared.record.InstallPoint.TheVariants.{InstallCount, InstallHead, InstallWord}
use Rattle.nam_calls.specs.Lock.{nth_place}
use Rattle.nam_calls.specs.Record.{install_left}
use Rattle.nam_calls.specs.Ring.{slot_left, copy_left}
use Rattle.nam_protocol.specs.declared.txn.TxnState.{TxnState}
use Rattle.nam_protocol.specs.Commit.{places, record_place}
use Rattle.nam_protocol.specs.Bound.{installs_most, written_from, listed_most, listed_from}
use Rattle.nam_commit.proofs.RecordsLemmas.{places_length}

-- 1. The written records

one_install : (xs : List Place) (nth : ℕ) → nth < length xs
    → installs_most (drop nth xs) ≡ 3 * (nth_place xs nth).width + 5 + installs_most (drop (suc nth) xs)
one_install [] nth l = absurd (omega arith)
one_install (x ∷ xs) zero l = refl
one_install (x ∷ xs) (suc nth) l = one_install xs nth (omega arith)

pub one_written : (state : TxnState) (nth : ℕ) → nth < length state.writes
    → length state.writes ≤ length state.records
    → installs_most (written_from state nth)
    ≡ 3 * (record_place state nth).width + 5 + installs_most (written_from state (nth + 1))
one_written state nth l m =
    let e = places_length state in
    let t = length-take (length state.writes) (places state) in
    let taken = take (length state.writes) (places state) in
    let one = one_install taken nth (omega arith) in
    let same = ap (λ (p : Place). p.width) (get_or-take (length state.writes) (places state) nth no_place l) in
    let next : suc nth ≡ nth + 1 = omega arith in
    let more = ap (λ n. installs_most (drop n taken)) next in
    omega arith

pub none_written : (state : TxnState) → length state.writes ≤ length state.records
    → installs_most (written_from state (length state.writes)) ≡ 0
none_written state m =
    let e = places_length state in
    let t = length-take (length state.writes) (places state) in
    let taken = take (length state.writes) (places state) in
    let all : length state.writes ≡ length taken = omega arith in
    ap (λ n. installs_most (drop n taken)) all ∙ ap (λ ps. installs_most ps) (drop-length taken)

-- 2. The listed records

module _ (state : TxnState) (nth : ℕ) (within : nth < length state.records) where
  next_place : drop nth (places state) ≡ record_place state nth ∷ drop (nth + 1) (places state)
  next_place =
      let e = places_length state in
      let next : suc nth ≡ nth + 1 = omega arith in
      drop-cons (places state) nth no_place (omega arith)
      ∙ ap (λ n. record_place state nth ∷ drop n (places state)) next

  pub value_listed : nth < length state.writes
      → listed_from state nth ≡ (record_place state nth).width + 2 + listed_from state (nth + 1)
  value_listed l =
      let e : length state.writes - nth ≡ suc (length state.writes - (nth + 1)) = omega arith in
      ap (λ n. listed_most n (drop nth (places state))) e
      ∙ ap (λ ps. listed_most (suc (length state.writes - (nth + 1))) ps) next_place

  pub guard_listed : length state.writes ≤ nth → listed_from state nth ≡ 2 + listed_from state (nth + 1)
  guard_listed l =
      let e : length state.writes - nth ≡ 0 = omega arith in
      let f : 0 ≡ length state.writes - (nth + 1) = omega arith in
      ap (λ n. listed_most n (drop nth (places state))) e ∙ ap (λ ps. listed_most 0 ps) next_place
      ∙ ap (λ n. 2 + listed_most n (drop (nth + 1) (places state))) f

none_left : (n : ℕ) → listed_most n [] ≡ 0
none_left zero = refl
none_left (suc n) = refl

pub none_listed : (state : TxnState) → listed_from state (length state.records) ≡ 0
none_listed state =
    let left = length state.writes - length state.records in
    ap (λ n. listed_most left (drop n (places state))) (sym (places_length state))
    ∙ ap (λ ps. listed_most left ps) (drop-length (places state)) ∙ none_left left

-- 3. One record

pub slot_few : (at : SlotPoint) → slot_left at ≤ 2
slot_few CheckCount = omega arith
slot_few (CheckHead count) = omega arith

pub copy_few : (place : Place) (at : CopyPoint) → copy_left place at ≤ place.width + 3
copy_few place CopyMark = omega arith
copy_few place CopyEnding = omega arith
copy_few place (CopyWord nth) = omega arith
copy_few place CopyHead = omega arith

pub install_few : (place : Place) (at : InstallPoint) → install_left place at ≤ place.width + 2
install_few place (InstallWord nth) = omega arith
install_few place InstallCount = omega arith
install_few place InstallHead = omega arith
