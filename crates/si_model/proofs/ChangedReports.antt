-- A report with one thing changed, and what its refusal rests on.
use Rattle.std.proofs.Common.{◌≡◌, ℕ, ◌-◌, List, [], ◌∷◌, subst, ap, Some}
use Rattle.std.specs.Prelude.{slice_index_or, slice_set}
use Rattle.si_model.specs.declared.row.Key.{Key}
use Rattle.si_model.specs.declared.row.Item.{Item}
use Rattle.si_model.specs.declared.log.Lock.{Lock}
use Rattle.si_model.specs.declared.log.Event.{Event}
use Rattle.si_model.specs.declared.log.Log.{Log}
use Rattle.si_model.specs.declared.report.Report.{Report}
use Rattle.si_model.specs.declared.evaluated.Evaluated.TheVariants.{Done}
use Rattle.si_model.proofs.ExampleWords.{log, item}

-- the report with another log of worker j
abbrev pub in_log : ℕ → (Log → Log) → Report → Report
in_log j change r =
    record r { logs = slice_set r.logs (j - 1) (change (slice_index_or r.logs (j - 1) (log [] [] []))) }

-- the log with another k-th event, read or lock
abbrev pub event_at : ℕ → Event → Log → Log
event_at k e l = record l { events = slice_set l.events (k - 1) e }

abbrev pub read_at : ℕ → Item → Log → Log
read_at k i l = record l { reads = slice_set l.reads (k - 1) i }

abbrev pub lock_at : ℕ → Lock → Log → Log
lock_at k x l = record l { locks = slice_set l.locks (k - 1) x }

-- with other events, reads or locks
abbrev pub with_events : List Event → Log → Log
with_events es l = record l { events = es }

abbrev pub with_reads : List Item → Log → Log
with_reads is l = record l { reads = is }

abbrev pub with_locks : List Lock → Log → Log
with_locks ls l = record l { locks = ls }

-- what is said of the writes and guards of an evaluation that is done
pub done_as : {reads found ws writes : List Item} {gs guards : List Key} (P : List Item → List Key → Type 0)
    → Done reads ws gs ≡ Done found writes guards → P writes guards → P ws gs
done_as {ws} {writes} {gs} {guards} P done holds =
    let same_writes : writes ≡ ws = cc in
    let same_guards : guards ≡ gs = cc in
    subst (λ (keys : List Key). P ws keys) same_guards (subst (λ (is : List Item). P is guards) same_writes holds)

pub same_number : {t k a b : ℕ} → item t k a ≡ item t k b → a ≡ b
same_number {t} {k} {a} {b} same = let values : Some (a ∷ []) ≡ Some (b ∷ []) = ap (λ (i : Item). i.value) same in cc
