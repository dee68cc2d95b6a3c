-- Histories: entries, writers and versions, and which histories are legal (first committer wins: Berenson and others
-- 1995).
use Rattle.std.specs.Prelude.{ℕ, zero, suc, ◌+◌, ◌-◌, ◌<◌, ◌≤◌, ◌≡◌, ◌==◌, ◌&&◌, not, Bool, IsTrue, if◌then◌else◌, List}
use Rattle.std.specs.Prelude.{[], ◌∷◌, ◌++◌, length, take, drop, map, filter, slice_index_or, Option, Some, None}
use Rattle.std.specs.List.{list_any, list_all}
use Rattle.si_model.specs.declared.row.Key.{Key}
use Rattle.si_model.specs.declared.row.Item.{Item}
use Rattle.si_model.specs.declared.op.Op.{Op}
use Rattle.si_model.specs.declared.log.Stamp.{Stamp}
use Rattle.si_model.specs.declared.report.CommitLine.{CommitLine}
use Rattle.si_model.specs.declared.evaluated.Evaluated.TheVariants.{Done}
use Rattle.si_model.specs.Rows.{Rows, item_key, writes_key}
use Rattle.si_model.specs.Evaluation.{evaluation_of}
use Rattle.si_model.specs.State.{state_at}

abbrev pub stamp_at : ℕ → ℕ → Stamp
stamp_at thread number = record { thread = thread; number = number }

-- the stamp of the loaded rows
abbrev pub loader : Stamp
loader = stamp_at 0 0

-- the stamp that an entry's versions bear
abbrev pub stamp_of : CommitLine → Stamp
stamp_of e = stamp_at e.worker e.number

abbrev pub same_stamp : Stamp → Stamp → Bool
same_stamp a b = (a.thread == b.thread) && (a.number == b.number)

-- is one of the entries of this stamp
abbrev pub has_stamp : List CommitLine → Stamp → Bool
has_stamp es s = list_any (λ e. same_stamp (stamp_of e) s) es

-- how many of the entries are worker j's
abbrev pub count_of : ℕ → List CommitLine → ℕ
count_of j [] = 0
count_of j (e ∷ es) = (if e.worker == j then 1 else 0) + count_of j es

-- the numbers of n workers from j on
abbrev pub entries_from : ℕ → ℕ → ℕ → List CommitLine → List ℕ
entries_from zero j start es = []
entries_from (suc n) j start es = (start + count_of j es) ∷ entries_from n (suc j) start es

-- the published number of each worker after these entries
abbrev pub entries_at : ℕ → ℕ → List CommitLine → List ℕ
entries_at workers start es = entries_from workers 1 start es

abbrev pub newest_from : Stamp → Key → List CommitLine → Stamp
newest_from s key [] = s
newest_from s key (e ∷ es) = newest_from (if writes_key e.writes key then stamp_of e else s) key es

-- the stamp of the last entry that writes the key, and the loader's where none does
abbrev pub newest_writer : Key → List CommitLine → Stamp
newest_writer key es = newest_from loader key es

-- the versions of a key: the loader's, and then those of the entries that write it, in order
abbrev pub versions_of : Key → List CommitLine → List Stamp
versions_of key es = loader ∷ map stamp_of (filter (λ e. writes_key e.writes key) es)

-- is the stamp a version of the key
abbrev pub is_version : Key → Stamp → List CommitLine → Bool
is_version key s es = list_any (λ q. same_stamp q s) (versions_of key es)

abbrev pub after_stamp : Stamp → List Stamp → List Stamp
after_stamp s [] = []
after_stamp s (q ∷ qs) = if same_stamp q s then qs else after_stamp s qs

-- the versions of a key that come after a version; none where it is not one
abbrev pub versions_after : Key → Stamp → List CommitLine → List Stamp
versions_after key s es = after_stamp s (versions_of key es)

abbrev pub first_of : List Stamp → Option Stamp
first_of [] = None
first_of (s ∷ ss) = Some s

-- the version that comes next after a version
abbrev pub successor_of : Key → Stamp → List CommitLine → Option Stamp
successor_of key s es = first_of (versions_after key s es)

-- the keys that an entry writes, and then those that it guards
abbrev pub keys_of : List Item → List Key → List Key
keys_of writes guards = map item_key writes ++ guards

-- does no entry write one of the keys
abbrev pub none_writes : List Key → List CommitLine → Bool
none_writes keys es = list_all (λ e. list_all (λ key. not (writes_key e.writes key)) keys) es

-- the entry may follow these: it evaluates its transaction on its prefix, and nobody wrote its keys since
pub record MayFollow (widths : List ℕ) (rows : Rows) (jobs : List (List Op)) (done : List CommitLine) (e : CommitLine) :
    Type 0 where
  pub job : (1 ≤ e.txn) × (e.txn ≤ length jobs)
  pub prefix : e.prefix ≤ length done
  pub reads : List Item
  pub guards : List Key
  pub evaluates : evaluation_of widths (state_at rows (take e.prefix done)) (slice_index_or jobs (e.txn - 1) [])
      ≡ Done reads e.writes guards
  pub writes : 0 < length e.writes
  pub first_wins : IsTrue (none_writes (keys_of e.writes guards) (drop e.prefix done))

abbrev pub IsLegalAfter : List ℕ → Rows → List (List Op) → List CommitLine → List CommitLine → Type 0
IsLegalAfter widths rows jobs done [] = Unit {0}
IsLegalAfter widths rows jobs done (e ∷ es) =
    MayFollow widths rows jobs done e × IsLegalAfter widths rows jobs (done ++ e ∷ []) es

-- each entry may follow those before it
abbrev pub IsLegal : List ℕ → Rows → List (List Op) → List CommitLine → Type 0
IsLegal widths rows jobs history = IsLegalAfter widths rows jobs [] history

abbrev pub IsNumberedAfter : ℕ → List CommitLine → List CommitLine → Type 0
IsNumberedAfter start done [] = Unit {0}
IsNumberedAfter start done (e ∷ es) = (e.number ≡ start + count_of e.worker done + 1)
    × IsNumberedAfter start (done ++ e ∷ []) es

-- each worker's numbers follow start one by one, in the order of the history
abbrev pub IsNumbered : ℕ → List CommitLine → Type 0
IsNumbered start history = IsNumberedAfter start [] history
