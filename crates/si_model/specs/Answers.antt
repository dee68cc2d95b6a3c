-- An attempt's reads, locks and outcome are those of its transaction's evaluation.
use Rattle.std.specs.Prelude.{ℕ, suc, ◌<◌, ◌≡◌, ◌&&◌, ◌⊎◌, ◌==◌, not, nat_le, Bool, true, false, IsTrue, List, [], ◌∷◌}
use Rattle.std.specs.Prelude.{◌++◌, length, take, map, Option, Some, None}
use Rattle.std.specs.List.{list_any, AllByRecursion}
use Rattle.si_model.specs.declared.row.Key.{Key}
use Rattle.si_model.specs.declared.row.Item.{Item}
use Rattle.si_model.specs.declared.op.Op.{Op}
use Rattle.si_model.specs.declared.op.Op.TheVariants.{Scan}
use Rattle.si_model.specs.declared.log.Lock.{Lock}
use Rattle.si_model.specs.declared.log.Attempt.{Attempt}
use Rattle.si_model.specs.declared.log.Outcome.{Outcome}
use Rattle.si_model.specs.declared.log.Outcome.TheVariants.{Commit, ReadOnly, Declined as DeclinedAt, NoSpace, Spent}
use Rattle.si_model.specs.declared.log.Outcome.TheVariants.{Again, Locked, Newer, TooOld, Full, Cut, Left}
use Rattle.si_model.specs.declared.log.Event.{Event}
use Rattle.si_model.specs.declared.log.Event.TheVariants.{Tried}
use Rattle.si_model.specs.declared.evaluated.Evaluated.{Evaluated}
use Rattle.si_model.specs.declared.evaluated.Evaluated.TheVariants.{Done, Declined}
use Rattle.si_model.specs.Lists.{Listed, IsFront, StandsAt}
use Rattle.si_model.specs.Rows.{Rows, key_at, item_key, writes_key}
use Rattle.si_model.specs.Evaluation.{evaluation_of, reads_of, all_pass, reads_from, key_read, key_claimed, is_key}
use Rattle.si_model.specs.Evaluation.{ops_write, ops_claim}
use Rattle.si_model.specs.History.{stamp_of, keys_of}
use Rattle.si_model.specs.Tells.{Tell}
use Rattle.si_model.specs.View.{View}
use Rattle.si_model.specs.Setting.{Setting, Asked, is_crowded}

abbrev pub lock_key : Lock → Key
lock_key l = key_at l.table l.key

-- an entry that isn't among the first writes a key of the test
abbrev pub is_overtaken : View → Tell → (Item → Bool) → Bool
is_overtaken v t test = list_any (λ e. list_any test e.writes && not (v.has t (stamp_of e))) v.all

-- does the operation, after these, read from the prefix: a scan does, and a read of a key that none of them writes
abbrev pub reads_prefix : List Op → Op → Bool
reads_prefix before (Scan table low high) = true
reads_prefix before op = elim (key_read op) [ None ↦ false | Some key ↦ not (ops_write key before) ]

-- is the item of a key that the operation reads
abbrev pub reads_item : Op → Item → Bool
reads_item (Scan table low high) i = (i.table == table) && nat_le low i.key && nat_le i.key high
reads_item op i = is_key (item_key i) (key_read op)

-- does the operation, after these, read a version that an entry after the first has overwritten
abbrev pub reads_overtaken : View → Tell → List Op → Op → Bool
reads_overtaken v t before op = reads_prefix before op && is_overtaken v t (reads_item op)

-- the operation, after these, gives a key of the table its first position
abbrev pub ClaimsFirst : ℕ → List Op → Op → Key → Type 0
ClaimsFirst table before op key = (key_claimed op ≡ Some key) × (key.table ≡ table) × (ops_claim key before ≡ false)

-- and the table is crowded
abbrev pub LacksRoom : Setting → Asked → ℕ → List Op → Op → Type 0
LacksRoom s asked table before op = (key : Key) × ClaimsFirst table before op key × IsTrue (is_crowded s asked key)

-- these are the reads of the first k operations, and all of them pass
abbrev pub ReadsFirst : List ℕ → Rows → List Op → ℕ → List Item → Type 0
ReadsFirst widths rows ops k reads = IsTrue (all_pass widths rows [] (take k ops))
    × (reads ≡ reads_from widths rows [] (take k ops))

-- the evaluation is done, with these reads, and P says how the locked keys stand to its write set and its guards
abbrev pub IsDoneLocking : Evaluated → Tell → (List Key → List Item → List Key → Type 0) → Type 0
IsDoneLocking e t P = (writes : List Item) × (guards : List Key) × (e ≡ Done t.reads writes guards)
    × P (map lock_key t.locks) writes guards

-- all keys of the write set, then the guards, are locked
abbrev pub LocksAll : List Key → List Item → List Key → Type 0
LocksAll locked writes guards = locked ≡ keys_of writes guards

-- the key comes right after the locked ones
abbrev pub LocksBefore : Key → List Key → List Item → List Key → Type 0
LocksBefore key locked writes guards = (0 < length writes) × (rest : List Key)
    × (keys_of writes guards ≡ locked ++ key ∷ rest)

-- some of the first keys are locked
abbrev pub LocksFront : List Key → List Item → List Key → Type 0
LocksFront locked writes guards = (0 < length writes) × IsFront locked (keys_of writes guards)

module _ (s : Setting) (asked : Asked) (v : View) (j : ℕ) (t : Tell) (a : Attempt) where
  -- an attempt of worker j on the first p entries, whose evaluation there is e
  abbrev pub AnswersWith : Evaluated → ℕ → Outcome → Type 0
  AnswersWith e p (Commit number) =
      IsDoneLocking e t (λ locked writes guards.
      Listed (record { worker = j; number = number; prefix = p; txn = a.txn; writes = writes }) v.all
      × LocksAll locked writes guards)
  AnswersWith e p ReadOnly = (guards : List Key) × (e ≡ Done t.reads [] guards) × (t.locks ≡ [])
  AnswersWith e p (DeclinedAt op) = (e ≡ Declined op t.reads) × (t.locks ≡ [])
  AnswersWith e p (NoSpace table) =
      (k : ℕ) × (op : Op) × StandsAt k op t.ops × LacksRoom s asked table (take k t.ops) op
      × ReadsFirst s.widths (v.value t) t.ops (suc k) t.reads × (t.locks ≡ [])
  AnswersWith e p Spent = IsDoneLocking e t (λ locked writes guards. (0 < length writes) × (t.locks ≡ []))
  AnswersWith e p (Again i x y) = ⊥
  AnswersWith e p (Locked l) = IsDoneLocking e t (LocksBefore (lock_key l))
  AnswersWith e p (Newer l) = IsDoneLocking e t (LocksBefore (lock_key l))
  AnswersWith e p (TooOld i x h) =
      (k : ℕ) × (op : Op) × StandsAt k op t.ops × IsTrue (reads_overtaken v t (take k t.ops) op)
      × ReadsFirst s.widths (v.value t) t.ops k t.reads × (t.locks ≡ [])
  AnswersWith e p (Full l) =
      IsDoneLocking e t (λ locked writes guards. IsTrue (writes_key writes (lock_key l))
      × LocksAll locked writes guards)
  AnswersWith e p Cut = IsFront t.reads (reads_of e) × ((t.locks ≡ []) ⊎ IsDoneLocking e t LocksFront)
  AnswersWith e p Left = IsTrue asked.by_calls × IsFront t.reads (reads_of e) × (t.locks ≡ [])

-- an attempt without a snapshot
abbrev pub AnswersWithout : Tell → Outcome → Type 0
AnswersWithout t (Again i x y) = (t.reads ≡ []) × (t.locks ≡ [])
AnswersWithout t Cut = (t.reads ≡ []) × (t.locks ≡ [])
AnswersWithout t outcome = ⊥

-- each lock bears the stamp of the last of the first entries that writes its key
abbrev pub AreNewest : View → Tell → Type 0
AreNewest v t = AllByRecursion (λ l. l.stamp ≡ v.newest t (lock_key l)) t.locks

-- by whether the attempt got a snapshot
abbrev pub AnswersOn : Setting → Asked → View → ℕ → Tell → Attempt → Option ℕ → Type 0
AnswersOn s asked v j t a None = AnswersWithout t a.outcome
AnswersOn s asked v j t a (Some p) = AnswersWith s asked v j t a (evaluation_of s.widths (v.value t) t.ops) p a.outcome
    × AreNewest v t

-- of an event; only attempts answer
abbrev pub AnswersIn : Setting → Asked → View → ℕ → Tell → Event → Type 0
AnswersIn s asked v j t (Tried a) = AnswersOn s asked v j t a a.prefix
AnswersIn s asked v j t event = Unit {0}

-- worker j's events answer as the evaluations of their transactions do
abbrev pub AnswersMatch : Setting → Asked → View → ℕ → List Tell → Type 0
AnswersMatch s asked v j ts = AllByRecursion (λ t. AnswersIn s asked v j t t.event) ts
