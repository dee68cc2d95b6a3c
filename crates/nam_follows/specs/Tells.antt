-- What each answer of a driver's call tells in the log, and what a cut tells, by the point at which the driver stands.
use Rattle.std.specs.Prelude.{ℕ, Bool, ◌≡◌, ◌⊎◌, IsTrue, true, false, is_some, List, [], ◌∷◌, ◌++◌}
use Rattle.si_model.specs.declared.row.Key.{Key}
use Rattle.si_model.specs.declared.log.Attempt.{Attempt}
use Rattle.si_model.specs.declared.log.Finish.{Finish}
use Rattle.si_model.specs.declared.log.Stamp.{Stamp}
use Rattle.si_model.specs.declared.log.Outcome.{Outcome}
use Rattle.si_model.specs.declared.log.Outcome.TheVariants as outcome
use Rattle.si_model.specs.declared.log.MoveEnd.{MoveEnd}
use Rattle.si_model.specs.declared.log.MoveEnd.TheVariants as moved
use Rattle.si_model.specs.declared.log.Event.{Event}
use Rattle.si_model.specs.declared.log.Event.TheVariants.{Tried, NoRoom, Moved, Collected, CollectAgain, CollectCut}
use Rattle.si_model.specs.declared.log.Event.TheVariants.{TidyCut, TailCut, Finished}
use Rattle.si_model.specs.Tells.{Tell, commit_in}
use Rattle.si_model.specs.Tries.{is_collect_of}
use Rattle.nam_protocol.specs.declared.txn.TxnAnswer.{TxnAnswer}
use Rattle.nam_protocol.specs.declared.txn.TxnAnswer.TheVariants as txn_answer
use Rattle.nam_protocol.specs.declared.client.Answer.{Answer}
use Rattle.nam_protocol.specs.declared.client.Answer.TheVariants as answer
use Rattle.nam_protocol.specs.declared.session.Job.{Job}
use Rattle.nam_protocol.specs.declared.session.DriverPoint.{DriverPoint}
use Rattle.nam_protocol.specs.declared.session.DriverPoint.TheVariants.{ToBegin, ToAsk, ToTidy, ToCollect}
use Rattle.nam_protocol.specs.Driver.{key_number}

-- 1. An attempt

-- this try of the job, which ended so; a commit has the job's operations
pub record IsTry (job : Job) (nth : ℕ) (how : Outcome) (t : Tell) : Type 0 where
  pub attempt : Attempt
  pub event : t.event ≡ Tried attempt
  pub txn : attempt.txn ≡ job.txn
  pub try : attempt.nth ≡ nth
  pub outcome : attempt.outcome ≡ how
  pub ops : IsTrue (is_some (commit_in t.event)) → t.ops ≡ job.ops

abbrev pub TellsTry : Job → ℕ → Outcome → List Tell → Type 0
TellsTry job nth how ts = (t : Tell) × (ts ≡ t ∷ []) × IsTry job nth how t

-- an event alone
abbrev pub TellsEvent : Event → List Tell → Type 0
TellsEvent event ts = (t : Tell) × (ts ≡ t ∷ []) × (t.event ≡ event)

-- 2. A tidying

-- behind these events a first noroom of the bucket, and its collect
abbrev pub HasCollected : ℕ → List Tell → List Tell → Type 0
HasCollected bucket earlier ts =
    (first : Tell) × (second : Tell) × (ts ≡ earlier ++ first ∷ second ∷ []) × (first.event ≡ NoRoom bucket)
    × IsTrue (is_collect_of bucket second.event)

-- the key moved so
abbrev pub TellsMove : Key → MoveEnd → List Tell → Type 0
TellsMove key how ts =
    (bucket : ℕ) × (stamp : Stamp) × TellsEvent (Moved bucket key.table key.key stamp how) ts

-- 3. An answer

-- of a call of a transaction
abbrev pub TxnTells : Job → ℕ → TxnAnswer → List Tell → Type 0
TxnTells job nth (txn_answer.Value value) ts = ts ≡ []
TxnTells job nth txn_answer.Written ts = ts ≡ []
TxnTells job nth (txn_answer.Added n) ts = ts ≡ []
TxnTells job nth txn_answer.Met ts = ts ≡ []
TxnTells job nth (txn_answer.Committed number) ts = TellsTry job nth (outcome.Commit number) ts
TxnTells job nth txn_answer.ReadOnly ts = TellsTry job nth outcome.ReadOnly ts
TxnTells job nth (txn_answer.TooOld worker entry horizon) ts =
    TellsTry job nth (outcome.TooOld worker entry horizon) ts
TxnTells job nth (txn_answer.NoSpace table) ts = TellsTry job nth (outcome.NoSpace table) ts
TxnTells job nth txn_answer.Declined ts = (op : ℕ) × TellsTry job nth (outcome.Declined op) ts
TxnTells job nth txn_answer.Spent ts = TellsTry job nth outcome.Spent ts
TxnTells job nth (txn_answer.Locked lock) ts = TellsTry job nth (outcome.Locked lock) ts
TxnTells job nth (txn_answer.Newer lock) ts = TellsTry job nth (outcome.Newer lock) ts
TxnTells job nth (txn_answer.Full lock) ts = TellsTry job nth (outcome.Full lock) ts
TxnTells job nth txn_answer.Astray ts = ⊥

-- of a begin
abbrev pub BeginTells : Job → ℕ → Answer → List Tell → Type 0
BeginTells job nth (answer.Begun prefix) ts = ts ≡ []
BeginTells job nth (answer.Again worker first second) ts = TellsTry job nth (outcome.Again worker first second) ts
BeginTells job nth _ ts = ⊥

-- of an operation or a commit
abbrev pub AskTells : Job → ℕ → Answer → List Tell → Type 0
AskTells job nth (answer.Txn end) ts = TxnTells job nth end ts
AskTells job nth (answer.Scanned items) ts = ts ≡ []
AskTells job nth _ ts = ⊥

-- a second noroom is of the bucket of the first
abbrev pub SameBucket : Bool → List Tell → ℕ → Type 0
SameBucket false front bucket = Unit {0}
SameBucket true front bucket = (b : ℕ) (earlier : List Tell) → HasCollected b earlier front → b ≡ bucket

-- of a tidying of the key
abbrev pub TidyTells : Key → Bool → List Tell → Answer → List Tell → Type 0
TidyTells key again front answer.Nothing ts = ts ≡ []
TidyTells key again front answer.Moved ts = TellsMove key moved.Done ts
TidyTells key again front answer.Back ts = TellsMove key moved.Back ts
TidyTells key again front (answer.NoRoom bucket) ts = TellsEvent (NoRoom bucket) ts × SameBucket again front bucket
TidyTells key again front _ ts = ⊥

-- of a collect of the bucket
abbrev pub CollectTells : ℕ → Answer → List Tell → Type 0
CollectTells bucket (answer.Collected known) ts =
    (prefix : ℕ) × (seen : List ℕ) × TellsEvent (Collected bucket prefix seen false) ts
CollectTells bucket (answer.Again worker first second) ts = TellsEvent (CollectAgain bucket worker first second) ts
CollectTells bucket _ ts = ⊥

-- of the driver's call, at this try of the job, behind these events
abbrev pub AnswerTells : Job → ℕ → List Tell → DriverPoint → Answer → List Tell → Type 0
AnswerTells job try front ToBegin end ts = BeginTells job try end ts
AnswerTells job try front (ToAsk nth) end ts = AskTells job try end ts
AnswerTells job try front (ToTidy keys nth again retry) end ts =
    TidyTells (key_number keys nth) again front end ts
AnswerTells job try front (ToCollect bucket keys nth retry) end ts = CollectTells bucket end ts

-- 4. A cut

-- of a commit that has published
abbrev pub TellsTail : Job → ℕ → List Tell → Type 0
TellsTail job nth ts =
    (number : ℕ) × (t : Tell) × (tail : Tell) × (ts ≡ t ∷ tail ∷ []) × IsTry job nth (outcome.Commit number) t
    × (tail.event ≡ TailCut)

-- the call that was stopped
abbrev pub StopTells : Job → ℕ → DriverPoint → List Tell → Type 0
StopTells job try ToBegin ts = TellsTry job try outcome.Cut ts
StopTells job try (ToAsk nth) ts = TellsTry job try outcome.Cut ts ⊎ TellsTail job try ts
StopTells job try (ToTidy keys nth again retry) ts =
    let key = key_number keys nth in TellsEvent (TidyCut key.table key.key) ts ⊎ TellsMove key moved.Cut ts
StopTells job try (ToCollect bucket keys nth retry) ts =
    TellsEvent (CollectCut bucket) ts
    ⊎ ((prefix : ℕ) × (seen : List ℕ) × TellsEvent (Collected bucket prefix seen true) ts)

-- the call that was stopped, where a medic has finished it: no tail of a commit is cut then
abbrev pub TreatedTells : Job → ℕ → DriverPoint → List Tell → Type 0
TreatedTells job try (ToAsk nth) ts =
    TellsTry job try outcome.Cut ts ⊎ ((number : ℕ) × TellsTry job try (outcome.Commit number) ts)
TreatedTells job try point ts = StopTells job try point ts

-- a session that was cut at this point, and finished by a medic or not
abbrev pub CutTells : Job → ℕ → DriverPoint → List Tell → Type 0
CutTells job try point ts =
    StopTells job try point ts
    ⊎ ((stop : List Tell) × (last : Tell) × (how : Finish) × (ts ≡ stop ++ last ∷ []) × (last.event ≡ Finished how)
    × TreatedTells job try point stop)
