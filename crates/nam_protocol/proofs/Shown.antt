-- What examples compare: the closed world of a simulated run; and short words for scenarios.
use Rattle.std.specs.Prelude.{ℕ, Bool, List, [], Option, Some, None}
use Rattle.si_model.specs.declared.row.Row.{Row}
use Rattle.si_model.specs.declared.row.Item.{Item}
use Rattle.si_model.specs.declared.op.Op.{Op}
use Rattle.si_model.specs.declared.log.Lock.{Lock}
use Rattle.si_model.specs.declared.log.Outcome.{Outcome}
use Rattle.si_model.specs.declared.log.MoveEnd.{MoveEnd}
use Rattle.si_model.specs.declared.log.Event.{Event}
use Rattle.si_model.specs.declared.log.Event.TheVariants.{Tried, Moved}
use Rattle.si_model.specs.declared.report.AuditRow.{AuditRow}
use Rattle.si_model.specs.declared.report.Closed.{Closed}
use Rattle.si_model.specs.declared.log.MoveEnd.TheVariants as move_end
use Rattle.nam_line.specs.Plan.{Line, empty_plan, plan_from, new_line}
use Rattle.nam_catalog.specs.declared.form.Form.{Form}
use Rattle.nam_catalog.specs.declared.shape.Table.{Table}
use Rattle.nam_catalog.specs.declared.shape.Shape.{Shape}
use Rattle.nam_protocol.specs.Schedule.{Stint, Owned, Scenario, run_to_end}
use Rattle.nam_protocol.specs.Closed.{closed}

-- 1. The run

-- the closed world after the schedule and as many rounds as it takes
abbrev pub shown : Scenario → List Line → Closed
shown c lines = closed c.shape (run_to_end 1000000 c lines).world

-- 2. Scenarios

abbrev pub table : ℕ → ℕ → ℕ → Table
table width capacity ring = record { name = []; width = width; capacity = capacity; ring = ring }

abbrev pub shape : Form → ℕ → List Table → ℕ → ℕ → ℕ → Shape
shape form workers tables buckets cells start =
    record { form = form; workers = workers; tables = tables; buckets = buckets; cells = cells; start = start }

abbrev pub loaded : ℕ → ℕ → List ℕ → Row
loaded table key value = record { table = table; key = key; value = value }

abbrev pub txn : ℕ → List Op → Owned
txn worker ops = record { worker = worker; ops = ops }

abbrev pub stint : ℕ → ℕ → Stint
stint worker steps = record { worker = worker; steps = steps }

-- a line that never fails, and one that fails from its nth verb on
abbrev pub up : Line
up = new_line empty_plan

abbrev pub fuse : ℕ → Line
fuse nth = new_line (plan_from nth)

-- 3. Logs and audits

abbrev pub item : ℕ → ℕ → Option (List ℕ) → Item
item table key value = record { table = table; key = key; value = value }

abbrev pub row : ℕ → ℕ → Option (List ℕ) → Bool → AuditRow
row table key value locked = record { table = table; key = key; value = value; locked = locked }

abbrev pub lock : ℕ → ℕ → ℕ → ℕ → Lock
lock table key thread number = record { table = table; key = key; stamp = record { thread = thread; number = number } }

-- transaction, try, prefix, numbers of reads, locks and writes, and the outcome
abbrev pub tried : ℕ → ℕ → ℕ → ℕ → ℕ → ℕ → Outcome → Event
tried txn nth prefix reads locks writes outcome =
    Tried record {
      txn = txn;
      nth = nth;
      prefix = Some prefix;
      reads = reads;
      locks = locks;
      writes = writes;
      outcome = outcome;
    }

abbrev pub unbegun : ℕ → ℕ → Outcome → Event
unbegun txn nth outcome =
    Tried record { txn = txn; nth = nth; prefix = None; reads = 0; locks = 0; writes = 0; outcome = outcome }

-- bucket, table, key, the version's stamp, and how the move ended
abbrev pub move : ℕ → ℕ → ℕ → ℕ → ℕ → MoveEnd → Event
move bucket table key thread number how = Moved bucket table key record { thread = thread; number = number } how

abbrev pub move_done : MoveEnd
move_done = move_end.Done

abbrev pub move_back : MoveEnd
move_back = move_end.Back

abbrev pub move_cut : MoveEnd
move_cut = move_end.Cut
