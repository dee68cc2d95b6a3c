-- A reader of a report's text, from its last line to its first.
use Rattle.std.proofs.Common.{◌≡◌, ℕ, false, eqb, List, [], ◌∷◌, ◌++◌, length, Option, Some, None, refl, sym}
use Rattle.std.proofs.Common.{ap, ◌∙◌, subst, append_assoc}
use Rattle.std.specs.Prelude.{codes, bytes_eq, if◌then◌else◌}
use Rattle.std.specs.List.{AllByRecursion}
use Rattle.std.proofs.lemmas.List.Elements.{All-from_recursion}
use Rattle.std.proofs.lemmas.List.Splits.{slice_split_at}
use Rattle.si_model.specs.declared.row.Item.{Item}
use Rattle.si_model.specs.declared.log.Lock.{Lock}
use Rattle.si_model.specs.declared.log.Event.{Event}
use Rattle.si_model.specs.declared.log.Event.TheVariants.{Tried}
use Rattle.si_model.specs.declared.log.Log.{Log}
use Rattle.si_model.specs.declared.report.CommitLine.{CommitLine}
use Rattle.si_model.specs.declared.report.AuditRow.{AuditRow}
use Rattle.nam_catalog.specs.declared.shape.Table.{Table}
use Rattle.nam_text.specs.Fields.{fields_of, lines_of}
use Rattle.nam_text.specs.Spelling.{IsPlain}
use Rattle.nam_text.specs.Kinds.{behind_spaces, line_at}
use Rattle.nam_text.proofs.KindLemmas.{join_is}
use Rattle.nam_text.proofs.Again.{no_newline, split_again}
use Rattle.nam_report.specs.Spelling.{event_of, item_kind, lock_kind, entry_kind, audit_row_kind}

-- what lines tell: first the items that the line before them owns, then the log and the report that they are of
pub record Told : Type 0 where
  pub own_reads : List Item
  pub own_locks : List Lock
  pub own_writes : List Item
  pub events : List Event
  pub reads : List Item
  pub locks : List Lock
  pub entries : List CommitLine
  pub logs : List Log
  pub audit : List AuditRow

abbrev pub nothing_told : Told
nothing_told = record {
  own_reads = [];
  own_locks = [];
  own_writes = [];
  events = [];
  reads = [];
  locks = [];
  entries = [];
  logs = [];
  audit = [];
}

-- ---- one line more, before what is told

abbrev pub with_read : Item → Told → Told
with_read i p = record p { own_reads = i ∷ p.own_reads }

abbrev pub with_lock : Lock → Told → Told
with_lock l p = record p { own_locks = l ∷ p.own_locks }

abbrev pub with_write : Item → Told → Told
with_write i p = record p { own_writes = i ∷ p.own_writes }

abbrev pub with_row : AuditRow → Told → Told
with_row a p = record p { audit = a ∷ p.audit }

-- an event with as many reads and locks
abbrev pub counted : ℕ → ℕ → Event → Event
counted reads locks (Tried a) = Tried (record a { reads = reads; locks = locks })
counted reads locks e = e

-- an event owns the reads and locks that come next
abbrev pub with_event : Event → Told → Told
with_event e p = record p {
  own_reads = [];
  own_locks = [];
  events = counted (length p.own_reads) (length p.own_locks) e ∷ p.events;
  reads = p.own_reads ++ p.reads;
  locks = p.own_locks ++ p.locks;
}

-- an entry owns the writes that come next
abbrev pub with_entry : ℕ × CommitLine → Told → Told
with_entry c p = record p { own_writes = []; entries = record c.1 { writes = p.own_writes } ∷ p.entries }

-- a worker's line stands before its log
abbrev pub with_worker : Told → Told
with_worker p = record p {
  events = [];
  reads = [];
  locks = [];
  logs = record { events = p.events; reads = p.reads; locks = p.locks; writes = []; snaps = [] } ∷ p.logs;
}

abbrev pub with_some : {A : Type 0} → Option A → (A → Told → Told) → Told → Told
with_some None add p = p
with_some (Some x) add p = add x p

-- each of these, the last first
abbrev pub with_each : {A : Type 0} → (A → Told → Told) → List A → Told → Told
with_each add [] p = p
with_each add (x ∷ xs) p = add x (with_each add xs p)

-- ---- texts

module _ (tables : List Table) where
  abbrev pub with_fields : List (List ℕ) → Told → Told
  with_fields [] p = p
  with_fields (w ∷ fs) p =
      if bytes_eq w (codes "r") then with_some (line_at (item_kind tables (codes "r")) fs) with_read p
      else if bytes_eq w (codes "l") then with_some (line_at (lock_kind tables) fs) with_lock p
      else if bytes_eq w (codes "w") then with_some (line_at (item_kind tables (codes "w")) fs) with_write p
      else if bytes_eq w (codes "a") then with_some (line_at (audit_row_kind tables) fs) with_row p
      else if bytes_eq w (codes "c") then with_some (line_at entry_kind fs) with_entry p
      else if bytes_eq w (codes "worker") then with_worker p
      else with_some (event_of tables w fs) with_event p

  abbrev pub told_by : List (List ℕ) → Told
  told_by [] = nothing_told
  told_by (line ∷ lines) = with_fields (fields_of line) (told_by lines)

  -- what a text tells
  abbrev pub told : List ℕ → Told
  told text = told_by (lines_of text)

  -- the line of a word and fields
  abbrev pub line_of : List ℕ → List (List ℕ) → List ℕ
  line_of w fs = (w ++ behind_spaces fs) ++ codes "\n"

  -- a text begins with a line of plain fields
  pub line_told : (w : List ℕ) (fs : List (List ℕ)) (rest : List ℕ) → AllByRecursion IsPlain (w ∷ fs)
      → told (line_of w fs ++ rest) ≡ with_fields (w ∷ fs) (told rest)
  line_told w fs rest plain =
      let line = w ++ behind_spaces fs in
      let clean : AllByRecursion (λ b. eqb b 10 ≡ false) line
      = subst (AllByRecursion (λ b. eqb b 10 ≡ false)) (join_is w fs) (no_newline (w ∷ fs) plain) in
      let split : fields_of line ≡ w ∷ fs = ap fields_of (sym (join_is w fs)) ∙ split_again w fs plain.0 plain.1 in
      let lines : lines_of (line_of w fs ++ rest) ≡ line ∷ lines_of rest = ap lines_of (append_assoc line (10 ∷ []) rest)
      ∙ slice_split_at (λ b. eqb b 10) line 10 rest (All-from_recursion _ _ clean) refl in
      ap told_by lines ∙ ap (λ (f : List (List ℕ)). with_fields f (told rest)) split
