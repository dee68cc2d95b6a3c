-- How the lines of a report are spelt, where its tables go by their names.
use Rattle.std.specs.Prelude.{◌≡◌, ◌^◌, ℕ, List, [], ◌∷◌, codes, Bool, true, false, ◌⊎◌, Option, Some, None}
use Rattle.std.specs.Prelude.{if◌then◌else◌}
use Rattle.std.proofs.Common.{inl, inr}
use Rattle.si_model.specs.declared.row.Item.{Item}
use Rattle.si_model.specs.declared.log.Lock.{Lock}
use Rattle.si_model.specs.declared.log.Outcome.{Outcome}
use Rattle.si_model.specs.declared.log.Outcome.TheVariants.{Commit, ReadOnly, Declined, NoSpace, Spent, Again, Locked}
use Rattle.si_model.specs.declared.log.Outcome.TheVariants.{Newer, TooOld, Full, Cut, Left}
use Rattle.si_model.specs.declared.log.MoveEnd.{MoveEnd}
use Rattle.si_model.specs.declared.log.MoveEnd.TheVariants.{Done, Back, Cut as MoveCut}
use Rattle.si_model.specs.declared.log.Finish.{Finish}
use Rattle.si_model.specs.declared.log.Finish.TheVariants.{Clean, Undone, RolledOn}
use Rattle.si_model.specs.declared.log.Event.{Event}
use Rattle.si_model.specs.declared.log.Event.TheVariants.{Tried, NoRoom, Moved, Collected, CollectAgain, CollectCut}
use Rattle.si_model.specs.declared.log.Event.TheVariants.{TidyCut, TailCut, Finished}
use Rattle.si_model.specs.declared.report.CommitLine.{CommitLine}
use Rattle.si_model.specs.declared.report.AuditRow.{AuditRow}
use Rattle.nam_catalog.specs.declared.shape.Table.{Table}
use Rattle.nam_catalog.specs.Tables.{name_of, first_named}
use Rattle.nam_text.specs.Token.{is_name}
use Rattle.nam_text.specs.Spelling.{Field, Spelling, below, or_dash, choice, nothing, word, last, next, some, before}
use Rattle.nam_text.specs.Spelling.{with_mark, or_lone_dash, through}
use Rattle.nam_text.specs.Kinds.{LineKind, kind, Spelt, of, Reader, no_line, or, by_word}

-- ---- parts of lines

abbrev pub u32 : Field ℕ
u32 = below (2 ^ 32)

abbrev pub u64 : Field ℕ
u64 = below (2 ^ 64)

-- a table, by its name
abbrev pub table : List Table → Field ℕ
table tables = record {
  Fits = λ t. (is_name (name_of tables t) ≡ true) × (first_named (name_of tables t) tables ≡ Some t);
  IsSmall = λ _. Unit {0};
  text = name_of tables;
  read = λ f. if is_name f then first_named f tables else None;
}

-- the words of a value, or a dash where it is absent
abbrev pub value : Spelling (Option (List ℕ))
value = or_lone_dash (some 8 u64)

abbrev pub lock_in : ℕ × (ℕ × (ℕ × ℕ)) → Lock
lock_in (t, (k, (thread, number))) = record { table = t; key = k; stamp = record { thread = thread; number = number } }

abbrev pub lock_parts : Lock → ℕ × (ℕ × (ℕ × ℕ))
lock_parts l = (l.table, (l.key, (l.stamp.thread, l.stamp.number)))

-- a record and its stamp
abbrev pub lock : List Table → Spelling Lock
lock tables = through lock_in lock_parts (next (table tables) (next u64 (next u32 (last u64))))

abbrev pub move_end_word : MoveEnd → List ℕ
move_end_word Done = codes "done"
move_end_word Back = codes "back"
move_end_word MoveCut = codes "cut"

abbrev pub move_end : Field MoveEnd
move_end = choice move_end_word (Done ∷ Back ∷ MoveCut ∷ [])

-- how a collect with a snapshot ended
abbrev pub collect_end_word : Bool → List ℕ
collect_end_word true = codes "cut"
collect_end_word false = codes "done"

abbrev pub collect_end : Field Bool
collect_end = choice collect_end_word (true ∷ false ∷ [])

abbrev pub finish_word : Finish → List ℕ
finish_word Clean = codes "clean"
finish_word Undone = codes "undone"
finish_word RolledOn = codes "on"

abbrev pub finish : Field Finish
finish = choice finish_word (Clean ∷ Undone ∷ RolledOn ∷ [])

-- ---- outcomes

abbrev pub commit_kind : LineKind Outcome
commit_kind = kind (codes "commit") (last u64) (λ number. Commit number)

abbrev pub read_only_kind : LineKind Outcome
read_only_kind = kind (codes "read") nothing (λ _. ReadOnly)

abbrev pub declined_kind : LineKind Outcome
declined_kind = kind (codes "declined") (last u32) (λ op. Declined op)

abbrev pub no_space_kind : List Table → LineKind Outcome
no_space_kind tables = kind (codes "nospace") (last (table tables)) (λ t. NoSpace t)

abbrev pub spent_kind : LineKind Outcome
spent_kind = kind (codes "spent") nothing (λ _. Spent)

abbrev pub again_kind : LineKind Outcome
again_kind = kind (codes "again") (next u32 (next u64 (last u64))) (λ (j, (first, second)). Again j first second)

abbrev pub locked_kind : List Table → LineKind Outcome
locked_kind tables = kind (codes "locked") (lock tables) (λ l. Locked l)

abbrev pub newer_kind : List Table → LineKind Outcome
newer_kind tables = kind (codes "newer") (lock tables) (λ l. Newer l)

abbrev pub too_old_kind : LineKind Outcome
too_old_kind = kind (codes "old") (next u32 (next u64 (last u64))) (λ (j, (entry, horizon)). TooOld j entry horizon)

abbrev pub full_kind : List Table → LineKind Outcome
full_kind tables = kind (codes "full") (lock tables) (λ l. Full l)

abbrev pub cut_kind : LineKind Outcome
cut_kind = kind (codes "cut") nothing (λ _. Cut)

abbrev pub left_kind : LineKind Outcome
left_kind = kind (codes "left") nothing (λ _. Left)

unfoldable pub spelt_outcome : List Table → Outcome → Spelt
spelt_outcome tables (Commit number) = of commit_kind number
spelt_outcome tables ReadOnly = of read_only_kind tt
spelt_outcome tables (Declined op) = of declined_kind op
spelt_outcome tables (NoSpace t) = of (no_space_kind tables) t
spelt_outcome tables Spent = of spent_kind tt
spelt_outcome tables (Again j first second) = of again_kind (j, (first, second))
spelt_outcome tables (Locked l) = of (locked_kind tables) l
spelt_outcome tables (Newer l) = of (newer_kind tables) l
spelt_outcome tables (TooOld j entry horizon) = of too_old_kind (j, (entry, horizon))
spelt_outcome tables (Full l) = of (full_kind tables) l
spelt_outcome tables Cut = of cut_kind tt
spelt_outcome tables Left = of left_kind tt

unfoldable pub outcome_of : List Table → Reader Outcome
outcome_of tables =
    or commit_kind (or read_only_kind
    (or declined_kind (or (no_space_kind tables) (or spent_kind (or again_kind (or (locked_kind tables)
    (or (newer_kind tables) (or too_old_kind (or (full_kind tables) (or cut_kind (or left_kind no_line)))))))))))

abbrev pub outcome : List Table → Spelling Outcome
outcome tables = by_word (spelt_outcome tables) (outcome_of tables)

-- ---- events

-- an attempt, whose reads, locks and writes are counted elsewhere
abbrev pub attempt_kind : List Table → LineKind Event
attempt_kind tables =
    kind (codes "t")
    (next u32 (word (codes "try") (next u32 (word (codes "prefix") (next (or_dash u64) (outcome tables))))))
    (λ (txn, (nth, (prefix, outcome))).
    Tried (record { txn = txn; nth = nth; prefix = prefix; reads = 0; locks = 0; writes = 0; outcome = outcome }))

abbrev pub no_room_kind : LineKind Event
no_room_kind = kind (codes "noroom") (last u32) (λ b. NoRoom b)

abbrev pub move_kind : List Table → LineKind Event
move_kind tables =
    kind (codes "move") (next u32 (next (table tables) (next u64 (next u32 (next u64 (last move_end))))))
    (λ (b, (t, (k, (thread, (number, how))))). Moved b t k (record { thread = thread; number = number }) how)

-- what stands behind the bucket of a collect: what came of it with a snapshot and without one
abbrev pub Collect : Type 0
Collect = (ℕ × (List ℕ × Bool)) ⊎ ((ℕ × (ℕ × ℕ)) ⊎ Unit {0})

abbrev pub collect_done_kind : LineKind Collect
collect_done_kind = kind (codes "prefix") (next u64 (before (some 16 u64) collect_end)) (λ x. inl x)

abbrev pub collect_again_kind : LineKind Collect
collect_again_kind = kind (codes "again") (next u32 (next u64 (last u64))) (λ x. inr (inl x))

abbrev pub collect_cut_kind : LineKind Collect
collect_cut_kind = kind (codes "cut") nothing (λ x. inr (inr x))

abbrev pub spelt_collect : Collect → Spelt
spelt_collect (inl x) = of collect_done_kind x
spelt_collect (inr (inl x)) = of collect_again_kind x
spelt_collect (inr (inr x)) = of collect_cut_kind x

unfoldable pub collect_of : Reader Collect
collect_of = or collect_done_kind (or collect_again_kind (or collect_cut_kind no_line))

abbrev pub collect_in : ℕ → Collect → Event
collect_in b (inl (p, (entries, cut))) = Collected b p entries cut
collect_in b (inr (inl (j, (first, second)))) = CollectAgain b j first second
collect_in b (inr (inr x)) = CollectCut b

abbrev pub collect_kind : LineKind Event
collect_kind = kind (codes "collect") (next u32 (by_word spelt_collect collect_of)) (λ (b, x). collect_in b x)

abbrev pub tidy_cut_kind : List Table → LineKind Event
tidy_cut_kind tables =
    kind (codes "tidy") (next (table tables) (next u64 (word (codes "cut") nothing))) (λ (t, (k, x)). TidyCut t k)

abbrev pub tail_cut_kind : LineKind Event
tail_cut_kind = kind (codes "tail") (word (codes "cut") nothing) (λ _. TailCut)

abbrev pub medic_kind : LineKind Event
medic_kind = kind (codes "medic") (last finish) (λ how. Finished how)

unfoldable pub spelt_event : List Table → Event → Spelt
spelt_event tables (Tried a) = of (attempt_kind tables) (a.txn, (a.nth, (a.prefix, a.outcome)))
spelt_event tables (NoRoom b) = of no_room_kind b
spelt_event tables (Moved b t k stamp how) = of (move_kind tables) (b, (t, (k, (stamp.thread, (stamp.number, how)))))
spelt_event tables (Collected b p entries cut) = of collect_kind (b, inl (p, (entries, cut)))
spelt_event tables (CollectAgain b j first second) = of collect_kind (b, inr (inl (j, (first, second))))
spelt_event tables (CollectCut b) = of collect_kind (b, inr (inr tt))
spelt_event tables (TidyCut t k) = of (tidy_cut_kind tables) (t, (k, tt))
spelt_event tables TailCut = of tail_cut_kind tt
spelt_event tables (Finished how) = of medic_kind how

unfoldable pub event_of : List Table → Reader Event
event_of tables =
    or (attempt_kind tables)
    (or no_room_kind (or (move_kind tables) (or collect_kind (or (tidy_cut_kind tables) (or tail_cut_kind
    (or medic_kind no_line))))))

-- ---- the other lines

-- an item, behind the letter of its kind
abbrev pub item_kind : List Table → List ℕ → LineKind Item
item_kind tables letter =
    kind letter (next (table tables) (next u64 value)) (λ (t, (k, v)). record { table = t; key = k; value = v })

abbrev pub lock_kind : List Table → LineKind Lock
lock_kind tables = kind (codes "l") (lock tables) (λ l. l)

-- the length of the history
abbrev pub history_kind : LineKind ℕ
history_kind = kind (codes "history") (last u64) (λ n. n)

-- an entry by its place, whose write set is told elsewhere
abbrev pub entry_kind : LineKind (ℕ × CommitLine)
entry_kind =
    kind (codes "c")
    (next u64 (word (codes "worker") (next u32 (word (codes "number") (next u64 (word (codes "prefix")
    (next u64 (word (codes "txn") (last u32)))))))))
    (λ (q, (worker, (number, (prefix, txn)))).
    (q, record { worker = worker; number = number; prefix = prefix; txn = txn; writes = [] }))

-- a worker and the number of its events
abbrev pub worker_kind : LineKind (ℕ × ℕ)
worker_kind = kind (codes "worker") (next u64 (word (codes "events") (last u64))) (λ x. x)

abbrev pub audit_kind : LineKind ℕ
audit_kind = kind (codes "audit") (last u64) (λ n. n)

abbrev pub audit_row_kind : List Table → LineKind AuditRow
audit_row_kind tables =
    kind (codes "a") (next (table tables) (next u64 (with_mark (codes "locked") value)))
    (λ (t, (k, (v, b))). record { table = t; key = k; value = v; locked = b })
