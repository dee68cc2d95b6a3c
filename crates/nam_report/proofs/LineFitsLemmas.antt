-- Each line of a report that fits its script, and whose numbers fit, fits its spelling.
use Rattle.std.proofs.Common.{ℕ, List, [], ◌∷◌, Option, Some, None, arith}
use Rattle.std.specs.List.{AllByRecursion}
use Rattle.std.specs.Prelude.{IfSome}
use Rattle.si_model.specs.declared.row.Item.{Item}
use Rattle.si_model.specs.declared.log.Lock.{Lock}
use Rattle.si_model.specs.declared.log.Outcome.{Outcome}
use Rattle.si_model.specs.declared.log.Outcome.TheVariants.{Commit, ReadOnly, Declined, NoSpace, Spent, Again, Locked}
use Rattle.si_model.specs.declared.log.Outcome.TheVariants.{Newer, TooOld, Full, Cut, Left}
use Rattle.si_model.specs.declared.log.Event.{Event}
use Rattle.si_model.specs.declared.log.Event.TheVariants.{Tried, NoRoom, Moved, Collected, CollectAgain, CollectCut}
use Rattle.si_model.specs.declared.log.Event.TheVariants.{TidyCut, TailCut, Finished}
use Rattle.si_model.specs.declared.report.CommitLine.{CommitLine}
use Rattle.si_model.specs.declared.report.AuditRow.{AuditRow}
use Rattle.nam_catalog.specs.declared.shape.Table.{Table}
use Rattle.nam_catalog.specs.Tables.{widths_of}
use Rattle.nam_text.specs.Spelling.{FitsIfSome}
use Rattle.nam_report.specs.Fits.{HasWidth, ItemFits, LockFits, OutcomeFits, EventFits, AuditRowFits}
use Rattle.nam_report.specs.Numbers.{IsU32, IsU64, WordsFit, ItemNumbersFit, LockNumbersFit, OutcomeNumbersFit}
use Rattle.nam_report.specs.Numbers.{EventNumbersFit, EntryNumbersFit, RowNumbersFit}
use Rattle.nam_report.specs.Spelling.{u32, u64, value, lock, spelt_outcome, spelt_event, item_kind, entry_kind}
use Rattle.nam_report.specs.Spelling.{worker_kind, audit_row_kind}
use Rattle.nam_report.proofs.NamedLemmas.{AreNamed}

fits_u32 : (n : ℕ) → IsU32 n → u32.Fits n
fits_u32 n small = (small, omega (arith, small))

fits_u64 : (n : ℕ) → IsU64 n → u64.Fits n
fits_u64 n small = (small, small)

fits_words : (ws : List ℕ) → WordsFit ws → AllByRecursion u64.Fits ws
fits_words [] small = tt
fits_words (w ∷ ws) small = (fits_u64 w small.0, fits_words ws small.1)

fits_prefix : (prefix : Option ℕ) → IfSome prefix IsU64 → FitsIfSome u64.Fits prefix
fits_prefix None small = tt
fits_prefix (Some p) small = fits_u64 p small

module _ (workers : ℕ) (tables : List Table) (named : AreNamed workers tables) where
  abbrev widths : List ℕ
  widths = widths_of tables

  fits_value : (t : ℕ) (v : Option (List ℕ)) → HasWidth widths t v → IfSome v WordsFit → value.Fits v
  fits_value t None width small = tt
  fits_value t (Some v) width small =
      let w = named.width t width.0 in
      (fits_words v small, omega (arith, w.0, width.1), omega (arith, w.1, width.1))

  pub fits_item : (letter : List ℕ) (i : Item) → ItemFits widths i → ItemNumbersFit i
      → (item_kind tables letter).rest.Fits (i.table, (i.key, i.value))
  fits_item letter i width small =
      (named.table i.table width.0, (fits_u64 i.key small.0, fits_value i.table i.value width small.1))

  pub fits_lock : (l : Lock) → LockFits widths l → LockNumbersFit l → (lock tables).Fits l
  fits_lock l table small =
      (named.table l.table table, (fits_u64 l.key small.0, (fits_u32 _ small.1.0, fits_u64 _ small.1.1)))

  fits_outcome : (o : Outcome) → OutcomeFits widths o → OutcomeNumbersFit o → (spelt_outcome tables o).Fits
  unfolding spelt_outcome
  fits_outcome (Commit number) fits small = fits_u64 number small
  fits_outcome ReadOnly fits small = tt
  fits_outcome (Declined op) fits small = fits_u32 op small
  fits_outcome (NoSpace t) fits small = named.table t fits
  fits_outcome Spent fits small = tt
  fits_outcome (Again j first second) fits small =
      (fits_u32 j small.0, (fits_u64 first small.1, fits_u64 second small.2))
  fits_outcome (Locked l) fits small = fits_lock l fits small
  fits_outcome (Newer l) fits small = fits_lock l fits small
  fits_outcome (TooOld j entry horizon) fits small =
      (fits_u32 j small.0, (fits_u64 entry small.1, fits_u64 horizon small.2))
  fits_outcome (Full l) fits small = fits_lock l fits small
  fits_outcome Cut fits small = tt
  fits_outcome Left fits small = tt

  pub fits_event : (e : Event) → EventFits workers widths e → EventNumbersFit e → (spelt_event tables e).Fits
  unfolding spelt_event
  fits_event (Tried a) fits small =
      (fits_u32 _ small.0, (fits_u32 _ small.1, (fits_prefix _ small.2, fits_outcome a.outcome fits small.3)))
  fits_event (NoRoom b) fits small = fits_u32 b small
  fits_event (Moved b t k stamp how) fits small = (
    fits_u32 b small.0,
    (
      named.table t fits,
      (fits_u64 k small.1, (fits_u32 stamp.thread small.2.0, (fits_u64 stamp.number small.2.1, tt))),
    ),
  )
  fits_event (Collected b p entries cut) fits small =
      let few = named.few in (
        fits_u32 b small.0,
        (
          fits_u64 p small.1,
          ((fits_words entries small.2, omega (arith, fits, few.0), omega (arith, fits, few.1)), tt),
        ),
      )
  fits_event (CollectAgain b j first second) fits small =
      (fits_u32 b small.0, (fits_u32 j small.1, (fits_u64 first small.2, fits_u64 second small.3)))
  fits_event (CollectCut b) fits small = (fits_u32 b small, tt)
  fits_event (TidyCut t k) fits small = (named.table t fits, (fits_u64 k small, tt))
  fits_event TailCut fits small = tt
  fits_event (Finished how) fits small = tt

  pub fits_row : (a : AuditRow) → AuditRowFits widths a → RowNumbersFit a
      → (audit_row_kind tables).rest.Fits (a.table, (a.key, (a.value, a.locked)))
  fits_row a width small =
      (named.table a.table width.0, (fits_u64 a.key small.0, fits_value a.table a.value width small.1))

pub fits_entry : (q : ℕ) (c : CommitLine) → IsU64 q → EntryNumbersFit c
    → entry_kind.rest.Fits (q, (c.worker, (c.number, (c.prefix, c.txn))))
fits_entry q c place small = (
  fits_u64 q place,
  (fits_u32 _ small.worker, (fits_u64 _ small.number, (fits_u64 _ small.prefix, fits_u32 _ small.txn))),
)

pub fits_worker : (j n : ℕ) → IsU64 j → IsU64 n → worker_kind.rest.Fits (j, n)
fits_worker j n few count = (fits_u64 j few, fits_u64 n count)
