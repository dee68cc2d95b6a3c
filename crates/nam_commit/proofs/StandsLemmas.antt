-- What fits in a store's shape stands: what each step goes by.
use Rattle.std.proofs.Common.{◌≡◌, ℕ, ◌+◌, ◌<◌, ◌≤◌, length, refl, sym, ap, subst, arith}
use Rattle.nam_verbs.specs.declared.now.Now.{Now}
use Rattle.nam_verbs.specs.declared.now.Now.TheVariants.{At, Over}
use Rattle.nam_verbs.specs.Now.{FitsNow}
use Rattle.nam_catalog.specs.declared.form.Form.{Form}
use Rattle.nam_catalog.specs.declared.form.Form.TheVariants.{Narrow, Wide, Held}
use Rattle.nam_catalog.specs.declared.shape.Shape.{Shape}
use Rattle.nam_catalog.specs.Fits.{FitsLimits}
use Rattle.nam_catalog.specs.Greatest.{greatest_number}
use Rattle.nam_header.specs.Stamp.{FitsStamp}
use Rattle.nam_protocol.specs.declared.txn.TxnState.{TxnState}
use Rattle.nam_protocol.specs.declared.txn.TxnAnswer.{TxnAnswer}
use Rattle.nam_protocol.specs.declared.txn.ListPoint.{ListPoint}
use Rattle.nam_protocol.specs.declared.txn.ListPoint.TheVariants.{ListRow, ListKind, ListData, ListNumber, ListState}
use Rattle.nam_protocol.specs.declared.txn.CommitPoint.{CommitPoint}
use Rattle.nam_protocol.specs.declared.txn.CommitPoint.TheVariants.{Locking, Checking, Returning, Saving, Copying}
use Rattle.nam_protocol.specs.declared.txn.CommitPoint.TheVariants.{Installing, Publishing, Freeing}
use Rattle.nam_protocol.specs.declared.txn.CommitPoint.TheVariants.{Listing, Counting, Deciding, Clearing, Ending}
use Rattle.nam_protocol.specs.Commit.{records_of, record_place, value_at, own_stamp}
use Rattle.nam_protocol.specs.TxnFits.{StateFits, CommitFits}
use Rattle.nam_protocol.proofs.FallsKeys.{nth_fits, writes_within}
use Rattle.nam_protocol.proofs.FewLemmas.{few_places}
use Rattle.nam_protocol.proofs.GivesCommit.{commit_gives}
use Rattle.nam_commit.specs.Commits.{Commits, CommitsFit, CommitsStand}
use Rattle.nam_commit.specs.Stands.{CommonStands, RecordStands, WrittenStands, ListStands, PointStands, NowStands}
use Rattle.nam_commit.specs.Stands.{NowPlaced}

greatest_most : (form : Form) → greatest_number form ≤ 35184372088831
greatest_most Narrow = omega arith
greatest_most Wide = omega arith
greatest_most Held = omega arith

module _ (shape : Shape) (limits : FitsLimits shape) (state : TxnState) (fits : StateFits shape state) where
  common : (at : CommitPoint) → CommitFits shape state at → CommonStands state
  common at c =
      let few = (few_places shape state at fits c).records in
      let workers = limits.most_workers in
      let least = fits.worker_is.0 in
      let most = fits.worker_is.1 in
      let room = c.3 in
      let greatest = greatest_most shape.form in
      record {
        some = c.1;
        written = writes_within shape state fits c.0;
        few = omega arith;
        worker_least = least;
        worker_most = omega arith;
        number = omega arith;
      }

  record_stands : (at : CommitPoint) → CommitFits shape state at → (nth : ℕ) → nth < length state.records
      → RecordStands state nth
  record_stands at c nth l = record { within = l; place = nth_fits shape state fits c.0 limits nth l }

  written_less : (at : CommitPoint) → CommitFits shape state at → (nth : ℕ) → nth < length state.writes
      → nth < length state.records
  written_less at c nth l = let w = writes_within shape state fits c.0 in omega arith

  written_stands : (at : CommitPoint) → CommitFits shape state at → (nth : ℕ) → nth < length state.writes
      → WrittenStands state nth
  written_stands at c nth l =
      let within = written_less at c nth l in
      let gives = commit_gives shape limits state at fits c in
      record {
        written = l;
        within = within;
        place = nth_fits shape state fits c.0 limits nth within;
        stamp = subst (λ form. FitsStamp form (own_stamp state)) (sym (gives.form nth within)) gives.stamp;
        value = gives.value nth l;
      }

  list_stands : (at : ListPoint) → CommitFits shape state (Listing at) → ListStands state at
  list_stands (ListRow nth) c = record_stands (Listing (ListRow nth)) c nth c.2.2
  list_stands (ListKind nth) c = record_stands (Listing (ListKind nth)) c nth c.2.2
  list_stands (ListData nth word) c = (written_stands (Listing (ListData nth word)) c nth c.2.2.0, c.2.2.1)
  list_stands ListNumber c = tt
  list_stands ListState c = tt

  point_stands : (at : CommitPoint) → CommitFits shape state at → PointStands state at
  point_stands (Listing at) c = (c.2.0, list_stands at c)
  point_stands (Locking at) c = c.2.0
  point_stands (Checking at) c = (
    c.2.1,
    record_stands (Checking at) c (length state.counts)
        (written_less (Checking at) c (length state.counts) c.2.1),
  )
  point_stands (Returning given full) c = (c.2.0, c.2.1)
  point_stands (Counting nth) c = (c.2.1, c.2.2)
  point_stands Deciding c = tt
  point_stands (Saving nth got) c = (written_stands (Saving nth got) c nth c.2.2, c.2.3)
  point_stands (Copying nth old at) c =
      ((c.2.0, c.2.1), written_stands (Copying nth old at) c nth c.2.2, c.2.3, c.2.4)
  point_stands (Installing nth at) c = ((c.2.0, c.2.1), written_stands (Installing nth at) c nth c.2.2, c.2.3)
  point_stands Publishing c = tt
  point_stands (Freeing nth) c = (c.2.0, c.2.3)
  point_stands (Clearing refusal) c = tt
  point_stands Ending c = tt

  now_stands : (now : Now CommitPoint TxnAnswer) → FitsNow (CommitFits shape state) now → NowStands state now
  now_stands (At at) c = (common at c, point_stands at c)
  now_stands (Over answer) c = tt

  now_placed : (now : Now CommitPoint TxnAnswer) → FitsNow (CommitFits shape state) now → NowPlaced state now
  now_placed (At at) c = λ nth l. nth_fits shape state fits c.0 limits nth l
  now_placed (Over answer) c = tt

pub commits_stand : (state : TxnState) (a : Commits) → CommitsStand state a → NowStands state a.state
commits_stand state a stands =
    let fit = stands.1 in now_stands stands.0 fit.limits state fit.state_fits a.state fit.point

pub commits_placed : (state : TxnState) (a : Commits) → CommitsStand state a → NowPlaced state a.state
commits_placed state a stands =
    let fit = stands.1 in now_placed stands.0 fit.limits state fit.state_fits a.state fit.point
