-- A running operation: where its key stands, and that its claim, its write and its guard have room.
use Rattle.std.proofs.Common.{◌≡◌, ◌<◌, ◌≤◌, length, refl, sym, ap, subst, true}
use Rattle.si_model.specs.Rows.{writes_key}
use Rattle.si_model.specs.Evaluation.{op_key, guards_after}
use Rattle.nam_catalog.specs.declared.shape.Shape.{Shape}
use Rattle.nam_layout.specs.RowLaw.{IsPosition}
use Rattle.nam_calls.specs.Words.{capacity_of, width_of}
use Rattle.nam_calls.specs.Fits.{IsTableOf, HasWidth}
use Rattle.nam_protocol.specs.Operations.{value_in}
use Rattle.nam_protocol.specs.Txn.{with_claim, with_op, record_of, after_claim}
use Rattle.nam_protocol.specs.TxnFits.{StateFits, OpStands}
use Rattle.nam_protocol.specs.FewLaw.{FewKeys}
use Rattle.nam_protocol.proofs.FallsKeys.{op_table, new_fits, own_fits, own_claimed}
use Rattle.nam_protocol.proofs.FewLemmas.{few_keys}
use Rattle.nam_txn.specs.Read.{NamesField, written_by}
use Rattle.nam_txn.specs.Txn.{OpRuns, ClaimStands}
use Rattle.nam_txn.specs.declared.registers.Registers.{Registers}
use Rattle.nam_txn.proofs.WalkLemmas.{on_path_less}
use Rattle.nam_txn.proofs.ValueLemmas.{names, written_is}

module _ (shape : Shape) (a : Registers) (runs : OpRuns shape a) where
  pub is_table : IsTableOf shape (op_key a.op).table
  is_table = op_table shape runs.limits a.state.claims a.op runs.stands

  pub capacity_is : a.walk.path.capacity ≡ capacity_of shape (op_key a.op).table
  capacity_is = ap (λ path. path.capacity) runs.table.path

  pub position_less : a.walk.position < capacity_of shape (op_key a.op).table
  position_less =
      subst (λ n. a.walk.position < n) capacity_is
      (subst (λ n. n < a.walk.path.capacity) (sym runs.walk.position)
      (on_path_less a.walk.path.capacity a.walk.path.key a.walk.passed runs.walk.path.least_capacity))

  pub at_position : IsPosition shape.tables (op_key a.op).table a.walk.position
  at_position = (is_table, position_less)

  pub named : NamesField a.width a.op
  named = subst (λ w. NamesField w a.op) (sym runs.table.width) (names shape a.op runs.stands.0)

  module _ (claim : ClaimStands shape a) where
    few_after : FewKeys (after_claim shape a.state a.op a.walk.position)
    few_after =
        few_keys shape (after_claim shape a.state a.op a.walk.position)
        (new_fits shape a.state.worker a.state.last a.state.seen a.state.claims a.state.writes a.state.guards runs.fits
        a.op (record_of shape a.op a.walk.position) (value_in a.state.read) runs.stands.0 claim.claims refl
        (a.walk.position, at_position, refl, runs.stands.2) (runs.stands.3 claim.claims) claim.wide)

    pub claims_room : length (with_claim a.state.claims (record_of shape a.op a.walk.position)) ≤ 16
    claims_room = few_after.claims

    pub writes_room : length (written_by a.width a.op (value_in a.state.read) a.state.writes) ≤ 16
    writes_room =
        rw (runs.table.width, written_is shape a.op (value_in a.state.read) a.state.writes) few_after.writes

    pub guards_room : length (guards_after a.op a.state.guards) ≤ 16
    guards_room = few_after.guards

-- the same of a key that is written already
module _ (shape : Shape) (a : Registers) (fits : StateFits shape a.state) (stands : OpStands shape a.state.claims a.op)
    (width : a.width ≡ width_of shape (op_key a.op).table) (own : writes_key a.state.writes (op_key a.op) ≡ true)
    (wide : HasWidth a.width (value_in a.state.read)) where
  few_own : FewKeys (with_op shape a.state a.op (value_in a.state.read))
  few_own =
      few_keys shape (with_op shape a.state a.op (value_in a.state.read))
      (own_fits shape a.state.worker a.state.last a.state.seen a.state.claims a.state.writes a.state.guards fits
      a.op (value_in a.state.read) stands.0
      (own_claimed shape a.state.worker a.state.last a.state.seen a.state.claims a.state.writes a.state.guards
      fits (op_key a.op) own) (subst (λ w. HasWidth w (value_in a.state.read)) width wide))

  pub own_writes_room : length (written_by a.width a.op (value_in a.state.read) a.state.writes) ≤ 16
  own_writes_room = rw (width, written_is shape a.op (value_in a.state.read) a.state.writes) few_own.writes

  pub own_guards_room : length (guards_after a.op a.state.guards) ≤ 16
  own_guards_room = few_own.guards
