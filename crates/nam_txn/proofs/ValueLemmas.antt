-- What an operation makes of a value: the same of what it has read.
use Rattle.std.proofs.Common.{◌≡◌, ℕ, ◌≤◌, List, refl, arith, false}
use Rattle.std.proofs.Common.{Option, Some, None}
use Rattle.si_model.specs.declared.row.Item.{Item}
use Rattle.si_model.specs.declared.op.Op.{Op}
use Rattle.si_model.specs.declared.op.Op.TheVariants.{Get, Put, Add, Del, Need, Guard, Scan}
use Rattle.si_model.specs.Evaluation.{OpFits, op_key, writes_after}
use Rattle.si_model.specs.EvaluationLaws.{is_scan}
use Rattle.nam_catalog.specs.declared.shape.Shape.{Shape}
use Rattle.nam_catalog.specs.Tables.{widths_of}
use Rattle.nam_calls.specs.Words.{width_of}
use Rattle.nam_calls.specs.Fits.{HasWidth}
use Rattle.nam_protocol.specs.declared.txn.TxnState.{TxnState}
use Rattle.nam_protocol.specs.Operations.{holding, value_in, read_of}
use Rattle.nam_protocol.specs.Txn.{with_op, with_own, on_decision}
use Rattle.nam_txn.specs.Read.{HasField, CanRead, NamesField, written_by, changed_by}

-- 1. A value is known by what was read

pub known_again : (shape : Shape) (state : TxnState) (op : Op) (value : Option (List ℕ))
    → on_decision shape state op (value_in (read_of op value)) ≡ on_decision shape state op value
known_again shape state (Get t k) value = refl
known_again shape state (Put t k v) value = refl
known_again shape state (Add t k f up by) value = refl
known_again shape state (Del t k) value = refl
known_again shape state (Need t k f least) value = refl
known_again shape state (Guard t k) value = refl
known_again shape state (Scan t low high) value = refl

pub own_again : (shape : Shape) (state : TxnState) (op : Op) (value : Option (List ℕ))
    → with_own shape state op (value_in (read_of op value)) ≡ with_own shape state op value
own_again shape state (Get t k) value = refl
own_again shape state (Put t k v) value = refl
own_again shape state (Add t k f up by) value = refl
own_again shape state (Del t k) value = refl
own_again shape state (Need t k f least) value = refl
own_again shape state (Guard t k) value = refl
own_again shape state (Scan t low high) value = refl

pub read_wide : (width : ℕ) (op : Op) (value : Option (List ℕ)) → HasWidth width value
    → is_scan op ≡ false → HasWidth width (value_in (read_of op value))
read_wide width (Get t k) value wide one = wide
read_wide width (Put t k v) value wide one = tt
read_wide width (Add t k f up by) value wide one = wide
read_wide width (Del t k) value wide one = tt
read_wide width (Need t k f least) value wide one = wide
read_wide width (Guard t k) value wide one = wide
read_wide width (Scan t low high) value wide one = absurd (cc)

-- 2. Fields

pub names : (shape : Shape) (op : Op) → OpFits (widths_of shape.tables) op
    → NamesField (width_of shape (op_key op).table) op
names shape (Get t k) fits = tt
names shape (Put t k v) fits = tt
names shape (Add t k f up by) fits = (fits.1.0, fits.1.1, fits.0.1)
names shape (Del t k) fits = tt
names shape (Need t k f least) fits = (fits.1.0, fits.1.1, fits.0.1)
names shape (Guard t k) fits = tt
names shape (Scan t low high) fits = tt

has_field : (width f : ℕ) (value : Option (List ℕ)) → f ≤ width → HasWidth width value → HasField f value
has_field width f None within wide = tt
has_field width f (Some v) within wide = omega (arith, within, wide)

pub can_read : (width : ℕ) (op : Op) (value : Option (List ℕ)) → NamesField width op → HasWidth width value
    → CanRead op value
can_read width (Get t k) value named wide = tt
can_read width (Put t k v) value named wide = tt
can_read width (Add t k f up by) value named wide = (named.0, has_field width f value named.1 wide)
can_read width (Del t k) value named wide = tt
can_read width (Need t k f least) value named wide = (named.0, has_field width f value named.1 wide)
can_read width (Guard t k) value named wide = tt
can_read width (Scan t low high) value named wide = tt

-- 3. The write set and the guards after an operation

pub written_is : (shape : Shape) (op : Op) (value : Option (List ℕ)) (ws : List Item)
    → written_by (width_of shape (op_key op).table) op value ws
    ≡ writes_after (widths_of shape.tables) op (holding value) ws
written_is shape (Get t k) value ws = refl
written_is shape (Put t k v) value ws = refl
written_is shape (Add t k f up by) value ws = refl
written_is shape (Del t k) value ws = refl
written_is shape (Need t k f least) value ws = refl
written_is shape (Guard t k) value ws = refl
written_is shape (Scan t low high) value ws = refl

pub changed_is : (shape : Shape) (width : ℕ) (op : Op) (value : Option (List ℕ)) (state : TxnState)
    → width ≡ width_of shape (op_key op).table → changed_by width op value state ≡ with_op shape state op value
changed_is shape width op value state same = rw (same, written_is shape op value state.writes) refl
