use Rattle.std.proofs.Common.{◌≡◌, ◌<◌, ◌≤◌, ℕ, [], ◌∷◌, ◌∙◌, refl, sym, ap, subst, arith, length, false}
use Rattle.std.specs.List.{IsDistinct}
use Rattle.std.specs.Prelude.{slice_index, Some, None}
use Rattle.std.proofs.lemmas.List.{length-map}
use Rattle.si_model.specs.declared.row.Key.{Key}
use Rattle.si_model.specs.Rows.{same_key}
use Rattle.nam_catalog.specs.declared.form.Form.{Form}
use Rattle.nam_catalog.specs.declared.form.Form.TheVariants.{Narrow, Wide, Held}
use Rattle.nam_catalog.specs.declared.shape.Shape.{Shape}
use Rattle.nam_catalog.specs.declared.shape.Table.{Table}
use Rattle.nam_catalog.specs.Greatest.{greatest_number}
use Rattle.nam_catalog.specs.Tables.{widths_of, capacities_of}
use Rattle.nam_layout.specs.Place.{place_of}
use Rattle.nam_layout.specs.RowLaw.{IsPosition}
use Rattle.nam_protocol.specs.TxnFits.{KeysFit}
use Rattle.nam_commit.proofs.tests.transfer.Goals as goal

abbrev key : ℕ → Key
key k = record { table = 0; key = k }

one_key : (k : ℕ) → IsDistinct same_key (key k ∷ [])
unfolding IsDistinct
one_key k = (tt, tt)

two_keys : IsDistinct same_key (key 8 ∷ key 9 ∷ [])
unfolding IsDistinct
two_keys = ((refl, tt), (tt, tt))

four_fits : (form : Form) → 4 ≤ greatest_number form
four_fits Narrow = omega arith
four_fits Wide = omega arith
four_fits Held = omega arith

transfer_fits : (shape : Shape) → shape.workers ≡ 2 → widths_of shape.tables ≡ 1 ∷ []
    → capacities_of shape.tables ≡ 2 ∷ []
    → KeysFit shape 1 4 (4 ∷ 0 ∷ [])
    (record { key = key 8; place = place_of shape 0 0 } ∷ record { key = key 9; place = place_of shape 0 1 } ∷ [])
    (record { table = 0; key = 8; value = Some (50 ∷ []) } ∷ []) (key 9 ∷ [])
transfer_fits shape workers widths capacities =
    let counted = length-map shape.tables (λ (t : Table). t.capacity) in
    let same = ap (λ cs. length cs) capacities in
    let one : 0 < length shape.tables = omega arith in
    let is : (position : ℕ) → position < 2 → IsPosition shape.tables 0 position
    = λ position l. (one, subst (λ cs. position < slice_index cs 0) (sym capacities) l) in
    record {
      worker_is = (omega arith, omega arith);
      last_is = four_fits shape.form;
      seen_is = sym workers;
      few = omega arith;
      placed = ((0, is 0 (omega arith), refl, omega arith), ((1, is 1 (omega arith), refl, omega arith), tt));
      claimed_once = two_keys;
      written_once = one_key 8;
      guarded_once = one_key 9;
      written = (refl, tt);
      guarded = (refl, tt);
      used = (refl, (refl, tt));
      wide = (ap (λ ws. slice_index ws 0) (sym widths), tt);
    }

pub returns : goal.returns
returns c =
    rw c.pair.ensures (rw c.pair-2.ensures (rw c.push-2.ensures (rw c.push-3.ensures (rw c.new-writes.ensures
    (rw c.new-guards.ensures (rw c.push.ensures (rw c.new-value.ensures (rw c.place.ensures.value
    (rw c.place-2.ensures.value (transfer_fits c.args.layout.now c.requires.workers c.requires.widths
    c.requires.capacities))))))))))
