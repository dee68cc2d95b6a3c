use Rattle.std.proofs.Common.{ℕ, length, List, Bool, true, cond, sym, ap, ◌∙◌}
use Rattle.std.specs.Ordering.{is_eq}
use Rattle.std.specs.Prelude.{slice_index}
use Rattle.si_model.specs.declared.row.Row.{Row}
use Rattle.std.specs.BTreeSet.{contains}
use Rattle.si_model.specs.declared.row.Key.{Key}
use Rattle.si_model.specs.Rows.{key_at}
use Rattle.si_model.specs.Held.{key_cmp}
use Rattle.nam_script.specs.Checks.{is_given, rows_in}
use Rattle.nam_script.proofs.LoadedRows.{given_push, set_length, counts_push}
use Rattle.nam_script.proofs.rows.Rows.push.Goals as goal

-- the key is in the set, and its table's count is one more
pub invariant_of-self-in-Ok-true : goal.invariant_of-self-in-Ok-true
invariant_of-self-in-Ok-true c =
    let old = c.self.inside.rows.items in
    let row = c.args.row in
    let known = c.self.invariant in
    let now = c.set.ensures in
    let is = sym c.in_ok-push.ensures.items in (
      λ t k. c.in-Ok-true.ensures.updates.0 (key_at t k)
          ∙ ap (λ (q : Key). cond (is_eq (key_cmp q (key_at t k))) true
          (contains key_cmp c.self.inside.keys (key_at t k))) c.key-key.ensures
          ∙ ap (λ (b : Bool). cond (is_eq (key_cmp (key_at row.table row.key) (key_at t k))) true b) (known.0 t k)
          ∙ sym (given_push old row t k) ∙ ap (λ (rs : List Row). is_given rs t k) is,
      ap length now ∙ set_length c.self.inside.counts row.table _ ∙ known.1,
      λ t lt. ap (λ (xs : List ℕ). slice_index xs t) now
          ∙ counts_push c.self.inside.counts old row _ known.1 c.requires.table c.at-count.ensures known.2 t lt
          ∙ ap (λ (rs : List Row). rows_in rs t) is,
    )
