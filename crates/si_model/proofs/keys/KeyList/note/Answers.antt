use Rattle.std.proofs.Common.{◌≡◌, ◌++◌, [], ◌∷◌, true, false, ap, sym, ◌∙◌}
use Rattle.std.specs.BTreeSet.{contains}
use Rattle.si_model.specs.Held.{key_cmp}
use Rattle.si_model.specs.Rows.{has_key}
use Rattle.si_model.specs.Evaluation.{with_guard}
use Rattle.si_model.proofs.WriteLemmas.{guarded_has, guarded_new}
use Rattle.si_model.proofs.PlaceLemmas.{listed_back, ok_told, err_told}
use Rattle.si_model.proofs.keys.KeyList.note.Goals as goal

pub returns-then-contains : goal.returns-then-contains
returns-then-contains c =
    let there : has_key c.args.self.now c.args.key ≡ true =
    ap (λ ks. has_key ks c.args.key) (sym c.self.view_is) ∙ sym (c.self.invariant c.args.key)
    ∙ sym c.contains.ensures ∙ c.if-contains.true in
    sym (guarded_has c.args.self.now c.args.key there)

pub invariant_of-self-then-is_err : goal.invariant_of-self-then-is_err
invariant_of-self-then-is_err c =
    let keys = c.self.inside.keys in
    let absent : has_key keys c.args.key ≡ false =
    sym (c.self.invariant c.args.key) ∙ sym c.contains.ensures ∙ c.if-contains.false in
    let same : c.push.new.self ≡ keys =
    err_told c.push.result (sym c.is_err.ensures.value ∙ c.if-is_err.true) c.push.ensures.err in
    listed_back keys c.push.new.self c.args.key (contains key_cmp c.self.inside.listed)
    (contains key_cmp c.insert.new.self) (contains key_cmp c.remove.new.self) c.self.invariant absent
    (λ k. c.in_ok-insert.ensures.updates.0 k) (λ k. c.remove.ensures.updates.0 k) same

pub returns : goal.returns
returns c =
    let keys = c.self.inside.keys in
    let absent : has_key keys c.args.key ≡ false =
    sym (c.self.invariant c.args.key) ∙ sym c.contains.ensures ∙ c.if-contains.false in
    let longer : c.push.new.self ≡ keys ++ c.args.key ∷ [] =
    ok_told c.push.result (sym c.is_err.ensures.value ∙ c.if-is_err.false) c.push.ensures.ok in
    longer ∙ sym (guarded_new keys c.args.key absent) ∙ ap (λ ks. with_guard ks c.args.key) c.self.view_is
