use Rattle.std.proofs.Common.{◌≡◌, ◌∙◌, refl, sym, ap, true}
use Rattle.si_model.specs.Rows.{has_key}
use Rattle.nam_script.specs.Checks.{keys_with}
use Rattle.nam_script.proofs.checks.claim.Goals as goal

pub returns-then-contains : goal.returns-then-contains
returns-then-contains c =
    let keys = c.args.keys.now in
    let there : has_key keys c.in-Some.key ≡ true =
    ap (λ ks. has_key ks c.in-Some.key) (sym c.as_slice.ensures) ∙ sym c.contains.ensures.value ∙ c.if-contains.true in
    let claims = ap (keys_with keys) (sym c.key_claimed.ensures ∙ c.in-Some.is) in
    claims ∙ rw there refl
