-- The keys that operations write grow in number.
use Rattle.std.proofs.Common.{◌≡◌, ◌≤◌, ◌+◌, List, [], ◌∷◌, length, true, false, Bool, refl, ap, sym, subst, arith, Option, Some, None}
use Rattle.std.proofs.lemmas.List.{length-append}
use Rattle.si_model.specs.declared.row.Key.{Key}
use Rattle.si_model.specs.declared.op.Op.{Op}
use Rattle.si_model.specs.Rows.{has_key}
use Rattle.si_model.specs.Evaluation.{with_guard, key_written, keys_from}
use Rattle.si_model.proofs.WriteLemmas.{guarded_has, guarded_new}

pub one_more : (ks : List Key) (key : Key) → has_key ks key ≡ false → length (with_guard ks key) ≡ length ks + 1
one_more ks key has = omega (arith, ap length (guarded_new ks key has), length-append ks (key ∷ []))

key_grows : (there : Bool) (ks : List Key) (key : Key) → has_key ks key ≡ there → length ks ≤ length (with_guard ks key)
key_grows true ks key has = omega (arith, ap length (guarded_has ks key has))
key_grows false ks key has = omega (arith, one_more ks key has)

named_grows : (ks : List Key) (named : Option Key)
    → length ks ≤ length {A = Key} (elim named [ None ↦ ks | Some key ↦ with_guard ks key ])
named_grows ks None = omega arith
named_grows ks (Some key) = key_grows (has_key ks key) ks key refl

pub keys_grow : (f : Op → Option Key) (ks : List Key) (ops : List Op) → length ks ≤ length (keys_from f ks ops)
keys_grow f ks [] = omega arith
keys_grow f ks (op ∷ ops) =
    omega (arith, named_grows ks (f op), keys_grow f (elim (f op) [ None ↦ ks | Some key ↦ with_guard ks key ]) ops)

-- the keys that follow an operation's are no fewer than those with its key
pub more_keys : (ks : List Key) (op : Op) (key : Key) (ops : List Op) → key_written op ≡ Some key
    → length (with_guard ks key) ≤ length (keys_from key_written ks (op ∷ ops))
more_keys ks op key ops named =
    subst (λ (o : Option Key). length (with_guard ks key)
    ≤ length (keys_from key_written (elim o [ None ↦ ks | Some k ↦ with_guard ks k ]) ops)) (sym named)
    (keys_grow key_written (with_guard ks key) ops)
