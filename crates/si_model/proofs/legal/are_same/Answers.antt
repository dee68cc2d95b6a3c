use Rattle.std.proofs.lemmas.Slice.Eq.{slice_eq-Decides}
use Rattle.std.proofs.lemmas.Bool.Decides.{Decides-eqb}
use Rattle.std.proofs.Common.{refl}
use Rattle.si_model.proofs.ItemLemmas.{item_eq-Decides}
use Rattle.si_model.proofs.legal.are_same.Goals as goal

pub returns : goal.returns
returns c = slice_eq-Decides (item_eq-Decides _ (λ x y. slice_eq-Decides Decides-eqb x y _ refl)) c.args.a.now
    c.args.b.now c.eq.result c.eq.ensures
