-- At the opening each position has the loader's version alone, and no client runs a commit.
use Rattle.std.proofs.Common.{arith, subst, sym, ◌+◌}
use Rattle.std.proofs.lemmas.Bool.{false≢true}
use Rattle.std.proofs.lemmas.Option.{slice_get_within}
use Rattle.nam_ghost.specs.Ghost.{opening_ghost}
use Rattle.nam_ghost.specs.Origins.{IsStanding}
use Rattle.nam_ghost.specs.Versions.{versions}
use Rattle.nam_origins.specs.OriginsLaw.{OpensLaw}
use Rattle.nam_store.proofs.OpeningLemmas.{opening_client}

pub origins_open : OpensLaw
origins_open shape limits rows loaded = record {
  versions_are = λ row is number version later.
      let less = slice_get_within (versions ((opening_ghost shape rows).chains row)) (number + 1) version later in
      absurd (omega arith);
  standing = λ nth client here. let new = (opening_client shape rows nth client here).1 in
      subst (IsStanding (opening_ghost shape rows).published nth) (sym new)
      (λ attempt is same. absurd (false≢true is));
}
