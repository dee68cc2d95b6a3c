-- At the opening nothing is published.
use Rattle.std.proofs.Common.{[]}
use Rattle.nam_ghost.specs.Publications.{Publication}
use Rattle.nam_ghost.specs.Since.{WasPublished}
use Rattle.nam_since.specs.SinceLaw.{OpensLaw}

nothing : (commit : Publication) → WasPublished (λ nth. []) commit → ⊥
nothing commit was = was.1

pub since_open : OpensLaw
since_open shape limits rows loaded = record {
  inside = λ nth commit listed. absurd listed;
  listed = λ commit was. absurd (nothing commit was);
  comes = λ stamp listed. absurd listed;
  once = tt;
  before = λ first second was is over. absurd (nothing first was);
  contained = λ first second was is over s confirmed candidate unpassed sees. absurd (nothing first was);
}
