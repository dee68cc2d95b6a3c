-- A reader or a writer of std as a source or a sink.
use Rattle.std.specs.Prelude.{ℕ}

-- the stream of std, and how many faults there were
pub record Adapted (S : Type 0) : Type 0 where
  pub stream : S
  pub faults : ℕ
