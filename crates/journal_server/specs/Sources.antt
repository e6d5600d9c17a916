-- What is known of a port that connections come to.
use Rattle.std.specs.Prelude.{ℕ, Bool}

-- how many connections were taken, and whether taking one failed
pub record PortState : Type 0 where
  pub taken : ℕ
  pub has_failed : Bool
