-- A list that grows at its end and loses items at both ends.
use Rattle.std.specs.Prelude.{ℕ, List}

-- the items that are left, and how many items there are places for
pub record Window (T : Type 0) : Type 0 where
  pub items : List T
  pub capacity : ℕ
