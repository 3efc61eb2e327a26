-- Two lists that face each other over the free places between them.
use Rattle.std.specs.Prelude.{ℕ, ◌+◌, List, length}

-- the list on the left, the list on the right, and how many items there are places for
pub record Ends (T : Type 0) : Type 0 where
  pub left : List T
  pub right : List T
  pub capacity : ℕ

-- how many items both lists hold together
abbrev pub item_count : {T : Type 0} → Ends T → ℕ
item_count e = length e.left + length e.right
