-- Blocks of a store, as plans look at them.
use Rattle.std.specs.Prelude.{◌≡◌, ℕ, ◌+◌, List, [], ◌∷◌, cond, is_some, Option, None, Some}
use Rattle.std.specs.FinMap as finite
use Rattle.trac_rules.specs.Blocks.{block_at}
use Rattle.trac_rules.specs.State.{Block, Forms, Held}

-- this is the block of a number, if there is one: the number and what it holds
abbrev pub IsBlock : Option ℕ → List Block → Option (ℕ × Held) → Type 0
IsBlock number blocks None = number ≡ None
IsBlock number blocks (Some found) = (number ≡ Some found.0) × (block_at found.0 blocks ≡ Some found.1)

-- how many of these forms have a name without a form
abbrev pub count_further : Held → Forms → ℕ
count_further [] forms = 0
count_further (entry ∷ held) forms = cond (is_some (finite.get forms entry.0)) 0 1 + count_further held forms
