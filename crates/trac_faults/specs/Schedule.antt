-- Counts of calls, and the call at which something happens.
use Rattle.std.specs.Prelude.{ℕ, ◌+◌, ◌-◌, ◌^◌, ◌==◌, min, Bool, false, Option, None, Some}

-- one more, up to the largest count
abbrev pub counted : ℕ → ℕ
counted n = min (n + 1) (2 ^ 64 - 1)

-- whether the call of this number is the chosen one
abbrev pub is_chosen : Option ℕ → ℕ → Bool
is_chosen None call = false
is_chosen (Some number) call = number == call
