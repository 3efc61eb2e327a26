-- How steps are numbered.
use Rattle.std.specs.Prelude.{ℕ, ◌+◌, ◌-◌, ◌^◌, min}

-- the number of the step that comes next, if so many are forgotten and so many kept, as far as 64 bits count
abbrev pub number_of_step : ℕ → ℕ → ℕ
number_of_step forgotten kept = min (forgotten + kept) (2 ^ 64 - 1)
