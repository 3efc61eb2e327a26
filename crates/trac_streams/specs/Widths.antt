-- How wide numbers are to be.
use Rattle.std.specs.Prelude.{ℕ, ◌==◌, Option, None, Some, if◌then◌else◌}
use Rattle.trac_rules.specs.declared.width.Width.{Width}
use Rattle.trac_rules.specs.declared.width.Width.TheVariants.{W64, W128}

-- the width of so many bits, if there is one
abbrev pub width_of : ℕ → Option Width
width_of bits = if bits == 64 then Some W64 else (if bits == 128 then Some W128 else None)
