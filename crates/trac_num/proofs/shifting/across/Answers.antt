-- Computed for each two digits.
use Rattle.trac_num.proofs.OctalDigits.{digit_bits-across}
use Rattle.trac_num.proofs.shifting.across.Goals as goal

pub returns-clause-bits : goal.returns-clause-bits
returns-clause-bits c = digit_bits-across c.args.first c.args.second c.args.skipped c.requires.octal_first c.requires.octal_second c.requires.within
