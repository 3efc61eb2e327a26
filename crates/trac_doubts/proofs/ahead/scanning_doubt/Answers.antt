use Rattle.std.proofs.Common.{rules}
use Rattle.trac_doubts.proofs.ahead.scanning_doubt.Goals as goal

pub returns-in-Nothing : goal.returns-in-Nothing
returns-in-Nothing c = search rules
