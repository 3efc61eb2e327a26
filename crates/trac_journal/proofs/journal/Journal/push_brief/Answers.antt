use Rattle.std.proofs.Common.{arith}
use Rattle.trac_journal.proofs.Counted.{brief_light, moved_within, weight_bounded}
use Rattle.trac_journal.proofs.journal.Journal.push_brief.Goals as goal

pub overflow_cast-self-inside : goal.overflow_cast-self-inside
overflow_cast-self-inside g c = grind (arith, moved_within)

pub overflow_add-self-2 : goal.overflow_add-self-2
overflow_add-self-2 g c = grind (arith, brief_light, weight_bounded)
