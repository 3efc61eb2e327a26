use Rattle.trac_text.proofs.Walking.{starts}
use Rattle.trac_text.proofs.begun.BegunFunctions.new.Goals as goal

pub invariant_of-result : goal.invariant_of-result
invariant_of-result c = (c.requires, starts (record { text = c.args.text.now; marks = c.args.marks.now }) c.requires)
