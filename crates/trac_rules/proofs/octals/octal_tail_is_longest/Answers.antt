use Rattle.trac_rules.specs.Octal.{is_octal}
use Rattle.trac_rules.proofs.Numerals.{longest_tail_longest, longest_tail_parts}
use Rattle.trac_rules.proofs.OctalTexts.{octal_tail_is_octal}
use Rattle.trac_rules.proofs.octals.octal_tail_is_longest.Goals as goal

pub returns-clause-tail : goal.returns-clause-tail
returns-clause-tail c = longest_tail_parts is_octal

pub returns-clause-octal : goal.returns-clause-octal
returns-clause-octal c = octal_tail_is_octal

pub returns-clause-longest : goal.returns-clause-longest
returns-clause-longest c text front tail e h = rw e (longest_tail_longest is_octal front tail h)
