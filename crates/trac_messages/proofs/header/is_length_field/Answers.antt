use Rattle.std.proofs.Common.{◌∙◌, arith, sym}
use Rattle.std.proofs.lemmas.Bool.{lt-leb}
use Rattle.trac_messages.proofs.Lines.{short_line}
use Rattle.trac_messages.proofs.header.is_length_field.Goals as goal

pub returns-else-line : goal.returns-else-line
returns-else-line c = lt-leb _ _ (omega arith) ∙ sym (short_line c.args.line.now (omega arith))
