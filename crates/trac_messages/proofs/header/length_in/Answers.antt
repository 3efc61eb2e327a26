use Rattle.std.proofs.Common.{sym, ◌∙◌}
use Rattle.trac_messages.proofs.Lines.{long_line}
use Rattle.trac_messages.proofs.header.length_in.Goals as goal

pub split_at-requires : goal.split_at-requires
split_at-requires c = long_line c.args.line.now (sym c.is_length_field.ensures ∙ c.if-not-is_length_field.false)
