use Rattle.std.proofs.Common.{ap, arith}
use Rattle.trac_documents.specs.Positions.{before_line}
use Rattle.trac_documents.proofs.Lines.{lines_within}
use Rattle.trac_documents.proofs.positions.position_of.Goals as goal

pub split_at-requires-2 : goal.split_at-requires-2
split_at-requires-2 c =
    omega (arith, c.before_line-start.ensures.place, ap (λ n. before_line n c.args.text.now) c.lines_before-line.ensures, lines_within c.min-offset.result c.args.text.now, c.split_at.ensures.front_len)
