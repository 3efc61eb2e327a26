use Rattle.std.proofs.Common.{length, arith}
use Rattle.trac_streams.proofs.Splitting.{front_line, front_last, line_too_long, no_feeds, some_of_test}
use Rattle.trac_streams.proofs.lines.front_of.Goals as goal

pub returns-in-Some : goal.returns-in-Some
returns-in-Some c =
    front_line c.args.bytes.now c.split_at.result.0.now c.args.ended c.in-Some.place c.len_without_return.result c.in-Some.ensures c.split_at.ensures.front
    c.len_without_return.ensures.within c.len_without_return.ensures.cut

pub returns-then-bytes : goal.returns-then-bytes
returns-then-bytes c = λ more. line_too_long c.args.bytes.now more (omega arith) c.in_default.ensures

pub returns-then-not-ended : goal.returns-then-not-ended
returns-then-not-ended c = (c.if-not-ended.true, omega (arith, c.if-bytes.false), no_feeds c.args.bytes.now c.in_default.ensures)

pub returns : goal.returns
returns c =
    front_last c.args.bytes.now c.args.ended c.len_without_return-2.result (some_of_test (length c.args.bytes.now) c.is_empty.result c.is_empty.ensures c.if-is_empty.false)
    c.in_default.ensures c.if-not-ended.false c.len_without_return-2.ensures.within c.len_without_return-2.ensures.cut
