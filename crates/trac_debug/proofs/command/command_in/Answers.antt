use Rattle.std.proofs.Common.{sym, ◌∙◌}
use Rattle.trac_debug.proofs.Said.{said_alone, said_with_one, said_with_two, said_with_more}
use Rattle.trac_debug.proofs.command.command_in.Goals as goal

pub returns-in_default : goal.returns-in_default
returns-in_default c = c.command_alone.ensures ∙ sym (said_alone c.args.line.now c.in_default.ensures)

pub returns-in_default-place_of : goal.returns-in_default-place_of
returns-in_default-place_of c =
    c.command_with_one.ensures
    ∙ sym (said_with_one c.args.line.now c.split_at.result.0.now c.split_at-2.result.1.now c.in-Some.end c.in-Some.ensures c.split_at.ensures.front c.split_at-2.ensures.back c.in_default-place_of.ensures)

pub returns-then-is_some : goal.returns-then-is_some
returns-then-is_some c =
    sym (said_with_more c.args.line.now c.split_at.result.0.now c.split_at-2.result.1.now c.split_at-3.result.0.now c.split_at-4.result.1.now c.in-Some.end c.in-Some-place_of.end c.place_of-3.result
    c.in-Some.ensures c.split_at.ensures.front c.split_at-2.ensures.back c.in-Some-place_of.ensures c.split_at-3.ensures.front c.split_at-4.ensures.back
    (sym c.is_some.ensures ∙ c.if-is_some.true) c.place_of-3.ensures)

pub returns : goal.returns
returns c =
    c.command_with_two.ensures
    ∙ sym (said_with_two c.args.line.now c.split_at.result.0.now c.split_at-2.result.1.now c.split_at-3.result.0.now c.split_at-4.result.1.now c.in-Some.end c.in-Some-place_of.end c.place_of-3.result
    c.in-Some.ensures c.split_at.ensures.front c.split_at-2.ensures.back c.in-Some-place_of.ensures c.split_at-3.ensures.front c.split_at-4.ensures.back
    (sym c.is_some.ensures ∙ c.if-is_some.false) c.place_of-3.ensures)
