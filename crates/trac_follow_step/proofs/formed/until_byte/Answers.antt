use Rattle.std.proofs.Common.{sym, subst}
use Rattle.trac_follow_step.specs.Formed.{IsFound}
use Rattle.trac_follow_step.proofs.UntilTold.{Until, until_found, until_missed}
use Rattle.trac_follow_step.proofs.formed.until_byte.Goals as goal

pub returns-then-is_found-clause-tells : goal.returns-then-is_found-clause-tells
returns-then-is_found-clause-tells g c = λ arguments width given.
    until_found c.args.form.now arguments c.args.function width c.args.seen c.args.i c.args.text.now given c.byte_from.result c.pointer.result c.pointer.ensures
    (subst (IsFound c.args.form.now c.args.text.now c.args.seen) c.if-is_found.true c.is_found.ensures) c.byte_from.ensures.tells

pub returns-clause-tells : goal.returns-clause-tells
returns-clause-tells g c = λ arguments width given.
    subst (Until c.args.form.now arguments c.args.function width c.args.seen c.args.i c.args.text.now given) (sym c.argument_byte.ensures)
    (until_missed c.args.form.now arguments c.args.function width c.args.seen c.args.i c.args.text.now given
    (subst (IsFound c.args.form.now c.args.text.now c.args.seen) c.if-is_found.false c.is_found.ensures))
