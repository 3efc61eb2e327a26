use Rattle.std.proofs.Common.{arith, sym}
use Rattle.trac_messages.proofs.Framed.{cut_announced, cut_open, front_beyond, front_silent, front_whole}
use Rattle.trac_messages.proofs.incoming.front_of.Goals as goal

pub part_of-requires-clause-cut : goal.part_of-requires-clause-cut
part_of-requires-clause-cut c = λ some. cut_open c.args.bytes.now (sym c.in-Open.ensures.heading) some

pub returns-then-len-gt-MESSAGE_LIMIT : goal.returns-then-len-gt-MESSAGE_LIMIT
returns-then-len-gt-MESSAGE_LIMIT c = (
  c.in-Announces.ensures.within.1,
  λ more. front_beyond c.args.bytes.now more c.in-Announces.size c.in-Announces.len (sym c.in-Announces.ensures.heading)
      (omega (arith, c.in-Announces.ensures.within.0, c.in-Announces.ensures.within.1)) (omega arith),
)

pub returns-then-size-len : goal.returns-then-size-len
returns-then-size-len c = (
  omega arith,
  λ more. front_whole c.args.bytes.now more c.in-Announces.size c.in-Announces.len (sym c.in-Announces.ensures.heading)
      (omega (arith, c.in-Announces.ensures.within.0, c.in-Announces.ensures.within.1)) (omega arith) (omega arith),
)

pub part_of-requires-in-Announces-clause-cut : goal.part_of-requires-in-Announces-clause-cut
part_of-requires-in-Announces-clause-cut c = λ some.
    cut_announced c.args.bytes.now c.in-Announces.size c.in-Announces.len (sym c.in-Announces.ensures.heading) some (omega arith) (omega arith)

pub returns-in-Silent : goal.returns-in-Silent
returns-in-Silent c = λ more.
    front_silent c.args.bytes.now more c.in-Silent.size (sym c.in-Silent.ensures.heading)
    (omega (arith, c.in-Silent.ensures.within.0, c.in-Silent.ensures.within.1))
