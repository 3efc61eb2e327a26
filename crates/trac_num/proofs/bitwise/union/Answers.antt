-- Where the second is longer, the two change places.
use Rattle.trac_rules.specs.Octal.{bits_of}
use Rattle.trac_num.proofs.EachDigit.{union_comm}
use Rattle.trac_num.proofs.bitwise.union.Goals as goal

pub returns-then-a-b-clause-bits : goal.returns-then-a-b-clause-bits
returns-then-a-b-clause-bits g c = rw (union_comm (bits_of c.args.a.now) (bits_of c.args.b.now)) c.union_of_longer.ensures.bits
