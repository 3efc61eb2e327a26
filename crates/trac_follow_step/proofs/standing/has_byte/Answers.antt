use Rattle.std.proofs.Common.{length, ltb-false, arith, ltb-true}
use Rattle.trac_origins.proofs.Told.{byte_within}
use Rattle.trac_follow_step.proofs.Found.{byte_there}
use Rattle.trac_follow_step.proofs.standing.has_byte.Goals as goal

pub returns-clause-there : goal.returns-clause-there
returns-clause-there c = λ test. byte_there c.args.i c.args.text.now (ltb-true c.args.i (length c.args.text.now) test)

pub returns-clause-bare : goal.returns-clause-bare
returns-clause-bare c = λ test item stands.
    absurd (omega (arith, ltb-false c.args.i (length c.args.text.now) test, byte_within c.args.i c.args.text.now item stands))
