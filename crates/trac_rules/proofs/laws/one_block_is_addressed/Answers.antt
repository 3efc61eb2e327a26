use Rattle.std.proofs.Common.{arith}
use Rattle.trac_rules.proofs.Addresses.{addressed_alone}
use Rattle.trac_rules.proofs.laws.one_block_is_addressed.Goals as goal

pub returns : goal.returns
returns c = λ form blocks number few within is. addressed_alone form blocks number (omega (arith, few)) within is
