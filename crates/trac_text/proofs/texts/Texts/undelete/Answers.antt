use Rattle.std.proofs.Common.{arith}
use Rattle.trac_text.proofs.ScanningBack.{undelete_fits, undeletes}
use Rattle.trac_text.proofs.texts.Texts.undelete.Goals as goal

pub push_right-requires : goal.push_right-requires
push_right-requires g c = omega (arith, undelete_fits (record { sound = c.self.invariant; view = c.self.view_is }) c.args.byte c.requires)

pub invariant_of-self : goal.invariant_of-self
invariant_of-self g c = (undeletes (record { sound = c.self.invariant; view = c.self.view_is }) c.args.byte c.requires c.push_right.ensures).sound

pub returns : goal.returns
returns g c = (undeletes (record { sound = c.self.invariant; view = c.self.view_is }) c.args.byte c.requires c.push_right.ensures).view
