use Rattle.std.proofs.Common.{refl}
use Rattle.trac_text.proofs.ScanningBack.{back_at, moves_back}
use Rattle.trac_text.proofs.texts.Texts.move_back.Goals as goal

pub shift_right-requires : goal.shift_right-requires
shift_right-requires g c = (moves_back (record { sound = c.self.invariant; view = c.self.view_is }) c.args.n c.requires).0

pub invariant_of-self : goal.invariant_of-self
invariant_of-self g c = (back_at (moves_back (record { sound = c.self.invariant; view = c.self.view_is }) c.args.n c.requires).1 c.shift_right.ensures refl).now.sound

pub returns-clause-back : goal.returns-clause-back
returns-clause-back g c = (back_at (moves_back (record { sound = c.self.invariant; view = c.self.view_is }) c.args.n c.requires).1 c.shift_right.ensures refl).state

pub returns-clause-rooms : goal.returns-clause-rooms
returns-clause-rooms g c = (back_at (moves_back (record { sound = c.self.invariant; view = c.self.view_is }) c.args.n c.requires).1 c.shift_right.ensures refl).now.view
