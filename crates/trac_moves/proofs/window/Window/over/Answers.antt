use Rattle.trac_moves.proofs.Kept.{over_tape}
use Rattle.trac_moves.proofs.Standing.{over_made}
use Rattle.trac_moves.proofs.window.Window.over.Goals as goal

pub returns-clause-output : goal.returns-clause-output
returns-clause-output g c = over_tape c.args.tape.now c.args.limit c.args.width c.in-Ok.session c.in-Ok.ensures

pub returns-clause-over : goal.returns-clause-over
returns-clause-over g c = over_made c.args.tape.now c.args.limit c.args.width _ c.in-Ok.ensures (over_tape c.args.tape.now c.args.limit c.args.width c.in-Ok.session c.in-Ok.ensures)
