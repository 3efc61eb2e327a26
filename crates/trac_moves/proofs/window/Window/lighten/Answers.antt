use Rattle.std.proofs.Common.{◌++◌, ◌/◌, subst}
use Rattle.trac_rules.specs.Session.{first_kept}
use Rattle.trac_moves.specs.Windows.{IsWindow}
use Rattle.trac_moves.proofs.window.Window.lighten.Goals as goal

pub returns-clause-output : goal.returns-clause-output
returns-clause-output g c is input text steps w =
    let after = c.keep_steps.new.self in
    subst (λ n. IsWindow input steps (text ++ (first_kept (n / 2) c.args.self.now.session).output) after.forgotten after.released after.session) c.len-len.ensures.count
    (c.keep_steps.ensures.output input text steps w)

pub returns-clause-over : goal.returns-clause-over
returns-clause-over g c = c.keep_steps.ensures.over
