use Rattle.std.proofs.Common.{inl}
use Rattle.trac_follow_step.proofs.FormsTold.{shown_before}
use Rattle.trac_follow_step.proofs.formed.shown_item.Goals as goal

pub returns-in-Here-clause-tells : goal.returns-in-Here-clause-tells
returns-in-Here-clause-tells g c =
    inl (shown_before c.args.form.now c.pointer-pointer.result c.args.i c.pointer-pointer.ensures c.in-Here.given c.of_shown.result c.in-Here.ensures.0 c.in-Here.ensures.1 c.of_shown.ensures.tells)
