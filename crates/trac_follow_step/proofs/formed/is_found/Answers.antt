use Rattle.std.proofs.Common.{false, sym, subst}
use Rattle.trac_follow_step.specs.Formed.{IsFound}
use Rattle.trac_follow_step.proofs.UntilTold.{stands_here, stands_nowhere}
use Rattle.trac_follow_step.proofs.formed.is_found.Goals as goal

pub returns-in-Here : goal.returns-in-Here
returns-in-Here g c =
    subst (λ seen. IsFound c.args.form.now c.args.text.now seen c.begins_at.result) (sym c.in-Some.is)
    (stands_here c.args.form.now c.args.text.now c.in-Some.bytes c.pointer-start.result c.pointer-start.ensures c.in-Here.given c.in-Here.ensures.1 c.begins_at.result c.begins_at.ensures)

pub returns-in-Past : goal.returns-in-Past
returns-in-Past g c =
    subst (λ seen. IsFound c.args.form.now c.args.text.now seen false) (sym c.in-Some.is)
    (stands_nowhere c.args.form.now c.args.text.now c.in-Some.bytes c.pointer-start.result c.pointer-start.ensures c.len.result c.in-Past.field-0 c.len.ensures.len c.in-Past.ensures)
