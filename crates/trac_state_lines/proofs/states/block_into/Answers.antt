use Rattle.std.proofs.Common.{◌++◌}
use Rattle.std.specs.Prelude.{codes}
use Rattle.trac_state_lines.specs.StateLines.{form_line}
use Rattle.trac_streams.specs.Escapes.{number_line}
use Rattle.trac_streams.proofs.ShownLists.{shown_more}
use Rattle.trac_state_lines.proofs.states.block_into.Goals as goal

pub loop-place-preserved : goal.loop-place-preserved
loop-place-preserved g c =
    shown_more (form_line (codes "held")) c.args.block.now.held c.loop-place.place (c.in-Some.name.now, c.in-Some.form.now) (c.args.out.now.items ++ number_line (codes "block") c.args.i)
    c.loop-place.out.items c.form_line_into.new.out.items c.in-Some.ensures c.loop-place.invariant c.in_ok-form_line_into.ensures
