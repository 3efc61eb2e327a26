-- One entry more, and all of them.
use Rattle.std.proofs.Common.{sym, ap, ◌∙◌, arith}
use Rattle.trac_origins.specs.Places.{held_form}
use Rattle.trac_follow_step.proofs.FetchedTold.{no_entry, none_held, other_entry, this_entry}
use Rattle.trac_follow_step.proofs.fetched.held_in.Goals as goal

pub loop-i-preserved : goal.loop-i-preserved
loop-i-preserved g c =
    other_entry c.args.name.now c.in_ok-block.block.now.held c.loop-i.i (c.in-Some.other.now, c.in-Some.form.now) c.in-Some.ensures (sym c.if-eq.ensures) c.loop-i.invariant

pub returns-then-eq : goal.returns-then-eq
returns-then-eq g c =
    this_entry c.args.name.now c.in-Some.other.now c.in_ok-block.block.now.held c.loop-i.i c.in-Some.form.now c.len-i-end.ensures.distinct c.in-Some.ensures (sym c.if-eq.ensures)
    ∙ ap (held_form c.args.name.now) (sym c.in_ok-block.ensures)

pub returns : goal.returns
returns g c =
    no_entry c.args.name.now c.in_ok-block.block.now.held c.loop-i.i (omega (arith, c.loop-i-test.false, c.len-i-end.ensures.len)) c.loop-i.invariant
    ∙ ap (held_form c.args.name.now) (sym c.in_ok-block.ensures)

pub returns-in_err-block : goal.returns-in_err-block
returns-in_err-block g c = rw c.from_residual.ensures (sym (ap (held_form c.args.name.now) c.in_err-block.ensures ∙ none_held c.args.name.now))
