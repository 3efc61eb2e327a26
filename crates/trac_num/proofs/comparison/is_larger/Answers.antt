use Rattle.std.proofs.Common.{◌∙◌}
use Rattle.trac_num.proofs.Larger.{later_is_gt, later_is_larger, larger_by_length}
use Rattle.trac_num.proofs.comparison.is_larger.Goals as goal

pub returns-then-a-b : goal.returns-then-a-b
returns-then-a-b c =
    later_is_gt c.args.a.now c.args.b.now c.gt.result c.gt.ensures
    ∙ later_is_larger c.args.a.now c.args.b.now c.if-a-b.true c.requires.a_form.all_digits c.requires.b_form.all_digits

pub returns : goal.returns
returns c = larger_by_length c.args.a.now c.args.b.now c.requires.a_form c.requires.b_form c.if-a-b.false
