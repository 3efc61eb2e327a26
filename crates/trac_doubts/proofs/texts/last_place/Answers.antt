use Rattle.std.proofs.Common.{arith}
use Rattle.trac_rules.specs.Form.{all_items}
use Rattle.trac_rules.proofs.Cutting.{count_within_extent}
use Rattle.trac_doubts.proofs.texts.last_place.Goals as goal

pub returns-clause-fits : goal.returns-clause-fits
returns-clause-fits g c = omega (arith, c.len.ensures.within, count_within_extent (all_items c.args.form.now) c.len.ensures.wide)
