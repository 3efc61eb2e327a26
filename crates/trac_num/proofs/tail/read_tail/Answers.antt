use Rattle.std.proofs.Common.{◌∙◌}
use Rattle.trac_num.proofs.NumeralPlaces.{front_is_prefix, tail_is_numeral_or_null}
use Rattle.trac_num.proofs.tail.read_tail.Goals as goal

pub returns-clause-prefix : goal.returns-clause-prefix
returns-clause-prefix c = front_is_prefix c.args.text.now c.numeral_place.result c.split_at.result.0.now c.numeral_place.ensures.within c.numeral_place.ensures.numeral c.split_at.ensures.front

pub returns-clause-form : goal.returns-clause-form
returns-clause-form c = tail_is_numeral_or_null c.args.text.now c.split_at.result.1.now (c.split_at.ensures.back ∙ c.numeral_place.ensures.numeral)
