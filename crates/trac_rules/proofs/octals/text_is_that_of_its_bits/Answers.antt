use Rattle.trac_rules.proofs.OctalTexts.{text_of-bits_of}
use Rattle.trac_rules.proofs.octals.text_is_that_of_its_bits.Goals as goal

pub returns : goal.returns
returns c = text_of-bits_of
