-- Each digit takes the bits of itself and the next.
use Rattle.std.proofs.Common.{◌<◌, ◌+◌, length, ap, ◌∙◌, rules}
use Rattle.trac_rules.specs.Octal.{is_octal}
use Rattle.trac_num.proofs.Bits.{octal-take}
use Rattle.trac_num.proofs.Sliding.{slid_step}
use Rattle.trac_num.proofs.shifting.slide.Goals as goal

pub loop-k-preserved : goal.loop-k-preserved
loop-k-preserved g c =
    let within : c.loop-k.k + 1 < length c.args.digits.now.items = search rules in
    slid_step c.args.digits.now.items c.loop-k.digits.items c.loop-k.k c.args.skipped c.across.result c.index.result.now c.index-in-loop-k.result.now
    c.loop-k.invariant within c.requires.within c.index.ensures c.index-in-loop-k.ensures c.across.ensures.octal c.across.ensures.bits

pub returns-clause-still_octal : goal.returns-clause-still_octal
returns-clause-still_octal g c = ap is_octal c.truncate.ensures.items ∙ octal-take _ c.loop-k.digits.items c.loop-k.invariant.octal
