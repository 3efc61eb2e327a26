use Rattle.trac_text.proofs.Loaded.{loaded_now}
use Rattle.trac_text.proofs.texts.Texts.load.Goals as goal

pub invariant_of-result : goal.invariant_of-result
invariant_of-result g c =
    let made = c.in_ok-text.ensures in
    loaded_now c.args.functions.now c.args.active.now c.args.base.now c.requires.some c.requires.text c.requires.marks made.neutral made.active made.ordered made.on_left made.holds made.mark_holds
