use Rattle.std.proofs.Common.{length, sym, ap, ◌∙◌, arith, option_and_then}
use Rattle.trac_rules.specs.Blocks.{is_address, number_addressed}
use Rattle.trac_rules.specs.Form.{Form}
use Rattle.trac_rules.proofs.Addresses.{addressed_alone}
use Rattle.trac_rules.proofs.Balanced.{first_place_none}
use Rattle.trac_follow_step.proofs.fetched.named_block.Goals as goal

pub returns-then-is_address : goal.returns-then-is_address
returns-then-is_address g c =
    sym (ap (option_and_then (λ (f : Form). number_addressed f c.args.store.now.blocks)) (sym c.in_ok-form.ensures.value)
    ∙ addressed_alone c.in_ok-form.form.now c.args.store.now.blocks c.loop-number.number (omega (arith, c.block_count-count.ensures.within))
    (omega (arith, c.loop-number-test.true, c.block_count-count.ensures.count)) (sym c.is_address.ensures ∙ c.if-is_address.true))

pub returns : goal.returns
returns g c =
    sym (ap (option_and_then (λ (f : Form). number_addressed f c.args.store.now.blocks)) (sym c.in_ok-form.ensures.value)
    ∙ first_place_none (is_address c.in_ok-form.form.now c.args.store.now.blocks) (length c.args.store.now.blocks)
    (λ k within. c.loop-number.invariant k (omega (arith, within, c.loop-number-test.false, c.block_count-count.ensures.count))))
