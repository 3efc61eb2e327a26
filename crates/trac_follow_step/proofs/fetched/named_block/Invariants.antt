-- No block before has this address.
use Rattle.std.proofs.Common.{◌≡◌, ℕ, ◌<◌, false}
use Rattle.trac_rules.specs.Blocks.{is_address}
use Rattle.trac_follow_step.proofs.fetched.named_block.Given as goal

abbrev pub invariant-loop-number : goal.invariant-loop-number
invariant-loop-number g l = (k : ℕ) → k < l.number → is_address l.form l.store.blocks k ≡ false
