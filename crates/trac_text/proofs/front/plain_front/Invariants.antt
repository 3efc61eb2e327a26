use Rattle.std.proofs.Common.{◌-◌, ◌≡◌, ◌<◌, ◌≤◌, get_or, length, true, ℕ}
use Rattle.trac_rules.specs.PlainRuns.{is_plain as is_plain_byte}
use Rattle.trac_text.proofs.front.plain_front.Given as goal

abbrev pub invariant-loop-n : goal.invariant-loop-n
invariant-loop-n l = (l.n ≤ l.most) × (l.n ≤ length l.text) × ((k : ℕ) → k < l.n → is_plain_byte (get_or l.text k 0) ≡ true)

abbrev pub decreases-loop-n : goal.decreases-loop-n
decreases-loop-n l = l.most - l.n
