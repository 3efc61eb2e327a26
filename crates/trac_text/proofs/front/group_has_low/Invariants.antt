-- While no byte is low, all of them so far are plain.
use Rattle.std.proofs.Common.{◌+◌, ◌≡◌, ◌<◌, get_or, false, true, ℕ}
use Rattle.trac_rules.specs.PlainRuns.{is_plain as is_plain_byte}
use Rattle.trac_text.proofs.front.group_has_low.Given as goal

abbrev pub invariant-loop-i : goal.invariant-loop-i
invariant-loop-i l =
    l.low ≡ false → ((k : ℕ) → k < l.at → is_plain_byte (get_or l.text k 0) ≡ true) →
    (k : ℕ) → k < l.at + l.i → is_plain_byte (get_or l.text k 0) ≡ true
