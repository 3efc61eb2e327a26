-- All bytes so far are plain.
use Rattle.std.proofs.Common.{◌-◌, ◌≡◌, ◌<◌, ◌≤◌, get_or, true, ℕ}
use Rattle.trac_rules.specs.PlainRuns.{is_plain as is_plain_byte}
use Rattle.trac_text.proofs.front.far_plain_end.Given as goal

abbrev pub invariant-loop-place : goal.invariant-loop-place
invariant-loop-place l = (l.place ≤ l.end) × ((k : ℕ) → k < l.place → is_plain_byte (get_or l.text k 0) ≡ true)

abbrev pub decreases-loop-place : goal.decreases-loop-place
decreases-loop-place l = l.end - l.place

abbrev pub invariant-loop-place-2 : goal.invariant-loop-place-2
invariant-loop-place-2 l = (l.initial.place ≤ l.place) × (l.place ≤ l.stop) × ((k : ℕ) → k < l.place → is_plain_byte (get_or l.text k 0) ≡ true)

abbrev pub decreases-loop-place-2 : goal.decreases-loop-place-2
decreases-loop-place-2 l = l.stop - l.place
