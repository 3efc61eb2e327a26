-- A record of scanning weighs no more than its step may lose.
use Rattle.std.proofs.Common.{◌≡◌, ◌+◌, ◌≤◌, List, [], ◌∷◌, refl, arith}
use Rattle.std.specs.Prelude.{None}
use Rattle.trac_rules.specs.declared.scan.Front.{Front}
use Rattle.trac_rules.specs.declared.scan.Front.TheVariants as front
use Rattle.trac_rules.specs.Limits.{argument_bytes, marks}
use Rattle.trac_rules.specs.Records.{comma_recorded, deletion, recorded, recorded_at}
use Rattle.trac_rules.specs.Scanning.{closing_in, deleted, front_of, scan, scan_at}
use Rattle.trac_rules.specs.State.{Frame, State}
use Rattle.trac_rules.specs.Stepping.{call_at, name_called}
use Rattle.trac_rules.specs.Weights.{closing_loss, comma_loss, frames_weight, loss, loss_at, weight}

frames_weight_is : (fs : List Frame) → frames_weight fs ≡ argument_bytes fs + marks fs
frames_weight_is [] = refl
frames_weight_is (f ∷ fs) = omega (arith, frames_weight_is fs)

comma_within : (frames : List Frame) (s : State) → weight (comma_recorded frames s) ≤ comma_loss frames
comma_within [] s = omega arith
comma_within (f ∷ fs) s = omega arith

closing_within : (frames : List Frame) (s : State) → name_called (closing_in frames (deleted 1 s)) ≡ None → weight (deletion s) ≤ closing_loss frames s
closing_within [] s moves = omega arith
closing_within (f ∷ fs) s moves = absurd (cc)

weight_within_at : (at : Front) (s : State) → name_called (scan_at at s) ≡ None → weight (recorded_at at s) ≤ loss_at at s
weight_within_at front.Nothing s moves = omega (arith, frames_weight_is s.frames)
weight_within_at front.Comma s moves = comma_within s.frames s
weight_within_at front.Closing s moves = closing_within s.frames s moves
weight_within_at other s moves = omega arith

pub weight_within : (s : State) → call_at s ≡ None → weight (recorded s) ≤ loss s
unfolding scan
weight_within s moves = weight_within_at (front_of s.active) s moves
