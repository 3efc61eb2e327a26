use Rattle.std.proofs.Common.{◌≤◌, ◌+◌, ◌-◌, length}
use Rattle.trac_run.specs.Runs.{TakesSteps}
use Rattle.trac_web_requests.specs.Ways.{WindowGoes}
use Rattle.trac_web_requests.proofs.ways.go.Given as goal

-- the steps that were taken led here
abbrev pub invariant-loop-refusal : goal.invariant-loop-refusal
invariant-loop-refusal g l = (l.left ≤ l.fn.steps) × TakesSteps (l.fn.steps - l.left) l.fn.window.session l.window.session
    × WindowGoes (l.fn.steps - l.left) l.fn.window.forgotten l.fn.window.released l.fn.window.session l.window.forgotten l.window.released l.window.session

-- each walk takes some of the steps that are left, or some of those that are kept are forgotten
abbrev pub decreases-loop-refusal : goal.decreases-loop-refusal
decreases-loop-refusal g l = l.left + length l.window.session.earlier
