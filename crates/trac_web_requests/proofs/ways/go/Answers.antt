use Rattle.std.proofs.Common.{arith, refl, subst}
use Rattle.trac_run.specs.Runs.{TakesSteps}
use Rattle.trac_run.proofs.Stepped.{no_step, steps_none}
use Rattle.trac_web_requests.specs.Ways.{WindowGoes}
use Rattle.trac_web_requests.proofs.Reached.{comes_nearer, goes_all, goes_kept, goes_none, less_is_left, reached}
use Rattle.trac_web_requests.proofs.ways.go.Goals as goal

pub loop-refusal-init : goal.loop-refusal-init
loop-refusal-init g c =
    let w = c.args.window.now in
    let none = no_step c.args.steps in (
      omega arith,
      subst (λ n. TakesSteps n w.session w.session) none (steps_none w.session w.session refl),
      subst (λ n. WindowGoes n w.forgotten w.released w.session w.forgotten w.released w.session) none (goes_none w.forgotten w.released w.session),
    )

pub returns-in_default-clause-went : goal.returns-in_default-clause-went
returns-in_default-clause-went g c =
    reached c.args.steps c.loop-refusal.left _ _ _ _ c.loop-refusal.invariant.0 c.loop-refusal.invariant.1 _ c.forward-walk.ensures.walk c.in_default.is

pub returns-in_default-clause-output : goal.returns-in_default-clause-output
returns-in_default-clause-output g c = goes_all _ c.loop-refusal.left _ _ _ _ _ _ _ _ _ c.loop-refusal.invariant.0 c.forward-walk.ensures.walk c.in_default.is c.loop-refusal.invariant.2

pub loop-refusal-preserved : goal.loop-refusal-preserved
loop-refusal-preserved g c =
    let nearer = comes_nearer c.args.steps c.loop-refusal.left _ _ _ _ c.loop-refusal.invariant.0 c.loop-refusal.invariant.1 _ _ _ c.forward-walk.ensures.walk c.keep_steps.ensures.kept in
    (nearer.0, nearer.1, goes_kept _ c.loop-refusal.left _ _ _ _ _ _ _ _ _ _ _ _ _ c.loop-refusal.invariant.0 c.forward-walk.ensures.walk c.keep_steps.ensures.output c.loop-refusal.invariant.2)

pub loop-refusal-smaller : goal.loop-refusal-smaller
loop-refusal-smaller g c =
    less_is_left c.loop-refusal.left c.len-len.result _ _ _ _ _ c.forward-walk.ensures.walk c.len-len.ensures.count c.if-len-gt0.true c.keep_steps.ensures.kept
