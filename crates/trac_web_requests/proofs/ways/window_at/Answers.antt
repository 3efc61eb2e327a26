use Rattle.std.proofs.Common.{◌≡◌, ◌+◌, [], arith, refl, subst}
use Rattle.trac_debug.proofs.Answered.{ready_made}
use Rattle.trac_run.specs.Runs.{TakesSteps}
use Rattle.trac_moves.specs.Windows.{IsWindow}
use Rattle.trac_moves.proofs.Kept.{ended}
use Rattle.trac_web_requests.proofs.ways.window_at.Goals as goal

pub returns-clause-reached : goal.returns-clause-reached
returns-clause-reached g c =
    subst (λ p. TakesSteps c.args.step p c.go.new.window.session)
    (ready_made c.args.tape.now c.args.limit c.args.width _ c.in-Ok.window.session c.end.new.self c.in-Ok.ensures.made refl c.in-Ok.ensures.begun c.end.ensures).is
    c.in_ok-go.ensures.went

pub returns-clause-output : goal.returns-clause-output
returns-clause-output g c =
    let over = c.in-Ok.window in
    let goes = c.in_ok-go.ensures.output c.args.tape.now [] 0 (ended c.args.tape.now [] 0 over.forgotten over.released over.session c.end.new.self c.in-Ok.ensures.output c.end.ensures) in
    let all : 0 + c.args.step ≡ c.args.step = omega arith in
    (goes.0, subst (λ n. IsWindow c.args.tape.now n goes.0 c.go.new.window.forgotten c.go.new.window.released c.go.new.window.session) all goes.1)
