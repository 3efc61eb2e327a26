use Rattle.std.proofs.Common.{refl, ap, subst}
use Rattle.trac_rules.specs.Session.{PlainSession}
use Rattle.trac_run.specs.Runs.{TakesSteps}
use Rattle.trac_run.proofs.Stepped.{steps_none}
use Rattle.trac_web_requests.specs.Requests.{WritesRun}
use Rattle.trac_web_requests.proofs.Whole.{gives_all, run_not_begun, whole_run}
use Rattle.trac_web_requests.proofs.running.run_text.Goals as goal

pub returns-in_default-clause-gives : goal.returns-in_default-clause-gives
returns-in_default-clause-gives g c = gives_all refl (run_not_begun c.args.width c.args.budget c.args.input.now) c.deliver.ensures

pub returns-in_default-clause-counted : goal.returns-in_default-clause-counted
returns-in_default-clause-counted g c = (_, steps_none _ _ refl)

pub returns-clause-gives : goal.returns-clause-gives
returns-clause-gives g c =
    let report = c.run_session-report.result in
    let ran = c.run_session-report.ensures.runs in
    let written = whole_run _ _ _ _ _ _ _ report.ending c.new-reply.ensures ran.runs ran.taken in
    let of_width = subst (λ width. WritesRun width c.args.budget report.steps c.args.input.now c.run_session-report.new.output.text.items report.ending) (ap (λ (p : PlainSession). p.width) c.in-Ok.ensures.made) written in
    gives_all c.text.ensures of_width c.deliver-2.ensures

pub returns-clause-counted : goal.returns-clause-counted
returns-clause-counted g c =
    (c.run_session-report.new.session, subst (λ p. TakesSteps c.run_session-report.result.steps p c.run_session-report.new.session) c.in-Ok.ensures.made c.run_session-report.ensures.steps)
