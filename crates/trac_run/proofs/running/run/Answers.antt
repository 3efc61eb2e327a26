use Rattle.std.proofs.Common.{ap, arith, refl}
use Rattle.trac_rules.specs.Session.{PlainSession}
use Rattle.trac_run.proofs.Ran.{new_by_itself, ran_anew, ran_not_anew}
use Rattle.trac_run.proofs.running.run.Goals as goal

pub returns-in_default : goal.returns-in_default
returns-in_default g c = ran_not_anew _ _ _ _ c.args.options.journal c.args.options.decimals c.args.options.budget c.finish.result c.requires.some_records refl c.finish.ensures

pub run_session-requires-clause-new : goal.run_session-requires-clause-new
run_session-requires-clause-new g c = new_by_itself c.args.options.journal c.args.options.decimals c.in-Ok.session c.in-Ok.ensures.made

pub run_session-requires-clause-some_records : goal.run_session-requires-clause-some_records
run_session-requires-clause-some_records g c = omega (arith, c.requires.some_records, ap (λ (p : PlainSession). p.limit) c.in-Ok.ensures.made)

pub returns : goal.returns
returns g c =
    ran_anew c.args.options.journal c.args.options.decimals c.args.options.budget _ _ c.in-Ok.session c.run_session.new.session c.run_session.result.ending
    c.in-Ok.ensures.made c.run_session.ensures.runs c.run_session.ensures.feeds
