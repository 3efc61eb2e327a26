use Rattle.std.proofs.Common.{arith}
use Rattle.trac_prims.specs.Tape.{environment_of}
use Rattle.trac_rules.specs.Records.{record_of}
use Rattle.trac_step.specs.Record.{kept_in}
use Rattle.trac_step.proofs.Stepped.{not_taken, one_at_least, taken_alone}
use Rattle.trac_step.proofs.engine.Core.step_alone.Goals as goal

pub next_step-requires : goal.next_step-requires
next_step-requires g c = record { proper = c.requires.proper; position = c.requires.position; not_full = omega arith }

pub into_record-requires : goal.into_record-requires
into_record-requires g c =
    one_at_least (record_of (environment_of c.args.self.now.width c.args.tape) c.args.self.now.state) _ (kept_in c.next_step.new.keeper.taken) c.in_ok-next_step.ensures.kept

pub returns-in_err-next_step : goal.returns-in_err-next_step
returns-in_err-next_step g c =
    not_taken c.from_residual.result _ (environment_of c.args.self.now.width c.args.tape) c.args.self.now c.next_step.new.self _ (kept_in c.next_step.new.keeper.taken) 1 c.from_residual.ensures.1 (omega arith)
    c.in_err-next_step.ensures

pub returns : goal.returns
returns g c =
    taken_alone _ c.into_record.result (environment_of c.args.self.now.width c.args.tape) c.args.self.now c.next_step.new.self (kept_in c.next_step.new.keeper.taken) 1 c.in_ok-next_step.ensures c.into_record.ensures
