use Rattle.std.proofs.Common.{arith}
use Rattle.std.specs.Prelude.{None, Some}
use Rattle.trac_messages.proofs.Found.{heading_endless, heading_open, heading_read}
use Rattle.trac_messages.proofs.Steady.{within_by}
use Rattle.trac_messages.proofs.header.heading_of.Goals as goal

pub returns-then-front-lt-HEADER_LIMIT-clause-heading : goal.returns-then-front-lt-HEADER_LIMIT-clause-heading
returns-then-front-lt-HEADER_LIMIT-clause-heading c =
    heading_open c.args.bytes.now c.front_of-front.result.now c.front_of-front.ensures c.in_default.ensures (omega arith)

pub returns-then-front-lt-HEADER_LIMIT-clause-within : goal.returns-then-front-lt-HEADER_LIMIT-clause-within
returns-then-front-lt-HEADER_LIMIT-clause-within c =
    within_by c.args.bytes.now _ (heading_open c.args.bytes.now c.front_of-front.result.now c.front_of-front.ensures c.in_default.ensures (omega arith))

pub returns-in_default-clause-heading : goal.returns-in_default-clause-heading
returns-in_default-clause-heading c =
    heading_endless c.args.bytes.now c.front_of-front.result.now c.front_of-front.ensures c.in_default.ensures (omega arith)

pub returns-in_default-clause-within : goal.returns-in_default-clause-within
returns-in_default-clause-within c =
    within_by c.args.bytes.now _ (heading_endless c.args.bytes.now c.front_of-front.result.now c.front_of-front.ensures c.in_default.ensures (omega arith))

pub returns-in-Some-announced-clause-heading : goal.returns-in-Some-announced-clause-heading
returns-in-Some-announced-clause-heading c =
    heading_read c.args.bytes.now c.front_of-front.result.now c.front_of-front.ensures c.in-Some.place c.split_at.result.0.now (Some c.in-Some-announced.len) c.in-Some.ensures c.split_at.ensures.front c.in-Some-announced.ensures

pub returns-in-Some-announced-clause-within : goal.returns-in-Some-announced-clause-within
returns-in-Some-announced-clause-within c =
    within_by c.args.bytes.now _
    (heading_read c.args.bytes.now c.front_of-front.result.now c.front_of-front.ensures c.in-Some.place c.split_at.result.0.now (Some c.in-Some-announced.len) c.in-Some.ensures c.split_at.ensures.front c.in-Some-announced.ensures)

pub returns-in-None-clause-heading : goal.returns-in-None-clause-heading
returns-in-None-clause-heading c =
    heading_read c.args.bytes.now c.front_of-front.result.now c.front_of-front.ensures c.in-Some.place c.split_at.result.0.now None c.in-Some.ensures c.split_at.ensures.front c.in-None.ensures

pub returns-in-None-clause-within : goal.returns-in-None-clause-within
returns-in-None-clause-within c =
    within_by c.args.bytes.now _
    (heading_read c.args.bytes.now c.front_of-front.result.now c.front_of-front.ensures c.in-Some.place c.split_at.result.0.now None c.in-Some.ensures c.split_at.ensures.front c.in-None.ensures)
