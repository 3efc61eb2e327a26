use Rattle.std.proofs.Common.{Ok, sym, ap, ◌∙◌}
use Rattle.trac_rules.specs.Outcomes.{seen_as}
use Rattle.trac_rules.specs.State.{storage_of}
use Rattle.trac_change.specs.Changed.{changed}
use Rattle.trac_prims.specs.Effects.{done_on, planned_from}
use Rattle.trac_prims.proofs.planning.plan.Goals as goal

pub returns-clause-outcome : goal.returns-clause-outcome
returns-clause-outcome g c = λ call given.
    let effect = done_on c.args.args.now (storage_of call.state) c.plan_into.new.made c.plan_into.new.change c.in_ok-deed.deed in
    let meta = sym c.unwrap_or.ensures in
    let trace = sym c.unwrap_or-2.ensures in
    let plain = sym c.in_ok-change.ensures.change in
    ap (seen_as (planned_from c.args.now)) (c.in_ok-deed.ensures.outcome call given) ∙ ap Ok (λ i. record (planned_from c.args.now effect) { meta = meta i; trace = trace i; storage = changed c.args.args.now (plain i) (storage_of call.state) })
