use Rattle.std.proofs.Common.{◌≡◌, Bool, true, false, not, ap, ◌∙◌}
use Rattle.std.specs.Prelude.{None, Option, Some, is_some}
use Rattle.trac_rules.specs.declared.refusal.Refusal.{Refusal}
use Rattle.trac_session.proofs.Returned.{returned}
use Rattle.trac_session.proofs.session.Session.return_to.Goals as goal

-- a search that gave a reason gave one
was_not_none : (why : Option Refusal) (none : Bool) → is_some why ≡ not none → none ≡ false → why ≡ None → ⊥
was_not_none None none test not_so is = let unset : false ≡ true = test ∙ ap not not_so in absurd (cc)
was_not_none (Some refusal) none test not_so is = absurd (cc)

pub returns-in-None : goal.returns-in-None
returns-in-None g c =
    rw c.in-None.is at (returned c.forward-again.result.why _ _ c.args.self.now _ _ c.back_to-back.result.done _ c.back_to-back.ensures (was_not_none c.back_to-back.result.why c.is_none.result c.is_none.ensures c.if-is_none.false)
    c.forward-again.ensures.walk c.forward-again.ensures.asked c.machine-machine.ensures.trail)

pub returns-in-Some : goal.returns-in-Some
returns-in-Some g c =
    rw c.in-Some.is at (returned c.forward-again.result.why _ _ c.args.self.now _ _ c.back_to-back.result.done _ c.back_to-back.ensures (was_not_none c.back_to-back.result.why c.is_none.result c.is_none.ensures c.if-is_none.false)
    c.forward-again.ensures.walk c.forward-again.ensures.asked c.machine-machine.ensures.trail)
