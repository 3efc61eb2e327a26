use Rattle.std.proofs.Common.{sym, ap, subst, ◌∙◌}
use Rattle.trac_rules.specs.Performing.{primitive_of}
use Rattle.trac_follow_step.specs.Places.{ToldAsRead}
use Rattle.trac_follow_step.proofs.ValuesTold.{computed_told, nothing_told, read_told}
use Rattle.trac_follow_step.proofs.valued.value_byte.Goals as goal

pub returns-in-ReadString-clause-tells : goal.returns-in-ReadString-clause-tells
returns-in-ReadString-clause-tells g c =
    read_told c.args.before.now.state c.args.asked.width c.args.asked.seen c.args.asked.byte c.args.arguments.now c.requires.call c.primitive_named.result
    (ap primitive_of (sym c.get.ensures) ∙ sym c.primitive_named.ensures) c.read_byte.result c.in-ReadString.is
    (subst (λ n. ToldAsRead n c.args.asked.byte c.read_byte.result) c.position.ensures c.read_byte.ensures.tells)

pub returns-in-Compute-clause-tells : goal.returns-in-Compute-clause-tells
returns-in-Compute-clause-tells g c =
    computed_told c.args.before.now.state c.args.asked.width c.args.asked.seen c.args.asked.byte c.args.arguments.now c.requires.call c.in-Compute.computation
    (ap primitive_of (sym c.get.ensures) ∙ sym c.primitive_named.ensures ∙ c.in-Compute.is) c.args.asked.function c.computed_byte.result c.requires.number c.computed_byte.ensures.tells

pub returns-in_default-clause-tells : goal.returns-in_default-clause-tells
returns-in_default-clause-tells g c =
    nothing_told c.args.before.now.state c.args.asked.width c.args.asked.seen c.args.asked.byte c.args.arguments.now c.requires.call c.primitive_named.result
    (ap primitive_of (sym c.get.ensures) ∙ sym c.primitive_named.ensures) c.in_default.not-ReadString c.in_default.not-ReadByte c.in_default.not-Compute c.in_default.not-Handle
