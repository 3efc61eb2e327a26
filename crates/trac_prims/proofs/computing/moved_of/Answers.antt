use Rattle.std.proofs.Common.{Bool, cond, ap, ◌∙◌, to_z, of_z}
use Rattle.std.specs.Int.{w128}
use Rattle.std.proofs.lemmas.Int.{to_z-of_z}
use Rattle.trac_rules.specs.declared.primitive.Computation.TheVariants.{Rotate, Shift}
use Rattle.trac_rules.specs.Computing.{computed}
use Rattle.trac_rules.specs.Octal.{rotate, shift}
use Rattle.trac_prims.proofs.OctalCalls.{gives_moved}
use Rattle.trac_prims.proofs.computing.moved_of.Goals as goal

pub returns-in_ok-rotate-in-Some-clause-made : goal.returns-in_ok-rotate-in-Some-clause-made
returns-in_ok-rotate-in-Some-clause-made g c = λ storage.
    ap (λ (b : Bool). computed (cond b Rotate Shift) c.args.width c.args.args.now storage) c.if-rotates.true
    ∙ gives_moved rotate c.args.args.now c.in_ok-rotate-in-Some.field-0.items c.octal_at.result.now (to_z w128 (of_z w128 c.in-Some.by)) c.in-Some.by _ storage c.in_ok-rotate-in-Some.ensures.octal
    c.in_ok-rotate-in-Some.ensures.bits (to_z-of_z w128 c.in-Some.by search) c.octal_at.ensures.value c.in-Some.ensures

pub returns-in_ok-shift-in-Some-2-clause-made : goal.returns-in_ok-shift-in-Some-2-clause-made
returns-in_ok-shift-in-Some-2-clause-made g c = λ storage.
    ap (λ (b : Bool). computed (cond b Rotate Shift) c.args.width c.args.args.now storage) c.if-rotates.false
    ∙ gives_moved shift c.args.args.now c.in_ok-shift-in-Some-2.field-0.items c.octal_at-in-Some-2.result.now (to_z w128 (of_z w128 c.in-Some.by)) c.in-Some.by _ storage c.in_ok-shift-in-Some-2.ensures.octal
    c.in_ok-shift-in-Some-2.ensures.bits (to_z-of_z w128 c.in-Some.by search) c.octal_at-in-Some-2.ensures.value c.in-Some.ensures
