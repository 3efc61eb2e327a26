use Rattle.std.proofs.Common.{◌≡◌, ◌<◌, true, length, sym, ap, subst, inl, inr, arith, ltb-true}
use Rattle.trac_follow_step.specs.Places.{is_in_text, place_of}
use Rattle.trac_follow_step.specs.Running.{StaysAt}
use Rattle.trac_follow_step.proofs.Staying.{held_stays, output_stays, text_stays}
use Rattle.trac_follow_step.proofs.running.stays.Goals as goal

pub returns-in-Output : goal.returns-in-Output
returns-in-Output g c = λ less.
    subst (λ p. StaysAt c.args.before.now.state c.args.measure.0 c.args.measure.1 (place_of p)) (sym c.in-Output.is)
    (output_stays c.args.before.now.state c.args.measure.0 c.args.measure.1 c.in-Output.i
    (subst (λ text. c.in-Output.i < length text) c.output.ensures (ltb-true c.in-Output.i (length c.output.result.now) less)))

pub returns-in-Form : goal.returns-in-Form
returns-in-Form g c = λ stays.
    subst (λ p. StaysAt c.args.before.now.state c.args.measure.0 c.args.measure.1 (place_of p)) (sym c.in-Form.is)
    (c.stays_in_form.ensures stays c.args.measure.0 c.in-Form.field-1 c.args.measure.1)

pub returns-in-Held : goal.returns-in-Held
returns-in-Held g c = λ less.
    subst (λ p. StaysAt c.args.before.now.state c.args.measure.0 c.args.measure.1 (place_of p)) (sym c.in-Held.is)
    (held_stays c.args.before.now.state c.args.measure.0 c.args.measure.1 c.in-Held.number c.in-Held.field-1.now c.in-Held.field-2
    (omega (arith, c.block_count.ensures.count, ap (λ stored. length stored.blocks) c.store.ensures, ltb-true c.in-Held.number c.block_count.result less)))

pub returns-in-Base : goal.returns-in-Base
returns-in-Base g c = λ less.
    let text : is_in_text (place_of c.args.place) ≡ true = elim c.in-Base.is [
      | inl at ↦ ap (λ p. is_in_text (place_of p)) at.1
      | inr at ↦ ap (λ p. is_in_text (place_of p)) at.3
    ] in
    text_stays c.args.before.now.state c.args.measure.0 c.args.measure.1 (place_of c.args.place) text
    (subst (λ n. c.args.measure.0 < n) c.bytes_left.ensures (ltb-true c.args.measure.0 c.bytes_left.result less))
