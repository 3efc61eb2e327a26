use Rattle.std.proofs.Common.{◌≡◌, ◌-◌, ◌≤◌, true, ap, subst, ◌∙◌, inl, inr, SomeIff}
use Rattle.trac_follow_step.specs.Places.{is_in_text, place_of}
use Rattle.trac_follow_step.proofs.Staying.{text_before}
use Rattle.trac_follow_step.proofs.running.before_run.Goals as goal

pub returns-in-Base : goal.returns-in-Base
returns-in-Base g c = λ item within stands placed.
    let text : is_in_text (place_of c.args.place) ≡ true = elim c.in-Base.is [
      | inl at ↦ ap (λ p. is_in_text (place_of p)) at.1
      | inr at ↦ ap (λ p. is_in_text (place_of p)) at.3
    ] in
    c.in_active.ensures
    ∙ text_before c.args.count c.args.before.now.state (place_of c.args.place) c.args.measure.0 c.args.measure.1 item c.checked_sub.result text stands placed
    (subst (λ n. SomeIff c.checked_sub.result (n ≤ c.args.measure.0) (c.args.measure.0 - n)) c.neutral_len.ensures c.checked_sub.ensures)
