use Rattle.std.proofs.Common.{ap, drop, sym, ◌∙◌}
use Rattle.std.proofs.lemmas.List.{drop-drop}
use Rattle.trac_messages.specs.Headers.{announced, length_in}
use Rattle.trac_messages.proofs.Lines.{last_line, line_announces, line_announces_nothing}
use Rattle.trac_messages.proofs.header.announced.Goals as goal

pub returns-in-Some-length_in : goal.returns-in-Some-length_in
returns-in-Some-length_in c =
    sym (line_announces c.loop-place.rest.now c.in-Some.place c.in-Some-length_in.len c.in-Some.ensures (ap length_in (sym c.split_at.ensures.front) ∙ sym c.in-Some-length_in.ensures))
    ∙ c.loop-place.invariant

pub loop-place-preserved : goal.loop-place-preserved
loop-place-preserved c =
    ap announced (c.split_at-in-Some.ensures.back ∙ ap (drop 1) c.split_at.ensures.back ∙ drop-drop 1 c.in-Some.place c.loop-place.rest.now)
    ∙ sym (line_announces_nothing c.loop-place.rest.now c.in-Some.place c.in-Some.ensures (ap length_in (sym c.split_at.ensures.front) ∙ sym c.in_default-length_in.ensures))
    ∙ c.loop-place.invariant

pub returns : goal.returns
returns c = c.length_in-2.ensures ∙ sym (last_line c.loop-place.rest.now c.in_default.ensures) ∙ c.loop-place.invariant
