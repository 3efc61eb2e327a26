-- The next function is the innermost of the front that ends where the one after it begins.
use Rattle.std.proofs.Common.{◌≡◌, List, [], drop, length, sym, ap, ◌∙◌, subst, arith, rules}
use Rattle.std.specs.Prelude.{slice_get}
use Rattle.trac_rules.specs.State.{Frame}
use Rattle.trac_text.specs.Frames.{IsFrame}
use Rattle.trac_text.specs.Neutral.{MarkedText}
use Rattle.trac_text.proofs.Walking.{IsFront, front_has_frames, front_is, front_marks, front_within, gives_frame, next_counts, none_left, one_less, others_left}
use Rattle.trac_text.proofs.begun.BegunFunctionsIterator.next.Goals as goal

pub returns-then-self-clause-steps : goal.returns-then-self-clause-steps
returns-then-self-clause-steps c =
    let m : MarkedText = record { text = c.self.inside.text.now; marks = c.self.inside.marks.now } in
    let none : c.args.self.now ≡ [] = sym c.self.view_is ∙ none_left m c.self.inside.next (omega (arith, c.if-self.true)) in
    (none, none)

pub split_at-requires : goal.split_at-requires
split_at-requires c =
    let m : MarkedText = record { text = c.self.inside.text.now; marks = c.self.inside.marks.now } in
    front_within m c.next_function-self-inside.result c.end_at-place.result c.self.invariant.0 c.next_function-self-inside.ensures.next c.end_at-place.ensures

pub innermost_in-requires : goal.innermost_in-requires
innermost_in-requires c =
    let m : MarkedText = record { text = c.self.inside.text.now; marks = c.self.inside.marks.now } in
    rw (c.split_at.ensures.front, c.split_at-2.ensures.front)
    (front_marks m c.next_function-self-inside.result c.end_at-place.result c.self.invariant.0 c.next_function-self-inside.ensures.next c.end_at-place.ensures)

pub returns-in_err-innermost-clause-steps : goal.returns-in_err-innermost-clause-steps
returns-in_err-innermost-clause-steps c =
    let m : MarkedText = record { text = c.self.inside.text.now; marks = c.self.inside.marks.now } in
    let front : MarkedText = record { text = c.split_at.result.0.now; marks = c.split_at-2.result.0.now } in
    let next = c.next_function-self-inside.result in
    let is : IsFront m next front = rw (c.split_at.ensures.front, c.split_at-2.ensures.front) (front_is m next c.end_at-place.result c.self.invariant.0 c.next_function-self-inside.ensures.next c.end_at-place.ensures) in
    let one_more = next_counts m.marks c.self.inside.next next c.self.invariant.1 (omega (arith, c.self.invariant.1.within, c.if-self.false)) c.next_function-self-inside.ensures.count in
    absurd (front_has_frames m front c.self.inside.next next is one_more c.in_err-innermost.ensures)

pub returns-clause-steps : goal.returns-clause-steps
returns-clause-steps c =
    let m : MarkedText = record { text = c.self.inside.text.now; marks = c.self.inside.marks.now } in
    let front : MarkedText = record { text = c.split_at.result.0.now; marks = c.split_at-2.result.0.now } in
    let next = c.next_function-self-inside.result in
    let is : IsFront m next front = rw (c.split_at.ensures.front, c.split_at-2.ensures.front) (front_is m next c.end_at-place.result c.self.invariant.0 c.next_function-self-inside.ensures.next c.end_at-place.ensures) in
    let one_more = next_counts m.marks c.self.inside.next next c.self.invariant.1 (omega (arith, c.self.invariant.1.within, c.if-self.false)) c.next_function-self-inside.ensures.count in
    let inner = c.in_ok-innermost.innermost in (
      subst (λ (fs : List Frame). IsFrame (slice_get fs 0) inner.kind inner.arguments) c.self.view_is
          (gives_frame m front c.self.inside.next next is one_more inner.number inner.place inner.kind inner.arguments c.in_ok-innermost.ensures),
      others_left m front c.self.inside.next next is one_more ∙ ap (λ (fs : List Frame). drop 1 fs) c.self.view_is,
    )

pub returns-clause-goes : goal.returns-clause-goes
returns-clause-goes c =
    let m : MarkedText = record { text = c.self.inside.text.now; marks = c.self.inside.marks.now } in
    let front : MarkedText = record { text = c.split_at.result.0.now; marks = c.split_at-2.result.0.now } in
    let next = c.next_function-self-inside.result in
    let is : IsFront m next front = rw (c.split_at.ensures.front, c.split_at-2.ensures.front) (front_is m next c.end_at-place.result c.self.invariant.0 c.next_function-self-inside.ensures.next c.end_at-place.ensures) in
    let one_more = next_counts m.marks c.self.inside.next next c.self.invariant.1 (omega (arith, c.self.invariant.1.within, c.if-self.false)) c.next_function-self-inside.ensures.count in
    let shorter = one_less m front c.self.inside.next next is one_more ∙ ap length c.self.view_is in
    search rules
