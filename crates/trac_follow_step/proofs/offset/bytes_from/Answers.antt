use Rattle.std.proofs.Common.{◌≡◌, ◌+◌, List, [], drop, length, reverse, ap, sym, subst, ◌∙◌, arith, MatchBool}
use Rattle.std.proofs.lemmas.List.{drop-drop, length-reverse}
use Rattle.trac_rules.specs.Limits.{argument_bytes}
use Rattle.trac_rules.specs.State.{Frame}
use Rattle.trac_follow_step.proofs.Offsets.{bytes_reversed, last_bytes, next_bytes, none_left}
use Rattle.trac_follow_step.proofs.offset.bytes_from.Goals as goal

pub returns-then-is_innermost : goal.returns-then-is_innermost
returns-then-is_innermost g c =
    let frames = c.args.machine.now.state.frames in
    let last = subst (λ b. MatchBool b (c.args.function + 1 ≡ c.depth.result) (c.args.function + 1 ≡ c.depth.result → ⊥)) c.if-is_innermost.true c.is_innermost.ensures in
    ap (λ text. length text) c.joined.ensures
    ∙ sym (last_bytes (reverse frames) c.args.function c.requires.0 c.args.arguments.now (omega (arith, last, c.depth.ensures, length-reverse frames)) c.requires.1)

pub loop-number-init : goal.loop-number-init
loop-number-init g c = (
  c.begun_functions-functions.ensures,
  omega (
    arith,
    c.neutral_len.ensures,
    ap (λ text. length text) c.base.ensures,
    bytes_reversed c.args.machine.now.state.frames,
    ap argument_bytes c.begun_functions-functions.ensures,
  ),
)

pub overflow_sub-bytes-in-Some : goal.overflow_sub-bytes-in-Some
overflow_sub-bytes-in-Some g c =
    omega (
      arith,
      next_bytes c.loop-number.functions c.in-Some.field-0-0 c.in-Some.arguments c.in-Some.ensures.steps.0,
      c.loop-number.invariant.1,
      ap (λ text. length text) c.joined-in-Some.ensures,
    )

pub returns-in-None : goal.returns-in-None
returns-in-None g c =
    let none : c.loop-number.functions ≡ [] = c.in-None.ensures.steps.0 in
    c.loop-number.invariant.1 ∙ ap argument_bytes none
    ∙ sym (none_left (reverse c.args.machine.now.state.frames) c.loop-number.number c.args.function (omega (arith, c.loop-number-test.true)) (sym c.loop-number.invariant.0 ∙ none))

pub loop-number-preserved : goal.loop-number-preserved
loop-number-preserved g c = (
  c.in-Some.ensures.steps.1 ∙ ap (λ (fs : List Frame). drop 1 fs) c.loop-number.invariant.0 ∙ drop-drop 1 c.loop-number.number (reverse c.args.machine.now.state.frames),
  omega (
    arith,
    next_bytes c.loop-number.functions c.in-Some.field-0-0 c.in-Some.arguments c.in-Some.ensures.steps.0,
    c.loop-number.invariant.1,
    ap (λ text. length text) c.joined-in-Some.ensures,
    ap argument_bytes c.in-Some.ensures.steps.1,
  ),
)
