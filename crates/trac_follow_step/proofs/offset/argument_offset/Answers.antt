use Rattle.std.proofs.Common.{◌≡◌, ℕ, ◌-◌, min, List, length, take, ap, ◌∙◌, arith}
use Rattle.std.proofs.lemmas.List.{take_min}
use Rattle.trac_rules.specs.Limits.{total_length}
use Rattle.trac_follow_step.proofs.Offsets.{next_text, offset_is}
use Rattle.trac_follow_step.proofs.Found.{function_bare}
use Rattle.trac_follow_step.proofs.offset.argument_offset.Goals as goal

pub loop-i-preserved : goal.loop-i-preserved
loop-i-preserved g c =
    omega (arith, c.loop-i.invariant, c.saturating_sub-from_argument.ensures, ap (λ text. length text) c.get.ensures, next_text c.in-Some.arguments c.loop-i.i)

pub returns : goal.returns
returns g c =
    let texts = c.in-Some.arguments in
    let last : c.loop-i.i ≡ min c.args.argument (length texts) = omega (arith, c.loop-i-test.false, c.loop-i.auto, c.min-i-end.ensures, c.count.ensures) in
    let before = c.loop-i.invariant ∙ ap (λ n. c.bytes_from-from_function.result - total_length (take n texts)) last
    ∙ ap (λ (taken : List (List ℕ)). c.bytes_from-from_function.result - total_length taken) (take_min c.args.argument texts) in
    offset_is c.args.machine.now.state c.args.function c.args.argument c.args.byte c.in-Some.field-0-0 texts c.neutral_len.result c.bytes_from-from_function.result
    c.loop-i.from_argument c.saturating_sub-from_byte.result c.saturating_sub.result c.in-Some.ensures c.bytes_from-from_function.ensures before
    c.saturating_sub-from_byte.ensures c.neutral_len.ensures c.saturating_sub.ensures

pub returns-in_default : goal.returns-in_default
returns-in_default g c = λ stands. absurd (function_bare c.args.machine.now.state c.args.function c.args.argument c.args.byte c.in_default.ensures stands.0 stands.1)
