-- A mark for each comma, at a place within the text.
use Rattle.std.proofs.Common.{◌≡◌, ◌≤◌, ◌+◌, length, ap, ◌∙◌, arith, ℕ}
use Rattle.std.proofs.lemmas.List.{length-append}
use Rattle.std.specs.List.{sum}
use Rattle.trac_gap.specs.Ends.{Ends}
use Rattle.trac_text.proofs.TakenOut.{finished_within, next_length}
use Rattle.trac_text.proofs.emptying.put_function.Goals as goal

pub overflow_add-place : goal.overflow_add-place
overflow_add-place g c =
    let a = c.args.arguments.now in
    let left : length c.left.result.now ≡ length (g.E.TwoEnds.ends c.args.text.now).left + length c.text-bytes.result.now =
    ap length (c.left.ensures.left ∙ ap (λ (e : Ends ℕ). e.left) c.put_left.ensures) ∙ length-append (g.E.TwoEnds.ends c.args.text.now).left c.text-bytes.result.now in
    let within : sum c.commas-length-items.result.now ≤ length c.text-bytes.result.now =
    omega (arith, ap sum c.commas-length-items.ensures, ap length c.text-bytes.ensures, finished_within a.finished a.gathered) in
    omega (arith, next_length c.commas-length-items.result.now c.loop-length.length-index (omega arith), c.loop-length.invariant.within, left, within)
