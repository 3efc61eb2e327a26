-- The run ends before the pointer, or goes on after it.
use Rattle.std.proofs.Common.{◌≡◌, ◌-◌, ◌++◌, List, length, take, drop, not, refl, ap, ◌∙◌, arith}
use Rattle.std.specs.List.{position_or_len}
use Rattle.std.proofs.lemmas.List.{length-take}
use Rattle.std.proofs.lemmas.List.Sums.{prefix_len-le-length}
use Rattle.trac_rules.specs.declared.item.Item.{Item}
use Rattle.trac_rules.specs.Pieces.{is_gap}
use Rattle.trac_forms.proofs.RunLengths.{run_after, run_goes_on, run_stops}
use Rattle.trac_items.proofs.Runs.{run_is}
use Rattle.trac_forms.proofs.form.Form.run_len.Goals as goal

pub returns-then-before-from : goal.returns-then-before-from
returns-then-before-from g c =
    let form = c.args.self.now in
    c.run_len.ensures ∙ ap (λ (items : List Item). position_or_len is_gap (take (c.args.to - length c.before-before.result.now - (c.args.from - length c.before-before.result.now)) (drop (c.args.from - length c.before-before.result.now) items))) c.after.ensures
    ∙ run_after c.before-before.result.now form.after c.args.from c.args.to c.if-before-from.true
    ∙ ap (λ (items : List Item). position_or_len is_gap (take (c.args.to - c.args.from) (drop c.args.from (items ++ form.after)))) c.before-before.ensures

pub returns-then-run-front : goal.returns-then-run-front
returns-then-run-front g c =
    let form = c.args.self.now in
    let run = c.run_len-run in
    run_stops c.before-before.result.now form.after c.args.from c.args.to _ _ run.result (omega (arith, c.if-before-from.false)) (ap (λ k. k - c.args.from) c.min.ensures) refl c.requires.order
    (run_is _ run.result run.ensures.within run.ensures.bytes run.ensures.gap) c.if-run-front.true
    ∙ ap (λ (items : List Item). position_or_len is_gap (take (c.args.to - c.args.from) (drop c.args.from (items ++ form.after)))) c.before-before.ensures

pub returns : goal.returns
returns g c =
    let form = c.args.self.now in
    let run = c.run_len-run in
    let rest = c.run_len-2.ensures ∙ ap (λ (items : List Item). position_or_len is_gap (take (c.saturating_sub.result - 0) items)) c.after-2.ensures in
    run_goes_on c.before-before.result.now form.after c.args.from c.args.to _ _ run.result (omega (arith, c.if-before-from.false)) (ap (λ k. k - c.args.from) c.min.ensures) (let all : c.saturating_sub.result - 0 ≡ c.args.to - length c.before-before.result.now = omega (arith, c.saturating_sub.ensures) in all) c.requires.order
    (run_is _ run.result run.ensures.within run.ensures.bytes run.ensures.gap) c.run_len-2.result c.if-run-front.false rest
    ∙ ap (λ (items : List Item). position_or_len is_gap (take (c.args.to - c.args.from) (drop c.args.from (items ++ form.after)))) c.before-before.ensures

pub overflow_add-result : goal.overflow_add-result
overflow_add-result g c =
    omega (
      arith,
      c.run_len-run.ensures.within,
      length-take (c.min.result - c.args.from) (drop c.args.from c.before-before.result.now),
      c.min.ensures,
      c.run_len-2.ensures,
      prefix_len-le-length (λ item. not (is_gap item)) (take (c.saturating_sub.result - 0) c.after-2.result),
      length-take (c.saturating_sub.result - 0) c.after-2.result,
      c.saturating_sub.ensures,
      c.if-before-from.false,
      c.requires.order,
      c.ranges.to.fits,
    )
