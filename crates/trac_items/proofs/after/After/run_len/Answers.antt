-- A text has no gap; items are looked at as they stand.
use Rattle.std.proofs.Common.{◌-◌, List, take, drop, sym, ap, ◌∙◌, arith}
use Rattle.std.specs.List.{position_or_len}
use Rattle.trac_rules.specs.declared.item.Item.{Item}
use Rattle.trac_rules.specs.Pieces.{is_gap}
use Rattle.trac_items.proofs.Runs.{run_is, text_run}
use Rattle.trac_items.proofs.Alone.{items_alone, text_alone, text_length}
use Rattle.trac_items.proofs.after.After.run_len.Goals as goal

pub returns-then-is_empty : goal.returns-then-is_empty
returns-then-is_empty c =
    let all = items_alone c.self.inside.text.now c.self.inside.items.now c.args.self.now c.self.view_is c.if-is_empty.ensures in
    run_is _ c.run_len.result c.run_len.ensures.within c.run_len.ensures.bytes c.run_len.ensures.gap
    ∙ ap (λ (items : List Item). position_or_len is_gap (take (c.args.to - c.args.from) (drop c.args.from items))) (sym all)

pub returns : goal.returns
returns c =
    let all = text_alone c.self.inside.text.now c.self.inside.items.now c.args.self.now c.self.view_is c.self.invariant c.if-is_empty.ensures in
    text_run c.self.inside.text.now c.args.from (c.args.to - c.args.from)
    (omega (arith, c.requires.order, c.requires.within, text_length c.self.inside.text.now c.args.self.now all))
    ∙ ap (λ (items : List Item). position_or_len is_gap (take (c.args.to - c.args.from) (drop c.args.from items))) (sym all)
