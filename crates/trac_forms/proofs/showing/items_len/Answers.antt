-- What the items up to this one are printed as is no longer than what all are.
use Rattle.std.proofs.Common.{length, ap, arith}
use Rattle.trac_rules.specs.declared.item.Item.{Item}
use Rattle.trac_rules.specs.Showing.{shown_item}
use Rattle.std.proofs.lemmas.List.Folds.{length-flat_map-take}
use Rattle.trac_forms.proofs.showing.items_len.Goals as goal

pub returns-then-len-most : goal.returns-then-len-most
returns-then-len-most c = λ fits.
    omega (
      arith,
      length-flat_map-take shown_item c.args.items.now c.loop-item.item-index c.item-item.result (omega arith),
      ap (λ (x : Item). length (shown_item x)) c.item-item.is,
      c.item_len-len.ensures,
      c.loop-item.invariant.0,
    )
