use Rattle.std.proofs.Common.{◌+◌, arith}
use Rattle.trac_rules.specs.declared.item.Item.TheVariants.{Byte}
use Rattle.trac_forms.proofs.Extents.{extent_more, extent-take}
use Rattle.trac_forms.proofs.form.extent_within.Goals as goal

pub returns-then-width-most : goal.returns-then-width-most
returns-then-width-most c = λ fits.
    omega (arith, extent_more c.args.items.now c.loop-item.item-index (Byte 0) (omega arith), extent-take (c.loop-item.item-index + 1) c.args.items.now, c.width-width.ensures)

pub loop-item-preserved : goal.loop-item-preserved
loop-item-preserved c =
    let more = extent_more c.args.items.now c.loop-item.item-index (Byte 0) (omega arith) in
    (omega (arith, more, c.width-width.ensures), omega arith)
