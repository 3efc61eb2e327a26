-- A form has no more items than it stands for bytes.
use Rattle.std.proofs.Common.{◌++◌, length, ap, arith, length-append}
use Rattle.trac_rules.specs.Form.{Form, as_items}
use Rattle.trac_rules.proofs.Cutting.{count_within_extent}
use Rattle.trac_forms.proofs.form.Form.ahead.Goals as goal

pub overflow_add-result : goal.overflow_add-result
overflow_add-result g c =
    let left = c.self.inside.items.left in
    let right = as_items c.self.inside.text.items ++ c.self.inside.items.right in
    omega (
      arith,
      count_within_extent (left ++ right) c.self.invariant.kept.wide,
      c.self.invariant.kept.within,
      length-append left right,
      ap (λ (form : Form). length form.after) c.self.view_is,
      ap length c.left.ensures.left,
    )
