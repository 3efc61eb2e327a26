-- The items that are passed go to the left, the gap after them is gone, and the bytes come in its place.
use Rattle.std.proofs.Common.{◌++◌, append_assoc, ap, arith, drop, drop-drop, length, length-append, length-drop, take, ◌∙◌}
use Rattle.std.proofs.lemmas.List.{length-take-le}
use Rattle.trac_gap.specs.Ends.{Ends}
use Rattle.trac_rules.specs.declared.item.Item.{Item}
use Rattle.trac_rules.specs.Form.{as_items}
use Rattle.trac_forms.proofs.cut.fill_gap.Goals as goal

pub put_text-requires : goal.put_text-requires
put_text-requires g c =
    let old = c.args.items.now in
    omega (
      arith,
      ap (λ (e : Ends Item). length e.left) c.cut_right.ensures,
      ap (λ (e : Ends Item). length e.left) c.shift_left.ensures,
      length-append old.left (take c.args.passed old.right),
      length-take-le c.args.passed old.right (omega (arith, c.requires.there)),
      ap (λ (e : Ends Item). length e.right) c.cut_right.ensures,
      ap (λ (e : Ends Item). length (drop 1 e.right)) c.shift_left.ensures,
      length-drop 1 (drop c.args.passed old.right),
      length-drop c.args.passed old.right,
      ap (λ (e : Ends Item). e.capacity) c.cut_right.ensures,
      ap (λ (e : Ends Item). e.capacity) c.shift_left.ensures,
    )

pub returns : goal.returns
returns g c =
    let old = c.args.items.now in
    let bytes = as_items c.args.text.now in
    let left = ap (λ (e : Ends Item). e.left) c.put_text.ensures ∙ ap (λ (e : Ends Item). e.left ++ bytes) c.cut_right.ensures ∙ ap (λ (e : Ends Item). e.left ++ bytes) c.shift_left.ensures
    ∙ append_assoc old.left (take c.args.passed old.right) bytes in
    let right = ap (λ (e : Ends Item). e.right) c.put_text.ensures ∙ ap (λ (e : Ends Item). e.right) c.cut_right.ensures ∙ ap (λ (e : Ends Item). drop 1 e.right) c.shift_left.ensures
    ∙ drop-drop 1 c.args.passed old.right in
    let capacity = ap (λ (e : Ends Item). e.capacity) c.put_text.ensures ∙ ap (λ (e : Ends Item). e.capacity) c.cut_right.ensures ∙ ap (λ (e : Ends Item). e.capacity) c.shift_left.ensures in
    λ i. record { left = left i; right = right i; capacity = capacity i }
