use Rattle.std.proofs.Common.{◌≡◌, ◌<◌, List, ℕ, ◌+◌, ◌++◌, ap, arith, length, sym, take, ◌∙◌}
use Rattle.std.specs.Prelude.{Option, option_to_list}
use Rattle.trac_rules.specs.declared.item.Item.{Item}
use Rattle.trac_rules.specs.declared.item.Item.TheVariants.{Byte}
use Rattle.trac_rules.specs.Form.{all_items}
use Rattle.trac_rules.specs.Pieces.{bytes_in}
use Rattle.trac_forms.proofs.Passing.{count-split}
use Rattle.trac_prims.proofs.Addressing.{bytes_more}
use Rattle.trac_doubts.proofs.addresses.short_text.Goals as goal

pub loop-place-preserved : goal.loop-place-preserved
loop-place-preserved g c =
    let items = all_items c.args.form.now in
    let within : c.loop-place.place < length items = omega (arith, c.loop-place-test.true, c.len-place-end.ensures.len) in
    c.add_byte-is_added.ensures.added c.if-not-is_added.false
    ∙ ap (λ (xs : List ℕ). xs ++ bytes_in (option_to_list c.item.result)) c.loop-place.invariant
    ∙ ap (λ (o : Option Item). bytes_in (take c.loop-place.place items) ++ bytes_in (option_to_list o)) c.item.ensures
    ∙ sym (bytes_more items c.loop-place.place (Byte 0) within)

pub returns-then-not-is_added : goal.returns-then-not-is_added
returns-then-not-is_added g c =
    let items = all_items c.args.form.now in
    let within : c.loop-place.place < length items = omega (arith, c.loop-place-test.true, c.len-place-end.ensures.len) in
    let full = c.add_byte-is_added.ensures.full c.if-not-is_added.true in
    let more : length (c.loop-place.text.items ++ bytes_in (option_to_list c.item.result)) ≡ length (bytes_in (take (c.loop-place.place + 1) items)) =
    ap length
    (ap (λ (xs : List ℕ). xs ++ bytes_in (option_to_list c.item.result)) c.loop-place.invariant
    ∙ ap (λ (o : Option Item). bytes_in (take c.loop-place.place items) ++ bytes_in (option_to_list o)) c.item.ensures
    ∙ sym (bytes_more items c.loop-place.place (Byte 0) within)) in
    omega (arith, full, more, count-split (c.loop-place.place + 1) items)
