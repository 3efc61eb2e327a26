use Rattle.std.proofs.Common.{◌≡◌, [], ◌∷◌, ◌<◌, List, ℕ, ◌++◌, ap, arith, length, sym, take, ◌∙◌}
use Rattle.std.specs.Prelude.{Option, Some, option_to_list}
use Rattle.std.proofs.lemmas.List.{append-nil}
use Rattle.trac_rules.specs.declared.item.Item.{Item}
use Rattle.trac_rules.specs.declared.item.Item.TheVariants.{Byte}
use Rattle.trac_rules.specs.Form.{all_items}
use Rattle.trac_rules.specs.Pieces.{bytes_in}
use Rattle.trac_prims.proofs.Addressing.{bytes_more}
use Rattle.trac_prims.proofs.blocks.bytes_of.Goals as goal
use Rattle.trac_prims.proofs.blocks.bytes_of.Goals.{in-Some-Byte+in_ok-push-in-Some-Byte, in-Some-Gap, in-None}

pub loop-i-preserved : goal.loop-i-preserved
loop-i-preserved g c =
    let items = all_items c.args.form.now in
    let so_far = bytes_in (take c.loop-i.i items) in
    let within : c.loop-i.i < length items = omega (arith, c.loop-i-test.true, c.len-i-end.ensures.len) in
    let next = bytes_more items c.loop-i.i (Byte 0) within ∙ ap (λ (o : Option Item). so_far ++ bytes_in (option_to_list o)) (sym c.item.ensures) in
    elim c.match-item.branch [
      | in-Some-Byte+in_ok-push-in-Some-Byte w ↦
          let pushed : c.match-item.text.items ≡ c.loop-i.text.items ++ w.in-Some-Byte.b ∷ [] = (let e = w.text-is in let p = w.in_ok-push-in-Some-Byte.ensures.items in cc) in
          pushed ∙ ap (λ (xs : List ℕ). xs ++ w.in-Some-Byte.b ∷ []) c.loop-i.invariant ∙ ap (λ (o : Option Item). so_far ++ bytes_in (option_to_list o)) (sym (w.in-Some-Byte.is ∙ ap Some w.in-Some-Byte.field-0-is))
      | in-Some-Gap w ↦
          let same : c.match-item.text.items ≡ c.loop-i.text.items = (let e = w.text-is in cc) in
          same ∙ c.loop-i.invariant ∙ sym (append-nil so_far) ∙ ap (λ (o : Option Item). so_far ++ bytes_in (option_to_list o)) (sym (w.in-Some-Gap.is ∙ ap Some w.in-Some-Gap.field-0-is))
      | in-None w ↦
          let same : c.match-item.text.items ≡ c.loop-i.text.items = (let e = w.text-is in cc) in
          same ∙ c.loop-i.invariant ∙ sym (append-nil so_far) ∙ ap (λ (o : Option Item). so_far ++ bytes_in (option_to_list o)) (sym w.in-None.is)
    ]
    ∙ sym next
