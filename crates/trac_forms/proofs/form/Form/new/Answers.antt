-- A short text is kept as items, and a long one as it is.
use Rattle.std.proofs.Common.{◌≡◌, [], ◌++◌, List, ℕ, ap, arith, inl, inr, subst, sym, ◌∙◌}
use Rattle.std.proofs.lemmas.List.{append-nil}
use Rattle.trac_gap.specs.Ends.{Ends}
use Rattle.trac_rules.specs.declared.item.Item.{Item}
use Rattle.trac_rules.specs.Form.{as_items}
use Rattle.trac_forms.specs.Layout.{IsHeld}
use Rattle.trac_forms.proofs.Divided.{defined_after, divided_packed, held_new}
use Rattle.trac_forms.proofs.form.Form.new.Goals as goal

pub invariant_of-result : goal.invariant_of-result
invariant_of-result g c =
    let text = c.args.text.now in
    let items = c.shift_right.new.self in
    let left = ap (λ (e : Ends Item). e.left) c.put_text.ensures ∙ ap (λ (xs : List Item). xs ++ as_items text) (c.in_ok-reserve.ensures.left ∙ ap (λ (e : Ends Item). e.left) c.new-items.ensures) in
    let right = ap (λ (e : Ends Item). e.right) c.put_text.ensures ∙ c.in_ok-reserve.ensures.right ∙ ap (λ (e : Ends Item). e.right) c.new-items.ensures in
    held_new text c.new-text.result.items items
    (divided_packed c.new-text.result.items items c.new-text.ensures.items ∙ defined_after c.put_text.new.items items text left right c.shift_right.ensures)
    (inl c.new-text.ensures.items) (omega (arith, c.if-text-gt-FORM_LIMIT.false))
    (omega (arith, c.in_ok-reserve.ensures.ok, ap (λ (e : Ends Item). e.capacity) c.put_text.ensures, ap (λ (e : Ends Item). e.capacity) c.shift_right.ensures))

pub returns-then-text-lt-LONG-clause-sound : goal.returns-then-text-lt-LONG-clause-sound
returns-then-text-lt-LONG-clause-sound g c = let held = invariant_of-result g c in record { within = held.kept.within; wide = held.kept.wide }

pub invariant_of-result-2 : goal.invariant_of-result-2
invariant_of-result-2 g c =
    let text = c.args.text.now in
    let items = c.reserve.new.self in
    let left : items.left ≡ [] = c.in_ok-reserve.ensures.left ∙ ap (λ (e : Ends Item). e.left) c.new-items.ensures in
    let right : items.right ≡ [] = c.in_ok-reserve.ensures.right ∙ ap (λ (e : Ends Item). e.right) c.new-items.ensures in
    let after : as_items text ++ items.right ≡ as_items text = ap (λ (xs : List Item). as_items text ++ xs) right ∙ append-nil (as_items text) in
    subst (λ (kept : List ℕ). IsHeld kept items) (sym c.in_ok-text.ensures.items)
    (held_new text text items (λ i. record { before = left i; after = after i }) (inr right) (omega (arith, c.if-text-gt-FORM_LIMIT.false)) (omega (arith, c.in_ok-reserve.ensures.ok)))

pub returns-clause-sound : goal.returns-clause-sound
returns-clause-sound g c = let held = invariant_of-result-2 g c in record { within = held.kept.within; wide = held.kept.wide }
