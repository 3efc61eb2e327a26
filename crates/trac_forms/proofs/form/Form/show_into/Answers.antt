-- What stands after the pointer is put in two parts, of which one is empty.
use Rattle.std.proofs.Common.{◌≡◌, ◌++◌, ℕ, List, append_assoc, ap, subst, sym, ◌∙◌, refl}
use Rattle.std.specs.Prelude.{OnOk}
use Rattle.trac_rules.specs.declared.item.Item.{Item}
use Rattle.trac_rules.specs.Showing.{shown_item, shown_items}
use Rattle.trac_items.proofs.Alone.{given_both}
use Rattle.trac_forms.proofs.form.Form.show_into.Goals as goal

all_put : (out before mark text items after first second third : List ℕ) → first ≡ out ++ before → second ≡ first ++ mark → third ≡ second ++ text → after ≡ text ++ items →
    third ++ items ≡ out ++ (before ++ (mark ++ after))
all_put out before mark text items after first second third e f g both =
    ap (λ (xs : List ℕ). xs ++ items) (g ∙ ap (λ (xs : List ℕ). xs ++ text) (f ∙ ap (λ (xs : List ℕ). xs ++ mark) e))
    ∙ append_assoc ((out ++ before) ++ mark) text items ∙ append_assoc (out ++ before) mark (text ++ items) ∙ append_assoc out before (mark ++ (text ++ items))
    ∙ ap (λ (xs : List ℕ). out ++ (before ++ (mark ++ xs))) (sym both)

pub returns-clause-ok : goal.returns-clause-ok
returns-clause-ok g c =
    let form = c.args.self.now in
    let out = c.args.out.now.items in
    let after = ap shown_items (sym c.after-after.ensures)
    ∙ given_both c.after.inside.text.now c.after.inside.items.now c.after-after.result c.after.view_is shown_item (λ b. refl) in
    subst (λ (bytes : List ℕ). OnOk c.items_into-2.result (c.items_into-2.new.out.items ≡ bytes))
    (all_put out (shown_items form.before) _ c.after.inside.text.now (shown_items c.after.inside.items.now) (shown_items form.after) c.items_into.new.out.items
    c.extend_from_slice.new.self.items c.extend_from_slice-2.new.self.items (c.in_ok-items_into.ensures.ok ∙ ap (λ (xs : List Item). out ++ shown_items xs) c.before-2.ensures)
    c.in_ok-extend_from_slice.ensures.items c.in_ok-extend_from_slice-2.ensures.items after)
    c.items_into-2.ensures.ok
