-- What stands after the pointer is counted in two parts, of which one is empty.
use Rattle.std.proofs.Common.{◌≡◌, ◌+◌, ◌≤◌, ◌++◌, List, length, length-append, ap, arith, subst, sym, ◌∙◌, refl}
use Rattle.std.specs.Prelude.{SomeIff, codes}
use Rattle.trac_rules.specs.declared.item.Item.{Item}
use Rattle.trac_rules.specs.declared.limit.TheConstants.{OUTPUT_LIMIT}
use Rattle.trac_rules.specs.Showing.{shown, shown_item, shown_items}
use Rattle.trac_items.proofs.Alone.{given_both}
use Rattle.trac_forms.proofs.form.Form.show_len.Goals as goal

pub returns-in_err-text : goal.returns-in_err-text
returns-in_err-text g c =
    let form = c.args.self.now in
    let text = c.after.inside.text.now in
    let items = shown_items c.after.inside.items.now in
    let after = ap shown_items (sym c.after-after.ensures) ∙ given_both text c.after.inside.items.now c.after-after.result c.after.view_is shown_item (λ b. refl) in
    subst (λ result. SomeIff result (length (shown form) ≤ OUTPUT_LIMIT) (length (shown form))) (sym c.from_residual-in_err-text.ensures) (λ fits.
    omega (
      arith,
      fits,
      c.in_ok-before.ensures,
      ap (λ (xs : List Item). length (shown_items xs)) c.before-2.ensures,
      length-append (shown_items form.before) (codes "<^>" ++ shown_items form.after),
      ap length after,
      length-append text items,
      c.in_err-text.ensures,
    ))

pub returns : goal.returns
returns g c =
    let form = c.args.self.now in
    let text = c.after.inside.text.now in
    let items = shown_items c.after.inside.items.now in
    let after = ap shown_items (sym c.after-after.ensures) ∙ given_both text c.after.inside.items.now c.after-after.result c.after.view_is shown_item (λ b. refl) in
    let all : c.in_ok-before.before + 3 + c.in_ok-text.text + c.in_ok-items.items ≡ length (shown form) =
    omega (
      arith,
      c.in_ok-before.ensures,
      ap (λ (xs : List Item). length (shown_items xs)) c.before-2.ensures,
      length-append (shown_items form.before) (codes "<^>" ++ shown_items form.after),
      ap length after,
      length-append text items,
      c.in_ok-text.ensures,
      c.in_ok-items.ensures,
    ) in
    (omega (arith, all, c.in_ok-before.ensures, c.in_ok-text.ensures, c.in_ok-items.ensures), all)
