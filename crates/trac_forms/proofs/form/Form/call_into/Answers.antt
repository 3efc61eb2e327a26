-- A text alone is given as it is, whatever the call's texts are.
use Rattle.std.proofs.Common.{◌≡◌, ◌++◌, ℕ, List, ap, ◌∙◌, refl}
use Rattle.trac_rules.specs.Filling.{all_filled, called, filled}
use Rattle.trac_items.proofs.Alone.{given_alone}
use Rattle.trac_forms.proofs.form.Form.call_into.Goals as goal

pub returns-clause-ok : goal.returns-clause-ok
returns-clause-ok g c =
    let texts = g.T.Texts.texts c.args.args.now in
    let value : c.after.inside.text.now ≡ called texts c.args.self.now =
    given_alone c.after.inside.text.now c.after.inside.items.now c.after-after.result c.after.view_is c.after.invariant c.if-is_empty.ensures (filled texts) (λ b. refl)
    ∙ ap (all_filled texts) c.after-after.ensures in
    c.in_ok-extend_from_slice.ensures.items ∙ ap (λ (bytes : List ℕ). c.args.out.now.items ++ bytes) value
