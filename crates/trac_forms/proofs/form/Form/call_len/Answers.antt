-- A text alone is given as it is, whatever the call's texts are.
use Rattle.std.proofs.Common.{◌≡◌, ◌≤◌, ℕ, List, length, ap, subst, ◌∙◌, refl}
use Rattle.std.specs.Prelude.{SomeIff}
use Rattle.trac_rules.specs.declared.limit.TheConstants.{TEXT_LIMIT}
use Rattle.trac_rules.specs.Filling.{all_filled, called, filled}
use Rattle.trac_items.proofs.Alone.{given_alone}
use Rattle.trac_forms.proofs.form.Form.call_len.Goals as goal

pub returns : goal.returns
returns g c =
    let texts = g.T.Texts.texts c.args.args.now in
    let value : c.after.inside.text.now ≡ called texts c.args.self.now =
    given_alone c.after.inside.text.now c.after.inside.items.now c.after-after.result c.after.view_is c.after.invariant c.if-is_empty.ensures (filled texts) (λ b. refl)
    ∙ ap (all_filled texts) c.after-after.ensures in
    subst (λ (bytes : List ℕ). SomeIff c.text_within.result (length bytes ≤ TEXT_LIMIT) (length bytes)) value c.text_within.ensures
