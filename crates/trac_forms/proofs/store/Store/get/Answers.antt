use Rattle.std.proofs.Common.{sym, ap, ◌∙◌}
use Rattle.std.specs.Prelude.{None}
use Rattle.std.specs.Option.{option_copied}
use Rattle.trac_forms.proofs.Tables.{form_found, form_known}
use Rattle.trac_forms.proofs.store.Store.get.Goals as goal

pub returns-in_err-get-clause-value : goal.returns-in_err-get-clause-value
returns-in_err-get-clause-value g c =
    ap option_copied c.from_residual.ensures
    ∙ sym (form_found c.self.inside.table.entries _ c.args.self.now c.self.view_is c.args.name.now None c.in_err-get.ensures.value)

pub returns-in_err-get-clause-known : goal.returns-in_err-get-clause-known
returns-in_err-get-clause-known g c =
    form_known c.self.inside.table.entries _ c.args.self.now c.self.view_is

pub returns-in_err-form-clause-value : goal.returns-in_err-form-clause-value
returns-in_err-form-clause-value g c =
    ap option_copied c.from_residual-in_err-form.ensures
    ∙ c.in_err-form.ensures.value
    ∙ sym (form_found c.self.inside.table.entries _ c.args.self.now c.self.view_is c.args.name.now _ c.in_ok-get.ensures.value)

pub returns-in_err-form-clause-known : goal.returns-in_err-form-clause-known
returns-in_err-form-clause-known g c =
    form_known c.self.inside.table.entries _ c.args.self.now c.self.view_is

pub returns-clause-value : goal.returns-clause-value
returns-clause-value g c =
    c.in_ok-form.ensures.value
    ∙ sym (form_found c.self.inside.table.entries _ c.args.self.now c.self.view_is c.args.name.now _ c.in_ok-get.ensures.value)

pub returns-clause-known : goal.returns-clause-known
returns-clause-known g c = form_known c.self.inside.table.entries _ c.args.self.now c.self.view_is
