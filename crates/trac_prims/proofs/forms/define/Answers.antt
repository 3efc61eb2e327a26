use Rattle.std.proofs.Common.{ℕ, List, length, sym, subst}
use Rattle.std.proofs.lemmas.Result.{err_from_is_err_and}
use Rattle.trac_forms.specs.Outcomes.{MayRefuseForm}
use Rattle.trac_rules.specs.Effect.{argument}
use Rattle.trac_rules.specs.Form.{defined}
use Rattle.trac_rules.specs.Handling.{putting}
use Rattle.trac_forms.specs.Stored.{storage_in}
use Rattle.trac_prims.specs.Effects.{MayFail}
use Rattle.trac_prims.proofs.Held.{not_made}
use Rattle.trac_prims.proofs.forms.define.Goals as goal

pub returns-in_err-form-clause-outcome : goal.returns-in_err-form-clause-outcome
returns-in_err-form-clause-outcome g c = λ width texts.
    let storage = storage_in c.args.store.now in
    let text = argument 2 c.args.args.now in
    let name = argument 1 c.args.args.now in
    let why = err_from_is_err_and c.from_residual.result c.from_residual.ensures.1 in
    let over = subst (λ (t : List ℕ). MayRefuseForm (length t) c.in_err-form.field-0.0) c.get.ensures c.in_err-form.ensures.err in
    rw why.1 (subst (MayFail (putting name (defined text) storage)) (sym why.2) (not_made name text storage c.in_err-form.field-0.0 over))
