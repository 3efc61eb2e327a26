use Rattle.std.proofs.Common.{◌≡◌, arith, rules, ◌∙◌}
use Rattle.std.specs.Prelude.{decimal}
use Rattle.std.proofs.lemmas.Result.{err_from_is_err_and}
use Rattle.trac_prims.proofs.BlockPlans.{number_memory}
use Rattle.trac_prims.proofs.blocks.address_of.Goals as goal

pub returns-in_err-new-clause-err : goal.returns-in_err-new-clause-err
returns-in_err-new-clause-err g c =
    let why = err_from_is_err_and c.from_residual-in_err-new.result c.from_residual-in_err-new.ensures.1 in
    let digits : c.print_into.new.out.items ≡ decimal c.args.number = search rules in
    rw why.1
    (why.2 ∙ number_memory c.args.number c.as_slice.result.now c.in_err-new.field-0.0 (omega (arith, c.requires)) (c.as_slice.ensures.value ∙ digits) c.in_err-new.ensures.err)
