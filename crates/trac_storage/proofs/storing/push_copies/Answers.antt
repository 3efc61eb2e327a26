-- One more block is after the others, or it has too many forms.
use Rattle.std.proofs.Common.{List, map, sym, ap, ◌∙◌, subst, arith}
use Rattle.std.specs.Prelude.{Ok, option_map}
use Rattle.std.specs.List.{list_all}
use Rattle.std.proofs.lemmas.Result.{err_from_is_err_and}
use Rattle.trac_rules.specs.Outcomes.{MayRefuse, limited}
use Rattle.trac_rules.specs.State.{Block}
use Rattle.trac_forms.specs.Stored.{Stored}
use Rattle.trac_storage.specs.Loading.{block_few, block_of}
use Rattle.trac_storage.proofs.Outcomes.{refuses_with}
use Rattle.trac_storage.proofs.Filling.{block_fails, block_pushed}
use Rattle.trac_storage.proofs.storing.push_copies.Goals as goal

pub returns-in_err-block-clause-err : goal.returns-in_err-block-clause-err
returns-in_err-block-clause-err g c =
    let p = err_from_is_err_and c.from_residual-in_err-block.result c.from_residual-in_err-block.ensures.1 in
    let forms = c.forms-item.result in
    rw p.1
    (refuses_with block_few (block_of forms) (λ (bs : List Block). list_all block_few bs) (map block_of c.args.blocks.now) p.0
    (block_fails c.args.blocks.now c.loop-forms.forms-index forms (omega arith) c.forms-item.is)
    (subst (MayRefuse (limited block_few (Ok (block_of forms)))) (sym p.2) c.in_err-block.ensures))

pub loop-forms-preserved : goal.loop-forms-preserved
loop-forms-preserved g c =
    let at = c.loop-forms in
    let next = block_pushed c.args.blocks.now at.forms-index c.forms-item.result (omega arith) c.forms-item.is c.args.store.now at.store c.push_any.new.store
    (option_map (λ b. b.held) c.in_ok-block.block) c.in_ok-block.ensures at.invariant.pushed c.in_ok-push_any.ensures.pushed at.invariant.few in
    record {
      pushed = next.0;
      names = ap (λ (s : Stored). s.known) c.in_ok-push_any.ensures.pushed ∙ at.invariant.names;
      few = next.1;
      places = omega (arith, at.invariant.places, ap (λ (s : Stored). s.spare) c.in_ok-push_any.ensures.pushed);
    }
