use Rattle.std.proofs.Common.{sym, subst, ◌∙◌}
use Rattle.trac_rules.specs.Effect.{argument}
use Rattle.trac_rules.specs.Performing.{primitive_of}
use Rattle.trac_origins.proofs.Unchanged.{moves_unchanged}
use Rattle.trac_follow_step.specs.declared.called.Put as code
use Rattle.trac_follow_step.proofs.CallsTold.{given_call, moves_done}
use Rattle.trac_follow_step.proofs.PutTold.{IsFor, is_put_by}
use Rattle.trac_follow_step.proofs.Staying.{form_stays, form_unchanged}
use Rattle.trac_follow_step.proofs.running.stays_in_form.Goals as goal

pub returns-in-Nothing : goal.returns-in-Nothing
returns-in-Nothing g c = λ stays.
    let s = c.args.before.now.state in
    let texts = c.in-Some.arguments in
    let p = primitive_of (argument 0 texts) in
    form_stays s c.args.name.now
    (form_unchanged s c.args.name.now texts (given_call s c.in-Some.field-0-0 texts c.in-Some.ensures)
    (subst (λ (put : code.Put). IsFor put p (argument 1 texts) c.args.name.now) (sym c.put_by.ensures ∙ c.in-Nothing.is) (is_put_by p (argument 1 texts) c.args.name.now)))

pub returns-in-None : goal.returns-in-None
returns-in-None g c = λ stays.
    let s = c.args.before.now.state in
    form_stays s c.args.name.now (λ i environment t item h stands. moves_unchanged environment s t c.args.name.now i item h (moves_done environment s t c.in-None.ensures h) stands)
