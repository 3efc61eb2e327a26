use Rattle.std.proofs.Common.{◌≡◌, ◌++◌, List, ℕ, sym, ap, subst, ◌∙◌, arith}
use Rattle.std.proofs.lemmas.Result.{err_from_is_err_and}
use Rattle.trac_rules.specs.Effect.{argument}
use Rattle.trac_rules.specs.Outcomes.{MayRefuse, limited}
use Rattle.trac_rules.specs.Performing.{performed, primitive_of, trace_line}
use Rattle.trac_rules.specs.declared.primitive.Primitive.{Primitive}
use Rattle.trac_forms.specs.Stored.{storage_in}
use Rattle.trac_change.specs.Changes.{IsChangeOf}
use Rattle.trac_prims.specs.Plans.{fits_after}
use Rattle.trac_prims.specs.Tape.{environment_of}
use Rattle.trac_prims.proofs.Planned.{beyond, lacks, unplanned, within}
use Rattle.trac_prims.proofs.planning.plan_into.Goals as goal
use Rattle.trac_prims.proofs.planning.plan_into.Goals.{then-len-now-via-then-len-now, then-len-now-via-else-len-now+then-len-now-2}

pub returns-in_err-deed-clause-outcome : goal.returns-in_err-deed-clause-outcome
returns-in_err-deed-clause-outcome g c = λ call given.
    let why = err_from_is_err_and c.from_residual.result c.from_residual.ensures.1 in
    let named : c.primitive_named.result ≡ primitive_of (argument 0 c.args.args.now) = c.primitive_named.ensures ∙ ap primitive_of c.get.ensures in
    rw (why.1, why.2)
    (unplanned (environment_of c.args.now.width c.args.tape) call c.args.kind c.args.args.now c.args.store.now c.args.now given c.primitive_named.result named
    c.in_err-deed.field-0.0 (c.in_err-deed.ensures.outcome call.state given.state_is))

pub returns-in_err-line-clause-outcome : goal.returns-in_err-line-clause-outcome
returns-in_err-line-clause-outcome g c = λ call given.
    let why = err_from_is_err_and c.from_residual-in_err-line.result c.from_residual-in_err-line.ensures.1 in
    let named : c.primitive_named.result ≡ primitive_of (argument 0 c.args.args.now) = c.primitive_named.ensures ∙ ap primitive_of c.get.ensures in
    rw why.1
    (subst (MayRefuse (limited (fits_after call) (performed (environment_of c.args.now.width c.args.tape) call))) (sym (why.2 ∙ c.in_err-line.ensures.err))
    (lacks (environment_of c.args.now.width c.args.tape) call c.args.kind c.args.args.now c.args.store.now c.args.now given c.primitive_named.result named
    (record c.args.made.now { value = c.clear.new.self; print = c.line_into-line.new.out }) c.perform.new.made c.perform.new.change c.in_ok-deed.deed (c.in_ok-deed.ensures.outcome call.state given.state_is)))

pub returns-then-len-now-clause-outcome : goal.returns-then-len-now-clause-outcome
returns-then-len-now-clause-outcome g c = λ call given.
    let named : c.primitive_named.result ≡ primitive_of (argument 0 c.args.args.now) = c.primitive_named.ensures ∙ ap primitive_of c.get.ensures in
    let lined = c.in_ok-line.ensures.ok ∙ ap (λ (before : List ℕ). before ++ trace_line c.args.now.trace c.args.kind c.args.args.now) c.clear-2.ensures.items in
    beyond (environment_of c.args.now.width c.args.tape) call c.args.kind c.args.args.now c.args.store.now c.args.now given c.primitive_named.result named
    (record c.args.made.now { value = c.clear.new.self; print = c.line_into-line.new.out }) c.perform.new.made c.perform.new.change c.in_ok-deed.deed (c.in_ok-deed.ensures.outcome call.state given.state_is)
    c.clear.ensures.items lined (λ place. elim c.then-len-now.branch [
      | then-len-now-via-then-len-now w ↦ omega (arith, w.if-len-now.true, c.len.ensures, place.text, c.perform.new.made.value.ok.0)
      | then-len-now-via-else-len-now+then-len-now-2 w ↦ omega (arith, w.if-len-now-2.true, w.len-else-len-now.ensures, place.output, c.perform.new.made.print.ok.0)
    ])

pub returns-clause-outcome : goal.returns-clause-outcome
returns-clause-outcome g c = λ call given.
    let named : c.primitive_named.result ≡ primitive_of (argument 0 c.args.args.now) = c.primitive_named.ensures ∙ ap primitive_of c.get.ensures in
    let lined = c.in_ok-line.ensures.ok ∙ ap (λ (before : List ℕ). before ++ trace_line c.args.now.trace c.args.kind c.args.args.now) c.clear-2.ensures.items in
    within (environment_of c.args.now.width c.args.tape) call c.args.kind c.args.args.now c.args.store.now c.args.now given c.primitive_named.result named
    (record c.args.made.now { value = c.clear.new.self; print = c.line_into-line.new.out }) c.perform.new.made c.perform.new.change c.in_ok-deed.deed (c.in_ok-deed.ensures.outcome call.state given.state_is)
    c.clear.ensures.items lined (record {
      text = omega (arith, c.if-len-now.false, c.len.ensures, c.requires.text, c.perform.new.made.value.ok.0);
      output = omega (arith, c.if-len-now-2.false, c.len-else-len-now.ensures, c.requires.output, c.perform.new.made.print.ok.0);
    })

pub returns-clause-change : goal.returns-clause-change
returns-clause-change g c =
    let named : c.primitive_named.result ≡ primitive_of (argument 0 c.args.args.now) = c.primitive_named.ensures ∙ ap primitive_of c.get.ensures in
    subst (λ (p : Primitive). IsChangeOf p c.args.args.now (storage_in c.args.store.now) c.perform.new.change) named c.in_ok-deed.ensures.change

pub returns-clause-place : goal.returns-clause-place
returns-clause-place g c = record {
  text = omega (arith, c.if-len-now.false, c.len.ensures, c.requires.text, c.perform.new.made.value.ok.0);
  output = omega (arith, c.if-len-now-2.false, c.len-else-len-now.ensures, c.requires.output, c.perform.new.made.print.ok.0);
}
