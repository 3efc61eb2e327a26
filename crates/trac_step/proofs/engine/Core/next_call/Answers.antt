use Rattle.std.proofs.Common.{◌≡◌, List, ℕ, sym, ap, subst, ◌∙◌, true, false, not}
use denote.Enum.Bare.{sameb}
use Rattle.trac_rules.specs.contracts.scan.Front.{the_type}
use Rattle.trac_rules.specs.declared.kind.Kind.{Kind}
use Rattle.trac_rules.specs.declared.scan.Front.{Front}
use Rattle.trac_rules.specs.declared.scan.Front.TheVariants.{Closing}
use Rattle.trac_rules.specs.Goals.{IsCall, next_call}
use Rattle.trac_rules.specs.Scanning.{front_of}
use Rattle.trac_text.specs.Neutral.{Neutral, cut_back, neutral_of}
use Rattle.trac_step.specs.Layout.{Shown}
use Rattle.trac_step.proofs.Finishing.{read_there}
use Rattle.trac_step.proofs.NextCalls.{closing_unless_other, innermost_ahead}
use Rattle.trac_step.proofs.Scans.{no_call_before, no_call_outside}
use Rattle.trac_step.proofs.engine.Core.next_call.Goals as goal

pub returns-then-ne : goal.returns-then-ne
returns-then-ne g c =
    no_call_before c.args.self.now.state c.front.result (c.front.ensures ∙ ap (λ (m : Shown). front_of m.state.active) c.self.view_is)
    (λ is. absurd (let unset : true ≡ false = sym c.if-ne.true ∙ c.ne.ensures ∙ ap (λ (f : Front). not (sameb the_type f Closing)) is in cc))

pub returns-in_err-function : goal.returns-in_err-function
returns-in_err-function g c =
    let front = sym (c.front.ensures ∙ ap (λ (m : Shown). front_of m.state.active) c.self.view_is) ∙ closing_unless_other c.front.result (sym c.ne.ensures ∙ c.if-ne.false) in
    rw c.from_residual.ensures
    (no_call_outside c.args.self.now.state front (ap (λ (n : Neutral). n.frames) (sym (read_there c.self.view_is c.neutral.result c.neutral.ensures)) ∙ c.in_err-function.ensures))

pub returns : goal.returns
returns g c =
    let front = sym (c.front.ensures ∙ ap (λ (m : Shown). front_of m.state.active) c.self.view_is) ∙ closing_unless_other c.front.result (sym c.ne.ensures ∙ c.if-ne.false) in
    let inner = c.in_ok-function.ensures in
    let f = c.in_ok-function.function in
    let ahead = innermost_ahead c.args.self.now.state inner.frame (neutral_of (cut_back f.number f.place c.neutral.result)).frames front
    (ap (λ (n : Neutral). n.frames) (sym (read_there c.self.view_is c.neutral.result c.neutral.ensures)) ∙ inner.frames_are) in
    subst (λ (of : Kind × List (List ℕ)). IsCall (next_call c.args.self.now.state) of.0 of.1) (λ i. (inner.kind_is i, inner.arguments_are i)) ahead
