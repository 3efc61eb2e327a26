use Rattle.std.proofs.Common.{ℕ, ◌-◌, length, ap, ◌∙◌, arith}
use Rattle.std.proofs.lemmas.List.{length-drop}
use Rattle.trac_gap.specs.Window.{Window}
use Rattle.trac_rules.specs.Session.{released}
use Rattle.trac_step.specs.Layout.{shown_by, Shown}
use Rattle.trac_step.proofs.engine.Core.release.Goals as goal

pub invariant_of-self : goal.invariant_of-self
invariant_of-self g c = record {
  storage_is = c.self.invariant.storage_is;
  output_limit = omega (arith, c.self.invariant.output_limit, ap (λ (w : Window ℕ). length w.items) c.drop_front.ensures, length-drop c.args.output c.self.inside.output.items);
}

pub returns : goal.returns
returns g c =
    let i = c.self.inside in
    ap (λ (w : Window ℕ). shown_by i.texts i.store i.meta i.trace (i.position - c.args.position) w i.width) c.drop_front.ensures
    ∙ ap (λ (m : Shown). record m { state = released c.args.output c.args.position m.state }) c.self.view_is
