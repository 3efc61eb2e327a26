use Rattle.std.proofs.Common.{ap, sym, ◌∙◌}
use Rattle.std.specs.Prelude.{nat_lt}
use Rattle.trac_rules.specs.Scanning.{front_of}
use Rattle.trac_text.specs.Holding.{ShownTexts}
use Rattle.trac_text.specs.Ruled.{rule_at}
use Rattle.trac_text.proofs.Holding.{depth_now}
use Rattle.trac_text.proofs.Ruled.{inside_counted}
use Rattle.trac_text.proofs.texts.Texts.rule.Goals as goal

pub returns : goal.returns
returns g c =
    let t = c.args.self.now.texts in
    let front = c.front_at.ensures ∙ ap front_of c.right.ensures.right ∙ ap (λ (m : ShownTexts). front_of m.texts.active) c.self.view_is in
    let inside = ap (nat_lt 0) (depth_now (record { sound = c.self.invariant; view = c.self.view_is })) ∙ inside_counted t.frames in
    c.rule_for.ensures ∙ (λ i. rule_at (front i) (inside i))
