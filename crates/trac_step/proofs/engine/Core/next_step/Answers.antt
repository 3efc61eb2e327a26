use Rattle.std.proofs.Common.{ap, sym, ◌∙◌}
use Rattle.trac_rules.specs.Records.{texts_in}
use Rattle.trac_prims.specs.Tape.{environment_of}
use Rattle.trac_text.specs.Ruled.{rule_of}
use Rattle.trac_text.specs.declared.scanning.Rule.TheVariants.{Perform}
use Rattle.trac_text.proofs.Ruled.{begins_by}
use Rattle.trac_step.specs.Layout.{Shown}
use Rattle.trac_step.proofs.Scans.{is_move_by}
use Rattle.trac_step.proofs.Stepped.{not_stepped, stepped}
use Rattle.trac_step.proofs.engine.Core.next_step.Goals as goal

pub close-requires-clause-front : goal.close-requires-clause-front
close-requires-clause-front g c =
    (begins_by (texts_in c.args.self.now.state) Perform (sym c.in-Perform.is ∙ c.rule-rule.ensures ∙ ap (λ (m : Shown). rule_of (texts_in m.state)) c.self.view_is)).0

pub close-requires-clause-inside : goal.close-requires-clause-inside
close-requires-clause-inside g c =
    (begins_by (texts_in c.args.self.now.state) Perform (sym c.in-Perform.is ∙ c.rule-rule.ensures ∙ ap (λ (m : Shown). rule_of (texts_in m.state)) c.self.view_is)).1

pub close-requires-clause-can : goal.close-requires-clause-can
close-requires-clause-can g c = c.requires

pub returns-then-not-move_fits : goal.returns-then-not-move_fits
returns-then-not-move_fits g c =
    let next = c.rule-rule.ensures ∙ ap (λ (m : Shown). rule_of (texts_in m.state)) c.self.view_is in
    let moves = is_move_by c.args.self.now.state c.rule-rule.result next c.in_default.not-Perform in
    not_stepped (environment_of c.args.self.now.width c.args.tape) c.args.self.now (g.K.Keeper.records c.args.keeper.now) (g.K.Keeper.places c.args.keeper.now) moves c.if-not-move_fits.ensures

pub returns : goal.returns
returns g c =
    let next = c.rule-rule.ensures ∙ ap (λ (m : Shown). rule_of (texts_in m.state)) c.self.view_is in
    let moves = is_move_by c.args.self.now.state c.rule-rule.result next c.in_default.not-Perform in
    stepped (environment_of c.args.self.now.width c.args.tape) c.carry_out.result c.args.self.now c.carry_out.new.self (g.K.Keeper.records c.args.keeper.now) (g.K.Keeper.records c.carry_out.new.keeper)
    (g.K.Keeper.places c.args.keeper.now) moves c.if-not-move_fits.ensures c.carry_out.ensures
