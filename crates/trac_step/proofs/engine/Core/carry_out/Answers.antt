use Rattle.std.proofs.Common.{◌∷◌, sym, ap, ◌∙◌}
use Rattle.trac_rules.specs.Records.{Record, texts_in}
use Rattle.trac_rules.specs.Scanning.{front_of, gather_first}
use Rattle.trac_text.specs.declared.scanning.Rule.TheVariants.{Gather, Restart}
use Rattle.trac_text.proofs.Ruled.{begins_by, recorded_rule, scan_rule}
use Rattle.trac_step.proofs.Lifting.{moved_lifts, rule_shown}
use Rattle.trac_step.proofs.Scans.{short_unless}
use Rattle.trac_step.proofs.Stepped.{carried_so}
use Rattle.trac_step.proofs.engine.Core.carry_out.Goals as goal

pub empty_into-requires-clause-front : goal.empty_into-requires-clause-front
empty_into-requires-clause-front g c = ap front_of (begins_by (texts_in c.args.self.now.state) Restart (sym c.in-Restart.is ∙ c.requires.next))

pub returns-in-Gather : goal.returns-in-Gather
returns-in-Gather g c =
    let s = c.args.self.now.state in
    let next = sym c.in-Gather.is ∙ c.requires.next in
    carried_so _ c.args.self.now _ (g.K.Keeper.records c.args.keeper.now) (g.K.Keeper.records c.push_moved_byte.new.self) (g.K.Keeper.places c.args.keeper.now) (gather_first s) (scan_rule s Gather next)
    (rule_shown c.self.view_is (λ s. gather_first s) (moved_lifts 1) c.gather.new.self c.gather.ensures)
    (c.push_moved_byte.ensures ∙ ap (λ (r : Record). r ∷ g.K.Keeper.records c.args.keeper.now) (sym (recorded_rule s Gather next)))

pub scan_into-requires-clause-short : goal.scan_into-requires-clause-short
scan_into-requires-clause-short g c = short_unless c.args.rule c.in_default.not-Restart c.requires.moves
