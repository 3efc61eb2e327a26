use Rattle.std.proofs.Common.{◌≤◌, ◌∷◌, ◌∙◌, ap, refl, sym, arith}
use Rattle.std.proofs.lemmas.Result.{err_from_is_err_and}
use Rattle.std.specs.Prelude.{Err}
use Rattle.trac_rules.specs.Limits.{marks}
use Rattle.trac_rules.specs.Records.{texts_in}
use Rattle.trac_text.specs.Ruled.{rule_of}
use Rattle.trac_step.specs.Layout.{Shown}
use Rattle.trac_step.proofs.Fitting.{short_fits}
use Rattle.trac_step.proofs.Lifting.{no_less_texts, recorded_there, scanned_there, seen}
use Rattle.trac_step.proofs.Stepped.{carried_out, lacks_mark, no_place, not_carried_out, room_for_mark}
use Rattle.trac_step.proofs.engine.Core.scan_into.Goals as goal

pub carry_out-requires-clause-next : goal.carry_out-requires-clause-next
carry_out-requires-clause-next g c = c.requires.next ∙ ap (λ (m : Shown). rule_of (texts_in m.state)) (sym c.self.view_is)

pub carry_out-requires-clause-limit : goal.carry_out-requires-clause-limit
carry_out-requires-clause-limit g c = λ makes. omega (arith, room_for_mark c.args.self.now c.args.rule c.requires.next makes c.requires.fits, ap (λ (m : Shown). marks m.state.frames) c.self.view_is)

pub push_short-requires-clause-fits : goal.push_short-requires-clause-fits
push_short-requires-clause-fits g c = short_fits c.in_ok-short.short c.args.self.now.state c.requires.proper (c.in_ok-short.ensures.told ∙ recorded_there c.self.view_is)

pub returns-in_err-reserve_short : goal.returns-in_err-reserve_short
returns-in_err-reserve_short g c =
    no_place c.from_residual.result c.args.self.now (g.K.Keeper.records c.args.keeper.now) (g.K.Keeper.records c.reserve_short.new.self) (g.K.Keeper.places c.args.keeper.now) _ c.from_residual.ensures.1 c.in_err-reserve_short.ensures.err c.reserve_short.ensures.same c.in_err-reserve_short.ensures.full

pub returns-in_err-short : goal.returns-in_err-short
returns-in_err-short g c =
    let s = c.args.self.now.state in
    let p = err_from_is_err_and c.from_residual-in_err-short.result c.from_residual-in_err-short.ensures.1 in
    let full : c.args.self.now.mark_room ≤ marks s.frames = omega (arith, c.in_err-short.ensures.full, ap (λ (m : Shown). marks m.state.frames) c.self.view_is, ap (λ (m : Shown). m.mark_room) c.self.view_is) in
    not_carried_out c.from_residual-in_err-short.result c.args.self.now _ (g.K.Keeper.records c.args.keeper.now) (g.K.Keeper.records c.reserve_short.new.self)
    (g.K.Keeper.places c.args.keeper.now) (p.1 ∙ ap Err (p.2 ∙ c.in_err-short.ensures.err)) (ap (seen c.self.view_is) c.in_err-short.ensures.unchanged ∙ c.self.view_is) c.reserve_short.ensures.same
    (λ place. lacks_mark c.args.self.now c.args.rule c.requires.next c.in_err-short.ensures.mark full)

pub returns : goal.returns
returns g c =
    let told = c.in_ok-short.ensures.told ∙ recorded_there c.self.view_is in
    carried_out _ c.args.self.now _ (g.K.Keeper.records c.args.keeper.now) (g.K.Keeper.records c.push_short.new.self) (g.K.Keeper.places c.args.keeper.now) _
    (scanned_there c.self.view_is c.carry_out.new.self c.in_ok-short.ensures.scanned) refl
    (c.push_short.ensures ∙ (λ i. told i ∷ c.reserve_short.ensures.same i))
    (no_less_texts c.self.view_is c.carry_out.new.self (omega (arith, c.carry_out.ensures.text_room)) c.carry_out.ensures.mark_room)
