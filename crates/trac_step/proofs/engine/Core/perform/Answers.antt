use Rattle.std.proofs.Common.{◌∷◌, refl, sym, ap, ◌∙◌, subst}
use Rattle.std.specs.Prelude.{option_map}
use Rattle.trac_rules.specs.Proper.{IsProper}
use Rattle.trac_rules.specs.Scanning.{scan}
use Rattle.trac_rules.specs.State.{State}
use Rattle.trac_step.specs.Calling.{arguments_in}
use Rattle.trac_step.specs.Layout.{Shown}
use Rattle.trac_step.specs.Ready.{recorded_after, undone_after}
use Rattle.trac_step.proofs.CallsPerformed.{can_change, can_end, ended_then, fits_as, not_kept, said_as}
use Rattle.trac_step.proofs.Rooms.{no_less_then}
use Rattle.trac_step.proofs.engine.Core.perform.Goals as goal

pub change_into-requires-clause-proper : goal.change_into-requires-clause-proper
change_into-requires-clause-proper g c = subst IsProper (sym c.make_room.ensures.state) c.requires.proper

pub change_into-requires-clause-can : goal.change_into-requires-clause-can
change_into-requires-clause-can g c = can_change c.args.self.now.state c.make_room.new.self.state c.args.beginning c.args.deed c.args.made.now c.args.change.now c.requires.ready c.make_room.ensures.state

pub change_into-requires-clause-fits : goal.change_into-requires-clause-fits
change_into-requires-clause-fits g c =
    let told = c.called_by-called.ensures in
    let same = said_as c.args.self.now.state c.args.beginning.kind c.args.deed c.args.made.now c.called_by-called.result told.kind told.value told.scanned told.printed told.read
    (told.meta ∙ ap (λ (m : Shown). option_map (λ _. m.state.meta) c.args.deed.meta) c.self.view_is) (told.trace ∙ ap (λ (m : Shown). m.state.trace) c.self.view_is) in
    fits_as _ _ _ _ _ _ same (ap (λ (t : State). arguments_in (scan t)) c.make_room.ensures.state) (ap (λ (t : State). undone_after c.args.change.now t) c.make_room.ensures.state) c.requires.fits

pub end_call-requires : goal.end_call-requires
end_call-requires g c =
    can_end c.args.self.now.state c.make_room.new.self c.change_into.new.self c.args.beginning c.args.deed c.args.made.now c.args.change.now c.requires.ready c.make_room.ensures.state c.in_ok-change_into.ensures.done
    c.in_ok-make_room.ensures.ok c.change_into.ensures.room

pub returns-in_err-make_room : goal.returns-in_err-make_room
returns-in_err-make_room g c =
    not_kept c.from_residual.result _ _ c.args.self.now c.make_room.new.self (g.K.Keeper.records c.args.keeper.now) (g.K.Keeper.records c.args.keeper.now) _
    c.from_residual.ensures.1 c.in_err-make_room.ensures.err c.make_room.ensures.state refl c.make_room.ensures.room

pub returns-in_err-change_into : goal.returns-in_err-change_into
returns-in_err-change_into g c =
    let refused = c.in_err-change_into.ensures in
    not_kept c.from_residual-in_err-change_into.result _ _ c.args.self.now c.change_into.new.self (g.K.Keeper.records c.args.keeper.now) (g.K.Keeper.records c.change_into.new.keeper) _
    c.from_residual-in_err-change_into.ensures.1 refused.err (refused.unchanged.0 ∙ c.make_room.ensures.state) refused.unchanged.1
    (no_less_then c.args.self.now c.make_room.new.self c.change_into.new.self c.make_room.ensures.room refused.room)

pub returns : goal.returns
returns g c =
    let told = c.called_by-called.ensures in
    let same = said_as c.args.self.now.state c.args.beginning.kind c.args.deed c.args.made.now c.called_by-called.result told.kind told.value told.scanned told.printed told.read
    (told.meta ∙ ap (λ (m : Shown). option_map (λ _. m.state.meta) c.args.deed.meta) c.self.view_is) (told.trace ∙ ap (λ (m : Shown). m.state.trace) c.self.view_is) in
    record {
      done =
          c.end_call.ensures.state
          ∙ ended_then c.args.self.now.state c.make_room.new.self c.change_into.new.self c.args.beginning c.args.deed c.args.made.now c.args.change.now c.requires.ready c.make_room.ensures.state c.in_ok-change_into.ensures.done;
      added = c.in_ok-change_into.ensures.added ∙ (λ i. recorded_after (same i) c.args.change.now (c.make_room.ensures.state i) ∷ g.K.Keeper.records c.args.keeper.now);
      unchanged = tt;
      err = tt;
      room =
          no_less_then c.args.self.now c.make_room.new.self c.end_call.new.self c.make_room.ensures.room
          (no_less_then c.make_room.new.self c.change_into.new.self c.end_call.new.self c.change_into.ensures.room c.end_call.ensures.room);
    }
