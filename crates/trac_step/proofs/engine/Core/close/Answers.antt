use Rattle.std.proofs.Common.{◌≡◌, ◌≤◌, refl, sym, subst}
use Rattle.std.proofs.lemmas.Result.{err_from_is_err_and}
use Rattle.trac_rules.specs.declared.refusal.Refusal.TheVariants.{Memory}
use Rattle.trac_rules.specs.Outcomes.{MayRefuse}
use Rattle.trac_rules.specs.Records.{record_of}
use Rattle.trac_rules.specs.Scanning.{scan}
use Rattle.trac_rules.specs.Stepping.{step}
use Rattle.trac_prims.specs.Tape.{environment_of}
use Rattle.trac_step.specs.Calling.{called_with, state_after}
use Rattle.trac_step.specs.Ready.{recorded_after, undone_after}
use Rattle.trac_step.specs.Room.{LacksRoomAhead}
use Rattle.trac_step.proofs.Fitting.{added_as, call_fits}
use Rattle.trac_step.proofs.Outcomes.{if_err_always, refused_for_memory, taken_by, taken_lacks}
use Rattle.trac_step.proofs.Recorded.{call_lacks_nothing}
use Rattle.trac_step.proofs.Rooms.{no_less}
use Rattle.trac_step.proofs.engine.Core.close.Goals as goal

pub returns-in_err-beginning : goal.returns-in_err-beginning
returns-in_err-beginning g c =
    let p = err_from_is_err_and c.from_residual.result c.from_residual.ensures.1 in
    rw p.1 (record {
      taken = tt;
      kept = tt;
      refused = subst (MayRefuse (step (environment_of c.args.self.now.width c.args.tape) c.args.self.now.state)) (sym p.2) c.in_err-beginning.ensures.refused;
      unchanged = (refl, refl);
      lacking = λ is place. call_lacks_nothing c.args.self.now c.requires.front c.requires.inside;
      room = no_less c.args.self.now;
    })

pub perform-requires-clause-fits : goal.perform-requires-clause-fits
perform-requires-clause-fits g c =
    let s = c.args.self.now.state in
    let e = environment_of c.args.self.now.width c.args.tape in
    let deed = c.in_ok-beginning.deed in
    let planned = c.in_ok-beginning.ensures.planned in
    call_fits e s (state_after deed c.planned.new.made c.planned.new.change (scan s)) (called_with s c.in_ok-beginning.beginning.kind deed c.planned.new.made) (undone_after c.planned.new.change s) c.requires.can.proper
    planned.ready.proper c.requires.front c.requires.inside planned.taken planned.recorded

pub returns : goal.returns
returns g c =
    let s = c.args.self.now.state in
    let e = environment_of c.args.self.now.width c.args.tape in
    let deed = c.in_ok-beginning.deed in
    let planned = c.in_ok-beginning.ensures.planned in
    let t = state_after deed c.planned.new.made c.planned.new.change (scan s) in
    let done = c.perform.ensures in
    record {
      taken = taken_by c.perform.result (step e s) t c.perform.new.self.state planned.taken done.done;
      kept = added_as c.perform.result (record_of e s) (recorded_after (called_with s c.in_ok-beginning.beginning.kind deed c.planned.new.made) c.planned.new.change s) (g.K.Keeper.records c.args.keeper.now) (g.K.Keeper.records c.perform.new.keeper) planned.recorded done.added;
      refused = refused_for_memory c.perform.result (λ refusal. MayRefuse (step e s) refusal) done.unchanged done.err (λ same. taken_lacks (step e s) t planned.taken);
      unchanged = done.unchanged;
      lacking = if_err_always c.perform.result (λ refusal. refusal ≡ Memory → 1 ≤ g.K.Keeper.places c.args.keeper.now → LacksRoomAhead c.args.self.now)
          (λ refusal is place. call_lacks_nothing c.args.self.now c.requires.front c.requires.inside);
      room = done.room;
    }
