use Rattle.std.proofs.Common.{List, ℕ, ◌+◌, ◌-◌, length, refl, sym, ap, arith}
use Rattle.std.proofs.lemmas.Result.{err_from_is_err_and}
use Rattle.trac_rules.specs.Scanning.{scan}
use Rattle.trac_rules.specs.State.{Frame, State}
use Rattle.trac_rules.proofs.ProperStates.{step_proper}
use Rattle.trac_prims.specs.Tape.{environment_of}
use Rattle.trac_text.specs.Neutral.{Neutral}
use Rattle.trac_step.specs.Calling.{state_after}
use Rattle.trac_prims.specs.declared.effect.Now.{Now}
use Rattle.trac_step.specs.Layout.{Shown}
use Rattle.trac_step.proofs.Beginnings.{begins_innermost}
use Rattle.trac_step.proofs.Calls.{call_of, step_unplanned}
use Rattle.trac_step.proofs.CallsPlanned.{pieces_given, planned_recorded, planned_taken}
use Rattle.trac_step.proofs.Finishing.{read_there}
use Rattle.trac_step.proofs.Planned.{outer, count_within, frames_of, given_here, text_within}
use Rattle.trac_step.proofs.engine.Core.planned.Goals as goal

pub plan_into-requires-clause-count : goal.plan_into-requires-clause-count
plan_into-requires-clause-count g c =
    let s = c.args.self.now.state in
    let proper = c.requires.proper in
    let read = read_there c.self.view_is c.neutral.result c.neutral.ensures in
    let f = c.in-Some.function in
    count_within s c.neutral.result f.number f.place f.kind f.arguments proper read c.in-Some.ensures

pub plan_into-requires-clause-text : goal.plan_into-requires-clause-text
plan_into-requires-clause-text g c =
    let s = c.args.self.now.state in
    let state_is = ap (λ (m : Shown). m.state) c.self.view_is in
    let proper = c.requires.proper in
    let read = read_there c.self.view_is c.neutral.result c.neutral.ensures in
    let f = c.in-Some.function in
    omega (
      arith,
      text_within s c.neutral.result f.number f.place f.kind f.arguments proper read c.in-Some.ensures,
      ap (λ (xs : List ℕ). length xs) c.active.ensures,
      ap (λ (t : State). length t.active) state_is,
    )

pub unreachable-requires : goal.unreachable-requires
unreachable-requires g c =
    let read = read_there c.self.view_is c.neutral.result c.neutral.ensures in
    absurd (omega (arith, c.requires.inside, ap (λ (n : Neutral). length n.frames) read, ap (λ (fs : List Frame). length fs) c.in_default.ensures))

pub returns-in_err-deed-clause-refused : goal.returns-in_err-deed-clause-refused
returns-in_err-deed-clause-refused g c =
    let s = c.args.self.now.state in
    let state_is = ap (λ (m : Shown). m.state) c.self.view_is in
    let proper = c.requires.proper in
    let read = read_there c.self.view_is c.neutral.result c.neutral.ensures in
    let f = c.in-Some.function in
    let inner = c.in-Some.ensures in
    let rest = outer s c.neutral.result f.number f.place f.kind f.arguments proper read inner in
    let given = given_here s c.neutral.result f.number f.place f.kind f.arguments proper read inner c.self.view_is refl c.len.result c.active.result.now c.len.ensures.len c.active.ensures in
    let err = err_from_is_err_and c.from_residual.result c.from_residual.ensures.1 in
    rw (err.1, err.2, ap (λ (m : Shown). m.width) (sym c.self.view_is))
    (step_unplanned (environment_of c.self.inside.width c.args.tape) s inner.frame rest c.requires.front (frames_of s c.neutral.result f.number f.place f.kind f.arguments proper read inner) _ (c.in_err-deed.ensures.outcome (call_of s inner.frame rest) given))

pub returns-clause-planned : goal.returns-clause-planned
returns-clause-planned g c =
    let s = c.args.self.now.state in
    let state_is = ap (λ (m : Shown). m.state) c.self.view_is in
    let width_is = ap (λ (m : Shown). m.width) (sym c.self.view_is) in
    let proper = c.requires.proper in
    let read = read_there c.self.view_is c.neutral.result c.neutral.ensures in
    let f = c.in-Some.function in
    let inner = c.in-Some.ensures in
    let frames = frames_of s c.neutral.result f.number f.place f.kind f.arguments proper read inner in
    let rest = outer s c.neutral.result f.number f.place f.kind f.arguments proper read inner in
    let i = c.self.inside in
    let now : Now = record { meta = i.meta; trace = i.trace; position = i.position; output = c.len.result; text = length c.active.result.now - 1 + f.place; width = i.width } in
    let given = given_here s c.neutral.result f.number f.place f.kind f.arguments proper read inner c.self.view_is refl c.len.result c.active.result.now c.len.ensures.len c.active.ensures in
    let e = environment_of c.self.inside.width c.args.tape in
    let made = c.plan_into.new.made in
    let change = c.plan_into.new.change in
    let deed = c.in_ok-deed.deed in
    let planned = c.in_ok-deed.ensures.outcome (call_of s inner.frame rest) given in
    let of_call = c.in_ok-deed.ensures.change in
    let taken = planned_taken e s inner.frame rest c.requires.front frames f.kind f.arguments c.self.inside.store now given made change deed planned of_call in
    rw width_is (record {
      ready = record {
        front = c.requires.front;
        begins = begins_innermost s c.neutral.result f.number f.place f.kind f.arguments read inner;
        position = omega (arith, c.in_ok-deed.ensures.within, ap (λ (t : State). t.position) state_is);
        pieces = pieces_given e s inner.frame rest c.requires.front frames f.kind f.arguments c.self.inside.store now given made change deed planned of_call;
        proper = step_proper e s (state_after deed made change (scan s)) proper taken;
      };
      taken = taken;
      recorded = planned_recorded e s inner.frame rest c.requires.front frames f.kind f.arguments c.self.inside.store now given made change deed planned of_call;
    })
