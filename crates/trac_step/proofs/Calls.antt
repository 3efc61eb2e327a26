-- The call that scanning asks for, and the outcome of a step that performs it.
use Rattle.std.proofs.Common.{◌≡◌, ◌∷◌, List, refl, subst, sym, ap, ◌∙◌}
use Rattle.std.specs.Prelude.{Result, Ok, Err}
use Rattle.trac_rules.specs.declared.refusal.Refusal.{Refusal}
use Rattle.trac_rules.specs.declared.scan.Front.TheVariants.{Closing}
use Rattle.trac_rules.specs.Effect.{Effect}
use Rattle.trac_rules.specs.Limits.{texts_fit}
use Rattle.trac_rules.specs.State.{Environment, Frame, State}
use Rattle.trac_rules.specs.Scanning.{Call, Calls, front_of, scan, closing_in, deleted}
use Rattle.trac_rules.specs.Performing.{after_call, performed}
use Rattle.trac_rules.specs.Outcomes.{limited, MayAnswer, MayRefuse}
use Rattle.trac_rules.specs.Stepping.{carried_out, step}
use Rattle.trac_rules.proofs.Outcomes.{limited-seen_as}
use Rattle.trac_text.specs.Frames.{all_arguments}
use Rattle.trac_prims.specs.Plans.{fits_after}
use Rattle.trac_prims.proofs.Planned.{answers_seen}
use Rattle.trac_step.proofs.Scans.{scan_front}

-- the call of this frame, after which these stand
abbrev pub call_of : State → Frame → List Frame → Call
call_of s f fs = record { kind = f.kind; arguments = all_arguments f; state = record (deleted 1 s) { frames = fs } }

pub scan_call : (s : State) (f : Frame) (fs : List Frame) → front_of s.active ≡ Closing → s.frames ≡ f ∷ fs → scan s ≡ Calls (call_of s f fs)
scan_call s f fs front is = scan_front s Closing front ∙ ap (λ (xs : List Frame). closing_in xs (deleted 1 s)) is

module _ (environment : Environment) (s : State) (f : Frame) (fs : List Frame) (front : front_of s.active ≡ Closing) (is : s.frames ≡ f ∷ fs) where
  -- what is to be planned
  abbrev pub wanted : Result Effect Refusal
  wanted = limited (fits_after (call_of s f fs)) (performed environment (call_of s f fs))

  -- what may be answered for the call may be answered for the step
  answers_step : {C : Type 0} (of_code : C → Effect) (result : Result C Refusal) → MayAnswer of_code wanted result →
      MayAnswer (λ made. after_call (call_of s f fs) (of_code made)) (step environment s) result
  unfolding step
  answers_step of_code result h =
      let call = call_of s f fs in
      subst (λ o. MayAnswer (λ made. after_call call (of_code made)) o result)
      (sym (ap (λ x. limited texts_fit (carried_out environment x)) (scan_call s f fs front is)
      ∙ limited-seen_as (fits_after call) texts_fit (after_call call) (λ e. refl) (performed environment call)))
      (answers_seen (after_call call) of_code wanted result h)

  -- the state after the step is the one after the planned call
  pub step_planned : (e : Effect) → wanted ≡ Ok e → step environment s ≡ Ok (after_call (call_of s f fs) e)
  step_planned e h = answers_step (λ x. x) (Ok e) h

  -- and where no call is planned, the step is refused for that
  pub step_unplanned : (refusal : Refusal) → MayRefuse wanted refusal → MayRefuse (step environment s) refusal
  step_unplanned refusal h = answers_step {C = Effect} (λ x. x) (Err refusal) h
