-- The outcome of a call, from what its primitive made and from the lengths of the pieces.
use Rattle.std.proofs.Common.{◌≡◌, ℕ, ◌++◌, List, [], length, refl, sym, ap, ◌∙◌, subst, arith, true, false, ⊎_elim}
use Rattle.std.specs.Prelude.{Result, Ok, Err, nat_le}
use Rattle.std.proofs.lemmas.Bool.{and_from, cases_Bool, false_from_ne_true, le-leb, true≢false}
use Rattle.std.proofs.lemmas.List.{length-append}
use Rattle.trac_forms.specs.Stored.{Stored}
use Rattle.trac_rules.specs.declared.kind.Kind.{Kind}
use Rattle.trac_rules.specs.declared.limit.TheConstants.{OUTPUT_LIMIT, TEXT_LIMIT}
use Rattle.trac_rules.specs.declared.primitive.Primitive.{Primitive}
use Rattle.trac_rules.specs.declared.refusal.Refusal.{Refusal}
use Rattle.trac_rules.specs.declared.refusal.Refusal.TheVariants.{Memory, TooLong}
use Rattle.trac_rules.specs.Effect.{Effect, argument}
use Rattle.trac_rules.specs.Outcomes.{MayAnswer, MayLackMemory, MayRefuse, limited, seen_as}
use Rattle.trac_rules.specs.Performing.{effect_of, performed, primitive_of, printed_after, trace_line}
use Rattle.trac_rules.specs.Scanning.{Call}
use Rattle.trac_rules.specs.State.{Environment, storage_of}
use Rattle.trac_rules.proofs.Outcomes.{lacks_limited, limited_Err, limited_beyond, limited_within}
use Rattle.trac_change.specs.declared.change.UnnamedChange.{UnnamedChange}
use Rattle.trac_prims.specs.declared.effect.Deed.{Deed}
use Rattle.trac_prims.specs.declared.effect.Made.{Made}
use Rattle.trac_prims.specs.declared.effect.Now.{Now}
use Rattle.trac_prims.specs.Effects.{MayFail, added_to, done_on, pieces_fit}
use Rattle.trac_prims.specs.Plans.{HasPlace, IsGiven, fits_after}
use Rattle.trac_prims.proofs.Fitting.{FitsAfter, fits_by, fits_then}

-- ---- what is refused

-- an effect that is there is refused for a limit alone
for_a_limit : (e : Effect) (refusal : Refusal) → limited pieces_fit (Ok e) ≡ Err refusal → refusal ≡ TooLong
for_a_limit e refusal h =
    ⊎_elim (λ (long : refusal ≡ TooLong). long) (λ (said : Ok e ≡ Err refusal). absurd (cc)) (limited_Err pieces_fit (Ok e) refusal h)

module _ (call : Call) (line : List ℕ) where
  -- what no state can hold does not fit
  unfit : (e : Effect) → pieces_fit e ≡ false → fits_after call (printed_after line e) ≡ false
  unfit e long = false_from_ne_true (fits_after call (printed_after line e)) (λ fits.
      let kept = fits_then call (printed_after line e) fits in
      let short : pieces_fit e ≡ true =
      and_from (nat_le (length e.value) TEXT_LIMIT) (nat_le (length e.printed) OUTPUT_LIMIT)
      (le-leb (length e.value) TEXT_LIMIT (omega (arith, kept.text)))
      (le-leb (length e.printed) OUTPUT_LIMIT (omega (arith, kept.output, length-append line e.printed))) in
      true≢false (sym short ∙ long))

  -- why an effect was not made is why the call is refused
  not_made : (outcome : Result Effect Refusal) (refusal : Refusal) → MayFail outcome refusal →
      MayRefuse (limited (fits_after call) (seen_as (printed_after line) outcome)) refusal
  not_made (Err why) refusal h = h
  not_made (Ok e) Memory h = lacks_limited (fits_after call) (printed_after line e)
  not_made (Ok e) TooLong h =
      ⊎_elim
      (λ (short : pieces_fit e ≡ true). absurd (let kept : limited pieces_fit (Ok e) ≡ Ok e = limited_within pieces_fit e short in cc))
      (λ (long : pieces_fit e ≡ false). limited_beyond (fits_after call) (printed_after line e) (unfit e long))
      (cases_Bool (pieces_fit e))
  not_made (Ok e) refusal h = absurd (let long : refusal ≡ TooLong = for_a_limit e refusal h in cc)

-- ---- outcomes seen in another way

lacks_seen : {T U : Type 0} (view : T → U) (outcome : Result T Refusal) → MayLackMemory outcome → MayLackMemory (seen_as view outcome)
lacks_seen view (Ok x) h = tt
lacks_seen view (Err refusal) h = h

pub refuses_seen : {T U : Type 0} (view : T → U) (outcome : Result T Refusal) (refusal : Refusal) → MayRefuse outcome refusal → MayRefuse (seen_as view outcome) refusal
refuses_seen view said Memory h = lacks_seen view said h
refuses_seen view said refusal h = ap (seen_as view) h

-- ---- the call that is planned

-- texts that were made before are the line of the trace alone
behind_line : {A : Type 0} (texts : Made A) (line : List ℕ) → texts.value.items ≡ [] → texts.print.items ≡ line → (outcome : Result Effect Refusal) →
    seen_as (printed_after line) outcome ≡ seen_as (added_to texts) outcome
behind_line texts line none is (Ok e) =
    let v = sym none in
    let p = sym is in
    ap Ok (λ i. record e { value = v i ++ e.value; printed = p i ++ e.printed })
behind_line texts line none is (Err refusal) = refl

module _ (environment : Environment) (call : Call) (kind : Kind) (arguments : List (List ℕ)) (stored : Stored) (now : Now) (given : IsGiven call kind arguments stored now)
    (primitive : Primitive) (named : primitive ≡ primitive_of (argument 0 arguments)) where
  abbrev outcome : Result Effect Refusal
  outcome = effect_of primitive environment arguments call.state

  abbrev line : List ℕ
  line = trace_line now.trace kind arguments

  performed_is : performed environment call ≡ seen_as (printed_after line) outcome
  unfolding performed
  performed_is =
      ap (λ (texts : List (List ℕ)). seen_as (printed_after (trace_line call.state.trace call.kind texts)) (effect_of (primitive_of (argument 0 texts)) environment texts call.state)) given.arguments_are
      ∙ ap (λ (k : Kind). seen_as (printed_after (trace_line call.state.trace k arguments)) (effect_of (primitive_of (argument 0 arguments)) environment arguments call.state)) given.kind_is
      ∙ ap (λ b. seen_as (printed_after (trace_line b kind arguments)) (effect_of (primitive_of (argument 0 arguments)) environment arguments call.state)) given.state_is.trace_is
      ∙ ap (λ (p : Primitive). seen_as (printed_after line) (effect_of p environment arguments call.state)) (sym named)

  -- what is to be planned
  abbrev wanted : Result Effect Refusal
  wanted = limited (fits_after call) (performed environment call)

  -- nothing was done
  pub unplanned : (refusal : Refusal) → MayFail outcome refusal → MayRefuse wanted refusal
  unplanned refusal h = subst (λ o. MayRefuse (limited (fits_after call) o) refusal) (sym performed_is) (not_made call line outcome refusal h)

  -- the primitive was performed, its texts after the line of the trace
  module _ {A : Type 0} (texts made : Made A) (change : UnnamedChange A) (deed : Deed) (is : seen_as (added_to texts) outcome ≡ Ok (done_on arguments (storage_of call.state) made change deed)) where
    -- but memory for the line was refused
    pub lacks : MayLackMemory wanted
    lacks = subst (λ o. MayLackMemory (limited (fits_after call) o)) (sym performed_is) (either outcome is)
      where
        either : (o : Result Effect Refusal) → seen_as (added_to texts) o ≡ Ok (done_on arguments (storage_of call.state) made change deed) →
            MayLackMemory (limited (fits_after call) (seen_as (printed_after line) o))
        either (Ok e) h = lacks_limited (fits_after call) (printed_after line e)
        either (Err refusal) h = absurd (cc)

    module _ (none : texts.value.items ≡ []) (lined : texts.print.items ≡ line) where
      abbrev effect : Effect
      effect = done_on arguments (storage_of call.state) made change deed

      performs : performed environment call ≡ Ok effect
      performs = performed_is ∙ behind_line texts line none lined outcome ∙ is

      place_then : FitsAfter call effect → HasPlace now made.value.items made.print.items
      place_then fits = record {
        text = omega (arith, fits.text, given.state_is.text_is);
        output = omega (arith, fits.output, given.state_is.output_is);
      }

      pub beyond : (HasPlace now made.value.items made.print.items → ⊥) → wanted ≡ Err TooLong
      beyond no_place =
          ap (limited (fits_after call)) performs
          ∙ limited_beyond (fits_after call) effect (false_from_ne_true (fits_after call effect) (λ fits. no_place (place_then (fits_then call effect fits))))

      pub within : HasPlace now made.value.items made.print.items → wanted ≡ Ok effect
      within place =
          ap (limited (fits_after call)) performs
          ∙ limited_within (fits_after call) effect
          (fits_by call effect (record {
            text = omega (arith, place.text, given.state_is.text_is);
            marked = given.state_is.marks_fit;
            output = omega (arith, place.output, given.state_is.output_is);
          }))

-- ---- the step that performs the call

-- what may be answered for an outcome may be answered where it is seen in another way
pub answers_seen : {T U C : Type 0} (view : T → U) (of_code : C → T) (outcome : Result T Refusal) (result : Result C Refusal) →
    MayAnswer of_code outcome result → MayAnswer (λ made. view (of_code made)) (seen_as view outcome) result
answers_seen view of_code said (Ok made) h = ap (seen_as view) h
answers_seen view of_code said (Err refusal) h = refuses_seen view said refusal h
