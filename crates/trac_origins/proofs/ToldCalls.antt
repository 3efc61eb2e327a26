-- Origins by lengths, of a call.
use Rattle.std.proofs.Common.{◌≡◌, ℕ, ◌+◌, ◌-◌, ◌<◌, Bool, true, false, List, [], ◌∷◌, ◌++◌, length, drop, get_or, refl, sym, ap, subst, ◌∙◌, arith}
use Rattle.std.specs.Prelude.{Some, Ok}
use Rattle.std.proofs.lemmas.List.{get_or_append_left, get_or-append-add, length-append, length-drop}
use Rattle.trac_rules.specs.declared.item.Item.{Item}
use Rattle.trac_rules.specs.declared.kind.Kind.{Kind}
use Rattle.trac_rules.specs.declared.kind.Kind.TheVariants.{Active, Neutral}
use Rattle.trac_rules.specs.declared.scan.Front.{Front}
use Rattle.trac_rules.specs.declared.scan.Front.TheVariants.{Closing}
use Rattle.trac_rules.specs.Effect.{Effect, argument}
use Rattle.trac_rules.specs.Limits.{texts_fit}
use Rattle.trac_rules.specs.Performing.{after_call, performed}
use Rattle.trac_rules.specs.Scanning.{Call, Scanned, Moves, Calls, closing_in, deleted, front_of, scan, scan_at}
use Rattle.trac_rules.specs.State.{Environment, Frame, State}
use Rattle.trac_rules.specs.Stepping.{carried_out, step}
use Rattle.trac_rules.proofs.Outcomes.{limited_Ok, seen_as-Ok}
use Rattle.trac_origins.specs.Places.{Place, InActive, InBase, InArgument, InForm, InHeld, InOutput, Origin, Carried, Made, arguments_of, found_at}
use Rattle.trac_origins.specs.Lists.{FrameOrigins, Origins, all_kept, frames_kept, kept, origin_at}
use Rattle.trac_origins.specs.Moving.{deleted_from, ended_from, gather_from}
use Rattle.trac_origins.specs.Performing.{EffectOrigins, Performed, after_call_from, changed_from, performed_from, placed_from}
use Rattle.trac_origins.specs.Stepping.{call_from, origin, origins, scanned_from}
use Rattle.trac_origins.specs.Lengths.{is_of_text}
use Rattle.trac_origins.proofs.Accounted.{lists_beside}
use Rattle.trac_origins.proofs.Growing.{gather_told}
use Rattle.trac_origins.proofs.Told.{argument_at, byte_within, kept_told, length-one_each}
use Rattle.trac_origins.proofs.ToldSteps.{active-gather_from, lost_told}
use Rattle.trac_origins.proofs.Zips.{same_length}

-- the function that is ended is the innermost one
pub record HasEnded (f : Frame) (fs : List Frame) (s : State) (call : Call) : Type 0 where
  pub frames : s.frames ≡ f ∷ fs
  pub state : call.state ≡ record s { active = drop 1 s.active; frames = fs }
  pub arguments : call.arguments ≡ arguments_of f

abbrev EndsAt : State → Scanned → Type 0
EndsAt s (Moves t) = Unit {0}
EndsAt s (Calls call) = (f : Frame) × (fs : List Frame) × HasEnded f fs s call

ends_at : (f : Front) (s : State) → EndsAt s (scan_at f s)
ends_at f s = go f
  where
    closing : (fs : List Frame) → s.frames ≡ fs → EndsAt s (closing_in fs (deleted 1 s))
    closing [] is = tt
    closing (g ∷ fs) is = (g, fs, record { frames = is; state = refl; arguments = refl })

    go : (g : Front) → EndsAt s (scan_at g s)
    go Closing = closing s.frames refl
    go other = tt

pub ended : (s : State) (call : Call) → scan s ≡ Calls call → (f : Frame) × (fs : List Frame) × HasEnded f fs s call
unfolding scan
ended s call is = subst (EndsAt s) is (ends_at (front_of s.active) s)

-- ---- its arguments

pub call_arguments : (s : State) (call : Call) (k i : ℕ) → scan s ≡ Calls call → i < length (argument k call.arguments) →
    get_or (get_or (ended_from (frames_kept s.frames) (deleted_from 1 (all_kept s))).arguments k []) i Made ≡ Carried (InArgument (length call.state.frames) k i)
call_arguments s call k i is l =
    let at = ended s call is in
    let f : Frame = at.0 in
    let fs : List Frame = at.1 in
    let within : i < length (argument k (arguments_of f)) = subst (λ (texts : List (List ℕ)). i < length (argument k texts)) at.2.arguments l in
    ap (λ (gs : List Frame). get_or (get_or (ended_from (frames_kept gs) (deleted_from 1 (all_kept s))).arguments k []) i Made) at.2.frames
    ∙ argument_at (length fs) f k i within
    ∙ ap (λ (u : State). Carried (InArgument (length u.frames) k i)) (sym at.2.state)

-- ---- around its value

-- what is left of the active text
abbrev pub left_of : State → List Origin
left_of s = drop 1 (kept InActive s.active)

-- all else without the function
pub others_are : (s : State) (call : Call) → scan s ≡ Calls call → (ended_from (frames_kept s.frames) (deleted_from 1 (all_kept s))).others ≡ record (all_kept call.state) { active = left_of s }
others_are s call is =
    let at = ended s call is in
    ap (λ (gs : List Frame). (ended_from (frames_kept gs) (deleted_from 1 (all_kept s))).others) at.2.frames
    ∙ ap (λ (u : State). record (all_kept u) { active = left_of s }) (sym at.2.state)

-- the origins after a call with an effect
abbrev pub of_call : Environment → State → Call → Effect → Performed
of_call environment s call e = record {
  environment = environment;
  call = call;
  effect = e;
  from = ended_from (frames_kept s.frames) (deleted_from 1 (all_kept s));
}

pub record IsAfter (environment : Environment) (s : State) (call : Call) : Type 0 where
  pub effect : Effect
  pub from : (of_call environment s call effect).from.others ≡ record (all_kept call.state) { active = left_of s }
  pub origins : origins environment s ≡ after_call_from (of_call environment s call effect)

pub is_after : (environment : Environment) (s t : State) (call : Call) → step environment s ≡ Ok t → scan s ≡ Calls call → IsAfter environment s call
unfolding step origins
is_after environment s t call h is =
    let out : carried_out environment (Calls call) ≡ Ok t =
    ap (carried_out environment) (sym is) ∙ (limited_Ok texts_fit (carried_out environment (scan s)) t h).0 in
    let at = seen_as-Ok (after_call call) (performed environment call) t out in
    record {
      effect = at.0;
      from = others_are s call is;
      origins = ap (scanned_from environment s) is ∙ ap (call_from environment s call) at.1;
    }

-- texts that are placed, around which forms, blocks and output are other ones
pub base_aside : (gs : List FrameOrigins) (text : List Origin) (o : Origins) (output : List Origin) (forms : List ℕ → List Origin) (blocks : ℕ → List ℕ → List Origin) (i : ℕ) →
    origin_at (gather_from gs text (record o { output = output; forms = forms; blocks = blocks })) (InBase i) ≡ origin_at (gather_from gs text o) (InBase i)
base_aside [] text o output forms blocks i = refl
base_aside (g ∷ gs) text o output forms blocks i = refl

pub arguments_aside : (gs : List FrameOrigins) (text : List Origin) (o : Origins) (output : List Origin) (forms : List ℕ → List Origin) (blocks : ℕ → List ℕ → List Origin) (n k i : ℕ) →
    origin_at (gather_from gs text (record o { output = output; forms = forms; blocks = blocks })) (InArgument n k i) ≡ origin_at (gather_from gs text o) (InArgument n k i)
arguments_aside [] text o output forms blocks n k i = refl
arguments_aside (g ∷ gs) text o output forms blocks n k i = refl

pub output_aside : (gs : List FrameOrigins) (text : List Origin) (o : Origins) (i : ℕ) → origin_at (gather_from gs text o) (InOutput i) ≡ get_or o.output i Made
output_aside [] text o i = refl
output_aside (g ∷ gs) text o i = refl

module _ (u : State) (rest : List Origin) (f : EffectOrigins) where
  abbrev others : Origins
  others = record (all_kept u) { active = rest }

  output_told : (i : ℕ) (item : Item) → found_at u (InOutput i) ≡ Some item → get_or (kept InOutput u.output ++ f.printed) i Made ≡ Carried (InOutput i)
  output_told i item e =
      get_or_append_left (kept InOutput u.output) f.printed Made i (omega (arith, byte_within i u.output item e, length-one_each (λ j. Carried (InOutput j)) u.output))
      ∙ kept_told u (InOutput i) item e

  placed_told : (kind : Kind) (forced : Bool) (value : List Origin) (place : Place) (item : Item) → is_of_text place ≡ true → found_at u place ≡ Some item →
      origin_at (placed_from kind forced value (changed_from f others)) place ≡ Carried place
  placed_told kind forced value (InActive i) item text e = absurd (cc)
  placed_told kind forced value (InForm name i) item text e = absurd (cc)
  placed_told kind forced value (InHeld number name i) item text e = absurd (cc)
  placed_told Active forced value (InBase i) item text e = kept_told u (InBase i) item e
  placed_told Active forced value (InArgument n k i) item text e = kept_told u (InArgument n k i) item e
  placed_told Active forced value (InOutput i) item text e = output_told i item e
  placed_told Neutral true value (InBase i) item text e = kept_told u (InBase i) item e
  placed_told Neutral true value (InArgument n k i) item text e = kept_told u (InArgument n k i) item e
  placed_told Neutral true value (InOutput i) item text e = output_told i item e
  placed_told Neutral false value (InBase i) item text e =
      base_aside (frames_kept u.frames) value others (kept InOutput u.output ++ f.printed) f.forms f.blocks i ∙ gather_told u rest value (InBase i) item refl e
  placed_told Neutral false value (InArgument n k i) item text e =
      arguments_aside (frames_kept u.frames) value others (kept InOutput u.output ++ f.printed) f.forms f.blocks n k i ∙ gather_told u rest value (InArgument n k i) item refl e
  placed_told Neutral false value (InOutput i) item text e = output_aside (frames_kept u.frames) value (changed_from f others) i ∙ output_told i item e

pub call_stays : (environment : Environment) (s t : State) (call : Call) (place : Place) (item : Item) → step environment s ≡ Ok t → scan s ≡ Calls call → is_of_text place ≡ true →
    found_at call.state place ≡ Some item → origin environment s place ≡ Carried place
call_stays environment s t call place item h is text e =
    let after = is_after environment s t call h is in
    let d : Performed = of_call environment s call after.effect in
    let f : EffectOrigins = performed_from d in
    ap (λ (o : Origins). origin_at o place) after.origins
    ∙ ap (λ (o : Origins). origin_at (placed_from d.call.kind d.effect.forced f.value (changed_from f o)) place) after.from
    ∙ placed_told call.state (left_of s) f d.call.kind d.effect.forced f.value place item text e

-- ---- what is left of the active text

placed_active : (kind : Kind) (forced : Bool) (value : List Origin) (o : Origins) → (before : List Origin) × ((placed_from kind forced value o).active ≡ before ++ o.active)
placed_active Active forced value o = (value, refl)
placed_active Neutral true value o = (value, refl)
placed_active Neutral false value o = ([], active-gather_from o.frames value o)

pub call_rest : (environment : Environment) (s t : State) (call : Call) (i : ℕ) → step environment s ≡ Ok t → scan s ≡ Calls call → i + 1 < length s.active →
    origin environment s (InActive (length t.active - (length s.active - 1) + i)) ≡ Carried (InActive (i + 1))
call_rest environment s t call i h is l =
    let after = is_after environment s t call h is in
    let d : Performed = of_call environment s call after.effect in
    let f : EffectOrigins = performed_from d in
    let placed = placed_active d.call.kind d.effect.forced f.value (changed_from f d.from.others) in
    let split : (origins environment s).active ≡ placed.0 ++ left_of s =
    ap (λ (o : Origins). o.active) after.origins ∙ placed.1 ∙ ap (λ (o : Origins). placed.0 ++ o.active) after.from in
    let counted : length t.active ≡ length placed.0 + (length s.active - 1) =
    sym (same_length (lists_beside environment s t h).active) ∙ ap (λ (os : List Origin). length os) split ∙ length-append placed.0 (left_of s)
    ∙ ap (λ n. length placed.0 + n) (length-drop 1 (kept InActive s.active) ∙ ap (λ n. n - 1) (length-one_each (λ j. Carried (InActive j)) s.active)) in
    let index : length t.active - (length s.active - 1) + i ≡ length placed.0 + i = omega (arith, counted) in
    ap (λ (os : List Origin). get_or os (length t.active - (length s.active - 1) + i) Made) split
    ∙ ap (λ n. get_or (placed.0 ++ left_of s) n Made) index
    ∙ get_or-append-add placed.0 (left_of s) i Made
    ∙ lost_told 1 s.active i (omega (arith, l))
    ∙ ap (λ j. Carried (InActive j)) (omega arith)
