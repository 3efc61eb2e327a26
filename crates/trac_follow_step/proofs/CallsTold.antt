-- A call, and what stands after it, as the code tells it.
use Rattle.std.proofs.Common.{◌≡◌, ℕ, suc, ◌+◌, ◌-◌, ◌^◌, ◌<◌, ◌≤◌, Bool, true, false, List, ◌++◌, length, drop, refl, sym, ap, subst, ◌∙◌, inl, inr, ⊎_elim, arith, ◌⊎◌, None, Some, Ok, length-append, length-drop}
use Rattle.trac_rules.specs.declared.item.Item.{Item}
use Rattle.trac_rules.specs.declared.kind.Kind.{Kind}
use Rattle.trac_rules.specs.declared.kind.Kind.TheVariants.{Neutral}
use Rattle.trac_rules.specs.declared.primitive.Primitive.{Primitive}
use Rattle.trac_rules.specs.declared.width.Width.{Width}
use Rattle.trac_rules.specs.Effect.{Effect, argument}
use Rattle.trac_rules.specs.Goals.{IsCall, call_asked, next_call}
use Rattle.trac_rules.specs.Limits.{texts_fit}
use Rattle.trac_rules.specs.Performing.{after_call, changed_by, performed, placed, primitive_of}
use Rattle.trac_rules.specs.Scanning.{Call, Scanned, Moves, Calls, scan}
use Rattle.trac_rules.specs.State.{Environment, Frame, State}
use Rattle.trac_rules.specs.Stepping.{carried_out, step}
use Rattle.trac_rules.proofs.Outcomes.{limited_Ok, seen_as-Ok}
use Rattle.trac_rules.proofs.Scans.{gathered_in_shows}
use Rattle.trac_origins.specs.Lengths.{IsCallOf, current_text, in_current, is_of_text, value_at}
use Rattle.trac_origins.specs.Places.{Place, InActive, InBase, InArgument, InOutput, Carried, byte_at, found_at}
use Rattle.trac_origins.specs.Stepping.{origin}
use Rattle.trac_origins.proofs.Moved.{current_aside}
use Rattle.trac_origins.proofs.ToldCalls.{call_rest, call_stays, ended}
use Rattle.trac_rules.proofs.MovedOn.{active-gathered}
use Rattle.trac_origins.proofs.ToldSteps.{length-current, within_current, within_gathered}
use Rattle.trac_follow_step.specs.declared.place.Origin as code_origin
use Rattle.trac_follow_step.specs.Places.{IsBare, IsCalling, IsOutside, Tells, TellsValue, is_in_text}
use Rattle.trac_follow_step.proofs.Found.{byte_there}
use Rattle.trac_follow_step.proofs.Renewed.{IsNew, around_it, called_first, called_new, current_alike, look_around}

-- the call that a reader gives
pub given_call : (s : State) (kind : Kind) (arguments : List (List ℕ)) → IsCall (next_call s) kind arguments → IsCalling s arguments
given_call s kind arguments is = go (scan s) refl is
  where
    go : (x : Scanned) → scan s ≡ x → IsCall (call_asked x) kind arguments → IsCalling s arguments
    go (Moves t) e h = absurd h
    go (Calls call) e h = (call, e, h.1)

-- a step moves on, or performs a call
pub step_scans : (environment : Environment) (s t : State) → step environment s ≡ Ok t → (scan s ≡ Moves t) ⊎ ((call : Call) × (scan s ≡ Calls call))
unfolding step
step_scans environment s t h = go (scan s) refl (limited_Ok texts_fit (carried_out environment (scan s)) t h).0
  where
    go : (x : Scanned) → scan s ≡ x → carried_out environment x ≡ Ok t → (scan s ≡ Moves t) ⊎ ((call : Call) × (scan s ≡ Calls call))
    go (Moves u) is out = let same : u ≡ t = cc in inl (is ∙ ap Moves same)
    go (Calls call) is out = inr (call, is)

-- it performs none
pub moves_done : (environment : Environment) (s t : State) → next_call s ≡ None → step environment s ≡ Ok t → scan s ≡ Moves t
moves_done environment s t none h =
    ⊎_elim
    (λ (moves : scan s ≡ Moves t). moves)
    (λ (calls : (call : Call) × (scan s ≡ Calls call)). absurd (let some : call_asked (Calls calls.0) ≡ None = sym (ap call_asked calls.1) ∙ none in cc))
    (step_scans environment s t h)

-- it performs this one
pub call_does : (environment : Environment) (s t : State) (call : Call) → step environment s ≡ Ok t → scan s ≡ Calls call → (primitive : Primitive) → primitive_of (argument 0 call.arguments) ≡ primitive →
    (e : Effect) × IsCallOf environment s call primitive e × (t ≡ after_call call e)
unfolding step
call_does environment s t call h scans primitive named =
    let out : carried_out environment (Calls call) ≡ Ok t = ap (carried_out environment) (sym scans) ∙ (limited_Ok texts_fit (carried_out environment (scan s)) t h).0 in
    let at = seen_as-Ok (after_call call) (performed environment call) t out in
    (at.0, record { scans = scans; named = named; does = at.1 }, at.2)

-- the call of a reader is the one that is performed
pub call_is : (environment : Environment) (s : State) (call : Call) (e : Effect) (arguments : List (List ℕ)) (primitive : Primitive) → IsCalling s arguments → primitive_of (argument 0 arguments) ≡ primitive →
    scan s ≡ Calls call → performed environment call ≡ Ok e → (call.arguments ≡ arguments) × IsCallOf environment s call primitive e
call_is environment s call e arguments primitive is named scans does =
    let both : Calls is.0 ≡ Calls call = sym is.1 ∙ scans in
    let one : is.0 ≡ call = cc in
    let same : call.arguments ≡ arguments = ap (λ (c : Call). c.arguments) (sym one) ∙ is.2 in
    (same, record { scans = scans; named = ap (λ (texts : List (List ℕ)). primitive_of (argument 0 texts)) same ∙ named; does = does })

module _ (s : State) (call : Call) (is : scan s ≡ Calls call) where
  -- ---- the state without the function

  pub functions_left : length s.frames ≡ suc (length call.state.frames)
  functions_left = ap (λ (fs : List Frame). length fs) (called_first s call is).1

  pub number_is : (function : ℕ) → function + 1 ≡ length s.frames → length call.state.frames ≡ function
  number_is function e = omega (arith, functions_left, e)

  pub active_left : length call.state.active ≡ length s.active - 1
  active_left = let at = ended s call is in ap (λ (u : State). length u.active) at.2.state ∙ length-drop 1 s.active

  pub base_is : call.state.base ≡ s.base
  base_is = ap (λ (u : State). u.base) (ended s call is).2.state

  pub output_is : call.state.output ≡ s.output
  output_is = ap (λ (u : State). u.output) (ended s call is).2.state

  -- what is past it
  pub output_past : (i : ℕ) → length s.output ≤ i → i ≡ length call.state.output + (i - length s.output)
  output_past i past = omega (arith, past, ap (λ (text : List ℕ). length text) output_is)

  pub blocks_are : call.state.blocks ≡ s.blocks
  blocks_are = ap (λ (u : State). u.blocks) (ended s call is).2.state

  pub position_is : call.state.position ≡ s.position
  position_is = ap (λ (u : State). u.position) (ended s call is).2.state

  -- what stands in it
  pub found_without : (place : Place) (x : Item) → is_of_text place ≡ true → found_at s place ≡ Some x → IsOutside (length call.state.frames) place → found_at call.state place ≡ Some x
  found_without (InBase i) x text e outside = ap (λ (bytes : List ℕ). byte_at i bytes) base_is ∙ e
  found_without (InOutput i) x text e outside = ap (λ (bytes : List ℕ). byte_at i bytes) output_is ∙ e
  found_without (InArgument n k i) x text e outside = sym (look_around s call is n k i outside) ∙ e
  found_without place x text e outside = absurd (cc)

  -- a place past the current text
  past_is : (function n : ℕ) → function + 1 ≡ length s.frames →
      in_current (drop (length s.frames - function) s.frames) (length (current_text (drop (length s.frames - function) s.frames) s) + n)
      ≡ in_current call.state.frames (length (current_text call.state.frames call.state) + n)
  past_is function n number =
      let one : length s.frames - function ≡ 1 = omega (arith, number) in
      ap (λ k. in_current (drop k s.frames) (length (current_text (drop k s.frames) s) + n)) one
      ∙ ap (λ (gs : List Frame). in_current (drop 1 gs) (length (current_text (drop 1 gs) s) + n)) (called_first s call is).1
      ∙ ap (λ (text : List ℕ). in_current call.state.frames (length text + n)) (sym (current_alike call.state.frames call.state s base_is))

-- ---- where a value stands

pub output-placed : (kind : Kind) (forced : Bool) (value : List ℕ) (u : State) → (placed kind forced value u).output ≡ u.output
output-placed Neutral false value u = gathered_in_shows (λ (v : State). v.output) (λ v active base frames. refl) u.frames value u
output-placed kind forced value u = refl

-- and how long the output is
pub output_then : (s t : State) (call : Call) (e : Effect) → scan s ≡ Calls call → t ≡ after_call call e → length t.output ≡ length s.output + length e.printed
output_then s t call e is after =
    omega (
      arith,
      ap (λ (u : State). length u.output) after,
      ap (λ (text : List ℕ). length text) (output-placed call.kind e.forced e.value (changed_by e call.state)),
      length-append call.state.output e.printed,
      ap (λ (text : List ℕ). length text) (output_is s call is),
    )

-- before what is left of the active text
value_before : (kind : Kind) (forced : Bool) (value : List ℕ) (u v : State) (i : ℕ) → i < length (placed kind forced value u).active - length u.active →
    (InActive i ≡ value_at kind forced v i) × (i < length value) × (length (placed kind forced value u).active ≡ length value + length u.active)
value_before Neutral false value u v i l = absurd (omega (arith, l, ap (λ (text : List ℕ). length text) (active-gathered u.frames value u)))
value_before kind forced value u v i l = (refl, omega (arith, l, length-append value u.active), length-append value u.active)

-- after the current text
value_after : (kind : Kind) (forced : Bool) (value : List ℕ) (e : Effect) (v : State) (n : ℕ) (item : Item) →
    found_at (placed kind forced value (changed_by e v)) (in_current v.frames (length (current_text v.frames v) + n)) ≡ Some item →
    (in_current v.frames (length (current_text v.frames v) + n) ≡ value_at kind forced v n) × (n < length value) × (forced ≡ false)
value_after Neutral false value e v n item stands =
    let u : State = changed_by e v in
    let within = within_gathered u.frames value u (length (current_text v.frames v) + n) item refl stands in
    (refl, omega (arith, within, length-current u.frames value u refl, ap (λ (text : List ℕ). length text) (current_alike v.frames u v refl)), refl)
value_after kind forced value e v n item stands =
    let u : State = changed_by e v in
    let w : State = record u { active = value ++ u.active } in
    let within = within_current v.frames w (length (current_text v.frames v) + n) item refl stands in
    absurd (omega (arith, within, ap (λ (text : List ℕ). length text) (current_aside v.frames (value ++ u.active) u ∙ current_alike v.frames u v refl)))

-- ---- what is told of it

module _ (environment : Environment) (s t : State) (call : Call) (item : Item) (h : step environment s ≡ Ok t) (is : scan s ≡ Calls call) (width : Width) (wide : environment.width ≡ width) where
  pub tells_active : (told : code_origin.Origin) (i len : ℕ) → TellsValue s width (Some len) i told → t.position < 2 ^ 64 → len ≡ length t.active - (length s.active - 1) → i < len →
      found_at t (InActive i) ≡ Some item → Tells s told (origin environment s (InActive i))
  tells_active told i len tells readable long l stands =
      let done = call_does environment s t call h is (primitive_of (argument 0 call.arguments)) refl in
      let e : Effect = done.0 in
      let at = value_before call.kind e.forced e.value (changed_by e call.state) call.state i
      (omega (arith, l, long, ap (λ (u : State). length u.active) done.2, active_left s call is)) in
      subst (λ p. Tells s told (origin environment s p)) (sym at.0)
      (tells environment t call e item wide h readable is done.1.does
      (omega (arith, l, long, at.2, ap (λ (u : State). length u.active) done.2, active_left s call is))
      (subst (λ p. found_at t p ≡ Some item) at.0 stands) at.1)

  pub tells_current : (told : code_origin.Origin) (place : Place) (n : ℕ) → TellsValue s width None n told → t.position < 2 ^ 64 →
      place ≡ in_current call.state.frames (length (current_text call.state.frames call.state) + n) → found_at t place ≡ Some item → Tells s told (origin environment s place)
  tells_current told place n tells readable here stands =
      let done = call_does environment s t call h is (primitive_of (argument 0 call.arguments)) refl in
      let e : Effect = done.0 in
      let p = in_current call.state.frames (length (current_text call.state.frames call.state) + n) in
      let at = value_after call.kind e.forced e.value e call.state n item
      (subst (λ (u : State). found_at u p ≡ Some item) done.2 (subst (λ q. found_at t q ≡ Some item) here stands)) in
      subst (λ q. Tells s told (origin environment s q)) (sym (here ∙ at.0))
      (tells environment t call e item wide h readable is done.1.does at.2 (subst (λ q. found_at t q ≡ Some item) (here ∙ at.0) stands) at.1)

  -- what was left is left then
  pub active_kept : length s.active - 1 ≤ length t.active
  active_kept =
      let done = call_does environment s t call h is (primitive_of (argument 0 call.arguments)) refl in
      let e : Effect = done.0 in
      omega (arith, ap (λ (u : State). length u.active) done.2, active_left s call is, go call.kind e.forced e.value (changed_by e call.state))
    where
      go : (kind : Kind) (forced : Bool) (value : List ℕ) (u : State) → length u.active ≤ length (placed kind forced value u).active
      go Neutral false value u = omega (arith, ap (λ (text : List ℕ). length text) (active-gathered u.frames value u))
      go kind forced value u = omega (arith, length-append value u.active)

  -- a place in a text at which nothing stood around the function is past the current text
  pub text_new : (place : Place) (function : ℕ) → function + 1 ≡ length s.frames → is_in_text place ≡ true → (IsOutside function place → IsBare s place) → found_at t place ≡ Some item →
      IsNew call.state.frames call.state place
  text_new place function number text bare stands =
      let done = call_does environment s t call h is (primitive_of (argument 0 call.arguments)) refl in
      ⊎_elim
      (λ (old : found_at call.state place ≡ Some item).
      let around = around_it s call place item is text old in
      absurd (bare (subst (λ n. IsOutside n place) (number_is s call is function number) around.1) item around.0))
      (λ (new : IsNew call.state.frames call.state place). new)
      (called_new call done.0 place item text (subst (λ (u : State). found_at u place ≡ Some item) done.2 stands))

  -- as far as the code finds it
  pub text_past : (place : Place) (function n : ℕ) → function + 1 ≡ length s.frames → IsNew call.state.frames call.state place →
      ((m : ℕ) → place ≡ in_current (drop (length s.frames - function) s.frames) (length (current_text (drop (length s.frames - function) s.frames) s) + m) → n ≡ m) →
      place ≡ in_current call.state.frames (length (current_text call.state.frames call.state) + n)
  text_past place function n number new far =
      new.at
      ∙ ap (λ m. in_current call.state.frames (length (current_text call.state.frames call.state) + m)) (sym (far new.number (new.at ∙ sym (past_is s call is function new.number number))))

  -- ---- around it

  pub rest_carried : (i value : ℕ) → value ≡ length t.active - (length s.active - 1) → length s.active - 1 ≤ length t.active → value ≤ i → i - value < length s.active - 1 →
      origin environment s (InActive i) ≡ Carried (InActive (i - value + 1))
  rest_carried i value same enough past within =
      let index : i ≡ length t.active - (length s.active - 1) + (i - value) = omega (arith, same, past) in
      ap (λ n. origin environment s (InActive n)) index ∙ call_rest environment s t call (i - value) h is (omega (arith, within))

  pub text_carried : (place : Place) (x : Item) → is_of_text place ≡ true → found_at s place ≡ Some x → IsOutside (length call.state.frames) place → origin environment s place ≡ Carried place
  text_carried place x text stands outside = call_stays environment s t call place x h is text (found_without s call is place x text stands outside)

  pub output_carried : (i : ℕ) → i < length s.output → origin environment s (InOutput i) ≡ Carried (InOutput i)
  output_carried i l = let byte = byte_there i s.output l in text_carried (InOutput i) byte.0 refl byte.1 tt
