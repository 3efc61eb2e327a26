-- Origins of what a call makes: where its value and what it prints stand after it, and the lists of origins that are read there.
use Rattle.std.proofs.Common.{◌≡◌, ℕ, ◌+◌, ◌<◌, Bool, true, false, List, [], ◌∷◌, ◌++◌, length, get_or, refl, sym, ap, subst, ◌∙◌, arith}
use Rattle.std.specs.Prelude.{Option, None, Some}
use Rattle.std.specs.FinMap as finite
use Rattle.std.proofs.lemmas.List.{append-nil, get_or_append_left, get_or-append-add, length-append}
use Rattle.trac_rules.specs.declared.item.Item.{Item}
use Rattle.trac_rules.specs.declared.kind.Kind.{Kind}
use Rattle.trac_rules.specs.declared.kind.Kind.TheVariants.{Active, Neutral}
use Rattle.trac_rules.specs.declared.primitive.BlockAction.TheVariants.{FetchBlock}
use Rattle.trac_rules.specs.declared.primitive.FormAction.{FormAction}
use Rattle.trac_rules.specs.declared.primitive.FormAction.TheVariants as action
use Rattle.trac_rules.specs.declared.primitive.Primitive.{Primitive}
use Rattle.trac_rules.specs.declared.primitive.Primitive.TheVariants.{PrintString, Handle, HandleBlock}
use Rattle.trac_rules.specs.Blocks.{block_at, named_block_number}
use Rattle.trac_rules.specs.Effect.{Effect, argument}
use Rattle.trac_rules.specs.Form.{Form, all_items}
use Rattle.trac_rules.specs.Handling.{named_form}
use Rattle.trac_rules.specs.Performing.{after_call, primitive_of, trace_line}
use Rattle.trac_rules.specs.Scanning.{Call, front_of}
use Rattle.trac_rules.specs.State.{Environment, Frame, State, storage_of}
use Rattle.trac_origins.specs.Places.{InForm, InHeld, InOutput, Origin, Carried, Made, held_form, items_of}
use Rattle.trac_origins.specs.Lists.{FrameOrigins, Origins, all_kept, all_made, frames_kept, kept, origin_at}
use Rattle.trac_origins.specs.Moving.{gather_from}
use Rattle.trac_origins.specs.Performing.{EffectOrigins, Performed, after_call_from, argument_from, called_from, changed_from, effect_from, fetched_from, gives_from, handled_from, items_from, leaves_from, on_block_from, on_form_from, performed_from, placed_from, prints_from, puts_from, reading_from, segmented_from, shown_from}
use Rattle.trac_origins.specs.Stepping.{call_from, origin, origins, scanned_from}
use Rattle.trac_origins.specs.Lengths.{IsCallOf, current_text, in_current, is_silent, of_argument, of_form, printed_at, value_at}
use Rattle.trac_origins.proofs.Zips.{ends, related_or, same_length}
use Rattle.trac_origins.proofs.Besides.{EndedBeside, ScanBeside}
use Rattle.trac_origins.proofs.CallsBeside.{EffectBeside}
use Rattle.trac_origins.proofs.StepsBeside.{MaySay, scanned, whole}
use Rattle.trac_origins.proofs.Growing.{gathered_told}
use Rattle.trac_origins.proofs.Told.{length-one_each, one_each-at}
use Rattle.trac_origins.proofs.ToldCalls.{arguments_aside, base_aside, call_arguments, left_of, of_call, others_are, output_aside}
use Rattle.trac_origins.proofs.ToldSteps.{always_made}
use Rattle.trac_origins.proofs.ToldForms.{blocks-placed, forms-placed}

-- anything may be said
abbrev pub Any : Origin → Item → Type 0
Any o item = Unit {0}

-- ---- where a value is placed

current_aside : (fs : List Frame) (gs : List FrameOrigins) (text : List Origin) (o : Origins) (output : List Origin) (forms : List ℕ → List Origin) (blocks : ℕ → List ℕ → List Origin) (i : ℕ) →
    origin_at (gather_from gs text (record o { output = output; forms = forms; blocks = blocks })) (in_current fs i) ≡ origin_at (gather_from gs text o) (in_current fs i)
current_aside [] gs text o output forms blocks i = base_aside gs text o output forms blocks i
current_aside (f ∷ fs) gs text o output forms blocks i = arguments_aside gs text o output forms blocks (length fs) (length f.arguments) i

module _ (u : State) (rest : List Origin) (f : EffectOrigins) where
  abbrev others : Origins
  others = record (all_kept u) { active = rest }

  value_placed : (kind : Kind) (forced : Bool) (value : List Origin) (i : ℕ) → i < length value →
      origin_at (placed_from kind forced value (changed_from f others)) (value_at kind forced u i) ≡ get_or value i Made
  value_placed Active forced value i l = get_or_append_left value rest Made i l
  value_placed Neutral true value i l = get_or_append_left value rest Made i l
  value_placed Neutral false value i l =
      current_aside u.frames (frames_kept u.frames) value others (kept InOutput u.output ++ f.printed) f.forms f.blocks (length (current_text u.frames u) + i)
      ∙ gathered_told u rest value i

  output_placed : (kind : Kind) (forced : Bool) (value : List Origin) (n : ℕ) →
      origin_at (placed_from kind forced value (changed_from f others)) (InOutput n) ≡ get_or (kept InOutput u.output ++ f.printed) n Made
  output_placed Active forced value n = refl
  output_placed Neutral true value n = refl
  output_placed Neutral false value n = output_aside (frames_kept u.frames) value (changed_from f others) n

-- ---- what prints nothing

-- a part of an effect that is empty where all is left, and where a form, or a block, is acted on
pub on_form_none : (part : EffectOrigins → List Origin) (d : Performed) → part (leaves_from d) ≡ [] → (found : Option Form) (act : Form → EffectOrigins) → ((form : Form) → part (act form) ≡ []) →
    part (on_form_from found act d) ≡ []
on_form_none part d left None act acts = left
on_form_none part d left (Some form) act acts = acts form

pub on_block_none : (part : EffectOrigins → List Origin) (d : Performed) → part (leaves_from d) ≡ [] → (found : Option ℕ) (act : ℕ → EffectOrigins) → ((number : ℕ) → part (act number) ≡ []) →
    part (on_block_from found act d) ≡ []
on_block_none part d left None act acts = left
on_block_none part d left (Some number) act acts = acts number

abbrev printed_in : EffectOrigins → List Origin
printed_in f = f.printed

action_silent : (a : FormAction) (d : Performed) → is_silent (Handle a) ≡ true → (handled_from a d).printed ≡ []
action_silent action.Segment d silent =
    on_form_none printed_in d refl (named_form d.call.arguments (storage_of d.call.state)) (λ form. puts_from (segmented_from form d) d) (λ form. refl)
action_silent action.Call d silent = on_form_none printed_in d refl (named_form d.call.arguments (storage_of d.call.state)) (λ form. gives_from (called_from form d) d) (λ form. refl)
action_silent (action.Read reading) d silent =
    on_form_none printed_in d refl (named_form d.call.arguments (storage_of d.call.state)) (λ form. gives_from (reading_from reading form d) d) (λ form. refl)
action_silent action.PrintForm d silent = absurd (cc)
action_silent other d silent = refl

silent_prints : (p : Primitive) (d : Performed) → is_silent p ≡ true → (effect_from p d).printed ≡ []
silent_prints PrintString d silent = absurd (cc)
silent_prints (Handle a) d silent = action_silent a d silent
silent_prints (HandleBlock FetchBlock) d silent = on_block_none printed_in d refl (named_block_number d.call.arguments (storage_of d.call.state)) (λ number. fetched_from number d) (λ number. refl)
silent_prints other d silent = refl

-- ---- a call

module _ (environment : Environment) (s : State) (call : Call) (primitive : Primitive) (e : Effect) (is : IsCallOf environment s call primitive e) where
  abbrev pub call_of : Performed
  call_of = of_call environment s call e

  abbrev pub does_from : EffectOrigins
  does_from = effect_from primitive call_of

  pub origins_after : origins environment s ≡ after_call_from call_of
  unfolding origins
  origins_after = ap (scanned_from environment s) is.scans ∙ ap (call_from environment s call) is.does

  others_kept : call_of.from.others ≡ record (all_kept call.state) { active = left_of s }
  others_kept = others_are s call is.scans

  anything : MaySay Any environment s (after_call call e).position
  anything = record { carried = λ place item found. tt; made = λ item makes. tt; read = λ n b unread read stands. tt }

  pub given : EndedBeside Any call_of.from call
  given = subst (ScanBeside Any (front_of s.active) s (all_kept s)) is.scans (scanned Any environment s (after_call call e) anything)

  effect : EffectBeside Any (performed_from call_of) e
  effect = whole Any environment s (after_call call e) anything call call_of.from is.scans given e is.does refl

  line : List ℕ
  line = trace_line call.state.trace call.kind call.arguments

  value_named : (performed_from call_of).value ≡ does_from.value
  value_named = ap (λ (p : Primitive). (effect_from p call_of).value) is.named

  pub length_value : length does_from.value ≡ length e.value
  length_value = ap (λ (os : List Origin). length os) (sym value_named) ∙ same_length effect.value

  pub length_printed : length e.printed ≡ length (trace_line call.state.trace call.kind call.arguments) + length does_from.printed
  length_printed =
      let text = trace_line call.state.trace call.kind call.arguments in
      sym (same_length effect.printed) ∙ length-append (all_made text) (effect_from (primitive_of (argument 0 call.arguments)) call_of).printed
      ∙ ap (λ n. n + length (effect_from (primitive_of (argument 0 call.arguments)) call_of).printed) (length-one_each (λ j. Made) text)
      ∙ ap (λ (p : Primitive). length text + length (effect_from p call_of).printed) is.named

  -- ---- where it is read

  pub value_told : (i : ℕ) → i < length e.value → origin environment s (value_at call.kind e.forced call.state i) ≡ get_or does_from.value i Made
  value_told i l =
      let f : EffectOrigins = performed_from call_of in
      let place = value_at call.kind e.forced call.state i in
      ap (λ (o : Origins). origin_at o place) origins_after
      ∙ ap (λ (o : Origins). origin_at (placed_from call.kind e.forced f.value (changed_from f o)) place) others_kept
      ∙ value_placed call.state (left_of s) f call.kind e.forced f.value i (omega (arith, l, same_length effect.value))
      ∙ ap (λ (os : List Origin). get_or os i Made) value_named

  output_told : (n : ℕ) → origin environment s (InOutput (length call.state.output + n)) ≡ get_or (all_made (trace_line call.state.trace call.kind call.arguments) ++ does_from.printed) n Made
  output_told n =
      let f : EffectOrigins = performed_from call_of in
      let place = InOutput (length call.state.output + n) in
      ap (λ (o : Origins). origin_at o place) origins_after
      ∙ ap (λ (o : Origins). origin_at (placed_from call.kind e.forced f.value (changed_from f o)) place) others_kept
      ∙ output_placed call.state (left_of s) f call.kind e.forced f.value (length call.state.output + n)
      ∙ ap (λ m. get_or (kept InOutput call.state.output ++ f.printed) (m + n) Made) (sym (length-one_each (λ j. Carried (InOutput j)) call.state.output))
      ∙ get_or-append-add (kept InOutput call.state.output) f.printed n Made
      ∙ ap (λ (p : Primitive). get_or (all_made (trace_line call.state.trace call.kind call.arguments) ++ (effect_from p call_of).printed) n Made) is.named

  pub printed_told : (i : ℕ) → origin environment s (printed_at call i) ≡ get_or does_from.printed i Made
  printed_told i =
      let made = all_made (trace_line call.state.trace call.kind call.arguments) in
      output_told (length (trace_line call.state.trace call.kind call.arguments) + i)
      ∙ ap (λ m. get_or (made ++ does_from.printed) (m + i) Made) (sym (length-one_each (λ j. Made) (trace_line call.state.trace call.kind call.arguments)))
      ∙ get_or-append-add made does_from.printed i Made

  pub line_told : (i : ℕ) → i < length (trace_line call.state.trace call.kind call.arguments) → origin environment s (InOutput (length call.state.output + i)) ≡ Made
  line_told i l =
      let made = all_made (trace_line call.state.trace call.kind call.arguments) in
      output_told i
      ∙ get_or_append_left made does_from.printed Made i (omega (arith, l, length-one_each (λ j. Made) (trace_line call.state.trace call.kind call.arguments)))
      ∙ one_each-at (λ j. Made) (trace_line call.state.trace call.kind call.arguments) i l

  pub silent_told : is_silent primitive ≡ true → (n : ℕ) → origin environment s (InOutput (length call.state.output + n)) ≡ Made
  silent_told silent n =
      let text = trace_line call.state.trace call.kind call.arguments in
      output_told n
      ∙ ap (λ (os : List Origin). get_or (all_made text ++ os) n Made) (silent_prints primitive call_of silent)
      ∙ ap (λ (os : List Origin). get_or os n Made) (append-nil (all_made text)) ∙ always_made text n

  -- `pf` of no form
  pub unshown_told : primitive ≡ Handle action.PrintForm → named_form call.arguments (storage_of call.state) ≡ None → (n : ℕ) → origin environment s (InOutput (length call.state.output + n)) ≡ Made
  unshown_told shows none n =
      let text = trace_line call.state.trace call.kind call.arguments in
      output_told n
      ∙ ap (λ (p : Primitive). get_or (all_made text ++ (effect_from p call_of).printed) n Made) shows
      ∙ ap (λ (found : Option Form). get_or (all_made text ++ (on_form_from found (λ form. prints_from (shown_from form (items_from call_of)) call_of) call_of).printed) n Made) none
      ∙ ap (λ (os : List Origin). get_or os n Made) (append-nil (all_made text)) ∙ always_made text n

  pub form_told : (name : List ℕ) (i : ℕ) → origin environment s (InForm name i) ≡ get_or (does_from.forms name) i Made
  form_told name i =
      let f : EffectOrigins = performed_from call_of in
      ap (λ (o : Origins). get_or (o.forms name) i Made) origins_after
      ∙ ap (λ (os : List Origin). get_or os i Made) (forms-placed call.kind e.forced f.value (changed_from f call_of.from.others) name)
      ∙ ap (λ (p : Primitive). get_or ((effect_from p call_of).forms name) i Made) is.named

  pub held_told : (number : ℕ) (name : List ℕ) (i : ℕ) → origin environment s (InHeld number name i) ≡ get_or (does_from.blocks number name) i Made
  held_told number name i =
      let f : EffectOrigins = performed_from call_of in
      ap (λ (o : Origins). get_or (o.blocks number name) i Made) origins_after
      ∙ ap (λ (os : List Origin). get_or os i Made) (blocks-placed call.kind e.forced f.value (changed_from f call_of.from.others) number name)
      ∙ ap (λ (p : Primitive). get_or ((effect_from p call_of).blocks number name) i Made) is.named

  -- ---- what is read there

  pub argument_told : (k i : ℕ) → i < length (argument k call.arguments) → get_or (argument_from k call_of) i Made ≡ of_argument call k i
  argument_told k i l = call_arguments s call k i is.scans l

  pub length_argument : (k : ℕ) → length (argument_from k call_of) ≡ length (argument k call.arguments)
  length_argument k = same_length (related_or given.arguments k [] [] ends)

  pub forms_kept : (name : List ℕ) → call_of.from.others.forms name ≡ kept (InForm name) (items_of (finite.get call.state.forms name))
  forms_kept name = ap (λ (o : Origins). o.forms name) others_kept

  pub blocks_kept : (number : ℕ) (name : List ℕ) → call_of.from.others.blocks number name ≡ kept (InHeld number name) (items_of (held_form name (block_at number call.state.blocks)))
  blocks_kept number name = ap (λ (o : Origins). o.blocks number name) others_kept

  pub item_told : (form : Form) (m : ℕ) → named_form call.arguments (storage_of call.state) ≡ Some form → m < length (all_items form) → get_or (items_from call_of) m Made ≡ of_form call m
  item_told form m there l =
      let name = argument 1 call.arguments in
      ap (λ (os : List Origin). get_or os m Made) (forms_kept name)
      ∙ one_each-at (λ j. Carried (InForm name j)) (items_of (finite.get call.state.forms name)) m (subst (λ (found : Option Form). m < length (items_of found)) (sym there) l)

  pub length_items : (form : Form) → named_form call.arguments (storage_of call.state) ≡ Some form → length (items_from call_of) ≡ length (all_items form)
  length_items form there =
      let name = argument 1 call.arguments in
      ap (λ (os : List Origin). length os) (forms_kept name) ∙ length-one_each (λ j. Carried (InForm name j)) (items_of (finite.get call.state.forms name))
      ∙ ap (λ (found : Option Form). length (items_of found)) there
