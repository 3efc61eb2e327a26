-- What calls give.
use Rattle.std.proofs.Common.{◌≡◌, ℕ, ◌<◌, Bool, true, false, cond, List, [], drop, length, refl, sym, ap, ◌∙◌, arith, Option, None, Some, Ok, Err}
use Rattle.trac_rules.specs.declared.primitive.BlockAction.TheVariants.{FetchBlock}
use Rattle.trac_rules.specs.declared.primitive.Computation.{Computation}
use Rattle.trac_rules.specs.declared.primitive.FormAction.{FormAction}
use Rattle.trac_rules.specs.declared.primitive.FormAction.TheVariants as action
use Rattle.trac_rules.specs.declared.primitive.FormReading.{FormReading}
use Rattle.trac_rules.specs.declared.primitive.Primitive.{Primitive}
use Rattle.trac_rules.specs.declared.primitive.Primitive.TheVariants.{ReadString, ReadByte, Compute, Handle, HandleBlock}
use Rattle.trac_rules.specs.declared.refusal.Refusal.TheVariants.{TooLong}
use Rattle.trac_rules.specs.Blocks.{named_block_number}
use Rattle.trac_rules.specs.Effect.{Effect, argument, gives, leaves}
use Rattle.trac_rules.specs.Filling.{called}
use Rattle.trac_rules.specs.Form.{Form}
use Rattle.trac_rules.specs.Handling.{default_argument, form_read, gives_piece, keeping, named_form, on_form, piece_read}
use Rattle.trac_rules.specs.Listing.{listed}
use Rattle.trac_rules.specs.Outcomes.{seen_as}
use Rattle.trac_rules.specs.Performing.{after_call, changed_by, effect_of, performed, printed_after, trace_line}
use Rattle.trac_rules.specs.Pieces.{Piece}
use Rattle.trac_rules.specs.Scanning.{Call}
use Rattle.trac_rules.specs.State.{Environment, Forms, State, Storage, storage_of}
use Rattle.trac_rules.proofs.ProperStates.{storage-placed}
use Rattle.trac_origins.specs.Lengths.{IsCallOf}
use Rattle.trac_origins.specs.Performing.{EffectOrigins, Performed, called_from, fetched_from, gives_from, handled_from, on_form_from, reading_from}
use Rattle.trac_origins.specs.Places.{Origin}
use Rattle.trac_origins.proofs.ToldEffects.{call_of, length_value, on_block_none, on_form_none}

-- ---- primitives without a value

abbrev value_in : EffectOrigins → List Origin
value_in f = f.value

-- whether a call on forms gives something
abbrev pub gives_form : FormAction → Type 0
gives_form action.Call = Unit {0}
gives_form (action.Read reading) = Unit {0}
gives_form action.ListNames = Unit {0}
gives_form other = ⊥

pub other_silent : (a : FormAction) → (a ≡ action.ListNames → ⊥) → (a ≡ action.Call → ⊥) → ((reading : FormReading) → a ≡ action.Read reading → ⊥) → gives_form a → ⊥
other_silent action.Call lists calls reads gives = calls refl
other_silent (action.Read reading) lists calls reads gives = reads reading refl
other_silent action.ListNames lists calls reads gives = lists refl
other_silent other lists calls reads gives = gives

action_empty : (a : FormAction) (d : Performed) → (gives_form a → ⊥) → (handled_from a d).value ≡ []
action_empty action.Segment d none = on_form_none value_in d refl (named_form d.call.arguments (storage_of d.call.state)) _ (λ form. refl)
action_empty action.PrintForm d none = on_form_none value_in d refl (named_form d.call.arguments (storage_of d.call.state)) _ (λ form. refl)
action_empty action.Call d none = absurd (none tt)
action_empty (action.Read reading) d none = absurd (none tt)
action_empty action.ListNames d none = absurd (none tt)
action_empty other d none = refl

-- without a form all but `ln` give nothing
formless_empty : (a : FormAction) (d : Performed) → (a ≡ action.ListNames → ⊥) → named_form d.call.arguments (storage_of d.call.state) ≡ None → (handled_from a d).value ≡ []
formless_empty action.Call d other none = ap (λ (found : Option Form). (on_form_from found (λ form. gives_from (called_from form d) d) d).value) none
formless_empty (action.Read reading) d other none = ap (λ (found : Option Form). (on_form_from found (λ form. gives_from (reading_from reading form d) d) d).value) none
formless_empty action.ListNames d other none = absurd (other refl)
formless_empty a d other none = action_empty a d (λ gives. gives)

module _ (environment : Environment) (s : State) (call : Call) (e : Effect) where
  pub action_gives_none : (a : FormAction) → (gives_form a → ⊥) → IsCallOf environment s call (Handle a) e → (i : ℕ) → i < length e.value → ⊥
  action_gives_none a none is i l =
      absurd (omega (arith, l, length_value environment s call (Handle a) e is, ap (λ (os : List Origin). length os) (action_empty a (call_of environment s call (Handle a) e is) none)))

  pub formless_gives_none : (a : FormAction) → (a ≡ action.ListNames → ⊥) → IsCallOf environment s call (Handle a) e → named_form call.arguments (storage_of call.state) ≡ None → (i : ℕ) → i < length e.value → ⊥
  formless_gives_none a other is none i l =
      absurd (omega (arith, l, length_value environment s call (Handle a) e is, ap (λ (os : List Origin). length os) (formless_empty a (call_of environment s call (Handle a) e is) other none)))

  pub others_give_none : (p : Primitive) → (p ≡ ReadString → ⊥) → (p ≡ ReadByte → ⊥) → ((computation : Computation) → p ≡ Compute computation → ⊥) → ((a : FormAction) → p ≡ Handle a → ⊥) →
      IsCallOf environment s call p e → (i : ℕ) → i < length e.value → ⊥
  others_give_none ReadString string byte computes handles is i l = absurd (string refl)
  others_give_none ReadByte string byte computes handles is i l = absurd (byte refl)
  others_give_none (Compute computation) string byte computes handles is i l = absurd (computes computation refl)
  others_give_none (Handle a) string byte computes handles is i l = absurd (handles a refl)
  others_give_none (HandleBlock FetchBlock) string byte computes handles is i l =
      let d : Performed = call_of environment s call (HandleBlock FetchBlock) e is in
      absurd (omega (arith, l, length_value environment s call (HandleBlock FetchBlock) e is, ap (λ (os : List Origin). length os) (on_block_none value_in d refl (named_block_number d.call.arguments (storage_of d.call.state)) (λ number. fetched_from number d) (λ number. refl))))
  others_give_none p string byte computes handles is i l = absurd (omega (arith, l, length_value environment s call p e is))

  -- ---- what calls on forms give

  abbrev line : List ℕ
  line = trace_line call.state.trace call.kind call.arguments

  -- what the primitive does
  pub done_by : (primitive : Primitive) → IsCallOf environment s call primitive e → seen_as (printed_after line) (effect_of primitive environment call.arguments call.state) ≡ Ok e
  unfolding performed
  done_by primitive is = ap (λ p. seen_as (printed_after line) (effect_of p environment call.arguments call.state)) (sym is.named) ∙ is.does

  -- and this, where it is not refused
  pub does_so : (primitive : Primitive) (done : Effect) → IsCallOf environment s call primitive e → effect_of primitive environment call.arguments call.state ≡ Ok done → printed_after line done ≡ e
  does_so primitive done is does =
      let same : Ok (printed_after line done) ≡ Ok e = ap (seen_as (printed_after line)) (sym does) ∙ done_by primitive is in
      cc

  pub called_gives : (form : Form) → IsCallOf environment s call (Handle action.Call) e → named_form call.arguments (storage_of call.state) ≡ Some form → e.value ≡ called (drop 2 call.arguments) form
  called_gives form is names =
      let storage : Storage = storage_of call.state in
      ap (λ (f : Effect). f.value) (sym (does_so (Handle action.Call) (gives (called (drop 2 call.arguments) form) storage) is
      (ap (λ (found : Option Form). on_form found (λ f. Ok (gives (called (drop 2 call.arguments) f) storage)) storage) names)))

  pub names_given : IsCallOf environment s call (Handle action.ListNames) e → e.value ≡ listed (argument 1 call.arguments) call.state.forms
  names_given is = ap (λ (f : Effect). f.value) (sym (does_so (Handle action.ListNames) (gives (listed (argument 1 call.arguments) call.state.forms) (storage_of call.state)) is refl))

  reads_form : (reading : FormReading) (form : Form) (found : Option Piece) → IsCallOf environment s call (Handle (action.Read reading)) e →
      named_form call.arguments (storage_of call.state) ≡ Some form → piece_read reading environment.width call.arguments form ≡ found →
      printed_after line (gives_piece found (default_argument reading call.arguments) (argument 1 call.arguments) form (storage_of call.state)) ≡ e
  reads_form reading form found is names read =
      let storage : Storage = storage_of call.state in
      let other = default_argument reading call.arguments in
      does_so (Handle (action.Read reading)) (gives_piece found other (argument 1 call.arguments) form storage) is
      (ap (λ (f : Option Form). on_form f (λ g. Ok (form_read reading environment.width call.arguments g storage)) storage) names
      ∙ ap (λ (piece : Option Piece). Ok (gives_piece piece other (argument 1 call.arguments) form storage)) read)

  pub piece_gives : (reading : FormReading) (form : Form) (piece : Piece) → IsCallOf environment s call (Handle (action.Read reading)) e →
      named_form call.arguments (storage_of call.state) ≡ Some form → piece_read reading environment.width call.arguments form ≡ Some piece → e.value ≡ piece.value
  piece_gives reading form piece is names read = ap (λ (f : Effect). f.value) (sym (reads_form reading form (Some piece) is names read))

  pub default_forces : (reading : FormReading) (form : Form) → IsCallOf environment s call (Handle (action.Read reading)) e →
      named_form call.arguments (storage_of call.state) ≡ Some form → piece_read reading environment.width call.arguments form ≡ None → e.forced ≡ true
  default_forces reading form is names read = ap (λ (f : Effect). f.forced) (sym (reads_form reading form None is names read))

  -- ---- forms and blocks afterwards

  module _ (primitive : Primitive) (is : IsCallOf environment s call primitive e) (t : State) (after : t ≡ after_call call e) where
    forms_after : t.forms ≡ e.storage.forms
    forms_after = ap (λ (u : State). u.forms) after ∙ ap (λ (left : Storage). left.forms) (storage-placed call.kind e.forced e.value (changed_by e call.state))

    -- those from before
    pub forms_left : effect_of primitive environment call.arguments call.state ≡ Ok (leaves (storage_of call.state)) → t.forms ≡ call.state.forms
    forms_left does = forms_after ∙ ap (λ (f : Effect). f.storage.forms) (sym (does_so primitive (leaves (storage_of call.state)) is does))

    -- these, if they are few enough
    pub forms_kept : (few : Bool) (forms : Forms) → effect_of primitive environment call.arguments call.state ≡ cond few (Ok (leaves (keeping forms (storage_of call.state)))) (Err TooLong) → t.forms ≡ forms
    forms_kept true forms does = forms_after ∙ ap (λ (f : Effect). f.storage.forms) (sym (does_so primitive (leaves (keeping forms (storage_of call.state))) is does))
    forms_kept false forms does = absurd (let refused = ap (seen_as (printed_after line)) (sym does) ∙ done_by primitive is in cc)
