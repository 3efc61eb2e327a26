-- Forms and blocks on which a call does not act are told to stay.
use Rattle.std.proofs.Common.{◌≡◌, ℕ, ◌<◌, ◌≤◌, Bool, true, false, List, [], ◌∷◌, length, get_or, refl, sym, ap, ◌∙◌, arith, ⊎_elim}
use Rattle.std.specs.Prelude.{Option, None, Some, Ok, ◌==◌, bytes_eq, decimal, slice_get}
use Rattle.std.proofs.lemmas.Bool.{cases_lt, cond-false, ne_eqb}
use Rattle.std.proofs.lemmas.List.{get_or_past}
use Rattle.trac_rules.specs.declared.item.Item.{Item}
use Rattle.trac_rules.specs.declared.kind.Kind.{Kind}
use Rattle.trac_rules.specs.declared.kind.Kind.TheVariants.{Active, Neutral}
use Rattle.trac_rules.specs.declared.primitive.BlockAction.TheVariants.{StoreBlock, FetchBlock}
use Rattle.trac_rules.specs.declared.primitive.FormAction.{FormAction}
use Rattle.trac_rules.specs.declared.primitive.FormAction.TheVariants as action
use Rattle.trac_rules.specs.declared.primitive.Primitive.{Primitive}
use Rattle.trac_rules.specs.declared.primitive.Primitive.TheVariants.{Handle, HandleBlock}
use Rattle.trac_rules.specs.Blocks.{block_at, named_block_number}
use Rattle.trac_rules.specs.Effect.{argument}
use Rattle.trac_rules.specs.Form.{Form}
use Rattle.trac_rules.specs.Handling.{named_form}
use Rattle.trac_rules.specs.Performing.{primitive_of}
use Rattle.trac_rules.specs.Scanning.{Call, Calls, scan}
use Rattle.trac_rules.specs.State.{Block, Environment, State, storage_of}
use Rattle.trac_rules.specs.Stepping.{step}
use Rattle.trac_origins.specs.Places.{InForm, InHeld, Origin, Carried, Made, found_at, held_form, items_of}
use Rattle.trac_origins.specs.Lists.{FrameOrigins, Origins, all_made}
use Rattle.trac_origins.specs.Moving.{gather_from}
use Rattle.trac_origins.specs.Performing.{EffectOrigins, Performed, argument_from, called_from, changed_from, effect_from, fetched_from, gives_from, handled_from, items_from, on_block_from, on_form_from, performed_from, placed_from, prints_from, puts_from, reading_from, segmented_from, shown_from, text_given}
use Rattle.trac_origins.specs.Stepping.{origin}
use Rattle.trac_origins.specs.Lengths.{may_put}
use Rattle.trac_origins.proofs.Stored.{none_found}
use Rattle.trac_origins.proofs.Told.{kept_told}
use Rattle.trac_origins.proofs.ToldCalls.{is_after, of_call}

-- ---- what a call does with origins

-- a call on a form, where there is one, of which each leaves the forms of a name
form_aside : (d : Performed) (q : List ℕ) (found : Option Form) (act : Form → EffectOrigins) → ((form : Form) → (act form).forms q ≡ d.from.others.forms q) →
    (on_form_from found act d).forms q ≡ d.from.others.forms q
form_aside d q None act acts = refl
form_aside d q (Some form) act acts = acts form

put_aside : (d : Performed) (q : List ℕ) (items : List Origin) → bytes_eq q (text_given 1 d) ≡ false → (puts_from items d).forms q ≡ d.from.others.forms q
put_aside d q items other = cond-false (bytes_eq q (text_given 1 d)) items (d.from.others.forms q) other

handled_aside : (a : FormAction) (d : Performed) (q : List ℕ) → may_put (Handle a) (text_given 1 d) q ≡ false → (handled_from a d).forms q ≡ d.from.others.forms q
handled_aside action.Define d q other = put_aside d q (argument_from 2 d) other
handled_aside action.Segment d q other =
    form_aside d q (named_form d.call.arguments (storage_of d.call.state)) (λ form. puts_from (segmented_from form d) d) (λ form. put_aside d q (segmented_from form d) other)
handled_aside action.Call d q other =
    form_aside d q (named_form d.call.arguments (storage_of d.call.state)) (λ form. gives_from (called_from form d) d) (λ form. refl)
handled_aside (action.Read reading) d q other =
    form_aside d q (named_form d.call.arguments (storage_of d.call.state)) (λ form. gives_from (reading_from reading form d) d) (λ form. refl)
handled_aside action.PrintForm d q other =
    form_aside d q (named_form d.call.arguments (storage_of d.call.state)) (λ form. prints_from (shown_from form (items_from d)) d) (λ form. refl)
handled_aside it d q other = refl

pub forms_aside : (p : Primitive) (d : Performed) (q : List ℕ) → may_put p (text_given 1 d) q ≡ false → (effect_from p d).forms q ≡ d.from.others.forms q
forms_aside (Handle a) d q other = handled_aside a d q other
forms_aside (HandleBlock StoreBlock) d q other = put_aside d q (all_made (decimal (length d.call.state.blocks))) other
forms_aside (HandleBlock FetchBlock) d q other = absurd (cc)
forms_aside it d q other = refl

-- ---- blocks

pub held_aside : (d : Performed) (k : ℕ) (q : List ℕ) (found : Option Form) (act : Form → EffectOrigins) → ((form : Form) → (act form).blocks k q ≡ d.from.others.blocks k q) →
    (on_form_from found act d).blocks k q ≡ d.from.others.blocks k q
held_aside d k q None act acts = refl
held_aside d k q (Some form) act acts = acts form

pub fetched_aside : (d : Performed) (k : ℕ) (q : List ℕ) (found : Option ℕ) → (on_block_from found (λ number. fetched_from number d) d).blocks k q ≡ d.from.others.blocks k q
fetched_aside d k q None = refl
fetched_aside d k q (Some number) = refl

pub handled_held : (a : FormAction) (d : Performed) (k : ℕ) (q : List ℕ) → (handled_from a d).blocks k q ≡ d.from.others.blocks k q
handled_held action.Segment d k q =
    held_aside d k q (named_form d.call.arguments (storage_of d.call.state)) (λ form. puts_from (segmented_from form d) d) (λ form. refl)
handled_held action.Call d k q = held_aside d k q (named_form d.call.arguments (storage_of d.call.state)) (λ form. gives_from (called_from form d) d) (λ form. refl)
handled_held (action.Read reading) d k q =
    held_aside d k q (named_form d.call.arguments (storage_of d.call.state)) (λ form. gives_from (reading_from reading form d) d) (λ form. refl)
handled_held action.PrintForm d k q =
    held_aside d k q (named_form d.call.arguments (storage_of d.call.state)) (λ form. prints_from (shown_from form (items_from d)) d) (λ form. refl)
handled_held other d k q = refl

pub blocks_aside : (p : Primitive) (d : Performed) (k : ℕ) (q : List ℕ) → (p ≡ HandleBlock StoreBlock → k ≡ length d.call.state.blocks → ⊥) → (effect_from p d).blocks k q ≡ d.from.others.blocks k q
blocks_aside (Handle a) d k q other = handled_held a d k q
blocks_aside (HandleBlock StoreBlock) d k q other =
    let number = length d.call.state.blocks in
    ap (λ (from : List ℕ → List Origin). from q) (cond-false (k == number) d.from.others.forms (d.from.others.blocks k) (ne_eqb k number (other refl)))
blocks_aside (HandleBlock FetchBlock) d k q other = fetched_aside d k q (named_block_number d.call.arguments (storage_of d.call.state))
blocks_aside p d k q other = refl

-- ---- after a call

pub forms-gather_from : (gs : List FrameOrigins) (text : List Origin) (o : Origins) (q : List ℕ) → (gather_from gs text o).forms q ≡ o.forms q
forms-gather_from [] text o q = refl
forms-gather_from (g ∷ gs) text o q = refl

pub blocks-gather_from : (gs : List FrameOrigins) (text : List Origin) (o : Origins) (k : ℕ) (q : List ℕ) → (gather_from gs text o).blocks k q ≡ o.blocks k q
blocks-gather_from [] text o k q = refl
blocks-gather_from (g ∷ gs) text o k q = refl

pub forms-placed : (kind : Kind) (forced : Bool) (value : List Origin) (o : Origins) (q : List ℕ) → (placed_from kind forced value o).forms q ≡ o.forms q
forms-placed Active forced value o q = refl
forms-placed Neutral true value o q = refl
forms-placed Neutral false value o q = forms-gather_from o.frames value o q

pub blocks-placed : (kind : Kind) (forced : Bool) (value : List Origin) (o : Origins) (k : ℕ) (q : List ℕ) → (placed_from kind forced value o).blocks k q ≡ o.blocks k q
blocks-placed Active forced value o k q = refl
blocks-placed Neutral true value o k q = refl
blocks-placed Neutral false value o k q = blocks-gather_from o.frames value o k q

pub call_forms : (environment : Environment) (s t : State) (call : Call) (name : List ℕ) (i : ℕ) (item : Item) → step environment s ≡ Ok t → scan s ≡ Calls call →
    may_put (primitive_of (argument 0 call.arguments)) (argument 1 call.arguments) name ≡ false → found_at call.state (InForm name i) ≡ Some item →
    origin environment s (InForm name i) ≡ Carried (InForm name i)
call_forms environment s t call name i item h is other e =
    let after = is_after environment s t call h is in
    let d : Performed = of_call environment s call after.effect in
    let f : EffectOrigins = performed_from d in
    ap (λ (o : Origins). get_or (o.forms name) i Made) after.origins
    ∙ ap (λ (os : List Origin). get_or os i Made) (forms-placed d.call.kind d.effect.forced f.value (changed_from f d.from.others) name)
    ∙ ap (λ (os : List Origin). get_or os i Made) (forms_aside (primitive_of (argument 0 call.arguments)) d name other)
    ∙ ap (λ (o : Origins). get_or (o.forms name) i Made) after.from
    ∙ kept_told call.state (InForm name i) item e

-- a block that holds a form is one of the blocks
held_within : (number : ℕ) (name : List ℕ) (i : ℕ) (blocks : List Block) (item : Item) → slice_get (items_of (held_form name (block_at number blocks))) i ≡ Some item → number < length blocks
held_within number name i blocks item e =
    ⊎_elim (λ (l : number < length blocks). l) (λ (past : length blocks ≤ number). absurd (nothing past)) (cases_lt number (length blocks))
  where
    nothing : length blocks ≤ number → ⊥
    nothing past = go (held_form name None) refl (sym (ap (λ (block : Block). slice_get (items_of (held_form name block)) i) (get_or_past blocks number None past)) ∙ e)
      where
        go : (found : Option Form) → held_form name None ≡ found → slice_get (items_of found) i ≡ Some item → ⊥
        go None is stands = cc
        go (Some form) is stands = none_found name form is

pub call_held : (environment : Environment) (s t : State) (call : Call) (number : ℕ) (name : List ℕ) (i : ℕ) (item : Item) → step environment s ≡ Ok t → scan s ≡ Calls call →
    found_at call.state (InHeld number name i) ≡ Some item → origin environment s (InHeld number name i) ≡ Carried (InHeld number name i)
call_held environment s t call number name i item h is e =
    let after = is_after environment s t call h is in
    let d : Performed = of_call environment s call after.effect in
    let f : EffectOrigins = performed_from d in
    ap (λ (o : Origins). get_or (o.blocks number name) i Made) after.origins
    ∙ ap (λ (os : List Origin). get_or os i Made) (blocks-placed d.call.kind d.effect.forced f.value (changed_from f d.from.others) number name)
    ∙ ap (λ (os : List Origin). get_or os i Made) (blocks_aside (primitive_of (argument 0 call.arguments)) d number name (λ stores last. absurd (omega (arith, last, held_within number name i call.state.blocks item e))))
    ∙ ap (λ (o : Origins). get_or (o.blocks number name) i Made) after.from
    ∙ kept_told call.state (InHeld number name i) item e
