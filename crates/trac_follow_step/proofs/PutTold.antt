-- What a call puts under names and into blocks, as the code tells it, and that no more stands there.
use Rattle.std.proofs.Common.{◌≡◌, ℕ, ◌<◌, ◌≤◌, Bool, true, false, List, length, get_or, refl, sym, ap, ◌∙◌, arith, Option, None, Some, Ok, ◌==◌, bytes_eq, if◌then◌else◌, slice_get}
use Rattle.std.specs.FinMap as finite
use Rattle.std.proofs.lemmas.Bool.{cond-true, eq-eqb}
use Rattle.std.proofs.lemmas.List.{get_or_past}
use Rattle.std.proofs.lemmas.Option.{slice_get-get_or, slice_get_within}
use Rattle.std.proofs.lemmas.Slice.Eq.{bytes_eq-Decides}
use Rattle.trac_rules.specs.declared.item.Item.{Item}
use Rattle.trac_rules.specs.declared.primitive.BlockAction.TheVariants.{StoreBlock, FetchBlock}
use Rattle.trac_rules.specs.declared.primitive.FormAction.TheVariants.{Define, Segment}
use Rattle.trac_rules.specs.declared.primitive.Primitive.{Primitive}
use Rattle.trac_rules.specs.declared.primitive.Primitive.TheVariants.{Handle, HandleBlock}
use Rattle.trac_rules.specs.Blocks.{block_at}
use Rattle.trac_rules.specs.Effect.{Effect, argument}
use Rattle.trac_rules.specs.Form.{Form, all_items}
use Rattle.trac_rules.specs.Performing.{primitive_of}
use Rattle.trac_rules.specs.Scanning.{Call, Calls, scan}
use Rattle.trac_rules.specs.State.{Block, Environment, State}
use Rattle.trac_rules.specs.Stepping.{step}
use Rattle.trac_origins.specs.Lengths.{IsCallOf, may_put}
use Rattle.trac_origins.specs.Lists.{Origins, kept}
use Rattle.trac_origins.specs.Performing.{Performed, argument_from, changed_from, effect_from, performed_from}
use Rattle.trac_origins.specs.Places.{InArgument, InForm, InHeld, Origin, Carried, Made, found_at, held_form, items_of}
use Rattle.trac_origins.specs.Stepping.{origin, origins}
use Rattle.trac_origins.proofs.Accounted.{lists_beside}
use Rattle.trac_origins.proofs.Told.{length-one_each}
use Rattle.trac_origins.proofs.ToldEffects.{blocks_kept, call_of, forms_kept, length_argument, origins_after}
use Rattle.trac_origins.proofs.ToldForms.{blocks-placed, blocks_aside, forms-placed}
use Rattle.trac_origins.proofs.ToldPut.{address_told, defined_told, stored_told}
use Rattle.trac_origins.proofs.Zips.{same_length}
use Rattle.trac_follow_step.specs.declared.called.Put as code_put
use Rattle.trac_follow_step.specs.Putting.{put_by}
use Rattle.trac_follow_step.proofs.CallsTold.{blocks_are, call_does}
use Rattle.trac_follow_step.proofs.FetchedTold.{none_held}

-- ---- which primitive it is

-- what a primitive is that puts this under a name
abbrev pub IsFor : code_put.Put → Primitive → List ℕ → List ℕ → Type 0
IsFor code_put.TheVariants.Text p given name = (p ≡ Handle Define) × (bytes_eq name given ≡ true)
IsFor code_put.TheVariants.Cut p given name = (p ≡ Handle Segment) × (bytes_eq name given ≡ true)
IsFor code_put.TheVariants.Fetched p given name = p ≡ HandleBlock FetchBlock
IsFor code_put.TheVariants.Address p given name = (p ≡ HandleBlock StoreBlock) × (bytes_eq name given ≡ true)
IsFor code_put.TheVariants.Nothing p given name = may_put p given name ≡ false

put_if : (put : code_put.Put) (p : Primitive) (given name : List ℕ) → may_put p given name ≡ bytes_eq name given → (bytes_eq name given ≡ true → IsFor put p given name) →
    IsFor (if bytes_eq name given then put else code_put.TheVariants.Nothing) p given name
put_if put p given name may here = go (bytes_eq name given) refl
  where
    go : (same : Bool) → bytes_eq name given ≡ same → IsFor (if same then put else code_put.TheVariants.Nothing) p given name
    go true e = here e
    go false e = may ∙ e

pub is_put_by : (p : Primitive) (given name : List ℕ) → IsFor (put_by p given name) p given name
is_put_by (Handle Define) given name = put_if code_put.TheVariants.Text (Handle Define) given name refl (λ e. (refl, e))
is_put_by (Handle Segment) given name = put_if code_put.TheVariants.Cut (Handle Segment) given name refl (λ e. (refl, e))
is_put_by (HandleBlock StoreBlock) given name = put_if code_put.TheVariants.Address (HandleBlock StoreBlock) given name refl (λ e. (refl, e))
is_put_by (HandleBlock FetchBlock) given name = refl
is_put_by other given name = refl

-- ---- one origin for each item

within : (found : Option Form) (os : List Origin) → ((form : Form) → found ≡ Some form → length os ≡ length (all_items form)) → (i : ℕ) (item : Item) → slice_get (items_of found) i ≡ Some item → i < length os
within None os beside i item e = absurd (cc)
within (Some form) os beside i item e = omega (arith, slice_get_within (all_items form) i item e, beside form refl)

forms_within : (environment : Environment) (s t : State) (q : List ℕ) (i : ℕ) (item : Item) → step environment s ≡ Ok t → found_at t (InForm q i) ≡ Some item → i < length ((origins environment s).forms q)
forms_within environment s t q i item h = within (finite.get t.forms q) ((origins environment s).forms q) (λ form is. same_length ((lists_beside environment s t h).forms q form is)) i item

blocks_within : (environment : Environment) (s t : State) (k : ℕ) (q : List ℕ) (i : ℕ) (item : Item) → step environment s ≡ Ok t → found_at t (InHeld k q i) ≡ Some item →
    i < length ((origins environment s).blocks k q)
blocks_within environment s t k q i item h =
    within (held_form q (block_at k t.blocks)) ((origins environment s).blocks k q) (λ form is. same_length ((lists_beside environment s t h).blocks k q form is)) i item

-- ---- a call

module _ (environment : Environment) (s : State) (call : Call) (p : Primitive) (e : Effect) (is : IsCallOf environment s call p e) where
  abbrev d : Performed
  d = call_of environment s call p e is

  forms_list : (q : List ℕ) → (origins environment s).forms q ≡ (effect_from p d).forms q
  forms_list q =
      ap (λ (o : Origins). o.forms q) (origins_after environment s call p e is)
      ∙ forms-placed call.kind e.forced (performed_from d).value (changed_from (performed_from d) d.from.others) q
      ∙ ap (λ (r : Primitive). (effect_from r d).forms q) is.named

  blocks_list : (k : ℕ) (q : List ℕ) → (origins environment s).blocks k q ≡ (effect_from p d).blocks k q
  blocks_list k q =
      ap (λ (o : Origins). o.blocks k q) (origins_after environment s call p e is)
      ∙ blocks-placed call.kind e.forced (performed_from d).value (changed_from (performed_from d) d.from.others) k q
      ∙ ap (λ (r : Primitive). (effect_from r d).blocks k q) is.named

module _ (environment : Environment) (s t : State) (call : Call) (h : step environment s ≡ Ok t) (scans : scan s ≡ Calls call) where
  pub defined_is : (name : List ℕ) (i function : ℕ) → primitive_of (argument 0 call.arguments) ≡ Handle Define → bytes_eq name (argument 1 call.arguments) ≡ true → length call.state.frames ≡ function →
      i < length (argument 2 call.arguments) → origin environment s (InForm name i) ≡ Carried (InArgument function 2 i)
  defined_is name i function named same number l =
      let done = call_does environment s t call h scans (Handle Define) named in
      ap (λ q. origin environment s (InForm q i)) ((bytes_eq-Decides name (argument 1 call.arguments)).0 same)
      ∙ defined_told environment s call done.0 done.1 i l ∙ ap (λ n. Carried (InArgument n 2 i)) number

  pub address_is : (name : List ℕ) (i : ℕ) → primitive_of (argument 0 call.arguments) ≡ HandleBlock StoreBlock → bytes_eq name (argument 1 call.arguments) ≡ true →
      origin environment s (InForm name i) ≡ Made
  address_is name i named same =
      let done = call_does environment s t call h scans (HandleBlock StoreBlock) named in
      ap (λ q. origin environment s (InForm q i)) ((bytes_eq-Decides name (argument 1 call.arguments)).0 same) ∙ address_told environment s call done.0 done.1 i

  -- what stands in a form that a call defines is of its text
  pub defined_within : (q : List ℕ) (i : ℕ) (item : Item) → primitive_of (argument 0 call.arguments) ≡ Handle Define → bytes_eq q (argument 1 call.arguments) ≡ true →
      found_at t (InForm q i) ≡ Some item → i < length (argument 2 call.arguments)
  defined_within q i item named same stands =
      let p = Handle Define in
      let done = call_does environment s t call h scans p named in
      let d = call_of environment s call p done.0 done.1 in
      omega (
        arith,
        forms_within environment s t q i item h stands,
        ap (λ (os : List Origin). length os)
            (forms_list environment s call p done.0 done.1 q ∙ cond-true (bytes_eq q (argument 1 call.arguments)) (argument_from 2 d) (d.from.others.forms q) same),
        length_argument environment s call p done.0 done.1 2,
      )

  -- and in a new block of the form
  pub stored_tells : (number : ℕ) (name : List ℕ) (i : ℕ) (item : Item) → primitive_of (argument 0 call.arguments) ≡ HandleBlock StoreBlock → number ≡ length s.blocks →
      found_at t (InHeld number name i) ≡ Some item → origin environment s (InHeld number name i) ≡ Carried (InForm name i)
  stored_tells number name i item named last stands =
      let p = HandleBlock StoreBlock in
      let done = call_does environment s t call h scans p named in
      let d = call_of environment s call p done.0 done.1 in
      let items = items_of (finite.get call.state.forms name) in
      let count : number ≡ length call.state.blocks = last ∙ sym (ap (λ (bs : List Block). length bs) (blocks_are s call scans)) in
      let within : i < length items =
      omega (
        arith,
        blocks_within environment s t number name i item h stands,
        ap (λ (os : List Origin). length os)
            (blocks_list environment s call p done.0 done.1 number name
            ∙ ap (λ (from : List ℕ → List Origin). from name) (cond-true (number == length call.state.blocks) d.from.others.forms (d.from.others.blocks number) (eq-eqb number (length call.state.blocks) count))
            ∙ forms_kept environment s call p done.0 done.1 name),
        length-one_each (λ j. Carried (InForm name j)) items,
      ) in
      ap (λ n. origin environment s (InHeld n name i)) count ∙ stored_told environment s call done.0 done.1 name i (get_or items i item) (slice_get-get_or items i item within)

  -- nothing stands in a block that is none
  pub unstored : (p : Primitive) → primitive_of (argument 0 call.arguments) ≡ p → (number : ℕ) (name : List ℕ) (i : ℕ) (item : Item) → length s.blocks ≤ number →
      (p ≡ HandleBlock StoreBlock → number ≡ length s.blocks → ⊥) → found_at t (InHeld number name i) ≡ Some item → ⊥
  unstored p named number name i item past other stands =
      let done = call_does environment s t call h scans p named in
      let count = ap (λ (bs : List Block). length bs) (blocks_are s call scans) in
      let nothing : held_form name (block_at number call.state.blocks) ≡ None =
      ap (held_form name) (get_or_past call.state.blocks number None (omega (arith, past, count))) ∙ none_held name in
      absurd (omega (
        arith,
        blocks_within environment s t number name i item h stands,
        ap (λ (os : List Origin). length os)
            (blocks_list environment s call p done.0 done.1 number name
            ∙ blocks_aside p (call_of environment s call p done.0 done.1) number name (λ stores last. other stores (last ∙ count))
            ∙ blocks_kept environment s call p done.0 done.1 number name),
        ap (λ (found : Option Form). length (kept (InHeld number name) (items_of found))) nothing,
      ))
