-- Origins by lengths of the forms that a call puts, and of what it puts into blocks.
use Rattle.std.proofs.Common.{◌≡◌, ℕ, zero, suc, ◌+◌, ◌<◌, cond, List, [], ◌∷◌, ◌++◌, length, take, drop, get_or, refl, sym, ap, subst, ◌∙◌, arith}
use Rattle.std.specs.Prelude.{Option, None, Some, ◌==◌, bytes_eq, decimal, is_some, slice_get}
use Rattle.std.specs.FinMap as finite
use Rattle.std.proofs.lemmas.Bool.{cond-true, cond-false, eq-eqb}
use Rattle.std.proofs.lemmas.List.{drop_at, get_or-drop, length-append, length-drop}
use Rattle.std.proofs.lemmas.Option.{slice_get_within}
use Rattle.std.proofs.lemmas.Slice.Eq.{bytes_eq-Decides}
use Rattle.std.proofs.Math.Seq.{take-append-add}
use Rattle.trac_rules.specs.declared.item.Item.{Item}
use Rattle.trac_rules.specs.declared.item.Item.TheVariants.{Byte, Gap}
use Rattle.trac_rules.specs.declared.primitive.BlockAction.TheVariants.{StoreBlock, FetchBlock}
use Rattle.trac_rules.specs.declared.primitive.FormAction.TheVariants as action
use Rattle.trac_rules.specs.declared.primitive.Primitive.{Primitive}
use Rattle.trac_rules.specs.declared.primitive.Primitive.TheVariants.{Handle, HandleBlock}
use Rattle.trac_rules.specs.Blocks.{block_at, named_block_number}
use Rattle.trac_rules.specs.Cuts.{begins_with_gap}
use Rattle.trac_rules.specs.Effect.{Effect, argument}
use Rattle.trac_rules.specs.Filling.{text_numbered}
use Rattle.trac_rules.specs.Form.{Form, all_items, as_items, extent}
use Rattle.trac_rules.specs.Handling.{named_form}
use Rattle.trac_rules.specs.Scanning.{Call}
use Rattle.trac_rules.specs.Segmenting.{segmented}
use Rattle.trac_rules.specs.State.{Environment, State, storage_of}
use Rattle.trac_rules.proofs.Cuts.{IsCut, done as none_cut, kept as item_kept, made as gap_made, segmented_is_cut}
use Rattle.trac_rules.proofs.Cutting.{extent-append, extent-as_items}
use Rattle.trac_origins.specs.Places.{InForm, InHeld, Origin, Carried, Made, found_at, held_form, items_of}
use Rattle.trac_origins.specs.Performing.{Performed, fetched_from, items_from, on_block_from, on_form_from, puts_from, recut, segmented_from}
use Rattle.trac_origins.specs.Stepping.{origin}
use Rattle.trac_origins.specs.Lengths.{IsCallOf, cut_from, of_argument, of_form}
use Rattle.trac_origins.proofs.Told.{one_each-at}
use Rattle.trac_origins.proofs.ToldSteps.{always_made}
use Rattle.trac_origins.proofs.ToldEffects.{argument_told, blocks_kept, call_of, does_from, form_told, forms_kept, held_told, item_told, length_items}
use Rattle.trac_rules.proofs.Items.{length-as_items, no_gap}
use Rattle.trac_origins.proofs.Zips.{of_dropped}

-- ---- items that are cut

-- what the item of a number was: the item of this number, before which as many bytes stood
pub record WasItem (old new : List Item) (from : List Origin) (m : ℕ) (item : Item) : Type 0 where
  pub number : ℕ
  pub was : Item
  pub stood : slice_get old number ≡ Some was
  pub before : extent (take m new) ≡ extent (take number old)
  pub told : get_or (recut new old from) m Made ≡ cut_from item was (get_or from number Made)

-- of more items
later_item : (item : Item) (old new : List Item) (os : List Origin) (o : Origin) (m : ℕ) (x : Item) → WasItem old new os m x → WasItem (item ∷ old) (item ∷ new) (o ∷ os) (suc m) x
later_item (Byte b) old new os o m x w = record { number = suc w.number; was = w.was; stood = w.stood; before = omega (arith, w.before); told = w.told }
later_item (Gap k n) old new os o m x w = record { number = suc w.number; was = w.was; stood = w.stood; before = omega (arith, w.before); told = w.told }

same_item : (item : Item) (old new : List Item) (os : List Origin) (o : Origin) → WasItem (item ∷ old) (item ∷ new) (o ∷ os) 0 item
same_item (Byte b) old new os o = record { number = 0; was = Byte b; stood = refl; before = refl; told = refl }
same_item (Gap k n) old new os o = record { number = 0; was = Gap k n; stood = refl; before = refl; told = refl }

first_byte : (text : List ℕ) (rest : List Item) → 0 < length text → (b : ℕ) × (slice_get (as_items text ++ rest) 0 ≡ Some (Byte b))
first_byte [] rest some = absurd (omega arith)
first_byte (b ∷ text) rest some = (b, refl)

after_text : (text : List ℕ) (rest : List Item) (j : ℕ) → slice_get (as_items text ++ rest) (length text + j) ≡ slice_get rest j
after_text text rest j =
    sym (of_dropped (length text) (as_items text ++ rest) j) ∙ ap (λ (items : List Item). slice_get items j) (drop_at (as_items text) rest (length text) (length-as_items text))

extent_after : (text : List ℕ) (rest : List Item) (j : ℕ) → extent (take (length text + j) (as_items text ++ rest)) ≡ length text + extent (take j rest)
extent_after text rest j =
    ap (λ n. extent (take (n + j) (as_items text ++ rest))) (sym (length-as_items text))
    ∙ ap extent (take-append-add (as_items text) rest j)
    ∙ extent-append (as_items text) (take j rest) ∙ ap (λ n. n + extent (take j rest)) (extent-as_items text)

module _ (texts : List (List ℕ)) where
  pub was_item : {old new : List Item} → IsCut texts old new → (os : List Origin) → length os ≡ length old → (m : ℕ) (x : Item) → slice_get new m ≡ Some x → WasItem old new os m x
  was_item none_cut os same m x e = absurd (cc)
  was_item (item_kept {item = item} c) [] same m x e = absurd (omega (arith, same))
  was_item (item_kept {item = item} {old = old} {new = new} c) (o ∷ os) same zero x e =
      let first : item ≡ x = cc in
      subst (λ y. WasItem (item ∷ old) (item ∷ new) (o ∷ os) 0 y) first (same_item item old new os o)
  was_item (item_kept {item = item} {old = old} {new = new} c) (o ∷ os) same (suc m) x e =
      later_item item old new os o m x (was_item c os (omega (arith, same)) m x e)
  was_item (gap_made k {old = old} {new = new} some c) os same zero x e =
      let text = text_numbered k texts in
      let n = length text in
      let first : Gap k n ≡ x = cc in
      let at = first_byte text old some in
      subst (λ y. WasItem (as_items text ++ old) (Gap k n ∷ new) os 0 y) first (record {
        number = 0;
        was = Byte at.0;
        stood = at.1;
        before = refl;
        told = ap (λ (vs : List Origin). get_or vs 0 Made) (cond-false (begins_with_gap (as_items text ++ old)) _ _ (no_gap text old some));
      })
  was_item (gap_made k {old = old} {new = new} some c) os same (suc m) x e =
      let text = text_numbered k texts in
      let n = length text in
      let left : drop n (as_items text ++ old) ≡ old = drop_at (as_items text) old n (length-as_items text) in
      let w = was_item c (drop n os) (omega (arith, same, length-drop n os, length-append (as_items text) old, length-as_items text)) m x e in
      record {
        number = n + w.number;
        was = w.was;
        stood = after_text text old w.number ∙ w.stood;
        before = omega (arith, w.before, extent_after text old w.number);
        told = ap (λ (vs : List Origin). get_or vs (suc m) Made) (cond-false (begins_with_gap (as_items text ++ old)) _ _ (no_gap text old some))
            ∙ ap (λ (items : List Item). get_or (recut new items (drop n os)) m Made) left
            ∙ w.told ∙ ap (λ o. cut_from x w.was o) (get_or-drop n os w.number Made);
      }

-- ---- a call

module _ (environment : Environment) (s : State) (call : Call) (e : Effect) where
  abbrev under : ℕ → Origin
  under i = origin environment s (InForm (argument 1 call.arguments) i)

  -- a form that is put under the name that argument 1 is
  put_told : (primitive : Primitive) (is : IsCallOf environment s call primitive e) (items : List Origin) →
      (does_from environment s call primitive e is).forms (argument 1 call.arguments) ≡ (puts_from items (call_of environment s call primitive e is)).forms (argument 1 call.arguments) →
      (i : ℕ) → under i ≡ get_or items i Made
  put_told primitive is items same i =
      let name = argument 1 call.arguments in
      form_told environment s call primitive e is name i
      ∙ ap (λ (os : List Origin). get_or os i Made) (same ∙ cond-true (bytes_eq name name) items _ ((bytes_eq-Decides name name).1 refl))

  pub defined_told : IsCallOf environment s call (Handle action.Define) e → (i : ℕ) → i < length (argument 2 call.arguments) → under i ≡ of_argument call 2 i
  defined_told is i l = put_told (Handle action.Define) is _ refl i ∙ argument_told environment s call (Handle action.Define) e is 2 i l

  pub address_told : IsCallOf environment s call (HandleBlock StoreBlock) e → (i : ℕ) → under i ≡ Made
  address_told is i = put_told (HandleBlock StoreBlock) is _ refl i ∙ always_made (decimal (length call.state.blocks)) i

  -- `ss`
  pub segmented_told : IsCallOf environment s call (Handle action.Segment) e → (form : Form) → named_form call.arguments (storage_of call.state) ≡ Some form →
      (m : ℕ) (item : Item) → slice_get (all_items (segmented (drop 2 call.arguments) form)) m ≡ Some item →
      (number : ℕ) × (was : Item) × (slice_get (all_items form) number ≡ Some was)
      × (extent (take m (all_items (segmented (drop 2 call.arguments) form))) ≡ extent (take number (all_items form)))
      × (under m ≡ cut_from item was (of_form call number))
  segmented_told is form there m item stands =
      let p = Handle action.Segment in
      let d : Performed = call_of environment s call p e is in
      let texts = drop 2 call.arguments in
      let w = was_item texts (segmented_is_cut texts form) (items_from d) (length_items environment s call p e is form there) m item stands in
      let put : under m ≡ get_or (segmented_from form d) m Made =
      put_told p is (segmented_from form d)
      (ap (λ (found : Option Form). (on_form_from found (λ f. puts_from (segmented_from f d) d) d).forms (argument 1 call.arguments)) there) m in (
        w.number,
        w.was,
        w.stood,
        w.before,
        put ∙ w.told ∙ ap (cut_from item w.was) (item_told environment s call p e is form w.number there (slice_get_within (all_items form) w.number w.was w.stood)),
      )

  -- `sb`
  pub stored_told : IsCallOf environment s call (HandleBlock StoreBlock) e → (name : List ℕ) (i : ℕ) (item : Item) → found_at call.state (InForm name i) ≡ Some item →
      origin environment s (InHeld (length call.state.blocks) name i) ≡ Carried (InForm name i)
  stored_told is name i item stands =
      let p = HandleBlock StoreBlock in
      let d : Performed = call_of environment s call p e is in
      let number = length call.state.blocks in
      let items = items_of (finite.get call.state.forms name) in
      held_told environment s call p e is number name i
      ∙ ap (λ (from : List ℕ → List Origin). get_or (from name) i Made) (cond-true (number == number) d.from.others.forms (d.from.others.blocks number) (eq-eqb number number refl))
      ∙ ap (λ (os : List Origin). get_or os i Made) (forms_kept environment s call p e is name)
      ∙ one_each-at (λ j. Carried (InForm name j)) items i (slice_get_within items i item stands)

  -- `fb`
  fetched_is : (is : IsCallOf environment s call (HandleBlock FetchBlock) e) (number : ℕ) → named_block_number call.arguments (storage_of call.state) ≡ Some number → (name : List ℕ) →
      (does_from environment s call (HandleBlock FetchBlock) e is).forms name
      ≡ (fetched_from number (call_of environment s call (HandleBlock FetchBlock) e is)).forms name
  fetched_is is number addressed name =
      let d : Performed = call_of environment s call (HandleBlock FetchBlock) e is in
      ap (λ (found : Option ℕ). (on_block_from found (λ n. fetched_from n d) d).forms name) addressed

  pub fetched_told : IsCallOf environment s call (HandleBlock FetchBlock) e → (number : ℕ) → named_block_number call.arguments (storage_of call.state) ≡ Some number →
      (name : List ℕ) (i : ℕ) (item : Item) → found_at call.state (InHeld number name i) ≡ Some item → origin environment s (InForm name i) ≡ Carried (InHeld number name i)
  fetched_told is number addressed name i item stands = go (held_form name (block_at number call.state.blocks)) refl
    where
      p : Primitive
      p = HandleBlock FetchBlock

      d : Performed
      d = call_of environment s call p e is

      go : (found : Option Form) → held_form name (block_at number call.state.blocks) ≡ found → origin environment s (InForm name i) ≡ Carried (InHeld number name i)
      go None none = absurd (nothing (sym (ap (λ (f : Option Form). slice_get (items_of f) i) none) ∙ stands))
        where
          nothing : slice_get {X = Item} [] i ≡ Some item → ⊥
          nothing h = cc
      go (Some form) there =
          form_told environment s call p e is name i
          ∙ ap (λ (os : List Origin). get_or os i Made) (fetched_is is number addressed name)
          ∙ ap (λ (f : Option Form). get_or (cond (is_some f) (d.from.others.blocks number name) (d.from.others.forms name)) i Made) there
          ∙ ap (λ (os : List Origin). get_or os i Made) (blocks_kept environment s call p e is number name)
          ∙ one_each-at (λ j. Carried (InHeld number name j)) (items_of (held_form name (block_at number call.state.blocks))) i
          (slice_get_within (items_of (held_form name (block_at number call.state.blocks))) i item stands)

  pub unfetched_told : IsCallOf environment s call (HandleBlock FetchBlock) e → (number : ℕ) → named_block_number call.arguments (storage_of call.state) ≡ Some number →
      (name : List ℕ) (i : ℕ) (item : Item) → held_form name (block_at number call.state.blocks) ≡ None → found_at call.state (InForm name i) ≡ Some item →
      origin environment s (InForm name i) ≡ Carried (InForm name i)
  unfetched_told is number addressed name i item none stands =
      let p = HandleBlock FetchBlock in
      let d : Performed = call_of environment s call p e is in
      let items = items_of (finite.get call.state.forms name) in
      form_told environment s call p e is name i
      ∙ ap (λ (os : List Origin). get_or os i Made) (fetched_is is number addressed name)
      ∙ ap (λ (f : Option Form). get_or (cond (is_some f) (d.from.others.blocks number name) (d.from.others.forms name)) i Made) none
      ∙ ap (λ (os : List Origin). get_or os i Made) (forms_kept environment s call p e is name)
      ∙ one_each-at (λ j. Carried (InForm name j)) items i (slice_get_within items i item stands)

  pub unaddressed_told : IsCallOf environment s call (HandleBlock FetchBlock) e → named_block_number call.arguments (storage_of call.state) ≡ None →
      (name : List ℕ) (i : ℕ) (item : Item) → found_at call.state (InForm name i) ≡ Some item → origin environment s (InForm name i) ≡ Carried (InForm name i)
  unaddressed_told is none name i item stands =
      let p = HandleBlock FetchBlock in
      let d : Performed = call_of environment s call p e is in
      let items = items_of (finite.get call.state.forms name) in
      form_told environment s call p e is name i
      ∙ ap (λ (found : Option ℕ). get_or ((on_block_from found (λ n. fetched_from n d) d).forms name) i Made) none
      ∙ ap (λ (os : List Origin). get_or os i Made) (forms_kept environment s call p e is name)
      ∙ one_each-at (λ j. Carried (InForm name j)) items i (slice_get_within items i item stands)
