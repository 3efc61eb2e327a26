-- What a step from a proper state may lose is bounded by the limits on states.
use Rattle.std.proofs.Common.{◌≡◌, ℕ, ◌+◌, ◌*◌, ◌^◌, ◌≤◌, true, List, [], ◌∷◌, ◌++◌, length, take, drop, All, refl, ◌∙◌, arith}
use Rattle.std.specs.Prelude.{Option, None, Some, nat_le, ◌&&◌}
use Rattle.std.specs.FinMap as finite
use Rattle.std.specs.Option.{option_map_or}
use Rattle.std.proofs.lemmas.Bool.{and_parts, leb-true}
use Rattle.std.proofs.lemmas.List.{length-append}
use Rattle.std.proofs.lemmas.List.Elements.{All-head, All-tail}
use Rattle.trac_rules.specs.declared.item.Item.{Item}
use Rattle.trac_rules.specs.declared.item.Item.TheVariants.{Byte, Gap}
use Rattle.trac_rules.specs.declared.limit.TheConstants.{FORM_COUNT_LIMIT, FORM_LIMIT, MARK_LIMIT, NAME_LIMIT, OUTPUT_LIMIT, TEXT_LIMIT}
use Rattle.trac_rules.specs.declared.primitive.BlockAction.{BlockAction}
use Rattle.trac_rules.specs.declared.primitive.BlockAction.TheVariants.{StoreBlock, FetchBlock, EraseBlock}
use Rattle.trac_rules.specs.declared.primitive.FormAction.{FormAction}
use Rattle.trac_rules.specs.declared.primitive.FormAction.TheVariants as action
use Rattle.trac_rules.specs.declared.primitive.Primitive.{Primitive}
use Rattle.trac_rules.specs.declared.primitive.Primitive.TheVariants.{SetMeta, Handle, HandleBlock}
use Rattle.trac_rules.specs.declared.scan.Front.{Front}
use Rattle.trac_rules.specs.declared.scan.Front.TheVariants as front
use Rattle.trac_rules.specs.Blocks.{block_at, forms_in, named_block_number}
use Rattle.trac_rules.specs.Effect.{argument}
use Rattle.trac_rules.specs.Form.{Form, all_items, extent}
use Rattle.trac_rules.specs.Handling.{named_form, without}
use Rattle.trac_rules.specs.Limits.{argument_bytes, marks, text_bytes, texts_fit, total_length}
use Rattle.trac_rules.specs.Performing.{primitive_of}
use Rattle.trac_rules.specs.Proper.{AreProperForms, IsProper, IsProperBlock, IsProperForm, IsProperStorage}
use Rattle.trac_rules.specs.Scanning.{front_of}
use Rattle.trac_rules.specs.Segmenting.{segmented}
use Rattle.trac_rules.specs.State.{Block, Forms, Frame, Held, State, Storage, storage_of}
use Rattle.trac_rules.specs.Undone.{names_in}
use Rattle.trac_rules.specs.Weights.{all_loss, block_loss, closing_loss, comma_loss, form_loss, gap_count, gaps_made, handled_loss, loss, loss_at, losses_from, named_loss, primitive_loss, taken_loss, weights_from}
use Rattle.trac_rules.proofs.CallsWeighed.{step_weight_within}
use Rattle.trac_rules.proofs.Cutting.{count_within_extent, extent-segmented, wide-segmented_from}
use Rattle.trac_rules.proofs.ProperBlocks.{IsProperEntry, block_at_proper, in_proper}
use Rattle.trac_rules.proofs.ProperDecided.{all_entries}
use Rattle.trac_rules.proofs.ProperStates.{without_proper}

-- ---- forms

-- what a form with its name weighs at most, and as many forms as may be live
abbrev form_most : ℕ
form_most = FORM_LIMIT + NAME_LIMIT + 1

abbrev forms_most : ℕ
forms_most = FORM_COUNT_LIMIT * form_most

-- a proper form has no more items, and stands for no more bytes, than a form may
form_parts : (name : List ℕ) (form : Form) → IsProperForm name form → (length name ≤ NAME_LIMIT) × (length (all_items form) ≤ FORM_LIMIT) × (extent (all_items form) ≤ FORM_LIMIT)
form_parts name form proper =
    let two = and_parts (nat_le (length name) NAME_LIMIT && nat_le (length (all_items form)) FORM_LIMIT) (nat_le (extent (all_items form)) FORM_LIMIT) proper.fits in
    let first = and_parts (nat_le (length name) NAME_LIMIT) (nat_le (length (all_items form)) FORM_LIMIT) two.0 in (
      leb-true (length name) NAME_LIMIT first.0,
      leb-true (length (all_items form)) FORM_LIMIT first.1,
      leb-true (extent (all_items form)) FORM_LIMIT two.1,
    )

each_within : (held : Held) → All IsProperEntry held → all_loss held ≤ length held * form_most
each_within [] all = omega arith
each_within (entry ∷ held) all =
    let parts = form_parts entry.0 entry.1 (All-head IsProperEntry entry held all) in
    omega (arith, parts.0, parts.1, length-append entry.1.before entry.1.after, each_within held (All-tail IsProperEntry entry held all))

held_within : (held : Held) → All IsProperEntry held → length held ≤ FORM_COUNT_LIMIT → all_loss held ≤ forms_most
held_within held all few = omega (arith, each_within held all, few)

each_entry : (forms : Forms) → AreProperForms forms → All IsProperEntry (finite.entries forms)
each_entry forms proper =
    all_entries IsProperForm (finite.entries forms) (finite.entries_sorted forms)
    (λ name form there. proper.each name form (finite.get-entries forms name ∙ there))

found_within : (name : List ℕ) (forms : Forms) → AreProperForms forms → named_loss name forms ≤ form_most
found_within name forms proper = by_found (finite.get forms name) refl
  where
    by_found : (found : Option Form) → finite.get forms name ≡ found → option_map_or (form_loss name) found 0 ≤ form_most
    by_found None there = omega arith
    by_found (Some form) there =
        let parts = form_parts name form (proper.each name form there) in
        omega (arith, parts.0, parts.1, length-append form.before form.after)

entries_within : (forms : Forms) → AreProperForms forms → all_loss (finite.entries forms) ≤ forms_most
entries_within forms proper = held_within (finite.entries forms) (each_entry forms proper) (omega (arith, finite.len-entries forms, proper.count))

taken_within : (names : List (List ℕ)) (forms : Forms) → AreProperForms forms → taken_loss names forms ≤ forms_most
taken_within names forms proper = omega (arith, entries_within forms proper)

-- ---- gaps

gaps_within : (items : List Item) → gap_count items ≤ length items
gaps_within [] = omega arith
gaps_within (Byte b ∷ items) = omega (arith, gaps_within items)
gaps_within (Gap ordinal width ∷ items) = omega (arith, gaps_within items)

made_within : (texts : List (List ℕ)) (name : List ℕ) (form : Form) → IsProperForm name form → gaps_made texts form ≤ FORM_LIMIT
made_within texts name form proper =
    let new : List Item = all_items (segmented texts form) in
    omega (
      arith,
      gaps_within new,
      count_within_extent new (wide-segmented_from 1 texts (all_items form) proper.wide),
      extent-segmented texts form,
      (form_parts name form proper).2,
    )

-- ---- a call

one_at_most : (text : List ℕ) → length (take 1 text) ≤ 1
one_at_most [] = omega arith
one_at_most (b ∷ text) = omega arith

module _ (arguments : List (List ℕ)) (storage : Storage) (proper : IsProperStorage storage) where
  segmenting_within : (found : Option Form) → named_form arguments storage ≡ found → option_map_or (gaps_made (drop 2 arguments)) found 0 ≤ FORM_LIMIT
  segmenting_within None there = omega arith
  segmenting_within (Some form) there = made_within (drop 2 arguments) (argument 1 arguments) form (proper.forms.each (argument 1 arguments) form there)

  handled_bounded : (action : FormAction) → handled_loss action arguments storage ≤ forms_most
  handled_bounded action.Define = omega (arith, found_within (argument 1 arguments) storage.forms proper.forms)
  handled_bounded action.Delete = taken_within (drop 1 arguments) storage.forms proper.forms
  handled_bounded action.DeleteAll = entries_within storage.forms proper.forms
  handled_bounded action.Segment = omega (arith, segmenting_within (named_form arguments storage) refl)
  handled_bounded other = omega arith

  few_in : (block : Block) → IsProperBlock block → length (forms_in block) ≤ FORM_COUNT_LIMIT
  few_in None held = omega arith
  few_in (Some held) is = is.count

  block_within : (number : ℕ) → all_loss (forms_in (block_at number storage.blocks)) ≤ forms_most
  block_within number =
      let is : IsProperBlock (block_at number storage.blocks) = block_at_proper storage.blocks number proper.blocks in
      held_within (forms_in (block_at number storage.blocks)) (in_proper (block_at number storage.blocks) is) (few_in (block_at number storage.blocks) is)

  fetching_bounded : (number : Option ℕ) →
      option_map_or (λ k. taken_loss (names_in (forms_in (block_at k storage.blocks))) storage.forms) number 0 ≤ forms_most
  fetching_bounded None = omega arith
  fetching_bounded (Some number) = taken_within (names_in (forms_in (block_at number storage.blocks))) storage.forms proper.forms

  erasing_bounded : (number : Option ℕ) →
      option_map_or (λ k. all_loss (forms_in (block_at k storage.blocks)) + named_loss (argument 1 arguments) storage.forms) number 0 ≤ forms_most + form_most
  erasing_bounded None = omega arith
  erasing_bounded (Some number) = omega (arith, block_within number, found_within (argument 1 arguments) storage.forms proper.forms)

  block_bounded : (action : BlockAction) → block_loss action arguments storage ≤ forms_most + form_most
  block_bounded StoreBlock =
      omega (arith, found_within (argument 1 arguments) (without (drop 2 arguments) storage.forms) (without_proper (drop 2 arguments) storage.forms proper.forms))
  block_bounded FetchBlock = omega (arith, fetching_bounded (named_block_number arguments storage))
  block_bounded EraseBlock = erasing_bounded (named_block_number arguments storage)

  primitive_bounded : (primitive : Primitive) → primitive_loss primitive arguments storage ≤ 1 + (forms_most + form_most)
  primitive_bounded SetMeta = omega (arith, one_at_most (argument 1 arguments))
  primitive_bounded (Handle action) = omega (arith, handled_bounded action)
  primitive_bounded (HandleBlock action) = omega (arith, block_bounded action)
  primitive_bounded other = omega arith

-- ---- a step

pub total_length-append : (texts : List (List ℕ)) (text : List ℕ) → total_length (texts ++ text ∷ []) ≡ total_length texts + length text
total_length-append [] text = omega arith
total_length-append (first ∷ texts) text = omega (arith, total_length-append texts text)

fits_so : (s : State) → texts_fit s ≡ true → (text_bytes s ≤ TEXT_LIMIT) × (marks s.frames ≤ MARK_LIMIT)
unfolding texts_fit
fits_so s fits =
    let two = and_parts (nat_le (text_bytes s) TEXT_LIMIT && nat_le (marks s.frames) MARK_LIMIT) (nat_le (length s.output) OUTPUT_LIMIT) fits in
    let first = and_parts (nat_le (text_bytes s) TEXT_LIMIT) (nat_le (marks s.frames) MARK_LIMIT) two.0 in
    (leb-true (text_bytes s) TEXT_LIMIT first.0, leb-true (marks s.frames) MARK_LIMIT first.1)

comma_bounded : (frames : List Frame) → comma_loss frames ≤ 1
comma_bounded [] = omega arith
comma_bounded (f ∷ fs) = omega arith

closing_bounded : (s : State) → IsProperStorage (storage_of s) → (frames : List Frame) → argument_bytes frames ≤ TEXT_LIMIT → marks frames ≤ MARK_LIMIT →
    closing_loss frames s ≤ 2 ^ 42
closing_bounded s proper [] bytes few = omega arith
closing_bounded s proper (f ∷ fs) bytes few =
    let arguments : List (List ℕ) = f.arguments ++ f.gathered ∷ [] in
    omega (
      arith,
      primitive_bounded arguments (storage_of s) proper (primitive_of (argument 0 arguments)),
      total_length-append f.arguments f.gathered,
      length-append f.arguments (f.gathered ∷ []),
      bytes,
      few,
    )

bounded_at : (at : Front) (s : State) → IsProper s → loss_at at s ≤ 2 ^ 42
bounded_at front.Nothing s proper = omega (arith, fits_so s proper.texts)
bounded_at front.Comma s proper = omega (arith, comma_bounded s.frames)
bounded_at front.Closing s proper =
    let fits = fits_so s proper.texts in
    closing_bounded s proper.storage s.frames (omega (arith, fits.0)) fits.1
bounded_at other s proper = omega arith

pub loss_bounded : (s : State) → IsProper s → loss s ≤ 2 ^ 42
loss_bounded s proper = bounded_at (front_of s.active) s proper

-- ---- steps

pub losses_bounded : (states : List State) → All IsProper states → losses_from states ≤ length states * 2 ^ 42
losses_bounded [] all = omega arith
losses_bounded (s ∷ states) all =
    omega (arith, loss_bounded s (All-head IsProper s states all), losses_bounded states (All-tail IsProper s states all))

pub weights_within_losses : (states : List State) → weights_from states ≤ losses_from states
weights_within_losses [] = omega arith
weights_within_losses (s ∷ states) = omega (arith, step_weight_within s, weights_within_losses states)
