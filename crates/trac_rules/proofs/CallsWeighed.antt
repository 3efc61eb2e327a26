-- What the record of a step weighs is told by the state before the step, and is no more than the step may lose.
use Rattle.std.proofs.Common.{◌≡◌, ℕ, ◌+◌, ◌≤◌, cond, List, [], ◌∷◌, ◌++◌, drop, refl, sym, ap, ◌∙◌, arith}
use Rattle.std.specs.Prelude.{Option, None, Some, Result, Ok, Err, option_map}
use Rattle.std.specs.Cmp.Lexicographic.{slice_cmp, nat_list_cmp_total}
use Rattle.std.specs.FinMap as finite
use Rattle.std.specs.FinMap.Entries.{by_order, find, put}
use Rattle.std.specs.Option.{option_map_or}
use Rattle.std.specs.Ordering.{nat_cmp, is_eq}
use Rattle.std.specs.Result.{result_ok}
use Rattle.std.specs.declared.cmp.Ordering.{Ordering}
use Rattle.std.specs.declared.cmp.Ordering.TheVariants.{Less, Equal, Greater}
use Rattle.std.proofs.lemmas.List.{length-append}
use Rattle.trac_rules.specs.declared.primitive.BlockAction.{BlockAction}
use Rattle.trac_rules.specs.declared.primitive.BlockAction.TheVariants.{StoreBlock, FetchBlock, EraseBlock}
use Rattle.trac_rules.specs.declared.primitive.FormAction.{FormAction}
use Rattle.trac_rules.specs.declared.primitive.FormAction.TheVariants as action
use Rattle.trac_rules.specs.declared.primitive.Primitive.{Primitive}
use Rattle.trac_rules.specs.declared.primitive.Primitive.TheVariants.{Handle, HandleBlock}
use Rattle.trac_rules.specs.declared.refusal.Refusal.{Refusal}
use Rattle.trac_rules.specs.declared.scan.Front.{Front}
use Rattle.trac_rules.specs.declared.scan.Front.TheVariants as front
use Rattle.trac_rules.specs.Blocks.{block_at, forms_in, moved_out, named_block_number, with_name}
use Rattle.trac_rules.specs.Effect.{Effect, argument}
use Rattle.trac_rules.specs.Form.{Form}
use Rattle.trac_rules.specs.Handling.{named_form, without}
use Rattle.trac_rules.specs.Performing.{performed, primitive_of}
use Rattle.trac_rules.specs.Records.{Record, Called, call_recorded, record_in, record_of, recorded}
use Rattle.trac_rules.specs.Scanning.{Call, Scanned, Moves, Calls, closing_in, deleted, front_of, scan, scan_at}
use Rattle.trac_rules.specs.State.{Environment, Forms, Frame, Held, State, Storage, storage_of}
use Rattle.trac_rules.specs.Stepping.{name_called}
use Rattle.trac_rules.specs.Undone.{block_handling_lost, block_lost, bytes_lost, handling_lost, names_in, pointer_lost, replaced_lost, undone_by}
use Rattle.trac_rules.specs.Weights.{all_loss, block_loss, call_loss, call_weight, form_loss, form_weight, gaps_made, handled_loss, held_weight, kept_weight, loss, loss_at, meta_kept, meta_weight, named_loss, primitive_loss, step_weight, step_weight_in, taken_loss, undone_weight, weight}
use Rattle.trac_rules.proofs.CallsBack.{performed_kept}
use Rattle.trac_rules.proofs.Cuts.{made_is}
use Rattle.trac_rules.proofs.FormsBack.{swapped, taken_differs}
use Rattle.trac_rules.proofs.ProperBlocks.{get_taken}
use Rattle.trac_rules.proofs.Weighed.{weight_within}

-- ---- what is kept of forms and blocks

form_within : (name : List ℕ) (found : Option Form) → form_weight found ≤ option_map_or (form_loss name) found 0
form_within name None = omega arith
form_within name (Some form) = omega (arith, length-append form.before form.after)

held_loses : (held : Held) → held_weight held ≡ all_loss held
held_loses [] = refl
held_loses (entry ∷ held) = omega (arith, held_loses held, length-append entry.1.before entry.1.after)

weight-append : (held more : Held) → held_weight (held ++ more) ≡ held_weight held + held_weight more
weight-append [] more = omega arith
weight-append (entry ∷ held) more = omega (arith, weight-append held more)

-- among all forms a form that is put counts beside the others, where none stood under its name
loss-put : (name : List ℕ) (form : Form) (es : Held) → find (slice_cmp nat_cmp) name es ≡ None → all_loss (put (slice_cmp nat_cmp) name form es) ≡ form_loss name form + all_loss es
loss-put name form [] none = refl
loss-put name form (e ∷ es) none = at (slice_cmp nat_cmp name e.0) none (loss-put name form es)
  where
    at : (r : Ordering) → cond (is_eq r) (Some e.1) (find (slice_cmp nat_cmp) name es) ≡ None →
        (find (slice_cmp nat_cmp) name es ≡ None → all_loss (put (slice_cmp nat_cmp) name form es) ≡ form_loss name form + all_loss es) →
        all_loss (by_order r ((name, form) ∷ e ∷ es) ((e.0, form) ∷ es) (e ∷ put (slice_cmp nat_cmp) name form es)) ≡ form_loss name form + all_loss (e ∷ es)
    at Less none rest = refl
    at Equal none rest = absurd (cc)
    at Greater none rest = omega (arith, rest none)

-- a form that is taken counted beside those that are left
loss-taken : (name : List ℕ) (forms : Forms) → held_weight (with_name name (finite.get forms name)) + all_loss (finite.entries (finite.remove forms name)) ≡ all_loss (finite.entries forms)
loss-taken name forms = by_found (finite.get forms name) refl
  where
    by_found : (found : Option Form) → finite.get forms name ≡ found → held_weight (with_name name found) + all_loss (finite.entries (finite.remove forms name)) ≡ all_loss (finite.entries forms)
    by_found None there =
        let same : finite.remove forms name ≡ forms = swapped name None forms forms there (λ q t. refl) in
        omega (arith, ap (λ (m : Forms). all_loss (finite.entries m)) same)
    by_found (Some form) there =
        let back : finite.insert (finite.remove forms name) name form ≡ forms = swapped name (Some form) (finite.remove forms name) forms there (taken_differs name forms) in
        let none : find (slice_cmp nat_cmp) name (finite.entries (finite.remove forms name)) ≡ None =
        sym (finite.get-entries (finite.remove forms name) name) ∙ get_taken forms name in
        omega (
          arith,
          ap (λ (m : Forms). all_loss (finite.entries m)) back,
          ap all_loss (finite.entries-insert nat_list_cmp_total (finite.remove forms name) name form),
          loss-put name form (finite.entries (finite.remove forms name)) none,
          length-append form.before form.after,
        )

-- forms that are moved out counted beside those that are left
loss-moved_out : (names : List (List ℕ)) (forms : Forms) →
    held_weight (moved_out names forms) + all_loss (finite.entries (without names forms)) ≡ all_loss (finite.entries forms)
loss-moved_out [] forms = omega arith
loss-moved_out (name ∷ names) forms =
    omega (
      arith,
      loss-taken name forms,
      loss-moved_out names (finite.remove forms name),
      weight-append (with_name name (finite.get forms name)) (moved_out names (finite.remove forms name)),
    )

moved_out_within : (names : List (List ℕ)) (forms : Forms) → held_weight (moved_out names forms) ≤ taken_loss names forms
moved_out_within names forms = omega (arith, loss-moved_out names forms)

cut_within : (texts : List (List ℕ)) (found : Option Form) → undone_weight (bytes_lost texts found) ≤ option_map_or (gaps_made texts) found 0
cut_within texts None = omega arith
cut_within texts (Some form) = omega (arith, made_is texts form)

pointer_weighs_nothing : (found : Option Form) → undone_weight (pointer_lost found) ≡ 0
pointer_weighs_nothing None = refl
pointer_weighs_nothing (Some form) = refl

module _ (arguments : List (List ℕ)) (storage : Storage) where
  handled_within : (action : FormAction) → undone_weight (handling_lost action arguments storage) ≤ handled_loss action arguments storage
  handled_within action.Define = form_within (argument 1 arguments) (named_form arguments storage)
  handled_within action.Delete = moved_out_within (drop 1 arguments) storage.forms
  handled_within action.DeleteAll = omega (arith, held_loses (finite.entries storage.forms))
  handled_within action.Segment = cut_within (drop 2 arguments) (named_form arguments storage)
  handled_within action.Restore = omega (arith, pointer_weighs_nothing (named_form arguments storage))
  handled_within action.Call = omega arith
  handled_within (action.Read reading) = omega (arith, pointer_weighs_nothing (named_form arguments storage))
  handled_within action.ListNames = omega arith
  handled_within action.PrintForm = omega arith

  replaced_within : (number : Option ℕ) →
      undone_weight (replaced_lost number storage) ≤ option_map_or (λ k. taken_loss (names_in (forms_in (block_at k storage.blocks))) storage.forms) number 0
  replaced_within None = omega arith
  replaced_within (Some number) = moved_out_within (names_in (forms_in (block_at number storage.blocks))) storage.forms

  erased_within : (number : Option ℕ) (found : Option Form) → named_form arguments storage ≡ found →
      undone_weight (block_lost number found storage.blocks)
      ≤ option_map_or (λ k. all_loss (forms_in (block_at k storage.blocks)) + named_loss (argument 1 arguments) storage.forms) number 0
  erased_within None found there = omega arith
  erased_within (Some number) None there = omega arith
  erased_within (Some number) (Some form) there =
      let lost : named_loss (argument 1 arguments) storage.forms ≡ form_loss (argument 1 arguments) form =
      ap (λ (o : Option Form). option_map_or (form_loss (argument 1 arguments)) o 0) there in
      omega (arith, lost, held_loses (forms_in (block_at number storage.blocks)), length-append form.before form.after)

  block_within : (action : BlockAction) → undone_weight (block_handling_lost action arguments storage) ≤ block_loss action arguments storage
  block_within StoreBlock = form_within (argument 1 arguments) (finite.get (without (drop 2 arguments) storage.forms) (argument 1 arguments))
  block_within FetchBlock = replaced_within (named_block_number arguments storage)
  block_within EraseBlock = erased_within (named_block_number arguments storage) (named_form arguments storage) refl

  -- with one for a meta character
  pub primitive_within : (primitive : Primitive) →
      meta_kept primitive arguments + undone_weight (undone_by primitive arguments storage) ≤ primitive_loss primitive arguments storage
  primitive_within (Handle action) = omega (arith, handled_within action)
  primitive_within (HandleBlock action) = omega (arith, block_within action)
  primitive_within other = omega arith

-- ---- a call

old_meta_weighs : (old : ℕ) (new : Option ℕ) → meta_weight (option_map (λ _. old) new) ≡ meta_weight new
old_meta_weighs old None = refl
old_meta_weighs old (Some b) = refl

-- a call's record weighs what is said of the call
pub call_weighs : (environment : Environment) (call : Call) (e : Effect) → performed environment call ≡ Ok e →
    call_weight (call_recorded call e) ≡ kept_weight call.arguments (storage_of call.state)
call_weighs environment call e done =
    omega (arith, old_meta_weighs call.state.meta e.meta, (performed_kept environment call e done).meta)

kept_within : (arguments : List (List ℕ)) (storage : Storage) → kept_weight arguments storage ≤ call_loss arguments storage
kept_within arguments storage = omega (arith, primitive_within arguments storage (primitive_of (argument 0 arguments)))

-- ---- a step

-- where scanning asks for a call, the step may lose what that call may lose
abbrev LosesAsCall : Front → State → Scanned → Type 0
LosesAsCall at s (Moves t) = Unit {0}
LosesAsCall at s (Calls call) = loss_at at s ≡ call_loss call.arguments (storage_of call.state)

closing_loses : (frames : List Frame) (s : State) → LosesAsCall front.Closing (record s { frames = frames }) (closing_in frames (deleted 1 (record s { frames = frames })))
closing_loses [] s = tt
closing_loses (f ∷ fs) s = refl

loses_at : (at : Front) (s : State) → LosesAsCall at s (scan_at at s)
loses_at front.Closing s = closing_loses s.frames s
loses_at other s = tt

loses : (s : State) → LosesAsCall (front_of s.active) s (scan s)
unfolding scan
loses s = loses_at (front_of s.active) s

pub step_weight_within : (s : State) → step_weight s ≤ loss s
step_weight_within s = by_scanned (scan s) refl (loses s)
  where
    by_scanned : (x : Scanned) → scan s ≡ x → LosesAsCall (front_of s.active) s x → step_weight_in s x ≤ loss s
    by_scanned (Moves t) scanned lost = weight_within s (ap name_called scanned)
    by_scanned (Calls call) scanned lost = omega (arith, lost, kept_within call.arguments (storage_of call.state))

pub record_weighs : (environment : Environment) (s : State) (r : Record) → record_of environment s ≡ Some r → weight r ≡ step_weight s
record_weighs environment s r k = by_scanned (scan s) k
  where
    by_outcome : (call : Call) → (outcome : Result Effect Refusal) → performed environment call ≡ outcome →
        option_map Called (option_map (call_recorded call) (result_ok outcome)) ≡ Some r → weight r ≡ kept_weight call.arguments (storage_of call.state)
    by_outcome call (Ok e) done k =
        let same : Called (call_recorded call e) ≡ r = cc in
        sym (ap weight same) ∙ call_weighs environment call e done
    by_outcome call (Err refusal) done k = absurd (cc)

    by_scanned : (x : Scanned) → record_in environment s x ≡ Some r → weight r ≡ step_weight_in s x
    by_scanned (Moves t) k = let same : recorded s ≡ r = cc in sym (ap weight same)
    by_scanned (Calls call) k = by_outcome call (performed environment call) refl k

pub record_within : (environment : Environment) (s : State) (r : Record) → record_of environment s ≡ Some r → weight r ≤ loss s
record_within environment s r k = omega (arith, record_weighs environment s r k, step_weight_within s)
