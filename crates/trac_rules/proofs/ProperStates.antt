-- States stay proper.
use Rattle.std.proofs.Common.{◌≡◌, ℕ, ◌+◌, ◌≤◌, Bool, true, false, List, [], ◌∷◌, length, drop, All, refl, sym, ap, subst, ◌∙◌, arith, ⊎_elim}
use Rattle.std.specs.Prelude.{Option, None, Some, Result, Ok, Err, position, nat_le, ◌==◌, decimal}
use Rattle.std.specs.Cmp.Lexicographic.{slice_cmp}
use Rattle.std.specs.FinMap as finite
use Rattle.std.specs.Ordering.{nat_cmp}
use Rattle.std.proofs.lemmas.Bool.{and_parts, and_from, leb-true, le-leb, cases_Bool}
use Rattle.std.proofs.lemmas.List.{length-append, length-set, take-append-drop}
use Rattle.std.proofs.lemmas.List.Elements.{All-append, All-cons, All-head, All-nil}
use Rattle.trac_rules.specs.declared.kind.Kind.{Kind}
use Rattle.trac_rules.specs.declared.kind.Kind.TheVariants.{Active, Neutral}
use Rattle.trac_rules.specs.declared.limit.TheConstants.{BLOCK_LIMIT, FORM_COUNT_LIMIT}
use Rattle.trac_rules.specs.declared.primitive.BlockAction.{BlockAction}
use Rattle.trac_rules.specs.declared.primitive.BlockAction.TheVariants.{StoreBlock, FetchBlock, EraseBlock}
use Rattle.trac_rules.specs.declared.primitive.Computation.{Computation}
use Rattle.trac_rules.specs.declared.primitive.Computation.TheVariants.{Calculate}
use Rattle.trac_rules.specs.declared.primitive.FormAction.{FormAction}
use Rattle.trac_rules.specs.declared.primitive.FormAction.TheVariants.{Define, Delete, DeleteAll, Segment, Restore, Read, ListNames, PrintForm, Call as CallForm}
use Rattle.trac_rules.specs.declared.primitive.Primitive.{Primitive}
use Rattle.trac_rules.specs.declared.primitive.Primitive.TheVariants.{ReadString, ReadByte, Halt, SetMeta, Compute, Handle, HandleBlock}
use Rattle.trac_rules.specs.declared.refusal.Refusal.{Refusal}
use Rattle.trac_rules.specs.Blocks.{block_at, block_fits, block_handled, erased, fetched, fetching, forms_in, moved_out, named_block_number, on_block, put_aside, storing}
use Rattle.trac_rules.specs.Computing.{computed, result_of}
use Rattle.trac_rules.specs.Effect.{Effect, argument, gives, gives_or_forces, leaves, prints}
use Rattle.trac_rules.specs.Filling.{called}
use Rattle.trac_rules.specs.declared.item.Item.{Item}
use Rattle.trac_rules.specs.Form.{Form, IsWide, all_items, at_start, defined, pointed_at}
use Rattle.trac_rules.specs.Handling.{default_argument, form_read, gives_piece, handled, keeping, named_form, on_form, piece_read, pointing, putting, without}
use Rattle.trac_rules.specs.Limits.{form_fits, may_be_put, texts_fit}
use Rattle.trac_rules.specs.Number.{calculated}
use Rattle.trac_rules.specs.Outcomes.{seen_as}
use Rattle.trac_rules.specs.Performing.{after_call, changed_by, effect_of, meta_set, performed, placed, primitive_of, printed_after, trace_line}
use Rattle.trac_rules.specs.Proper.{AreProperForms, IsProper, IsProperBlock, IsProperForm, IsProperStorage}
use Rattle.trac_rules.specs.Pieces.{Piece}
use Rattle.trac_rules.specs.Reading.{byte_read, read_up_to, rest_read, unread}
use Rattle.trac_rules.specs.Scanning.{Call, Scanned, Moves, Calls, scan}
use Rattle.trac_rules.specs.Segmenting.{segmented}
use Rattle.trac_rules.specs.Showing.{shown}
use Rattle.trac_rules.specs.declared.width.Width.{Width}
use Rattle.trac_rules.specs.State.{Environment, Forms, State, Storage, initial, storage_of}
use Rattle.trac_rules.specs.Stepping.{carried_out, step}
use Rattle.trac_rules.proofs.Cutting.{wide-as_items, wide-segmented_from}
use Rattle.trac_rules.proofs.NamedForms.{found_of_taken, get-put, len-put_again, len-taken}
use Rattle.trac_rules.proofs.Outcomes.{limited_Ok}
use Rattle.trac_rules.proofs.ProperBlocks.{All-append_right, each_put, each_with_all, erased_blocks, forms_at_proper, moved_out_held}
use Rattle.trac_rules.proofs.Scans.{ScanShows, gathered_in_shows, scan_shows}

-- ---- proper forms

-- no forms are proper
none_proper : AreProperForms finite.empty
none_proper = record {
  count = (let none = finite.len-empty (slice_cmp nat_cmp) Form in omega (arith, none));
  each = λ name form there. absurd (let none : None ≡ Some form = sym (finite.get-empty (slice_cmp nat_cmp) name) ∙ there in cc);
}

-- with a proper form put they stay so, where they are not too many
put_proper : (forms : Forms) (name : List ℕ) (form : Form) → AreProperForms forms → IsProperForm name form →
    finite.len (finite.insert forms name form) ≤ FORM_COUNT_LIMIT → AreProperForms (finite.insert forms name form)
put_proper forms name form proper one few = record {
  count = few;
  each = each_put forms name form proper.each one;
}

-- a form that may be put, its gaps wide, leaves proper forms proper
pub proper_of_judged : (name : List ℕ) (form : Form) (forms : Forms) → AreProperForms forms → All IsWide (all_items form) → may_be_put name form forms ≡ true →
    AreProperForms (finite.insert forms name form)
unfolding may_be_put
proper_of_judged name form forms proper wide judged =
    let parts = and_parts (form_fits name form) (nat_le (finite.len (finite.insert forms name form)) FORM_COUNT_LIMIT) judged in
    put_proper forms name form proper (record { fits = parts.0; wide = wide }) (leb-true (finite.len (finite.insert forms name form)) FORM_COUNT_LIMIT parts.1)

pub judged_of_proper : (name : List ℕ) (form : Form) (forms : Forms) → AreProperForms (finite.insert forms name form) → may_be_put name form forms ≡ true
unfolding may_be_put
judged_of_proper name form forms proper =
    and_from (form_fits name form) (nat_le (finite.len (finite.insert forms name form)) FORM_COUNT_LIMIT) (proper.each name form (get-put forms name form)).fits
    (le-leb (finite.len (finite.insert forms name form)) FORM_COUNT_LIMIT proper.count)

-- whether a form of these items, and its name, are within the limits
abbrev items_fit : List ℕ → List Item → Bool
items_fit name items = form_fits name (at_start items)

-- a form whose pointer moves leaves them proper, since its items stay
pointed_proper : (name : List ℕ) (place : ℕ) (form : Form) (forms : Forms) → AreProperForms forms → finite.get forms name ≡ Some form →
    AreProperForms (finite.insert forms name (pointed_at place (all_items form)))
pointed_proper name place form forms proper there =
    let same = proper.each name form there in
    let items : all_items (pointed_at place (all_items form)) ≡ all_items form = take-append-drop place (all_items form) in
    put_proper forms name (pointed_at place (all_items form)) proper
    (record { fits = ap (items_fit name) items ∙ same.fits; wide = subst (λ is. All IsWide is) (sym items) same.wide })
    (let again = len-put_again forms name form (pointed_at place (all_items form)) there in omega (arith, again, proper.count))

pub without_proper : (names : List (List ℕ)) (forms : Forms) → AreProperForms forms → AreProperForms (without names forms)
without_proper [] forms proper = proper
without_proper (name ∷ names) forms proper =
    without_proper names (finite.remove forms name) (record {
      count = omega (arith, len-taken forms name, proper.count);
      each = λ q found there. proper.each q found (found_of_taken forms name q found there);
    })

-- ---- effects

-- what a primitive does leaves a proper storage
abbrev LeavesProper : Result Effect Refusal → Type 0
LeavesProper (Ok e) = IsProperStorage e.storage
LeavesProper (Err refusal) = Unit {0}

with_proper : (forms : Forms) (storage : Storage) → IsProperStorage storage → AreProperForms forms → IsProperStorage (keeping forms storage)
with_proper forms storage proper now = record { forms = now; block_count = proper.block_count; blocks = proper.blocks }

-- a form that is put, its gaps wide, or refused
putting_proper : (name : List ℕ) (form : Form) (storage : Storage) → IsProperStorage storage → All IsWide (all_items form) → LeavesProper (putting name form storage)
putting_proper name form storage proper wide =
    ⊎_elim
    (λ (t : may_be_put name form storage.forms ≡ true).
    rw t (with_proper (finite.insert storage.forms name form) storage proper (proper_of_judged name form storage.forms proper.forms wide t)))
    (λ (t : may_be_put name form storage.forms ≡ false). rw t tt)
    (cases_Bool (may_be_put name form storage.forms))

-- a form that is acted upon, where there is one
on_form_proper : (found : Option Form) (act : Form → Result Effect Refusal) (storage : Storage) → IsProperStorage storage →
    ((form : Form) → found ≡ Some form → LeavesProper (act form)) → LeavesProper (on_form found act storage)
on_form_proper None act storage proper acts = proper
on_form_proper (Some form) act storage proper acts = acts form refl

-- a form whose pointer moves
pointing_proper : (name : List ℕ) (place : ℕ) (form : Form) (storage : Storage) → IsProperStorage storage → finite.get storage.forms name ≡ Some form →
    IsProperStorage (pointing name place form storage)
pointing_proper name place form storage proper there =
    with_proper (finite.insert storage.forms name (pointed_at place (all_items form))) storage proper (pointed_proper name place form storage.forms proper.forms there)

-- a form that is read at its pointer
piece_proper : (piece : Option Piece) (other name : List ℕ) (form : Form) (storage : Storage) → IsProperStorage storage → finite.get storage.forms name ≡ Some form →
    LeavesProper (Ok (gives_piece piece other name form storage))
piece_proper None other name form storage proper there = proper
piece_proper (Some piece) other name form storage proper there = pointing_proper name piece.place form storage proper there

-- each call on forms
handled_proper : (action : FormAction) (width : Width) (arguments : List (List ℕ)) (storage : Storage) → IsProperStorage storage → LeavesProper (handled action width arguments storage)
handled_proper Define width arguments storage proper =
    putting_proper (argument 1 arguments) (defined (argument 2 arguments)) storage proper (wide-as_items (argument 2 arguments))
handled_proper Delete width arguments storage proper =
    with_proper (without (drop 1 arguments) storage.forms) storage proper (without_proper (drop 1 arguments) storage.forms proper.forms)
handled_proper DeleteAll width arguments storage proper = with_proper finite.empty storage proper none_proper
handled_proper Segment width arguments storage proper =
    on_form_proper (named_form arguments storage) (λ form. putting (argument 1 arguments) (segmented (drop 2 arguments) form) storage) storage proper
    (λ form there. putting_proper (argument 1 arguments) (segmented (drop 2 arguments) form) storage proper
    (wide-segmented_from 1 (drop 2 arguments) (all_items form) (proper.forms.each (argument 1 arguments) form there).wide))
handled_proper Restore width arguments storage proper =
    on_form_proper (named_form arguments storage) (λ form. Ok (leaves (pointing (argument 1 arguments) 0 form storage))) storage proper
    (λ form there. pointing_proper (argument 1 arguments) 0 form storage proper there)
handled_proper CallForm width arguments storage proper =
    on_form_proper (named_form arguments storage) (λ form. Ok (gives (called (drop 2 arguments) form) storage)) storage proper (λ form there. proper)
handled_proper (Read reading) width arguments storage proper =
    on_form_proper (named_form arguments storage) (λ form. Ok (form_read reading width arguments form storage)) storage proper
    (λ form there. piece_proper (piece_read reading width arguments form) (default_argument reading arguments) (argument 1 arguments) form storage proper there)
handled_proper ListNames width arguments storage proper = proper
handled_proper PrintForm width arguments storage proper =
    on_form_proper (named_form arguments storage) (λ form. Ok (prints (shown form) storage)) storage proper (λ form there. proper)

-- ---- blocks

-- forms that are put aside, where their block fits
put_aside_proper : (names : List (List ℕ)) (storage : Storage) → IsProperStorage storage → block_fits (moved_out names storage.forms) storage.blocks ≡ true →
    IsProperStorage (put_aside names storage)
put_aside_proper names storage proper fits =
    let held = moved_out names storage.forms in
    let parts = and_parts (nat_le (length held) FORM_COUNT_LIMIT) (nat_le (length storage.blocks + 1) BLOCK_LIMIT) fits in
    record {
      forms = without_proper names storage.forms proper.forms;
      block_count = omega (arith, leb-true (length storage.blocks + 1) BLOCK_LIMIT parts.1, length-append storage.blocks (Some held ∷ []));
      blocks = All-append IsProperBlock storage.blocks (Some held ∷ []) proper.blocks
          (All-cons IsProperBlock (Some held) [] (moved_out_held names storage.forms proper.forms (leb-true (length held) FORM_COUNT_LIMIT parts.0)) (All-nil IsProperBlock));
    }

storing_proper : (name : List ℕ) (names : List (List ℕ)) (storage : Storage) → IsProperStorage storage → LeavesProper (storing name names storage)
storing_proper name names storage proper =
    ⊎_elim
    (λ (t : block_fits (moved_out names storage.forms) storage.blocks ≡ true).
    rw t (putting_proper name (defined (decimal (length storage.blocks))) (put_aside names storage) (put_aside_proper names storage proper t)
    (wide-as_items (decimal (length storage.blocks)))))
    (λ (t : block_fits (moved_out names storage.forms) storage.blocks ≡ false). rw t tt)
    (cases_Bool (block_fits (moved_out names storage.forms) storage.blocks))

fetching_proper : (number : ℕ) (storage : Storage) → IsProperStorage storage → LeavesProper (fetching number storage)
fetching_proper number storage proper =
    ⊎_elim
    (λ (t : nat_le (finite.len (fetched number storage)) FORM_COUNT_LIMIT ≡ true).
    rw t (with_proper (fetched number storage) storage proper (record {
      count = leb-true (finite.len (fetched number storage)) FORM_COUNT_LIMIT t;
      each = each_with_all (forms_in (block_at number storage.blocks)) storage.forms (forms_at_proper storage.blocks number proper.blocks) proper.forms.each;
    })))
    (λ (t : nat_le (finite.len (fetched number storage)) FORM_COUNT_LIMIT ≡ false). rw t tt)
    (cases_Bool (nat_le (finite.len (fetched number storage)) FORM_COUNT_LIMIT))

erased_proper : (number : ℕ) (name : List ℕ) (storage : Storage) → IsProperStorage storage → IsProperStorage (erased number name storage)
erased_proper number name storage proper = record {
  forms = without_proper (name ∷ []) storage.forms proper.forms;
  block_count = omega (arith, length-set storage.blocks number None, proper.block_count);
  blocks = erased_blocks storage.blocks number proper.blocks;
}

-- a block that is acted upon, where there is one
on_block_proper : (found : Option ℕ) (act : ℕ → Result Effect Refusal) (storage : Storage) → IsProperStorage storage →
    ((number : ℕ) → LeavesProper (act number)) → LeavesProper (on_block found act storage)
on_block_proper None act storage proper acts = proper
on_block_proper (Some number) act storage proper acts = acts number

-- each call on blocks
block_handled_proper : (action : BlockAction) (arguments : List (List ℕ)) (storage : Storage) → IsProperStorage storage →
    LeavesProper (block_handled action arguments storage)
block_handled_proper StoreBlock arguments storage proper = storing_proper (argument 1 arguments) (drop 2 arguments) storage proper
block_handled_proper FetchBlock arguments storage proper =
    on_block_proper (named_block_number arguments storage) (λ number. fetching number storage) storage proper (λ number. fetching_proper number storage proper)
block_handled_proper EraseBlock arguments storage proper =
    on_block_proper (named_block_number arguments storage) (λ number. Ok (leaves (erased number (argument 1 arguments) storage))) storage proper
    (λ number. erased_proper number (argument 1 arguments) storage proper)

-- and what is refused would not be proper: a block that does not fit
pub fits_of_proper : (names : List (List ℕ)) (storage : Storage) → IsProperStorage (put_aside names storage) → block_fits (moved_out names storage.forms) storage.blocks ≡ true
fits_of_proper names storage proper =
    let held = moved_out names storage.forms in
    let last = All-append_right IsProperBlock storage.blocks (Some held ∷ []) proper.blocks in
    and_from (nat_le (length held) FORM_COUNT_LIMIT) (nat_le (length storage.blocks + 1) BLOCK_LIMIT)
    (le-leb (length held) FORM_COUNT_LIMIT (All-head IsProperBlock (Some held) [] last).count)
    (le-leb (length storage.blocks + 1) BLOCK_LIMIT (omega (arith, proper.block_count, length-append storage.blocks (Some held ∷ []))))

-- and forms that are too many
pub fetching_of_proper : (number : ℕ) (storage : Storage) → AreProperForms (fetched number storage) →
    fetching number storage ≡ Ok (leaves (keeping (fetched number storage) storage))
fetching_of_proper number storage proper = rw (le-leb (finite.len (fetched number storage)) FORM_COUNT_LIMIT proper.count) refl

-- ---- each primitive

read_proper : (at : Option ℕ) (text : List ℕ) (ended : Bool) (storage : Storage) → IsProperStorage storage → LeavesProper (read_up_to at text ended storage)
read_proper (Some k) text ended storage proper = proper
read_proper None text ended storage proper = rest text ended
  where
    rest : (text : List ℕ) (ended : Bool) → LeavesProper (rest_read text ended storage)
    rest text false = tt
    rest [] true = tt
    rest (b ∷ text) true = proper

byte_proper : (text : List ℕ) (ended : Bool) (storage : Storage) → IsProperStorage storage → LeavesProper (byte_read text ended storage)
byte_proper [] false storage proper = tt
byte_proper [] true storage proper = tt
byte_proper (b ∷ rest) ended storage proper = proper

meta_proper : (text : List ℕ) (storage : Storage) → IsProperStorage storage → IsProperStorage (meta_set text storage).storage
meta_proper [] storage proper = proper
meta_proper (b ∷ bytes) storage proper = proper

-- computing
computed_proper : (computation : Computation) (width : Width) (arguments : List (List ℕ)) (storage : Storage) → IsProperStorage storage →
    IsProperStorage (computed computation width arguments storage).storage
computed_proper (Calculate operation) width arguments storage proper = either (calculated (result_of operation) width (argument 1 arguments) (argument 2 arguments))
  where
    either : (value : Option (List ℕ)) → IsProperStorage (gives_or_forces value (argument 3 arguments) storage).storage
    either None = proper
    either (Some value) = proper
computed_proper computation width arguments storage proper = proper

-- each primitive
effect_proper : (primitive : Primitive) (environment : Environment) (arguments : List (List ℕ)) (s : State) → IsProperStorage (storage_of s) →
    LeavesProper (effect_of primitive environment arguments s)
effect_proper ReadString environment arguments s proper =
    read_proper (position (λ b. b == s.meta) (unread environment.tape s)) (unread environment.tape s) environment.tape.ended (storage_of s) proper
effect_proper ReadByte environment arguments s proper = byte_proper (unread environment.tape s) environment.tape.ended (storage_of s) proper
effect_proper Halt environment arguments s proper = tt
effect_proper SetMeta environment arguments s proper = meta_proper (argument 1 arguments) (storage_of s) proper
effect_proper (Compute computation) environment arguments s proper = computed_proper computation environment.width arguments (storage_of s) proper
effect_proper (Handle action) environment arguments s proper = handled_proper action environment.width arguments (storage_of s) proper
effect_proper (HandleBlock action) environment arguments s proper = block_handled_proper action arguments (storage_of s) proper
effect_proper primitive environment arguments s proper = proper

traced_proper : (line : List ℕ) (outcome : Result Effect Refusal) → LeavesProper outcome → LeavesProper (seen_as (printed_after line) outcome)
traced_proper line (Ok e) proper = proper
traced_proper line (Err refusal) proper = tt

performed_proper : (environment : Environment) (call : Call) → IsProperStorage (storage_of call.state) → LeavesProper (performed environment call)
unfolding performed
performed_proper environment call proper =
    traced_proper (trace_line call.state.trace call.kind call.arguments) (effect_of (primitive_of (argument 0 call.arguments)) environment call.arguments call.state)
    (effect_proper (primitive_of (argument 0 call.arguments)) environment call.arguments call.state proper)

-- ---- a step

-- a step leaves a proper storage
abbrev StepsProper : Result State Refusal → Type 0
StepsProper (Ok t) = IsProperStorage (storage_of t)
StepsProper (Err refusal) = Unit {0}

pub storage-placed : (kind : Kind) (forced : Bool) (value : List ℕ) (s : State) → storage_of (placed kind forced value s) ≡ storage_of s
storage-placed Active forced value s = refl
storage-placed Neutral true value s = refl
storage-placed Neutral false value s = gathered_in_shows storage_of (λ _ _ _ _. refl) s.frames value s

placed_proper : (call : Call) (outcome : Result Effect Refusal) → LeavesProper outcome → StepsProper (seen_as (after_call call) outcome)
placed_proper call (Ok e) proper = subst IsProperStorage (sym (storage-placed call.kind e.forced e.value (changed_by e call.state))) proper
placed_proper call (Err refusal) proper = tt

-- what scanning gives is carried out
carried_out_proper : (environment : Environment) (s : State) (x : Scanned) → ScanShows storage_of s x → IsProperStorage (storage_of s) →
    StepsProper (carried_out environment x)
carried_out_proper environment s (Moves t) same proper = subst IsProperStorage (sym same) proper
carried_out_proper environment s (Calls call) same proper =
    placed_proper call (performed environment call) (performed_proper environment call (subst IsProperStorage (sym same) proper))

pub step_proper : (environment : Environment) (s t : State) → IsProper s → step environment s ≡ Ok t → IsProper t
unfolding step
step_proper environment s t proper h =
    let accepted = limited_Ok texts_fit (carried_out environment (scan s)) t h in
    record {
      texts = accepted.1;
      storage = subst StepsProper accepted.0 (carried_out_proper environment s (scan s) (scan_shows storage_of (λ _ _ _ _. refl) s) proper.storage);
    }

pub initial_proper : IsProper initial
unfolding texts_fit
initial_proper = record {
  texts = refl;
  storage = record { forms = none_proper; block_count = omega arith; blocks = All-nil IsProperBlock };
}
