-- No step takes a block off the list, or changes one but to erase it.
use Rattle.std.proofs.Common.{◌≡◌, ℕ, ◌⊎◌, ⊎_elim, inl, inr, Bool, true, false, List, [], ◌∷◌, ◌++◌, length, drop, refl, sym, subst, arith}
use Rattle.std.specs.Prelude.{Option, None, Some, Result, Ok, Err, decimal, slice_set, nat_le, position, ◌==◌, if◌then◌else◌}
use Rattle.std.specs.FinMap as finite
use Rattle.std.proofs.lemmas.Bool.{cases_eq}
use Rattle.std.proofs.lemmas.Grind.{get_or-set_at}
use Rattle.std.proofs.lemmas.List.{get_or_append_left, get_or-set_other, length-append, length-set}
use Rattle.trac_rules.specs.declared.limit.TheConstants.{FORM_COUNT_LIMIT}
use Rattle.trac_rules.specs.declared.primitive.BlockAction.{BlockAction}
use Rattle.trac_rules.specs.declared.primitive.BlockAction.TheVariants.{StoreBlock, FetchBlock, EraseBlock}
use Rattle.trac_rules.specs.declared.primitive.Computation.{Computation}
use Rattle.trac_rules.specs.declared.primitive.Computation.TheVariants.{Calculate}
use Rattle.trac_rules.specs.declared.primitive.FormAction.{FormAction}
use Rattle.trac_rules.specs.declared.primitive.FormAction.TheVariants.{Define, Segment, Restore, Read, PrintForm, Call as CallForm}
use Rattle.trac_rules.specs.declared.primitive.Primitive.{Primitive}
use Rattle.trac_rules.specs.declared.primitive.Primitive.TheVariants.{ReadString, ReadByte, Halt, SetMeta, Compute, Handle, HandleBlock}
use Rattle.trac_rules.specs.declared.refusal.Refusal.{Refusal}
use Rattle.trac_rules.specs.declared.refusal.Refusal.TheVariants.{TooLong}
use Rattle.trac_rules.specs.Blocks.{AreKept, block_at, block_fits, block_handled, erased, fetched, fetching, moved_out, named_block_number, on_block, put_aside}
use Rattle.trac_rules.specs.Computing.{computed, result_of}
use Rattle.trac_rules.specs.Effect.{Effect, argument, gives, gives_or_forces, leaves, prints}
use Rattle.trac_rules.specs.Filling.{called}
use Rattle.trac_rules.specs.Form.{Form, defined}
use Rattle.trac_rules.specs.Handling.{default_argument, form_read, gives_piece, handled, keeping, named_form, on_form, piece_read, pointing, putting}
use Rattle.trac_rules.specs.Limits.{may_be_put, texts_fit}
use Rattle.trac_rules.specs.Number.{calculated}
use Rattle.trac_rules.specs.Outcomes.{seen_as}
use Rattle.trac_rules.specs.Performing.{after_call, changed_by, effect_of, meta_set, performed, primitive_of, printed_after, trace_line}
use Rattle.trac_rules.specs.Pieces.{Piece}
use Rattle.trac_rules.specs.Reading.{byte_read, read_up_to, rest_read, unread}
use Rattle.trac_rules.specs.Scanning.{Call, Scanned, Moves, Calls, scan}
use Rattle.trac_rules.specs.Segmenting.{segmented}
use Rattle.trac_rules.specs.Showing.{shown}
use Rattle.trac_rules.specs.declared.width.Width.{Width}
use Rattle.trac_rules.specs.State.{Block, Environment, State, Storage, storage_of}
use Rattle.trac_rules.specs.Stepping.{carried_out, step}
use Rattle.trac_rules.proofs.Outcomes.{limited_Ok}
use Rattle.trac_rules.proofs.ProperStates.{storage-placed}
use Rattle.trac_rules.proofs.Scans.{ScanShows, scan_shows}

-- a storage has all of these blocks, some of them perhaps erased
abbrev HasBlocks : List Block → Storage → Type 0
HasBlocks n storage = AreKept n storage.blocks

kept_before : (old new more : List Block) → AreKept old new → AreKept old (new ++ more)
kept_before old new more kept = record {
  count = omega (arith, kept.count, length-append new more);
  each = λ number within.
      subst (λ (block : Block). (block ≡ block_at number old) ⊎ (block ≡ None)) (sym (get_or_append_left new more None number (omega (arith, kept.count, within))))
      (kept.each number within);
}

kept_erased : (old new : List Block) (at : ℕ) → AreKept old new → AreKept old (slice_set new at None)
kept_erased old new at kept = record {
  count = omega (arith, kept.count, length-set new at None);
  each = λ number within. ⊎_elim
      (λ (same : number ≡ at). inr (get_or-set_at new at number None None same (omega (arith, kept.count, within, same))))
      (λ (other : number ≡ at → ⊥).
      subst (λ (block : Block). (block ≡ block_at number old) ⊎ (block ≡ None)) (sym (get_or-set_other new at number None None other)) (kept.each number within))
      (cases_eq number at);
}

-- what is done leaves them
abbrev LeavesBlocks : List Block → Result Effect Refusal → Type 0
LeavesBlocks n (Ok e) = HasBlocks n e.storage
LeavesBlocks n (Err refusal) = Unit {0}

-- ---- calls on forms

fitting_leaves : (n : List Block) (fits : Bool) (outcome : Result Effect Refusal) → LeavesBlocks n outcome → LeavesBlocks n (if fits then outcome else Err TooLong)
fitting_leaves n true outcome l = l
fitting_leaves n false outcome l = tt

on_form_leaves : (n : List Block) (found : Option Form) (act : Form → Result Effect Refusal) (storage : Storage) → HasBlocks n storage →
    ((form : Form) → LeavesBlocks n (act form)) → LeavesBlocks n (on_form found act storage)
on_form_leaves n None act storage l acts = l
on_form_leaves n (Some form) act storage l acts = acts form

putting_leaves : (n : List Block) (name : List ℕ) (form : Form) (storage : Storage) → HasBlocks n storage → LeavesBlocks n (putting name form storage)
putting_leaves n name form storage l =
    fitting_leaves n (may_be_put name form storage.forms) (Ok (leaves (keeping (finite.insert storage.forms name form) storage))) l

piece_leaves : (n : List Block) (piece : Option Piece) (other name : List ℕ) (form : Form) (storage : Storage) → HasBlocks n storage →
    LeavesBlocks n (Ok (gives_piece piece other name form storage))
piece_leaves n None other name form storage l = l
piece_leaves n (Some piece) other name form storage l = l

handled_leaves : (n : List Block) (action : FormAction) (width : Width) (arguments : List (List ℕ)) (storage : Storage) → HasBlocks n storage → LeavesBlocks n (handled action width arguments storage)
handled_leaves n Define width arguments storage l = putting_leaves n (argument 1 arguments) (defined (argument 2 arguments)) storage l
handled_leaves n Segment width arguments storage l =
    on_form_leaves n (named_form arguments storage) (λ form. putting (argument 1 arguments) (segmented (drop 2 arguments) form) storage) storage l
    (λ form. putting_leaves n (argument 1 arguments) (segmented (drop 2 arguments) form) storage l)
handled_leaves n Restore width arguments storage l =
    on_form_leaves n (named_form arguments storage) (λ form. Ok (leaves (pointing (argument 1 arguments) 0 form storage))) storage l (λ form. l)
handled_leaves n CallForm width arguments storage l =
    on_form_leaves n (named_form arguments storage) (λ form. Ok (gives (called (drop 2 arguments) form) storage)) storage l (λ form. l)
handled_leaves n (Read reading) width arguments storage l =
    on_form_leaves n (named_form arguments storage) (λ form. Ok (form_read reading width arguments form storage)) storage l
    (λ form. piece_leaves n (piece_read reading width arguments form) (default_argument reading arguments) (argument 1 arguments) form storage l)
handled_leaves n PrintForm width arguments storage l =
    on_form_leaves n (named_form arguments storage) (λ form. Ok (prints (shown form) storage)) storage l (λ form. l)
handled_leaves n action width arguments storage l = l

-- ---- calls on blocks

on_block_leaves : (n : List Block) (found : Option ℕ) (act : ℕ → Result Effect Refusal) (storage : Storage) → HasBlocks n storage →
    ((number : ℕ) → LeavesBlocks n (act number)) → LeavesBlocks n (on_block found act storage)
on_block_leaves n None act storage l acts = l
on_block_leaves n (Some number) act storage l acts = acts number

block_handled_leaves : (n : List Block) (action : BlockAction) (arguments : List (List ℕ)) (storage : Storage) → HasBlocks n storage →
    LeavesBlocks n (block_handled action arguments storage)
block_handled_leaves n StoreBlock arguments storage l =
    let held = moved_out (drop 2 arguments) storage.forms in
    let more : HasBlocks n (put_aside (drop 2 arguments) storage) = kept_before n storage.blocks (Some held ∷ []) l in
    fitting_leaves n (block_fits held storage.blocks)
    (putting (argument 1 arguments) (defined (decimal (length storage.blocks))) (put_aside (drop 2 arguments) storage))
    (putting_leaves n (argument 1 arguments) (defined (decimal (length storage.blocks))) (put_aside (drop 2 arguments) storage) more)
block_handled_leaves n FetchBlock arguments storage l =
    on_block_leaves n (named_block_number arguments storage) (λ number. fetching number storage) storage l
    (λ number. fitting_leaves n (nat_le (finite.len (fetched number storage)) FORM_COUNT_LIMIT) (Ok (leaves (keeping (fetched number storage) storage))) l)
block_handled_leaves n EraseBlock arguments storage l =
    on_block_leaves n (named_block_number arguments storage) (λ number. Ok (leaves (erased number (argument 1 arguments) storage))) storage l
    (λ number. kept_erased n storage.blocks number l)

-- ---- each primitive

read_leaves : (n : List Block) (at : Option ℕ) (text : List ℕ) (ended : Bool) (storage : Storage) → HasBlocks n storage → LeavesBlocks n (read_up_to at text ended storage)
read_leaves n (Some k) text ended storage l = l
read_leaves n None text ended storage l = rest text ended
  where
    rest : (text : List ℕ) (ended : Bool) → LeavesBlocks n (rest_read text ended storage)
    rest text false = tt
    rest [] true = tt
    rest (b ∷ text) true = l

byte_leaves : (n : List Block) (text : List ℕ) (ended : Bool) (storage : Storage) → HasBlocks n storage → LeavesBlocks n (byte_read text ended storage)
byte_leaves n [] false storage l = tt
byte_leaves n [] true storage l = tt
byte_leaves n (b ∷ rest) ended storage l = l

meta_leaves : (n : List Block) (text : List ℕ) (storage : Storage) → HasBlocks n storage → HasBlocks n (meta_set text storage).storage
meta_leaves n [] storage l = l
meta_leaves n (b ∷ bytes) storage l = l

computed_leaves : (n : List Block) (computation : Computation) (width : Width) (arguments : List (List ℕ)) (storage : Storage) → HasBlocks n storage →
    HasBlocks n (computed computation width arguments storage).storage
computed_leaves n (Calculate operation) width arguments storage l = either (calculated (result_of operation) width (argument 1 arguments) (argument 2 arguments))
  where
    either : (value : Option (List ℕ)) → HasBlocks n (gives_or_forces value (argument 3 arguments) storage).storage
    either None = l
    either (Some value) = l
computed_leaves n computation width arguments storage l = l

effect_leaves : (n : List Block) (primitive : Primitive) (environment : Environment) (arguments : List (List ℕ)) (s : State) → HasBlocks n (storage_of s) →
    LeavesBlocks n (effect_of primitive environment arguments s)
effect_leaves n ReadString environment arguments s l =
    read_leaves n (position (λ b. b == s.meta) (unread environment.tape s)) (unread environment.tape s) environment.tape.ended (storage_of s) l
effect_leaves n ReadByte environment arguments s l = byte_leaves n (unread environment.tape s) environment.tape.ended (storage_of s) l
effect_leaves n Halt environment arguments s l = tt
effect_leaves n SetMeta environment arguments s l = meta_leaves n (argument 1 arguments) (storage_of s) l
effect_leaves n (Compute computation) environment arguments s l = computed_leaves n computation environment.width arguments (storage_of s) l
effect_leaves n (Handle action) environment arguments s l = handled_leaves n action environment.width arguments (storage_of s) l
effect_leaves n (HandleBlock action) environment arguments s l = block_handled_leaves n action arguments (storage_of s) l
effect_leaves n primitive environment arguments s l = l

traced_leaves : (n : List Block) (line : List ℕ) (outcome : Result Effect Refusal) → LeavesBlocks n outcome → LeavesBlocks n (seen_as (printed_after line) outcome)
traced_leaves n line (Ok e) l = l
traced_leaves n line (Err refusal) l = tt

performed_leaves : (n : List Block) (environment : Environment) (call : Call) → HasBlocks n (storage_of call.state) → LeavesBlocks n (performed environment call)
unfolding performed
performed_leaves n environment call l =
    traced_leaves n (trace_line call.state.trace call.kind call.arguments)
    (effect_of (primitive_of (argument 0 call.arguments)) environment call.arguments call.state)
    (effect_leaves n (primitive_of (argument 0 call.arguments)) environment call.arguments call.state l)

-- ---- a step

abbrev StepsOn : List Block → Result State Refusal → Type 0
StepsOn n (Ok t) = HasBlocks n (storage_of t)
StepsOn n (Err refusal) = Unit {0}

placed_leaves : (n : List Block) (call : Call) (outcome : Result Effect Refusal) → LeavesBlocks n outcome → StepsOn n (seen_as (after_call call) outcome)
placed_leaves n call (Ok e) l = subst (HasBlocks n) (sym (storage-placed call.kind e.forced e.value (changed_by e call.state))) l
placed_leaves n call (Err refusal) l = tt

carried_out_leaves : (n : List Block) (environment : Environment) (s : State) (x : Scanned) → ScanShows storage_of s x → HasBlocks n (storage_of s) →
    StepsOn n (carried_out environment x)
carried_out_leaves n environment s (Moves t) same l = subst (HasBlocks n) (sym same) l
carried_out_leaves n environment s (Calls call) same l =
    placed_leaves n call (performed environment call) (performed_leaves n environment call (subst (HasBlocks n) (sym same) l))

pub blocks_stay : (environment : Environment) (s t : State) → step environment s ≡ Ok t → AreKept s.blocks t.blocks
unfolding step
blocks_stay environment s t h =
    subst (StepsOn s.blocks) (limited_Ok texts_fit (carried_out environment (scan s)) t h).0
    (carried_out_leaves s.blocks environment s (scan s) (scan_shows storage_of (λ _ _ _ _. refl) s) (record { count = omega arith; each = λ number within. inl refl }))
