-- Calls on blocks, computed where the forms stand in a list.
use Rattle.std.proofs.Common.{◌≡◌, ℕ, Bool, true, false, cond, List, [], ◌∷◌, ◌++◌, length, drop, refl, ap, ◌∙◌}
use Rattle.std.specs.Prelude.{Option, None, Some, Result, Ok, Err, decimal, nat_le, ◌&&◌, option_map, slice_set}
use Rattle.std.specs.Bool.{then_some}
use Rattle.std.specs.Cmp.Lexicographic.{slice_cmp, nat_list_cmp_total}
use Rattle.std.specs.FinMap as finite
use Rattle.std.specs.FinMap.Entries.{find}
use Rattle.std.specs.Option.{option_and_then}
use Rattle.std.specs.Ordering.{nat_cmp}
use Rattle.trac_rules.specs.declared.limit.TheConstants.{FORM_COUNT_LIMIT}
use Rattle.trac_rules.specs.declared.primitive.BlockAction.{BlockAction}
use Rattle.trac_rules.specs.declared.primitive.BlockAction.TheVariants.{StoreBlock, FetchBlock, EraseBlock}
use Rattle.trac_rules.specs.declared.primitive.Primitive.{Primitive}
use Rattle.trac_rules.specs.declared.primitive.Primitive.TheVariants.{HandleBlock}
use Rattle.trac_rules.specs.declared.refusal.Refusal.{Refusal}
use Rattle.trac_rules.specs.declared.refusal.Refusal.TheVariants.{TooLong}
use Rattle.trac_rules.specs.Blocks.{block_at, block_fits, block_handled, erased, fetching, forms_in, moved_out, number_addressed, on_block, with_all, with_name}
use Rattle.trac_rules.specs.Effect.{Effect, argument, leaves}
use Rattle.trac_rules.specs.Form.{Form, defined}
use Rattle.trac_rules.specs.Handling.{putting}
use Rattle.trac_rules.specs.Performing.{effect_of, primitive_of}
use Rattle.trac_rules.specs.RecordRows.{stored}
use Rattle.trac_rules.specs.Rows.{Named, Turns, with_storage}
use Rattle.trac_rules.specs.State.{Block, Forms, Held, Storage}
use Rattle.trac_rules.proofs.FormCalls.{all_removed, entries-held, held, held-removed, in_order, judged, may_be_put-held, removed, same_held, without-held}

-- forms that are moved out of a list
abbrev pub moved_from : List (List ℕ) → Named → Held
moved_from [] es = []
moved_from (name ∷ names) es = with_name name (find (slice_cmp nat_cmp) name es) ++ moved_from names (removed name es)

pub moved_out-held : (names : List (List ℕ)) (es : Named) → moved_out names (held es) ≡ moved_from names es
moved_out-held [] es = refl
moved_out-held (name ∷ names) es =
    ap (λ found. with_name name found ++ moved_out names (finite.remove (held es) name)) (finite.get-from_entries nat_list_cmp_total es name)
    ∙ ap (λ forms. with_name name (find (slice_cmp nat_cmp) name es) ++ moved_out names forms) (held-removed name es)
    ∙ ap (λ rest. with_name name (find (slice_cmp nat_cmp) name es) ++ rest) (moved_out-held names (removed name es))

-- forms that are put into a list, the last one first
abbrev pub all_put : Held → Named → Named
all_put [] es = es
all_put (entry ∷ entries) es = all_put entries (entry ∷ es)

pub with_all-held : (entries : Held) (es : Named) → with_all entries (held es) ≡ held (all_put entries es)
with_all-held [] es = refl
with_all-held (entry ∷ entries) es = with_all-held entries (entry ∷ es)

len-held : (es : Named) → finite.len (held es) ≡ length (in_order es)
len-held es = finite.len-entries (held es) ∙ ap length (entries-held es)

-- ---- rows

-- the form of this name in a list, if there is one
abbrev pub looked_up : List ℕ → Named → Option Form
looked_up name es = find (slice_cmp nat_cmp) name es

pub found_in : (name : List ℕ) (es : Named) → finite.get (held es) name ≡ looked_up name es
found_in name es = finite.get-from_entries nat_list_cmp_total es name

-- the number of the block whose address stands in a list under this name
abbrev pub number_in : List ℕ → Named → List Block → Option ℕ
number_in name es blocks = option_and_then (λ (form : Form). number_addressed form blocks) (looked_up name es)

-- a form becomes the number of a block
abbrev address_of : List Block → Form
address_of blocks = defined (decimal (length blocks))

-- forms of a list and blocks, where a block is acted upon
abbrev pub on_number : Option ℕ → (ℕ → Option (Named × List Block)) → Named → List Block → Option (Named × List Block)
on_number None act es blocks = Some (es, blocks)
on_number (Some number) act es blocks = act number

-- what a call on blocks makes of the forms of a list and of the blocks; none where it is refused
abbrev pub handled_in : BlockAction → List (List ℕ) → Named → List Block → Option (Named × List Block)
handled_in StoreBlock arguments es blocks =
    let moved = moved_from (drop 2 arguments) es in
    let left = all_removed (drop 2 arguments) es in
    then_some (block_fits moved blocks && judged (argument 1 arguments) (address_of blocks) left) ((argument 1 arguments, address_of blocks) ∷ left, blocks ++ Some moved ∷ [])
handled_in FetchBlock arguments es blocks =
    on_number (number_in (argument 1 arguments) es blocks)
    (λ number. let put = all_put (forms_in (block_at number blocks)) es in then_some (nat_le (length (in_order put)) FORM_COUNT_LIMIT) (put, blocks)) es blocks
handled_in EraseBlock arguments es blocks =
    on_number (number_in (argument 1 arguments) es blocks) (λ number. Some (removed (argument 1 arguments) es, slice_set blocks number None)) es blocks

-- the outcome of such a call
abbrev outcome_of : Option (Named × List Block) → Result Effect Refusal
outcome_of None = Err TooLong
outcome_of (Some b) = Ok (leaves (stored b.0 b.1))

tested : (b : Bool) (es : Named) (blocks : List Block) → cond b (Ok (leaves (stored es blocks))) (Err TooLong) ≡ outcome_of (then_some b (es, blocks))
tested true es blocks = refl
tested false es blocks = refl

handled-held : (action : BlockAction) (arguments : List (List ℕ)) (es : Named) (blocks : List Block) →
    block_handled action arguments (stored es blocks) ≡ outcome_of (handled_in action arguments es blocks)
handled-held StoreBlock arguments es blocks =
    (λ i. cond (block_fits (moved_out-held names es i) blocks)
    (putting name (address_of blocks) (record { forms = without-held names es i; blocks = blocks ++ Some (moved_out-held names es i) ∷ [] })) (Err TooLong))
    ∙ by_test (block_fits (moved_from names es) blocks)
  where
    name : List ℕ
    name = argument 1 arguments

    names : List (List ℕ)
    names = drop 2 arguments

    more : List Block
    more = blocks ++ Some (moved_from names es) ∷ []

    by_test : (b : Bool) → cond b (putting name (address_of blocks) (stored (all_removed names es) more)) (Err TooLong)
        ≡ outcome_of (then_some (b && judged name (address_of blocks) (all_removed names es)) ((name, address_of blocks) ∷ all_removed names es, more))
    by_test true =
        (λ i. cond (may_be_put-held name (address_of blocks) (all_removed names es) i) (Ok (leaves (stored ((name, address_of blocks) ∷ all_removed names es) more))) (Err TooLong))
        ∙ tested (judged name (address_of blocks) (all_removed names es)) ((name, address_of blocks) ∷ all_removed names es) more
    by_test false = refl
handled-held FetchBlock arguments es blocks =
    (λ i. on_block (option_and_then (λ form. number_addressed form blocks) (found_in (argument 1 arguments) es i)) (λ number. fetching number (stored es blocks)) (stored es blocks))
    ∙ by_number (number_in (argument 1 arguments) es blocks)
  where
    by_number : (o : Option ℕ) → on_block o (λ number. fetching number (stored es blocks)) (stored es blocks)
        ≡ outcome_of (on_number o (λ number. let put = all_put (forms_in (block_at number blocks)) es in then_some (nat_le (length (in_order put)) FORM_COUNT_LIMIT) (put, blocks)) es blocks)
    by_number None = refl
    by_number (Some number) =
        let put = all_put (forms_in (block_at number blocks)) es in
        (λ i. let forms : Forms = with_all-held (forms_in (block_at number blocks)) es i in
        cond (nat_le (finite.len forms) FORM_COUNT_LIMIT) (Ok (leaves (record { forms = forms; blocks = blocks }))) (Err TooLong))
        ∙ (λ i. cond (nat_le (len-held put i) FORM_COUNT_LIMIT) (Ok (leaves (stored put blocks))) (Err TooLong)) ∙ tested (nat_le (length (in_order put)) FORM_COUNT_LIMIT) put blocks
handled-held EraseBlock arguments es blocks =
    (λ i. on_block (option_and_then (λ form. number_addressed form blocks) (found_in name es i)) (λ number. Ok (leaves (erased number name (stored es blocks)))) (stored es blocks))
    ∙ by_number (number_in name es blocks)
  where
    name : List ℕ
    name = argument 1 arguments

    by_number : (o : Option ℕ) → on_block o (λ number. Ok (leaves (erased number name (stored es blocks)))) (stored es blocks)
        ≡ outcome_of (on_number o (λ number. Some (removed name es, slice_set blocks number None)) es blocks)
    by_number None = refl
    by_number (Some number) = λ i. Ok (leaves (record { forms = held-removed name es i; blocks = slice_set blocks number None }))

-- the forms in order
abbrev pub sorted : Option (Named × List Block) → Option (Named × List Block)
sorted o = option_map (λ (b : Named × List Block). let in_its_order : Named × List Block = (in_order b.0, b.1) in in_its_order) o

pub same_stored : (b : Named × List Block) (after : Named) (blocks : List Block) → sorted (Some b) ≡ Some (in_order after, blocks) → stored b.0 b.1 ≡ stored after blocks
same_stored b after blocks is =
    let same : (let in_its_order : Named × List Block = (in_order b.0, b.1) in in_its_order) ≡ (in_order after, blocks) = cc in
    λ i. record { forms = same_held b.0 after (ap (λ x. x.0) same) i; blocks = (same i).1 }

-- what a primitive makes of forms and blocks, where it is one on blocks
abbrev pub performed_in : Primitive → List (List ℕ) → Named → List Block → Option (Named × List Block)
performed_in (HandleBlock action) arguments es blocks = handled_in action arguments es blocks
performed_in primitive arguments es blocks = None

-- what such a call does is computed with the forms in a list
pub turns : (arguments : List (List ℕ)) (before : Named) (blocks : List Block) (after : Named) (blocks_after : List Block) →
    sorted (performed_in (primitive_of (argument 0 arguments)) arguments before blocks) ≡ Some (in_order after, blocks_after) → Turns arguments before blocks after blocks_after
turns arguments before blocks after blocks_after is environment s = by_primitive (primitive_of (argument 0 arguments)) is
  where
    by_outcome : (o : Option (Named × List Block)) → sorted o ≡ Some (in_order after, blocks_after) → outcome_of o ≡ Ok (leaves (stored after blocks_after))
    by_outcome None is = absurd (cc)
    by_outcome (Some b) is = ap (λ (storage : Storage). Ok (leaves storage)) (same_stored b after blocks_after is)

    by_primitive : (primitive : Primitive) → sorted (performed_in primitive arguments before blocks) ≡ Some (in_order after, blocks_after) →
        effect_of primitive environment arguments (with_storage before blocks s) ≡ Ok (leaves (stored after blocks_after))
    by_primitive (HandleBlock action) is = handled-held action arguments before blocks ∙ by_outcome (handled_in action arguments before blocks) is
    by_primitive primitive is = absurd (cc)
