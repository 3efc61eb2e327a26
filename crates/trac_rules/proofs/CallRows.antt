-- What calls on forms and blocks destroy, give back and may lose, computed where the forms stand in a list.
use Rattle.std.proofs.Common.{◌≡◌, ℕ, ◌+◌, ◌-◌, Bool, true, false, List, [], ◌∷◌, length, drop, take, refl, ap, ◌∙◌}
use Rattle.std.specs.Prelude.{Option, None, Some, ◌&&◌, not, is_some, nat_le, option_and_then, option_map, slice_set}
use Rattle.std.specs.Bool.{then_some}
use Rattle.std.specs.FinMap as finite
use Rattle.std.specs.List.{list_all}
use Rattle.std.specs.Option.{option_map_or}
use Rattle.trac_rules.specs.declared.item.Item.{Item}
use Rattle.trac_rules.specs.declared.primitive.BlockAction.TheVariants.{StoreBlock, FetchBlock, EraseBlock}
use Rattle.trac_rules.specs.declared.primitive.FormAction.TheVariants as action
use Rattle.trac_rules.specs.declared.primitive.Primitive.{Primitive}
use Rattle.trac_rules.specs.declared.primitive.Primitive.TheVariants.{Handle, HandleBlock}
use Rattle.trac_rules.specs.Blocks.{block_at, forms_in, number_addressed, with_all}
use Rattle.trac_rules.specs.Cuts.{joined}
use Rattle.trac_rules.specs.Effect.{argument}
use Rattle.trac_rules.specs.Form.{Form, all_items, pointed_at}
use Rattle.trac_rules.specs.Handling.{keeping, without}
use Rattle.trac_rules.specs.Limits.{total_length}
use Rattle.trac_rules.specs.Performing.{primitive_of}
use Rattle.trac_rules.specs.RecordRows.{Costs, Destroys, GivesBack, GivesNothingBack, stored}
use Rattle.trac_rules.specs.Rows.{Named}
use Rattle.trac_rules.specs.State.{Block, Forms, Held, Storage}
use Rattle.trac_rules.specs.Undone.{Undone, Nothing, Point, Join, Swap, Restore, MoveOut, Unbring, Unerase, are_deleted, are_free, are_there, block_lost, bytes_lost, is_erased, joined_back, last_block, names_in, pointed_back, pointer_back, pointer_lost, replaced_lost, storage_before, swapped_back, undone_by}
use Rattle.trac_rules.specs.Weights.{all_loss, form_loss, gaps_made, named_loss, primitive_loss, taken_loss}
use Rattle.trac_rules.proofs.BlockCalls.{all_put, found_in, looked_up, moved_from, moved_out-held, number_in, same_stored, sorted, with_all-held}
use Rattle.trac_rules.proofs.FormCalls.{all_removed, entries-held, held, held-removed, in_order, removed, without-held}

-- ---- what is destroyed

-- the forms of a list that copies of those of a block replace
abbrev replaced_in : Option ℕ → Named → List Block → Undone
replaced_in None es blocks = Nothing
replaced_in (Some number) es blocks = Unbring number (moved_from (names_in (forms_in (block_at number blocks))) es)

-- what a primitive destroys, where the forms stand in a list
abbrev pub lost_in : Primitive → List (List ℕ) → Named → List Block → Undone
lost_in (Handle action.Define) arguments es blocks = Swap (looked_up (argument 1 arguments) es)
lost_in (Handle action.Delete) arguments es blocks = Restore (moved_from (drop 1 arguments) es)
lost_in (Handle action.DeleteAll) arguments es blocks = Restore (in_order es)
lost_in (Handle action.Segment) arguments es blocks = bytes_lost (drop 2 arguments) (looked_up (argument 1 arguments) es)
lost_in (Handle action.Restore) arguments es blocks = pointer_lost (looked_up (argument 1 arguments) es)
lost_in (Handle (action.Read reading)) arguments es blocks = pointer_lost (looked_up (argument 1 arguments) es)
lost_in (HandleBlock StoreBlock) arguments es blocks = MoveOut (looked_up (argument 1 arguments) (all_removed (drop 2 arguments) es))
lost_in (HandleBlock FetchBlock) arguments es blocks = replaced_in (number_in (argument 1 arguments) es blocks) es blocks
lost_in (HandleBlock EraseBlock) arguments es blocks = block_lost (number_in (argument 1 arguments) es blocks) (looked_up (argument 1 arguments) es) blocks
lost_in primitive arguments es blocks = Nothing

replaced-held : (number : Option ℕ) (es : Named) (blocks : List Block) → replaced_lost number (stored es blocks) ≡ replaced_in number es blocks
replaced-held None es blocks = refl
replaced-held (Some number) es blocks = ap (Unbring number) (moved_out-held (names_in (forms_in (block_at number blocks))) es)

lost-held : (primitive : Primitive) (arguments : List (List ℕ)) (es : Named) (blocks : List Block) → undone_by primitive arguments (stored es blocks) ≡ lost_in primitive arguments es blocks
lost-held (Handle action.Define) arguments es blocks = ap Swap (found_in (argument 1 arguments) es)
lost-held (Handle action.Delete) arguments es blocks = ap Restore (moved_out-held (drop 1 arguments) es)
lost-held (Handle action.DeleteAll) arguments es blocks = ap Restore (entries-held es)
lost-held (Handle action.Segment) arguments es blocks = ap (bytes_lost (drop 2 arguments)) (found_in (argument 1 arguments) es)
lost-held (Handle action.Restore) arguments es blocks = ap pointer_lost (found_in (argument 1 arguments) es)
lost-held (Handle (action.Read reading)) arguments es blocks = ap pointer_lost (found_in (argument 1 arguments) es)
lost-held (HandleBlock StoreBlock) arguments es blocks =
    ap (λ (forms : Forms). MoveOut (finite.get forms (argument 1 arguments))) (without-held (drop 2 arguments) es)
    ∙ ap MoveOut (found_in (argument 1 arguments) (all_removed (drop 2 arguments) es))
lost-held (HandleBlock FetchBlock) arguments es blocks =
    ap (λ (o : Option Form). replaced_lost (option_and_then (λ (form : Form). number_addressed form blocks) o) (stored es blocks)) (found_in (argument 1 arguments) es)
    ∙ replaced-held (number_in (argument 1 arguments) es blocks) es blocks
lost-held (HandleBlock EraseBlock) arguments es blocks =
    ap (λ (o : Option Form). block_lost (option_and_then (λ (form : Form). number_addressed form blocks) o) o blocks) (found_in (argument 1 arguments) es)
lost-held primitive arguments es blocks = refl

-- the rows: what a call destroys is computed with the forms in a list
pub destroys : (arguments : List (List ℕ)) (es : Named) (blocks : List Block) (undone : Undone) → lost_in (primitive_of (argument 0 arguments)) arguments es blocks ≡ undone →
    Destroys arguments es blocks undone
destroys arguments es blocks undone is = lost-held (primitive_of (argument 0 arguments)) arguments es blocks ∙ is

-- ---- what is given back

-- a form under a name again, or none
abbrev pub swapped_in : List ℕ → Option Form → Named → Named
swapped_in name None es = removed name es
swapped_in name (Some form) es = (name, form) ∷ es

swapped-held : (name : List ℕ) (old : Option Form) (es : Named) → swapped_back name old (held es) ≡ held (swapped_in name old es)
swapped-held name None es = held-removed name es
swapped-held name (Some form) es = refl

-- what is tested of a list: that no form stands in it under these names, or one under each of them
abbrev pub free_in : List (List ℕ) → Named → Bool
free_in names es = list_all (λ name. not (is_some (looked_up name es))) names

abbrev pub all_in : List (List ℕ) → Named → Bool
all_in names es = list_all (λ name. is_some (looked_up name es)) names

are_free-held : (names : List (List ℕ)) (es : Named) → are_free names (held es) ≡ free_in names es
are_free-held [] es = refl
are_free-held (name ∷ names) es = λ i. not (is_some (found_in name es i)) && are_free-held names es i

are_there-held : (names : List (List ℕ)) (es : Named) → are_there names (held es) ≡ all_in names es
are_there-held [] es = refl
are_there-held (name ∷ names) es = λ i. is_some (found_in name es i) && are_there-held names es i

-- that none stands which a call deleted
abbrev pub deleted_in : Primitive → List (List ℕ) → Named → Bool
deleted_in (Handle action.DeleteAll) arguments es = nat_le (length (in_order es)) 0
deleted_in primitive arguments es = free_in (drop 1 arguments) es

are_deleted-held : (primitive : Primitive) (arguments : List (List ℕ)) (es : Named) → are_deleted primitive arguments (held es) ≡ deleted_in primitive arguments es
are_deleted-held (Handle action.DeleteAll) arguments es = ap (λ (n : ℕ). nat_le n 0) (finite.len-entries (held es) ∙ ap length (entries-held es))
are_deleted-held primitive arguments es = are_free-held (drop 1 arguments) es

-- a form is put into a list with its pointer at a place
abbrev pub pointed_in : List ℕ → ℕ → List Item → Named → List Block → Option (Named × List Block)
pointed_in name place items es blocks = then_some (nat_le place (length items)) ((name, pointed_at place items) ∷ es, blocks)

-- forms and blocks before a call, where both stand in lists
abbrev pub before_in : List (List ℕ) → Undone → Named → List Block → Option (Named × List Block)
before_in arguments Nothing es blocks = Some (es, blocks)
before_in arguments (Point place) es blocks =
    option_and_then (λ (form : Form). pointed_in (argument 1 arguments) place (all_items form) es blocks) (looked_up (argument 1 arguments) es)
before_in arguments (Join cut place) es blocks =
    option_and_then (λ (form : Form). option_and_then (λ (items : List Item). pointed_in (argument 1 arguments) place items es blocks) (joined (drop 2 arguments) cut (all_items form)))
    (looked_up (argument 1 arguments) es)
before_in arguments (Swap old) es blocks = then_some (is_some (looked_up (argument 1 arguments) es)) (swapped_in (argument 1 arguments) old es, blocks)
before_in arguments (Restore entries) es blocks =
    then_some (deleted_in (primitive_of (argument 0 arguments)) arguments es && free_in (names_in entries) es) (all_put entries es, blocks)
before_in arguments (MoveOut old) es blocks =
    option_and_then
    (λ (entries : Held). let left = swapped_in (argument 1 arguments) old es in
    then_some (is_some (looked_up (argument 1 arguments) es) && (free_in (drop 2 arguments) left && free_in (names_in entries) left)) (all_put entries left, take (length blocks - 1) blocks))
    (last_block blocks)
before_in arguments (Unbring number replaced) es blocks =
    option_and_then
    (λ (entries : Held). let left = all_removed (names_in entries) es in
    then_some (all_in (names_in entries) es && (all_in (names_in replaced) es && free_in (names_in replaced) left)) (all_put replaced left, blocks)) (block_at number blocks)
before_in arguments (Unerase number entries address) es blocks =
    then_some (is_erased number blocks && not (is_some (looked_up (argument 1 arguments) es))) ((argument 1 arguments, address) ∷ es, slice_set blocks number (Some entries))

-- read as a storage
abbrev as_stored : Option (Named × List Block) → Option Storage
as_stored o = option_map (λ (b : Named × List Block). stored b.0 b.1) o

tested : (b : Bool) (es : Named) (blocks : List Block) → then_some b (stored es blocks) ≡ as_stored (then_some b (es, blocks))
tested true es blocks = refl
tested false es blocks = refl

module _ (arguments : List (List ℕ)) (es : Named) (blocks : List Block) where
  abbrev name_of : List ℕ
  name_of = argument 1 arguments

  -- what a block held, put among these forms again
  abbrev moved_back : Forms → Held → Option Storage
  moved_back forms entries =
      then_some (is_some (finite.get (held es) name_of) && (are_free (drop 2 arguments) forms && are_free (names_in entries) forms))
      (record { forms = with_all entries forms; blocks = take (length blocks - 1) blocks })

  before-held : (undone : Undone) → storage_before arguments undone (stored es blocks) ≡ as_stored (before_in arguments undone es blocks)
  before-held Nothing = refl
  before-held (Point place) = ap (λ (o : Option Form). pointer_back name_of place o (stored es blocks)) (found_in name_of es) ∙ by_form (looked_up name_of es)
    where
      by_form : (o : Option Form) → pointer_back name_of place o (stored es blocks) ≡ as_stored (option_and_then (λ (form : Form). pointed_in name_of place (all_items form) es blocks) o)
      by_form None = refl
      by_form (Some form) = tested (nat_le place (length (all_items form))) ((name_of, pointed_at place (all_items form)) ∷ es) blocks
  before-held (Join cut place) = ap (λ (o : Option Form). joined_back (drop 2 arguments) cut name_of place o (stored es blocks)) (found_in name_of es) ∙ by_form (looked_up name_of es)
    where
      by_items : (o : Option (List Item)) → option_and_then (λ (items : List Item). pointed_back name_of place items (stored es blocks)) o
          ≡ as_stored (option_and_then (λ (items : List Item). pointed_in name_of place items es blocks) o)
      by_items None = refl
      by_items (Some items) = tested (nat_le place (length items)) ((name_of, pointed_at place items) ∷ es) blocks

      by_form : (o : Option Form) → joined_back (drop 2 arguments) cut name_of place o (stored es blocks)
          ≡ as_stored (option_and_then (λ (form : Form). option_and_then (λ (items : List Item). pointed_in name_of place items es blocks) (joined (drop 2 arguments) cut (all_items form))) o)
      by_form None = refl
      by_form (Some form) = by_items (joined (drop 2 arguments) cut (all_items form))
  before-held (Swap old) =
      (λ i. then_some (is_some (found_in name_of es i)) (keeping (swapped-held name_of old es i) (stored [] blocks))) ∙ tested (is_some (looked_up name_of es)) (swapped_in name_of old es) blocks
  before-held (Restore entries) =
      (λ i. then_some (are_deleted-held (primitive_of (argument 0 arguments)) arguments es i && are_free-held (names_in entries) es i) (keeping (with_all-held entries es i) (stored [] blocks)))
      ∙ tested (deleted_in (primitive_of (argument 0 arguments)) arguments es && free_in (names_in entries) es) (all_put entries es) blocks
  before-held (MoveOut old) = by_block (last_block blocks)
    where
      by_block : (o : Option Held) → option_and_then (moved_back (swapped_back name_of old (held es))) o
          ≡ as_stored (option_and_then (λ (entries : Held). let left = swapped_in name_of old es in
          then_some (is_some (looked_up name_of es) && (free_in (drop 2 arguments) left && free_in (names_in entries) left)) (all_put entries left, take (length blocks - 1) blocks)) o)
      by_block None = refl
      by_block (Some entries) =
          let left = swapped_in name_of old es in
          ap (λ (forms : Forms). moved_back forms entries) (swapped-held name_of old es)
          ∙ (λ i. then_some (is_some (found_in name_of es i) && (are_free-held (drop 2 arguments) left i && are_free-held (names_in entries) left i))
          (keeping (with_all-held entries left i) (stored [] (take (length blocks - 1) blocks))))
          ∙ tested (is_some (looked_up name_of es) && (free_in (drop 2 arguments) left && free_in (names_in entries) left)) (all_put entries left) (take (length blocks - 1) blocks)
  before-held (Unbring number replaced) = by_block (block_at number blocks)
    where
      by_block : (o : Option Held) → option_and_then
          (λ (entries : Held). let left : Forms = without (names_in entries) (held es) in
          then_some (are_there (names_in entries) (held es) && (are_there (names_in replaced) (held es) && are_free (names_in replaced) left)) (keeping (with_all replaced left) (stored es blocks))) o
          ≡ as_stored (option_and_then (λ (entries : Held). let left = all_removed (names_in entries) es in
          then_some (all_in (names_in entries) es && (all_in (names_in replaced) es && free_in (names_in replaced) left)) (all_put replaced left, blocks)) o)
      by_block None = refl
      by_block (Some entries) =
          let left = all_removed (names_in entries) es in
          ap (λ (forms : Forms). then_some (are_there (names_in entries) (held es) && (are_there (names_in replaced) (held es) && are_free (names_in replaced) forms)) (keeping (with_all replaced forms) (stored es blocks)))
          (without-held (names_in entries) es)
          ∙ (λ i. then_some (are_there-held (names_in entries) es i && (are_there-held (names_in replaced) es i && are_free-held (names_in replaced) left i)) (keeping (with_all-held replaced left i) (stored [] blocks)))
          ∙ tested (all_in (names_in entries) es && (all_in (names_in replaced) es && free_in (names_in replaced) left)) (all_put replaced left) blocks
  before-held (Unerase number entries address) =
      ap (λ (o : Option Form). then_some (is_erased number blocks && not (is_some o)) (stored ((name_of, address) ∷ es) (slice_set blocks number (Some entries)))) (found_in name_of es)
      ∙ tested (is_erased number blocks && not (is_some (looked_up name_of es))) ((name_of, address) ∷ es) (slice_set blocks number (Some entries))

  -- the rows: what was there before is computed with the forms in a list
  pub gives_back : (undone : Undone) (before : Named) (blocks_before : List Block) →
      sorted (before_in arguments undone es blocks) ≡ Some (in_order before, blocks_before) →
      GivesBack arguments undone es blocks before blocks_before
  gives_back undone before blocks_before is = before-held undone ∙ by_outcome (before_in arguments undone es blocks) is
    where
      by_outcome : (o : Option (Named × List Block)) → sorted o ≡ Some (in_order before, blocks_before) →
          as_stored o ≡ Some (stored before blocks_before)
      by_outcome None is = absurd (cc)
      by_outcome (Some b) is = ap (λ (storage : Storage). Some storage) (same_stored b before blocks_before is)

  pub gives_nothing : (undone : Undone) → before_in arguments undone es blocks ≡ None → GivesNothingBack arguments undone es blocks
  gives_nothing undone none = before-held undone ∙ ap as_stored none

-- ---- what may be lost

-- the form of this name, and the forms of these
abbrev pub loss_of : List ℕ → Named → ℕ
loss_of name es = option_map_or (form_loss name) (looked_up name es) 0

abbrev pub gone_loss : List (List ℕ) → Named → ℕ
gone_loss names es = all_loss (in_order es) - all_loss (in_order (all_removed names es))

named_loss-held : (name : List ℕ) (es : Named) → named_loss name (held es) ≡ loss_of name es
named_loss-held name es = ap (λ (o : Option Form). option_map_or (form_loss name) o 0) (found_in name es)

taken_loss-held : (names : List (List ℕ)) (es : Named) → taken_loss names (held es) ≡ gone_loss names es
taken_loss-held names es =
    ap (λ (forms : Forms). all_loss (finite.entries (held es)) - all_loss (finite.entries forms)) (without-held names es)
    ∙ (λ i. all_loss (entries-held es i) - all_loss (entries-held (all_removed names es) i))

-- what a primitive may lose, where the forms stand in a list
abbrev pub loss_in : Primitive → List (List ℕ) → Named → List Block → ℕ
loss_in (Handle action.Define) arguments es blocks = loss_of (argument 1 arguments) es
loss_in (Handle action.Delete) arguments es blocks = gone_loss (drop 1 arguments) es
loss_in (Handle action.DeleteAll) arguments es blocks = all_loss (in_order es)
loss_in (Handle action.Segment) arguments es blocks = option_map_or (gaps_made (drop 2 arguments)) (looked_up (argument 1 arguments) es) 0
loss_in (HandleBlock StoreBlock) arguments es blocks = loss_of (argument 1 arguments) (all_removed (drop 2 arguments) es)
loss_in (HandleBlock FetchBlock) arguments es blocks =
    option_map_or (λ number. gone_loss (names_in (forms_in (block_at number blocks))) es) (number_in (argument 1 arguments) es blocks) 0
loss_in (HandleBlock EraseBlock) arguments es blocks =
    option_map_or (λ number. all_loss (forms_in (block_at number blocks)) + loss_of (argument 1 arguments) es) (number_in (argument 1 arguments) es blocks) 0
loss_in primitive arguments es blocks = primitive_loss primitive arguments (stored es blocks)

loss-held : (primitive : Primitive) (arguments : List (List ℕ)) (es : Named) (blocks : List Block) →
    primitive_loss primitive arguments (stored es blocks) ≡ loss_in primitive arguments es blocks
loss-held (Handle action.Define) arguments es blocks = named_loss-held (argument 1 arguments) es
loss-held (Handle action.Delete) arguments es blocks = taken_loss-held (drop 1 arguments) es
loss-held (Handle action.DeleteAll) arguments es blocks = ap all_loss (entries-held es)
loss-held (Handle action.Segment) arguments es blocks = ap (λ (o : Option Form). option_map_or (gaps_made (drop 2 arguments)) o 0) (found_in (argument 1 arguments) es)
loss-held (HandleBlock StoreBlock) arguments es blocks =
    ap (λ (forms : Forms). named_loss (argument 1 arguments) forms) (without-held (drop 2 arguments) es) ∙ named_loss-held (argument 1 arguments) (all_removed (drop 2 arguments) es)
loss-held (HandleBlock FetchBlock) arguments es blocks =
    λ i. option_map_or (λ number. taken_loss-held (names_in (forms_in (block_at number blocks))) es i)
    (option_and_then (λ (form : Form). number_addressed form blocks) (found_in (argument 1 arguments) es i)) 0
loss-held (HandleBlock EraseBlock) arguments es blocks =
    λ i. option_map_or (λ number. all_loss (forms_in (block_at number blocks)) + named_loss-held (argument 1 arguments) es i)
    (option_and_then (λ (form : Form). number_addressed form blocks) (found_in (argument 1 arguments) es i)) 0
loss-held primitive arguments es blocks = refl

-- the rows: what a call may lose is computed with the forms in a list
pub costs : (arguments : List (List ℕ)) (es : Named) (blocks : List Block) (n : ℕ) →
    total_length arguments + (length arguments - 1) + loss_in (primitive_of (argument 0 arguments)) arguments es blocks ≡ n → Costs arguments es blocks n
costs arguments es blocks n is = ap (λ (k : ℕ). total_length arguments + (length arguments - 1) + k) (loss-held (primitive_of (argument 0 arguments)) arguments es blocks) ∙ is
