-- Forms and blocks before a call are got back from what the call destroyed and those after it.
use Rattle.std.proofs.Common.{◌≡◌, ℕ, zero, suc, ◌-◌, ◌<◌, Bool, true, false, List, [], ◌∷◌, ◌++◌, length, take, drop, refl, sym, ap, subst, ◌∙◌, arith}
use Rattle.std.specs.Prelude.{Option, None, Some, Result, Ok, Err, ◌==◌, ◌&&◌, not, nat_le, nat_lt, if◌then◌else◌, is_some, option_and_then, position, slice_set, decimal}
use Rattle.std.specs.Bool.{then_some}
use Rattle.std.specs.Cmp.Lexicographic.{slice_cmp}
use Rattle.std.specs.FinMap as finite
use Rattle.std.specs.Ordering.{nat_cmp}
use Rattle.std.specs.Str.{bytes_eq}
use Rattle.std.proofs.lemmas.Bool.{and_from, and_parts, le-leb, lt-ltb}
use Rattle.std.proofs.lemmas.List.{drop_at, get_or_at, length-append, length-set, take-append-drop, take_at}
use Rattle.trac_rules.specs.declared.item.Item.{Item}
use Rattle.trac_rules.specs.declared.limit.TheConstants.{FORM_COUNT_LIMIT}
use Rattle.trac_rules.specs.declared.primitive.BlockAction.{BlockAction}
use Rattle.trac_rules.specs.declared.primitive.BlockAction.TheVariants.{StoreBlock, FetchBlock, EraseBlock}
use Rattle.trac_rules.specs.declared.primitive.Computation.{Computation}
use Rattle.trac_rules.specs.declared.primitive.Computation.TheVariants.{Calculate}
use Rattle.trac_rules.specs.declared.primitive.FormAction.{FormAction}
use Rattle.trac_rules.specs.declared.primitive.FormAction.TheVariants as action
use Rattle.trac_rules.specs.declared.primitive.Primitive.{Primitive}
use Rattle.trac_rules.specs.declared.primitive.Primitive.TheVariants.{PrintString, ReadString, ReadByte, Halt, SetMeta, SetTrace, Compute, Handle, HandleBlock, Unknown}
use Rattle.trac_rules.specs.declared.refusal.Refusal.{Refusal}
use Rattle.trac_rules.specs.declared.refusal.Refusal.TheVariants.{TooLong}
use Rattle.trac_rules.specs.Blocks.{block_at, block_fits, block_handled, erased, fetched, fetching, forms_in, is_address, moved_out, number_addressed, on_block, put_aside, storing, with_all}
use Rattle.trac_rules.specs.Computing.{computed, result_of}
use Rattle.trac_rules.specs.Cuts.{cut_of}
use Rattle.trac_rules.specs.Effect.{Effect, argument, gives, gives_or_forces, leaves, prints}
use Rattle.trac_rules.specs.Filling.{called}
use Rattle.trac_rules.specs.Form.{Form, all_items, defined, pointed_at}
use Rattle.trac_rules.specs.Handling.{default_argument, form_read, gives_piece, handled, keeping, named_form, on_form, piece_read, pointing, putting, without}
use Rattle.trac_rules.specs.Limits.{may_be_put}
use Rattle.trac_rules.specs.Number.{calculated}
use Rattle.trac_rules.specs.Performing.{effect_of, meta_set, primitive_of}
use Rattle.trac_rules.specs.Pieces.{Piece, bytes_in}
use Rattle.trac_rules.specs.Reading.{byte_read, read_up_to, rest_read, unread}
use Rattle.trac_rules.specs.Segmenting.{segmented}
use Rattle.trac_rules.specs.Showing.{shown}
use Rattle.trac_rules.specs.declared.width.Width.{Width}
use Rattle.trac_rules.specs.State.{Block, Environment, Forms, Held, State, Storage, storage_of}
use Rattle.trac_rules.specs.Undone.{Undone, Nothing, Point, Join, Swap, MoveOut, are_deleted, are_free, are_there, block_handling_lost, block_lost, bytes_lost, handling_lost, is_erased, is_free, joined_back, last_block, moved_out_again, names_in, pointed_back, pointer_back, pointer_lost, replaced_lost, storage_before, swapped_back, undefined, undeleted, undone_by, unerased}
use Rattle.trac_rules.specs.Weights.{meta_kept, meta_weight}
use Rattle.trac_rules.proofs.Balanced.{first_place_passes}
use Rattle.trac_rules.proofs.Cuts.{cut_joined}
use Rattle.trac_rules.proofs.FormsBack.{DifferAt, all_put_back, copies_taken_back, copies_there, empty_free, moved_back_in, moved_free, put_differs, replaced_free, replaced_there, swapped, taken_differs, taken_free}
use Rattle.trac_rules.proofs.NamedForms.{get-put}
use Rattle.trac_rules.proofs.ProperBlocks.{get_taken}

-- what is done is undone: the storage before comes back from the one that is left, and no meta character is set
abbrev pub IsUndone : List (List ℕ) → Undone → Storage → Result Effect Refusal → Type 0
IsUndone arguments undone storage (Ok e) = (storage_before arguments undone e.storage ≡ Some storage) × (e.meta ≡ None)
IsUndone arguments undone storage (Err refusal) = Unit {0}

-- or refused
or_refused : (arguments : List (List ℕ)) (undone : Undone) (storage : Storage) (fits : Bool) (outcome : Result Effect Refusal) →
    IsUndone arguments undone storage outcome → IsUndone arguments undone storage (if fits then outcome else Err TooLong)
or_refused arguments undone storage true outcome is = is
or_refused arguments undone storage false outcome is = tt

-- ---- the pointer of a form

-- a storage in which other forms stand under this name alone, from which a form is pointed as it was
pointed_so : (name : List ℕ) (form : Form) (m : Forms) (storage : Storage) → finite.get storage.forms name ≡ Some form → DifferAt name m storage.forms →
    pointed_back name (length form.before) (all_items form) (keeping m storage) ≡ Some storage
pointed_so name form m storage there apart =
    let fits : nat_le (length form.before) (length (all_items form)) ≡ true =
    le-leb (length form.before) (length (all_items form)) (omega (arith, length-append form.before form.after)) in
    let before = take_at form.before form.after (length form.before) refl in
    let after = drop_at form.before form.after (length form.before) refl in
    ap (λ (b : Bool). then_some b (keeping (finite.insert m name (pointed_at (length form.before) (all_items form))) storage)) fits
    ∙ (λ i. let again : Form = record { before = before i; after = after i } in Some (keeping (finite.insert m name again) storage))
    ∙ ap (λ (forms : Forms). Some (keeping forms storage)) (swapped name (Some form) m storage.forms there apart)

-- a form that was pointed elsewhere
pointing_back : (name : List ℕ) (place : ℕ) (form : Form) (storage : Storage) → finite.get storage.forms name ≡ Some form →
    pointer_back name (length form.before) (finite.get (pointing name place form storage).forms name) (pointing name place form storage) ≡ Some storage
pointing_back name place form storage there =
    let moved = pointed_at place (all_items form) in
    let m = finite.insert storage.forms name moved in
    ap (λ (found : Option Form). pointer_back name (length form.before) found (keeping m storage)) (get-put storage.forms name moved)
    ∙ ap (λ (items : List Item). pointed_back name (length form.before) items (keeping m storage)) (take-append-drop place (all_items form))
    ∙ pointed_so name form m storage there (put_differs name moved storage.forms)

-- a form that was not touched
untouched_back : (name : List ℕ) (form : Form) (storage : Storage) → finite.get storage.forms name ≡ Some form →
    pointer_back name (length form.before) (finite.get storage.forms name) storage ≡ Some storage
untouched_back name form storage there =
    ap (λ (found : Option Form). pointer_back name (length form.before) found storage) there
    ∙ pointed_so name form storage.forms storage there (λ q t. refl)

-- a form that was segmented
segmented_back : (texts : List (List ℕ)) (name : List ℕ) (form : Form) (storage : Storage) → finite.get storage.forms name ≡ Some form →
    let after : Storage = keeping (finite.insert storage.forms name (segmented texts form)) storage in
    joined_back texts (cut_of texts form) name (length form.before) (finite.get after.forms name) after ≡ Some storage
segmented_back texts name form storage there =
    let cut = segmented texts form in
    let m = finite.insert storage.forms name cut in
    ap (λ (found : Option Form). joined_back texts (cut_of texts form) name (length form.before) found (keeping m storage)) (get-put storage.forms name cut)
    ∙ ap (option_and_then (λ (items : List Item). pointed_back name (length form.before) items (keeping m storage))) (cut_joined texts form)
    ∙ pointed_so name form m storage there (put_differs name cut storage.forms)

-- ---- calls on forms

-- a form that was put under a name
defined_back : (name : List ℕ) (form : Form) (storage : Storage) →
    undefined name (finite.get storage.forms name) (keeping (finite.insert storage.forms name form) storage) ≡ Some storage
defined_back name form storage =
    let m = finite.insert storage.forms name form in
    let old = finite.get storage.forms name in
    ap (λ (found : Option Form). then_some (is_some found) (keeping (swapped_back name old m) storage)) (get-put storage.forms name form)
    ∙ ap (λ (forms : Forms). Some (keeping forms storage)) (swapped name old m storage.forms refl (put_differs name form storage.forms))

-- what is tested before deleted forms are put back, after a call of a primitive, and then the forms
put_back_deleted : (arguments : List (List ℕ)) (primitive : Primitive) (held : Held) (left : Forms) (storage : Storage) → primitive_of (argument 0 arguments) ≡ primitive →
    are_deleted primitive arguments left ≡ true → are_free (names_in held) left ≡ true → with_all held left ≡ storage.forms →
    undeleted arguments held (keeping left storage) ≡ Some storage
put_back_deleted arguments primitive held left storage named gone free same =
    let before = keeping (with_all held left) storage in
    let deleted = ap (λ (p : Primitive). are_deleted p arguments left) named ∙ gone in
    ap (λ (b : Bool). then_some b before) (and_from (are_deleted (primitive_of (argument 0 arguments)) arguments left) (are_free (names_in held) left) deleted free)
    ∙ ap (λ (forms : Forms). Some (keeping forms storage)) same

-- a call on a form, where it is there or not
module _ (arguments : List (List ℕ)) (storage : Storage) where
  segmenting_back : (found : Option Form) → named_form arguments storage ≡ found →
      IsUndone arguments (bytes_lost (drop 2 arguments) found) storage
      (on_form found (λ form. putting (argument 1 arguments) (segmented (drop 2 arguments) form) storage) storage)
  segmenting_back None there = (refl, refl)
  segmenting_back (Some form) there =
      or_refused arguments (Join (cut_of (drop 2 arguments) form) (length form.before)) storage
      (may_be_put (argument 1 arguments) (segmented (drop 2 arguments) form) storage.forms)
      (Ok (leaves (keeping (finite.insert storage.forms (argument 1 arguments) (segmented (drop 2 arguments) form)) storage)))
      (segmented_back (drop 2 arguments) (argument 1 arguments) form storage there, refl)

  restoring_back : (found : Option Form) → named_form arguments storage ≡ found →
      IsUndone arguments (pointer_lost found) storage (on_form found (λ form. Ok (leaves (pointing (argument 1 arguments) 0 form storage))) storage)
  restoring_back None there = (refl, refl)
  restoring_back (Some form) there = (pointing_back (argument 1 arguments) 0 form storage there, refl)

  piece_back : (piece : Option Piece) (other : List ℕ) (form : Form) → named_form arguments storage ≡ Some form →
      IsUndone arguments (Point (length form.before)) storage (Ok (gives_piece piece other (argument 1 arguments) form storage))
  piece_back None other form there = (untouched_back (argument 1 arguments) form storage there, refl)
  piece_back (Some piece) other form there = (pointing_back (argument 1 arguments) piece.place form storage there, refl)

  keeps_all : (found : Option Form) (act : Form → Result Effect Refusal) → ((form : Form) → IsUndone arguments Nothing storage (act form)) →
      IsUndone arguments Nothing storage (on_form found act storage)
  keeps_all None act is = (refl, refl)
  keeps_all (Some form) act is = is form

  handled_back : (action : FormAction) (width : Width) → primitive_of (argument 0 arguments) ≡ Handle action →
      IsUndone arguments (handling_lost action arguments storage) storage (handled action width arguments storage)
  handled_back action.Define width named =
      or_refused arguments (Swap (named_form arguments storage)) storage (may_be_put (argument 1 arguments) (defined (argument 2 arguments)) storage.forms)
      (Ok (leaves (keeping (finite.insert storage.forms (argument 1 arguments) (defined (argument 2 arguments))) storage)))
      (defined_back (argument 1 arguments) (defined (argument 2 arguments)) storage, refl)
  handled_back action.Delete width named =
      let names = drop 1 arguments in
      let held = moved_out names storage.forms in (
        put_back_deleted arguments (Handle action.Delete) held (without names storage.forms) storage named
            (taken_free names storage.forms) (moved_free names storage.forms) (moved_back_in names storage.forms),
        refl,
      )
  handled_back action.DeleteAll width named =
      let held = finite.entries storage.forms in (
        put_back_deleted arguments (Handle action.DeleteAll) held finite.empty storage named
            (ap (λ (n : ℕ). nat_le n 0) (finite.len-empty (slice_cmp nat_cmp) Form)) (empty_free (names_in held)) (all_put_back storage.forms),
        refl,
      )
  handled_back action.Segment width named = segmenting_back (named_form arguments storage) refl
  handled_back action.Restore width named = restoring_back (named_form arguments storage) refl
  handled_back action.Call width named =
      keeps_all (named_form arguments storage) (λ form. Ok (gives (called (drop 2 arguments) form) storage)) (λ form. (refl, refl))
  handled_back (action.Read reading) width named = reading_back (named_form arguments storage) refl
    where
      reading_back : (found : Option Form) → named_form arguments storage ≡ found →
          IsUndone arguments (pointer_lost found) storage (on_form found (λ form. Ok (form_read reading width arguments form storage)) storage)
      reading_back None there = (refl, refl)
      reading_back (Some form) there = piece_back (piece_read reading width arguments form) (default_argument reading arguments) form there
  handled_back action.ListNames width named = (refl, refl)
  handled_back action.PrintForm width named = keeps_all (named_form arguments storage) (λ form. Ok (prints (shown form) storage)) (λ form. (refl, refl))

-- ---- blocks

-- the storage of these forms and blocks
abbrev stored_in : Forms → List Block → Storage
stored_in forms blocks = record { forms = forms; blocks = blocks }

-- what was there before copies of these forms were put among the others, in place of those
abbrev without_copies : Held → Held → Storage → Option Storage
without_copies held replaced storage =
    let left : Forms = without (names_in held) storage.forms in
    then_some (are_there (names_in held) storage.forms && (are_there (names_in replaced) storage.forms && are_free (names_in replaced) left)) (keeping (with_all replaced left) storage)

last_put : (blocks : List Block) (held : Held) → last_block (blocks ++ Some held ∷ []) ≡ Some held
last_put blocks held =
    get_or_at blocks (Some held) [] None (length (blocks ++ Some held ∷ []) - 1) (omega (arith, length-append blocks (Some held ∷ [])))

all_but_last : (blocks : List Block) (block : Block) → take (length (blocks ++ block ∷ []) - 1) (blocks ++ block ∷ []) ≡ blocks
all_but_last blocks block = take_at blocks (block ∷ []) (length (blocks ++ block ∷ []) - 1) (omega (arith, length-append blocks (block ∷ [])))

-- forms that were put aside, also where the name of the block's address is among them
put_aside_back : (name : List ℕ) (names : List (List ℕ)) (address : Form) (storage : Storage) →
    moved_out_again name names (finite.get (without names storage.forms) name) (keeping (finite.insert (without names storage.forms) name address) (put_aside names storage)) ≡ Some storage
put_aside_back name names address storage =
    let held = moved_out names storage.forms in
    let left = without names storage.forms in
    let old = finite.get left name in
    let m = finite.insert left name address in
    let blocks = storage.blocks ++ Some held ∷ [] in
    let taken = take (length blocks - 1) blocks in
    let standing : is_some (finite.get m name) ≡ true = ap is_some (get-put left name address) in
    let before = λ (forms : Forms) (block : Held). then_some (is_some (finite.get m name) && (are_free names forms && are_free (names_in block) forms)) (stored_in (with_all block forms) taken) in
    ap (option_and_then (before (swapped_back name old m))) (last_put storage.blocks held)
    ∙ ap (λ (forms : Forms). before forms held) (swapped name old m left refl (put_differs name address left))
    ∙ ap (λ (b : Bool). then_some b (stored_in (with_all held left) taken))
    (and_from (is_some (finite.get m name)) (are_free names left && are_free (names_in held) left) standing
    (and_from (are_free names left) (are_free (names_in held) left) (taken_free names storage.forms) (moved_free names storage.forms)))
    ∙ (λ i. Some (stored_in (moved_back_in names storage.forms i) (all_but_last storage.blocks (Some held) i)))

-- copies that were put among the forms
fetched_back : (block : Block) (storage : Storage) → is_some block ≡ true →
    option_and_then (λ held. without_copies held (moved_out (names_in (forms_in block)) storage.forms) (keeping (with_all (forms_in block) storage.forms) storage)) block ≡ Some storage
fetched_back None storage live = absurd (cc)
fetched_back (Some held) storage live =
    let replaced = moved_out (names_in held) storage.forms in
    let m = with_all held storage.forms in
    let left = without (names_in held) m in
    ap (λ (b : Bool). then_some b (keeping (with_all replaced left) storage))
    (and_from (are_there (names_in held) m) (are_there (names_in replaced) m && are_free (names_in replaced) left) (copies_there held storage.forms)
    (and_from (are_there (names_in replaced) m) (are_free (names_in replaced) left) (replaced_there held storage.forms) (replaced_free held storage.forms)))
    ∙ ap (λ (forms : Forms). Some (keeping forms storage)) (copies_taken_back held storage.forms)

-- a block that was erased is an erased one
erased_stands : (blocks : List Block) (number : ℕ) → is_some (block_at number blocks) ≡ true →
    (number < length blocks) × (block_at number (slice_set blocks number None) ≡ None)
erased_stands [] number live = absurd (cc)
erased_stands (block ∷ blocks) zero live = (omega arith, refl)
erased_stands (block ∷ blocks) (suc number) live = let later = erased_stands blocks number live in (omega (arith, later.0), later.1)

-- and when it holds its forms again the blocks are as before
held_again : (blocks : List Block) (number : ℕ) → is_some (block_at number blocks) ≡ true →
    slice_set (slice_set blocks number None) number (Some (forms_in (block_at number blocks))) ≡ blocks
held_again [] number live = absurd (cc)
held_again (None ∷ blocks) zero live = absurd (cc)
held_again (Some held ∷ blocks) zero live = refl
held_again (block ∷ blocks) (suc number) live = ap (λ later. block ∷ later) (held_again blocks number live)

erased_back : (number : ℕ) (name : List ℕ) (address : Form) (storage : Storage) → is_some (block_at number storage.blocks) ≡ true → finite.get storage.forms name ≡ Some address →
    unerased number (forms_in (block_at number storage.blocks)) name address (erased number name storage) ≡ Some storage
erased_back number name address storage live there =
    let blocks = slice_set storage.blocks number None in
    let held = forms_in (block_at number storage.blocks) in
    let stands = erased_stands storage.blocks number live in
    let within : nat_lt number (length blocks) ≡ true = lt-ltb number (length blocks) (omega (arith, stands.0, length-set storage.blocks number None)) in
    let none : not (is_some (block_at number blocks)) ≡ true = ap (λ (block : Block). not (is_some block)) stands.1 in
    let gone = finite.remove storage.forms name in
    let free : is_free name gone ≡ true = ap (λ (o : Option Form). not (is_some o)) (get_taken storage.forms name) in
    ap (λ (b : Bool). then_some b (stored_in (finite.insert gone name address) (slice_set blocks number (Some held))))
    (and_from (is_erased number blocks) (is_free name gone) (and_from (nat_lt number (length blocks)) (not (is_some (block_at number blocks))) within none) free)
    ∙ (λ i. let before : Storage = record {
      forms = swapped name (Some address) (finite.remove storage.forms name) storage.forms there (taken_differs name storage.forms) i;
      blocks = held_again storage.blocks number live i;
    } in Some before)

addressed_is_live : (form : Form) (blocks : List Block) (number : ℕ) → number_addressed form blocks ≡ Some number → is_some (block_at number blocks) ≡ true
addressed_is_live form blocks number found =
    let is = first_place_passes (is_address form blocks) (length blocks) number found in
    (and_parts (is_some (block_at number blocks)) (bytes_eq (decimal number) (bytes_in (all_items form))) is).0

-- ---- calls on blocks

module _ (arguments : List (List ℕ)) (storage : Storage) where
  storing_back : IsUndone arguments (MoveOut (finite.get (without (drop 2 arguments) storage.forms) (argument 1 arguments))) storage
      (storing (argument 1 arguments) (drop 2 arguments) storage)
  storing_back =
      let undone = MoveOut (finite.get (without (drop 2 arguments) storage.forms) (argument 1 arguments)) in
      let address = defined (decimal (length storage.blocks)) in
      let aside = put_aside (drop 2 arguments) storage in
      or_refused arguments undone storage (block_fits (moved_out (drop 2 arguments) storage.forms) storage.blocks) (putting (argument 1 arguments) address aside)
      (or_refused arguments undone storage (may_be_put (argument 1 arguments) address aside.forms)
      (Ok (leaves (keeping (finite.insert aside.forms (argument 1 arguments) address) aside)))
      (put_aside_back (argument 1 arguments) (drop 2 arguments) address storage, refl))

  fetching_back : (number : ℕ) → is_some (block_at number storage.blocks) ≡ true →
      IsUndone arguments (replaced_lost (Some number) storage) storage (fetching number storage)
  fetching_back number live =
      or_refused arguments (replaced_lost (Some number) storage) storage (nat_le (finite.len (fetched number storage)) FORM_COUNT_LIMIT)
      (Ok (leaves (keeping (fetched number storage) storage)))
      (fetched_back (block_at number storage.blocks) storage live, refl)

  -- a call on the block of an address, where there is one or not
  fetch_back : (found : Option Form) → IsUndone arguments (replaced_lost (option_and_then (λ form. number_addressed form storage.blocks) found) storage) storage
      (on_block (option_and_then (λ form. number_addressed form storage.blocks) found) (λ number. fetching number storage) storage)
  fetch_back None = (refl, refl)
  fetch_back (Some form) = by_number (number_addressed form storage.blocks) refl
    where
      by_number : (number : Option ℕ) → number_addressed form storage.blocks ≡ number →
          IsUndone arguments (replaced_lost number storage) storage (on_block number (λ k. fetching k storage) storage)
      by_number None there = (refl, refl)
      by_number (Some number) there = fetching_back number (addressed_is_live form storage.blocks number there)

  erase_back : (found : Option Form) → named_form arguments storage ≡ found →
      IsUndone arguments (block_lost (option_and_then (λ form. number_addressed form storage.blocks) found) found storage.blocks) storage
      (on_block (option_and_then (λ form. number_addressed form storage.blocks) found) (λ number. Ok (leaves (erased number (argument 1 arguments) storage))) storage)
  erase_back None here = (refl, refl)
  erase_back (Some form) here = by_number (number_addressed form storage.blocks) refl
    where
      by_number : (number : Option ℕ) → number_addressed form storage.blocks ≡ number →
          IsUndone arguments (block_lost number (Some form) storage.blocks) storage
          (on_block number (λ k. Ok (leaves (erased k (argument 1 arguments) storage))) storage)
      by_number None there = (refl, refl)
      by_number (Some number) there =
          (erased_back number (argument 1 arguments) form storage (addressed_is_live form storage.blocks number there) here, refl)

  block_handled_back : (action : BlockAction) → IsUndone arguments (block_handling_lost action arguments storage) storage (block_handled action arguments storage)
  block_handled_back StoreBlock = storing_back
  block_handled_back FetchBlock = fetch_back (named_form arguments storage)
  block_handled_back EraseBlock = erase_back (named_form arguments storage) refl

-- ---- each primitive

module _ (arguments : List (List ℕ)) (storage : Storage) where
  read_back : (at : Option ℕ) (text : List ℕ) (ended : Bool) → IsUndone arguments Nothing storage (read_up_to at text ended storage)
  read_back (Some k) text ended = (refl, refl)
  read_back None text ended = rest text ended
    where
      rest : (text : List ℕ) (ended : Bool) → IsUndone arguments Nothing storage (rest_read text ended storage)
      rest text false = tt
      rest [] true = tt
      rest (b ∷ text) true = (refl, refl)

  byte_back : (text : List ℕ) (ended : Bool) → IsUndone arguments Nothing storage (byte_read text ended storage)
  byte_back [] false = tt
  byte_back [] true = tt
  byte_back (b ∷ rest) ended = (refl, refl)

  computed_back : (computation : Computation) (width : Width) → IsUndone arguments Nothing storage (Ok (computed computation width arguments storage))
  computed_back (Calculate operation) width = either (calculated (result_of operation) width (argument 1 arguments) (argument 2 arguments))
    where
      either : (value : Option (List ℕ)) → IsUndone arguments Nothing storage (Ok (gives_or_forces value (argument 3 arguments) storage))
      either None = (refl, refl)
      either (Some value) = (refl, refl)
  computed_back computation width = (refl, refl)

-- whether a primitive sets no meta character
abbrev pub SetsNoMeta : Primitive → Type 0
SetsNoMeta SetMeta = ⊥
SetsNoMeta primitive = Unit {0}

-- each primitive but `cm`, called by its name
pub effect_undone : (primitive : Primitive) (environment : Environment) (arguments : List (List ℕ)) (s : State) → SetsNoMeta primitive → primitive_of (argument 0 arguments) ≡ primitive →
    IsUndone arguments (undone_by primitive arguments (storage_of s)) (storage_of s) (effect_of primitive environment arguments s)
effect_undone PrintString environment arguments s sets_none named = (refl, refl)
effect_undone ReadString environment arguments s sets_none named =
    read_back arguments (storage_of s) (position (λ b. b == s.meta) (unread environment.tape s)) (unread environment.tape s) environment.tape.ended
effect_undone ReadByte environment arguments s sets_none named = byte_back arguments (storage_of s) (unread environment.tape s) environment.tape.ended
effect_undone Halt environment arguments s sets_none named = tt
effect_undone SetMeta environment arguments s sets_none named = absurd sets_none
effect_undone (SetTrace trace) environment arguments s sets_none named = (refl, refl)
effect_undone (Compute computation) environment arguments s sets_none named = computed_back arguments (storage_of s) computation environment.width
effect_undone (Handle action) environment arguments s sets_none named = handled_back arguments (storage_of s) action environment.width named
effect_undone (HandleBlock action) environment arguments s sets_none named = block_handled_back arguments (storage_of s) action
effect_undone Unknown environment arguments s sets_none named = (refl, refl)

-- what a call's effect leaves is undone, and the old meta character is kept where one is set
pub record IsKept (primitive : Primitive) (arguments : List (List ℕ)) (storage : Storage) (e : Effect) : Type 0 where
  pub storage_back : storage_before arguments (undone_by primitive arguments storage) e.storage ≡ Some storage
  pub meta : meta_weight e.meta ≡ meta_kept primitive arguments

meta_is_kept : (text : List ℕ) (arguments : List (List ℕ)) (storage : Storage) → argument 1 arguments ≡ text → IsKept SetMeta arguments storage (meta_set text storage)
meta_is_kept [] arguments storage is = record { storage_back = refl; meta = ap (λ (t : List ℕ). length (take 1 t)) (sym is) }
meta_is_kept (b ∷ text) arguments storage is = record { storage_back = refl; meta = ap (λ (t : List ℕ). length (take 1 t)) (sym is) }

-- of each primitive but `cm`
kept_of_undone : (primitive : Primitive) (arguments : List (List ℕ)) (storage : Storage) (outcome : Result Effect Refusal) (e : Effect) → meta_kept primitive arguments ≡ 0 →
    IsUndone arguments (undone_by primitive arguments storage) storage outcome → outcome ≡ Ok e → IsKept primitive arguments storage e
kept_of_undone primitive arguments storage (Ok f) e none is same =
    let one : f ≡ e = cc in
    subst (IsKept primitive arguments storage) one (record { storage_back = is.0; meta = ap meta_weight is.1 ∙ sym none })
kept_of_undone primitive arguments storage (Err refusal) e none is same = absurd (cc)

pub effect_kept : (primitive : Primitive) (environment : Environment) (arguments : List (List ℕ)) (s : State) (e : Effect) → primitive_of (argument 0 arguments) ≡ primitive →
    effect_of primitive environment arguments s ≡ Ok e → IsKept primitive arguments (storage_of s) e
effect_kept SetMeta environment arguments s e named same =
    let one : meta_set (argument 1 arguments) (storage_of s) ≡ e = cc in
    subst (IsKept SetMeta arguments (storage_of s)) one (meta_is_kept (argument 1 arguments) arguments (storage_of s) refl)
effect_kept primitive environment arguments s e named same =
    kept_of_undone primitive arguments (storage_of s) (effect_of primitive environment arguments s) e refl (effect_undone primitive environment arguments s tt named) same
