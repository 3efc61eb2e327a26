-- What a call does, with origins beside it.
use Rattle.std.proofs.Common.{◌≡◌, ℕ, zero, suc, ◌+◌, ◌-◌, ◌<◌, Bool, true, false, List, [], ◌∷◌, ◌++◌, length, take, drop, get_or, refl, sym, ap, subst, ◌∙◌, arith}
use Rattle.std.specs.Prelude.{Option, None, Some, Result, Ok, Err, ℤ, ◌==◌, bytes_eq, decimal, if◌then◌else◌, nat_le, position, slice_get}
use Rattle.std.specs.FinMap as finite
use Rattle.std.proofs.lemmas.List.{take-append-drop, take_at}
use Rattle.std.proofs.lemmas.Option.{same_Some, slice_get_within}
use Rattle.trac_rules.specs.declared.item.Item.{Item}
use Rattle.trac_rules.specs.declared.item.Item.TheVariants.{Byte, Gap}
use Rattle.trac_rules.specs.declared.limit.TheConstants.{FORM_COUNT_LIMIT}
use Rattle.trac_rules.specs.declared.primitive.BlockAction.{BlockAction}
use Rattle.trac_rules.specs.declared.primitive.BlockAction.TheVariants.{StoreBlock, FetchBlock, EraseBlock}
use Rattle.trac_rules.specs.declared.primitive.Computation.{Computation}
use Rattle.trac_rules.specs.declared.primitive.Computation.TheVariants.{Equal, Greater, Calculate}
use Rattle.trac_rules.specs.declared.primitive.FormAction.{FormAction}
use Rattle.trac_rules.specs.declared.primitive.FormAction.TheVariants as action
use Rattle.trac_rules.specs.declared.primitive.FormReading.{FormReading}
use Rattle.trac_rules.specs.declared.primitive.FormReading.TheVariants.{ReadSegment, ReadChar, ReadCount, ReadUntil}
use Rattle.trac_rules.specs.declared.primitive.Operation.{Operation}
use Rattle.trac_rules.specs.declared.primitive.Primitive.{Primitive}
use Rattle.trac_rules.specs.declared.primitive.Primitive.TheVariants.{PrintString, ReadString, ReadByte, Halt, SetMeta, SetTrace, Compute, Handle, HandleBlock, Unknown}
use Rattle.trac_rules.specs.declared.refusal.Refusal.{Refusal}
use Rattle.trac_rules.specs.declared.refusal.Refusal.TheVariants.{TooLong}
use Rattle.trac_rules.specs.Blocks.{block_at, block_fits, block_handled, erased, fetched, fetching, moved_out, named_block_number, on_block, put_aside, storing}
use Rattle.trac_rules.specs.declared.width.Width.{Width}
use Rattle.trac_rules.specs.Computing.{chosen, computed, result_of}
use Rattle.trac_rules.specs.Effect.{Effect, argument, forces, gives, gives_or_forces, leaves, prints, reads}
use Rattle.trac_rules.specs.Filling.{called, text_numbered}
use Rattle.trac_rules.specs.Form.{Form, all_items, defined}
use Rattle.trac_rules.specs.Handling.{default_argument, form_read, gives_piece, handled, keeping, named_form, on_form, piece_read, pointing, putting, without}
use Rattle.trac_rules.specs.Limits.{may_be_put}
use Rattle.trac_rules.specs.Listing.{listed, names_of}
use Rattle.trac_rules.specs.Number.{after_prefix, calculated, is_greater, number_text, numeral_of, prefix_of}
use Rattle.trac_rules.specs.Performing.{effect_of, meta_set, printed_after}
use Rattle.trac_rules.specs.Pieces.{Piece}
use Rattle.trac_rules.specs.Reading.{byte_read, read_up_to, rest_read, unread}
use Rattle.trac_rules.specs.Scanning.{Call}
use Rattle.trac_rules.specs.Segmenting.{segmented}
use Rattle.trac_rules.specs.Showing.{shown}
use Rattle.trac_rules.specs.State.{Environment, Storage, storage_of}
use Rattle.trac_rules.proofs.Cuts.{segmented_is_cut}
use Rattle.trac_origins.specs.Places.{Origin, Read, Made}
use Rattle.trac_origins.specs.Lists.{all_made, all_read}
use Rattle.trac_origins.specs.Moving.{EndedOrigins}
use Rattle.trac_origins.specs.Performing.{EffectOrigins, Performed, argument_from, called_from, calculated_from, chosen_from, default_from, effect_from, fetched_from, gives_from, handled_from, block_handled_from, items_from, leaves_from, listed_from, on_block_from, on_form_from, piece_from, prints_from, puts_from, reading_from, segmented_from, shown_from, stored_from, text_from}
use Rattle.trac_origins.specs.Accounts.{makes_bytes, makes_gaps}
use Rattle.trac_origins.proofs.Zips.{Zip, ends, all_given, appended, dropped, each, of_taken, related_or, taken}
use Rattle.trac_origins.proofs.Besides.{EndedBeside, OfByte, Text}
use Rattle.trac_origins.proofs.Stored.{BlocksBeside, FormsBeside, copied_beside, erased_beside, none_beside, pointed_beside, put_beside, stored_beside, taken_beside, without_beside}
use Rattle.trac_origins.proofs.Values.{as_items_beside, filled_beside, made_beside, piece_beside, recut_beside, shown_beside}

-- ---- a result after a prefix

begins_with_prefix : (prefix : List ℕ) (found : Option ℤ) (value : List ℕ) → after_prefix prefix found ≡ Some value → take (length prefix) value ≡ prefix
begins_with_prefix prefix None value e = absurd (cc)
begins_with_prefix prefix (Some n) value e = ap (take (length prefix)) (sym (same_Some (prefix ++ number_text n) value e)) ∙ take_at prefix (number_text n) (length prefix) refl

front_of_prefix : (text : List ℕ) → take (length (prefix_of text)) text ≡ prefix_of text
unfolding prefix_of
front_of_prefix text =
    let n = length text - length (numeral_of text) in
    ap (take (length (take n text))) (sym (take-append-drop n text)) ∙ take_at (take n text) (drop n text) (length (take n text)) refl

-- what an operation gives begins with the prefix of the first text
calculated_prefix : (operation : Operation) (width : Width) (first second value : List ℕ) → calculated (result_of operation) width first second ≡ Some value →
    take (length (prefix_of first)) value ≡ prefix_of first
unfolding calculated
calculated_prefix operation width first second value e = begins_with_prefix (prefix_of first) _ value e

-- ---- what a call does

-- the origins of an effect
pub record EffectBeside (R : Origin → Item → Type 0) (o : EffectOrigins) (e : Effect) : Type 0 where
  pub value : Text R o.value e.value
  pub printed : Text R o.printed e.printed
  pub forms : FormsBeside R o.forms e.storage.forms
  pub blocks : BlocksBeside R o.blocks e.storage.blocks

module _ (R : Origin → Item → Type 0) (environment : Environment) (call : Call) (from : EndedOrigins) (given : EndedBeside R from call) (line : List ℕ) where
  -- a call with an effect, before which a line is printed
  abbrev pub doing : Effect → Performed
  doing e = record { environment = environment; call = call; effect = printed_after line e; from = from }

  -- the bytes that an effect reads may be said to be read
  abbrev pub MayBeRead : ℕ → Type 0
  MayBeRead n = (i b : ℕ) → i < n → slice_get (unread environment.tape call.state) i ≡ Some b → R (Read (call.state.position + i)) (Byte b)

  -- an outcome, the origins of whose effect are told
  abbrev pub DoneBeside : (Effect → EffectOrigins) → Result Effect Refusal → Type 0
  DoneBeside told (Ok e) = MayBeRead e.read → EffectBeside R (told e) e
  DoneBeside told (Err refusal) = Unit {0}

  abbrev storage : Storage
  storage = storage_of call.state

  given_text : (k : ℕ) → Text R (get_or from.arguments k []) (argument k call.arguments)
  given_text k = related_or given.arguments k [] [] ends

  -- or it is refused
  or_refused : (told : Effect → EffectOrigins) (fits : Bool) (outcome : Result Effect Refusal) → DoneBeside told outcome → DoneBeside told (if fits then outcome else Err TooLong)
  or_refused told true outcome h = h
  or_refused told false outcome h = tt

  -- a value of which the rest is as it was
  value_beside : (os : List Origin) (value : List ℕ) (e : Effect) → Text R os value → e.value ≡ value → e.printed ≡ [] → e.storage ≡ storage → EffectBeside R (gives_from os (doing e)) e
  value_beside os value e t same silent left = record {
    value = subst (λ (text : List ℕ). Text R os text) (sym same) t;
    printed = subst (λ (text : List ℕ). Text R [] text) (sym silent) ends;
    forms = subst (λ (s : Storage). FormsBeside R from.others.forms s.forms) (sym left) given.others.forms;
    blocks = subst (λ (s : Storage). BlocksBeside R from.others.blocks s.blocks) (sym left) given.others.blocks;
  }

  -- ---- reading the input

  abbrev told_read : Effect → EffectOrigins
  told_read e = gives_from (all_read call.state.position e.value) (doing e)

  -- a text that begins what is unread
  read_value : (n : ℕ) (value : List ℕ) → ((i b : ℕ) → slice_get value i ≡ Some b → (i < n) × (slice_get (unread environment.tape call.state) i ≡ Some b)) →
      MayBeRead n → EffectBeside R (told_read (reads value n storage)) (reads value n storage)
  read_value n value begins may =
      value_beside (all_read call.state.position value) value (reads value n storage)
      (each (OfByte R) (λ i. Read (call.state.position + i)) value (λ i b e. let at = begins i b e in may i b at.0 at.1)) refl refl refl

  rest_beside : (text : List ℕ) → unread environment.tape call.state ≡ text → (ended : Bool) → DoneBeside told_read (rest_read text ended storage)
  rest_beside text is false = tt
  rest_beside [] is true = tt
  rest_beside (b ∷ text) is true =
      read_value (length (b ∷ text)) (b ∷ text) (λ i c e. (slice_get_within (b ∷ text) i c e, ap (λ (t : List ℕ). slice_get t i) is ∙ e))

  string_beside : (at : Option ℕ) (text : List ℕ) → unread environment.tape call.state ≡ text → (ended : Bool) → DoneBeside told_read (read_up_to at text ended storage)
  string_beside None text is ended = rest_beside text is ended
  string_beside (Some k) text is ended =
      read_value (k + 1) (take k text) (λ i c e. let at = of_taken k text i c e in (omega (arith, at.0), ap (λ (t : List ℕ). slice_get t i) is ∙ at.1))

  byte_beside : (text : List ℕ) → unread environment.tape call.state ≡ text → (ended : Bool) → DoneBeside told_read (byte_read text ended storage)
  byte_beside [] is false = tt
  byte_beside [] is true = tt
  byte_beside (b ∷ text) is ended =
      read_value 1 (b ∷ []) (λ i c e. let at = of_taken 1 (b ∷ text) i c e in (at.0, ap (λ (t : List ℕ). slice_get t i) is ∙ at.1))

  -- ---- values that are computed

  chosen_beside : (b : Bool) (e : Effect) → Text R (chosen_from b (doing e)) (chosen b call.arguments)
  chosen_beside true e = given_text 3
  chosen_beside false e = given_text 4

  abbrev told_calculated : Effect → EffectOrigins
  told_calculated e = gives_from (if e.forced then argument_from 3 (doing e) else calculated_from (doing e)) (doing e)

  calculated_beside : ((b : ℕ) → R Made (Byte b)) → (operation : Operation) (width : Width) (found : Option (List ℕ)) →
      calculated (result_of operation) width (argument 1 call.arguments) (argument 2 call.arguments) ≡ found →
      EffectBeside R (told_calculated (gives_or_forces found (argument 3 call.arguments) storage)) (gives_or_forces found (argument 3 call.arguments) storage)
  calculated_beside made operation width None is =
      value_beside (get_or from.arguments 3 []) (argument 3 call.arguments) (forces (argument 3 call.arguments) storage) (given_text 3) refl refl refl
  calculated_beside made operation width (Some value) is =
      let first = argument 1 call.arguments in
      let n = length (prefix_of first) in
      let whole : take n first ++ drop n value ≡ value =
      ap (λ (front : List ℕ). front ++ drop n value) (front_of_prefix first ∙ sym (calculated_prefix operation width first (argument 2 call.arguments) value is))
      ∙ take-append-drop n value in
      value_beside (take n (get_or from.arguments 1 []) ++ all_made (drop n value)) value (gives value storage)
      (subst (λ (text : List ℕ). Text R (take n (get_or from.arguments 1 []) ++ all_made (drop n value)) text) whole
      (appended (taken n (given_text 1)) (made_beside R (drop n value) made))) refl refl refl

  bits_beside : ((b : ℕ) → R Made (Byte b)) → (value : List ℕ) → EffectBeside R (gives_from (all_made value) (doing (gives value storage))) (gives value storage)
  bits_beside made value = value_beside (all_made value) value (gives value storage) (made_beside R value made) refl refl refl

  computed_beside : (computation : Computation) → (makes_bytes (Compute computation) ≡ true → (b : ℕ) → R Made (Byte b)) →
      EffectBeside R (effect_from (Compute computation) (doing (computed computation environment.width call.arguments storage))) (computed computation environment.width call.arguments storage)
  computed_beside Equal made =
      let b = bytes_eq (argument 1 call.arguments) (argument 2 call.arguments) in
      value_beside _ (chosen b call.arguments) (gives (chosen b call.arguments) storage) (chosen_beside b (gives (chosen b call.arguments) storage)) refl refl refl
  computed_beside Greater made =
      let b = is_greater (numeral_of (argument 1 call.arguments)) (numeral_of (argument 2 call.arguments)) in
      value_beside _ (chosen b call.arguments) (gives (chosen b call.arguments) storage) (chosen_beside b (gives (chosen b call.arguments) storage)) refl refl refl
  computed_beside (Calculate operation) made = calculated_beside (made refl) operation environment.width _ refl
  computed_beside other made = bits_beside (made refl) _

  -- ---- forms

  -- nothing is carried, and these forms and blocks are left
  left_beside : (s : Storage) → FormsBeside R from.others.forms s.forms → BlocksBeside R from.others.blocks s.blocks → EffectBeside R (leaves_from (doing (leaves s))) (leaves s)
  left_beside s forms blocks = record { value = ends; printed = ends; forms = forms; blocks = blocks }

  -- a form that is put
  putting_beside : (items : List Origin) (form : Form) → Zip R items (all_items form) → DoneBeside (λ e. puts_from items (doing e)) (putting (argument 1 call.arguments) form storage)
  putting_beside items form z =
      let name = argument 1 call.arguments in
      let s : Storage = keeping (finite.insert call.state.forms name form) storage in
      or_refused (λ e. puts_from items (doing e)) (may_be_put name form call.state.forms) (Ok (leaves s))
      (λ may. record {
        value = ends;
        printed = ends;
        forms = put_beside R name items form from.others.forms call.state.forms z given.others.forms;
        blocks = given.others.blocks;
      })

  -- a call on a form, where there is one
  on_form_beside : (found : Option Form) (told : Form → Effect → EffectOrigins) (act : Form → Result Effect Refusal) → named_form call.arguments storage ≡ found →
      ((form : Form) → Zip R (from.others.forms (argument 1 call.arguments)) (all_items form) → named_form call.arguments storage ≡ Some form → DoneBeside (told form) (act form)) →
      DoneBeside (λ e. on_form_from found (λ form. told form e) (doing e)) (on_form found act storage)
  on_form_beside None told act is acts = λ may. left_beside storage given.others.forms given.others.blocks
  on_form_beside (Some form) told act is acts = acts form (given.others.forms (argument 1 call.arguments) form is) is

  text_beside : (k : ℕ) (e : Effect) → Text R (text_from (doing e) k) (text_numbered k (drop 2 call.arguments))
  text_beside zero e = ends
  text_beside (suc k) e = related_or (dropped 2 given.arguments) k [] [] ends

  default_beside : (reading : FormReading) (e : Effect) → Text R (default_from reading (doing e)) (default_argument reading call.arguments)
  default_beside ReadSegment e = given_text 2
  default_beside ReadChar e = given_text 2
  default_beside ReadCount e = given_text 3
  default_beside ReadUntil e = given_text 3

  reading_beside : (reading : FormReading) (form : Form) → Zip R (from.others.forms (argument 1 call.arguments)) (all_items form) → named_form call.arguments storage ≡ Some form →
      (found : Option Piece) → piece_read reading environment.width call.arguments form ≡ found →
      let e : Effect = gives_piece found (default_argument reading call.arguments) (argument 1 call.arguments) form storage in
      EffectBeside R (gives_from (piece_from found (default_from reading (doing e)) form (from.others.forms (argument 1 call.arguments))) (doing e)) e
  reading_beside reading form z there None is =
      value_beside (default_from reading (doing (forces (default_argument reading call.arguments) storage))) (default_argument reading call.arguments)
      (forces (default_argument reading call.arguments) storage) (default_beside reading (forces (default_argument reading call.arguments) storage)) refl refl refl
  reading_beside reading form z there (Some piece) is = record {
    value = piece_beside R reading environment.width call.arguments (from.others.forms (argument 1 call.arguments)) form piece (default_from reading (doing (gives_piece (Some piece) (default_argument reading call.arguments) (argument 1 call.arguments) form storage))) z is;
    printed = ends;
    forms = pointed_beside R (argument 1 call.arguments) piece.place form from.others.forms call.state.forms there given.others.forms;
    blocks = given.others.blocks;
  }

  restoring_beside : (found : Option Form) → named_form call.arguments storage ≡ found →
      DoneBeside (λ e. leaves_from (doing e)) (on_form found (λ form. Ok (leaves (pointing (argument 1 call.arguments) 0 form storage))) storage)
  restoring_beside None is = λ may. left_beside storage given.others.forms given.others.blocks
  restoring_beside (Some form) is = λ may.
      left_beside (pointing (argument 1 call.arguments) 0 form storage)
      (pointed_beside R (argument 1 call.arguments) 0 form from.others.forms call.state.forms is given.others.forms) given.others.blocks

  handled_beside : (action : FormAction) → (makes_bytes (Handle action) ≡ true → (b : ℕ) → R Made (Byte b)) → (makes_gaps (Handle action) ≡ true → (k w : ℕ) → R Made (Gap k w)) →
      DoneBeside (λ e. handled_from action (doing e)) (handled action environment.width call.arguments storage)
  handled_beside action.Define made gap =
      putting_beside (get_or from.arguments 2 []) (defined (argument 2 call.arguments)) (as_items_beside R (given_text 2))
  handled_beside action.Delete made gap = λ may.
      left_beside (keeping (without (drop 1 call.arguments) call.state.forms) storage)
      (without_beside R (drop 1 call.arguments) from.others.forms call.state.forms given.others.forms) given.others.blocks
  handled_beside action.DeleteAll made gap = λ may. left_beside (keeping finite.empty storage) (none_beside R from.others.forms) given.others.blocks
  handled_beside action.Segment made gap =
      on_form_beside (named_form call.arguments storage) (λ form e. puts_from (segmented_from form (doing e)) (doing e))
      (λ form. putting (argument 1 call.arguments) (segmented (drop 2 call.arguments) form) storage) refl
      (λ form z there. putting_beside _ (segmented (drop 2 call.arguments) form)
      (recut_beside R (gap refl) (drop 2 call.arguments) (segmented_is_cut (drop 2 call.arguments) form) _ z))
  handled_beside action.Restore made gap =
      restoring_beside (named_form call.arguments storage) refl
  handled_beside action.Call made gap =
      on_form_beside (named_form call.arguments storage) (λ form e. gives_from (called_from form (doing e)) (doing e)) (λ form. Ok (gives (called (drop 2 call.arguments) form) storage)) refl
      (λ form z there may.
      let e : Effect = gives (called (drop 2 call.arguments) form) storage in
      value_beside (called_from form (doing e)) (called (drop 2 call.arguments) form) e
      (filled_beside R (drop 2 call.arguments) (text_from (doing e)) (λ k. text_beside k e) _ form z) refl refl refl)
  handled_beside (action.Read reading) made gap =
      on_form_beside (named_form call.arguments storage) (λ form e. gives_from (reading_from reading form (doing e)) (doing e))
      (λ form. Ok (form_read reading environment.width call.arguments form storage)) refl
      (λ form z there may. reading_beside reading form z there (piece_read reading environment.width call.arguments form) refl)
  handled_beside action.ListNames made gap = λ may.
      let e : Effect = gives (listed (argument 1 call.arguments) call.state.forms) storage in
      value_beside (listed_from call.state.forms (doing e)) (listed (argument 1 call.arguments) call.state.forms) e
      (all_given {R = OfByte R} (λ name. get_or from.arguments 1 [] ++ all_made name) (λ name. argument 1 call.arguments ++ name)
      (λ name. appended (given_text 1) (made_beside R name (made refl))) (names_of call.state.forms)) refl refl refl
  handled_beside action.PrintForm made gap =
      on_form_beside (named_form call.arguments storage) (λ form e. prints_from (shown_from form (items_from (doing e))) (doing e)) (λ form. Ok (prints (shown form) storage)) refl
      (λ form z there may. record {
        value = ends;
        printed = shown_beside R (made refl) _ form z;
        forms = given.others.forms;
        blocks = given.others.blocks;
      })

  -- ---- blocks

  on_block_beside : (found : Option ℕ) (told : ℕ → Effect → EffectOrigins) (act : ℕ → Result Effect Refusal) → ((number : ℕ) → DoneBeside (told number) (act number)) →
      DoneBeside (λ e. on_block_from found (λ number. told number e) (doing e)) (on_block found act storage)
  on_block_beside None told act acts = λ may. left_beside storage given.others.forms given.others.blocks
  on_block_beside (Some number) told act acts = acts number

  erasing_beside : (found : Option ℕ) (name : List ℕ) → DoneBeside (λ e. leaves_from (doing e)) (on_block found (λ number. Ok (leaves (erased number name storage))) storage)
  erasing_beside None name = λ may. left_beside storage given.others.forms given.others.blocks
  erasing_beside (Some number) name = λ may.
      left_beside (erased number name storage) (taken_beside R name from.others.forms call.state.forms given.others.forms)
      (erased_beside R number from.others.blocks call.state.blocks given.others.blocks)

  storing_beside : ((b : ℕ) → R Made (Byte b)) → DoneBeside (λ e. stored_from (doing e)) (storing (argument 1 call.arguments) (drop 2 call.arguments) storage)
  storing_beside made =
      let name = argument 1 call.arguments in
      let names = drop 2 call.arguments in
      let address = decimal (length call.state.blocks) in
      let left : Storage = keeping (finite.insert (without names call.state.forms) name (defined address)) (put_aside names storage) in
      or_refused (λ e. stored_from (doing e)) (block_fits (moved_out names call.state.forms) call.state.blocks) (putting name (defined address) (put_aside names storage))
      (or_refused (λ e. stored_from (doing e)) (may_be_put name (defined address) (without names call.state.forms)) (Ok (leaves left))
      (λ may. record {
        value = ends;
        printed = ends;
        forms = put_beside R name (all_made address) (defined address) from.others.forms (without names call.state.forms) (as_items_beside R (made_beside R address made))
            (without_beside R names from.others.forms call.state.forms given.others.forms);
        blocks = stored_beside R names from.others.forms from.others.blocks call.state.forms call.state.blocks given.others.forms given.others.blocks;
      }))

  fetching_beside : (number : ℕ) → DoneBeside (λ e. fetched_from number (doing e)) (fetching number storage)
  fetching_beside number =
      or_refused (λ e. fetched_from number (doing e)) (nat_le (finite.len (fetched number storage)) FORM_COUNT_LIMIT) (Ok (leaves (keeping (fetched number storage) storage)))
      (λ may. record {
        value = ends;
        printed = ends;
        forms = copied_beside R (block_at number call.state.blocks) (from.others.blocks number) from.others.forms call.state.forms (given.others.blocks number) given.others.forms;
        blocks = given.others.blocks;
      })

  block_handled_beside : (action : BlockAction) → (makes_bytes (HandleBlock action) ≡ true → (b : ℕ) → R Made (Byte b)) →
      DoneBeside (λ e. block_handled_from action (doing e)) (block_handled action call.arguments storage)
  block_handled_beside StoreBlock made = storing_beside (made refl)
  block_handled_beside FetchBlock made = on_block_beside (named_block_number call.arguments storage) (λ number e. fetched_from number (doing e)) (λ number. fetching number storage) fetching_beside
  block_handled_beside EraseBlock made = erasing_beside (named_block_number call.arguments storage) (argument 1 call.arguments)

  -- ---- all primitives

  meta_beside : (text : List ℕ) → EffectBeside R (leaves_from (doing (meta_set text storage))) (meta_set text storage)
  meta_beside [] = left_beside storage given.others.forms given.others.blocks
  meta_beside (b ∷ bytes) = record { value = ends; printed = ends; forms = given.others.forms; blocks = given.others.blocks }

  pub effect_beside : (primitive : Primitive) → (makes_bytes primitive ≡ true → (b : ℕ) → R Made (Byte b)) → (makes_gaps primitive ≡ true → (k w : ℕ) → R Made (Gap k w)) →
      DoneBeside (λ e. effect_from primitive (doing e)) (effect_of primitive environment call.arguments call.state)
  effect_beside PrintString made gap = λ may. record { value = ends; printed = given_text 1; forms = given.others.forms; blocks = given.others.blocks }
  effect_beside ReadString made gap = string_beside (position (λ b. b == call.state.meta) (unread environment.tape call.state)) (unread environment.tape call.state) refl environment.tape.ended
  effect_beside ReadByte made gap = byte_beside (unread environment.tape call.state) refl environment.tape.ended
  effect_beside Halt made gap = tt
  effect_beside SetMeta made gap = λ may. meta_beside (argument 1 call.arguments)
  effect_beside (SetTrace trace) made gap = λ may. record { value = ends; printed = ends; forms = given.others.forms; blocks = given.others.blocks }
  effect_beside (Compute computation) made gap = λ may. computed_beside computation made
  effect_beside (Handle action) made gap = handled_beside action made gap
  effect_beside (HandleBlock action) made gap = block_handled_beside action made
  effect_beside Unknown made gap = λ may. left_beside storage given.others.forms given.others.blocks
