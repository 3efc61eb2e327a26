-- The value of `in`, told by what is known of it after the step.
use Rattle.std.proofs.Common.{◌≡◌, ℕ, ◌+◌, ◌-◌, ◌<◌, ◌≤◌, true, false, ◌==◌, ◌&&◌, Bool, List, [], ◌∷◌, length, take, drop, refl, sym, ap, ap₂, ◌∙◌, arith, ⊎_elim, Option, None, Some, option_map, slice_get, flat_map}
use Rattle.std.proofs.lemmas.Bool.Decides.{nat_tests}
use Rattle.std.proofs.lemmas.List.{drop-drop, drop_all}
use Rattle.std.proofs.lemmas.Option.{slice_get_within}
use Rattle.trac_rules.specs.declared.item.Item.{Item}
use Rattle.trac_rules.specs.declared.item.Item.TheVariants.{Byte, Gap}
use Rattle.trac_rules.specs.declared.primitive.FormAction.TheVariants as action
use Rattle.trac_rules.specs.declared.primitive.FormReading.TheVariants.{ReadUntil}
use Rattle.trac_rules.specs.declared.primitive.Primitive.TheVariants.{Handle}
use Rattle.trac_rules.specs.declared.width.Width.{Width}
use Rattle.trac_rules.specs.Effect.{argument}
use Rattle.trac_rules.specs.Form.{Form, all_items}
use Rattle.trac_rules.specs.Handling.{piece_read}
use Rattle.trac_rules.specs.Pieces.{Piece, begin_with, byte_of, bytes_in, place_of_text, read_on, until_read}
use Rattle.trac_rules.specs.State.{Environment}
use Rattle.trac_rules.specs.Scanning.{Call}
use Rattle.trac_rules.proofs.Balanced.{first_place_cases, first_place_passes, first_place_some}
use Rattle.trac_origins.specs.Lengths.{value_at}
use Rattle.trac_origins.specs.Stepping.{origin}
use Rattle.trac_origins.proofs.Zips.{of_dropped}
use Rattle.trac_follow_step.specs.declared.items.Given.{Given}
use Rattle.trac_follow_step.specs.Items.{IsGiven}
use Rattle.trac_follow_step.specs.declared.place.Origin as told
use Rattle.trac_follow_step.specs.declared.place.Place as code_place
use Rattle.trac_follow_step.specs.Formed.{IsFound, StandsAfter, TellsOfForm, ToldFrom, is_byte}
use Rattle.trac_follow_step.specs.Places.{IsSeen, Tells}
use Rattle.trac_follow_step.proofs.FormsTold.{default_read, piece_item}
use Rattle.trac_follow_step.proofs.Giving.{default_forces, piece_gives}
use Rattle.trac_follow_step.proofs.Spans.{after_pointer, byte_alone, byte_before_end, bytes_taken, whole_after}

-- ---- where a text stands

-- a text that is not empty begins with a byte
begins_with_byte : (text : List ℕ) (items : List Item) → 0 < length text → begin_with text items ≡ true → (b : ℕ) × (slice_get items 0 ≡ Some (Byte b))
begins_with_byte [] items some begins = absurd (omega (arith, some))
begins_with_byte (b ∷ text) [] some begins = absurd (cc)
begins_with_byte (b ∷ text) (Byte c ∷ items) some begins = (c, refl)
begins_with_byte (b ∷ text) (Gap ordinal width ∷ items) some begins = absurd (cc)

module _ (text : List ℕ) (items : List Item) where
  abbrev passes : ℕ → Bool
  passes k = begin_with text (drop k items)

  found_passes : (k : ℕ) → place_of_text text items ≡ Some k → begin_with text (drop k items) ≡ true
  found_passes k found = first_place_passes passes (length items + 1) k found

  none_passes : place_of_text text items ≡ None → (k : ℕ) → k < length items + 1 → begin_with text (drop k items) ≡ false
  none_passes none k l =
      ⊎_elim
      (λ (fails : (j : ℕ) → j < length items + 1 → passes j ≡ false). fails k l)
      (λ (some : (j : ℕ) × (j < length items + 1) × (passes j ≡ true) × ((i : ℕ) → i < j → passes i ≡ false)).
      absurd (let there : place_of_text text items ≡ Some some.0 = first_place_some passes (length items + 1) some.0 some.1 some.2 some.3 in cc))
      (first_place_cases passes (length items + 1))

-- an empty text stands at once
empty_at_once : (items : List Item) (k : ℕ) → place_of_text [] items ≡ Some k → k ≡ 0
empty_at_once items k found =
    let first : place_of_text [] items ≡ Some 0 =
    first_place_some (λ j. begin_with [] (drop j items)) (length items + 1) 0 (omega arith) refl (λ j l. absurd (omega (arith, l))) in
    cc

-- ---- what is found

module _ (form : Form) (arguments : List (List ℕ)) (function : ℕ) (width : Width) (seen : Option ℕ) (i : ℕ) (text : List ℕ) (given : argument 2 arguments ≡ text) where
  abbrev pub Until : told.Origin → Type 0
  Until o = TellsOfForm (Handle (action.Read ReadUntil)) form arguments function width seen i o

  abbrev piece_at : ℕ → Piece
  piece_at k = record (read_on k form) { place = length form.before + k + length text }

  reads_at : (found : Option ℕ) → place_of_text text form.after ≡ found → option_map piece_at found ≡ piece_read ReadUntil width arguments form
  reads_at found is = ap (option_map piece_at) (sym is) ∙ ap (λ q. until_read q form) (sym given)

  in_call : (environment : Environment) (call : Call) (found : Option ℕ) → call.arguments ≡ arguments → place_of_text text form.after ≡ found →
      piece_read ReadUntil environment.width call.arguments form ≡ option_map piece_at found
  in_call environment call found same is = ap (λ (texts : List (List ℕ)). until_read (argument 2 texts) form) same ∙ sym (reads_at found is)

  pub until_found : (o : told.Origin) (first : ℕ) → first ≡ length form.before → IsFound form text seen true → ToldFrom form first i o → Until o
  until_found o first begins found tells environment s call e wide of same number names is_seen l = go (place_of_text text form.after) refl seen found is_seen
    where
      go : (at : Option ℕ) → place_of_text text form.after ≡ at → (known : Option ℕ) → IsFound form text known true → IsSeen known e → Tells s o (origin environment s (value_at call.kind e.forced call.state i))
      go (Some k) is known there sees =
          let few : length (bytes_in (take k form.after)) ≤ length (bytes_in (drop first (all_items form))) =
          omega (arith, bytes_taken k form.after, ap (λ (xs : List Item). length (bytes_in xs)) (after_pointer form first begins)) in
          piece_item ReadUntil form arguments function width seen i (piece_at k) first o (reads_at (Some k) is) (omega (arith, begins)) few tells
          environment s call e wide of same number names is_seen l
      go None is None there sees =
          absurd (let forced = default_forces environment s call e ReadUntil form of names (in_call environment call None same is) in cc)
      go None is (Some len) there sees =
          absurd (let fails = none_passes text form.after is there.place (omega (arith, slice_get_within form.after there.place (Byte there.byte) there.there)) in let begins = there.begins in cc)

  pub until_missed : IsFound form text seen false → Until (told.TheVariants.Carried (code_place.TheVariants.Argument function 3 i))
  until_missed missed environment s call e wide of same number names is_seen l = go (place_of_text text form.after) refl seen missed is_seen
    where
      by_text : (q : List ℕ) → text ≡ q → (k : ℕ) → place_of_text text form.after ≡ Some k → {len : ℕ} → length (bytes_in (take k form.after)) ≡ len → (StandsAfter text len form → ⊥) →
          length e.value ≡ length (bytes_in (take k form.after)) → ⊥
      by_text [] empty k is before missed value =
          let at_once : k ≡ 0 = empty_at_once form.after k (ap (λ q. place_of_text q form.after) (sym empty) ∙ is) in
          absurd (omega (arith, l, value, ap (λ n. length (bytes_in (take n form.after))) at_once))
      by_text (b ∷ q) some k is before missed value =
          let begins = found_passes text form.after k is in
          let byte = begins_with_byte text (drop k form.after) (omega (arith, ap (λ (r : List ℕ). length r) some)) begins in
          let plus : k + 0 ≡ k = omega arith in
          missed (record {
            place = k;
            byte = byte.0;
            there = ap (slice_get form.after) (sym plus) ∙ sym (of_dropped k form.after 0) ∙ byte.1;
            before = before;
            begins = begins;
          })

      go : (at : Option ℕ) → place_of_text text form.after ≡ at → (known : Option ℕ) → IsFound form text known false → IsSeen known e →
          Tells s (told.TheVariants.Carried (code_place.TheVariants.Argument function 3 i)) (origin environment s (value_at call.kind e.forced call.state i))
      go None is known missed sees =
          default_read ReadUntil form arguments function width seen i 3 (reads_at None is) refl environment s call e wide of same number names is_seen l
      go (Some k) is None missed sees = absurd (cc)
      go (Some k) is (Some len) missed sees =
          let value = ap (λ (bytes : List ℕ). length bytes) (piece_gives environment s call e ReadUntil form (piece_at k) of names (in_call environment call (Some k) same is)) in
          absurd (by_text text refl k is (omega (arith, value, sees)) missed value)

-- ---- as the code finds it

-- an item that gives a byte is one
gives_byte : (item : Item) (n : ℕ) → n < length (byte_of item) → (b : ℕ) × (item ≡ Byte b) × (n ≡ 0)
gives_byte (Byte b) n l = (b, refl, omega (arith, l))
gives_byte (Gap ordinal width) n l = absurd (omega (arith, l))

module _ (form : Form) (text : List ℕ) (bytes start : ℕ) (starts : start ≡ length form.before) where
  after_is : drop start (all_items form) ≡ form.after
  after_is = after_pointer form start starts

  pub stands_here : (given : Given) → IsGiven byte_of (drop start (all_items form)) bytes given → (begins : Bool) → begins ≡ begin_with text (drop (start + given.at) (all_items form)) →
      IsFound form text (Some bytes) begins
  stands_here given is begins test = go begins refl
    where
      byte : (b : ℕ) × (given.item ≡ Byte b) × (given.byte ≡ 0)
      byte = gives_byte given.item given.byte is.within

      there : slice_get form.after given.at ≡ Some (Byte byte.0)
      there = ap (λ (xs : List Item). slice_get xs given.at) (sym after_is) ∙ is.there ∙ ap Some byte.1

      before : length (bytes_in (take given.at form.after)) ≡ bytes
      before = omega (arith, is.place, byte.2, ap (λ (xs : List Item). length (bytes_in (take given.at xs))) after_is)

      begins_so : begins ≡ begin_with text (drop given.at form.after)
      begins_so = test ∙ ap (begin_with text) (sym (drop-drop given.at start (all_items form)) ∙ ap (λ (xs : List Item). drop given.at xs) after_is)

      go : (b : Bool) → begins ≡ b → IsFound form text (Some bytes) b
      go true e = record { place = given.at; byte = byte.0; there = there; before = before; begins = sym begins_so ∙ e }
      go false e = λ (other : StandsAfter text bytes form).
          let same : other.place ≡ given.at = byte_alone form.after other.place given.at other.byte byte.0 other.there there (other.before ∙ sym before) in
          absurd (let unlike : true ≡ false = sym other.begins ∙ ap (λ k. begin_with text (drop k form.after)) same ∙ sym begins_so ∙ e in cc)

  pub stands_nowhere : (to rest : ℕ) → to ≡ length (all_items form) → length (flat_map byte_of (take (to - start) (drop start (all_items form)))) + rest ≡ bytes → StandsAfter text bytes form → ⊥
  stands_nowhere to rest ends past other =
      let span : take (to - start) (drop start (all_items form)) ≡ form.after = whole_after form start starts to ends in
      absurd (omega (arith, past, ap (λ (xs : List Item). length (bytes_in xs)) span, other.before, byte_before_end form.after other.place other.byte other.there))

-- one byte after another
begin_step : (b : ℕ) (text : List ℕ) (items : List Item) → begin_with (b ∷ text) items ≡ (is_byte (slice_get items 0) b && begin_with text (drop 1 items))
begin_step b text (Byte c ∷ items) = refl
begin_step b text items = refl

pub begins_by : (items : List Item) (at b : ℕ) (text others : List ℕ) (whole first : Bool) → whole ≡ begin_with text (drop at items) → text ≡ b ∷ others → is_byte (slice_get items at) b ≡ first →
    whole ≡ (first && begin_with others (drop (at + 1) items))
begins_by items at b text others whole first so_far split is =
    let none : at + 0 ≡ at = omega arith in
    so_far ∙ ap (λ q. begin_with q (drop at items)) split ∙ begin_step b others (drop at items)
    ∙ ap₂ (λ t (rest : List Item). t && begin_with others rest)
    (ap (λ (found : Option Item). is_byte found b) (of_dropped at items 0 ∙ ap (slice_get items) none) ∙ is) (drop-drop 1 at items)

pub begins_end : (items : List Item) (at : ℕ) (text : List ℕ) (whole empty : Bool) → whole ≡ begin_with text (drop at items) → length items ≤ at → empty ≡ (length text == 0) → empty ≡ whole
begins_end items at [] whole empty so_far ends is = is ∙ sym so_far
begins_end items at (b ∷ text) whole empty so_far ends is =
    let left : drop at items ≡ [] = drop_all at items ends in
    let some : empty ≡ false = grind (arith, nat_tests) in
    some ∙ sym (so_far ∙ ap (begin_with (b ∷ text)) left)
