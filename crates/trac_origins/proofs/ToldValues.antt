-- Origins by lengths of what a call gives and prints, primitive by primitive.
use Rattle.std.proofs.Common.{◌≡◌, ℕ, zero, suc, ◌+◌, ◌-◌, ◌<◌, ◌≤◌, min, Bool, true, false, List, [], ◌∷◌, ◌++◌, length, take, drop, get_or, refl, sym, ap, subst, ◌∙◌, arith}
use Rattle.std.specs.Prelude.{Option, None, Some, bytes_eq, codes, slice_get}
use Rattle.std.specs.List.{flat_map}
use Rattle.std.proofs.lemmas.Bool.{cond-true, cond-false}
use Rattle.std.proofs.lemmas.List.{get_or_append_left, get_or-append-add, get_or-append_right, get_or-drop, get_or-take, length-append, length-drop, length-take}
use Rattle.std.proofs.lemmas.Option.{slice_get_within}
use Rattle.trac_rules.specs.declared.item.Item.{Item}
use Rattle.trac_rules.specs.declared.item.Item.TheVariants.{Byte, Gap}
use Rattle.trac_rules.specs.declared.primitive.Computation.{Computation}
use Rattle.trac_rules.specs.declared.primitive.Computation.TheVariants.{Equal, Greater, Calculate}
use Rattle.trac_rules.specs.declared.primitive.FormAction.TheVariants as action
use Rattle.trac_rules.specs.declared.primitive.FormReading.{FormReading}
use Rattle.trac_rules.specs.declared.primitive.FormReading.TheVariants.{ReadSegment, ReadChar, ReadCount, ReadUntil}
use Rattle.trac_rules.specs.declared.primitive.Operation.{Operation}
use Rattle.trac_rules.specs.declared.primitive.Primitive.{Primitive}
use Rattle.trac_rules.specs.declared.primitive.Primitive.TheVariants.{PrintString, ReadString, ReadByte, Compute, Handle}
use Rattle.trac_rules.specs.Effect.{Effect, argument}
use Rattle.trac_rules.specs.Filling.{all_filled, filled, text_numbered}
use Rattle.trac_rules.specs.Form.{Form, all_items}
use Rattle.trac_rules.specs.Handling.{named_form, piece_read}
use Rattle.trac_rules.specs.Listing.{names_of}
use Rattle.trac_rules.specs.Number.{is_greater, numeral_of, prefix_of}
use Rattle.trac_rules.specs.Pieces.{Piece, byte_of, bytes_in}
use Rattle.trac_rules.specs.Scanning.{Call}
use Rattle.trac_rules.specs.Showing.{shown_item, shown_items}
use Rattle.trac_rules.specs.State.{Environment, State, storage_of}
use Rattle.trac_origins.specs.Places.{Origin, Read, Made}
use Rattle.trac_origins.specs.Lists.{all_made}
use Rattle.trac_origins.specs.Performing.{EffectOrigins, Performed, argument_from, called_from, chosen_from, default_from, gives_from, items_from, listed_from, mark_from, nothing_for, on_form_from, piece_from, prints_from, reading_from, shown_from, spread, text_from}
use Rattle.trac_origins.specs.Stepping.{origin}
use Rattle.trac_origins.specs.Lengths.{IsCallOf, gives_bits, number_chosen, number_of_default, of_argument, of_form, printed_at, value_at}
use Rattle.trac_origins.proofs.Told.{length-one_each, one_each-at}
use Rattle.trac_origins.proofs.ToldSteps.{always_made}
use Rattle.trac_origins.proofs.ToldEffects.{argument_told, call_of, does_from, item_told, length_argument, length_items, length_value, printed_told, value_told}

-- ---- items that are spread

-- an origin among others
pub record IsSpread (os : List Origin) (n : ℕ) (o : Origin) : Type 0 where
  pub within : n < length os
  pub told : get_or os n Made ≡ o

later_spread : (before os : List Origin) (n m k : ℕ) (o : Origin) → length before ≡ k → m ≡ k + n → IsSpread os n o → IsSpread (before ++ os) m o
later_spread before os n m k o long same is =
    let index : m ≡ length before + n = omega (arith, long, same) in
    record {
      within = omega (arith, index, is.within, length-append before os);
      told = ap (λ i. get_or (before ++ os) i Made) index ∙ get_or-append-add before os n Made ∙ is.told;
    }

sooner_spread : (os more : List Origin) (n : ℕ) (o : Origin) → IsSpread os n o → IsSpread (os ++ more) n o
sooner_spread os more n o is = record {
  within = omega (arith, is.within, length-append os more);
  told = get_or_append_left os more Made n is.within ∙ is.told;
}

module _ (gap : ℕ → List Origin) (give : Item → List ℕ) (bytes : (b : ℕ) → give (Byte b) ≡ b ∷ []) (gaps : (k w : ℕ) → length (gap k) ≡ length (give (Gap k w))) where
  one_more : (item : Item) (items : List Item) → length (flat_map give (item ∷ items)) ≡ length (give item) + length (flat_map give items)
  one_more item items = length-append (give item) (flat_map give items)

  -- a byte is that of its item
  pub byte_spread : (items : List Item) (from : List Origin) → length from ≡ length items → (m b : ℕ) → slice_get items m ≡ Some (Byte b) →
      IsSpread (spread gap items from) (length (flat_map give (take m items))) (get_or from m Made)
  byte_spread [] from same m b e = absurd (cc)
  byte_spread (item ∷ items) [] same m b e = absurd (omega (arith, same))
  byte_spread (Byte c ∷ items) (o ∷ from) same zero b e = record { within = omega arith; told = refl }
  byte_spread (Byte c ∷ items) (o ∷ from) same (suc m) b e =
      later_spread (o ∷ []) (spread gap items from) (length (flat_map give (take m items))) _ 1 (get_or from m Made) refl
      (one_more (Byte c) (take m items) ∙ ap (λ (text : List ℕ). length text + length (flat_map give (take m items))) (bytes c))
      (byte_spread items from (omega (arith, same)) m b e)
  byte_spread (Gap k w ∷ items) (o ∷ from) same zero b e = absurd (cc)
  byte_spread (Gap k w ∷ items) (o ∷ from) same (suc m) b e =
      later_spread (gap k) (spread gap items from) (length (flat_map give (take m items))) _ (length (gap k)) (get_or from m Made) refl
      (one_more (Gap k w) (take m items) ∙ ap (λ n. n + length (flat_map give (take m items))) (sym (gaps k w)))
      (byte_spread items from (omega (arith, same)) m b e)

  -- and one that stands for a gap is of what the gap gives
  pub gap_spread : (items : List Item) (from : List Origin) → length from ≡ length items → (m k w j : ℕ) → slice_get items m ≡ Some (Gap k w) → j < length (gap k) →
      IsSpread (spread gap items from) (length (flat_map give (take m items)) + j) (get_or (gap k) j Made)
  gap_spread [] from same m k w j e l = absurd (cc)
  gap_spread (item ∷ items) [] same m k w j e l = absurd (omega (arith, same))
  gap_spread (Byte c ∷ items) (o ∷ from) same zero k w j e l = absurd (cc)
  gap_spread (Byte c ∷ items) (o ∷ from) same (suc m) k w j e l =
      later_spread (o ∷ []) (spread gap items from) (length (flat_map give (take m items)) + j) _ 1 (get_or (gap k) j Made) refl
      (ap (λ n. n + j) (one_more (Byte c) (take m items) ∙ ap (λ (text : List ℕ). length text + length (flat_map give (take m items))) (bytes c)) ∙ omega arith)
      (gap_spread items from (omega (arith, same)) m k w j e l)
  gap_spread (Gap i v ∷ items) (o ∷ from) same zero k w j e l =
      let same_gap : i ≡ k = cc in
      let none_before : j ≡ 0 + j = omega arith in
      subst (λ n. IsSpread (gap i ++ spread gap items from) n (get_or (gap k) j Made)) none_before
      (subst (λ n. IsSpread (gap n ++ spread gap items from) j (get_or (gap k) j Made)) (sym same_gap)
      (sooner_spread (gap k) (spread gap items from) j (get_or (gap k) j Made) (record { within = l; told = refl })))
  gap_spread (Gap i v ∷ items) (o ∷ from) same (suc m) k w j e l =
      later_spread (gap i) (spread gap items from) (length (flat_map give (take m items)) + j) _ (length (gap i)) (get_or (gap k) j Made) refl
      (ap (λ n. n + j) (one_more (Gap i v) (take m items) ∙ ap (λ n. n + length (flat_map give (take m items))) (sym (gaps i v))) ∙ omega arith)
      (gap_spread items from (omega (arith, same)) m k w j e l)

-- texts that are given one after another
given_at : {C : Type 0} (f : C → List Origin) (g : C → List ℕ) → ((c : C) → length (f c) ≡ length (g c)) → (cs : List C) (n : ℕ) (c : C) → slice_get cs n ≡ Some c → (j : ℕ) → j < length (f c) →
    IsSpread (flat_map f cs) (length (flat_map g (take n cs)) + j) (get_or (f c) j Made)
given_at f g same [] n c e j l = absurd (cc)
given_at f g same (d ∷ cs) zero c e j l =
    let first : d ≡ c = cc in
    let none_before : j ≡ 0 + j = omega arith in
    subst (λ m. IsSpread (f d ++ flat_map f cs) m (get_or (f c) j Made)) none_before
    (subst (λ x. IsSpread (f x ++ flat_map f cs) j (get_or (f c) j Made)) (sym first) (sooner_spread (f c) (flat_map f cs) j (get_or (f c) j Made) (record { within = l; told = refl })))
given_at f g same (d ∷ cs) (suc n) c e j l =
    later_spread (f d) (flat_map f cs) (length (flat_map g (take n cs)) + j) _ (length (f d)) (get_or (f c) j Made) refl
    (ap (λ m. m + j) (length-append (g d) (flat_map g (take n cs)) ∙ ap (λ m. m + length (flat_map g (take n cs))) (sym (same d))) ∙ omega arith)
    (given_at f g same cs n c e j l)

-- ---- a call

made_at : (text : List ℕ) (i : ℕ) → get_or (all_made text) i Made ≡ Made
made_at text i = always_made text i

length-prefix : (text : List ℕ) → length (prefix_of text) ≤ length text
unfolding prefix_of
length-prefix text = omega (arith, length-take (length text - length (numeral_of text)) text)

module _ (environment : Environment) (s : State) (call : Call) (e : Effect) where
  abbrev value_place : ℕ → Origin
  value_place i = origin environment s (value_at call.kind e.forced call.state i)

  -- ---- the input

  pub string_told : IsCallOf environment s call ReadString e → (i : ℕ) → i < length e.value → value_place i ≡ Read (call.state.position + i)
  string_told is i l = value_told environment s call ReadString e is i l ∙ one_each-at (λ j. Read (call.state.position + j)) e.value i l

  pub byte_told : IsCallOf environment s call ReadByte e → (i : ℕ) → i < length e.value → value_place i ≡ Read (call.state.position + i)
  byte_told is i l = value_told environment s call ReadByte e is i l ∙ one_each-at (λ j. Read (call.state.position + j)) e.value i l

  -- ---- computations

  -- an argument is given
  argument_given : (primitive : Primitive) (is : IsCallOf environment s call primitive e) (k : ℕ) → (does_from environment s call primitive e is).value ≡ argument_from k (call_of environment s call primitive e is) →
      (i : ℕ) → i < length e.value → value_place i ≡ of_argument call k i
  argument_given primitive is k same i l =
      let long : length (argument k call.arguments) ≡ length e.value =
      sym (length_argument environment s call primitive e is k) ∙ ap (λ (os : List Origin). length os) (sym same) ∙ length_value environment s call primitive e is in
      value_told environment s call primitive e is i l ∙ ap (λ (os : List Origin). get_or os i Made) same
      ∙ argument_told environment s call primitive e is k i (omega (arith, l, long))

  chosen_told : (primitive : Primitive) (is : IsCallOf environment s call primitive e) (b : Bool) → (does_from environment s call primitive e is).value ≡ chosen_from b (call_of environment s call primitive e is) →
      (i : ℕ) → i < length e.value → value_place i ≡ of_argument call (number_chosen b) i
  chosen_told primitive is true same i l = argument_given primitive is 3 same i l
  chosen_told primitive is false same i l = argument_given primitive is 4 same i l

  pub equal_told : IsCallOf environment s call (Compute Equal) e → (i : ℕ) → i < length e.value →
      value_place i ≡ of_argument call (number_chosen (bytes_eq (argument 1 call.arguments) (argument 2 call.arguments))) i
  equal_told is i l = chosen_told (Compute Equal) is (bytes_eq (argument 1 call.arguments) (argument 2 call.arguments)) refl i l

  pub greater_told : IsCallOf environment s call (Compute Greater) e → (i : ℕ) → i < length e.value →
      value_place i ≡ of_argument call (number_chosen (is_greater (numeral_of (argument 1 call.arguments)) (numeral_of (argument 2 call.arguments)))) i
  greater_told is i l = chosen_told (Compute Greater) is (is_greater (numeral_of (argument 1 call.arguments)) (numeral_of (argument 2 call.arguments))) refl i l

  pub default_told : (operation : Operation) → IsCallOf environment s call (Compute (Calculate operation)) e → e.forced ≡ true → (i : ℕ) → i < length e.value → value_place i ≡ of_argument call 3 i
  default_told operation is forced i l = argument_given (Compute (Calculate operation)) is 3 (cond-true e.forced _ _ forced) i l

  -- a result comes after the prefix of the first argument
  abbrev prefixed_from : (operation : Operation) → IsCallOf environment s call (Compute (Calculate operation)) e → List Origin
  prefixed_from operation is = take (length (prefix_of (argument 1 call.arguments))) (argument_from 1 (call_of environment s call (Compute (Calculate operation)) e is))

  length-prefixed : (operation : Operation) (is : IsCallOf environment s call (Compute (Calculate operation)) e) → length (prefixed_from operation is) ≡ length (prefix_of (argument 1 call.arguments))
  length-prefixed operation is =
      let p = Compute (Calculate operation) in
      let first = argument_from 1 (call_of environment s call p e is) in
      let n = length (prefix_of (argument 1 call.arguments)) in
      omega (arith, length-take n first, length-prefix (argument 1 call.arguments), length_argument environment s call p e is 1)

  result_told : (operation : Operation) (is : IsCallOf environment s call (Compute (Calculate operation)) e) → e.forced ≡ false → (i : ℕ) → i < length e.value →
      value_place i ≡ get_or (prefixed_from operation is ++ all_made (drop (length (prefix_of (argument 1 call.arguments))) e.value)) i Made
  result_told operation is unforced i l =
      let p = Compute (Calculate operation) in
      value_told environment s call p e is i l
      ∙ ap (λ (os : List Origin). get_or os i Made) (cond-false e.forced (argument_from 3 (call_of environment s call p e is)) (prefixed_from operation is ++ all_made (drop (length (prefix_of (argument 1 call.arguments))) e.value)) unforced)

  pub prefix_told : (operation : Operation) → IsCallOf environment s call (Compute (Calculate operation)) e → e.forced ≡ false → (i : ℕ) → i < length e.value →
      i < length (prefix_of (argument 1 call.arguments)) → value_place i ≡ of_argument call 1 i
  prefix_told operation is unforced i l before =
      let n = length (prefix_of (argument 1 call.arguments)) in
      result_told operation is unforced i l
      ∙ get_or_append_left (prefixed_from operation is) (all_made (drop n e.value)) Made i (omega (arith, before, length-prefixed operation is))
      ∙ get_or-take n (argument_from 1 (call_of environment s call (Compute (Calculate operation)) e is)) i Made before
      ∙ argument_told environment s call (Compute (Calculate operation)) e is 1 i (omega (arith, before, length-prefix (argument 1 call.arguments)))

  pub digits_told : (operation : Operation) → IsCallOf environment s call (Compute (Calculate operation)) e → e.forced ≡ false → (i : ℕ) → i < length e.value →
      length (prefix_of (argument 1 call.arguments)) ≤ i → value_place i ≡ Made
  digits_told operation is unforced i l after =
      let n = length (prefix_of (argument 1 call.arguments)) in
      result_told operation is unforced i l
      ∙ get_or-append_right (prefixed_from operation is) (all_made (drop n e.value)) n i Made (length-prefixed operation is) after
      ∙ made_at (drop n e.value) (i - n)

  pub bits_told : (computation : Computation) → gives_bits computation ≡ true → IsCallOf environment s call (Compute computation) e → (i : ℕ) → i < length e.value → value_place i ≡ Made
  bits_told Equal bits is i l = absurd (cc)
  bits_told Greater bits is i l = absurd (cc)
  bits_told (Calculate operation) bits is i l = absurd (cc)
  bits_told other bits is i l = value_told environment s call (Compute other) e is i l ∙ made_at e.value i

  -- ---- forms

  -- the form that a call names
  abbrev Names : Form → Type 0
  Names form = named_form call.arguments (storage_of call.state) ≡ Some form

  -- an origin in a value
  spread_told : (primitive : Primitive) (is : IsCallOf environment s call primitive e) (os : List Origin) → (does_from environment s call primitive e is).value ≡ os →
      (n : ℕ) (o : Origin) → IsSpread os n o → value_place n ≡ o
  spread_told primitive is os same n o in_os =
      value_told environment s call primitive e is n (omega (arith, in_os.within, ap (λ (us : List Origin). length us) same, length_value environment s call primitive e is))
      ∙ ap (λ (us : List Origin). get_or us n Made) same ∙ in_os.told

  -- a call on a form
  acts_value : (primitive : Primitive) (is : IsCallOf environment s call primitive e) (form : Form) → Names form → (act : Form → EffectOrigins) →
      (on_form_from (named_form call.arguments (storage_of call.state)) act (call_of environment s call primitive e is)).value ≡ (act form).value
  acts_value primitive is form there act = ap (λ (found : Option Form). (on_form_from found act (call_of environment s call primitive e is)).value) there

  -- the texts of gaps are as long as they are
  gaps_alike : (is : IsCallOf environment s call (Handle action.Call) e) (k w : ℕ) →
      length (text_from (call_of environment s call (Handle action.Call) e is) k) ≡ length (filled (drop 2 call.arguments) (Gap k w))
  gaps_alike is zero w = refl
  gaps_alike is (suc k) w =
      let from = (call_of environment s call (Handle action.Call) e is).from.arguments in
      ap (λ (os : List Origin). length os) (get_or-drop 2 from k []) ∙ length_argument environment s call (Handle action.Call) e is (2 + k)
      ∙ ap (λ (text : List ℕ). length text) (sym (get_or-drop 2 call.arguments k []))

  called_value : (is : IsCallOf environment s call (Handle action.Call) e) (form : Form) → Names form →
      (does_from environment s call (Handle action.Call) e is).value ≡ called_from form (call_of environment s call (Handle action.Call) e is)
  called_value is form there =
      let d : Performed = call_of environment s call (Handle action.Call) e is in
      acts_value (Handle action.Call) is form there (λ f. gives_from (called_from f d) d)

  -- the origins of the items after the pointer
  length_after : (primitive : Primitive) (is : IsCallOf environment s call primitive e) (form : Form) → Names form →
      length (drop (length form.before) (items_from (call_of environment s call primitive e is))) ≡ length form.after
  length_after primitive is form there =
      let items = items_from (call_of environment s call primitive e is) in
      omega (arith, length-drop (length form.before) items, length_items environment s call primitive e is form there, length-append form.before form.after)

  after_told : (primitive : Primitive) (is : IsCallOf environment s call primitive e) (form : Form) → Names form → (m : ℕ) → m < length form.after →
      get_or (drop (length form.before) (items_from (call_of environment s call primitive e is))) m Made ≡ of_form call (length form.before + m)
  after_told primitive is form there m l =
      get_or-drop (length form.before) (items_from (call_of environment s call primitive e is)) m Made
      ∙ item_told environment s call primitive e is form (length form.before + m) there (omega (arith, l, length-append form.before form.after))

  -- `cl`
  pub called_told : IsCallOf environment s call (Handle action.Call) e → (form : Form) → Names form → (m b : ℕ) → slice_get form.after m ≡ Some (Byte b) →
      value_place (length (all_filled (drop 2 call.arguments) (take m form.after))) ≡ of_form call (length form.before + m)
  called_told is form there m b stands =
      let d : Performed = call_of environment s call (Handle action.Call) e is in
      spread_told (Handle action.Call) is (called_from form d) (called_value is form there) _ _
      (byte_spread (text_from d) (filled (drop 2 call.arguments)) (λ c. refl) (gaps_alike is) form.after
      (drop (length form.before) (items_from d)) (length_after (Handle action.Call) is form there) m b stands)
      ∙ after_told (Handle action.Call) is form there m (slice_get_within form.after m (Byte b) stands)

  pub filled_told : IsCallOf environment s call (Handle action.Call) e → (form : Form) → Names form → (m k w j : ℕ) → slice_get form.after m ≡ Some (Gap k w) →
      j < length (text_numbered k (drop 2 call.arguments)) → value_place (length (all_filled (drop 2 call.arguments) (take m form.after)) + j) ≡ of_argument call (k + 1) j
  filled_told is form there m k w j stands l =
      let d : Performed = call_of environment s call (Handle action.Call) e is in
      spread_told (Handle action.Call) is (called_from form d) (called_value is form there) _ _
      (gap_spread (text_from d) (filled (drop 2 call.arguments)) (λ c. refl) (gaps_alike is) form.after
      (drop (length form.before) (items_from d)) (length_after (Handle action.Call) is form there) m k w j stands (omega (arith, l, gaps_alike is k w)))
      ∙ text_told k l
    where
      d : Performed
      d = call_of environment s call (Handle action.Call) e is

      text_told : (i : ℕ) → j < length (text_numbered i (drop 2 call.arguments)) → get_or (text_from d i) j Made ≡ of_argument call (i + 1) j
      text_told zero l = absurd (omega (arith, l))
      text_told (suc i) l =
          let number : 2 + i ≡ suc i + 1 = omega arith in
          let same : get_or (drop 2 call.arguments) i [] ≡ argument (2 + i) call.arguments = get_or-drop 2 call.arguments i [] in
          ap (λ (os : List Origin). get_or os j Made) (get_or-drop 2 d.from.arguments i [])
          ∙ argument_told environment s call (Handle action.Call) e is (2 + i) j (subst (λ (text : List ℕ). j < length text) same l)
          ∙ ap (λ n. of_argument call n j) number

  -- `cs`, `cc`, `cn` and `in`
  reading_value : (reading : FormReading) (is : IsCallOf environment s call (Handle (action.Read reading)) e) (form : Form) → Names form → (found : Option Piece) →
      piece_read reading environment.width call.arguments form ≡ found →
      let d : Performed = call_of environment s call (Handle (action.Read reading)) e is in
      (does_from environment s call (Handle (action.Read reading)) e is).value ≡ piece_from found (default_from reading d) form (items_from d)
  reading_value reading is form there found read =
      let d : Performed = call_of environment s call (Handle (action.Read reading)) e is in
      acts_value (Handle (action.Read reading)) is form there (λ f. gives_from (reading_from reading f d) d)
      ∙ ap (λ (piece : Option Piece). piece_from piece (default_from reading d) form (items_from d)) read

  pub piece_told : (reading : FormReading) → IsCallOf environment s call (Handle (action.Read reading)) e → (form : Form) → Names form → (piece : Piece) →
      piece_read reading environment.width call.arguments form ≡ Some piece → (m b : ℕ) → slice_get (drop (min (length form.before) piece.place) (all_items form)) m ≡ Some (Byte b) →
      let first = min (length form.before) piece.place in
      let i = length (bytes_in (take m (drop first (all_items form)))) in
      i < length e.value → value_place i ≡ of_form call (first + m)
  piece_told reading is form there piece read m b stands l =
      let p = Handle (action.Read reading) in
      let d : Performed = call_of environment s call p e is in
      let first = min (length form.before) piece.place in
      let items = drop first (all_items form) in
      let from = drop first (items_from d) in
      let i = length (bytes_in (take m items)) in
      let value = reading_value reading is form there (Some piece) read in
      let long : length from ≡ length items =
      omega (arith, length-drop first (items_from d), length-drop first (all_items form), length_items environment s call p e is form there) in
      let spread_from = byte_spread nothing_for byte_of (λ c. refl) (λ k w. refl) items from long m b stands in
      let n = length piece.value in
      let within : i < n = omega (arith, l, length_value environment s call p e is, ap (λ (os : List Origin). length os) value, length-take n (spread nothing_for items from)) in
      let some : first + m < length (all_items form) = omega (arith, slice_get_within items m (Byte b) stands, length-drop first (all_items form)) in
      value_told environment s call p e is i l ∙ ap (λ (os : List Origin). get_or os i Made) value
      ∙ get_or-take n (spread nothing_for items from) i Made within ∙ spread_from.told
      ∙ get_or-drop first (items_from d) m Made ∙ item_told environment s call p e is form (first + m) there some

  pub other_told : (reading : FormReading) → IsCallOf environment s call (Handle (action.Read reading)) e → (form : Form) → Names form →
      piece_read reading environment.width call.arguments form ≡ None → (i : ℕ) → i < length e.value → value_place i ≡ of_argument call (number_of_default reading) i
  other_told reading is form there read i l = go reading is there read
    where
      at : (r : FormReading) (is : IsCallOf environment s call (Handle (action.Read r)) e) → Names form → piece_read r environment.width call.arguments form ≡ None → (k : ℕ) →
          default_from r (call_of environment s call (Handle (action.Read r)) e is) ≡ argument_from k (call_of environment s call (Handle (action.Read r)) e is) →
          value_place i ≡ of_argument call k i
      at r is there read k same =
          let p = Handle (action.Read r) in
          let value = reading_value r is form there None read ∙ same in
          let long : length (argument k call.arguments) ≡ length e.value =
          sym (length_argument environment s call p e is k) ∙ ap (λ (os : List Origin). length os) (sym value) ∙ length_value environment s call p e is in
          value_told environment s call p e is i l ∙ ap (λ (os : List Origin). get_or os i Made) value ∙ argument_told environment s call p e is k i (omega (arith, l, long))

      go : (r : FormReading) → IsCallOf environment s call (Handle (action.Read r)) e → Names form → piece_read r environment.width call.arguments form ≡ None →
          value_place i ≡ of_argument call (number_of_default r) i
      go ReadSegment is there read = at ReadSegment is there read 2 refl
      go ReadChar is there read = at ReadChar is there read 2 refl
      go ReadCount is there read = at ReadCount is there read 3 refl
      go ReadUntil is there read = at ReadUntil is there read 3 refl

  -- `ln`
  listed_alike : (is : IsCallOf environment s call (Handle action.ListNames) e) (name : List ℕ) →
      length (argument_from 1 (call_of environment s call (Handle action.ListNames) e is) ++ all_made name) ≡ length (argument 1 call.arguments ++ name)
  listed_alike is name =
      let text = argument_from 1 (call_of environment s call (Handle action.ListNames) e is) in
      length-append text (all_made name) ∙ omega (arith, length_argument environment s call (Handle action.ListNames) e is 1, length-one_each (λ j. Made) name)
      ∙ sym (length-append (argument 1 call.arguments) name)

  pub listed_told : IsCallOf environment s call (Handle action.ListNames) e → (n : ℕ) (name : List ℕ) → slice_get (names_of call.state.forms) n ≡ Some name →
      (i : ℕ) → i < length (argument 1 call.arguments) →
      value_place (length (flat_map (λ q. argument 1 call.arguments ++ q) (take n (names_of call.state.forms))) + i) ≡ of_argument call 1 i
  listed_told is n name there i l =
      let p = Handle action.ListNames in
      let d : Performed = call_of environment s call p e is in
      let text = argument_from 1 d in
      let within : i < length text = omega (arith, l, length_argument environment s call p e is 1) in
      spread_told p is (listed_from call.state.forms d) refl _ _
      (given_at (λ q. text ++ all_made q) (λ q. argument 1 call.arguments ++ q) (listed_alike is) (names_of call.state.forms) n name there i (omega (arith, within, length-append text (all_made name))))
      ∙ get_or_append_left text (all_made name) Made i within ∙ argument_told environment s call p e is 1 i l

  pub name_told : IsCallOf environment s call (Handle action.ListNames) e → (n : ℕ) (name : List ℕ) → slice_get (names_of call.state.forms) n ≡ Some name →
      (i : ℕ) → i < length name →
      value_place (length (flat_map (λ q. argument 1 call.arguments ++ q) (take n (names_of call.state.forms))) + (length (argument 1 call.arguments) + i)) ≡ Made
  name_told is n name there i l =
      let p = Handle action.ListNames in
      let d : Performed = call_of environment s call p e is in
      let text = argument_from 1 d in
      let long : length text ≡ length (argument 1 call.arguments) = length_argument environment s call p e is 1 in
      let j = length (argument 1 call.arguments) + i in
      spread_told p is (listed_from call.state.forms d) refl _ _
      (given_at (λ q. text ++ all_made q) (λ q. argument 1 call.arguments ++ q) (listed_alike is) (names_of call.state.forms) n name there j
      (omega (arith, l, long, length-append text (all_made name), length-one_each (λ k. Made) name)))
      ∙ ap (λ k. get_or (text ++ all_made name) (k + i) Made) (sym long) ∙ get_or-append-add text (all_made name) i Made ∙ made_at name i

  -- ---- what is printed

  pub text_printed : IsCallOf environment s call PrintString e → (i : ℕ) → i < length (argument 1 call.arguments) → origin environment s (printed_at call i) ≡ of_argument call 1 i
  text_printed is i l = printed_told environment s call PrintString e is i ∙ argument_told environment s call PrintString e is 1 i l

  shown_printed : (is : IsCallOf environment s call (Handle action.PrintForm) e) (form : Form) → Names form → (n : ℕ) (o : Origin) →
      IsSpread (shown_from form (items_from (call_of environment s call (Handle action.PrintForm) e is))) n o → origin environment s (printed_at call n) ≡ o
  shown_printed is form there n o in_os =
      let d : Performed = call_of environment s call (Handle action.PrintForm) e is in
      printed_told environment s call (Handle action.PrintForm) e is n
      ∙ ap (λ (found : Option Form). get_or (on_form_from found (λ f. prints_from (shown_from f (items_from d)) d) d).printed n Made) there ∙ in_os.told

  marks_alike : (k w : ℕ) → length (mark_from k) ≡ length (shown_item (Gap k w))
  marks_alike k w = length-one_each (λ j. Made) (shown_item (Gap k 1))

  length_before : (primitive : Primitive) (is : IsCallOf environment s call primitive e) (form : Form) → Names form →
      length (take (length form.before) (items_from (call_of environment s call primitive e is))) ≡ length form.before
  length_before primitive is form there =
      let items = items_from (call_of environment s call primitive e is) in
      omega (arith, length-take (length form.before) items, length_items environment s call primitive e is form there, length-append form.before form.after)

  pub before_printed : IsCallOf environment s call (Handle action.PrintForm) e → (form : Form) → Names form → (m b : ℕ) → slice_get form.before m ≡ Some (Byte b) →
      origin environment s (printed_at call (length (shown_items (take m form.before)))) ≡ of_form call m
  before_printed is form there m b stands =
      let p = Handle action.PrintForm in
      let items = items_from (call_of environment s call p e is) in
      let l = slice_get_within form.before m (Byte b) stands in
      shown_printed is form there _ _
      (sooner_spread _ _ _ _
      (byte_spread mark_from shown_item (λ c. refl) marks_alike form.before (take (length form.before) items) (length_before p is form there) m b stands))
      ∙ get_or-take (length form.before) items m Made l
      ∙ item_told environment s call p e is form m there (omega (arith, l, length-append form.before form.after))

  -- how much stands before what is shown after the pointer
  length_shown : (primitive : Primitive) (is : IsCallOf environment s call primitive e) (form : Form) → Names form →
      length (spread mark_from form.before (take (length form.before) (items_from (call_of environment s call primitive e is)))) ≡ length (shown_items form.before)
  length_shown primitive is form there = go form.before (take (length form.before) (items_from (call_of environment s call primitive e is))) (length_before primitive is form there)
    where
      go : (items : List Item) (from : List Origin) → length from ≡ length items → length (spread mark_from items from) ≡ length (shown_items items)
      go [] from same = refl
      go (item ∷ items) [] same = absurd (omega (arith, same))
      go (Byte b ∷ items) (o ∷ from) same = ap suc (go items from (omega (arith, same)))
      go (Gap k w ∷ items) (o ∷ from) same =
          length-append (mark_from k) (spread mark_from items from)
          ∙ omega (arith, marks_alike k w, go items from (omega (arith, same)))
          ∙ sym (length-append (shown_item (Gap k w)) (shown_items items))

  pub after_printed : IsCallOf environment s call (Handle action.PrintForm) e → (form : Form) → Names form → (m b : ℕ) → slice_get form.after m ≡ Some (Byte b) →
      origin environment s (printed_at call (length (shown_items form.before) + (3 + length (shown_items (take m form.after))))) ≡ of_form call (length form.before + m)
  after_printed is form there m b stands =
      let p = Handle action.PrintForm in
      let items = items_from (call_of environment s call p e is) in
      shown_printed is form there _ _
      (later_spread _ _ _ _ (length (shown_items form.before)) _ (length_shown p is form there) refl
      (later_spread (all_made (codes "<^>")) _ _ _ 3 _ refl refl
      (byte_spread mark_from shown_item (λ c. refl) marks_alike form.after (drop (length form.before) items) (length_after p is form there) m b stands)))
      ∙ after_told p is form there m (slice_get_within form.after m (Byte b) stands)

  pub pointer_printed : IsCallOf environment s call (Handle action.PrintForm) e → (form : Form) → Names form → (j : ℕ) → j < 3 →
      origin environment s (printed_at call (length (shown_items form.before) + j)) ≡ Made
  pointer_printed is form there j l =
      shown_printed is form there _ _
      (later_spread _ _ _ _ (length (shown_items form.before)) _ (length_shown (Handle action.PrintForm) is form there) refl
      (sooner_spread (all_made (codes "<^>")) _ j _ (record { within = l; told = refl })))
      ∙ made_at (codes "<^>") j

  pub mark_before_printed : IsCallOf environment s call (Handle action.PrintForm) e → (form : Form) → Names form → (m k w j : ℕ) → slice_get form.before m ≡ Some (Gap k w) →
      j < length (shown_item (Gap k w)) → origin environment s (printed_at call (length (shown_items (take m form.before)) + j)) ≡ Made
  mark_before_printed is form there m k w j stands l =
      let p = Handle action.PrintForm in
      let items = items_from (call_of environment s call p e is) in
      shown_printed is form there _ _
      (sooner_spread _ _ _ _
      (gap_spread mark_from shown_item (λ c. refl) marks_alike form.before (take (length form.before) items) (length_before p is form there) m k w j stands (omega (arith, l, marks_alike k w))))
      ∙ made_at (shown_item (Gap k 1)) j

  pub mark_after_printed : IsCallOf environment s call (Handle action.PrintForm) e → (form : Form) → Names form → (m k w j : ℕ) → slice_get form.after m ≡ Some (Gap k w) →
      j < length (shown_item (Gap k w)) → origin environment s (printed_at call (length (shown_items form.before) + (3 + (length (shown_items (take m form.after)) + j)))) ≡ Made
  mark_after_printed is form there m k w j stands l =
      let p = Handle action.PrintForm in
      let items = items_from (call_of environment s call p e is) in
      shown_printed is form there _ _
      (later_spread _ _ _ _ (length (shown_items form.before)) _ (length_shown p is form there) refl
      (later_spread (all_made (codes "<^>")) _ _ _ 3 _ refl refl
      (gap_spread mark_from shown_item (λ c. refl) marks_alike form.after (drop (length form.before) items) (length_after p is form there) m k w j stands (omega (arith, l, marks_alike k w)))))
      ∙ made_at (shown_item (Gap k 1)) j
