-- Bytes that calls take out of forms, print of them and cut in them, as the code tells them.
use Rattle.std.proofs.Common.{◌≡◌, ℕ, ◌+◌, ◌-◌, ◌<◌, ◌≤◌, min, true, List, length, take, drop, refl, sym, ap, ap₂, subst, ◌∙◌, ⊎_elim, arith, ◌⊎◌, ◌++◌, codes, Option, None, Some, IfSome, Ok, bytes_eq, option_map, slice_get, ◌&&◌, nat_le, flat_map}
use Rattle.std.specs.FinMap as finite
use Rattle.std.specs.Cmp.Lexicographic.{nat_list_cmp_total}
use Rattle.std.proofs.lemmas.Bool.{cond-true, and_parts, leb-true}
use Rattle.std.proofs.lemmas.List.{length-append, length-take, take-append-le}
use Rattle.std.proofs.lemmas.Map.Text.{is_eq-slice_cmp}
use Rattle.std.proofs.lemmas.Slice.Eq.{bytes_eq-Decides}
use Rattle.trac_rules.specs.declared.item.Item.{Item}
use Rattle.trac_rules.specs.declared.item.Item.TheVariants.{Byte, Gap}
use Rattle.trac_rules.specs.declared.limit.TheConstants.{OUTPUT_LIMIT, TEXT_LIMIT, MARK_LIMIT}
use Rattle.trac_rules.specs.declared.primitive.FormAction.TheVariants as action
use Rattle.trac_rules.specs.declared.primitive.FormReading.{FormReading}
use Rattle.trac_rules.specs.declared.primitive.Primitive.TheVariants.{Handle}
use Rattle.trac_rules.specs.declared.width.Width.{Width}
use Rattle.trac_rules.specs.Effect.{Effect, argument, prints}
use Rattle.trac_rules.specs.Filling.{all_filled, filled}
use Rattle.trac_rules.specs.Form.{Form, all_items, extent}
use Rattle.trac_rules.specs.Handling.{named_form, on_form, piece_read, putting}
use Rattle.trac_rules.specs.Limits.{may_be_put, marks, text_bytes, texts_fit}
use Rattle.trac_rules.specs.Performing.{after_call, trace_line, primitive_of}
use Rattle.trac_rules.specs.Pieces.{Piece, bytes_in, is_gap}
use Rattle.trac_rules.specs.Scanning.{Call, Calls, scan}
use Rattle.trac_rules.specs.Segmenting.{segmented}
use Rattle.trac_rules.specs.Showing.{shown, shown_item, shown_items}
use Rattle.trac_rules.specs.State.{Environment, State, storage_of, Forms}
use Rattle.trac_forms.specs.declared.piece.Piece.{Piece as Measured}
use Rattle.trac_forms.specs.Taken.{IsThere, items_from, taken}
use Rattle.trac_origins.specs.Lengths.{IsCallOf, cut_from, number_of_default, of_form, printed_at, value_at}
use Rattle.trac_origins.specs.Places.{Place, InArgument, InForm, InOutput, Origin, Carried, Made, found_at, items_of}
use Rattle.trac_origins.specs.Stepping.{origin}
use Rattle.trac_text.proofs.Peeling.{slice_get-front}
use Rattle.trac_origins.proofs.ToldEffects.{line_told, unshown_told}
use Rattle.trac_origins.proofs.ToldPut.{segmented_told}
use Rattle.trac_origins.proofs.ToldValues.{after_printed, before_printed, called_told, filled_told, mark_after_printed, mark_before_printed, other_told, piece_told, pointer_printed}
use Rattle.trac_follow_step.proofs.CallsTold.{output_is, output_past, output_then, call_does, call_is, number_is}
use Rattle.trac_follow_step.specs.declared.items.Given.{Given}
use Rattle.trac_follow_step.specs.declared.place.Origin as told
use Rattle.trac_follow_step.specs.declared.place.Place as code_place
use Rattle.trac_follow_step.specs.declared.place.After.{After}
use Rattle.trac_follow_step.specs.Formed.{CarriedFrom, IsAfter, IsShown, TellsOfForm, ToldAsCut, ToldAsPiece, ToldAsShown, ToldAsShownAfter, ToldAsShownAt, ToldFrom, is_cut, of_shown, told_of, ToldAsFormCut, ToldAsFormShown}
use Rattle.trac_follow_step.specs.Items.{IsGiven, IsMeasured}
use Rattle.trac_follow_step.specs.Places.{Tells, IsCalling, TellsValue}
use Rattle.trac_follow_step.proofs.Giving.{called_gives, does_so, forms_kept, piece_gives, action_gives_none, formless_gives_none, forms_left, gives_form}
use Rattle.trac_follow_step.proofs.Spans.{after_pointer, same_place, whole_after}
use Rattle.trac_rules.specs.declared.primitive.FormAction.{FormAction}
use Rattle.trac_rules.specs.declared.primitive.Primitive.{Primitive}
use Rattle.trac_rules.specs.Stepping.{carried_out, step}
use Rattle.trac_rules.proofs.Outcomes.{limited_Ok}
use Rattle.trac_origins.proofs.ToldCalls.{ended}

-- ---- `cl`

module _ (form : Form) (arguments : List (List ℕ)) (function i start : ℕ) (given : Given) (begins : start ≡ length form.before) (is : IsGiven (filled (drop 2 arguments)) (drop start (all_items form)) i given) where
  there_after : slice_get form.after given.at ≡ Some given.item
  there_after = ap (λ (xs : List Item). slice_get xs given.at) (sym (after_pointer form start begins)) ∙ is.there

  given_so_far : (call : Call) → call.arguments ≡ arguments → length (all_filled (drop 2 call.arguments) (take given.at form.after)) + given.byte ≡ i
  given_so_far call same =
      ap (λ (texts : List (List ℕ)). length (all_filled (drop 2 texts) (take given.at form.after)) + given.byte) same
      ∙ ap (λ (xs : List Item). length (flat_map (filled (drop 2 arguments)) (take given.at xs)) + given.byte) (sym (after_pointer form start begins)) ∙ is.place

  pub called_item : (b n : ℕ) → given.item ≡ Byte b → n ≡ start + given.at → (width : Width) (seen : Option ℕ) → TellsOfForm (Handle action.Call) form arguments function width seen i (told.TheVariants.OfForm n)
  called_item b n byte place width seen environment s call e wide of same number names is_seen l =
      let none : given.byte < 1 = subst (λ (x : Item). given.byte < length (filled (drop 2 arguments) x)) byte is.within in
      let index : i ≡ length (all_filled (drop 2 call.arguments) (take given.at form.after)) = omega (arith, given_so_far call same, none) in
      let where_is : length form.before + given.at ≡ n = omega (arith, begins, place) in (
        call,
        of.scans,
        ap (λ k. origin environment s (value_at call.kind e.forced call.state k)) index
            ∙ called_told environment s call e of form names given.at b (there_after ∙ ap Some byte)
            ∙ ap (λ k. Carried (InForm (argument 1 call.arguments) k)) where_is,
      )

  pub filled_text : (k w n : ℕ) → given.item ≡ Gap k w → n ≡ k + 1 → (width : Width) (seen : Option ℕ) →
      TellsOfForm (Handle action.Call) form arguments function width seen i (told.TheVariants.Carried (code_place.TheVariants.Argument function n given.byte))
  filled_text k w n gap place width seen environment s call e wide of same number names is_seen l =
      let within : given.byte < length (filled (drop 2 arguments) (Gap k w)) = subst (λ (x : Item). given.byte < length (filled (drop 2 arguments) x)) gap is.within in
      let within_call : given.byte < length (filled (drop 2 call.arguments) (Gap k w)) =
      subst (λ (texts : List (List ℕ)). given.byte < length (filled (drop 2 texts) (Gap k w))) (sym same) within in
      ap (λ j. origin environment s (value_at call.kind e.forced call.state j)) (sym (given_so_far call same))
      ∙ filled_told environment s call e of form names given.at k w given.byte (there_after ∙ ap Some gap) within_call
      ∙ ap₂ (λ f m. Carried (InArgument f m given.byte)) number (sym place)

-- past all that is given
pub called_past : (form : Form) (arguments : List (List ℕ)) (function i start to rest : ℕ) → start ≡ length form.before → to ≡ length (all_items form) →
    length (flat_map (filled (drop 2 arguments)) (take (to - start) (drop start (all_items form)))) + rest ≡ i →
    (width : Width) (seen : Option ℕ) → TellsOfForm (Handle action.Call) form arguments function width seen i told.TheVariants.Nothing
called_past form arguments function i start to rest begins ends past width seen environment s call e wide of same number names is_seen l =
    absurd (omega (
      arith,
      l,
      past,
      ap (λ (text : List ℕ). length text) (called_gives environment s call e form of names),
      ap (λ (texts : List (List ℕ)). length (all_filled (drop 2 texts) form.after)) same,
      ap (λ (xs : List Item). length (flat_map (filled (drop 2 arguments)) xs)) (whole_after form start begins to ends),
    ))

-- ---- `cs`, `cc`, `cn` and `in`

module _ (reading : FormReading) (form : Form) (arguments : List (List ℕ)) (function : ℕ) (width : Width) (seen : Option ℕ) (i : ℕ) where
  -- what is read in a call
  read_in : (environment : Environment) (call : Call) (found : Option Piece) → environment.width ≡ width → call.arguments ≡ arguments → found ≡ piece_read reading width arguments form →
      piece_read reading environment.width call.arguments form ≡ found
  read_in environment call found wide same read = ap₂ (λ w (texts : List (List ℕ)). piece_read reading w texts form) wide same ∙ sym read

  pub default_read : (n : ℕ) → None ≡ piece_read reading width arguments form → n ≡ number_of_default reading →
      TellsOfForm (Handle (action.Read reading)) form arguments function width seen i (told.TheVariants.Carried (code_place.TheVariants.Argument function n i))
  default_read n read which environment s call e wide of same number names is_seen l =
      other_told environment s call e reading of form names (read_in environment call None wide same read) i l
      ∙ ap₂ (λ f m. Carried (InArgument f m i)) number (sym which)

  pub piece_item : (piece : Piece) (first : ℕ) (o : told.Origin) → Some piece ≡ piece_read reading width arguments form → first ≡ min (length form.before) piece.place →
      length piece.value ≤ length (bytes_in (drop first (all_items form))) → ToldFrom form first i o → TellsOfForm (Handle (action.Read reading)) form arguments function width seen i o
  piece_item piece first told.TheVariants.Nothing read begins few tells environment s call e wide of same number names is_seen l =
      absurd (omega (arith, l, few, tells, ap (λ (text : List ℕ). length text) (piece_gives environment s call e reading form piece of names (read_in environment call (Some piece) wide same read))))
  piece_item piece first (told.TheVariants.OfForm n) read begins few tells environment s call e wide of same number names is_seen l =
      let m : ℕ = tells.0 in
      let b : ℕ = tells.1 in
      let items : drop (min (length form.before) piece.place) (all_items form) ≡ drop first (all_items form) = ap (λ k. drop k (all_items form)) (sym begins) in
      let index : i ≡ length (bytes_in (take m (drop (min (length form.before) piece.place) (all_items form)))) =
      sym tells.4 ∙ ap (λ (xs : List Item). length (bytes_in (take m xs))) (sym items) in
      let where_is : min (length form.before) piece.place + m ≡ n = omega (arith, tells.2, begins) in (
        call,
        of.scans,
        ap (λ k. origin environment s (value_at call.kind e.forced call.state k)) index
            ∙ piece_told environment s call e reading of form names piece (read_in environment call (Some piece) wide same read) m b
            (ap (λ (xs : List Item). slice_get xs m) items ∙ tells.3) (subst (λ k. k < length e.value) index l)
            ∙ ap (λ k. Carried (InForm (argument 1 call.arguments) k)) where_is,
      )
  piece_item piece first told read begins few tells environment s call e wide of same number names is_seen l = absurd tells

  -- a piece that is measured, or none
  pub reading_tells : (found : Option Measured) (other : ℕ) (o : told.Origin) → option_map (λ piece. taken piece form) found ≡ piece_read reading width arguments form → IfSome found (IsThere form) →
      other ≡ number_of_default reading → ToldAsPiece form found function other i o → TellsOfForm (Handle (action.Read reading)) form arguments function width seen i o
  reading_tells None other o read there which tells =
      subst (λ p. TellsOfForm (Handle (action.Read reading)) form arguments function width seen i p) (sym tells) (default_read other read which)
  reading_tells (Some piece) other o read there which tells =
      piece_item (taken piece form) (min piece.pointer (length form.before)) o read (omega arith)
      (omega (arith, length-take piece.len (bytes_in (items_from piece form)))) tells

-- ---- `pf` and `ss`

-- what is printed of a form, as the code finds it
module _ (form : Form) (pointer i : ℕ) (begins : pointer ≡ length form.before) where
  -- before the pointer
  pub shown_before : (given : Given) (o : told.Origin) → given.at < pointer - 0 → IsGiven shown_item (drop 0 (all_items form)) i given → o ≡ of_shown given.item given.at →
      IsShown form.before 0 i o
  shown_before given o less is shows =
      let within : given.at < length form.before = omega (arith, less, begins) in
      let number : given.at ≡ 0 + given.at = omega arith in
      record {
        item = given.item;
        at = given.at;
        byte = given.byte;
        there = sym (slice_get-front form.before form.after given.at within) ∙ is.there;
        place = ap (λ (xs : List Item). length (shown_items xs) + given.byte) (sym (take-append-le given.at form.before form.after (omega (arith, within)))) ∙ is.place;
        within = is.within;
        shows = shows ∙ ap (of_shown given.item) number;
      }

module _ (environment : Environment) (s t : State) (call : Call) (e : Effect) (form : Form) (scans : scan s ≡ Calls call) (after : t ≡ after_call call e) where
  -- ---- `pf`

  module _ (of : IsCallOf environment s call (Handle action.PrintForm) e) (names : named_form call.arguments (storage_of call.state) ≡ Some form) where
    abbrev line : ℕ
    line = length (trace_line call.state.trace call.kind call.arguments)

    -- how much is printed
    printed_is : length e.printed ≡ line + length (shown form)
    printed_is =
        let storage = storage_of call.state in
        ap (λ (f : Effect). length f.printed) (sym (does_so environment s call e (Handle action.PrintForm) (prints (shown form) storage) of
        (ap (λ (found : Option Form). on_form found (λ f. Ok (prints (shown f) storage)) storage) names)))
        ∙ length-append (trace_line call.state.trace call.kind call.arguments) (shown form)

    whole : length t.output ≡ length s.output + (line + length (shown form))
    whole = output_then s t call e scans after ∙ ap (λ n. length s.output + n) printed_is

    -- an item that is printed
    item_shown : (place : ℕ → Place) (items : List Item) (first : ℕ) →
        ((m b : ℕ) → slice_get items m ≡ Some (Byte b) → origin environment s (place (length (shown_items (take m items)))) ≡ of_form call (first + m)) →
        ((m k w j : ℕ) → slice_get items m ≡ Some (Gap k w) → j < length (shown_item (Gap k w)) → origin environment s (place (length (shown_items (take m items)) + j)) ≡ Made) →
        (j : ℕ) (o : told.Origin) → IsShown items first j o → Tells s o (origin environment s (place j))
    item_shown place items first bytes marks j o is = go is.item refl
      where
        go : (x : Item) → is.item ≡ x → Tells s o (origin environment s (place j))
        go (Byte b) same =
            let none : is.byte < 1 = subst (λ (x : Item). is.byte < length (shown_item x)) same is.within in
            let index : j ≡ length (shown_items (take is.at items)) = omega (arith, is.place, none) in
            subst (λ told. Tells s told (origin environment s (place j))) (sym (is.shows ∙ ap (λ (x : Item). of_shown x (first + is.at)) same))
            (call, scans, ap (λ k. origin environment s (place k)) index ∙ bytes is.at b (is.there ∙ ap Some same))
        go (Gap k w) same =
            let within : is.byte < length (shown_item (Gap k w)) = subst (λ (x : Item). is.byte < length (shown_item x)) same is.within in
            subst (λ told. Tells s told (origin environment s (place j))) (sym (is.shows ∙ ap (λ (x : Item). of_shown x (first + is.at)) same))
            (ap (λ k. origin environment s (place k)) (sym is.place) ∙ marks is.at k w is.byte (is.there ∙ ap Some same) within)

    -- how long it is
    length-shown : length (shown form) ≡ length (shown_items form.before) + (3 + length (shown_items form.after))
    length-shown = omega (arith, length-append (shown_items form.before) (codes "<^>" ++ shown_items form.after), length-append (codes "<^>") (shown_items form.after))

    made_tells : (o : told.Origin) (p : Place) → o ≡ told.TheVariants.Made → origin environment s p ≡ Made → Tells s o (origin environment s p)
    made_tells o p made is = subst (λ told. Tells s told (origin environment s p)) (sym made) is

    form_shown_at : (j : ℕ) (o : told.Origin) → j < length (shown form) → ToldAsShownAt form j o → Tells s o (origin environment s (printed_at call j))
    form_shown_at j o within tells =
        ⊎_elim
        (λ (is : IsShown form.before 0 j o).
        item_shown (printed_at call) form.before 0
        (λ m b there. before_printed environment s call e of form names m b there ∙ ap (of_form call) (omega arith))
        (mark_before_printed environment s call e of form names) j o is)
        (⊎_elim
        (λ (mark : (o ≡ told.TheVariants.Made) × ((k : ℕ) × (k < 3) × (j ≡ length (shown_items form.before) + k))).
        made_tells o (printed_at call j) mark.0
        (ap (λ k. origin environment s (printed_at call k)) mark.1.2 ∙ pointer_printed environment s call e of form names mark.1.0 mark.1.1))
        (λ (later : (k : ℕ) × (j ≡ length (shown_items form.before) + (3 + k)) × ToldAsShownAfter form k o).
        subst (λ k. Tells s o (origin environment s (printed_at call k))) (sym later.1)
        (⊎_elim
        (λ (past : (o ≡ told.TheVariants.Nothing) × (length (shown_items form.after) ≤ later.0)). absurd (omega (arith, past.1, later.1, within, length-shown)))
        (item_shown (λ k. printed_at call (length (shown_items form.before) + (3 + k))) form.after (length form.before)
        (after_printed environment s call e of form names) (mark_after_printed environment s call e of form names) later.0 o)
        later.2)))
        tells

    pub form_printed : (end i : ℕ) (o : told.Origin) → end ≡ length t.output → length s.output ≤ i → i < length t.output → length t.output ≤ OUTPUT_LIMIT → ToldAsShown form end i o →
        Tells s o (origin environment s (InOutput i))
    form_printed end i o ends past stands fits tells =
        ⊎_elim
        (λ (none : (o ≡ told.TheVariants.Nothing) × ((length (shown form) ≤ OUTPUT_LIMIT → ⊥) ⊎ ((end < length (shown form)) ⊎ (end ≤ i)))).
        absurd (⊎_elim
        (λ (large : length (shown form) ≤ OUTPUT_LIMIT → ⊥). large (omega (arith, fits, whole)))
        (⊎_elim
        (λ (l : end < length (shown form)). absurd (omega (arith, l, ends, whole)))
        (λ (l : end ≤ i). absurd (omega (arith, l, ends, stands))))
        none.1))
        (⊎_elim
        (λ (early : (o ≡ told.TheVariants.Made) × (i + length (shown form) < end)).
        made_tells o (InOutput i) early.0
        (ap (λ m. origin environment s (InOutput m)) (output_past s call scans i past)
        ∙ line_told environment s call (Handle action.PrintForm) e of (i - length s.output) (omega (arith, early.1, ends, whole, past))))
        (λ (there : (j : ℕ) × (j + end ≡ i + length (shown form)) × ToldAsShownAt form j o).
        let index : i ≡ length call.state.output + (line + there.0) = omega (arith, there.1, ends, whole, ap (λ (bytes : List ℕ). length bytes) (output_is s call scans)) in
        subst (λ m. Tells s o (origin environment s (InOutput m))) (sym index) (form_shown_at there.0 o (omega (arith, there.1, ends, stands)) there.2)))
        tells

  -- ---- `ss`

  module _ (of : IsCallOf environment s call (Handle action.Segment) e) (names : named_form call.arguments (storage_of call.state) ≡ Some form) where
    abbrev texts : List (List ℕ)
    texts = drop 2 call.arguments

    -- what is there then
    cut_form : finite.get t.forms (argument 1 call.arguments) ≡ Some (segmented texts form)
    cut_form =
        let storage = storage_of call.state in
        let name = argument 1 call.arguments in
        ap (λ forms. finite.get forms name)
        (forms_kept environment s call e (Handle action.Segment) of t after (may_be_put name (segmented texts form) storage.forms) (finite.insert storage.forms name (segmented texts form))
        (ap (λ (found : Option Form). on_form found (λ f. putting name (segmented texts f) storage) storage) names))
        ∙ finite.get-insert nat_list_cmp_total storage.forms name (segmented texts form) name
        ∙ cond-true _ (Some (segmented texts form)) (finite.get storage.forms name) (is_eq-slice_cmp name name ∙ (bytes_eq-Decides name name).1 refl)

    -- the item of a place, and the item that stood there
    pub item_cut : (name : List ℕ) (seen : After) (i : ℕ) (item : Item) (o : told.Origin) → bytes_eq name (argument 1 call.arguments) ≡ true → IsMeasured seen.extent seen.is_gap t (InForm name i) →
        found_at t (InForm name i) ≡ Some item → ToldAsCut form name seen o → Tells s o (origin environment s (InForm name i))
    item_cut name seen i item o same measured stands tells =
        let found : finite.get t.forms name ≡ Some (segmented texts form) = ap (finite.get t.forms) named_so ∙ cut_form in
        let there : slice_get (all_items (segmented texts form)) i ≡ Some item = ap (λ (f : Option Form). slice_get (items_of f) i) (sym found) ∙ stands in
        let told_item = segmented_told environment s call e of form names i item there in
        let number : ℕ = told_item.0 in
        let was : Item = told_item.1 in
        let bytes : seen.extent ≡ extent (take number (all_items form)) =
        (measured item stands).0 ∙ ap (λ (f : Option Form). extent (take i (items_of f))) found ∙ told_item.3 in
        let is_from : origin environment s (InForm name i) ≡ cut_from item was (of_form call number) =
        ap (λ q. origin environment s (InForm q i)) named_so ∙ told_item.4 in
        ⊎_elim
        (λ (none : (o ≡ told.TheVariants.Nothing) × ((n : ℕ) (stood : Item) → slice_get (all_items form) n ≡ Some stood → extent (take n (all_items form)) ≡ seen.extent → ⊥)).
        absurd (none.1 number was told_item.2 (sym bytes)))
        (λ (at : (n : ℕ) × (stood : Item) × IsAfter form seen.extent n stood × told_of (is_cut seen.is_gap stood) o name n).
        let place : number ≡ at.0 = same_place (all_items form) at.2.wide number at.0 was at.1 told_item.2 at.2.there (sym bytes ∙ sym at.2.before) in
        let one : Some was ≡ Some at.1 = sym told_item.2 ∙ ap (slice_get (all_items form)) place ∙ at.2.there in
        let same_item : was ≡ at.1 = cc in
        by_items item at.1 (measured item stands).1 at.0
        (is_from ∙ ap₂ (λ k (x : Item). cut_from item x (of_form call k)) place same_item) o at.3)
        tells
      where
        named_so : name ≡ argument 1 call.arguments
        named_so = (bytes_eq-Decides name (argument 1 call.arguments)).0 same

        is_carried : (n : ℕ) (p : told.Origin) (r : Origin) → r ≡ of_form call n → CarriedFrom p name n → Tells s p r
        is_carried n (told.TheVariants.Carried place) r is at = is ∙ ap (λ q. Carried (InForm q n)) (sym named_so) ∙ ap Carried (sym at)
        is_carried n other r is at = absurd at

        by_items : (x stood : Item) → seen.is_gap ≡ is_gap x → (n : ℕ) → origin environment s (InForm name i) ≡ cut_from x stood (of_form call n) →
            (p : told.Origin) → told_of (is_cut seen.is_gap stood) p name n → Tells s p (origin environment s (InForm name i))
        by_items (Byte c) (Byte b) gap n is p at = is_carried n p (origin environment s (InForm name i)) is (subst (λ g. told_of g p name n) gap at)
        by_items (Byte c) (Gap k w) gap n is p at = is_carried n p (origin environment s (InForm name i)) is at
        by_items (Gap k w) (Byte b) gap n is p at =
            let made : p ≡ told.TheVariants.Made = subst (λ g. told_of g p name n) gap at in
            subst (λ q. Tells s q (origin environment s (InForm name i))) (sym made) is
        by_items (Gap k w) (Gap j v) gap n is p at = is_carried n p (origin environment s (InForm name i)) is at

-- ---- the form of a name

-- the form that a call names, if there is one
names_so : (s : State) (call : Call) (name : List ℕ) (found : Option Form) → scan s ≡ Calls call → name ≡ argument 1 call.arguments → finite.get s.forms name ≡ found →
    named_form call.arguments (storage_of call.state) ≡ found
names_so s call name found scans same is =
    ap (λ (u : State). finite.get u.forms (argument 1 call.arguments)) (ended s call scans).2.state ∙ ap (finite.get s.forms) (sym same) ∙ is

module _ (s : State) (width : Width) (seen : Option ℕ) (i : ℕ) (arguments : List (List ℕ)) (is : IsCalling s arguments) where
  -- of the value of a call on it
  pub form_value_told : (primitive : Primitive) → primitive_of (argument 0 arguments) ≡ primitive → (function : ℕ) (o : told.Origin) (form : Form) → function + 1 ≡ length s.frames →
      finite.get s.forms (argument 1 arguments) ≡ Some form → TellsOfForm primitive form arguments function width seen i o → TellsValue s width seen i o
  form_value_told primitive named function o form number found tells environment t call e item wide h readable scans does is_seen stands l =
      let of = call_is environment s call e arguments primitive is named scans does in
      tells environment s call e wide of.1 of.0 (number_is s call scans function number) (names_so s call (argument 1 arguments) (Some form) scans (ap (argument 1) (sym of.0)) found) is_seen l

  module _ (a : FormAction) (named : primitive_of (argument 0 arguments) ≡ Handle a) where
    -- of one that has no value without a form
    pub formless_told : (a ≡ action.ListNames → ⊥) → finite.get s.forms (argument 1 arguments) ≡ None → TellsValue s width seen i told.TheVariants.Nothing
    formless_told other none environment t call e item wide h readable scans does is_seen stands l =
        let of = call_is environment s call e arguments (Handle a) is named scans does in
        formless_gives_none environment s call e a other of.1 (names_so s call (argument 1 arguments) None scans (ap (argument 1) (sym of.0)) none) i l

    -- of one that has no value at all
    pub silent_told : (gives_form a → ⊥) → TellsValue s width seen i told.TheVariants.Nothing
    silent_told none environment t call e item wide h readable scans does is_seen stands l =
        action_gives_none environment s call e a none (call_is environment s call e arguments (Handle a) is named scans does).1 i l

-- the output is within its limit
output_fits : (environment : Environment) (s t : State) → step environment s ≡ Ok t → length t.output ≤ OUTPUT_LIMIT
unfolding step texts_fit
output_fits environment s t h =
    let fits = (limited_Ok texts_fit (carried_out environment (scan s)) t h).1 in
    leb-true (length t.output) OUTPUT_LIMIT (and_parts (nat_le (text_bytes t) TEXT_LIMIT && nat_le (marks t.frames) MARK_LIMIT) (nat_le (length t.output) OUTPUT_LIMIT) fits).1

module _ (environment : Environment) (s t : State) (call : Call) (h : step environment s ≡ Ok t) (scans : scan s ≡ Calls call) where
  pub cut_tells : primitive_of (argument 0 call.arguments) ≡ Handle action.Segment → (name : List ℕ) (seen : After) (i : ℕ) (item : Item) (o : told.Origin) →
      bytes_eq name (argument 1 call.arguments) ≡ true → IsMeasured seen.extent seen.is_gap t (InForm name i) → found_at t (InForm name i) ≡ Some item →
      ToldAsFormCut s name seen o → Tells s o (origin environment s (InForm name i))
  cut_tells named name seen i item o same measured stands tells =
      let done = call_does environment s t call h scans (Handle action.Segment) named in
      ⊎_elim
      (λ (none : (o ≡ told.TheVariants.Nothing) × (finite.get s.forms name ≡ None)).
      let is_name : name ≡ argument 1 call.arguments = (bytes_eq-Decides name (argument 1 call.arguments)).0 same in
      let left : t.forms ≡ call.state.forms =
      forms_left environment s call done.0 (Handle action.Segment) done.1 t done.2
      (ap (λ (found : Option Form). on_form found (λ f. putting (argument 1 call.arguments) (segmented (drop 2 call.arguments) f) (storage_of call.state)) (storage_of call.state))
      (names_so s call name None scans is_name none.1)) in
      let missing : None ≡ Some item =
      sym (ap (λ (forms : Forms). slice_get (items_of (finite.get forms name)) i) left
      ∙ ap (λ (u : State). slice_get (items_of (finite.get u.forms name)) i) (ended s call scans).2.state ∙ ap (λ (f : Option Form). slice_get (items_of f) i) none.1)
      ∙ stands in
      absurd (cc))
      (λ (of : (form : Form) × (finite.get s.forms name ≡ Some form) × ToldAsCut form name seen o).
      item_cut environment s t call done.0 of.0 scans done.2 done.1
      (names_so s call name (Some of.0) scans ((bytes_eq-Decides name (argument 1 call.arguments)).0 same) of.1) name seen i item o same measured stands of.2)
      tells

  pub shown_tells : primitive_of (argument 0 call.arguments) ≡ Handle action.PrintForm → (name : List ℕ) (end i : ℕ) (o : told.Origin) → name ≡ argument 1 call.arguments →
      end ≡ length t.output → length s.output ≤ i → i < length t.output → ToldAsFormShown s name end i o → Tells s o (origin environment s (InOutput i))
  shown_tells named name end i o same ends past stands tells =
      let done = call_does environment s t call h scans (Handle action.PrintForm) named in
      ⊎_elim
      (λ (no_form : (o ≡ told.TheVariants.Made) × (finite.get s.forms name ≡ None)).
      subst (λ p. Tells s p (origin environment s (InOutput i))) (sym no_form.0)
      (ap (λ n. origin environment s (InOutput n)) (output_past s call scans i past)
      ∙ unshown_told environment s call (Handle action.PrintForm) done.0 done.1 refl (names_so s call name None scans same no_form.1) (i - length s.output)))
      (λ (of : (form : Form) × (finite.get s.forms name ≡ Some form) × ToldAsShown form end i o).
      form_printed environment s t call done.0 of.0 scans done.2 done.1 (names_so s call name (Some of.0) scans same of.1) end i o ends past stands (output_fits environment s t h) of.2)
      tells
