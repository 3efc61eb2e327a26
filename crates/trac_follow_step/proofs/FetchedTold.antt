-- Blocks and the forms that they hold, as the code looks for them, and forms that `fb` brings back, as it tells them.
use Rattle.std.proofs.Common.{◌≡◌, ℕ, zero, suc, ◌+◌, ◌<◌, ◌≤◌, Bool, true, false, cond, ◌&&◌, ◌||◌, List, [], ◌∷◌, ◌++◌, length, drop, map, refl, sym, ap, ap₂, ◌∙◌, ⊎_elim, arith, Option, None, Some, Ok, bytes_eq, if◌then◌else◌, is_some, nat_le, option_to_list, slice_get, nat_cmp}
use Rattle.std.specs.Cmp.Lexicographic.{slice_cmp}
use Rattle.std.specs.FinMap as finite
use Rattle.std.specs.List.{AllByRecursion, IsDistinct, list_any}
use Rattle.std.proofs.lemmas.Bool.{cases_lt, cond-true, eq-eqb}
use Rattle.std.proofs.lemmas.List.{drop_all, drop_more}
use Rattle.std.proofs.lemmas.Option.{get_or_from_slice_get, same_Some, slice_get-get_or, slice_get_past, slice_get_within}
use Rattle.std.proofs.lemmas.Slice.Eq.{bytes_eq-Decides}
use Rattle.trac_rules.specs.declared.item.Item.{Item}
use Rattle.trac_rules.specs.declared.item.Item.TheVariants.{Byte}
use Rattle.trac_rules.specs.declared.limit.TheConstants.{FORM_COUNT_LIMIT}
use Rattle.trac_rules.specs.declared.primitive.BlockAction.TheVariants.{FetchBlock}
use Rattle.trac_rules.specs.declared.primitive.Primitive.TheVariants.{HandleBlock}
use Rattle.trac_rules.specs.Blocks.{block_at, fetched, fetching, forms_in, named_block_number, on_block, with_all}
use Rattle.trac_rules.specs.Effect.{Effect, argument}
use Rattle.trac_rules.specs.Form.{Form}
use Rattle.trac_rules.specs.Performing.{after_call, effect_of, primitive_of}
use Rattle.trac_rules.specs.Pieces.{bytes_in}
use Rattle.trac_rules.specs.Scanning.{Call, Calls, scan}
use Rattle.trac_rules.specs.State.{Block, Environment, Forms, Held, State, storage_of}
use Rattle.trac_rules.specs.Stepping.{step}
use Rattle.trac_rules.proofs.Found.{put_get}
use Rattle.trac_forms.specs.Stored.{AreApart}
use Rattle.trac_origins.specs.Lengths.{IsCallOf}
use Rattle.trac_origins.specs.Places.{Place, InForm, InHeld, Carried, found_at, held_form, items_of}
use Rattle.trac_origins.specs.Stepping.{origin}
use Rattle.trac_origins.proofs.Stored.{found_of_copies}
use Rattle.trac_origins.proofs.ToldCalls.{ended}
use Rattle.trac_origins.proofs.ToldPut.{fetched_told, unaddressed_told, unfetched_told}
use Rattle.trac_follow_step.specs.Fetched.{block_named, is_entry, place_fetched}
use Rattle.trac_follow_step.proofs.CallsTold.{blocks_are, call_does}
use Rattle.trac_follow_step.proofs.Giving.{forms_kept, forms_left}

-- ---- the bytes of a form

-- the items from a place on
items_on : (items : List Item) (n : ℕ) → drop n items ≡ option_to_list (slice_get items n) ++ drop (n + 1) items
items_on items n =
    ⊎_elim
    (λ (within : n < length items).
    drop_more items n (Byte 0) within ∙ sym (ap (λ (found : Option Item). option_to_list found ++ drop (n + 1) items) (slice_get-get_or items n (Byte 0) within)))
    (λ (past : length items ≤ n).
    drop_all n items past
    ∙ sym (ap₂ (λ (found : Option Item) (rest : List Item). option_to_list found ++ rest) (slice_get_past items n past) (drop_all (n + 1) items (omega (arith, past)))))
    (cases_lt n (length items))

-- texts that begin alike
same_front : (item : Option Item) (text : List ℕ) (others : List Item) →
    bytes_eq (bytes_in (option_to_list item) ++ text) (bytes_in (option_to_list item ++ others)) ≡ bytes_eq text (bytes_in others)
same_front (Some (Byte b)) text others = ap (λ t. t && bytes_eq text (bytes_in others)) (eq-eqb b b refl)
same_front item text others = refl

-- one item more, whose byte the text has
pub read_on : (items : List Item) (place : ℕ) (whole : Bool) (rest others : List ℕ) → rest ≡ bytes_in (option_to_list (slice_get items place)) ++ others →
    whole ≡ bytes_eq rest (bytes_in (drop place items)) → whole ≡ bytes_eq others (bytes_in (drop (place + 1) items))
read_on items place whole rest others begins so =
    so
    ∙ ap₂ (λ (text : List ℕ) (xs : List Item). bytes_eq text (bytes_in xs)) begins (items_on items place)
    ∙ same_front (slice_get items place) others (drop (place + 1) items)

-- the text goes on otherwise
pub read_off : (items : List Item) (place : ℕ) (whole : Bool) (rest : List ℕ) → ((others : List Item) → bytes_eq rest (bytes_in (option_to_list (slice_get items place) ++ others)) ≡ false) →
    whole ≡ bytes_eq rest (bytes_in (drop place items)) → false ≡ whole
read_off items place whole rest other so =
    sym (so ∙ ap (λ (xs : List Item). bytes_eq rest (bytes_in xs)) (items_on items place) ∙ other (drop (place + 1) items))

-- ---- the forms of a block

turned : (first rest : Bool) (found : Option Form) (form : Form) → (rest || is_some (cond first (Some form) found)) ≡ ((first || rest) || is_some found)
turned true true found form = refl
turned first rest found form = refl

-- a name is found among forms that were put, where one of them has it
any_put : (held : Held) (forms : Forms) (q : List ℕ) → is_some (finite.get (with_all held forms) q) ≡ (list_any (is_entry q) held || is_some (finite.get forms q))
any_put [] forms q = refl
any_put (entry ∷ held) forms q =
    any_put held (finite.insert forms entry.0 entry.1) q
    ∙ ap (λ (found : Option Form). list_any (is_entry q) held || is_some found) (put_get forms entry.0 q entry.1)
    ∙ turned (bytes_eq q entry.0) (list_any (is_entry q) held) (finite.get forms q) entry.1

or_none : (b : Bool) → (b || false) ≡ b
or_none true = refl
or_none false = refl

held_any : (name : List ℕ) (held : Held) → is_some (held_form name (Some held)) ≡ list_any (is_entry name) held
held_any name held =
    any_put held finite.empty name
    ∙ ap (λ (found : Option Form). list_any (is_entry name) held || is_some found) (finite.get-empty (slice_cmp nat_cmp) name)
    ∙ or_none (list_any (is_entry name) held)

pub other_entry : (name : List ℕ) (held : Held) (n : ℕ) (entry : List ℕ × Form) → slice_get held n ≡ Some entry → bytes_eq name entry.0 ≡ false →
    list_any (is_entry name) (drop n held) ≡ list_any (is_entry name) held → list_any (is_entry name) (drop (n + 1) held) ≡ list_any (is_entry name) held
other_entry name held n entry there other so =
    let on : drop n held ≡ entry ∷ drop (n + 1) held =
    drop_more held n entry (slice_get_within held n entry there) ∙ ap (λ (e : List ℕ × Form). e ∷ drop (n + 1) held) (get_or_from_slice_get held n entry entry there) in
    sym (ap (list_any (is_entry name)) on ∙ ap (λ b. b || list_any (is_entry name) (drop (n + 1) held)) other) ∙ so

-- of an entry whose name stands in no later one the form is found
others_stay : (held : Held) (forms : Forms) (q : List ℕ) → AllByRecursion (λ n. bytes_eq q n ≡ false) (map (λ entry. entry.0) held) → finite.get (with_all held forms) q ≡ finite.get forms q
others_stay [] forms q none = refl
others_stay (entry ∷ held) forms q none =
    others_stay held (finite.insert forms entry.0 entry.1) q none.1 ∙ put_get forms entry.0 q entry.1 ∙ ap (λ b. cond b (Some entry.1) (finite.get forms q)) none.0

found_at_entry : (held : Held) (forms : Forms) (n : ℕ) (name : List ℕ) (form : Form) → AreApart held → slice_get held n ≡ Some (name, form) → finite.get (with_all held forms) name ≡ Some form
unfolding IsDistinct
found_at_entry [] forms n name form apart there = absurd (cc)
found_at_entry (entry ∷ held) forms zero name form apart there =
    let same : entry ≡ (name, form) = same_Some entry (name, form) there in
    let more : Forms = finite.insert forms entry.0 entry.1 in
    ap (λ (e : List ℕ × Form). finite.get (with_all held more) e.0) (sym same)
    ∙ others_stay held more entry.0 apart.0
    ∙ put_get forms entry.0 entry.0 entry.1
    ∙ cond-true (bytes_eq entry.0 entry.0) (Some entry.1) (finite.get forms entry.0) ((bytes_eq-Decides entry.0 entry.0).1 refl)
    ∙ ap (λ (e : List ℕ × Form). Some e.1) same
found_at_entry (entry ∷ held) forms (suc n) name form apart there = found_at_entry held (finite.insert forms entry.0 entry.1) n name form apart.1 there

pub this_entry : (name other : List ℕ) (held : Held) (n : ℕ) (form : Form) → AreApart held → slice_get held n ≡ Some (other, form) → bytes_eq name other ≡ true →
    Some form ≡ held_form name (Some held)
this_entry name other held n form apart there same =
    sym (ap (λ (q : List ℕ). held_form q (Some held)) ((bytes_eq-Decides name other).0 same) ∙ found_at_entry held finite.empty n other form apart there)

pub no_entry : (name : List ℕ) (held : Held) (n : ℕ) → length held ≤ n → list_any (is_entry name) (drop n held) ≡ list_any (is_entry name) held →
    None ≡ held_form name (Some held)
no_entry name held n past so =
    none_there (held_form name (Some held)) (held_any name held ∙ sym so ∙ ap (list_any (is_entry name)) (drop_all n held past))
  where
    none_there : (found : Option Form) → is_some found ≡ false → None ≡ found
    none_there None none = refl
    none_there (Some form) none = absurd (cc)

pub none_held : (name : List ℕ) → held_form name None ≡ None
none_held name = finite.get-empty (slice_cmp nat_cmp) name

-- ---- copies of the forms of a block

-- the first of two, where it is there, else the second
abbrev first_of : Option Form → Option Form → Option Form
first_of None second = second
first_of (Some form) second = Some form

-- what is found among forms after that is the block's, or was there
found_after : (block : Block) (forms : Forms) (q : List ℕ) (found : Option Form) → held_form q block ≡ found →
    finite.get (with_all (forms_in block) forms) q ≡ first_of found (finite.get forms q)
found_after block forms q None is = found_of_copies block forms q ∙ rw is refl
found_after block forms q (Some form) is = found_of_copies block forms q ∙ rw is refl

-- ---- after the call

module _ (environment : Environment) (s t : State) (call : Call) (e : Effect) (scans : scan s ≡ Calls call) (of : IsCallOf environment s call (HandleBlock FetchBlock) e) (after : t ≡ after_call call e) where
  -- what the primitive does
  does_to : (found : Option ℕ) → named_block_number call.arguments (storage_of call.state) ≡ found →
      effect_of (HandleBlock FetchBlock) environment call.arguments call.state ≡ on_block found (λ number. fetching number (storage_of call.state)) (storage_of call.state)
  does_to found is = ap (λ (n : Option ℕ). on_block n (λ number. fetching number (storage_of call.state)) (storage_of call.state)) is

  -- the block is the one that the code finds
  named_alike : (given : List ℕ) → given ≡ argument 1 call.arguments → block_named given (storage_of s) ≡ named_block_number call.arguments (storage_of call.state)
  named_alike given same =
      ap (λ (q : List ℕ). block_named q (storage_of s)) same
      ∙ sym (ap (λ (u : State). block_named (argument 1 call.arguments) (storage_of u)) (ended s call scans).2.state)

  module _ (given name : List ℕ) (i : ℕ) (item : Item) (place : Place) (same : given ≡ argument 1 call.arguments) (is : place ≡ place_fetched (block_named given (storage_of s)) name i (storage_of s))
      (stands : found_at t (InForm name i) ≡ Some item) where
    place_by : (found : Option ℕ) → named_block_number call.arguments (storage_of call.state) ≡ found → place ≡ place_fetched found name i (storage_of s)
    place_by found named = is ∙ ap (λ (n : Option ℕ). place_fetched n name i (storage_of s)) (named_alike given same ∙ named)

    unaddressed : named_block_number call.arguments (storage_of call.state) ≡ None → origin environment s (InForm name i) ≡ Carried place
    unaddressed none =
        let kept : t.forms ≡ call.state.forms = forms_left environment s call e (HandleBlock FetchBlock) of t after (does_to None none) in
        unaddressed_told environment s call e of none name i item (ap (λ (forms : Forms). slice_get (items_of (finite.get forms name)) i) (sym kept) ∙ stands)
        ∙ ap Carried (sym (place_by None none))

    module _ (number : ℕ) (some : named_block_number call.arguments (storage_of call.state) ≡ Some number) where
      -- what is found under the name then
      found_then : (found : Option Form) → held_form name (block_at number call.state.blocks) ≡ found → finite.get t.forms name ≡ first_of found (finite.get call.state.forms name)
      found_then found there =
          ap (λ (forms : Forms). finite.get forms name)
          (forms_kept environment s call e (HandleBlock FetchBlock) of t after (nat_le (finite.len (fetched number (storage_of call.state))) FORM_COUNT_LIMIT) (fetched number (storage_of call.state)) (does_to (Some number) some))
          ∙ found_after (block_at number call.state.blocks) call.state.forms name found there

      held_so : (found : Option Form) → held_form name (block_at number call.state.blocks) ≡ found →
          place ≡ (if is_some found then InHeld number name i else InForm name i)
      held_so found there =
          place_by (Some number) some
          ∙ ap (λ (f : Option Form). if is_some f then InHeld number name i else InForm name i)
          (ap (λ (blocks : List Block). held_form name (block_at number blocks)) (sym (blocks_are s call scans)) ∙ there)

      by_held : (found : Option Form) → held_form name (block_at number call.state.blocks) ≡ found → origin environment s (InForm name i) ≡ Carried place
      by_held (Some form) there =
          fetched_told environment s call e of number some name i item
          (ap (λ (f : Option Form). slice_get (items_of f) i) (there ∙ sym (found_then (Some form) there)) ∙ stands)
          ∙ ap Carried (sym (held_so (Some form) there))
      by_held None there =
          unfetched_told environment s call e of number some name i item there
          (ap (λ (f : Option Form). slice_get (items_of f) i) (sym (found_then None there)) ∙ stands)
          ∙ ap Carried (sym (held_so None there))

    by_block : (found : Option ℕ) → named_block_number call.arguments (storage_of call.state) ≡ found → origin environment s (InForm name i) ≡ Carried place
    by_block None none = unaddressed none
    by_block (Some number) some = by_held number some (held_form name (block_at number call.state.blocks)) refl

    pub brought : origin environment s (InForm name i) ≡ Carried place
    brought = by_block (named_block_number call.arguments (storage_of call.state)) refl

pub fetched_tells : (environment : Environment) (s t : State) (call : Call) → step environment s ≡ Ok t → scan s ≡ Calls call → primitive_of (argument 0 call.arguments) ≡ HandleBlock FetchBlock →
    (given name : List ℕ) (i : ℕ) (item : Item) (place : Place) → given ≡ argument 1 call.arguments → place ≡ place_fetched (block_named given (storage_of s)) name i (storage_of s) →
    found_at t (InForm name i) ≡ Some item → origin environment s (InForm name i) ≡ Carried place
fetched_tells environment s t call h scans named given name i item place same is stands =
    let done = call_does environment s t call h scans (HandleBlock FetchBlock) named in
    brought environment s t call done.0 scans done.1 done.2 given name i item place same is stands
