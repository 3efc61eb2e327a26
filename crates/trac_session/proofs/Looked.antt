-- What is looked for, as the code tests it.
use Rattle.std.proofs.Common.{◌≡◌, ℕ, zero, suc, ◌+◌, ◌<◌, ◌≤◌, ◌&&◌, not, Bool, Bor, true, false, List, [], ◌∷◌, ◌++◌, length, map, drop, get_or, refl, sym, ap, ◌∙◌, arith}
use Rattle.std.specs.Prelude.{Option, Some, slice_get, ◌==◌}
use Rattle.std.specs.Cmp.Lexicographic.{nat_list_eq_equiv, pointwise}
use Rattle.std.specs.List.{starts_with}
use Rattle.std.specs.Str.{bytes_eq}
use Rattle.std.proofs.lemmas.List.{drop_more, length-map}
use Rattle.std.proofs.lemmas.Option.{slice_get-get_or}
use Rattle.trac_rules.specs.declared.item.Item.{Item}
use Rattle.trac_rules.specs.declared.item.Item.TheVariants.{Byte}
use Rattle.trac_rules.specs.declared.scan.Front.{Front}
use Rattle.trac_rules.specs.declared.scan.Front.TheVariants as front
use Rattle.trac_rules.specs.Effect.{argument}
use Rattle.trac_rules.specs.Form.{Form, all_items}
use Rattle.trac_rules.specs.Goals.{begins_with, call_asked, is_call_with, is_same_form, is_same_item}
use Rattle.trac_rules.specs.Scanning.{closing_in, deleted, front_of, scan, scan_at}
use Rattle.trac_rules.specs.State.{Frame, State}
use Rattle.trac_rules.specs.Stepping.{name_called}
use Rattle.trac_session.specs.Goals.{is_call_of, is_named}

and_false : (b : Bool) → (b && false) ≡ false
and_false true = refl
and_false false = refl

-- ---- texts that begin with others

abbrev begin : List (List ℕ) → List (List ℕ) → Bool
begin wanted texts = starts_with bytes_eq texts wanted

-- the next of each
next_texts : (wanted texts : List (List ℕ)) (i : ℕ) → i < length wanted → i < length texts →
    begin (drop i wanted) (drop i texts) ≡ (bytes_eq (get_or wanted i []) (get_or texts i []) && begin (drop (i + 1) wanted) (drop (i + 1) texts))
next_texts wanted texts i there given = λ k. begin (drop_more wanted i [] there k) (drop_more texts i [] given k)

-- the text that is read of those that are wanted
abbrev texts_of : List (Bor (List ℕ)) → List (List ℕ)
texts_of wanted = map (λ text. text.now) wanted

read_text : (wanted : List (Bor (List ℕ))) (i : ℕ) (d : Bor (List ℕ)) → i < length wanted → get_or (texts_of wanted) i [] ≡ (get_or wanted i d).now
read_text [] i d l = absurd (omega arith)
read_text (w ∷ ws) zero d l = refl
read_text (w ∷ ws) (suc i) d l = read_text ws i d (omega arith)

compared : (wanted : List (Bor (List ℕ))) (d : Bor (List ℕ)) (texts : List (List ℕ)) (i : ℕ) (given : List ℕ) (differs : Bool) → i < length wanted → length wanted ≤ length texts →
    given ≡ get_or texts i [] → differs ≡ not (bytes_eq given (get_or wanted i d).now) →
    begin (drop i (texts_of wanted)) (drop i texts) ≡ (not differs && begin (drop (i + 1) (texts_of wanted)) (drop (i + 1) texts))
compared wanted d texts i given differs there enough read test =
    next_texts (texts_of wanted) texts i (omega (arith, length-map wanted (λ (text : Bor (List ℕ)). text.now))) (omega arith)
    ∙ ap (λ b. b && begin (drop (i + 1) (texts_of wanted)) (drop (i + 1) texts))
    (nat_list_eq_equiv.symm (get_or (texts_of wanted) i []) (get_or texts i [])
    ∙ (λ k. bytes_eq (sym read k) (read_text wanted i d there k))
    ∙ sym (not_not (bytes_eq given (get_or wanted i d).now))
    ∙ ap not (sym test))
  where
    not_not : (b : Bool) → not (not b) ≡ b
    not_not true = refl
    not_not false = refl

pub same_text : (wanted : List (Bor (List ℕ))) (d : Bor (List ℕ)) (texts : List (List ℕ)) (i : ℕ) (given : List ℕ) (differs : Bool) → i < length wanted → length wanted ≤ length texts →
    given ≡ get_or texts i [] → differs ≡ not (bytes_eq given (get_or wanted i d).now) → differs ≡ false →
    begin (drop (i + 1) (texts_of wanted)) (drop (i + 1) texts) ≡ begin (drop i (texts_of wanted)) (drop i texts)
same_text wanted d texts i given differs there enough read test same =
    sym (compared wanted d texts i given differs there enough read test ∙ ap (λ b. not b && begin (drop (i + 1) (texts_of wanted)) (drop (i + 1) texts)) same)

pub other_text : (wanted : List (Bor (List ℕ))) (d : Bor (List ℕ)) (texts : List (List ℕ)) (i : ℕ) (given : List ℕ) (differs : Bool) → i < length wanted → length wanted ≤ length texts →
    given ≡ get_or texts i [] → differs ≡ not (bytes_eq given (get_or wanted i d).now) → differs ≡ true →
    begin (drop i (texts_of wanted)) (drop i texts) ≡ false
other_text wanted d texts i given differs there enough read test other =
    compared wanted d texts i given differs there enough read test ∙ ap (λ b. not b && begin (drop (i + 1) (texts_of wanted)) (drop (i + 1) texts)) other

-- ---- a name

-- a name is the first argument of a call
first_is : (name : List ℕ) (before : List (List ℕ)) (last : List ℕ) → begin (name ∷ []) (before ++ last ∷ []) ≡ bytes_eq (argument 0 (before ++ last ∷ [])) name
first_is name before last = at before
  where
    only : (text : List ℕ) → (bytes_eq name text && true) ≡ bytes_eq text name
    only text = and_true (bytes_eq name text) ∙ nat_list_eq_equiv.symm name text
      where
        and_true : (b : Bool) → (b && true) ≡ b
        and_true true = refl
        and_true false = refl

    at : (texts : List (List ℕ)) → begin (name ∷ []) (texts ++ last ∷ []) ≡ bytes_eq (argument 0 (texts ++ last ∷ [])) name
    at [] = only last
    at (text ∷ texts) = only text

-- a call whose first argument is a name is a call of that name
pub one_name : (name : List ℕ) (s : State) → is_call_with (name ∷ []) s ≡ is_call_of name s
unfolding scan
one_name name s = at (front_of s.active)
  where
    closing : (frames : List Frame) → begins_with (name ∷ []) (call_asked (closing_in frames (deleted 1 s))) ≡ is_named name (name_called (closing_in frames (deleted 1 s)))
    closing [] = refl
    closing (f ∷ fs) = first_is name f.arguments f.gathered

    at : (ahead : Front) → begins_with (name ∷ []) (call_asked (scan_at ahead s)) ≡ is_named name (name_called (scan_at ahead s))
    at front.Closing = closing s.frames
    at other = refl

-- ---- items

-- the next of each, as they are read
compared_items : (xs ys : List Item) (i : ℕ) (first second : Option Item) (same : Bool) → i < length xs → i < length ys → first ≡ slice_get xs i → second ≡ slice_get ys i →
    ((a b : Item) → first ≡ Some a → second ≡ Some b → same ≡ is_same_item a b) →
    pointwise is_same_item (drop i xs) (drop i ys) ≡ (same && pointwise is_same_item (drop (i + 1) xs) (drop (i + 1) ys))
compared_items xs ys i first second same there here at_first at_second test =
    let x : Item = get_or xs i (Byte 0) in
    let y : Item = get_or ys i (Byte 0) in
    (λ k. pointwise is_same_item (drop_more xs i (Byte 0) there k) (drop_more ys i (Byte 0) here k))
    ∙ ap (λ b. b && pointwise is_same_item (drop (i + 1) xs) (drop (i + 1) ys))
    (sym (test x y (at_first ∙ slice_get-get_or xs i (Byte 0) there) (at_second ∙ slice_get-get_or ys i (Byte 0) here)))

pub same_item : (xs ys : List Item) (i : ℕ) (first second : Option Item) (same : Bool) → i < length xs → i < length ys → first ≡ slice_get xs i → second ≡ slice_get ys i →
    ((a b : Item) → first ≡ Some a → second ≡ Some b → same ≡ is_same_item a b) → same ≡ true →
    pointwise is_same_item (drop (i + 1) xs) (drop (i + 1) ys) ≡ pointwise is_same_item (drop i xs) (drop i ys)
same_item xs ys i first second same there here at_first at_second test is =
    sym (compared_items xs ys i first second same there here at_first at_second test ∙ ap (λ b. b && pointwise is_same_item (drop (i + 1) xs) (drop (i + 1) ys)) is)

pub other_item : (xs ys : List Item) (i : ℕ) (first second : Option Item) (same : Bool) → i < length xs → i < length ys → first ≡ slice_get xs i → second ≡ slice_get ys i →
    ((a b : Item) → first ≡ Some a → second ≡ Some b → same ≡ is_same_item a b) → same ≡ false →
    pointwise is_same_item (drop i xs) (drop i ys) ≡ false
other_item xs ys i first second same there here at_first at_second test is =
    compared_items xs ys i first second same there here at_first at_second test ∙ ap (λ b. b && pointwise is_same_item (drop (i + 1) xs) (drop (i + 1) ys)) is

-- forms are not the same where their items are not
pub other_form : (a b : Form) → pointwise is_same_item (all_items a) (all_items b) ≡ false → false ≡ is_same_form a b
other_form a b other = sym (ap (λ same. (length a.before == length b.before) && same) other ∙ and_false (length a.before == length b.before))
