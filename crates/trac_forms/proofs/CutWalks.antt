-- How a form is segmented and joined again where it stands, gap by gap: what stands on the left is done, and what stands on the right is
-- still to be walked.
use Rattle.std.proofs.Common.{◌≡◌, ℕ, ◌+◌, ◌-◌, ◌<◌, ◌≤◌, Bool, true, false, List, [], ◌∷◌, ◌++◌, length, take, drop, get_or, refl, sym, ap, subst, ◌∙◌, arith}
use Rattle.std.specs.Prelude.{Option, None, Some, is_some, option_and_then, option_map, unwrap_or, if◌then◌else◌, ◌==◌, IsTrue}
use Rattle.std.specs.List.{All}
use Rattle.std.proofs.lemmas.Bool.{eqb-true}
use Rattle.std.proofs.lemmas.List.{append_assoc, drop-drop, drop_all, drop_at, drop_more, length-append, length-map, take_at}
use Rattle.std.proofs.lemmas.Option.{option_and_then_some, same_Some}
use Rattle.trac_gap.specs.Ends.{Ends}
use Rattle.trac_rules.specs.declared.item.CutGap.{CutGap}
use Rattle.trac_rules.specs.declared.item.Item.{Item}
use Rattle.trac_rules.specs.declared.item.Item.TheVariants.{Byte, Gap}
use Rattle.trac_rules.specs.declared.limit.TheConstants.{FORM_LIMIT}
use Rattle.trac_rules.specs.Cuts.{cut_between, cut_of, fitting, joined, joined_from}
use Rattle.trac_rules.specs.Filling.{text_numbered}
use Rattle.trac_rules.specs.Form.{Form, IsWide, all_items, as_items, at_start, extent}
use Rattle.trac_rules.specs.Segmenting.{segmented}
use Rattle.trac_rules.proofs.Cuts.{IsCut, done, kept, made, between_kept, between_made, cut_extent, cut_wide, fits_gap, mapped_some, one_after, same_items, segmented_is_cut}
use Rattle.trac_rules.proofs.Cutting.{count_within_extent, extent-append, extent-segmented, wide-segmented_from}
use Rattle.trac_forms.specs.Layout.{IsKept, divided}
use Rattle.trac_forms.proofs.Divided.{kept_again, kept_there}

-- no gap at all
abbrev pub no_cut_gap : CutGap
no_cut_gap = record { place = 0; ordinal = 0 }

-- ---- the next gap that is made

-- the first of these gaps, the items before it, and what stands after it in both lists
pub record IsNext (texts : List (List ℕ)) (place : ℕ) (old new : List Item) (gap : CutGap) (cut : List CutGap) : Type 0 where
  pub front : List Item
  pub old_rest : List Item
  pub new_rest : List Item
  pub old_is : old ≡ front ++ (as_items (text_numbered gap.ordinal texts) ++ old_rest)
  pub new_is : new ≡ front ++ Gap gap.ordinal (length (text_numbered gap.ordinal texts)) ∷ new_rest
  pub place_is : gap.place ≡ place + length front
  pub some : 0 < length (text_numbered gap.ordinal texts)
  pub after : IsCut texts old_rest new_rest
  pub others : cut ≡ cut_between (gap.place + 1) old_rest new_rest

-- an item before it
one_before : (texts : List (List ℕ)) (place : ℕ) (item : Item) (old new : List Item) (gap : CutGap) (cut : List CutGap) → IsNext texts (place + 1) old new gap cut →
    IsNext texts place (item ∷ old) (item ∷ new) gap cut
one_before texts place item old new gap cut n = record {
  front = item ∷ n.front;
  old_rest = n.old_rest;
  new_rest = n.new_rest;
  old_is = ap (λ (xs : List Item). item ∷ xs) n.old_is;
  new_is = ap (λ (xs : List Item). item ∷ xs) n.new_is;
  place_is = omega (arith, n.place_is);
  some = n.some;
  after = n.after;
  others = n.others;
}

pub next_made : (texts : List (List ℕ)) (place : ℕ) {old new : List Item} (gap : CutGap) (cut : List CutGap) → IsCut texts old new → gap ∷ cut ≡ cut_between place old new →
    IsNext texts place old new gap cut
next_made texts place gap cut done e = absurd cc
next_made texts place gap cut (kept {item = item} {old = old} {new = new} h) e =
    one_before texts place item old new gap cut (next_made texts (place + 1) gap cut h (e ∙ between_kept place item old new))
next_made texts place gap cut (made k {old = old} {new = new} some h) e =
    let text = text_numbered k texts in
    let both : gap ∷ cut ≡ record { place = place; ordinal = k } ∷ cut_between (place + 1) old new = e ∙ between_made place k text old new some in
    let first : gap ≡ record { place = place; ordinal = k } = ap (λ (xs : List CutGap). get_or xs 0 no_cut_gap) both in
    subst (λ (g : CutGap). IsNext texts place (as_items text ++ old) (Gap k (length text) ∷ new) g cut) (sym first)
    (record {
      front = [];
      old_rest = old;
      new_rest = new;
      old_is = refl;
      new_is = refl;
      place_is = omega arith;
      some = some;
      after = h;
      others = ap (λ (xs : List CutGap). drop 1 xs) both;
    })

abbrev first_of : CutGap → List CutGap → List CutGap
first_of gap cut = gap ∷ cut

-- where no gap is made nothing was cut
pub none_made : (texts : List (List ℕ)) (place : ℕ) {old new : List Item} → IsCut texts old new → [] ≡ cut_between place old new → old ≡ new
none_made texts place done e = refl
none_made texts place (kept {item = item} {old = old} {new = new} h) e =
    ap (λ (xs : List Item). item ∷ xs) (none_made texts (place + 1) h (e ∙ between_kept place item old new))
none_made texts place (made k {old = old} {new = new} some h) e =
    let both : [] ≡ first_of (record { place = place; ordinal = k }) (cut_between (place + 1) old new) = e ∙ between_made place k (text_numbered k texts) old new some in
    absurd cc

-- ---- segmenting

-- the items on the left are those of the segmented form, and the gaps are those that are still to be made on the right
pub record IsCutSoFar (texts : List (List ℕ)) (new : List Item) (items : Ends Item) (gaps : List CutGap) : Type 0 where
  pub rest : List Item
  pub whole : items.left ++ rest ≡ new
  pub ahead : IsCut texts items.right rest
  pub to_come : gaps ≡ cut_between (length items.left) items.right rest

-- at the start
pub cut_begins : (texts : List (List ℕ)) (form : Form) (items : Ends Item) (gaps : List CutGap) → items.left ≡ [] → items.right ≡ all_items form → gaps ≡ cut_of texts form →
    IsCutSoFar texts (all_items (segmented texts form)) items gaps
cut_begins texts form items gaps l r g =
    let new = all_items (segmented texts form) in
    record {
      rest = new;
      whole = ap (λ (xs : List Item). xs ++ new) l;
      ahead = subst (λ (xs : List Item). IsCut texts xs new) (sym r) (segmented_is_cut texts form);
      to_come = g ∙ ap (λ (n : ℕ). cut_between n (all_items form) new) (sym (ap length l)) ∙ ap (λ (xs : List Item). cut_between (length items.left) xs new) (sym r);
    }

-- the first of the gaps that are to come
pub gap_to_come : {texts : List (List ℕ)} {new : List Item} {old : Ends Item} (gaps : List CutGap) (i : ℕ) → i < length gaps → IsCutSoFar texts new old (drop i gaps) →
    IsCutSoFar texts new old (get_or gaps i no_cut_gap ∷ drop (i + 1) gaps)
gap_to_come {texts} {new} {old} gaps i l so_far = subst (IsCutSoFar texts new old) (drop_more gaps i no_cut_gap l) so_far

module _ {texts : List (List ℕ)} {new : List Item} {old : Ends Item} {gap : CutGap} {cut : List CutGap} (so_far : IsCutSoFar texts new old (gap ∷ cut)) where
  next : IsNext texts (length old.left) old.right so_far.rest gap cut
  next = next_made texts (length old.left) gap cut so_far.ahead so_far.to_come

  -- has a text
  pub made_some : 0 < length (text_numbered gap.ordinal texts)
  made_some = next.some

  -- stands after what is done
  pub made_after : length old.left ≤ gap.place
  made_after = omega (arith, next.place_is)

  -- its text stands there
  pub made_there : gap.place - length old.left + length (text_numbered gap.ordinal texts) ≤ length old.right
  made_there =
      let text = text_numbered gap.ordinal texts in
      omega (
        arith,
        next.place_is,
        ap length next.old_is,
        length-append next.front (as_items text ++ next.old_rest),
        length-append (as_items text) next.old_rest,
        length-map text Byte,
      )

  -- and is no longer than a form may be
  pub made_fits : extent new ≤ FORM_LIMIT → length (text_numbered gap.ordinal texts) ≤ FORM_LIMIT
  made_fits within =
      let text = text_numbered gap.ordinal texts in
      omega (
        arith,
        within,
        ap extent so_far.whole,
        extent-append old.left so_far.rest,
        ap extent next.new_is,
        extent-append next.front (Gap gap.ordinal (length text) ∷ next.new_rest),
      )

  -- once it is made
  module _ (items : Ends Item) (passed width : ℕ) (count : passed ≡ gap.place - length old.left) (wide : width ≡ length (text_numbered gap.ordinal texts))
      (moved : items ≡ record old { left = old.left ++ (take passed old.right ++ Gap gap.ordinal width ∷ []); right = drop (passed + width) old.right }) where
    passed_is : passed ≡ length next.front
    passed_is = omega (arith, next.place_is, count)

    made_left : items.left ≡ old.left ++ (next.front ++ Gap gap.ordinal (length (text_numbered gap.ordinal texts)) ∷ [])
    made_left =
        let text = text_numbered gap.ordinal texts in
        ap (λ (e : Ends Item). e.left) moved
        ∙ (λ j. old.left ++ (take (passed_is j) (next.old_is j) ++ Gap gap.ordinal (wide j) ∷ []))
        ∙ ap (λ (xs : List Item). old.left ++ (xs ++ Gap gap.ordinal (length text) ∷ [])) (take_at next.front (as_items text ++ next.old_rest) (length next.front) refl)

    made_right : items.right ≡ next.old_rest
    made_right =
        let text = text_numbered gap.ordinal texts in
        ap (λ (e : Ends Item). e.right) moved
        ∙ (λ j. drop (passed_is j + wide j) (next.old_is j))
        ∙ sym (drop-drop (length text) (length next.front) (next.front ++ (as_items text ++ next.old_rest)))
        ∙ ap (drop (length text)) (drop_at next.front (as_items text ++ next.old_rest) (length next.front) refl)
        ∙ drop_at (as_items text) next.old_rest (length text) (length-map text Byte)

    made_count : length items.left ≡ gap.place + 1
    made_count =
        let last = Gap gap.ordinal (length (text_numbered gap.ordinal texts)) ∷ [] in
        omega (arith, ap length made_left, length-append old.left (next.front ++ last), length-append next.front last, next.place_is)

    pub cut_more : IsCutSoFar texts new items cut
    cut_more =
        let last = Gap gap.ordinal (length (text_numbered gap.ordinal texts)) ∷ [] in
        record {
          rest = next.new_rest;
          whole =
              ap (λ (xs : List Item). xs ++ next.new_rest) made_left ∙ append_assoc old.left (next.front ++ last) next.new_rest
              ∙ ap (λ (xs : List Item). old.left ++ xs) (append_assoc next.front last next.new_rest ∙ sym next.new_is) ∙ so_far.whole;
          ahead = subst (λ (xs : List Item). IsCut texts xs next.new_rest) (sym made_right) next.after;
          to_come =
              next.others ∙ ap (λ (n : ℕ). cut_between n next.old_rest next.new_rest) (sym made_count)
              ∙ ap (λ (xs : List Item). cut_between (length items.left) xs next.new_rest) (sym made_right);
        }

-- once all gaps are made
pub cut_ends : (texts : List (List ℕ)) (form : Form) (old items : Ends Item) (gaps : List CutGap) (i : ℕ) → length gaps ≤ i →
    IsCutSoFar texts (all_items (segmented texts form)) old (drop i gaps) → items.left ≡ [] → items.right ≡ old.left ++ old.right → divided items ≡ segmented texts form
cut_ends texts form old items gaps i l so_far left right =
    let none : [] ≡ cut_between (length old.left) old.right so_far.rest = sym (drop_all i gaps l) ∙ so_far.to_come in
    let same : items.right ≡ all_items (segmented texts form) =
    right ∙ ap (λ (xs : List Item). old.left ++ xs) (none_made texts (length old.left) so_far.ahead none) ∙ so_far.whole in
    λ j. record { before = left j; after = same j }

-- a segmented form is kept where the form was
pub cut_kept : (texts : List (List ℕ)) (old new : Ends Item) → divided new ≡ segmented texts (divided old) → new.capacity ≡ old.capacity → IsKept old → IsKept new
cut_kept texts old new same capacity fits =
    let size = extent-segmented texts (divided old) in
    kept_there new (all_items (segmented texts (divided old))) (ap all_items same) (omega (arith, size, fits.within)) (wide-segmented_from 1 texts (old.left ++ old.right) fits.wide)
    (omega (arith, size, fits.room, capacity))

-- ---- the next gap that is filled

-- what a result is that is there
pub there_is : (o : Option (List Item)) → IsTrue (is_some o) → o ≡ Some (unwrap_or o [])
there_is None h = absurd cc
there_is (Some items) h = refl

-- the first gap of a cut, the items before it, and what stands after it, with gaps and filled
pub record IsNextFilled (texts : List (List ℕ)) (place : ℕ) (items full : List Item) (gap : CutGap) (cut : List CutGap) : Type 0 where
  pub front : List Item
  pub rest : List Item
  pub full_rest : List Item
  pub items_are : items ≡ front ++ Gap gap.ordinal (length (text_numbered gap.ordinal texts)) ∷ rest
  pub full_is : full ≡ front ++ (as_items (text_numbered gap.ordinal texts) ++ full_rest)
  pub place_is : gap.place ≡ place + length front
  pub some : 0 < length (text_numbered gap.ordinal texts)
  pub after : joined_from texts (gap.place + 1) cut rest ≡ Some full_rest

-- an item before it, or the gap itself
first_filled : (texts : List (List ℕ)) (place : ℕ) (gap : CutGap) (cut : List CutGap) (item : Item) (items full : List Item) (here : Bool) → (place == gap.place) ≡ here →
    ((rest : List Item) → joined_from texts (place + 1) (gap ∷ cut) items ≡ Some rest → IsNextFilled texts (place + 1) items rest gap cut) →
    (if here
    then option_and_then (λ text. option_map (λ rest. as_items text ++ rest) (joined_from texts (place + 1) cut items)) (fitting texts gap.ordinal item)
    else option_map (λ rest. item ∷ rest) (joined_from texts (place + 1) (gap ∷ cut) items)) ≡ Some full →
    IsNextFilled texts place (item ∷ items) full gap cut
first_filled texts place gap cut item items full true e further h =
    option_and_then_some (λ text. option_map (λ rest. as_items text ++ rest) (joined_from texts (place + 1) cut items)) (fitting texts gap.ordinal item) full h (λ text fits there.
    let named = fits_gap texts gap.ordinal item text fits in
    let rest = mapped_some (λ (xs : List Item). as_items text ++ xs) (joined_from texts (place + 1) cut items) full there in
    let here : place ≡ gap.place = eqb-true place gap.place e in
    record {
      front = [];
      rest = items;
      full_rest = rest.0;
      items_are = ap (λ (i : Item). i ∷ items) (named.1 ∙ ap (λ (t : List ℕ). Gap gap.ordinal (length t)) (sym named.0));
      full_is = sym rest.2 ∙ ap (λ (t : List ℕ). as_items t ++ rest.0) (sym named.0);
      place_is = omega (arith, here);
      some = omega (arith, named.2, ap length named.0);
      after = ap (λ (n : ℕ). joined_from texts (n + 1) cut items) (sym here) ∙ rest.1;
    })
first_filled texts place gap cut item items full false e further h =
    let rest = mapped_some (λ (xs : List Item). item ∷ xs) (joined_from texts (place + 1) (gap ∷ cut) items) full h in
    let n = further rest.0 rest.1 in
    record {
      front = item ∷ n.front;
      rest = n.rest;
      full_rest = n.full_rest;
      items_are = ap (λ (xs : List Item). item ∷ xs) n.items_are;
      full_is = sym rest.2 ∙ ap (λ (xs : List Item). item ∷ xs) n.full_is;
      place_is = omega (arith, n.place_is);
      some = n.some;
      after = n.after;
    }

pub next_filled : (texts : List (List ℕ)) (place : ℕ) (gap : CutGap) (cut : List CutGap) (items full : List Item) → joined_from texts place (gap ∷ cut) items ≡ Some full →
    IsNextFilled texts place items full gap cut
next_filled texts place gap cut [] full h = absurd cc
next_filled texts place gap cut (item ∷ items) full h =
    first_filled texts place gap cut item items full (place == gap.place) refl (λ rest r. next_filled texts (place + 1) gap cut items rest r) h

-- ---- joining

-- the items on the left are those of the joined form, and the gaps are those that are still to be filled on the right; the first item on
-- the right has this place among the items with gaps
pub record IsFilledSoFar (texts : List (List ℕ)) (full : List Item) (place : ℕ) (items : Ends Item) (gaps : List CutGap) : Type 0 where
  pub rest : List Item
  pub whole : items.left ++ rest ≡ full
  pub ahead : joined_from texts place gaps items.right ≡ Some rest
  pub held : IsKept items
  pub counted : place + length items.right ≤ FORM_LIMIT

-- the first of the gaps that are to come
pub gap_to_fill : {texts : List (List ℕ)} {full : List Item} {place : ℕ} {old : Ends Item} (gaps : List CutGap) (i : ℕ) → i < length gaps → IsFilledSoFar texts full place old (drop i gaps) →
    IsFilledSoFar texts full place old (get_or gaps i no_cut_gap ∷ drop (i + 1) gaps)
gap_to_fill {texts} {full} {place} {old} gaps i l so_far = subst (IsFilledSoFar texts full place old) (drop_more gaps i no_cut_gap l) so_far

-- at the start
pub fill_begins : (texts : List (List ℕ)) (old items : Ends Item) (gaps : List CutGap) → items.left ≡ [] → items.right ≡ old.left ++ old.right → items.capacity ≡ old.capacity → IsKept old →
    IsTrue (is_some (joined texts gaps (old.left ++ old.right))) → IsFilledSoFar texts (unwrap_or (joined texts gaps (old.left ++ old.right)) []) 0 items gaps
fill_begins texts old items gaps l r capacity fits there =
    let full = unwrap_or (joined texts gaps (old.left ++ old.right)) [] in
    let held = kept_again old items ((λ j. l j ++ r j)) (omega (arith, capacity)) fits in
    record {
      rest = full;
      whole = ap (λ (xs : List Item). xs ++ full) l;
      ahead = ap (λ (xs : List Item). joined_from texts 0 gaps xs) r ∙ there_is (joined texts gaps (old.left ++ old.right)) there;
      held = held;
      counted = omega (arith, held.within, count_within_extent (items.left ++ items.right) held.wide, length-append items.left items.right);
    }

-- the next gap
module _ {texts : List (List ℕ)} {full : List Item} {place : ℕ} {old : Ends Item} {gap : CutGap} {cut : List CutGap} (so_far : IsFilledSoFar texts full place old (gap ∷ cut)) where
  pub hole : IsNextFilled texts place old.right so_far.rest gap cut
  hole = next_filled texts place gap cut old.right so_far.rest so_far.ahead

  -- stands no sooner than what is still to be walked
  pub filled_after : place ≤ gap.place
  filled_after = omega (arith, hole.place_is)

  right_count : length old.right ≡ length hole.front + (length hole.rest + 1)
  right_count =
      omega (arith, ap length hole.items_are, length-append hole.front (Gap gap.ordinal (length (text_numbered gap.ordinal texts)) ∷ hole.rest))

  -- stands there
  pub filled_there : gap.place - place < length old.right
  filled_there = omega (arith, hole.place_is, right_count)

  -- has a place after it
  pub filled_counted : gap.place + 1 + length hole.rest ≤ FORM_LIMIT
  filled_counted = omega (arith, hole.place_is, right_count, so_far.counted)

  -- all items, once it is filled
  abbrev filled_all : List Item
  filled_all = old.left ++ (hole.front ++ (as_items (text_numbered gap.ordinal texts) ++ hole.rest))

  filled_is_cut : IsCut texts filled_all (old.left ++ old.right)
  filled_is_cut =
      subst (λ (xs : List Item). IsCut texts filled_all (old.left ++ xs)) (sym hole.items_are)
      (one_after texts (same_items texts old.left) (one_after texts (same_items texts hole.front) (made gap.ordinal hole.some (same_items texts hole.rest))))

  filled_extent : extent filled_all ≡ extent (old.left ++ old.right)
  filled_extent = cut_extent texts filled_is_cut

  filled_wide : All IsWide filled_all
  filled_wide = cut_wide texts filled_is_cut so_far.held.wide

  -- there is room for its text
  pub filled_room : length old.left + length old.right + length (text_numbered gap.ordinal texts) ≤ old.capacity + 1
  filled_room =
      let text = text_numbered gap.ordinal texts in
      omega (
        arith,
        count_within_extent filled_all filled_wide,
        filled_extent,
        so_far.held.room,
        right_count,
        length-append old.left (hole.front ++ (as_items text ++ hole.rest)),
        length-append hole.front (as_items text ++ hole.rest),
        length-append (as_items text) hole.rest,
        length-map text Byte,
      )

  -- once it is filled
  module _ (items : Ends Item) (passed : ℕ) (text : List ℕ) (count : passed ≡ gap.place - place) (named : text ≡ text_numbered gap.ordinal texts)
      (moved : items ≡ record old { left = old.left ++ (take passed old.right ++ as_items text); right = drop (passed + 1) old.right }) where
    front_passed : passed ≡ length hole.front
    front_passed = omega (arith, hole.place_is, count)

    filled_left : items.left ≡ old.left ++ (hole.front ++ as_items (text_numbered gap.ordinal texts))
    filled_left =
        let last = Gap gap.ordinal (length (text_numbered gap.ordinal texts)) ∷ hole.rest in
        ap (λ (e : Ends Item). e.left) moved
        ∙ (λ j. old.left ++ (take (front_passed j) (hole.items_are j) ++ as_items (named j)))
        ∙ ap (λ (xs : List Item). old.left ++ (xs ++ as_items (text_numbered gap.ordinal texts))) (take_at hole.front last (length hole.front) refl)

    filled_right : items.right ≡ hole.rest
    filled_right =
        let last = Gap gap.ordinal (length (text_numbered gap.ordinal texts)) ∷ hole.rest in
        ap (λ (e : Ends Item). e.right) moved
        ∙ (λ j. drop (front_passed j + 1) (hole.items_are j))
        ∙ sym (drop-drop 1 (length hole.front) (hole.front ++ last))
        ∙ ap (drop 1) (drop_at hole.front last (length hole.front) refl)

    filled_same : items.left ++ items.right ≡ filled_all
    filled_same =
        let filling = as_items (text_numbered gap.ordinal texts) in
        (λ j. filled_left j ++ filled_right j) ∙ append_assoc old.left (hole.front ++ filling) hole.rest
        ∙ ap (λ (xs : List Item). old.left ++ xs) (append_assoc hole.front filling hole.rest)

    pub fill_more : IsFilledSoFar texts full (gap.place + 1) items cut
    fill_more =
        let filling = as_items (text_numbered gap.ordinal texts) in
        record {
          rest = hole.full_rest;
          whole =
              ap (λ (xs : List Item). xs ++ hole.full_rest) filled_left ∙ append_assoc old.left (hole.front ++ filling) hole.full_rest
              ∙ ap (λ (xs : List Item). old.left ++ xs) (append_assoc hole.front filling hole.full_rest ∙ sym hole.full_is) ∙ so_far.whole;
          ahead = ap (λ (xs : List Item). joined_from texts (gap.place + 1) cut xs) filled_right ∙ hole.after;
          held =
              kept_there items filled_all filled_same (omega (arith, filled_extent, so_far.held.within)) filled_wide
              (omega (arith, filled_extent, so_far.held.room, ap (λ (e : Ends Item). e.capacity) moved));
          counted = omega (arith, filled_counted, ap length filled_right);
        }

-- once all gaps are filled
module _ (texts : List (List ℕ)) (form : Form) (place : ℕ) (old items : Ends Item) (all_gaps gaps : List CutGap) (i : ℕ) (l : length gaps ≤ i)
    (there : IsTrue (is_some (joined texts all_gaps (all_items form))))
    (so_far : IsFilledSoFar texts (unwrap_or (joined texts all_gaps (all_items form)) []) place old (drop i gaps))
    (left : items.left ≡ []) (right : items.right ≡ old.left ++ old.right) where
  all_filled : items.right ≡ unwrap_or (joined texts all_gaps (all_items form)) []
  all_filled =
      let ahead : Some old.right ≡ Some so_far.rest =
      ap (λ (cut : List CutGap). joined_from texts place cut old.right) (sym (drop_all i gaps l)) ∙ so_far.ahead in
      right ∙ ap (λ (xs : List Item). old.left ++ xs) (same_Some old.right so_far.rest ahead) ∙ so_far.whole

  pub fill_ends : option_map at_start (joined texts all_gaps (all_items form)) ≡ Some (divided items)
  fill_ends =
      let same : at_start (unwrap_or (joined texts all_gaps (all_items form)) []) ≡ divided items = λ j. record { before = sym left j; after = sym all_filled j } in
      ap (option_map at_start) (there_is (joined texts all_gaps (all_items form)) there) ∙ ap Some same
