-- Which gaps segmenting makes: the form before and the one after it side by side.
use Rattle.std.proofs.Common.{◌≡◌, ℕ, zero, suc, ◌+◌, ◌<◌, ◌≤◌, Bool, true, false, List, [], ◌∷◌, ◌++◌, length, take, drop, get_or, refl, sym, ap, subst, ◌∙◌, arith}
use Rattle.std.specs.Prelude.{Option, None, Some, option_map, option_and_then, if◌then◌else◌, ◌==◌, ◌&&◌, nat_le}
use Rattle.std.specs.Bool.{then_some}
use Rattle.std.specs.List.{All, flat_map}
use Rattle.std.proofs.lemmas.Bool.{and_from, and_parts, eq-eqb, eqb-true, le-leb, leb-true, ne_eqb}
use Rattle.std.proofs.lemmas.List.{append_assoc, drop_at, get_or_at, length-append}
use Rattle.std.proofs.lemmas.List.Elements.{All-append, All-cons, All-head, All-tail}
use Rattle.std.proofs.lemmas.Option.{option_and_then_some, same_Some}
use Rattle.trac_rules.specs.declared.item.CutGap.{CutGap}
use Rattle.trac_rules.specs.declared.item.Item.{Item}
use Rattle.trac_rules.specs.declared.item.Item.TheVariants.{Byte, Gap}
use Rattle.trac_rules.specs.Cuts.{cut_between, cut_of, fitting, joined_from, joined}
use Rattle.trac_rules.specs.Filling.{text_numbered}
use Rattle.trac_rules.specs.Form.{Form, IsWide, all_items, as_items, extent, width_of}
use Rattle.trac_rules.specs.Segmenting.{leftmost, cut_at, cut_up_to, part, runs_of, replaced, cut_out, segmented_from, segmented}
use Rattle.trac_rules.specs.Weights.{gap_count, gaps_made}
use Rattle.trac_rules.proofs.Items.{length-as_items, no_gap}
use Rattle.trac_rules.proofs.Cutting.{extent-append, extent-as_items, leftmost_stands, replaced_none, split_at, wide-as_items}

-- the new items are the old ones, with gaps in place of texts that they are numbered for
pub data IsCut (texts : List (List ℕ)) : List Item → List Item → Type 0 where
  done : IsCut texts [] []
  kept : {item : Item} {old new : List Item} → IsCut texts old new → IsCut texts (item ∷ old) (item ∷ new)
  made : (k : ℕ) {old new : List Item} → 0 < length (text_numbered k texts) → IsCut texts old new →
      IsCut texts (as_items (text_numbered k texts) ++ old) (Gap k (length (text_numbered k texts)) ∷ new)

as_items-append : (xs ys : List ℕ) → as_items (xs ++ ys) ≡ as_items xs ++ as_items ys
as_items-append [] ys = refl
as_items-append (x ∷ xs) ys = ap (λ (r : List Item). Byte x ∷ r) (as_items-append xs ys)

module _ (texts : List (List ℕ)) where
  pub same_items : (items : List Item) → IsCut texts items items
  same_items [] = done
  same_items (item ∷ items) = kept (same_items items)

  pub one_after : {a b c d : List Item} → IsCut texts a b → IsCut texts c d → IsCut texts (a ++ c) (b ++ d)
  one_after done i = i
  one_after (kept h) i = kept (one_after h i)
  one_after {c = c} {d = d} (made k {old = old} {new = new} some h) i =
      subst (λ (xs : List Item). IsCut texts xs (Gap k (length (text_numbered k texts)) ∷ (new ++ d))) (sym (append_assoc (as_items (text_numbered k texts)) old c)) (made k some (one_after h i))

  was_byte : {b : ℕ} {old new : List Item} → IsCut texts old (Byte b ∷ new) → (rest : List Item) × (old ≡ Byte b ∷ rest) × IsCut texts rest new
  was_byte (kept {old = rest} h) = (rest, refl, h)

  were_bytes : (text : List ℕ) (old new : List Item) → IsCut texts old (as_items text ++ new) → (rest : List Item) × (old ≡ as_items text ++ rest) × IsCut texts rest new
  were_bytes [] old new h = (old, refl, h)
  were_bytes (b ∷ text) old new h =
      let first = was_byte h in
      let others = were_bytes text first.0 new first.2 in
      (others.0, first.1 ∙ ap (λ (xs : List Item). Byte b ∷ xs) others.1, others.2)

  pub cut_again : {b c : List Item} → IsCut texts b c → (a : List Item) → IsCut texts a b → IsCut texts a c
  cut_again done a h = h
  cut_again (kept i) a (kept {old = old} h) = kept (cut_again i old h)
  cut_again (kept i) a (made k {old = old} some h) = made k some (cut_again i old h)
  cut_again (made k {old = b} {new = c} some i) a h =
      let were = were_bytes (text_numbered k texts) a b h in
      subst (λ (xs : List Item). IsCut texts xs (Gap k (length (text_numbered k texts)) ∷ c)) (sym were.1) (made k some (cut_again i were.0 were.2))

  -- ---- one text cut out

  cut_here : (o : Option ℕ) (k : ℕ) (text run : List ℕ) (cut : List ℕ → List Item) → text_numbered k texts ≡ text → 0 < length text → leftmost text run ≡ o →
      ((r : List ℕ) → IsCut texts (as_items r) (cut r)) → IsCut texts (as_items run) (cut_at o k text run cut)
  cut_here None k text run cut e some h cuts = same_items (as_items run)
  cut_here (Some place) k text run cut e some h cuts =
      let front = take place run in
      let back = drop (place + length text) run in
      let gap : IsCut texts (as_items text ++ as_items back) (Gap k (length text) ∷ cut back) =
      subst (λ (t : List ℕ). IsCut texts (as_items t ++ as_items back) (Gap k (length t) ∷ cut back)) e (made k (subst (λ (t : List ℕ). 0 < length t) (sym e) some) (cuts back)) in
      let split : as_items run ≡ as_items front ++ (as_items text ++ as_items back) =
      ap as_items (split_at text run place (leftmost_stands text run place h))
      ∙ as_items-append front (text ++ back) ∙ ap (λ (r : List Item). as_items front ++ r) (as_items-append text back) in
      subst (λ (xs : List Item). IsCut texts xs (as_items front ++ Gap k (length text) ∷ cut back)) (sym split) (one_after (same_items (as_items front)) gap)

  cut_rounds : (n k : ℕ) (text run : List ℕ) → text_numbered k texts ≡ text → 0 < length text → IsCut texts (as_items run) (cut_up_to n k text run)
  cut_rounds zero k text run e some = same_items (as_items run)
  cut_rounds (suc n) k text run e some = cut_here (leftmost text run) k text run (cut_up_to n k text) e some refl (λ r. cut_rounds n k text r e some)

  cut_part : (k : ℕ) (text run : List ℕ) → text_numbered k texts ≡ text → IsCut texts (as_items run) (part k text run)
  unfolding part
  cut_part k [] run e = same_items (as_items run)
  cut_part k (b ∷ text) run e = cut_rounds (length run) k (b ∷ text) run e (omega arith)

  cut_others : (cut : List ℕ → List Item) → ((run : List ℕ) → IsCut texts (as_items run) (cut run)) → (others : List (Item × List ℕ)) →
      IsCut texts (flat_map (λ gap. gap.0 ∷ as_items gap.1) others) (flat_map (λ gap. gap.0 ∷ cut gap.1) others)
  cut_others cut cuts [] = done
  cut_others cut cuts (gap ∷ others) = kept (one_after (cuts gap.1) (cut_others cut cuts others))

  pub cut_once : (k : ℕ) (text : List ℕ) (items : List Item) → text_numbered k texts ≡ text → IsCut texts items (cut_out k text items)
  unfolding cut_out
  cut_once k text items e =
      subst (λ (xs : List Item). IsCut texts xs (replaced (part k text) (runs_of items))) (replaced_none items)
      (one_after (cut_part k text (runs_of items).first e) (cut_others (part k text) (λ run. cut_part k text run e) (runs_of items).others))

  -- all texts cut out in turn
  pub cut_in_turn : (earlier later : List (List ℕ)) (k : ℕ) (items : List Item) → texts ≡ earlier ++ later → k ≡ suc (length earlier) →
      IsCut texts items (segmented_from k later items)
  cut_in_turn earlier [] k items e n = same_items items
  cut_in_turn earlier (text ∷ later) k items e n =
      let here : text_numbered k texts ≡ text =
      ap (λ j. text_numbered j texts) n ∙ ap (λ t. get_or t (length earlier) []) e ∙ get_or_at earlier text later [] (length earlier) refl in
      cut_again
      (cut_in_turn (earlier ++ text ∷ []) later (k + 1) (cut_out k text items) (e ∙ sym (append_assoc earlier (text ∷ []) later))
      (omega (arith, n, length-append earlier (text ∷ []))))
      items (cut_once k text items here)

pub segmented_is_cut : (texts : List (List ℕ)) (form : Form) → IsCut texts (all_items form) (all_items (segmented texts form))
segmented_is_cut texts form = cut_in_turn texts [] texts 1 (all_items form) refl refl

-- ---- which gaps are made

abbrev made_first : ℕ → ℕ → List CutGap → List CutGap
made_first place k cut = record { place = place; ordinal = k } ∷ cut

-- a gap in place of a text is made
pub between_made : (place k : ℕ) (text : List ℕ) (old new : List Item) → 0 < length text →
    cut_between place (as_items text ++ old) (Gap k (length text) ∷ new) ≡ record { place = place; ordinal = k } ∷ cut_between (place + 1) old new
between_made place k text old new some =
    ap (λ (b : Bool). if b then cut_between (place + 1) (drop 1 (as_items text ++ old)) new else record { place = place; ordinal = k } ∷ cut_between (place + 1) (drop (length text) (as_items text ++ old)) new)
    (no_gap text old some)
    ∙ ap (λ (xs : List Item). made_first place k (cut_between (place + 1) xs new)) (drop_at (as_items text) old (length text) (length-as_items text))

pub between_kept : (place : ℕ) (item : Item) (old new : List Item) → cut_between place (item ∷ old) (item ∷ new) ≡ cut_between (place + 1) old new
between_kept place (Byte b) old new = refl
between_kept place (Gap k w) old new = refl

-- ---- how many they are

gaps_in_text : (text : List ℕ) (rest : List Item) → gap_count (as_items text ++ rest) ≡ gap_count rest
gaps_in_text [] rest = refl
gaps_in_text (b ∷ text) rest = gaps_in_text text rest

gap_more : (item : Item) (xs ys : List Item) (n : ℕ) → gap_count ys ≡ gap_count xs + n → gap_count (item ∷ ys) ≡ gap_count (item ∷ xs) + n
gap_more (Byte b) xs ys n h = h
gap_more (Gap k w) xs ys n h = omega (arith, h)

pub counted : (texts : List (List ℕ)) (place : ℕ) {old new : List Item} → IsCut texts old new → gap_count new ≡ gap_count old + length (cut_between place old new)
counted texts place done = omega arith
counted texts place (kept {item = item} {old = old} {new = new} h) =
    gap_more item old new (length (cut_between (place + 1) old new)) (counted texts (place + 1) h)
    ∙ ap (λ (cut : List CutGap). gap_count (item ∷ old) + length cut) (sym (between_kept place item old new))
counted texts place (made k {old = old} {new = new} some h) =
    omega (
      arith,
      counted texts (place + 1) h,
      gaps_in_text (text_numbered k texts) old,
      ap length (between_made place k (text_numbered k texts) old new some),
    )

pub count_is : (texts : List (List ℕ)) (form : Form) → gap_count (all_items (segmented texts form)) ≡ gap_count (all_items form) + length (cut_of texts form)
count_is texts form = counted texts 0 (segmented_is_cut texts form)

pub made_is : (texts : List (List ℕ)) (form : Form) → length (cut_of texts form) ≡ gaps_made texts form
made_is texts form = omega (arith, count_is texts form)

-- ---- how they are filled again

-- the first of these gaps, if there is one, is at this place or after it
abbrev IsFrom : ℕ → List CutGap → Type 0
IsFrom place [] = Unit
IsFrom place (gap ∷ cut) = place ≤ gap.place

from_earlier : (place : ℕ) (cut : List CutGap) → IsFrom (place + 1) cut → IsFrom place cut
from_earlier place [] h = tt
from_earlier place (gap ∷ cut) h = omega (arith, h)

pub between_from : (texts : List (List ℕ)) (place : ℕ) {old new : List Item} → IsCut texts old new → IsFrom place (cut_between place old new)
between_from texts place done = tt
between_from texts place (kept {item = item} {old = old} {new = new} h) =
    subst (IsFrom place) (sym (between_kept place item old new)) (from_earlier place (cut_between (place + 1) old new) (between_from texts (place + 1) h))
between_from texts place (made k {old = old} {new = new} some h) =
    let here : place ≤ place = omega arith in
    subst (IsFrom place) (sym (between_made place k (text_numbered k texts) old new some)) here

-- an item before the first gap stays
pub pass_item : (texts : List (List ℕ)) (place : ℕ) (cut : List CutGap) (item : Item) (items : List Item) → IsFrom (place + 1) cut →
    joined_from texts place cut (item ∷ items) ≡ option_map (λ rest. item ∷ rest) (joined_from texts (place + 1) cut items)
pass_item texts place [] item items h = refl
pass_item texts place (gap ∷ cut) item items h =
    ap (λ (b : Bool). if b
    then option_and_then (λ text. option_map (λ rest. as_items text ++ rest) (joined_from texts (place + 1) cut items)) (fitting texts gap.ordinal item)
    else option_map (λ rest. item ∷ rest) (joined_from texts (place + 1) (gap ∷ cut) items))
    (ne_eqb place gap.place (λ e. absurd (omega (arith, e, h))))

-- a gap in place of a text fits it
fitting_is : (texts : List (List ℕ)) (k : ℕ) (text : List ℕ) → text_numbered k texts ≡ text → 0 < length text → fitting texts k (Gap k (length text)) ≡ Some text
fitting_is texts k text e some =
    ap (λ (t : List ℕ). then_some (k == k && (length text == length t && nat_le 1 (length text))) t) e
    ∙ ap (λ (b : Bool). then_some b text)
    (and_from (k == k) (length text == length text && nat_le 1 (length text)) (eq-eqb k k refl)
    (and_from (length text == length text) (nat_le 1 (length text)) (eq-eqb (length text) (length text) refl) (le-leb 1 (length text) some)))

-- and is filled with it
pub fill_made : (texts : List (List ℕ)) (place k : ℕ) (text : List ℕ) (cut : List CutGap) (items : List Item) → text_numbered k texts ≡ text → 0 < length text →
    joined_from texts place (made_first place k cut) (Gap k (length text) ∷ items) ≡ option_map (λ rest. as_items text ++ rest) (joined_from texts (place + 1) cut items)
fill_made texts place k text cut items e some =
    ap (λ (b : Bool). if b
    then option_and_then (λ t. option_map (λ rest. as_items t ++ rest) (joined_from texts (place + 1) cut items)) (fitting texts k (Gap k (length text)))
    else option_map (λ rest. Gap k (length text) ∷ rest) (joined_from texts (place + 1) (made_first place k cut) items))
    (eq-eqb place place refl)
    ∙ ap (option_and_then (λ t. option_map (λ rest. as_items t ++ rest) (joined_from texts (place + 1) cut items))) (fitting_is texts k text e some)

pub joined_back : (texts : List (List ℕ)) (place : ℕ) {old new : List Item} → IsCut texts old new → joined_from texts place (cut_between place old new) new ≡ Some old
joined_back texts place done = refl
joined_back texts place (kept {item = item} {old = old} {new = new} h) =
    ap (λ (cut : List CutGap). joined_from texts place cut (item ∷ new)) (between_kept place item old new)
    ∙ pass_item texts place (cut_between (place + 1) old new) item new (between_from texts (place + 1) h)
    ∙ ap (option_map (λ (rest : List Item). item ∷ rest)) (joined_back texts (place + 1) h)
joined_back texts place (made k {old = old} {new = new} some h) =
    let text = text_numbered k texts in
    ap (λ (cut : List CutGap). joined_from texts place cut (Gap k (length text) ∷ new)) (between_made place k text old new some)
    ∙ fill_made texts place k text (cut_between (place + 1) old new) new refl some
    ∙ ap (option_map (λ (rest : List Item). as_items text ++ rest)) (joined_back texts (place + 1) h)

pub cut_joined : (texts : List (List ℕ)) (form : Form) → joined texts (cut_of texts form) (all_items (segmented texts form)) ≡ Some (all_items form)
cut_joined texts form = joined_back texts 0 (segmented_is_cut texts form)

-- ---- whatever is filled was cut out

-- an item that fits is a gap as wide as its text
pub fits_gap : (texts : List (List ℕ)) (k : ℕ) (item : Item) (text : List ℕ) → fitting texts k item ≡ Some text →
    (text_numbered k texts ≡ text) × (item ≡ Gap k (length text)) × (0 < length text)
fits_gap texts k (Byte b) text h = absurd cc
fits_gap texts k (Gap ordinal width) text h = by_test (ordinal == k && (width == length named && nat_le 1 width)) refl h
  where
    named : List ℕ
    named = text_numbered k texts

    by_test : (b : Bool) → (ordinal == k && (width == length named && nat_le 1 width)) ≡ b → then_some b named ≡ Some text →
        (named ≡ text) × (Gap ordinal width ≡ Gap k (length text)) × (0 < length text)
    by_test false e h = absurd cc
    by_test true e h =
        let parts = and_parts (ordinal == k) (width == length named && nat_le 1 width) e in
        let widths = and_parts (width == length named) (nat_le 1 width) parts.1 in
        let same : named ≡ text = same_Some named text h in
        let number : ordinal ≡ k = eqb-true ordinal k parts.0 in
        let wide : width ≡ length text = eqb-true width (length named) widths.0 ∙ ap length same in
        let some : 0 < length text = omega (arith, wide, leb-true 1 width widths.1) in
        (same, ap (λ (o : ℕ). Gap o width) number ∙ ap (λ (w : ℕ). Gap k w) wide, some)

-- what a mapped list was
pub mapped_some : (f : List Item → List Item) (o : Option (List Item)) (after : List Item) → option_map f o ≡ Some after → (rest : List Item) × (o ≡ Some rest) × (f rest ≡ after)
mapped_some f None after h = absurd cc
mapped_some f (Some rest) after h = (rest, refl, same_Some (f rest) after h)

-- one item of what is filled, where what is after it was cut out
filled_first : (texts : List (List ℕ)) (place : ℕ) (gap : CutGap) (cut : List CutGap) (item : Item) (items before : List Item) (here : Bool) →
    ((rest : List Item) → joined_from texts (place + 1) cut items ≡ Some rest → IsCut texts rest items) →
    ((rest : List Item) → joined_from texts (place + 1) (gap ∷ cut) items ≡ Some rest → IsCut texts rest items) →
    (if here
    then option_and_then (λ text. option_map (λ rest. as_items text ++ rest) (joined_from texts (place + 1) cut items)) (fitting texts gap.ordinal item)
    else option_map (λ rest. item ∷ rest) (joined_from texts (place + 1) (gap ∷ cut) items)) ≡ Some before →
    IsCut texts before (item ∷ items)
filled_first texts place gap cut item items before true after further h =
    option_and_then_some (λ text. option_map (λ rest. as_items text ++ rest) (joined_from texts (place + 1) cut items)) (fitting texts gap.ordinal item) before h (λ text fits there.
    let named = fits_gap texts gap.ordinal item text fits in
    let rest = mapped_some (λ (xs : List Item). as_items text ++ xs) (joined_from texts (place + 1) cut items) before there in
    let gap_made : IsCut texts (as_items text ++ rest.0) (Gap gap.ordinal (length text) ∷ items) =
    subst (λ (t : List ℕ). IsCut texts (as_items t ++ rest.0) (Gap gap.ordinal (length t) ∷ items)) named.0
    (made gap.ordinal (subst (λ (t : List ℕ). 0 < length t) (sym named.0) named.2) (after rest.0 rest.1)) in
    subst (λ (xs : List Item). IsCut texts xs (item ∷ items)) rest.2
    (subst (λ (i : Item). IsCut texts (as_items text ++ rest.0) (i ∷ items)) (sym named.1) gap_made))
filled_first texts place gap cut item items before false after further h =
    let rest = mapped_some (λ (xs : List Item). item ∷ xs) (joined_from texts (place + 1) (gap ∷ cut) items) before h in
    subst (λ (xs : List Item). IsCut texts xs (item ∷ items)) rest.2 (kept (further rest.0 rest.1))

-- what filling the gaps of a cut gives had these cut out
pub joined_is_cut : (texts : List (List ℕ)) (place : ℕ) (cut : List CutGap) (items before : List Item) → joined_from texts place cut items ≡ Some before → IsCut texts before items
joined_is_cut texts place [] items before h = subst (λ (xs : List Item). IsCut texts xs items) (same_Some items before h) (same_items texts items)
joined_is_cut texts place (gap ∷ cut) [] before h = absurd cc
joined_is_cut texts place (gap ∷ cut) (item ∷ items) before h =
    filled_first texts place gap cut item items before (place == gap.place)
    (λ rest r. joined_is_cut texts (place + 1) cut items rest r) (λ rest r. joined_is_cut texts (place + 1) (gap ∷ cut) items rest r) h

-- ---- the extent

pub cut_extent : (texts : List (List ℕ)) {old new : List Item} → IsCut texts old new → extent old ≡ extent new
cut_extent texts done = refl
cut_extent texts (kept {item = item} h) = ap (λ (n : ℕ). width_of item + n) (cut_extent texts h)
cut_extent texts (made k {old = old} some h) =
    omega (arith, extent-append (as_items (text_numbered k texts)) old, extent-as_items (text_numbered k texts), cut_extent texts h)

pub cut_wide : (texts : List (List ℕ)) {old new : List Item} → IsCut texts old new → All IsWide new → All IsWide old
cut_wide texts done w = w
cut_wide texts (kept {item = item} {old = old} {new = new} h) w =
    All-cons IsWide item old (All-head IsWide item new w) (cut_wide texts h (All-tail IsWide item new w))
cut_wide texts (made k {old = old} {new = new} some h) w =
    let text = text_numbered k texts in
    All-append IsWide (as_items text) old (wide-as_items text) (cut_wide texts h (All-tail IsWide (Gap k (length text)) new w))

pub joined_extent : (texts : List (List ℕ)) (cut : List CutGap) (items before : List Item) → joined texts cut items ≡ Some before → extent before ≡ extent items
joined_extent texts cut items before h = cut_extent texts (joined_is_cut texts 0 cut items before h)

pub joined_wide : (texts : List (List ℕ)) (cut : List CutGap) (items before : List Item) → joined texts cut items ≡ Some before → All IsWide items → All IsWide before
joined_wide texts cut items before h = cut_wide texts (joined_is_cut texts 0 cut items before h)
