-- Segmenting, as equations of one cut.
use Rattle.std.proofs.Common.{◌≡◌, ℕ, zero, suc, ◌+◌, ◌<◌, ◌≤◌, true, false, List, [], ◌∷◌, ◌++◌, length, take, drop, get_or, refl, sym, ap, ◌∙◌, arith, ⊎_elim}
use Rattle.std.specs.Prelude.{Option, None, Some}
use Rattle.std.specs.List.{All, flat_map}
use Rattle.std.proofs.lemmas.Bool.{false_from_ne_true, cases_eq}
use Rattle.std.proofs.lemmas.List.{append_assoc, append-nil, drop-drop, drop_at, take_at, take-append-drop, length-append, nil_from_length, length-take, get_or_at}
use Rattle.std.proofs.lemmas.List.Elements.{All-nil, All-cons, All-append, All-head, All-tail}
use Rattle.std.proofs.lemmas.Slice.Eq.{bytes_eq-Decides}
use Rattle.trac_rules.specs.declared.item.Item.{Item}
use Rattle.trac_rules.specs.declared.item.Item.TheVariants.{Byte, Gap}
use Rattle.trac_rules.specs.Form.{Form, all_items, as_items, width_of, IsWide, extent}
use Rattle.trac_rules.specs.Filling.{text_numbered, filled, all_filled}
use Rattle.trac_rules.specs.Segmenting.{stands_at, leftmost, cut_at, cut_up_to, part, Runs, byte_before, runs_of, replaced, cut_out, segmented_from, segmented}
use Rattle.trac_rules.proofs.Balanced.{first_place_some, first_place_none, first_place_cases}

-- ---- where a text stands

pub stands_after : (text front back : List ℕ) → stands_at text (front ++ (text ++ back)) (length front) ≡ true
stands_after text front back =
    let here : drop (length front) (front ++ (text ++ back)) ≡ text ++ back = drop_at front (text ++ back) (length front) refl in
    let there : take (length text) (text ++ back) ≡ text = take_at text back (length text) refl in
    (bytes_eq-Decides (take (length text) (drop (length front) (front ++ (text ++ back)))) text).1 (ap (take (length text)) here ∙ there)

pub split_at : (text run : List ℕ) (place : ℕ) → stands_at text run place ≡ true → run ≡ take place run ++ (text ++ drop (place + length text) run)
split_at text run place h =
    let here : take (length text) (drop place run) ≡ text = (bytes_eq-Decides (take (length text) (drop place run)) text).0 h in
    let after : drop place run ≡ text ++ drop (place + length text) run =
    sym (take-append-drop (length text) (drop place run))
    ∙ ap (λ t. t ++ drop (length text) (drop place run)) here
    ∙ ap (λ r. text ++ r) (drop-drop (length text) place run) in
    sym (take-append-drop place run) ∙ ap (λ r. take place run ++ r) after

-- a place at which the text stands, with none before it, is the leftmost
pub leftmost_some : (text run : List ℕ) (place : ℕ) → place ≤ length run → stands_at text run place ≡ true → ((j : ℕ) → j < place → stands_at text run j ≡ false) →
    leftmost text run ≡ Some place
leftmost_some text run place l is before = first_place_some (stands_at text run) (length run + 1) place (omega arith) is before

pub leftmost_none : (text run : List ℕ) → ((j : ℕ) → j ≤ length run → stands_at text run j ≡ false) → leftmost text run ≡ None
leftmost_none text run none = first_place_none (stands_at text run) (length run + 1) (λ j l. none j (omega arith))

pub leftmost_stands : (text run : List ℕ) (place : ℕ) → leftmost text run ≡ Some place → stands_at text run place ≡ true
leftmost_stands text run place h =
    ⊎_elim
    (λ (none : (k : ℕ) → k < length run + 1 → stands_at text run k ≡ false).
    absurd (let e : leftmost text run ≡ None = first_place_none (stands_at text run) (length run + 1) none in cc))
    (λ (some : (k : ℕ) × (k < length run + 1) × (stands_at text run k ≡ true) × ((j : ℕ) → j < k → stands_at text run j ≡ false)).
    let e : leftmost text run ≡ Some some.0 = first_place_some (stands_at text run) (length run + 1) some.0 some.1 some.2 some.3 in
    let same : some.0 ≡ place = cc in
    ap (stands_at text run) (sym same) ∙ some.2)
    (first_place_cases (stands_at text run) (length run + 1))

-- a run is as long as what is before a leftmost place, the text, and what is after it
leftmost_length : (text run : List ℕ) (place : ℕ) → leftmost text run ≡ Some place →
    length run ≡ length (take place run) + (length text + length (drop (place + length text) run))
leftmost_length text run place h =
    let front = take place run in
    let back = drop (place + length text) run in
    omega (
      arith,
      ap length (split_at text run place (leftmost_stands text run place h)),
      length-append front (text ++ back),
      length-append text back,
    )

-- ---- one run

-- two ways to go on that agree after the cut give the same
pub cut_at_same : (o : Option ℕ) (k : ℕ) (text run : List ℕ) (cut cut' : List ℕ → List Item) →
    ((place : ℕ) → o ≡ Some place → cut (drop (place + length text) run) ≡ cut' (drop (place + length text) run)) → cut_at o k text run cut ≡ cut_at o k text run cut'
cut_at_same None k text run cut cut' same = refl
cut_at_same (Some place) k text run cut cut' same = ap (λ r. as_items (take place run) ++ Gap k (length text) ∷ r) (same place refl)

pub cut_up_to_nil : (n k : ℕ) (text : List ℕ) → 0 < length text → cut_up_to n k text [] ≡ []
cut_up_to_nil zero k text some = refl
cut_up_to_nil (suc n) k text some = go (leftmost text []) refl
  where
    go : (o : Option ℕ) → leftmost text [] ≡ o → cut_at o k text [] (cut_up_to n k text) ≡ []
    go None h = refl
    go (Some place) h = absurd (omega (arith, some, leftmost_length text [] place h))

pub cut_up_to_enough : (n m k : ℕ) (text run : List ℕ) → 0 < length text → length run ≤ n → length run ≤ m → cut_up_to n k text run ≡ cut_up_to m k text run
cut_up_to_enough zero m k text run some l r =
    let nothing : run ≡ [] = nil_from_length run (omega arith) in
    rw nothing (sym (cut_up_to_nil m k text some))
cut_up_to_enough (suc n) zero k text run some l r =
    let nothing : run ≡ [] = nil_from_length run (omega arith) in
    rw nothing (cut_up_to_nil (suc n) k text some)
cut_up_to_enough (suc n) (suc m) k text run some l r =
    cut_at_same (leftmost text run) k text run (cut_up_to n k text) (cut_up_to m k text)
    (λ place h.
    let shorter = leftmost_length text run place h in
    cut_up_to_enough n m k text (drop (place + length text) run) some (omega (arith, some, shorter)) (omega (arith, some, shorter)))

pub part_is : (k : ℕ) (text run : List ℕ) → 0 < length text → part k text run ≡ cut_at (leftmost text run) k text run (part k text)
unfolding part
part_is k [] run some = absurd (omega arith)
part_is k (b ∷ text) run some =
    cut_up_to_enough (length run) (suc (length run)) k (b ∷ text) run some (omega arith) (omega arith)
    ∙ cut_at_same (leftmost (b ∷ text) run) k (b ∷ text) run (cut_up_to (length run) k (b ∷ text)) (λ r. cut_up_to (length r) k (b ∷ text) r)
    (λ place h. cut_up_to_enough (length run) (length (drop (place + length (b ∷ text)) run)) k (b ∷ text) (drop (place + length (b ∷ text)) run) some
    (omega (arith, leftmost_length (b ∷ text) run place h)) (omega arith))

-- the leftmost occurrence is cut first
pub part_found : (k : ℕ) (text front back : List ℕ) → (text ≡ [] → ⊥) →
    ((sooner rest : List ℕ) → front ++ (text ++ back) ≡ sooner ++ (text ++ rest) → length front ≤ length sooner) →
    part k text (front ++ (text ++ back)) ≡ as_items front ++ Gap k (length text) ∷ part k text back
part_found k text front back some first =
    part_is k text (front ++ (text ++ back)) long
    ∙ ap (λ (o : Option ℕ). cut_at o k text (front ++ (text ++ back)) (part k text)) found
    ∙ ap (λ f. as_items f ++ Gap k (length text) ∷ part k text (drop (length front + length text) (front ++ (text ++ back)))) (take_at front (text ++ back) (length front) refl)
    ∙ ap (λ r. as_items front ++ Gap k (length text) ∷ part k text r) after
  where
    long : 0 < length text
    long = ⊎_elim (λ (e : length text ≡ 0). absurd (some (nil_from_length text e))) (λ (ne : length text ≡ 0 → ⊥). omega arith) (cases_eq (length text) 0)

    before : (j : ℕ) → j < length front → stands_at text (front ++ (text ++ back)) j ≡ false
    before j l = false_from_ne_true (stands_at text (front ++ (text ++ back)) j) (λ t.
        let sooner = first (take j (front ++ (text ++ back))) (drop (j + length text) (front ++ (text ++ back))) (split_at text (front ++ (text ++ back)) j t) in
        absurd (omega (arith, sooner, l, length-take j (front ++ (text ++ back)))))

    found : leftmost text (front ++ (text ++ back)) ≡ Some (length front)
    found = leftmost_some text (front ++ (text ++ back)) (length front)
        (omega (arith, length-append front (text ++ back))) (stands_after text front back) before

    after : drop (length front + length text) (front ++ (text ++ back)) ≡ back
    after = sym (drop-drop (length text) (length front) (front ++ (text ++ back)))
        ∙ ap (drop (length text)) (drop_at front (text ++ back) (length front) refl)
        ∙ drop_at text back (length text) refl

pub part_null : (k : ℕ) (run : List ℕ) → part k [] run ≡ as_items run
unfolding part
part_null k run = refl

pub part_without : (k : ℕ) (text run : List ℕ) → ((front back : List ℕ) → run ≡ front ++ (text ++ back) → ⊥) → part k text run ≡ as_items run
part_without k [] run none = part_null k run
part_without k (b ∷ text) run none =
    part_is k (b ∷ text) run (omega arith)
    ∙ ap (λ (o : Option ℕ). cut_at o k (b ∷ text) run (part k (b ∷ text)))
    (leftmost_none (b ∷ text) run (λ j l. false_from_ne_true (stands_at (b ∷ text) run j) (λ t. none (take j run) (drop (j + length (b ∷ text)) run) (split_at (b ∷ text) run j t))))

-- ---- runs and gaps

-- bytes before items are bytes before their first run
pub runs_of-bytes : (run : List ℕ) (items : List Item) → runs_of (as_items run ++ items) ≡ record { first = run ++ (runs_of items).first; others = (runs_of items).others }
runs_of-bytes [] items = refl
runs_of-bytes (b ∷ run) items = ap (byte_before b) (runs_of-bytes run items)

-- a run before a gap is cut by itself
pub cut_out_gap : (k ordinal width : ℕ) (text run : List ℕ) (items : List Item) →
    cut_out k text (as_items run ++ Gap ordinal width ∷ items) ≡ part k text run ++ Gap ordinal width ∷ cut_out k text items
unfolding cut_out
cut_out_gap k ordinal width text run items =
    ap (replaced (part k text)) (runs_of-bytes run (Gap ordinal width ∷ items))
    ∙ ap (λ (r : List ℕ). part k text r ++ flat_map (λ gap. gap.0 ∷ part k text gap.1) ((Gap ordinal width, (runs_of items).first) ∷ (runs_of items).others)) (append-nil run)

pub cut_out_last : (k : ℕ) (text run : List ℕ) → cut_out k text (as_items run) ≡ part k text run
unfolding cut_out
cut_out_last k text run =
    ap (λ (items : List Item). replaced (part k text) (runs_of items)) (sym (append-nil (as_items run)))
    ∙ ap (replaced (part k text)) (runs_of-bytes run [])
    ∙ append-nil (part k text (run ++ []))
    ∙ ap (part k text) (append-nil run)

pub replaced_none : (items : List Item) → replaced as_items (runs_of items) ≡ items
replaced_none [] = refl
replaced_none (Byte b ∷ items) = ap (λ (r : List Item). Byte b ∷ r) (replaced_none items)
replaced_none (Gap ordinal width ∷ items) = ap (λ (r : List Item). Gap ordinal width ∷ r) (replaced_none items)

-- ---- the extent

pub extent-append : (xs ys : List Item) → extent (xs ++ ys) ≡ extent xs + extent ys
extent-append [] ys = omega arith
extent-append (x ∷ xs) ys = omega (arith, extent-append xs ys)

pub extent-as_items : (text : List ℕ) → extent (as_items text) ≡ length text
extent-as_items [] = refl
extent-as_items (b ∷ text) = omega (arith, extent-as_items text)

-- a run cut at a place stands for as many bytes as before, where what is after the cut does
extent-cut_at : (o : Option ℕ) (k : ℕ) (text run : List ℕ) (cut : List ℕ → List Item) → leftmost text run ≡ o → ((r : List ℕ) → extent (cut r) ≡ length r) →
    extent (cut_at o k text run cut) ≡ length run
extent-cut_at None k text run cut h keeps = extent-as_items run
extent-cut_at (Some place) k text run cut h keeps =
    let front = take place run in
    let back = drop (place + length text) run in
    omega (
      arith,
      extent-append (as_items front) (Gap k (length text) ∷ cut back),
      extent-as_items front,
      keeps back,
      leftmost_length text run place h,
    )

pub extent-cut_up_to : (n k : ℕ) (text run : List ℕ) → extent (cut_up_to n k text run) ≡ length run
extent-cut_up_to zero k text run = extent-as_items run
extent-cut_up_to (suc n) k text run = extent-cut_at (leftmost text run) k text run (cut_up_to n k text) refl (extent-cut_up_to n k text)

pub extent-part : (k : ℕ) (text run : List ℕ) → extent (part k text run) ≡ length run
unfolding part
extent-part k [] run = extent-as_items run
extent-part k (b ∷ text) run = extent-cut_up_to (length run) k (b ∷ text) run

-- how many bytes runs with their gaps stand for
abbrev runs_extent : List (Item × List ℕ) → ℕ
runs_extent [] = 0
runs_extent (gap ∷ others) = width_of gap.0 + length gap.1 + runs_extent others

-- what keeps the length of each run keeps the extent of all
pub extent-replaced : (cut : List ℕ → List Item) → ((run : List ℕ) → extent (cut run) ≡ length run) → (r : Runs) → extent (replaced cut r) ≡ length r.first + runs_extent r.others
extent-replaced cut keeps r =
    omega (arith, extent-append (cut r.first) (flat_map (λ gap. gap.0 ∷ cut gap.1) r.others), keeps r.first, others r.others)
  where
    others : (gaps : List (Item × List ℕ)) → extent (flat_map (λ gap. gap.0 ∷ cut gap.1) gaps) ≡ runs_extent gaps
    others [] = refl
    others (gap ∷ gaps) =
        omega (arith, extent-append (cut gap.1) (flat_map (λ g. g.0 ∷ cut g.1) gaps), keeps gap.1, others gaps)

pub extent-cut_out : (k : ℕ) (text : List ℕ) (items : List Item) → extent (cut_out k text items) ≡ extent items
unfolding cut_out
extent-cut_out k text items =
    extent-replaced (part k text) (extent-part k text) (runs_of items)
    ∙ sym (extent-replaced as_items extent-as_items (runs_of items))
    ∙ ap extent (replaced_none items)

pub extent-segmented_from : (k : ℕ) (texts : List (List ℕ)) (items : List Item) → extent (segmented_from k texts items) ≡ extent items
extent-segmented_from k [] items = refl
extent-segmented_from k (text ∷ texts) items = extent-segmented_from (k + 1) texts (cut_out k text items) ∙ extent-cut_out k text items

pub extent-segmented : (texts : List (List ℕ)) (form : Form) → extent (all_items (segmented texts form)) ≡ extent (all_items form)
extent-segmented texts form = extent-segmented_from 1 texts (all_items form)

-- ---- widths

pub wide-as_items : (text : List ℕ) → All IsWide (as_items text)
wide-as_items [] = All-nil IsWide
wide-as_items (b ∷ text) = All-cons IsWide (Byte b) (as_items text) (omega arith) (wide-as_items text)

wide-cut_at : (o : Option ℕ) (k : ℕ) (text run : List ℕ) (cut : List ℕ → List Item) → 0 < length text → ((r : List ℕ) → All IsWide (cut r)) → All IsWide (cut_at o k text run cut)
wide-cut_at None k text run cut some wide = wide-as_items run
wide-cut_at (Some place) k text run cut some wide =
    All-append IsWide (as_items (take place run)) (Gap k (length text) ∷ cut (drop (place + length text) run)) (wide-as_items (take place run))
    (All-cons IsWide (Gap k (length text)) (cut (drop (place + length text) run)) (omega arith) (wide (drop (place + length text) run)))

wide-cut_up_to : (n k : ℕ) (text run : List ℕ) → 0 < length text → All IsWide (cut_up_to n k text run)
wide-cut_up_to zero k text run some = wide-as_items run
wide-cut_up_to (suc n) k text run some = wide-cut_at (leftmost text run) k text run (cut_up_to n k text) some (λ r. wide-cut_up_to n k text r some)

pub wide-part : (k : ℕ) (text run : List ℕ) → All IsWide (part k text run)
unfolding part
wide-part k [] run = wide-as_items run
wide-part k (b ∷ text) run = wide-cut_up_to (length run) k (b ∷ text) run (omega arith)

wide-runs_of : (items : List Item) → All IsWide items → All (λ (gap : Item × List ℕ). IsWide gap.0) (runs_of items).others
wide-runs_of [] h = All-nil (λ (gap : Item × List ℕ). IsWide gap.0)
wide-runs_of (Byte b ∷ items) h = wide-runs_of items (All-tail IsWide (Byte b) items h)
wide-runs_of (Gap ordinal width ∷ items) h =
    All-cons (λ (gap : Item × List ℕ). IsWide gap.0) (Gap ordinal width, (runs_of items).first) (runs_of items).others
    (All-head IsWide (Gap ordinal width) items h) (wide-runs_of items (All-tail IsWide (Gap ordinal width) items h))

wide-others : (cut : List ℕ → List Item) → ((run : List ℕ) → All IsWide (cut run)) → (others : List (Item × List ℕ)) → All (λ (gap : Item × List ℕ). IsWide gap.0) others →
    All IsWide (flat_map (λ gap. gap.0 ∷ cut gap.1) others)
wide-others cut wide [] h = All-nil IsWide
wide-others cut wide (gap ∷ others) h =
    All-cons IsWide gap.0 (cut gap.1 ++ flat_map (λ g. g.0 ∷ cut g.1) others) (All-head (λ (g : Item × List ℕ). IsWide g.0) gap others h)
    (All-append IsWide (cut gap.1) (flat_map (λ g. g.0 ∷ cut g.1) others) (wide gap.1)
    (wide-others cut wide others (All-tail (λ (g : Item × List ℕ). IsWide g.0) gap others h)))

pub wide-cut_out : (k : ℕ) (text : List ℕ) (items : List Item) → All IsWide items → All IsWide (cut_out k text items)
unfolding cut_out
wide-cut_out k text items h =
    All-append IsWide (part k text (runs_of items).first) (flat_map (λ gap. gap.0 ∷ part k text gap.1) (runs_of items).others)
    (wide-part k text (runs_of items).first) (wide-others (part k text) (wide-part k text) (runs_of items).others (wide-runs_of items h))

pub wide-segmented_from : (k : ℕ) (texts : List (List ℕ)) (items : List Item) → All IsWide items → All IsWide (segmented_from k texts items)
wide-segmented_from k [] items h = h
wide-segmented_from k (text ∷ texts) items h = wide-segmented_from (k + 1) texts (cut_out k text items) (wide-cut_out k text items h)

pub count_within_extent : (items : List Item) → All IsWide items → length items ≤ extent items
count_within_extent [] h = omega arith
count_within_extent (item ∷ items) h = omega (arith, All-head IsWide item items h, count_within_extent items (All-tail IsWide item items h))

-- ---- filling

pub filled-append : (texts : List (List ℕ)) (xs ys : List Item) → all_filled texts (xs ++ ys) ≡ all_filled texts xs ++ all_filled texts ys
filled-append texts [] ys = refl
filled-append texts (x ∷ xs) ys = ap (λ r. filled texts x ++ r) (filled-append texts xs ys) ∙ sym (append_assoc (filled texts x) (all_filled texts xs) (all_filled texts ys))

pub filled-as_items : (texts : List (List ℕ)) (text : List ℕ) → all_filled texts (as_items text) ≡ text
filled-as_items texts [] = refl
filled-as_items texts (b ∷ text) = ap (λ r. b ∷ r) (filled-as_items texts text)

filled-cut_at : (texts : List (List ℕ)) (o : Option ℕ) (k : ℕ) (text run : List ℕ) (cut : List ℕ → List Item) → text_numbered k texts ≡ text → leftmost text run ≡ o →
    ((r : List ℕ) → all_filled texts (cut r) ≡ r) → all_filled texts (cut_at o k text run cut) ≡ run
filled-cut_at texts None k text run cut e h fills = filled-as_items texts run
filled-cut_at texts (Some place) k text run cut e h fills =
    let front = take place run in
    let back = drop (place + length text) run in
    filled-append texts (as_items front) (Gap k (length text) ∷ cut back)
    ∙ ap (λ f. f ++ (text_numbered k texts ++ all_filled texts (cut back))) (filled-as_items texts front)
    ∙ ap (λ t. front ++ (t ++ all_filled texts (cut back))) e
    ∙ ap (λ r. front ++ (text ++ r)) (fills back)
    ∙ sym (split_at text run place (leftmost_stands text run place h))

filled-cut_up_to : (texts : List (List ℕ)) (n k : ℕ) (text run : List ℕ) → text_numbered k texts ≡ text → all_filled texts (cut_up_to n k text run) ≡ run
filled-cut_up_to texts zero k text run e = filled-as_items texts run
filled-cut_up_to texts (suc n) k text run e = filled-cut_at texts (leftmost text run) k text run (cut_up_to n k text) e refl (λ r. filled-cut_up_to texts n k text r e)

pub filled-part : (texts : List (List ℕ)) (k : ℕ) (text run : List ℕ) → text_numbered k texts ≡ text → all_filled texts (part k text run) ≡ run
unfolding part
filled-part texts k [] run e = filled-as_items texts run
filled-part texts k (b ∷ text) run e = filled-cut_up_to texts (length run) k (b ∷ text) run e

-- two ways to cut runs that are filled alike fill all alike
pub filled-replaced : (texts : List (List ℕ)) (cut cut' : List ℕ → List Item) → ((run : List ℕ) → all_filled texts (cut run) ≡ all_filled texts (cut' run)) → (r : Runs) →
    all_filled texts (replaced cut r) ≡ all_filled texts (replaced cut' r)
filled-replaced texts cut cut' same r =
    filled-append texts (cut r.first) (flat_map (λ gap. gap.0 ∷ cut gap.1) r.others)
    ∙ ap (λ f. f ++ all_filled texts (flat_map (λ gap. gap.0 ∷ cut gap.1) r.others)) (same r.first)
    ∙ ap (λ f. all_filled texts (cut' r.first) ++ f) (others r.others)
    ∙ sym (filled-append texts (cut' r.first) (flat_map (λ gap. gap.0 ∷ cut' gap.1) r.others))
  where
    others : (gaps : List (Item × List ℕ)) → all_filled texts (flat_map (λ gap. gap.0 ∷ cut gap.1) gaps) ≡ all_filled texts (flat_map (λ gap. gap.0 ∷ cut' gap.1) gaps)
    others [] = refl
    others (gap ∷ gaps) =
        ap (λ r. filled texts gap.0 ++ r)
        (filled-append texts (cut gap.1) (flat_map (λ g. g.0 ∷ cut g.1) gaps)
        ∙ ap (λ f. f ++ all_filled texts (flat_map (λ g. g.0 ∷ cut g.1) gaps)) (same gap.1)
        ∙ ap (λ f. all_filled texts (cut' gap.1) ++ f) (others gaps)
        ∙ sym (filled-append texts (cut' gap.1) (flat_map (λ g. g.0 ∷ cut' g.1) gaps)))

-- filling with the text that was cut out gives what filling gave before
pub filled-cut_out : (texts : List (List ℕ)) (k : ℕ) (text : List ℕ) (items : List Item) → text_numbered k texts ≡ text → all_filled texts (cut_out k text items) ≡ all_filled texts items
unfolding cut_out
filled-cut_out texts k text items e =
    filled-replaced texts (part k text) as_items (λ run. filled-part texts k text run e ∙ sym (filled-as_items texts run)) (runs_of items)
    ∙ ap (all_filled texts) (replaced_none items)

-- and so with all texts
pub filled-segmented_from : (texts earlier later : List (List ℕ)) (k : ℕ) (items : List Item) → texts ≡ earlier ++ later → k ≡ suc (length earlier) →
    all_filled texts (segmented_from k later items) ≡ all_filled texts items
filled-segmented_from texts earlier [] k items e n = refl
filled-segmented_from texts earlier (text ∷ later) k items e n =
    let here : text_numbered k texts ≡ text = ap (λ j. text_numbered j texts) n ∙ ap (λ t. get_or t (length earlier) []) e ∙ get_or_at earlier text later [] (length earlier) refl in
    filled-segmented_from texts (earlier ++ text ∷ []) later (k + 1) (cut_out k text items) (e ∙ sym (append_assoc earlier (text ∷ []) later)) (omega (arith, n, length-append earlier (text ∷ [])))
    ∙ filled-cut_out texts k text items here

pub filled-segmented : (texts : List (List ℕ)) (form : Form) → all_filled texts (all_items (segmented texts form)) ≡ all_filled texts (all_items form)
filled-segmented texts form = filled-segmented_from texts [] texts 1 (all_items form) refl refl

-- ---- empty texts

pub replaced_alike : (cut cut' : List ℕ → List Item) → ((run : List ℕ) → cut run ≡ cut' run) → (r : Runs) → replaced cut r ≡ replaced cut' r
replaced_alike cut cut' same r =
    ap (λ f. f ++ flat_map (λ gap. gap.0 ∷ cut gap.1) r.others) (same r.first) ∙ ap (λ f. cut' r.first ++ f) (others r.others)
  where
    others : (gaps : List (Item × List ℕ)) → flat_map (λ gap. gap.0 ∷ cut gap.1) gaps ≡ flat_map (λ gap. gap.0 ∷ cut' gap.1) gaps
    others [] = refl
    others (gap ∷ gaps) =
        ap (λ f. gap.0 ∷ (f ++ flat_map (λ g. g.0 ∷ cut g.1) gaps)) (same gap.1) ∙ ap (λ f. gap.0 ∷ (cut' gap.1 ++ f)) (others gaps)

pub cut_out_null : (k : ℕ) (items : List Item) → cut_out k [] items ≡ items
unfolding cut_out
cut_out_null k items = replaced_alike (part k []) as_items (part_null k) (runs_of items) ∙ replaced_none items
