-- Items that are passed, and the bytes among them.
use Rattle.std.proofs.Common.{◌≡◌, ℕ, zero, suc, ◌+◌, ◌-◌, ◌<◌, ◌≤◌, true, false, Bool, cond, List, [], ◌∷◌, ◌++◌, length, take, drop, get_or, min, refl, sym, ap, subst, ◌∙◌, arith, ⊎_elim}
use Rattle.std.specs.Prelude.{Option, None, Some, option_map, nat_lt}
use Rattle.std.specs.List.{position, position_or_len}
use Rattle.std.proofs.lemmas.Bool.{cases_lt, eq-eqb, false_from_ne_true, cond-true, cond-false, eqb-true, lt-ltb, ltb-true}
use Rattle.std.proofs.lemmas.List.{append_assoc, append-nil, take_more, take_all, take-append-drop, take-append-le, drop-append-le, length-append}
use Rattle.std.proofs.lemmas.List.Sums.{position_or_len_is}
use Rattle.std.proofs.Math.Seq.{take-append_seam, drop-append_seam, take-append-add}
use Rattle.trac_rules.specs.declared.item.Item.{Item}
use Rattle.trac_rules.specs.declared.item.Item.TheVariants.{Byte, Gap}
use Rattle.trac_rules.specs.Bytes.{last_place}
use Rattle.trac_rules.specs.Form.{Form}
use Rattle.trac_rules.specs.Pieces.{Piece, at_most_all, bytes_in, is_gap, last_bytes, next_bytes, place_before, place_after, place_of_text, read_back, read_on, segment_items, segment_read, until_read, where_any}
use Rattle.trac_rules.proofs.Balanced.{first_place_some}
use Rattle.trac_rules.proofs.Items.{bytes_in-append}
use Rattle.trac_forms.specs.declared.piece.Piece.{Piece as Measured}
use Rattle.trac_forms.specs.Taken.{IsThere, items_from, taken}

-- ---- a measured piece

-- how many bytes there are among items
abbrev pub count : List Item → ℕ
count items = length (bytes_in items)

pub count-append : (xs ys : List Item) → count (xs ++ ys) ≡ count xs + count ys
count-append xs ys = ap length (bytes_in-append xs ys) ∙ length-append (bytes_in xs) (bytes_in ys)

-- all bytes are those up to a place and those after it
pub count-split : (k : ℕ) (items : List Item) → count items ≡ count (take k items) + count (drop k items)
count-split k items = ap count (sym (take-append-drop k items)) ∙ count-append (take k items) (drop k items)

-- no more of them than items
pub count_within_length : (items : List Item) → count items ≤ length items
count_within_length [] = omega arith
count_within_length (Byte b ∷ items) = omega (arith, count_within_length items)
count_within_length (Gap k w ∷ items) = omega (arith, count_within_length items)

-- a number of bytes that is more than a length can say is as good as the greatest length
pub at_most_clamped : (m n most : ℕ) (items : List Item) → m ≡ min n most → length items ≤ most → at_most_all m items ≡ at_most_all n items
at_most_clamped m n most items e l = omega (arith, e, l, count_within_length items)

-- as many bytes on a side are the same piece
pub next_bytes_same : (m n : ℕ) (form : Form) → at_most_all m form.after ≡ at_most_all n form.after → next_bytes m form ≡ next_bytes n form
next_bytes_same m n form e = ap (λ k. where_any (bytes_in form.after) (option_map (λ j. read_on j form) (place_after k form.after))) e

pub last_bytes_same : (m n : ℕ) (form : Form) → at_most_all m form.before ≡ at_most_all n form.before → last_bytes m form ≡ last_bytes n form
last_bytes_same m n form e = ap (λ k. where_any (bytes_in form.before) (option_map (λ j. read_back j form) (place_before k form.before))) e

-- the bytes of the first items come first
pub first_bytes : (k n : ℕ) (items : List Item) → n ≡ count (take k items) → take n (bytes_in items) ≡ bytes_in (take k items)
first_bytes k n items e =
    (λ i. take (e i) (split i)) ∙ take-append_seam (bytes_in (take k items)) (bytes_in (drop k items))
  where
    split : bytes_in items ≡ bytes_in (take k items) ++ bytes_in (drop k items)
    split = ap bytes_in (sym (take-append-drop k items)) ∙ bytes_in-append (take k items) (drop k items)

module _ (form : Form) (piece : Measured) where
  -- ahead: the bytes among the first k items after the pointer, the pointer after the first j
  module _ (k j : ℕ) (before : k ≤ j) (within : j ≤ length form.after) (place : ℕ) (at : place ≡ length form.before + j) (goes : piece.pointer ≡ place)
      (long : piece.len ≡ count (take k form.after)) where
    from_ahead : items_from piece form ≡ form.after
    from_ahead =
        let least : min piece.pointer (length form.before) ≡ length form.before = omega arith in
        ap (λ i. drop i (form.before ++ form.after)) least ∙ drop-append_seam form.before form.after

    pub taken_ahead : taken piece form ≡ record { value = bytes_in (take k form.after); place = place }
    taken_ahead =
        let value : take piece.len (bytes_in (items_from piece form)) ≡ bytes_in (take k form.after) =
        ap (λ xs. take piece.len (bytes_in xs)) from_ahead ∙ first_bytes k piece.len form.after long in
        λ i. record { value = value i; place = goes i }

    pub there_ahead : IsThere form piece
    there_ahead = record {
      pointer = omega (arith, length-append form.before form.after);
      bytes = omega (arith, ap count from_ahead, count-split k form.after);
    }

-- ---- one item more

pub count_next : (items : List Item) (i : ℕ) (d : Item) → i < length items → count (take (i + 1) items) ≡ count (take i items) + count (get_or items i d ∷ [])
count_next items i d l = ap count (take_more items i d l) ∙ count-append (take i items) (get_or items i d ∷ [])

pub count_gap : (item : Item) → is_gap item ≡ true → count (item ∷ []) ≡ 0
count_gap (Byte b) e = cc
count_gap (Gap ordinal width) e = refl

-- the first items have no more bytes than more of them
pub count_grows : (items : List Item) (j k : ℕ) → j ≤ k → count (take j items) ≤ count (take k items)
count_grows items zero k h = omega arith
count_grows [] (suc j) zero h = elim h [ ]
count_grows [] (suc j) (suc k) h = omega arith
count_grows (item ∷ items) (suc j) zero h = elim h [ ]
count_grows (item ∷ items) (suc j) (suc k) h =
    omega (arith, count-append (item ∷ []) (take j items), count-append (item ∷ []) (take k items), count_grows items j k (omega arith))

pub count_falls : (items : List Item) (j k : ℕ) → j ≤ k → count (drop k items) ≤ count (drop j items)
count_falls items j k h = omega (arith, count-split j items, count-split k items, count_grows items j k h)

-- ---- the place after the first n bytes, and the place before the last n

-- a place with so many bytes before it, and with fewer before each earlier one, is the first such
pub place_after_is : (n place : ℕ) (items : List Item) → place ≤ length items → count (take place items) ≡ n → ((k : ℕ) → k < place → count (take k items) < n) → Some place ≡ place_after n items
place_after_is n place items within here before =
    sym (first_place_some _ (length items + 1) place (omega arith) (eq-eqb (count (take place items)) n here)
    (λ k l. false_from_ne_true _ (λ e. absurd (let same = eqb-true (count (take k items)) n e in let less = before k l in omega arith))))

last_place_some : (passes : ℕ → Bool) (n k : ℕ) → k < n → passes k ≡ true → ((j : ℕ) → k < j → j < n → passes j ≡ false) → last_place passes n ≡ Some k
last_place_some passes zero k l here after = absurd (omega arith)
last_place_some passes (suc n) k l here after =
    ⊎_elim
    (λ (less : k < n).
    cond-false (passes n) (Some n) (last_place passes n) (after n less (omega arith)) ∙ last_place_some passes n k less here (λ j a b. after j a (omega arith)))
    (λ (more : n ≤ k).
    let same : k ≡ n = omega arith in
    cond-true (passes n) (Some n) (last_place passes n) (subst (λ m. passes m ≡ true) same here) ∙ ap Some (sym same))
    (cases_lt k n)

-- a place with so many bytes after it, and with fewer after each later one, is the last such
pub place_before_is : (n place : ℕ) (items : List Item) → place ≤ length items → count (drop place items) ≡ n → ((k : ℕ) → place < k → k ≤ length items → count (drop k items) < n) →
    Some place ≡ place_before n items
place_before_is n place items within here after =
    sym (last_place_some _ (length items + 1) place (omega arith) (eq-eqb (count (drop place items)) n here)
    (λ k l m. false_from_ne_true _ (λ e. absurd (let same = eqb-true (count (drop k items)) n e in let less = after k l (omega arith) in omega arith))))

-- ---- what is read, by what was reached

-- where there is something
pub any_there : {A : Type 0} (xs : List A) (piece : Option Piece) → (length xs ≡ 0 → ⊥) → where_any xs piece ≡ piece
any_there [] piece some = absurd (some refl)
any_there (x ∷ xs) piece some = refl

module _ (n : ℕ) (form : Form) (some : 0 < n) where
  -- a byte at least
  pub something_next : (k : ℕ) (piece : Piece) → (at_most_all n form.after ≡ 0 → ⊥) → Some k ≡ place_after (at_most_all n form.after) form.after → piece ≡ read_on k form →
      Some piece ≡ next_bytes n form
  something_next k piece bytes reached e =
      ap Some e
      ∙ ap (option_map (λ j. read_on j form)) reached
      ∙ sym (any_there (bytes_in form.after) (option_map (λ j. read_on j form) (place_after (at_most_all n form.after) form.after)) (λ none. bytes (omega arith)))

-- ---- the first segment

-- a gap with no gap before it is the first
pub segment_to_gap : (items : List Item) (i : ℕ) (d : Item) → i < length items → ((k : ℕ) → k < i → is_gap (get_or items k d) ≡ false) → is_gap (get_or items i d) ≡ true →
    i + 1 ≡ segment_items (position is_gap items) items
segment_to_gap items i d l before here =
    let first : position_or_len is_gap items ≡ i = position_or_len_is is_gap items i d (omega arith) before (λ _. here) in
    let found : position is_gap items ≡ Some i =
    ap (λ p. cond (nat_lt p (length items)) (Some p) None) first ∙ cond-true (nat_lt i (length items)) (Some i) None (lt-ltb i (length items) l) in
    ap (λ (p : Option ℕ). segment_items p items) (sym found)

-- without a gap the segment is all
pub segment_whole : (items : List Item) (d : Item) → ((k : ℕ) → k < length items → is_gap (get_or items k d) ≡ false) → length items ≡ segment_items (position is_gap items) items
segment_whole items d before =
    let first : position_or_len is_gap items ≡ length items = position_or_len_is is_gap items (length items) d (omega arith) before (λ l. absurd (omega arith)) in
    let found : position is_gap items ≡ None =
    ap (λ p. cond (nat_lt p (length items)) (Some p) None) first ∙ cond-false (nat_lt (length items) (length items)) (Some (length items)) None (false_from_ne_true _ (λ e. absurd (let less = ltb-true (length items) (length items) e in omega arith))) in
    ap (λ (p : Option ℕ). segment_items p items) (sym found)

-- ---- two lists of items, one after the other

-- the first n bytes of both
pub take_both : (xs ys : List Item) (n put : ℕ) → put ≡ at_most_all n xs → take n (bytes_in xs) ++ take (n - put) (bytes_in ys) ≡ take n (bytes_in (xs ++ ys))
take_both xs ys n put e =
    ⊎_elim
    (λ (few : count xs < n).
    let more : n ≡ count xs + (n - put) = omega arith in
    sym (
    ap (take n) (bytes_in-append xs ys)
    ∙ ap (λ k. take k (bytes_in xs ++ bytes_in ys)) more
    ∙ take-append-add (bytes_in xs) (bytes_in ys) (n - put)
    ∙ ap (λ (bytes : List ℕ). bytes ++ take (n - put) (bytes_in ys)) (sym (take_all n (bytes_in xs) (omega arith)))
    ))
    (λ (many : n ≤ count xs).
    let none : n - put ≡ 0 = omega arith in
    ap (λ k. take n (bytes_in xs) ++ take k (bytes_in ys)) none
    ∙ append-nil (take n (bytes_in xs))
    ∙ sym (ap (take n) (bytes_in-append xs ys) ∙ take-append-le n (bytes_in xs) (bytes_in ys) many))
    (cases_lt (count xs) n)

-- the items before the pointer from a place on, and those after it, are those that a piece is taken from
pub from_both : (form : Form) (piece : Measured) (back : List Item) → back ≡ drop (min piece.pointer (length form.before)) form.before → back ++ form.after ≡ items_from piece form
from_both form piece back e =
    ap (λ (xs : List Item). xs ++ form.after) e ∙ sym (drop-append-le (min piece.pointer (length form.before)) form.before form.after (omega arith))

-- what was put of a piece: the bytes before the pointer, and then those after it
pub piece_added : (form : Form) (piece : Measured) (back : List Item) (put : ℕ) (old middle new : List ℕ) → back ≡ drop (min piece.pointer (length form.before)) form.before →
    put ≡ at_most_all piece.len back → middle ≡ old ++ take piece.len (bytes_in back) → new ≡ middle ++ take (piece.len - put) (bytes_in form.after) →
    new ≡ old ++ take piece.len (bytes_in (items_from piece form))
piece_added form piece back put old middle new is most first then =
    then
    ∙ ap (λ (xs : List ℕ). xs ++ take (piece.len - put) (bytes_in form.after)) first
    ∙ append_assoc old (take piece.len (bytes_in back)) (take (piece.len - put) (bytes_in form.after))
    ∙ ap (λ (xs : List ℕ). old ++ xs) (take_both back form.after piece.len put most)
    ∙ ap (λ (xs : List Item). old ++ take piece.len (bytes_in xs)) (from_both form piece back is)

-- ---- what was reached

-- the place of the last of n bytes, or of the last of all
pub reached_after : (items : List Item) (n place bytes : ℕ) → place ≤ length items → bytes ≡ count (take place items) → ((k : ℕ) → k < place → count (take k items) < bytes) → bytes ≡ at_most_all n items →
    Some place ≡ place_after (at_most_all n items) items
reached_after items n place bytes within here before e =
    place_after_is (at_most_all n items) place items within (sym here ∙ e) (λ k l. let less = before k l in omega arith)

pub reached_before : (items : List Item) (n place bytes : ℕ) → place ≤ length items → bytes ≡ count (drop place items) → ((k : ℕ) → place < k → k ≤ length items → count (drop k items) < bytes) → bytes ≡ at_most_all n items →
    Some place ≡ place_before (at_most_all n items) items
reached_before items n place bytes within here after e =
    place_before_is (at_most_all n items) place items within (sym here ∙ e) (λ k l m. let less = after k l m in omega arith)

-- ---- what each call reads, by what it reached

-- so many items after the pointer
module _ (form : Form) (piece : Measured) (items : List Item) (same : items ≡ form.after) (k bytes : ℕ) (within : k ≤ length items) (passed : bytes ≡ count (take k items)) (long : piece.len ≡ bytes)
    (goes : piece.pointer ≡ length form.before + k) where
  within_after : k ≤ length form.after
  within_after = omega (arith, ap length same)

  long_after : piece.len ≡ count (take k form.after)
  long_after = long ∙ passed ∙ ap (λ xs. count (take k xs)) same

  pub there_on : IsThere form piece
  there_on = there_ahead form piece k k (omega arith) within_after (length form.before + k) refl goes long_after

  pub taken_on : taken piece form ≡ read_on k form
  taken_on = taken_ahead form piece k k (omega arith) within_after (length form.before + k) refl goes long_after

  pub reads_segment : (length items ≡ 0 → ⊥) → k ≡ segment_items (position is_gap items) items → Some (taken piece form) ≡ segment_read form
  reads_segment some e =
      let here : k ≡ segment_items (position is_gap form.after) form.after = e ∙ ap (λ xs. segment_items (position is_gap xs) xs) same in
      ap Some (taken_on ∙ ap (λ j. read_on j form) here)
      ∙ sym (any_there form.after (Some (read_on (segment_items (position is_gap form.after) form.after) form)) (λ none. some (omega (arith, ap length same))))

  pub reads_next : (n : ℕ) → 0 < n → (bytes ≡ 0 → ⊥) → bytes ≡ at_most_all n items → Some k ≡ place_after (at_most_all n items) items → Some (taken piece form) ≡ next_bytes n form
  reads_next n some any e reached =
      let here : at_most_all n items ≡ at_most_all n form.after = ap (at_most_all n) same in
      something_next n form some k (taken piece form) (λ none. any (omega (arith, here))) (reached ∙ ap (λ xs. place_after (at_most_all n xs) xs) same) taken_on

-- up to a text
module _ (form : Form) (piece : Measured) (items : List Item) (same : items ≡ form.after) (k : ℕ) (text : List ℕ) (within : k + length text ≤ length items) (long : piece.len ≡ count (take k items))
    (goes : piece.pointer ≡ length form.before + (k + length text)) where
  until_within : k + length text ≤ length form.after
  until_within = omega (arith, ap length same)

  until_long : piece.len ≡ count (take k form.after)
  until_long = long ∙ ap (λ xs. count (take k xs)) same

  pub there_until : IsThere form piece
  there_until = there_ahead form piece k (k + length text) (omega arith) until_within (length form.before + (k + length text)) refl goes until_long

  pub reads_until : Some k ≡ place_of_text text items → Some (taken piece form) ≡ until_read text form
  reads_until e =
      ap Some (taken_ahead form piece k (k + length text) (omega arith) until_within (length form.before + k + length text) (omega arith) (omega arith) until_long)
      ∙ ap (option_map (λ j. record (read_on j form) { place = length form.before + j + length text })) (e ∙ ap (place_of_text text) same)
