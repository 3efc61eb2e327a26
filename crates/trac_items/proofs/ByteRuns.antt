-- Runs of bytes among items.
use Rattle.std.proofs.Common.{◌≡◌, ℕ, zero, suc, ◌+◌, ◌<◌, ◌≤◌, Bool, true, List, [], ◌∷◌, ◌++◌, length, take, drop, get_or, false, refl, sym, ap, ◌-◌, ◌∙◌, arith}
use Rattle.std.specs.Prelude.{◌||◌, Some, slice_get}
use Rattle.std.proofs.lemmas.Grind.{flat_map-append}
use Rattle.std.proofs.lemmas.List.{append_assoc, drop_more, length-append, length-drop, length-take-le, take_more}
use Rattle.std.proofs.lemmas.Option.{same_Some}
use Rattle.std.proofs.Math.Seq.{take-add}
use Rattle.trac_rules.specs.declared.item.Item.{Item}
use Rattle.trac_rules.specs.declared.item.Item.TheVariants.{Byte, Gap}
use Rattle.trac_rules.specs.Cuts.{begins_with_gap}
use Rattle.trac_rules.specs.Filling.{all_filled, filled}
use Rattle.trac_rules.specs.Form.{as_items}
use Rattle.trac_rules.specs.Fronts.{IsFrontOf}
use Rattle.trac_rules.specs.Pieces.{byte_of, bytes_in, is_gap}
use Rattle.trac_rules.specs.Weights.{gap_count}
use Rattle.trac_rules.proofs.Cutting.{filled-as_items}
use Rattle.trac_rules.proofs.Items.{length-as_items}

-- ---- gaps among items

pub gap_there : (items : List Item) (place : ℕ) (item : Item) → slice_get items place ≡ Some item → begins_with_gap (drop place items) ≡ is_gap item
gap_there [] place item h = absurd cc
gap_there (Byte b ∷ items) zero item h = ap is_gap (same_Some (Byte b) item h)
gap_there (Gap k w ∷ items) zero item h = ap is_gap (same_Some (Gap k w) item h)
gap_there (x ∷ items) (suc place) item h = gap_there items place item h

gap_count-append : (xs ys : List Item) → gap_count (xs ++ ys) ≡ gap_count xs + gap_count ys
gap_count-append [] ys = omega arith
gap_count-append (Byte b ∷ xs) ys = gap_count-append xs ys
gap_count-append (Gap k w ∷ xs) ys = omega (arith, gap_count-append xs ys)

-- a byte is no gap
no_gap : (item : Item) → is_gap item ≡ false → gap_count (item ∷ []) ≡ 0
no_gap (Byte b) h = refl
no_gap (Gap k w) h = absurd cc

is_byte : (item : Item) → gap_count (item ∷ []) ≡ 0 → is_gap item ≡ false
is_byte (Byte b) h = refl
is_byte (Gap k w) h = let none : ⊥ = omega (arith, h) in absurd none

one_gap : (item : Item) → is_gap item ≡ true → gap_count (item ∷ []) ≡ 1
one_gap (Byte b) h = absurd cc
one_gap (Gap k w) h = refl

-- an item more
module _ (items : List Item) (n m : ℕ) (item : Item) (e : m ≡ n + 1) (l : n < length items) (is : item ≡ get_or items n item) where
  one_more : gap_count (take m items) ≡ gap_count (take n items) + gap_count (item ∷ [])
  one_more = ap (λ k. gap_count (take k items)) e ∙ ap gap_count (take_more items n item l) ∙ gap_count-append (take n items) (get_or items n item ∷ []) ∙ ap (λ (x : Item). gap_count (take n items) + gap_count (x ∷ [])) (sym is)

  pub byte_passed : gap_count (take n items) ≡ 0 → is_gap item ≡ false → gap_count (take m items) ≡ 0
  byte_passed before h = omega (arith, one_more, before, no_gap item h)

  -- a gap was met, or is met now
  pub gap_met : (met : Bool) → (met ≡ true → 0 < gap_count (take n items)) → (met || is_gap item) ≡ true → 0 < gap_count (take m items)
  gap_met true before h = omega (arith, one_more, before refl)
  gap_met false before h = omega (arith, one_more, one_gap item h)

-- an item more before those after it
module _ (items : List Item) (n m : ℕ) (item : Item) (e : m ≡ n + 1) (l : n < length items) (is : item ≡ get_or items n item) where
  one_before : gap_count (drop n items) ≡ gap_count (item ∷ []) + gap_count (drop m items)
  one_before =
      ap gap_count (drop_more items n item l) ∙ gap_count-append (get_or items n item ∷ []) (drop (n + 1) items)
      ∙ ap (λ (x : Item). gap_count (x ∷ []) + gap_count (drop (n + 1) items)) (sym is) ∙ ap (λ k. gap_count (item ∷ []) + gap_count (drop k items)) (sym e)

  pub byte_before : gap_count (drop m items) ≡ 0 → is_gap item ≡ false → gap_count (drop n items) ≡ 0
  byte_before behind h = omega (arith, one_before, behind, no_gap item h)

  pub gap_before : is_gap item ≡ true → 0 < gap_count (drop n items)
  gap_before h = omega (arith, one_before, one_gap item h)

-- the first items are bytes and are put, and there is room for the others
pub record IsRead (items : List Item) (run : ℕ) (old new : List ℕ) (len capacity : ℕ) : Type 0 where
  pub within : run ≤ length items
  pub bytes : gap_count (take run items) ≡ 0
  pub put : new ≡ old ++ bytes_in (take run items)
  pub room : len + (length items - run) ≤ capacity

module _ (items : List Item) (run : ℕ) (old new : List ℕ) (len capacity : ℕ) (read : IsRead items run old new len capacity) where
  module _ (k : ℕ) where
    more_gaps : gap_count (take (run + k) items) ≡ gap_count (take run items) + gap_count (take k (drop run items))
    more_gaps = ap gap_count (take-add run k items) ∙ gap_count-append (take run items) (take k (drop run items))

    -- and are put, if they are bytes
    pub read_more : (part : List Item) (newer : List ℕ) (longer room : ℕ) → part ≡ take k (drop run items) → run + k ≤ length items → gap_count part ≡ 0 →
        newer ≡ new ++ bytes_in part → longer + (length items - (run + k)) ≤ room → IsRead items (run + k) old newer longer room
    read_more part newer longer room is fits plain put left = record {
      within = fits;
      bytes = omega (arith, more_gaps, read.bytes, ap gap_count is, plain);
      put =
          put ∙ ap (λ (xs : List ℕ). xs ++ bytes_in part) read.put ∙ append_assoc old (bytes_in (take run items)) (bytes_in part)
          ∙ ap (λ (xs : List Item). old ++ (bytes_in (take run items) ++ bytes_in xs)) is
          ∙ ap (λ (xs : List ℕ). old ++ xs) (sym (flat_map-append byte_of (take run items) (take k (drop run items))) ∙ ap bytes_in (sym (take-add run k items)));
      room = left;
    }

    -- so many without a gap
    module _ (none : gap_count (take (run + k) items) ≡ 0) where
      chunk_is : take (run + k - run) (drop run items) ≡ take k (drop run items)
      chunk_is = ap (λ j. take j (drop run items)) (let same : run + k - run ≡ k = omega arith in same)

      pub chunk_plain : gap_count (take (run + k - run) (drop run items)) ≡ 0
      chunk_plain = omega (arith, ap gap_count chunk_is, more_gaps, none)

      pub chunk_read : (newer : List ℕ) (longer room : ℕ) → run + k ≤ length items → newer ≡ new ++ bytes_in (take (run + k - run) (drop run items)) →
          longer ≡ len + length (take (run + k - run) (drop run items)) → capacity ≤ room → IsRead items (run + k) old newer longer room
      chunk_read newer longer room fits put counted stays =
          read_more (take (run + k - run) (drop run items)) newer longer room chunk_is fits chunk_plain put
          (omega (arith, read.room, counted, stays, fits, ap length chunk_is, length-take-le k (drop run items) (omega (arith, fits, length-drop run items))))

  -- one byte more
  pub byte_read : (item : Item) (b : ℕ) (newer : List ℕ) (longer room : ℕ) → run < length items → item ≡ get_or items run item → item ≡ Byte b → newer ≡ new ++ b ∷ [] → longer ≡ len + 1 → capacity ≤ room →
      IsRead items (run + 1) old newer longer room
  byte_read item b newer longer room l is byte put counted stays =
      read_more 1 (Byte b ∷ []) newer longer room (sym byte_one) (omega (arith, l)) refl put (omega (arith, read.room, counted, stays, l))
    where
      byte_one : take 1 (drop run items) ≡ Byte b ∷ []
      byte_one = ap (take 1) (drop_more items run item l) ∙ ap (λ (x : Item). x ∷ []) (sym is ∙ byte)

-- neither of two
pub neither : (a b : Bool) → (a || b) ≡ false → (a ≡ false) × (b ≡ false)
neither false b h = (refl, h)
neither true b h = absurd cc

-- where there is no gap no item is one
pub no_gap_at : (items : List Item) (i : ℕ) (d : Item) → i < length items → gap_count items ≡ 0 → is_gap (get_or items i d) ≡ false
no_gap_at [] i d l none = let past : ⊥ = omega (arith, l) in absurd past
no_gap_at (Gap k w ∷ items) i d l none = let one : ⊥ = omega (arith, none) in absurd one
no_gap_at (Byte b ∷ items) zero d l none = refl
no_gap_at (Byte b ∷ items) (suc i) d l none = no_gap_at items i d (omega (arith, l)) none

-- a run's items are its bytes
pub run_items : (run : List Item) → gap_count run ≡ 0 → as_items (bytes_in run) ≡ run
run_items [] h = refl
run_items (Byte b ∷ run) h = ap (λ (xs : List Item). Byte b ∷ xs) (run_items run h)
run_items (Gap k w ∷ run) h = let none : ⊥ = omega (arith, h) in absurd none

-- and there are as many
pub plain_count : (run : List Item) → gap_count run ≡ 0 → length (bytes_in run) ≡ length run
plain_count run h = sym (length-as_items (bytes_in run)) ∙ ap length (run_items run h)

-- what a run gives in a call are its bytes, whatever the texts are
pub run_filled : (texts : List (List ℕ)) (run : List Item) → gap_count run ≡ 0 → all_filled texts run ≡ bytes_in run
run_filled texts run h = ap (all_filled texts) (sym (run_items run h)) ∙ filled-as_items texts (bytes_in run)

run_length : (texts : List (List ℕ)) (run : List Item) → gap_count run ≡ 0 → length (all_filled texts run) ≡ length run
run_length texts run h = ap length (run_filled texts run h) ∙ plain_count run h

-- what items give that a run begins
module _ (texts : List (List ℕ)) (items run after : List Item) (seam : items ≡ run ++ after) (bytes : gap_count run ≡ 0) where
  both : all_filled texts items ≡ all_filled texts run ++ all_filled texts after
  both = ap (λ (xs : List Item). all_filled texts xs) seam ∙ flat_map-append (filled texts) run after

  pub run_counted : length (all_filled texts items) ≡ length run + length (all_filled texts after)
  run_counted = omega (arith, ap length both, length-append (all_filled texts run) (all_filled texts after), run_length texts run bytes)

  -- after what was put so far
  pub run_put : (old middle : List ℕ) → middle ≡ old ++ bytes_in run → old ++ all_filled texts items ≡ middle ++ all_filled texts after
  run_put old middle put =
      ap (λ (xs : List ℕ). old ++ xs) (both ∙ ap (λ (xs : List ℕ). xs ++ all_filled texts after) (run_filled texts run bytes))
      ∙ sym (append_assoc old (bytes_in run) (all_filled texts after)) ∙ ap (λ (xs : List ℕ). xs ++ all_filled texts after) (sym put)

  -- one item more
  module _ (item : Item) (left : List Item) (next : after ≡ item ∷ left) where
    pub item_counted : length (all_filled texts items) ≡ length run + length (filled texts item) + length (all_filled texts left)
    item_counted =
        omega (arith, run_counted, ap (λ (xs : List Item). length (all_filled texts xs)) next, length-append (filled texts item) (all_filled texts left))

    pub item_put : (old middle new : List ℕ) → middle ≡ old ++ bytes_in run → new ≡ middle ++ filled texts item → new ++ all_filled texts left ≡ old ++ all_filled texts items
    item_put old middle new put more =
        ap (λ (xs : List ℕ). xs ++ all_filled texts left) more ∙ append_assoc middle (filled texts item) (all_filled texts left)
        ∙ ap (λ (xs : List Item). middle ++ all_filled texts xs) (sym next) ∙ sym (run_put old middle put)

-- what goes on twice goes on
pub goes_on_twice : (start old xs middle ys new : List ℕ) → IsFrontOf start old → middle ≡ old ++ xs → new ≡ middle ++ ys → IsFrontOf start new
goes_on_twice start old xs middle ys new front put more = (
  (front.0 ++ xs) ++ ys,
  more ∙ ap (λ (m : List ℕ). m ++ ys) (put ∙ ap (λ (m : List ℕ). m ++ xs) front.1 ∙ append_assoc start front.0 xs)
      ∙ append_assoc start (front.0 ++ xs) ys,
)
