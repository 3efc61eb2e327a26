-- A text among items: where it occurs in a run of bytes between gaps, and where it does not.
use Rattle.std.proofs.Common.{◌≡◌, ℕ, suc, ◌+◌, ◌-◌, ◌<◌, ◌≤◌, true, false, List, [], ◌∷◌, ◌++◌, length, take, drop, get_or, refl, sym, ap, subst, ◌∙◌, arith, ⊎_elim}
use Rattle.std.specs.Prelude.{IfSome, None, Option, Some, option_map, ◌==◌}
use Rattle.std.proofs.lemmas.Bool.{and_from, and_parts, cases_lt, eq-eqb, eqb-true, false≢true, false_from_ne_true}
use Rattle.std.proofs.lemmas.List.{append_assoc, drop-append-le, drop-drop, drop-map, drop_more, length-append, length-drop, length-map, length-take-le, map-append, take-append-drop, take-append-le, take-map, take_rest}
use Rattle.std.proofs.lemmas.List.Prefix.{at_from_reads}
use Rattle.std.proofs.Math.Seq.{take-add}
use Rattle.memchr.specs.Find.{FindsNeedle, OccursAt}
use Rattle.trac_rules.specs.declared.item.Item.{Item}
use Rattle.trac_rules.specs.declared.item.Item.TheVariants.{Byte, Gap}
use Rattle.trac_rules.specs.Cuts.{begins_with_gap}
use Rattle.trac_rules.specs.Form.{as_items}
use Rattle.trac_rules.specs.Pieces.{begin_with, bytes_in, is_gap, place_of_text}
use Rattle.trac_rules.specs.Weights.{gap_count}
use Rattle.trac_rules.proofs.Balanced.{first_place_none, first_place_some}
use Rattle.trac_forms.specs.declared.piece.Reached.{Reached}
use Rattle.trac_items.proofs.ByteRuns.{plain_count, run_items}
use Rattle.trac_items.proofs.Cuts.{occurs_in}
use Rattle.trac_forms.proofs.Passing.{count, count-append, count_gap, count_next}

-- items that begin with no byte, as they stand after a run
abbrev pub IsBound : List Item → Type 0
IsBound items = (b : ℕ) (rest : List Item) → items ≡ Byte b ∷ rest → ⊥

-- ---- one run

-- bytes that begin with a text, as items, begin with it
begins : (text back : List ℕ) (tail : List Item) → begin_with text (as_items (text ++ back) ++ tail) ≡ true
begins [] back tail = refl
begins (b ∷ text) back tail = and_from (b == b) (begin_with text (as_items (text ++ back) ++ tail)) (eq-eqb b b refl) (begins text back tail)

-- and only such, where the text is no longer
begins_only : (text run : List ℕ) (tail : List Item) → length text ≤ length run → begin_with text (as_items run ++ tail) ≡ true → (back : List ℕ) × (run ≡ text ++ back)
begins_only [] run tail l e = (run, refl)
begins_only (b ∷ text) [] tail l e = absurd (omega arith)
begins_only (b ∷ text) (c ∷ run) tail l e =
    let both = and_parts (b == c) (begin_with text (as_items run ++ tail)) e in
    let rest = begins_only text run tail (omega arith) both.1 in (rest.0, (λ i. sym (eqb-true b c both.0) i ∷ rest.1 i))

-- no text reaches over the end of a run
fits : (text run : List ℕ) (tail : List Item) → IsBound tail → begin_with text (as_items run ++ tail) ≡ true → length text ≤ length run
fits [] run tail bound e = omega arith
fits (b ∷ text) [] [] bound e = absurd (false≢true e)
fits (b ∷ text) [] (Byte c ∷ rest) bound e = absurd (bound c rest refl)
fits (b ∷ text) [] (Gap ordinal width ∷ rest) bound e = absurd (false≢true e)
fits (b ∷ text) (c ∷ run) tail bound e = omega (arith, fits text run tail bound (and_parts (b == c) (begin_with text (as_items run ++ tail)) e).1)

pub count_run : (run : List ℕ) → count (as_items run) ≡ length run
count_run [] = refl
count_run (b ∷ run) = ap suc (count_run run)

-- a run among items, from the place start on
module _ (text : List ℕ) (items : List Item) (start : ℕ) (run : List ℕ) (tail : List Item) (within : start ≤ length items) (rest : drop start items ≡ as_items run ++ tail) where
  at : (j : ℕ) → j ≤ length run → drop (start + j) items ≡ as_items (drop j run) ++ tail
  at j l =
      sym (drop-drop j start items)
      ∙ ap (drop j) rest
      ∙ drop-append-le j (as_items run) tail (omega (arith, length-map run Byte))
      ∙ ap (λ (xs : List Item). xs ++ tail) (drop-map Byte j run)

  pub count_at : (j : ℕ) → j ≤ length run → count (take (start + j) items) ≡ count (take start items) + j
  count_at j l =
      let first : take j (drop start items) ≡ as_items (take j run) =
      ap (take j) rest ∙ take-append-le j (as_items run) tail (omega (arith, length-map run Byte)) ∙ take-map Byte j run in
      ap count (take-add start j items)
      ∙ count-append (take start items) (take j (drop start items))
      ∙ ap (λ n. count (take start items) + n) (ap count first ∙ count_run (take j run) ∙ length-take-le j run l)

  pub as_long : length items ≡ start + length run + length tail
  as_long = omega (arith, length-drop start items, ap length rest, length-append (as_items run) tail, length-map run Byte)

  -- a text that begins at a place of the run, and does not reach over its end, occurs there
  occurs : (j : ℕ) → j + length text ≤ length run → begin_with text (drop (start + j) items) ≡ true → OccursAt run text j
  occurs j l e =
      let here =
      begins_only text (drop j run) tail (omega (arith, length-drop j run)) (ap (begin_with text) (sym (at j (omega arith))) ∙ e) in
      let split : run ≡ take j run ++ (text ++ here.0) = sym (take-append-drop j run) ∙ ap (λ (r : List ℕ). take j run ++ r) here.1 in
      subst (OccursAt run text) (length-take-le j run (omega arith)) (occurs_in run (take j run) text here.0 split)

  -- the first place that a search finds is the first at which the text begins, also where the run goes on
  pub found_in_run : (place : ℕ) → FindsNeedle run text 0 (Some place) → ((k : ℕ) → k < start → begin_with text (drop k items) ≡ false) → Some (start + place) ≡ place_of_text text items
  found_in_run place finds before =
      let fits = finds.1.fits in
      let here : begin_with text (drop (start + place) items) ≡ true =
      ap (begin_with text) (at place (omega arith) ∙ ap (λ (r : List ℕ). as_items r ++ tail) (at_from_reads 0 run text place finds.1.fits finds.1.reads))
      ∙ begins text (drop (place + length text) run) tail in
      sym (
      first_place_some (λ k. begin_with text (drop k items)) (length items + 1) (start + place) (omega (arith, as_long)) here
      (λ k l.
      ⊎_elim
      (λ (sooner : k < start). before k sooner)
      (λ (later : start ≤ k).
      let j = k - start in
      let same : k ≡ start + j = omega arith in
      false_from_ne_true _ (λ e. finds.0.before j (omega arith) (omega arith) (occurs j (omega arith) (ap (λ m. begin_with text (drop m items)) (sym same) ∙ e))))
      (cases_lt k start))
      )

  module _ (bound : IsBound tail) where
    -- where a search finds nothing, the text begins at no place of the run, nor right after it
    pub not_in_run : FindsNeedle run text 0 None → (j : ℕ) → j ≤ length run → begin_with text (drop (start + j) items) ≡ false
    not_in_run none j l =
        false_from_ne_true _ (λ e.
        let short = fits text (drop j run) tail bound (ap (begin_with text) (sym (at j l)) ∙ e) in
        none j (omega arith) (omega arith) (occurs j (omega (arith, length-drop j run)) e))

    -- where no search found it, it begins nowhere up to the end of the run
    pub nowhere_yet : FindsNeedle run text 0 None → ((k : ℕ) → k < start → begin_with text (drop k items) ≡ false) → (k : ℕ) → k < start + length run + 1 → begin_with text (drop k items) ≡ false
    nowhere_yet none before k l =
        ⊎_elim
        (λ (sooner : k < start). before k sooner)
        (λ (later : start ≤ k).
        let j = k - start in
        let same : k ≡ start + j = omega arith in
        ap (λ m. begin_with text (drop m items)) same ∙ not_in_run none j (omega arith))
        (cases_lt k start)

-- where it begins at no place at all there is none
pub nowhere : (text : List ℕ) (items : List Item) → ((k : ℕ) → k < length items + 1 → begin_with text (drop k items) ≡ false) → None ≡ place_of_text text items
nowhere text items none = sym (first_place_none (λ k. begin_with text (drop k items)) (length items + 1) none)

-- ---- what a search of the run says

-- it is one for this text in these bytes
pub searched : (run text hay : List ℕ) (place : Option ℕ) → hay ≡ run → FindsNeedle hay text 0 place → FindsNeedle run text 0 place
searched run text hay place h finds = subst (λ (r : List ℕ). FindsNeedle r text 0 place) h finds

module _ (text : List ℕ) (items : List Item) (start : ℕ) (run : List ℕ) (tail : List Item) (within : start ≤ length items) (rest : drop start items ≡ as_items run ++ tail)
    (before : (k : ℕ) → k < start → begin_with text (drop k items) ≡ false) where
  -- it occurs there first
  pub reached_in_run : (at : Reached) → FindsNeedle run text 0 (Some (at.items - start)) → start ≤ at.items → Some at.items ≡ place_of_text text items
  reached_in_run at finds after =
      let same : at.items ≡ start + (at.items - start) = omega arith in
      ap Some same ∙ found_in_run text items start run tail within rest (at.items - start) finds before

  -- the bytes before it
  pub passed_in_run : (at : Reached) (bytes : ℕ) → FindsNeedle run text 0 (Some (at.items - start)) → start ≤ at.items → bytes ≡ count (take start items) → at.bytes + start ≡ bytes + at.items →
      at.bytes ≡ count (take at.items items)
  passed_in_run at bytes finds after counted passed =
      let same : at.items ≡ start + (at.items - start) = omega arith in
      omega (arith, count_at text items start run tail within rest (at.items - start) (omega (arith, finds.1.fits)), ap (λ k. count (take k items)) same)

  -- the last run
  pub in_last_run : (found : Option Reached) → FindsNeedle run text 0 (option_map (λ at. at.items - start) found) → IfSome found (λ at. start ≤ at.items) → tail ≡ [] →
      option_map (λ at. at.items) found ≡ place_of_text text items
  in_last_run None none after end =
      nowhere text items (λ k l.
      nowhere_yet text items start run tail within rest (λ b more e. absurd (omega (arith, ap length (sym end ∙ e)))) none before k (omega (arith, as_long text items start run tail within rest, ap length end)))
  in_last_run (Some at) finds after end = reached_in_run at finds after

  pub passed_in_last_run : (found : Option Reached) (bytes : ℕ) → FindsNeedle run text 0 (option_map (λ at. at.items - start) found) → IfSome found (λ at. start ≤ at.items) →
      bytes ≡ count (take start items) → IfSome found (λ at. at.bytes + start ≡ bytes + at.items) → IfSome found (λ at. at.bytes ≡ count (take at.items items))
  passed_in_last_run None bytes none after counted passed = tt
  passed_in_last_run (Some at) bytes finds after counted passed = passed_in_run at bytes finds after counted passed

pub bound_gap : (items : List Item) (i : ℕ) (gap : Item) → i < length items → gap ≡ get_or items i (Byte 0) → ((b : ℕ) → gap ≡ Byte b → ⊥) → IsBound (drop i items)
bound_gap items i gap l is other b rest e = let next = drop_more items i (Byte 0) l in other b (let same : get_or items i (Byte 0) ≡ Byte b = cc in is ∙ same)

-- an empty text occurs at once
pub at_once : (text : List ℕ) (items : List Item) → text ≡ [] → Some 0 ≡ place_of_text text items
at_once text items e =
    sym (first_place_some (λ k. begin_with [] (drop k items)) (length items + 1) 0 (omega arith) refl (λ k l. absurd (omega arith)))
    ∙ ap (λ (t : List ℕ). place_of_text t items) (sym e)

-- the bytes up to the gap after a run
pub count_over_gap : (text : List ℕ) (items : List Item) (start : ℕ) (run : List ℕ) (i : ℕ) → start ≤ length items → drop start items ≡ as_items run ++ drop i items →
    ((b : ℕ) → get_or items i (Byte 0) ≡ Byte b → ⊥) → (start + length run ≡ i) × (i < length items) → count (take (i + 1) items) ≡ count (take start items) + length run
count_over_gap text items start run i within rest other here =
    let gap : is_gap (get_or items i (Byte 0)) ≡ true = gap_from_no_byte (get_or items i (Byte 0)) other in
    let run_at = count_at text items start run (drop i items) within rest (length run) (omega arith) in
    let same = ap (λ k. count (take k items)) here.0 in
    omega (arith, count_next items i (Byte 0) here.1, count_gap (get_or items i (Byte 0)) gap, run_at, same)
  where
    gap_from_no_byte : (item : Item) → ((b : ℕ) → item ≡ Byte b → ⊥) → is_gap item ≡ true
    gap_from_no_byte (Byte b) other = absurd (other b refl)
    gap_from_no_byte (Gap ordinal width) other = refl

-- ---- more of a run is read

-- so many bytes of what is left after the first items
pub run_read : (items : List Item) (start passed read : ℕ) (run newer : List ℕ) → passed ≤ length items → read ≤ length (take (length items - passed) (drop passed items)) →
    gap_count (take read (take (length items - passed) (drop passed items))) ≡ 0 → newer ≡ run ++ bytes_in (take read (take (length items - passed) (drop passed items))) →
    drop start items ≡ as_items run ++ drop passed items → (passed + read ≤ length items) × (length newer ≡ length run + read) × (drop start items ≡ as_items newer ++ drop (passed + read) items)
run_read items start passed read run newer inside within plain put so = (
  omega (arith, inside, within, ap length left, length-drop passed items),
  omega (arith, ap length put, length-append run bytes, plain_count (take read rest) plain, length-take-le read rest within),
  so
      ∙ ap (λ (xs : List Item). as_items run ++ xs)
      (sym (take-append-drop read (drop passed items)) ∙ ap (λ (xs : List Item). take read (drop passed items) ++ xs) (drop-drop read passed items)
      ∙ ap (λ (xs : List Item). take read xs ++ drop (passed + read) items) (sym left)
      ∙ ap (λ (xs : List Item). xs ++ drop (passed + read) items) (sym (run_items (take read rest) plain)))
      ∙ sym (append_assoc (as_items run) (as_items bytes) (drop (passed + read) items))
      ∙ ap (λ (xs : List Item). xs ++ drop (passed + read) items) (sym (map-append Byte run bytes))
      ∙ ap (λ (r : List ℕ). as_items r ++ drop (passed + read) items) (sym put),
)
  where
    rest : List Item
    rest = take (length items - passed) (drop passed items)

    bytes : List ℕ
    bytes = bytes_in (take read rest)

    left : rest ≡ drop passed items
    left = take_rest items passed

-- where a gap comes next no byte does
pub no_byte_next : (items rest : List Item) (passed : ℕ) → passed < length items → rest ≡ drop passed items → begins_with_gap rest ≡ true → (b : ℕ) → get_or items passed (Byte 0) ≡ Byte b → ⊥
no_byte_next items rest passed l is gap b byte =
    false≢true
    (ap (λ (item : Item). begins_with_gap (item ∷ drop (passed + 1) items)) (sym byte)
    ∙ ap begins_with_gap (sym (drop_more items passed (Byte 0) l) ∙ sym is)
    ∙ gap)
