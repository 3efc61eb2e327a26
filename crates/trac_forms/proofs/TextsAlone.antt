-- What is read of items that are the bytes of a text.
use Rattle.std.proofs.Common.{◌≡◌, ℕ, zero, suc, ◌≤◌, false, List, [], ◌∷◌, length, take, get_or, min, refl, sym, ap, ◌∙◌, arith}
use Rattle.std.specs.Prelude.{None, Some}
use Rattle.memchr.specs.Find.{FindsNeedle}
use Rattle.std.specs.List.{position}
use Rattle.std.proofs.lemmas.List.{append-nil, length-take-le, take-map}
use Rattle.trac_rules.specs.declared.item.Item.{Item}
use Rattle.trac_rules.specs.declared.item.Item.TheVariants.{Byte}
use Rattle.trac_rules.specs.Form.{as_items}
use Rattle.trac_rules.specs.Pieces.{at_most_all, is_gap, place_after, place_of_text, segment_items}
use Rattle.trac_forms.proofs.Passing.{count, reached_after, segment_whole}
use Rattle.trac_forms.proofs.Searching.{count_run, found_in_run, in_last_run}
use Rattle.trac_items.proofs.Alone.{text_length}

plain_at : (text : List ℕ) (k : ℕ) → is_gap (get_or (as_items text) k (Byte 0)) ≡ false
plain_at [] k = refl
plain_at (b ∷ text) zero = refl
plain_at (b ∷ text) (suc k) = plain_at text k

module _ (text : List ℕ) (items : List Item) (same : items ≡ as_items text) where
  -- so many bytes stand before a place
  pub text_passed : (k : ℕ) → k ≤ length text → count (take k items) ≡ k
  text_passed k within = ap (λ (xs : List Item). count (take k xs)) same ∙ ap count (take-map Byte k text) ∙ count_run (take k text) ∙ length-take-le k text within

  pub text_bytes : (n k : ℕ) → k ≡ min n (length text) → k ≡ at_most_all n items
  text_bytes n k is = is ∙ ap (min n) (sym (ap count same ∙ count_run text))

  pub text_reached : (n k : ℕ) → k ≡ min n (length text) → Some k ≡ place_after (at_most_all n items) items
  text_reached n k is =
      let within : k ≤ length text = omega (arith, is) in
      reached_after items n k k (omega (arith, within, text_length text items same)) (sym (text_passed k within)) (λ j less. omega (arith, text_passed j (omega (arith, less, within)))) (text_bytes n k is)

  pub text_segment : length text ≡ segment_items (position is_gap items) items
  text_segment = sym (text_length text items same) ∙ segment_whole items (Byte 0) (λ k less. ap (λ (xs : List Item). is_gap (get_or xs k (Byte 0))) same ∙ plain_at text k)

-- a search of the text is one of its bytes as items
pub found_in_text : (text bytes : List ℕ) (place : ℕ) → FindsNeedle bytes text 0 (Some place) → Some place ≡ place_of_text text (as_items bytes)
found_in_text text bytes place finds =
    ap Some (omega arith) ∙ found_in_run text (as_items bytes) 0 bytes [] (omega arith) (sym (append-nil (as_items bytes))) place finds (λ k less. absurd (omega (arith, less)))

pub not_in_text : (text bytes : List ℕ) → FindsNeedle bytes text 0 None → None ≡ place_of_text text (as_items bytes)
not_in_text text bytes finds =
    in_last_run text (as_items bytes) 0 bytes [] (omega arith) (sym (append-nil (as_items bytes))) (λ k less. absurd (omega (arith, less))) None finds tt refl
