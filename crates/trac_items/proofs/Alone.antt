-- Items that are the bytes of a text, as those after the pointer of a form may be kept.
use Rattle.std.proofs.Common.{◌≡◌, ℕ, true, false, List, [], ◌∷◌, ◌++◌, length, refl, sym, ap, ◌∙◌, ⊎_elim}
use Rattle.std.specs.Prelude.{◌==◌}
use Rattle.std.specs.List.{flat_map}
use Rattle.std.proofs.lemmas.Bool.{eq-eqb, eqb-true, true≢false}
use Rattle.std.proofs.lemmas.Grind.{flat_map-append}
use Rattle.std.proofs.lemmas.List.{append-nil, length-map, nil_from_length}
use Rattle.trac_rules.specs.declared.item.Item.{Item}
use Rattle.trac_rules.specs.declared.item.Item.TheVariants.{Byte}
use Rattle.trac_rules.specs.Form.{as_items}
use Rattle.trac_items.specs.Either.{IsEither}

pub each_byte : (text : List ℕ) (given : Item → List ℕ) → ((b : ℕ) → given (Byte b) ≡ b ∷ []) → flat_map given (as_items text) ≡ text
each_byte [] given same = refl
each_byte (b ∷ text) given same = λ i. same b i ++ each_byte text given same i

-- which of the two there is
module _ (text : List ℕ) (items after : List Item) (view : as_items text ++ items ≡ after) where
  pub items_alone : true ≡ (length text == 0) → after ≡ items
  items_alone none =
      let empty : text ≡ [] = nil_from_length text (eqb-true (length text) 0 (sym none)) in
      sym view ∙ ap (λ (bytes : List ℕ). as_items bytes ++ items) empty

  pub text_alone : IsEither text items → false ≡ (length text == 0) → after ≡ as_items text
  text_alone either some =
      ⊎_elim
      (λ (empty : text ≡ []). absurd (true≢false (sym (eq-eqb (length text) 0 (ap (λ (bytes : List ℕ). length bytes) empty)) ∙ sym some)))
      (λ (none : items ≡ []). sym view ∙ ap (λ (xs : List Item). as_items text ++ xs) none ∙ append-nil (as_items text))
      either

  -- what gives each byte as it is gives the text
  pub given_alone : IsEither text items → false ≡ (length text == 0) → (given : Item → List ℕ) → ((b : ℕ) → given (Byte b) ≡ b ∷ []) → text ≡ flat_map given after
  given_alone either some given same = sym (each_byte text given same) ∙ ap (flat_map given) (sym (text_alone either some))

  -- and then what the items give, where there may be both
  pub given_both : (given : Item → List ℕ) → ((b : ℕ) → given (Byte b) ≡ b ∷ []) → flat_map given after ≡ text ++ flat_map given items
  given_both given same =
      ap (flat_map given) (sym view) ∙ flat_map-append given (as_items text) items
      ∙ ap (λ (bytes : List ℕ). bytes ++ flat_map given items) (each_byte text given same)

module _ (text : List ℕ) (items : List Item) (same : items ≡ as_items text) where
  pub text_length : length items ≡ length text
  text_length = ap (λ (xs : List Item). length xs) same ∙ length-map text Byte
