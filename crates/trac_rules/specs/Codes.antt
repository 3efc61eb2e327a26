-- The code of a state, by which a proof tells two states apart. Nothing of the language stands here.
use Rattle.std.specs.Prelude.{◌≡◌, ℕ, List, refl, ◌⊎◌, Bool, true, false, if◌then◌else◌}
use Rattle.std.proofs.Common.{inl, inr}
use Rattle.std.specs.FinMap as map
use Rattle.std.specs.Coded.{Coded, code_by, coded×, coded⊎, coded_list, coded_option, coded_bool, coded_ℕ}
use Rattle.trac_rules.specs.declared.item.Item.{Item}
use Rattle.trac_rules.specs.declared.item.Item.TheVariants.{Byte, Gap}
use Rattle.trac_rules.specs.declared.kind.Kind.{Kind}
use Rattle.trac_rules.specs.declared.kind.Kind.TheVariants.{Active, Neutral}
use Rattle.trac_rules.specs.declared.width.Width.{Width}
use Rattle.trac_rules.specs.declared.width.Width.TheVariants.{W64, W128}
use Rattle.trac_rules.specs.Form.{Form}
use Rattle.trac_rules.specs.State.{Frame, Forms, Block, State, Tape}

-- an item as a byte, or an ordinal and a width
abbrev parts_of_item : Item → ℕ ⊎ (ℕ × ℕ)
parts_of_item (Byte b) = inl b
parts_of_item (Gap ordinal width) = inr (ordinal, width)

abbrev item_of_parts : ℕ ⊎ (ℕ × ℕ) → Item
item_of_parts (inl b) = Byte b
item_of_parts (inr gap) = Gap gap.0 gap.1

pub item_from_parts : (item : Item) → item_of_parts (parts_of_item item) ≡ item
item_from_parts (Byte b) = refl
item_from_parts (Gap ordinal width) = refl

abbrev pub item_code : Coded Item
item_code = code_by (ℕ ⊎ (ℕ × ℕ)) (coded⊎ coded_ℕ (coded× coded_ℕ coded_ℕ)) parts_of_item item_of_parts item_from_parts

abbrev pub form_code : Coded Form
form_code =
    code_by (List Item × List Item) (coded× (coded_list item_code) (coded_list item_code))
    (λ f. (f.before, f.after)) (λ p. record { before = p.0; after = p.1 }) (λ _. refl)

-- a type of two values by a test of them
abbrev code_of_two : {A : Type 0} (first second : A) (is_first : A → Bool) →
    ((x : A) → (if is_first x then first else second) ≡ x) → Coded A
code_of_two first second is_first told = code_by Bool coded_bool is_first (λ b. if b then first else second) told

abbrev pub width_code : Coded Width
width_code =
    code_of_two W64 W128 (λ width. elim width [ W64 ↦ true | W128 ↦ false ])
    (λ width. elim width as (λ w. (if elim w [ W64 ↦ true | W128 ↦ false ] then W64 else W128) ≡ w)
    [ W64 ↦ refl | W128 ↦ refl ])

abbrev pub kind_code : Coded Kind
kind_code =
    code_of_two Active Neutral (λ kind. elim kind [ Active ↦ true | Neutral ↦ false ])
    (λ kind. elim kind as (λ k. (if elim k [ Active ↦ true | Neutral ↦ false ] then Active else Neutral) ≡ k)
    [ Active ↦ refl | Neutral ↦ refl ])

abbrev pub text_code : Coded (List ℕ)
text_code = coded_list coded_ℕ

abbrev pub frame_code : Coded Frame
frame_code = code_by (Kind × (List (List ℕ) × List ℕ)) (coded× kind_code (coded× (coded_list text_code) text_code))
    (λ f. (f.kind, (f.arguments, f.gathered)))
    (λ p. record { kind = p.0; arguments = p.1.0; gathered = p.1.1 }) (λ _. refl)

abbrev pub forms_code : Coded Forms
forms_code = map.code text_code form_code

abbrev pub block_code : Coded Block
block_code = coded_option (coded_list (coded× text_code form_code))

abbrev pub state_code : Coded State
state_code = code_by (List ℕ × (List ℕ × (List Frame × (Forms × (List Block × (ℕ × (Bool × (ℕ × List ℕ))))))))
    (coded× text_code (coded× text_code (coded× (coded_list frame_code) (coded× forms_code
    (coded× (coded_list block_code) (coded× coded_ℕ (coded× coded_bool (coded× coded_ℕ text_code))))))))
    (λ s. (s.active, (s.base, (s.frames, (s.forms, (s.blocks, (s.meta, (s.trace, (s.position, s.output)))))))))
    (λ p. record {
      active = p.0;
      base = p.1.0;
      frames = p.1.1.0;
      forms = p.1.1.1.0;
      blocks = p.1.1.1.1.0;
      meta = p.1.1.1.1.1.0;
      trace = p.1.1.1.1.1.1.0;
      position = p.1.1.1.1.1.1.1.0;
      output = p.1.1.1.1.1.1.1.1;
    }) (λ _. refl)

abbrev pub tape_code : Coded Tape
tape_code = code_by (List ℕ × Bool) (coded× text_code coded_bool) (λ t. (t.bytes, t.ended))
    (λ p. record { bytes = p.0; ended = p.1 }) (λ _. refl)
