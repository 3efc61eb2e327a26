-- What a store holds.
use Rattle.std.specs.Prelude.{ℕ, List, [], bytes_eq, is_some, map, refl, IsTrue, Option, None, Some, unwrap_or}
use Rattle.std.specs.Cmp.Lexicographic.{slice_cmp}
use Rattle.std.specs.Coded.{Coded, code_by, coded×, coded_list, coded_ℕ}
use Rattle.std.specs.FinMap as finite
use Rattle.std.specs.List.{IsDistinct}
use Rattle.std.specs.FinSet as set
use Rattle.std.specs.Ordering.{nat_cmp}
use Rattle.trac_rules.specs.Codes.{block_code, form_code, forms_code, text_code}
use Rattle.trac_rules.specs.Cuts.{joined}
use Rattle.trac_rules.specs.Form.{Form, all_items, pointed_at}
use Rattle.trac_rules.specs.Listing.{names_of}
use Rattle.trac_rules.specs.declared.item.CutGap.{CutGap}
use Rattle.trac_rules.specs.State.{Block, Forms, Held, Storage}

-- a set of names
abbrev pub Names : Type 0
Names = set.FinSet (slice_cmp nat_cmp)

-- no name stands twice
abbrev pub AreApart : Held → Type 0
AreApart held = IsDistinct bytes_eq (map (λ entry. entry.0) held)

-- the forms that a block holds, with their names, and how many more it can take without memory
pub record Gathered : Type 0 where
  pub held : Held
  pub room : ℕ

-- the code of what a block holds, by which a proof tells two of them apart
abbrev pub gathered_code : Coded Gathered
gathered_code =
    code_by (Held × ℕ) (coded× (coded_list (coded× text_code form_code)) coded_ℕ)
    (λ b. (b.held, b.room)) (λ p. record { held = p.0; room = p.1 }) (λ _. refl)

-- the forms by their names, the blocks, how many more of them have a place without memory, the names that have a place,
-- with a form or without one, and those of them that the next sweep of aged names leaves
pub record Stored : Type 0 where
  pub forms : Forms
  pub blocks : List Block
  pub spare : ℕ
  pub known : Names
  pub recent : Names

-- the code of what a store holds, by which a proof tells two of them apart
abbrev pub stored_code : Coded Stored
stored_code = code_by (Forms × (List Block × (ℕ × (Names × Names))))
    (coded× forms_code
    (coded× (coded_list block_code) (coded× coded_ℕ (coded× (set.code text_code) (set.code text_code)))))
    (λ s. (s.forms, (s.blocks, (s.spare, (s.known, s.recent))))) (λ p. record {
      forms = p.0;
      blocks = p.1.0;
      spare = p.1.1.0;
      known = p.1.1.1.0;
      recent = p.1.1.1.1;
    }) (λ _. refl)

-- no form, no block, and no name
abbrev pub nothing_stored : Stored
nothing_stored = record { forms = finite.empty; blocks = []; spare = 0; known = set.empty; recent = set.empty }

-- forms and blocks, as a state has them
abbrev pub storage_in : Stored → Storage
storage_in s = record { forms = s.forms; blocks = s.blocks }

-- the same with a name that is known, and recent
abbrev pub made_known : List ℕ → Stored → Stored
made_known name s = record s { known = set.insert s.known name; recent = set.insert s.recent name }

-- the same forms and blocks, and of the names those of the forms alone
abbrev pub swept : Stored → Stored
swept s = record s { known = set.from_list (names_of s.forms); recent = set.from_list (names_of s.forms) }

-- the same forms and blocks, and of the names the recent ones; of those, the ones of the forms alone are recent then
abbrev pub swept_aged : Stored → Stored
swept_aged s = record s { known = s.recent; recent = set.from_list (names_of s.forms) }

-- a form with the gaps of a cut filled again, and its pointer at a place
abbrev pub unsegmented : List (List ℕ) → List CutGap → ℕ → Form → Form
unsegmented texts cut place form = pointed_at place (unwrap_or (joined texts cut (all_items form)) [])

-- what a change makes of the form that is found under a name, if there is one, put in its place
abbrev pub changing : List ℕ → (Form → Form) → Option Form → Forms → Forms
changing name change None forms = forms
changing name change (Some form) forms = finite.insert forms name (change form)

-- the forms, that of a name changed, if there is one
abbrev pub changed_at : List ℕ → (Form → Form) → Forms → Forms
changed_at name change forms = changing name change (finite.get forms name) forms

-- the name of each form is known
abbrev pub KnowsAll : Names → Forms → Type 0
KnowsAll known forms = (name : List ℕ) → IsTrue (is_some (finite.get forms name)) → IsTrue (set.contains known name)
