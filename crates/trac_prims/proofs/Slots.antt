-- The slots of the names: the entry at the slot of two letters is the only one that can be theirs.
use Rattle.std.proofs.Common.{◌≡◌, ℕ, zero, suc, ◌+◌, ◌*◌, ◌%◌, ◌<◌, ◌≤◌, length, arith, Bool, true, false, cond, ◌⊎◌, inl, inr, List, [], ◌∷◌, map, get_or, refl, sym, ap, ◌∙◌}
use Rattle.std.specs.Prelude.{Option, None, Some, bytes_eq, find, slice_get}
use Rattle.std.specs.Char.{to_ascii_lowercase}
use Rattle.std.specs.Str.{str_to_ascii_lowercase}
use Rattle.std.proofs.lemmas.Slice.Eq.{bytes_eq-Decides}
use Rattle.trac_rules.specs.declared.primitive.NamedPrimitive.{NamedPrimitive}
use Rattle.trac_rules.specs.declared.primitive.Primitive.TheVariants.{Unknown}
use Rattle.trac_rules.specs.declared.primitive.TheConstants.{NAMES}
use Rattle.trac_rules.specs.Performing.{named_primitive, primitive_of}
use Rattle.trac_prims.specs.declared.name.TheConstants.{PLACES, SLOT_COUNT}

-- the place at the slot of some letters, and the entry there, if there is one
abbrev pub place_at : List ℕ → ℕ
place_at letters = get_or PLACES ((get_or letters 0 0 * 30 + get_or letters 1 0) % SLOT_COUNT) 0

abbrev pub entry_at : List ℕ → Option NamedPrimitive
entry_at letters = slice_get NAMES (place_at letters)

-- the first entry of some letters in a table, if there is one
abbrev entry_of : List ℕ → List NamedPrimitive → Option NamedPrimitive
entry_of letters table = find (λ entry. bytes_eq letters entry.letters) table

-- each name stands at its slot
at_its_slot : map (λ entry. entry_at entry.letters) NAMES ≡ map Some NAMES
at_its_slot = refl

-- and each is the first of its letters
stands_once : map (λ entry. entry_of entry.letters NAMES) NAMES ≡ map Some NAMES
stands_once = refl

-- what holds of all entries holds of the one at a place
at_place : (f : NamedPrimitive → Option NamedPrimitive) (table : List NamedPrimitive) (k : ℕ) (entry : NamedPrimitive) → map f table ≡ map Some table →
    slice_get table k ≡ Some entry → f entry ≡ Some entry
at_place f [] k entry all is = absurd (cc)
at_place f (first ∷ table) zero entry all is =
    let same : first ≡ entry = cc in
    let here : f first ≡ Some first = cc in
    ap f (sym same) ∙ here ∙ ap Some same
at_place f (first ∷ table) (suc k) entry all is = let others : map f table ≡ map Some table = cc in at_place f table k entry others is

-- an entry that is found first in a table is the first entry, or one of the others
first_or_other : (letters : List ℕ) (first entry : NamedPrimitive) (rest : Option NamedPrimitive) (b : Bool) → bytes_eq letters first.letters ≡ b →
    cond b (Some first) rest ≡ Some entry → ((letters ≡ entry.letters) × (first ≡ entry)) ⊎ (rest ≡ Some entry)
first_or_other letters first entry rest true t is =
    let same : first ≡ entry = cc in
    inl ((bytes_eq-Decides letters first.letters).0 t ∙ ap (λ (e : NamedPrimitive). e.letters) same, same)
first_or_other letters first entry rest false t is = inr is

-- it has the letters, and stands at their slot
found_at_slot : (letters : List ℕ) (table : List NamedPrimitive) → map (λ entry. entry_at entry.letters) table ≡ map Some table → (entry : NamedPrimitive) →
    entry_of letters table ≡ Some entry → (letters ≡ entry.letters) × (entry_at letters ≡ Some entry)
found_at_slot letters [] all entry is = absurd (cc)
found_at_slot letters (first ∷ table) all entry is =
    let here : entry_at first.letters ≡ Some first = cc in
    let others : map (λ e. entry_at e.letters) table ≡ map Some table = cc in
    elim (first_or_other letters first entry (entry_of letters table) (bytes_eq letters first.letters) refl is) [
      | inl this ↦ (this.0, ap entry_at (this.0 ∙ ap (λ (e : NamedPrimitive). e.letters) (sym this.1)) ∙ here ∙ ap Some this.1)
      | inr other ↦ found_at_slot letters table others entry other
    ]

-- a name of two letters in lower case, and the place at its slot
pub two_letters : (name : List ℕ) (a b : ℕ) → 2 ≤ length name → length name < 3 → a ≡ to_ascii_lowercase (get_or name 0 0) → b ≡ to_ascii_lowercase (get_or name 1 0) → a ∷ b ∷ [] ≡ str_to_ascii_lowercase name
two_letters [] a b some few first second = absurd (omega arith)
two_letters (x ∷ []) a b some few first second = absurd (omega arith)
two_letters (x ∷ y ∷ []) a b some few first second = λ i. first i ∷ second i ∷ []
two_letters (x ∷ y ∷ z ∷ rest) a b some few first second = absurd (omega arith)

pub place_read : (a b x y place : ℕ) → place ≡ get_or PLACES ((x * 30 + y) % SLOT_COUNT) 0 → x ≡ a → y ≡ b → place ≡ place_at (a ∷ b ∷ [])
place_read a b x y place is first second = is ∙ (λ i. get_or PLACES ((first i * 30 + second i) % SLOT_COUNT) 0)

unknown_unless : (found : Option NamedPrimitive) → ((entry : NamedPrimitive) → found ≡ Some entry → ⊥) → named_primitive found ≡ Unknown
unknown_unless None none = refl
unknown_unless (Some entry) none = absurd (none entry refl)

-- a name stands for what its letters in lower case do
module _ (name letters : List ℕ) (lowered : letters ≡ str_to_ascii_lowercase name) where
  stands_for : named_primitive (entry_of letters NAMES) ≡ primitive_of name
  stands_for = ap (λ (text : List ℕ). named_primitive (entry_of text NAMES)) lowered

  -- no entry stands at the slot
  pub none_there : entry_at letters ≡ None → Unknown ≡ primitive_of name
  none_there none = sym (unknown_unless (entry_of letters NAMES) (λ entry is.
      let both : None ≡ Some entry = sym none ∙ (found_at_slot letters NAMES at_its_slot entry is).1 in cc)) ∙ stands_for

  -- the entry there has the letters
  pub is_there : (entry : NamedPrimitive) → entry_at letters ≡ Some entry → entry.letters ≡ letters → entry.primitive ≡ primitive_of name
  is_there entry is same =
      ap named_primitive (sym (at_place (λ e. entry_of e.letters NAMES) NAMES (place_at letters) entry stands_once is))
      ∙ ap (λ (text : List ℕ). named_primitive (entry_of text NAMES)) same
      ∙ stands_for

  -- the entry there has other letters
  pub is_other : (entry : NamedPrimitive) → entry_at letters ≡ Some entry → (entry.letters ≡ letters → ⊥) → Unknown ≡ primitive_of name
  is_other entry is other = sym (unknown_unless (entry_of letters NAMES) (λ found there.
      let at_slot = found_at_slot letters NAMES at_its_slot found there in
      let both : Some entry ≡ Some found = sym is ∙ at_slot.1 in
      let one : entry ≡ found = cc in
      other (ap (λ (e : NamedPrimitive). e.letters) one ∙ sym at_slot.0))) ∙ stands_for
