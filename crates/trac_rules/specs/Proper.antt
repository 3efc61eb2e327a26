-- Proper states: what is true of every state that a machine shows.
use Rattle.std.specs.Prelude.{◌≡◌, ℕ, ◌≤◌, ◌&&◌, not, nat_le, List, [], ◌∷◌, length, map, Bool, true, None, Some}
use Rattle.std.specs.FinMap as finite
use Rattle.std.specs.List.{All, IsDistinct, list_all, list_any}
use Rattle.std.specs.Str.{bytes_eq}
use Rattle.trac_rules.specs.declared.limit.TheConstants.{BLOCK_LIMIT, FORM_COUNT_LIMIT}
use Rattle.trac_rules.specs.Form.{Form, IsWide, all_items, width_of}
use Rattle.trac_rules.specs.Limits.{form_fits, texts_fit}
use Rattle.trac_rules.specs.State.{Block, Forms, Held, State, Storage, Tape, storage_of}

-- a form and its name are within the limits, and each gap is at least one byte wide
pub record IsProperForm (name : List ℕ) (form : Form) : Type 0 where
  pub fits : form_fits name form ≡ true
  pub wide : All IsWide (all_items form)

-- there are not too many forms, and each of them is proper
pub record AreProperForms (forms : Forms) : Type 0 where
  pub count : finite.len forms ≤ FORM_COUNT_LIMIT
  pub each : (name : List ℕ) → (form : Form) → finite.get forms name ≡ Some form → IsProperForm name form

-- forms of a block: not too many, each of them proper, and no name twice
pub record AreHeld (held : Held) : Type 0 where
  pub count : length held ≤ FORM_COUNT_LIMIT
  pub each : All (λ entry. IsProperForm entry.0 entry.1) held
  pub distinct : IsDistinct bytes_eq (map (λ entry. entry.0) held)

-- the forms that a block holds are proper; an erased block holds none
abbrev pub IsProperBlock : Block → Type 0
IsProperBlock None = Unit {0}
IsProperBlock (Some held) = AreHeld held

-- forms and blocks are proper, and there are not too many blocks, erased ones counted
pub record IsProperStorage (storage : Storage) : Type 0 where
  pub forms : AreProperForms storage.forms
  pub block_count : length storage.blocks ≤ BLOCK_LIMIT
  pub blocks : All IsProperBlock storage.blocks

-- texts, marks and output are within the limits, and the storage is proper
pub record IsProper (s : State) : Type 0 where
  pub texts : texts_fit s ≡ true
  pub storage : IsProperStorage (storage_of s)

-- if there is a tape: no more of it is read than there is
pub record IsProperOn (tape : Tape) (s : State) : Type 0 where
  pub proper : IsProper s
  pub on_tape : s.position ≤ length tape.bytes

-- ---- the same as a decision

-- whether a form and its name are within the limits, and each gap wide
abbrev pub is_proper_form : List ℕ → Form → Bool
is_proper_form name form = form_fits name form && list_all (λ item. nat_le 1 (width_of item)) (all_items form)

-- whether no name of a list stands again after it
abbrev pub are_distinct : List (List ℕ) → Bool
are_distinct [] = true
are_distinct (name ∷ names) = not (list_any (bytes_eq name) names) && are_distinct names

-- whether there are not too many forms, and each is proper
abbrev pub are_proper_forms : Forms → Bool
are_proper_forms forms = nat_le (finite.len forms) FORM_COUNT_LIMIT
    && list_all (λ entry. is_proper_form entry.0 entry.1) (finite.entries forms)

-- whether the forms that a block holds are proper
abbrev pub is_proper_block : Block → Bool
is_proper_block None = true
is_proper_block (Some held) = nat_le (length held) FORM_COUNT_LIMIT
    && list_all (λ entry. is_proper_form entry.0 entry.1) held && are_distinct (map (λ entry. entry.0) held)

-- whether forms and blocks are proper
abbrev pub is_proper_storage : Storage → Bool
is_proper_storage storage = are_proper_forms storage.forms && nat_le (length storage.blocks) BLOCK_LIMIT
    && list_all is_proper_block storage.blocks

-- whether a state is proper
unfoldable pub is_proper : State → Bool
is_proper s = texts_fit s && is_proper_storage (storage_of s)
