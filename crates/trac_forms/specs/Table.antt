-- How a store is kept: a table with an entry for each known name, which has a form or none.
use Rattle.std.specs.Prelude.{◌≡◌, ℕ, ◌-◌, ◌<◌, ◌≤◌, nat_lt, slice_index_or, List, [], ◌∷◌, length, map, take, Option}
use Rattle.std.specs.Prelude.{None, Some, bytes_eq, filter, is_some, option_map, Vec, vec_capacity, vec_len}
use Rattle.std.specs.FinMap as finite
use Rattle.std.specs.FinSet as set
use Rattle.std.specs.List.{IsDistinct, position}
use Rattle.std.specs.List.Sorted.{IsPermutation}
use Rattle.std.specs.Map.{keys_of, values_of}
use Rattle.trac_rules.specs.Form.{Form}
use Rattle.trac_rules.specs.State.{Block, Forms}
use Rattle.trac_forms.specs.Stored.{Gathered, Names, Stored}

-- the entries of a table, its keys read as texts
abbrev pub named : {K V : Type 0} → (K → List ℕ) → List (K × V) → List (List ℕ × V)
named name entries = map (λ e. (name e.0, e.1)) entries

-- the names of the entries that have a form
abbrev pub full_keys : List (List ℕ × Option Form) → List (List ℕ)
full_keys entries = keys_of (filter (λ e. is_some e.1) entries)

-- the forms of a table, with an entry before the others: if a name stands twice, its first entry counts, and one
-- without a form takes the name's form away
abbrev pub with_entry : List ℕ → Option Form → Forms → Forms
with_entry name None forms = finite.remove forms name
with_entry name (Some form) forms = finite.insert forms name form

-- the forms of all entries
abbrev pub forms_of : List (List ℕ × Option Form) → Forms
forms_of [] = finite.empty
forms_of (e ∷ entries) = with_entry e.0 e.1 (forms_of entries)

-- the names of all entries
abbrev pub known_of : List (List ℕ × Option Form) → Names
known_of entries = set.from_list (keys_of entries)

-- the names of the first entries
abbrev pub first_of : ℕ → List (List ℕ × Option Form) → Names
first_of n entries = set.from_list (take n (keys_of entries))

-- how many more items a vector has places for
abbrev pub places_left : {T A : Type 0} → Vec T A → ℕ
places_left items = vec_capacity items - vec_len items

-- beside a table: how many of its first entries are recent; blocks, the rooms of each aside, and how many more have a
-- place
pub record Kept : Type 0 where
  pub first : ℕ
  pub blocks : List Block
  pub spare : ℕ

abbrev pub blocks_of : List (Option Gathered) → List Block
blocks_of entries = map (option_map (λ b. b.held)) entries

abbrev pub kept_in : {A : Type 0} → ℕ → Vec (Option Gathered) A → Kept
kept_in first blocks = record { first = first; blocks = blocks_of blocks.items; spare = places_left blocks }

-- what a table of these entries holds, beside these blocks
abbrev pub stored : List (List ℕ × Option Form) → Kept → Stored
stored entries kept = record {
  forms = forms_of entries;
  blocks = kept.blocks;
  spare = kept.spare;
  known = known_of entries;
  recent = first_of kept.first entries;
}

-- the first `live` entries have a value, and no other has
abbrev pub IsParted : {K X : Type 0} → List (K × Option X) → ℕ → Type 0
IsParted entries live = (i : ℕ) → is_some (slice_index_or (values_of entries) i None) ≡ nat_lt i live

-- what is true of the table of every store: the entries with a form come first, and are recent
pub record IsInOrder (entries : List (List ℕ × Option Form)) (live recent : ℕ) : Type 0 where
  pub parted : IsParted entries live
  pub forms_recent : live ≤ recent
  pub within : recent ≤ length entries

-- the first `live` entries are among the first `n`, which have the names that they had
pub record KeepsFirst {K X : Type 0} (n : ℕ) (old new : List (K × X)) (live : ℕ) : Type 0 where
  pub within : live ≤ n
  pub names : IsPermutation (take n (keys_of old)) (take n (keys_of new))

-- a name has an entry at this place, which is one of the recent ones, and no name has two
pub record IsRecentAt (name : List ℕ) (entries : List (List ℕ × Option Form)) (recent i : ℕ) : Type 0 where
  pub place : position (bytes_eq name) (keys_of entries) ≡ Some i
  pub among : i < recent
  pub distinct : IsDistinct bytes_eq (keys_of entries)
