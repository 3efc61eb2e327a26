-- Forms that `fb` brings back from a block.
use Rattle.std.specs.Prelude.{ℕ, List, Option, None, Some, Bool, bytes_eq, if◌then◌else◌, is_some, option_and_then}
use Rattle.std.specs.FinMap as finite
use Rattle.trac_rules.specs.Blocks.{block_at, number_addressed}
use Rattle.trac_rules.specs.Form.{Form}
use Rattle.trac_rules.specs.State.{Storage}
use Rattle.trac_origins.specs.Places.{Place, InForm, InHeld, held_form}

-- the number of the block whose address the form of a name is, if there is one
abbrev pub block_named : List ℕ → Storage → Option ℕ
block_named given storage =
    option_and_then (λ form. number_addressed form storage.blocks) (finite.get storage.forms given)

-- where an item stood that stands in the form of a name, when copies of the forms of a block were put among the forms
abbrev pub place_fetched : Option ℕ → List ℕ → ℕ → Storage → Place
place_fetched None name i storage = InForm name i
place_fetched (Some number) name i storage =
    if is_some (held_form name (block_at number storage.blocks)) then InHeld number name i else InForm name i

-- whether an entry of a block has this name
abbrev pub is_entry : List ℕ → List ℕ × Form → Bool
is_entry name entry = bytes_eq name entry.0
