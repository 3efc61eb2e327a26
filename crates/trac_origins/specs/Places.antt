-- Places of a state at which a byte stands, or an item of a form, and where it comes from.
use Rattle.std.specs.Prelude.{ℕ, ◌==◌, List, [], ◌∷◌, ◌++◌, length, if◌then◌else◌, Option, None, Some, option_map}
use Rattle.std.specs.Prelude.{option_and_then, slice_get}
use Rattle.std.specs.FinMap as finite
use Rattle.trac_rules.specs.declared.item.Item.{Item}
use Rattle.trac_rules.specs.declared.item.Item.TheVariants.{Byte}
use Rattle.trac_rules.specs.Blocks.{block_at, forms_in, with_all}
use Rattle.trac_rules.specs.Effect.{argument}
use Rattle.trac_rules.specs.Form.{Form, all_items}
use Rattle.trac_rules.specs.State.{Block, Frame, State}

-- a place of a state. All numbers begin with 0
pub data Place : Type 0 where
  -- a byte of the active text
  InActive : ℕ → Place
  -- a byte of the base text
  InBase : ℕ → Place
  -- a begun function, the outermost having number 0; one of its arguments, its name having number 0, and the one being
  -- gathered being the last; and a byte of that
  InArgument : ℕ → ℕ → ℕ → Place
  -- the form of a name, and one of its items, those before its pointer first
  InForm : List ℕ → ℕ → Place
  -- a block, a form that it holds, by its name, and an item of that
  InHeld : ℕ → List ℕ → ℕ → Place
  -- a byte of the output
  InOutput : ℕ → Place

-- where a byte comes from that stands in the state after a step; an item of a form likewise
pub data Origin : Type 0 where
  -- it stood at this place of the state before
  Carried : Place → Origin
  -- it is the byte of this number of the tape, which the step read
  Read : ℕ → Origin
  -- the step made it
  Made : Origin

-- ---- what stands at a place

-- the one of this number in a list whose last one has number 0
abbrev pub numbered : {A : Type 0} → ℕ → List A → Option A
numbered n [] = None
numbered n (x ∷ xs) = if n == length xs then Some x else numbered n xs

-- all arguments of a begun function, the one being gathered last
abbrev pub arguments_of : Frame → List (List ℕ)
arguments_of f = f.arguments ++ f.gathered ∷ []

-- the items of a form, if there is one
abbrev pub items_of : Option Form → List Item
items_of None = []
items_of (Some form) = all_items form

-- the form that a block holds under a name, if there is one; of a name that stood twice in it, the last one
abbrev pub held_form : List ℕ → Block → Option Form
held_form name block = finite.get (with_all (forms_in block) finite.empty) name

-- the byte of this number of a text, as an item
abbrev pub byte_at : ℕ → List ℕ → Option Item
byte_at i text = option_map Byte (slice_get text i)

-- what stands at a place; a gap stands only in forms
abbrev pub found_at : State → Place → Option Item
found_at s (InActive i) = byte_at i s.active
found_at s (InBase i) = byte_at i s.base
found_at s (InArgument f k i) =
    option_and_then (λ frame. byte_at i (argument k (arguments_of frame))) (numbered f s.frames)
found_at s (InForm name i) = slice_get (items_of (finite.get s.forms name)) i
found_at s (InHeld number name i) = slice_get (items_of (held_form name (block_at number s.blocks))) i
found_at s (InOutput i) = byte_at i s.output
