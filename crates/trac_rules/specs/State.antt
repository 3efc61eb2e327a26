-- The state of a processor: nine parts.
use Rattle.std.specs.Prelude.{ℕ, List, [], Option, Bool, false}
use Rattle.std.specs.Ordering.{nat_cmp}
use Rattle.std.specs.Cmp.Lexicographic.{slice_cmp}
use Rattle.std.specs.FinMap.{FinMap}
use Rattle.std.specs.FinMap as map
use Rattle.trac_rules.specs.declared.kind.Kind.{Kind}
use Rattle.trac_rules.specs.declared.byte.TheConstants.{APOSTROPHE}
use Rattle.trac_rules.specs.declared.width.Width.{Width}
use Rattle.trac_rules.specs.Bytes.{idle_program}
use Rattle.trac_rules.specs.Form.{Form}

-- a begun function: its kind, its finished arguments, and the argument being gathered
pub record Frame : Type 0 where
  pub kind : Kind
  pub arguments : List (List ℕ)
  pub gathered : List ℕ

-- the forms by their names
abbrev pub Forms : Type 0
Forms = FinMap (slice_cmp nat_cmp) Form

-- forms with their names, in an order
abbrev pub Held : Type 0
Held = List (List ℕ × Form)

-- a block is the forms that it holds, in their order, with their names; none if it is erased. In a proper state no name
-- stands twice in it (`AreHeld`)
abbrev pub Block : Type 0
Block = Option Held

-- form storage and block storage
pub record Storage : Type 0 where
  pub forms : Forms
  pub blocks : List Block

-- all that a processor remembers from one step to the next
pub record State : Type 0 where
  -- what is not scanned yet
  pub active : List ℕ
  -- the neutral text outside all begun functions
  pub base : List ℕ
  -- the begun functions, the innermost first
  pub frames : List Frame
  pub forms : Forms
  pub blocks : List Block
  -- the byte that ends a text of the input
  pub meta : ℕ
  -- whether each call is printed
  pub trace : Bool
  -- how many bytes of the tape are read
  pub position : ℕ
  -- what is printed and not released yet
  pub output : List ℕ

-- the storage of a state
abbrev pub storage_of : State → Storage
storage_of s = record { forms = s.forms; blocks = s.blocks }

-- the input as far as it is known, and whether it ends there
pub record Tape : Type 0 where
  pub bytes : List ℕ
  pub ended : Bool

-- what a step is given beside the state: the tape, and how wide numbers are. No step changes either
pub record Environment : Type 0 where
  pub tape : Tape
  pub width : Width

-- the state in which a processor begins
abbrev pub initial : State
initial = record {
  active = idle_program;
  base = [];
  frames = [];
  forms = map.empty;
  blocks = [];
  meta = APOSTROPHE;
  trace = false;
  position = 0;
  output = [];
}
