-- Lists of origins that stand beside the texts and forms of a state: one origin for each byte, and
-- one for each item of a form.
use Rattle.std.specs.Prelude.{ℕ, suc, ◌+◌, List, [], ◌∷◌, ◌++◌, length, get_or}
use Rattle.std.specs.FinMap as finite
use Rattle.std.specs.Option.{option_map_or}
use Rattle.trac_rules.specs.Blocks.{block_at}
use Rattle.trac_rules.specs.State.{Frame, State}
use Rattle.trac_origins.specs.Places.{Place, InActive, InBase, InArgument, InForm, InHeld, InOutput, Origin, Carried}
use Rattle.trac_origins.specs.Places.{Read, Made, held_form, items_of, numbered}

-- of a begun function, as its arguments stand
pub record FrameOrigins : Type 0 where
  pub arguments : List (List Origin)
  pub gathered : List Origin

-- of a state, as its parts stand
pub record Origins : Type 0 where
  pub active : List Origin
  pub base : List Origin
  -- the innermost first
  pub frames : List FrameOrigins
  pub output : List Origin
  -- of the items of a form, by its name. Of a name without a form it says nothing
  pub forms : List ℕ → List Origin
  -- of the items of a form that a block holds, by the block's number and the form's name
  pub blocks : ℕ → List ℕ → List Origin

-- ---- one origin for each

-- an origin for each of a list, by its number
abbrev pub one_each : {A : Type 0} → (ℕ → Origin) → List A → List Origin
one_each from [] = []
one_each from (x ∷ xs) = from 0 ∷ one_each (λ i. from (suc i)) xs

-- each kept its place
abbrev pub kept : {A : Type 0} → (ℕ → Place) → List A → List Origin
kept place xs = one_each (λ i. Carried (place i)) xs

-- each is read, the first one being the byte of this number of the tape
abbrev pub all_read : ℕ → List ℕ → List Origin
all_read n text = one_each (λ i. Read (n + i)) text

-- each is made
abbrev pub all_made : List ℕ → List Origin
all_made text = one_each (λ i. Made) text

-- ---- a state in which nothing has moved

-- each byte of each of these texts kept its place
abbrev pub texts_kept : (ℕ → ℕ → Place) → List (List ℕ) → List (List Origin)
texts_kept place [] = []
texts_kept place (text ∷ texts) = kept (place 0) text ∷ texts_kept (λ k. place (suc k)) texts

-- and of the function of this number
abbrev pub frame_kept : ℕ → Frame → FrameOrigins
frame_kept n f = record {
  arguments = texts_kept (InArgument n) f.arguments;
  gathered = kept (InArgument n (length f.arguments)) f.gathered;
}

-- and of all functions
abbrev pub frames_kept : List Frame → List FrameOrigins
frames_kept [] = []
frames_kept (f ∷ fs) = frame_kept (length fs) f ∷ frames_kept fs

-- and all of a state
abbrev pub all_kept : State → Origins
all_kept s = record {
  active = kept InActive s.active;
  base = kept InBase s.base;
  frames = frames_kept s.frames;
  output = kept InOutput s.output;
  forms = λ name. kept (InForm name) (items_of (finite.get s.forms name));
  blocks = λ number name. kept (InHeld number name) (items_of (held_form name (block_at number s.blocks)));
}

-- ---- the origin at a place

-- of all arguments of a begun function, the one being gathered last
abbrev pub lists_of : FrameOrigins → List (List Origin)
lists_of f = f.arguments ++ f.gathered ∷ []

-- where what stands at a place comes from; `Made` if nothing stands
abbrev pub origin_at : Origins → Place → Origin
origin_at o (InActive i) = get_or o.active i Made
origin_at o (InBase i) = get_or o.base i Made
origin_at o (InArgument f k i) =
    option_map_or (λ frame. get_or (get_or (lists_of frame) k []) i Made) (numbered f o.frames) Made
origin_at o (InForm name i) = get_or (o.forms name) i Made
origin_at o (InHeld number name i) = get_or (o.blocks number name) i Made
origin_at o (InOutput i) = get_or o.output i Made
