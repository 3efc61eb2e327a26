-- What walks look for: goals, which are met at some states and not at others.
use Rattle.std.specs.Prelude.{◌≡◌, ℕ, ◌==◌, ◌&&◌, ◌||◌, not, nat_lt, nat_le, is_some, List, [], ◌∷◌, ◌++◌, length}
use Rattle.std.specs.Prelude.{reverse, slice_get, Bool, true, false, Option, None, Some, codes}
use Rattle.std.specs.Cmp.Lexicographic.{pointwise}
use Rattle.std.specs.FinMap as finite
use Rattle.std.specs.List.{starts_with}
use Rattle.std.specs.Str.{bytes_eq}
use Rattle.trac_rules.specs.declared.item.Item.{Item}
use Rattle.trac_rules.specs.declared.item.Item.TheVariants.{Byte, Gap}
use Rattle.trac_rules.specs.declared.kind.Kind.{Kind}
use Rattle.trac_rules.specs.declared.kind.Kind.TheVariants.{Active, Neutral}
use Rattle.trac_rules.specs.Form.{Form, all_items}
use Rattle.trac_rules.specs.Scanning.{Call, Scanned, Moves, Calls, scan}
use Rattle.trac_rules.specs.Session.{Goal}
use Rattle.trac_rules.specs.State.{Frame, State}

-- ---- calls

-- the call that scanning asks for, if it asks for one
abbrev pub call_asked : Scanned → Option Call
call_asked (Moves t) = None
call_asked (Calls call) = Some call

-- the call that the next step would perform, if it would perform one
abbrev pub next_call : State → Option Call
next_call s = call_asked (scan s)

-- there is a call, of this kind and with these arguments
abbrev pub IsCall : Option Call → Kind → List (List ℕ) → Type 0
IsCall None kind arguments = ⊥
IsCall (Some call) kind arguments = (call.kind ≡ kind) × (call.arguments ≡ arguments)

-- whether the arguments of a call begin with these, its name first, byte for byte; no call begins with anything
abbrev pub begins_with : List (List ℕ) → Option Call → Bool
begins_with wanted None = false
begins_with wanted (Some call) = starts_with bytes_eq call.arguments wanted

-- the next step would perform a call whose first arguments are these; if none are given, any call
abbrev pub is_call_with : List (List ℕ) → Goal
is_call_with wanted s = begins_with wanted (next_call s)

-- ---- calls of a program's own

abbrev is_active : Kind → Bool
is_active Active = true
is_active Neutral = false

-- a begun function is active, and its arguments, the one being gathered last, begin with these
abbrev pub is_begun_with : List (List ℕ) → Option Frame → Bool
is_begun_with wanted None = false
is_begun_with wanted (Some f) = is_active f.kind && starts_with bytes_eq (f.arguments ++ f.gathered ∷ []) wanted

-- the begun function of this number, the outermost being number 0
abbrev pub frame_at : ℕ → State → Option Frame
frame_at number s = slice_get (reverse s.frames) number

-- the next step would perform the `rs` of the idle program `#(ps,#(rs))`. It alone is begun, with its `ps`, which has
-- gathered nothing, and what is left to scan is the end of both. So too if a program's own `rs` stands last in a text
-- that leaves nothing before it
abbrev pub is_idle_reading : Goal
is_idle_reading s = bytes_eq s.active (codes "))") && (length s.frames == 2)
    && is_begun_with (codes "ps" ∷ [] ∷ []) (frame_at 0 s) && is_begun_with (codes "rs" ∷ []) (frame_at 1 s)

-- the next step would perform its `ps`, which alone is begun, and what is left to scan is its end
abbrev pub is_idle_printing : Goal
is_idle_printing s =
    bytes_eq s.active (codes ")") && (length s.frames == 1) && is_begun_with (codes "ps" ∷ []) (frame_at 0 s)

-- the next step would perform a call, but not one of the idle program's own
abbrev pub is_own_call : Goal
is_own_call s = is_some (next_call s) && not (is_idle_reading s || is_idle_printing s)

-- ---- ends and beginnings of functions

-- the next step would perform the function that is the `depth`-th of the begun ones, counted from the outermost, from 1
abbrev pub is_end_of : ℕ → Goal
is_end_of depth s = is_some (next_call s) && (length s.frames == depth)

-- fewer than so many functions are begun
abbrev pub is_shallower : ℕ → Goal
is_shallower count s = nat_lt (length s.frames) count

-- at most so many bytes are left to scan
abbrev pub leaves_at_most : ℕ → Goal
leaves_at_most count s = nat_le (length s.active) count

-- ---- forms and output

abbrev pub is_same_item : Item → Item → Bool
is_same_item (Byte a) (Byte b) = a == b
is_same_item (Gap i v) (Gap k w) = (i == k) && (v == w)
is_same_item a b = false

-- two forms have the same items and the same pointer
abbrev pub is_same_form : Form → Form → Bool
is_same_form a b = (length a.before == length b.before) && pointwise is_same_item (all_items a) (all_items b)

-- there is a form on neither side, or the same one on both
abbrev pub is_form_as : Option Form → Option Form → Bool
is_form_as None None = true
is_form_as (Some a) (Some b) = is_same_form a b
is_form_as a b = false

-- the next step would perform a call, and the form of this name is another one than this, or only one of the two is
-- there. Nothing but a call changes a form, so on the way back this is the call that did
abbrev pub has_other_form : List ℕ → Option Form → Goal
has_other_form name form s = is_some (next_call s) && not (is_form_as (finite.get s.forms name) form)

-- at most so many bytes of the output are not released yet: so byte number `count` of it, the first
-- being number 0, is not printed yet
abbrev pub is_unprinted : ℕ → Goal
is_unprinted count s = nat_le (length s.output) count
