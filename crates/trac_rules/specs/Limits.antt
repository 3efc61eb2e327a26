-- The limits on a state: how a state is measured. The numbers are this project's profile.
use Rattle.std.specs.Prelude.{ℕ, ◌+◌, ◌&&◌, nat_le, List, [], ◌∷◌, length, Bool}
use Rattle.std.specs.FinMap as map
use Rattle.trac_rules.specs.declared.limit.TheConstants.{TEXT_LIMIT, MARK_LIMIT, FORM_LIMIT, NAME_LIMIT}
use Rattle.trac_rules.specs.declared.limit.TheConstants.{FORM_COUNT_LIMIT, OUTPUT_LIMIT}
use Rattle.trac_rules.specs.Form.{Form, all_items, extent}
use Rattle.trac_rules.specs.State.{Forms, Frame, State}

-- how many bytes the texts hold together
abbrev pub total_length : List (List ℕ) → ℕ
total_length [] = 0
total_length (text ∷ texts) = length text + total_length texts

-- how many bytes the arguments of the frames hold
abbrev pub argument_bytes : List Frame → ℕ
argument_bytes [] = 0
argument_bytes (f ∷ fs) = total_length f.arguments + length f.gathered + argument_bytes fs

-- one mark for each frame, and one for each finished argument
abbrev pub marks : List Frame → ℕ
marks [] = 0
marks (f ∷ fs) = 1 + length f.arguments + marks fs

-- active text, base text and all arguments
abbrev pub text_bytes : State → ℕ
text_bytes s = length s.active + length s.base + argument_bytes s.frames

-- whether texts, marks and output are within the limits. Forms and blocks are judged when a step changes them: forms as
-- stated below, and blocks where calls on them are defined
unfoldable pub texts_fit : State → Bool
texts_fit s =
    nat_le (text_bytes s) TEXT_LIMIT && nat_le (marks s.frames) MARK_LIMIT && nat_le (length s.output) OUTPUT_LIMIT

-- ---- forms

-- whether a form under this name is within the limits: its name, its items, and the bytes that it stands for
abbrev pub form_fits : List ℕ → Form → Bool
form_fits name form = nat_le (length name) NAME_LIMIT && nat_le (length (all_items form)) FORM_LIMIT
    && nat_le (extent (all_items form)) FORM_LIMIT

-- whether forms that are within the limits stay so when this one is put among them. `ds`, `ss` and the address
-- that `sb` makes are judged so, and of `fb` the number of forms. `dd`, `da`, `eb` and what only moves a pointer cannot
-- pass a limit. If a state is proper before a step, that is the same as judging all of it afterwards (the law
-- `states_stay_proper`)
unfoldable pub may_be_put : List ℕ → Form → Forms → Bool
may_be_put name form forms = form_fits name form && nat_le (map.len (map.insert forms name form)) FORM_COUNT_LIMIT
