-- The marks of a begun function.
use Rattle.std.specs.Prelude.{ℕ, ◌+◌, List, [], ◌∷◌, length, Option, Some, None}
use Rattle.trac_rules.specs.declared.kind.Kind.{Kind}
use Rattle.trac_text.specs.declared.mark.Mark.{Mark}

-- the mark of a function of this kind at a place, or, if none is named, of a further argument
abbrev pub mark_at : ℕ → Option Kind → Mark
mark_at place o = record { place = place; frame = o }

-- those of its `,`, if the argument that the first of them ends begins at a place: each after so many bytes
abbrev pub comma_marks : ℕ → List ℕ → List Mark
comma_marks place [] = []
comma_marks place (n ∷ lengths) = mark_at (place + n) None ∷ comma_marks (place + n) lengths

-- all of them, if the function begins at a place and its arguments but for the last have these lengths
abbrev pub function_marks : ℕ → Kind → List ℕ → List Mark
function_marks place kind lengths = mark_at place (Some kind) ∷ comma_marks place lengths

-- those of arguments, the first of which is the function's that is named, or, if none is, a further one
abbrev pub argument_marks : ℕ → Option Kind → List (List ℕ) → List Mark
argument_marks place o [] = []
argument_marks place o (text ∷ texts) = mark_at place o ∷ argument_marks (place + length text) None texts
