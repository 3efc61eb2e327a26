-- A text cut into arguments at the places of marks.
use Rattle.std.specs.Prelude.{◌≡◌, ℕ, zero, suc, ◌+◌, ◌-◌, ◌<◌, ◌≤◌, List, [], ◌∷◌, length, take, drop, get_or, None}
use Rattle.std.specs.Prelude.{Some, is_some, count_by}
use Rattle.trac_rules.specs.declared.kind.Kind.{Kind}
use Rattle.trac_text.specs.declared.mark.Mark.{Mark}

-- the text from a place on, cut at the places of the marks
abbrev pub cut : ℕ → List Mark → List ℕ → List (List ℕ)
cut from [] text = drop from text ∷ []
cut from (m ∷ marks) text = take (m.place - from) (drop from text) ∷ cut m.place marks text

-- the places do not fall, from the first place up to the length of the text
abbrev pub AreCuts : ℕ → List Mark → ℕ → Type 0
AreCuts from [] end = from ≤ end
AreCuts from (m ∷ marks) end = (from ≤ m.place) × AreCuts m.place marks end

-- where the argument of this number ends, in a text of this length
abbrev pub end_of : ℕ → List Mark → ℕ → ℕ
end_of end [] i = end
end_of end (m ∷ marks) zero = m.place
end_of end (m ∷ marks) (suc i) = end_of end marks i

-- what stands for a mark if there is none
abbrev pub no_mark : Mark
no_mark = record { place = 0; frame = None }

-- none of the marks begins a function
abbrev pub AreArguments : List Mark → Type 0
AreArguments [] = Unit {0}
AreArguments (m ∷ marks) = (m.frame ≡ None) × AreArguments marks

-- the mark of this number begins a function of this kind, and those after it begin only arguments
pub record BeginsFunction (marks : List Mark) (k : ℕ) (kind : Kind) : Type 0 where
  pub within : k < length marks
  pub begins : (get_or marks k no_mark).frame ≡ Some kind
  pub after : AreArguments (drop (k + 1) marks)

-- how many of the marks begin functions
abbrev pub function_count : List Mark → ℕ
function_count marks = count_by (λ m. is_some m.frame) marks
