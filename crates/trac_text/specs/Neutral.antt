-- The neutral text with its marks, read as base text and begun functions.
use Rattle.std.specs.Prelude.{◌≡◌, ℕ, ◌<◌, ◌≤◌, List, [], ◌∷◌, length, take, drop, reverse, Option, None, Some, refl}
use Rattle.std.specs.Coded.{Coded, code_by, coded×, coded_list, coded_option, coded_ℕ}
use Rattle.trac_rules.specs.declared.kind.Kind.{Kind}
use Rattle.trac_rules.specs.Codes.{kind_code, text_code}
use Rattle.trac_rules.specs.State.{Frame}
use Rattle.trac_rules.specs.Scanning.{with_next_argument}
use Rattle.trac_text.specs.declared.mark.Mark.{Mark}

-- ---- base text and frames

-- base text and frames, the innermost first
pub record Neutral : Type 0 where
  pub base : List ℕ
  pub frames : List Frame

-- the innermost function has a further argument
abbrev pub with_argument : List ℕ → List Frame → List Frame
with_argument text [] = []
with_argument text (f ∷ fs) = record (with_next_argument f) { gathered = text } ∷ fs

-- a mark, and the text after it: it begins a function, or a further argument of the innermost one
abbrev pub marked : Option Kind → List ℕ → Neutral → Neutral
marked (Some kind) text n = record n { frames = record { kind = kind; arguments = []; gathered = text } ∷ n.frames }
marked None text n = record n { frames = with_argument text n.frames }

-- a neutral text with its marks, the last one first
abbrev pub neutral : List ℕ → List Mark → Neutral
neutral text [] = record { base = text; frames = [] }
neutral text (m ∷ marks) = marked m.frame (drop m.place text) (neutral (take m.place text) marks)

-- the marks of a text of this length, the last one first: no place falls, and the first of all begins a function
abbrev pub AreMarks : ℕ → List Mark → Type 0
AreMarks n [] = Unit {0}
AreMarks n (m ∷ marks) = (m.place ≤ n) × (m.frame ≡ None → 0 < length marks) × AreMarks m.place marks

-- ---- a text with its marks, as the code holds them

-- the marks stand from the first on
pub record MarkedText : Type 0 where
  pub text : List ℕ
  pub marks : List Mark

abbrev pub mark_code : Coded Mark
mark_code = code_by (ℕ × Option Kind) (coded× coded_ℕ (coded_option kind_code)) (λ m. (m.place, m.frame))
    (λ p. record { place = p.0; frame = p.1 }) (λ _. refl)

abbrev pub marked_text_code : Coded MarkedText
marked_text_code = code_by (List ℕ × List Mark) (coded× text_code (coded_list mark_code)) (λ m. (m.text, m.marks))
    (λ p. record { text = p.0; marks = p.1 }) (λ _. refl)

-- what the text is read as
abbrev pub neutral_of : MarkedText → Neutral
neutral_of m = neutral m.text (reverse m.marks)

-- the marks are in order
abbrev pub IsOrdered : MarkedText → Type 0
IsOrdered m = AreMarks (length m.text) (reverse m.marks)

-- so many functions are begun
abbrev pub IsDepth : ℕ → MarkedText → Type 0
IsDepth n m = n ≡ length (neutral_of m).frames

-- the text up to a place, and so many of its marks
abbrev pub cut_back : ℕ → ℕ → MarkedText → MarkedText
cut_back number place m = record { text = take place m.text; marks = take number m.marks }
