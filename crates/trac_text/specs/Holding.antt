-- Active text, base text and begun functions, as lists with two ends hold them, and what a contract sees of them.
use Rattle.std.specs.Prelude.{◌≡◌, ℕ, ◌≤◌, ◌+◌, List, [], ◌∷◌, drop, length, Option, IsSomeAnd, refl}
use Rattle.std.specs.Coded.{Coded, code_by, coded×, coded_list, coded_ℕ}
use Rattle.trac_gap.specs.Ends.{Ends, item_count}
use Rattle.trac_rules.specs.declared.limit.TheConstants.{MARK_LIMIT, TEXT_LIMIT}
use Rattle.trac_rules.specs.Codes.{frame_code, text_code}
use Rattle.trac_rules.specs.Limits.{argument_bytes, marks}
use Rattle.trac_rules.specs.Records.{Texts, texts_in}
use Rattle.trac_rules.specs.State.{Frame, State, initial}
use Rattle.trac_text.specs.declared.mark.Mark.{Mark}
use Rattle.trac_text.specs.declared.calls.Beginning.{Beginning}
use Rattle.trac_text.specs.Cuts.{AreCuts, cut}
use Rattle.trac_text.specs.Frames.{IsInnermost, all_arguments}
use Rattle.trac_text.specs.Framing.{marked_in}
use Rattle.trac_text.specs.Neutral.{IsDepth, IsOrdered, MarkedText, neutral_of}

-- ---- what a contract sees

-- active text, base text and begun functions, the innermost first; how many bytes and how many marks there is room for
-- without more memory
pub record ShownTexts : Type 0 where
  pub texts : Texts
  pub text_room : ℕ
  pub mark_room : ℕ

abbrev pub shown_texts_code : Coded ShownTexts
shown_texts_code = code_by (List ℕ × (List ℕ × (List Frame × (ℕ × ℕ))))
    (coded× text_code (coded× text_code (coded× (coded_list frame_code) (coded× coded_ℕ coded_ℕ))))
    (λ m. (m.texts.active, (m.texts.base, (m.texts.frames, (m.text_room, m.mark_room)))))
    (λ p. record {
      texts = record { active = p.0; base = p.1.0; frames = p.1.1.0 };
      text_room = p.1.1.1.0;
      mark_room = p.1.1.1.1;
    }) (λ _. refl)

-- how many bytes they have
abbrev pub bytes_in : Texts → ℕ
bytes_in t = length t.active + length t.base + argument_bytes t.frames

-- there is room for these texts without more memory, and they pass no limit
pub record CanHold (m : ShownTexts) (t : Texts) : Type 0 where
  pub text_room : bytes_in t ≤ m.text_room
  pub mark_room : marks t.frames ≤ m.mark_room
  pub text_limit : bytes_in t ≤ TEXT_LIMIT
  pub mark_limit : marks t.frames ≤ MARK_LIMIT

-- ---- the rules, which speak of states

-- the state that has these texts, and all else as in the beginning
abbrev pub alone : Texts → State
alone t = record initial { active = t.active; base = t.base; frames = t.frames }

-- the texts that a rule makes of these: no rule of scanning looks at anything else
abbrev pub texts_by : (State → State) → Texts → Texts
texts_by rule t = texts_in (rule (alone t))

-- what a way back makes of texts is there, and there is room for it
abbrev pub CanHoldAgain : ShownTexts → Option State → Type 0
CanHoldAgain m before = IsSomeAnd before (λ s. CanHold m (texts_in s))

-- ---- the innermost function

-- the first of the frames, the innermost function, begins here: the base text and the other frames stand before it
abbrev pub BeginsFirst : List Frame → List ℕ → Beginning → Type 0
BeginsFirst [] base b = ⊥
BeginsFirst (f ∷ fs) base b = (b.kind ≡ f.kind) × (b.number ≡ marks fs) × (b.place ≡ length base + argument_bytes fs)

-- the innermost function begins here
abbrev pub BeginsInnermost : Texts → Beginning → Type 0
BeginsInnermost t b = BeginsFirst t.frames t.base b

-- all its arguments
abbrev pub innermost_arguments : List Frame → List (List ℕ)
innermost_arguments [] = []
innermost_arguments (f ∷ fs) = all_arguments f

-- a function begins here, the innermost of a text with its marks, and its arguments are cut from there on
pub record IsBegun (m : MarkedText) (b : Beginning) : Type 0 where
  pub cuts : AreCuts b.place (drop (b.number + 1) m.marks) (length m.text)
  pub innermost : IsInnermost m b.number b.place b.kind (cut b.place (drop (b.number + 1) m.marks) m.text)

-- ---- in the lists

-- the texts in these lists: the neutral text on the left with its marks, the active text on the right
abbrev pub texts_held : Ends ℕ → Ends Mark → Texts
texts_held text marks = record {
  active = text.right;
  base = (neutral_of (marked_in text marks)).base;
  frames = (neutral_of (marked_in text marks)).frames;
}

abbrev pub shown_texts : Ends ℕ → Ends Mark → ShownTexts
shown_texts text marks = record {
  texts = texts_held text marks;
  text_room = text.capacity;
  mark_room = marks.capacity;
}

-- what is true of the lists that hold texts, and of the number of begun functions that is kept beside them
pub record AreSound (functions : ℕ) (text : Ends ℕ) (marks : Ends Mark) : Type 0 where
  pub ordered : IsOrdered (marked_in text marks)
  pub depth : IsDepth functions (marked_in text marks)
  pub text_limit : item_count text ≤ TEXT_LIMIT
  pub mark_limit : length marks.left ≤ MARK_LIMIT
  pub text_room : item_count text ≤ text.capacity
  pub mark_room : length marks.left ≤ marks.capacity
  -- marks stand on the left alone, so all of the room is theirs
  pub on_left : marks.right ≡ []
