-- The neutral text and its marks: sizes, and what each change of them does to base text and frames.
use Rattle.std.proofs.Common.{◌≡◌, ℕ, ◌+◌, ◌<◌, ◌≤◌, List, [], ◌∷◌, ◌++◌, length, take, drop, reverse, refl, sym, ◌∙◌, subst, arith, Bool, true, false, cond}
use Rattle.std.specs.Prelude.{Option, Some, None, is_some, ◌==◌}
use Rattle.std.proofs.lemmas.Bool.{ne_eqb}
use Rattle.std.proofs.lemmas.List.{take_all, drop_all, take-append-le, drop-append-le, length-take-le, length-drop, length-append, length-reverse}
use Rattle.std.proofs.lemmas.List.Sums.{sum_by-cons}
use Rattle.std.proofs.lemmas.List.Sorted.{IsPermutation-reverse, sum_by-IsPermutation}
use Rattle.trac_rules.specs.declared.kind.Kind.{Kind}
use Rattle.trac_rules.specs.State.{Frame}
use Rattle.trac_rules.specs.Limits.{argument_bytes, marks}
use Rattle.trac_rules.proofs.Bounded.{total_length-append}
use Rattle.trac_text.specs.declared.mark.Mark.{Mark}
use Rattle.trac_text.specs.Cuts.{function_count}
use Rattle.trac_text.specs.Neutral.{Neutral, with_argument, marked, neutral, AreMarks, MarkedText, IsOrdered, neutral_of}

-- ---- sizes

-- a further argument adds the bytes of its text, where there is a function to have it
pub argument_bytes-argument : (text : List ℕ) (fs : List Frame) → 0 < length fs → argument_bytes (with_argument text fs) ≡ argument_bytes fs + length text
argument_bytes-argument text [] h = absurd (omega arith)
argument_bytes-argument text (f ∷ fs) h = omega (arith, total_length-append f.arguments f.gathered)

pub length-argument : (text : List ℕ) (fs : List Frame) → length (with_argument text fs) ≡ length fs
length-argument text [] = refl
length-argument text (f ∷ fs) = refl

pub marks-argument : (text : List ℕ) (fs : List Frame) → 0 < length fs → marks (with_argument text fs) ≡ marks fs + 1
marks-argument text [] h = absurd (omega arith)
marks-argument text (f ∷ fs) h = omega (arith, length-append f.arguments (f.gathered ∷ []))

-- ---- marks within a longer text

pub AreMarks-longer : (m n : ℕ) (ms : List Mark) → m ≤ n → AreMarks m ms → AreMarks n ms
AreMarks-longer m n [] h a = tt
AreMarks-longer m n (k ∷ ms) h a = (omega (arith, a.0), a.1, a.2)

-- where there are marks, there are frames
marked_frames : (o : Option Kind) (text : List ℕ) (n : Neutral) → (o ≡ None → 0 < length n.frames) → 0 < length (marked o text n).frames
marked_frames (Some kind) text n inner = omega arith
marked_frames None text n inner = omega (arith, length-argument text n.frames, inner refl)

pub has_frames : (text : List ℕ) (ms : List Mark) (n : ℕ) → AreMarks n ms → 0 < length ms → 0 < length (neutral text ms).frames
has_frames text [] n a h = absurd (omega arith)
has_frames text (m ∷ ms) n a h = marked_frames m.frame (drop m.place text) (neutral (take m.place text) ms) (λ e. has_frames (take m.place text) ms m.place a.2 (a.1 e))

-- ---- the sizes of a neutral text are those of its base text and frames

abbrev pub neutral_bytes : Neutral → ℕ
neutral_bytes n = length n.base + argument_bytes n.frames

marked_bytes : (o : Option Kind) (text : List ℕ) (n : Neutral) → (o ≡ None → 0 < length n.frames) → neutral_bytes (marked o text n) ≡ neutral_bytes n + length text
marked_bytes (Some kind) text n inner = omega arith
marked_bytes None text n inner = omega (arith, argument_bytes-argument text n.frames (inner refl))

pub bytes-neutral : (text : List ℕ) (ms : List Mark) → AreMarks (length text) ms → neutral_bytes (neutral text ms) ≡ length text
bytes-neutral text [] a = omega arith
bytes-neutral text (m ∷ ms) a =
    let front : length (take m.place text) ≡ m.place = length-take-le m.place text a.0 in
    let inner : AreMarks (length (take m.place text)) ms = subst (λ (k : ℕ). AreMarks k ms) (sym front) a.2 in
    omega (
      arith,
      marked_bytes m.frame (drop m.place text) (neutral (take m.place text) ms) (λ e. has_frames (take m.place text) ms m.place a.2 (a.1 e)),
      bytes-neutral (take m.place text) ms inner,
      front,
      length-drop m.place text,
    )

marked_marks : (o : Option Kind) (text : List ℕ) (n : Neutral) → (o ≡ None → 0 < length n.frames) → marks (marked o text n).frames ≡ marks n.frames + 1
marked_marks (Some kind) text n inner = omega arith
marked_marks None text n inner = omega (arith, marks-argument text n.frames (inner refl))

pub marks-neutral : (text : List ℕ) (ms : List Mark) (n : ℕ) → AreMarks n ms → marks (neutral text ms).frames ≡ length ms
marks-neutral text [] n a = refl
marks-neutral text (m ∷ ms) n a = omega (
  arith,
  marked_marks m.frame (drop m.place text) (neutral (take m.place text) ms) (λ e. has_frames (take m.place text) ms m.place a.2 (a.1 e)),
  marks-neutral (take m.place text) ms m.place a.2,
)

-- ---- a longer text: its end goes to the current text

-- base text and frames with a text at the end of the current one
abbrev pub longer : List ℕ → Neutral → Neutral
longer more n = longer_by n.frames more n
  where
    longer_by : List Frame → List ℕ → Neutral → Neutral
    longer_by [] more n = record n { base = n.base ++ more }
    longer_by (f ∷ fs) more n = record n { frames = record f { gathered = f.gathered ++ more } ∷ fs }

marked_longer : (o : Option Kind) (text more : List ℕ) (n : Neutral) → (o ≡ None → 0 < length n.frames) → marked o (text ++ more) n ≡ longer more (marked o text n)
marked_longer (Some kind) text more n inner = refl
marked_longer None text more n inner = marked_longer_in text more n.base n.frames (inner refl)
  where
    marked_longer_in : (text more base : List ℕ) (fs : List Frame) → 0 < length fs → marked None (text ++ more) (record { base = base; frames = fs }) ≡ longer more (marked None text (record { base = base; frames = fs }))
    marked_longer_in text more base [] h = absurd (omega arith)
    marked_longer_in text more base (f ∷ fs) h = refl

pub neutral-append : (text more : List ℕ) (ms : List Mark) → AreMarks (length text) ms → neutral (text ++ more) ms ≡ longer more (neutral text ms)
neutral-append text more [] a = refl
neutral-append text more (m ∷ ms) a =
    rw (take-append-le m.place text more a.0, drop-append-le m.place text more a.0)
    (marked_longer m.frame (drop m.place text) more (neutral (take m.place text) ms) (λ e. has_frames (take m.place text) ms m.place a.2 (a.1 e)))

-- ---- a mark at the end of the text

pub neutral-mark : (text : List ℕ) (o : Option Kind) (ms : List Mark) → neutral text (record { place = length text; frame = o } ∷ ms) ≡ marked o [] (neutral text ms)
neutral-mark text o ms = rw (take_all (length text) text (omega arith), drop_all (length text) text (omega arith)) refl

-- ---- how many functions are begun

marked_length : (o : Option Kind) (text : List ℕ) (n : Neutral) → length (marked o text n).frames ≡ cond (is_some o) (1 + length n.frames) (length n.frames)
marked_length (Some kind) text n = omega arith
marked_length None text n = length-argument text n.frames

pub length-neutral : (text : List ℕ) (ms : List Mark) → length (neutral text ms).frames ≡ function_count ms
length-neutral text [] = refl
length-neutral text (m ∷ ms) =
    marked_length m.frame (drop m.place text) (neutral (take m.place text) ms)
    ∙ counted (is_some m.frame) (length-neutral (take m.place text) ms)
    ∙ sym (sum_by-cons (λ (n : Mark). cond (is_some n.frame) 1 0) m ms)
  where
    counted : (b : Bool) → length (neutral (take m.place text) ms).frames ≡ function_count ms →
        cond b (1 + length (neutral (take m.place text) ms).frames) (length (neutral (take m.place text) ms).frames) ≡ cond b 1 0 + function_count ms
    counted true e = omega arith
    counted false e = omega arith

pub function_count-reverse : (ms : List Mark) → function_count (reverse ms) ≡ function_count ms
function_count-reverse ms = sum_by-IsPermutation (λ (m : Mark). cond (is_some m.frame) 1 0) ms (reverse ms) (IsPermutation-reverse ms)

-- so many functions are begun as there are marks that begin one
pub frames_counted : (m : MarkedText) → function_count m.marks ≡ length (neutral_of m).frames
frames_counted m = sym (length-neutral m.text (reverse m.marks) ∙ function_count-reverse m.marks)

-- no function is begun where there is no mark, and some function where there is one
pub outside_by_marks : (m : MarkedText) → IsOrdered m → (length m.marks == 0) ≡ (length (neutral_of m).frames == 0)
outside_by_marks m ordered = by_marks m.marks ordered
  where
    by_marks : (ms : List Mark) → AreMarks (length m.text) (reverse ms) → (length ms == 0) ≡ (length (neutral m.text (reverse ms)).frames == 0)
    by_marks [] a = refl
    by_marks (x ∷ ms) a =
        let inside : 0 < length (neutral m.text (reverse (x ∷ ms))).frames = has_frames m.text (reverse (x ∷ ms)) (length m.text) a (rw length-reverse (omega arith)) in
        ne_eqb (length (x ∷ ms)) 0 (omega arith) ∙ sym (ne_eqb (length (neutral m.text (reverse (x ∷ ms))).frames) 0 (omega arith))
