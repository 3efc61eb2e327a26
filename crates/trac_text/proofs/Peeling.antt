-- Begun functions, taken off from the innermost one on, and the base text.
use Rattle.std.proofs.Common.{◌≡◌, ℕ, zero, suc, ◌+◌, ◌<◌, ◌≤◌, List, [], ◌∷◌, ◌++◌, length, take, drop, get_or, reverse, refl, sym, ap, ◌∙◌, subst, arith}
use Rattle.std.specs.Prelude.{Option, Some, None, slice_get}
use Rattle.std.proofs.lemmas.List.{take-take, length-take-le, length-reverse}
use Rattle.trac_rules.specs.declared.kind.Kind.{Kind}
use Rattle.trac_rules.specs.State.{Frame}
use Rattle.trac_text.specs.declared.mark.Mark.{Mark}
use Rattle.trac_text.specs.Frames.{IsFrame, IsInnermost}
use Rattle.trac_text.specs.Neutral.{Neutral, marked, neutral, AreMarks, MarkedText, cut_back, neutral_of}
use Rattle.trac_text.proofs.Ending.{reverse_first}

-- ---- frames by their numbers

pub slice_get-front : {X : Type 0} (xs ys : List X) (i : ℕ) → i < length xs → slice_get (xs ++ ys) i ≡ slice_get xs i
slice_get-front [] ys i h = absurd (omega arith)
slice_get-front (x ∷ xs) ys zero h = refl
slice_get-front (x ∷ xs) ys (suc i) h = slice_get-front xs ys i (omega arith)

slice_get-push : {X : Type 0} (xs : List X) (x : X) (i : ℕ) → i ≡ length xs → slice_get (xs ++ x ∷ []) i ≡ Some x
slice_get-push [] x zero e = refl
slice_get-push [] x (suc i) e = absurd (omega arith)
slice_get-push (y ∷ xs) x zero e = absurd (omega arith)
slice_get-push (y ∷ xs) x (suc i) e = slice_get-push xs x i (omega arith)

module _ (m : MarkedText) (number place : ℕ) (kind : Kind) (texts : List (List ℕ)) (inner : IsInnermost m number place kind texts) where
  abbrev outer : List Frame
  outer = (neutral_of (cut_back number place m)).frames

  pub outer_count : length (neutral_of m).frames ≡ length outer + 1
  outer_count = let whole : length (neutral_of m).frames ≡ suc (length outer) = ap length inner.frames_are in omega arith

  pub is_last_frame : (i : ℕ) → i ≡ length outer → IsFrame (slice_get (reverse (neutral_of m).frames) i) kind texts
  is_last_frame i e =
      let found : slice_get (reverse (neutral_of m).frames) i ≡ Some inner.frame =
      ap (λ (fs : List Frame). slice_get (reverse fs) i) inner.frames_are ∙ ap (λ (fs : List Frame). slice_get fs i) (reverse_first inner.frame outer) ∙ slice_get-push (reverse outer) inner.frame i (e ∙ sym (length-reverse outer)) in
      subst (λ o. IsFrame o kind texts) (sym found) (inner.kind_is, inner.arguments_are)

-- ---- the base text

marked_base : (o : Option Kind) (text : List ℕ) (n : Neutral) → (marked o text n).base ≡ n.base
marked_base (Some kind) text n = refl
marked_base None text n = refl

first_place : (later : List Mark) (m : Mark) (n : ℕ) → AreMarks n (later ++ m ∷ []) → m.place ≤ n
first_place [] m n a = a.0
first_place (k ∷ later) m n a = let below : m.place ≤ k.place = first_place later m k.place a.2 in omega (arith, a.0)

-- it ends where the first mark stands
base_before : (later : List Mark) (m : Mark) (text : List ℕ) → AreMarks (length text) (later ++ m ∷ []) → (neutral text (later ++ m ∷ [])).base ≡ take m.place text
base_before [] m text a = marked_base m.frame (drop m.place text) (neutral (take m.place text) [])
base_before (k ∷ later) m text a =
    let front : length (take k.place text) ≡ k.place = length-take-le k.place text a.0 in
    let inner : AreMarks (length (take k.place text)) (later ++ m ∷ []) = subst (λ (n : ℕ). AreMarks n (later ++ m ∷ [])) (sym front) a.2 in
    marked_base k.frame (drop k.place text) (neutral (take k.place text) (later ++ m ∷ []))
    ∙ base_before later m (take k.place text) inner ∙ take-take m.place k.place text (first_place later m k.place a.2)

-- the first mark is within the text, and the text before it is the base text
pub base_at : (text : List ℕ) (marks : List Mark) (d : Mark) → AreMarks (length text) (reverse marks) → 0 < length marks →
    ((get_or marks 0 d).place ≤ length text) × ((neutral text (reverse marks)).base ≡ take (get_or marks 0 d).place text)
base_at text [] d a h = absurd (omega arith)
base_at text (m ∷ marks) d a h =
    let last_first : AreMarks (length text) (reverse marks ++ m ∷ []) = subst (λ ms. AreMarks (length text) ms) (reverse_first m marks) a in
    (first_place (reverse marks) m (length text) last_first, ap (λ (ms : List Mark). (neutral text ms).base) (reverse_first m marks) ∙ base_before (reverse marks) m text last_first)
