-- The innermost function at the end of a neutral text: its arguments, and what stands before it.
use Rattle.std.proofs.Common.{◌≡◌, ℕ, ◌+◌, ◌-◌, ◌<◌, ◌≤◌, List, [], ◌∷◌, ◌++◌, length, take, drop, get_or, reverse, refl, sym, ap, ◌∙◌, subst, arith}
use Rattle.std.specs.Prelude.{Some, None}
use Rattle.std.proofs.lemmas.List.{take-take, length-take-le, length-drop, take-append-drop, drop_more, reverse-append, reverse-reverse, append_assoc}
use Rattle.std.proofs.lemmas.Slice.{between_is}
use Rattle.std.proofs.lemmas.Grind.{reverse_onto}
use Rattle.trac_rules.specs.declared.kind.Kind.{Kind}
use Rattle.trac_text.specs.declared.mark.Mark.{Mark}
use Rattle.trac_text.specs.Cuts.{AreCuts, AreArguments, BeginsFunction, cut, no_mark}
use Rattle.trac_text.specs.Neutral.{Neutral, neutral, AreMarks, MarkedText, IsOrdered, neutral_of}
use Rattle.trac_text.specs.Frames.{IsInnermost}
use Rattle.trac_text.proofs.Cutting.{length-cut, start_within}

-- ---- cuts

AreCuts-push : (from : ℕ) (ms : List Mark) (m : Mark) (n : ℕ) → AreCuts from ms m.place → m.place ≤ n → AreCuts from (ms ++ m ∷ []) n
AreCuts-push from [] m n cuts h = (cuts, h)
AreCuts-push from (k ∷ ms) m n cuts h = (cuts.0, AreCuts-push k.place ms m n cuts.1 h)

between_short : (text : List ℕ) (from place end : ℕ) → place ≤ end → take (place - from) (drop from (take end text)) ≡ take (place - from) (drop from text)
between_short text from place end h = between_is (take end text) from place ∙ ap (drop from) (take-take place end text h) ∙ sym (between_is text from place)

-- a further argument is what stands after its mark
cut-push : (from : ℕ) (ms : List Mark) (m : Mark) (text : List ℕ) → AreCuts from ms m.place →
    cut from (ms ++ m ∷ []) text ≡ cut from ms (take m.place text) ++ drop m.place text ∷ []
cut-push from [] m text cuts = ap (λ (first : List ℕ). first ∷ drop m.place text ∷ []) (between_is text from m.place)
cut-push from (k ∷ ms) m text cuts =
    ap (λ (first : List ℕ). first ∷ cut k.place (ms ++ m ∷ []) text) (sym (between_short text from k.place m.place (start_within k.place ms m.place cuts.1)))
    ∙ ap (λ (rest : List (List ℕ)). take (k.place - from) (drop from (take m.place text)) ∷ rest) (cut-push k.place ms m text cuts.1)

-- ---- marks the other way round

pub reverse_first : {X : Type 0} (x : X) (xs : List X) → reverse (x ∷ xs) ≡ reverse xs ++ x ∷ []
reverse_first x xs = reverse_onto xs x []

AreArguments-append : (xs ys : List Mark) → AreArguments xs → AreArguments ys → AreArguments (xs ++ ys)
AreArguments-append [] ys a b = b
AreArguments-append (x ∷ xs) ys a b = (a.0, AreArguments-append xs ys a.1 b)

AreArguments-reverse : (xs : List Mark) → AreArguments xs → AreArguments (reverse xs)
AreArguments-reverse [] a = tt
AreArguments-reverse (x ∷ xs) a = rw (reverse_first x xs) (AreArguments-append (reverse xs) (x ∷ []) (AreArguments-reverse xs a.1) (a.0, tt))

-- the marks at a place k, the last one first
pub reverse_at : (ms : List Mark) (k : ℕ) → k < length ms → reverse ms ≡ reverse (drop (k + 1) ms) ++ get_or ms k no_mark ∷ reverse (take k ms)
reverse_at ms k l =
    ap reverse (sym (take-append-drop k ms) ∙ ap (λ rest. take k ms ++ rest) (drop_more ms k no_mark l))
    ∙ reverse-append (take k ms) (get_or ms k no_mark ∷ drop (k + 1) ms)
    ∙ ap (λ front. front ++ reverse (take k ms)) (reverse_first (get_or ms k no_mark) (drop (k + 1) ms))
    ∙ append_assoc (reverse (drop (k + 1) ms)) (get_or ms k no_mark ∷ []) (reverse (take k ms))

-- ---- the innermost function, its further marks being `args`, the last first

cuts_of_marks : (n : ℕ) (args : List Mark) (f : Mark) (before : List Mark) → AreMarks n (args ++ f ∷ before) → AreCuts f.place (reverse args) n
cuts_of_marks n [] f before a = a.0
cuts_of_marks n (m ∷ args) f before a = rw (reverse_first m args) (AreCuts-push f.place (reverse args) m n (cuts_of_marks m.place args f before a.2) a.0)

pub marks_before : (n : ℕ) (args : List Mark) (f : Mark) (before : List Mark) → AreMarks n (args ++ f ∷ before) → AreMarks f.place before
marks_before n [] f before a = a.2
marks_before n (m ∷ args) f before a = marks_before m.place args f before a.2

-- the frame that ends the text: all its arguments are the cuts, and the rest is what stands before its mark
record EndsWith (n : Neutral) (kind : Kind) (texts : List (List ℕ)) (rest : Neutral) : Type 0 where
  pub arguments : List (List ℕ)
  pub gathered : List ℕ
  pub texts_are : arguments ++ gathered ∷ [] ≡ texts
  pub neutral_is : n ≡ record { base = rest.base; frames = record { kind = kind; arguments = arguments; gathered = gathered } ∷ rest.frames }

ends_with : (text : List ℕ) (args : List Mark) (f : Mark) (before : List Mark) (kind : Kind) → AreArguments args → f.frame ≡ Some kind → AreMarks (length text) (args ++ f ∷ before) →
    EndsWith (neutral text (args ++ f ∷ before)) kind (cut f.place (reverse args) text) (neutral (take f.place text) before)
ends_with text [] f before kind args_are is a = record {
  arguments = [];
  gathered = drop f.place text;
  texts_are = refl;
  neutral_is = rw is refl;
}
ends_with text (m ∷ args) f before kind args_are is a =
    let front : length (take m.place text) ≡ m.place = length-take-le m.place text a.0 in
    let inner_marks : AreMarks (length (take m.place text)) (args ++ f ∷ before) = subst (λ (k : ℕ). AreMarks k (args ++ f ∷ before)) (sym front) a.2 in
    let inner = ends_with (take m.place text) args f before kind args_are.1 is inner_marks in
    let below : f.place ≤ m.place = start_within f.place (reverse args) m.place (cuts_of_marks m.place args f before a.2) in
    record {
      arguments = inner.arguments ++ inner.gathered ∷ [];
      gathered = drop m.place text;
      texts_are =
          ap (λ (texts : List (List ℕ)). texts ++ drop m.place text ∷ []) inner.texts_are
          ∙ sym (cut-push f.place (reverse args) m text (cuts_of_marks m.place args f before a.2))
          ∙ ap (λ ms. cut f.place ms text) (sym (reverse_first m args));
      neutral_is = rw (args_are.0, inner.neutral_is, take-take f.place m.place text below) refl;
    }

-- ---- the mark of this number begins the innermost function

module _ (m : MarkedText) (k : ℕ) (kind : Kind) (ordered : IsOrdered m) (begins : BeginsFunction m.marks k kind) where
  abbrev first : Mark
  first = get_or m.marks k no_mark

  abbrev after : List Mark
  after = drop (k + 1) m.marks

  abbrev before : List Mark
  before = reverse (take k m.marks)

  split_marks : AreMarks (length m.text) (reverse after ++ first ∷ before)
  split_marks = subst (λ ms. AreMarks (length m.text) ms) (reverse_at m.marks k begins.within) ordered

  pub cuts_after : AreCuts first.place after (length m.text)
  cuts_after = subst (λ ms. AreCuts first.place ms (length m.text)) (reverse-reverse after) (cuts_of_marks (length m.text) (reverse after) first before split_marks)

  ends : EndsWith (neutral_of m) kind (cut first.place after m.text) (neutral (take first.place m.text) before)
  ends =
      let found = ends_with m.text (reverse after) first before kind (AreArguments-reverse after begins.after) begins.begins split_marks in
      let P : List Mark → Type 0 = λ ms. EndsWith (neutral m.text ms) kind (cut first.place after m.text) (neutral (take first.place m.text) before) in
      let Q : List Mark → Type 0 = λ ms. EndsWith (neutral m.text (reverse after ++ first ∷ before)) kind (cut first.place ms m.text) (neutral (take first.place m.text) before) in
      subst P (sym (reverse_at m.marks k begins.within)) (subst Q (reverse-reverse after) found)

  pub is_innermost : (place : ℕ) (texts : List (List ℕ)) → place ≡ first.place → texts ≡ cut place after m.text → IsInnermost m k place kind texts
  is_innermost place texts at cut_so =
      let within : first.place ≤ length m.text = start_within first.place after (length m.text) cuts_after in
      let in_front : AreMarks first.place before = marks_before (length m.text) (reverse after) first before split_marks in
      let here : length (take place m.text) ≡ first.place = length-take-le place m.text (rw at within) ∙ at in
      let counted : length texts ≡ length after + 1 = ap length cut_so ∙ length-cut place after m.text in
      let rest : neutral (take place m.text) before ≡ neutral (take first.place m.text) before = ap (λ (p : ℕ). neutral (take p m.text) before) at in
      record {
        within = begins.within;
        place_within = rw at within;
        ordered = subst (λ (n : ℕ). AreMarks n before) (sym here) in_front;
        count = omega (arith, counted, length-drop (k + 1) m.marks, begins.within);
        frame = record { kind = kind; arguments = ends.arguments; gathered = ends.gathered };
        kind_is = refl;
        arguments_are = ends.texts_are ∙ ap (λ (p : ℕ). cut p after m.text) (sym at) ∙ sym cut_so;
        base_is = ap (λ (n : Neutral). n.base) ends.neutral_is ∙ ap (λ (n : Neutral). n.base) (sym rest);
        frames_are =
            ap (λ (n : Neutral). n.frames) ends.neutral_is
            ∙ ap (λ (n : Neutral). record { kind = kind; arguments = ends.arguments; gathered = ends.gathered } ∷ n.frames) (sym rest);
      }

-- where no mark begins a function, there are no marks
pub no_function : (m : MarkedText) → IsOrdered m → AreArguments m.marks → (neutral_of m).frames ≡ []
no_function m ordered all = none_in m.marks ordered all
  where
    first_begins : (n : ℕ) (last : Mark) (xs : List Mark) → AreMarks n (xs ++ last ∷ []) → last.frame ≡ None → ⊥
    first_begins n last [] a e = let some : 0 < 0 = a.1 e in omega arith
    first_begins n last (x ∷ xs) a e = first_begins x.place last xs a.2 e

    none_in : (ms : List Mark) → AreMarks (length m.text) (reverse ms) → AreArguments ms → (neutral m.text (reverse ms)).frames ≡ []
    none_in [] a h = refl
    none_in (x ∷ ms) a h = absurd (first_begins (length m.text) x (reverse ms) (subst (λ xs. AreMarks (length m.text) xs) (reverse_first x ms) a) h.0)
