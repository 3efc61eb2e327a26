-- Begun functions, taken from the outermost one on: fronts of a text, and what they have of its functions.
use Rattle.std.proofs.Common.{◌≡◌, ℕ, zero, suc, ◌+◌, ◌<◌, ◌≤◌, true, false, List, [], ◌∷◌, ◌++◌, length, take, drop, get_or, reverse, refl, sym, ap, ◌∙◌, subst, arith, ⊎_elim}
use Rattle.std.specs.Prelude.{Option, Some, None, is_some, slice_get}
use Rattle.std.proofs.Math.Nat.{eq-or-lt_of_le}
use Rattle.std.proofs.lemmas.Bool.{false≢true}
use Rattle.std.proofs.lemmas.List.Sums.{count_by_more_no, count_by_more_yes}
use Rattle.std.proofs.lemmas.List.{drop-drop, drop_all, length-append, length-drop, length-reverse, length-take-le, reverse-append, take-take, take_all}
use Rattle.trac_rules.specs.declared.kind.Kind.{Kind}
use Rattle.trac_rules.specs.State.{Frame}
use Rattle.trac_text.specs.declared.mark.Mark.{Mark}
use Rattle.trac_text.specs.Begun.{IsNextFunction, frames_from}
use Rattle.trac_text.specs.Cuts.{end_of, function_count, no_mark}
use Rattle.trac_text.specs.Frames.{IsFrame, IsInnermost}
use Rattle.trac_text.specs.Neutral.{Neutral, marked, neutral, AreMarks, MarkedText, IsOrdered, cut_back, neutral_of}
use Rattle.trac_text.proofs.Cutting.{end_of-end, end_of-mark}
use Rattle.trac_text.proofs.Ending.{marks_before, reverse_at, reverse_first}
use Rattle.trac_text.proofs.Neutral.{frames_counted}
use Rattle.trac_text.proofs.Peeling.{is_last_frame, outer_count, slice_get-front}

-- ---- the functions before a mark that begins one are the outermost ones

-- a text with its marks up to a place: its functions are the outermost ones of the whole text
pub record IsFront (m : MarkedText) (number : ℕ) (front : MarkedText) : Type 0 where
  pub count : length (neutral_of front).frames ≡ function_count (take number m.marks)
  pub inner : List Frame
  pub frames_are : (neutral_of m).frames ≡ inner ++ (neutral_of front).frames

-- there are frames before these, the first of which gets further arguments
record HasInner (all front : List Frame) : Type 0 where
  pub innermost : Frame
  pub others : List Frame
  pub is : all ≡ innermost ∷ others ++ front

marked_inner : (o : Option Kind) (text : List ℕ) (n : Neutral) (front : List Frame) → HasInner n.frames front → HasInner (marked o text n).frames front
marked_inner (Some kind) text n front h = record {
  innermost = record { kind = kind; arguments = []; gathered = text };
  others = h.innermost ∷ h.others;
  is = ap (λ (fs : List Frame). record { kind = kind; arguments = []; gathered = text } ∷ fs) h.is;
}
marked_inner None text n front h = record {
  innermost = record { kind = h.innermost.kind; arguments = h.innermost.arguments ++ h.innermost.gathered ∷ []; gathered = text };
  others = h.others;
  is = rw h.is refl;
}

place_before : (n : ℕ) (later : List Mark) (f : Mark) (before : List Mark) → AreMarks n (later ++ f ∷ before) → f.place ≤ n
place_before n [] f before a = a.0
place_before n (m ∷ later) f before a = omega (arith, a.0, place_before m.place later f before a.2)

after_front : (text : List ℕ) (later : List Mark) (f : Mark) (before : List Mark) (kind : Kind) → f.frame ≡ Some kind → AreMarks (length text) (later ++ f ∷ before) →
    HasInner (neutral text (later ++ f ∷ before)).frames (neutral (take f.place text) before).frames
after_front text [] f before kind is a = record {
  innermost = record { kind = kind; arguments = []; gathered = drop f.place text };
  others = [];
  is = rw is refl;
}
after_front text (m ∷ later) f before kind is a =
    let short : length (take m.place text) ≡ m.place = length-take-le m.place text a.0 in
    let inside : AreMarks (length (take m.place text)) (later ++ f ∷ before) = subst (λ (k : ℕ). AreMarks k (later ++ f ∷ before)) (sym short) a.2 in
    let found = after_front (take m.place text) later f before kind is inside in
    let same : take f.place (take m.place text) ≡ take f.place text = take-take f.place m.place text (place_before m.place later f before a.2) in
    marked_inner m.frame (drop m.place text) (neutral (take m.place text) (later ++ f ∷ before)) (neutral (take f.place text) before).frames
    (subst (λ (t : List ℕ). HasInner (neutral (take m.place text) (later ++ f ∷ before)).frames (neutral t before).frames) same found)

begins_some : (o : Option Kind) → is_some o ≡ true → (kind : Kind) × (o ≡ Some kind)
begins_some (Some kind) t = (kind, refl)
begins_some None t = absurd (false≢true t)

module _ (m : MarkedText) (number : ℕ) (ordered : IsOrdered m) (next : IsNextFunction m.marks number) (l : number < length m.marks) where
  abbrev here : Mark
  here = get_or m.marks number no_mark

  abbrev later : List Mark
  later = reverse (drop (number + 1) m.marks)

  abbrev before : List Mark
  before = reverse (take number m.marks)

  split : AreMarks (length m.text) (later ++ here ∷ before)
  split = subst (λ ms. AreMarks (length m.text) ms) (reverse_at m.marks number l) ordered

  -- the text before it
  pub place_inside : here.place ≤ length m.text
  place_inside = place_before (length m.text) later here before split

  -- its marks are in order
  pub front_ordered : (place : ℕ) → place ≡ here.place → IsOrdered (cut_back number place m)
  front_ordered place e =
      let short : length (take place m.text) ≡ here.place = length-take-le place m.text (omega (arith, e, place_inside)) ∙ e in
      subst (λ (n : ℕ). AreMarks n before) (sym short) (marks_before (length m.text) later here before split)

  -- it is a front
  pub is_front : (place : ℕ) → place ≡ here.place → IsFront m number (cut_back number place m)
  is_front place e =
      let kind = begins_some here.frame (next.begins l) in
      let found = after_front m.text later here before kind.0 kind.1 split in
      let at : neutral (take here.place m.text) before ≡ neutral (take place m.text) before = ap (λ (p : ℕ). neutral (take p m.text) before) (sym e) in
      record {
        count = sym (frames_counted (cut_back number place m));
        inner = found.innermost ∷ found.others;
        frames_are =
            ap (λ (ms : List Mark). (neutral m.text ms).frames) (reverse_at m.marks number l)
            ∙ found.is ∙ ap (λ (n : Neutral). (found.innermost ∷ found.others) ++ n.frames) at;
      }

-- the whole text is one too
is_whole_front : (m : MarkedText) (number : ℕ) → number ≡ length m.marks → IsFront m number m
is_whole_front m number e = record {
  count = sym (frames_counted m) ∙ ap function_count (sym (take_all number m.marks (omega (arith, e))));
  inner = [];
  frames_are = refl;
}

-- what the code makes of both
module _ (m : MarkedText) (number place : ℕ) (ordered : IsOrdered m) (next : IsNextFunction m.marks number) (e : place ≡ end_of (length m.text) m.marks number) where
  pub front_within : place ≤ length m.text
  front_within =
      ⊎_elim
      (λ (all : number ≡ length m.marks). omega (arith, e, end_of-end (length m.text) m.marks number (omega (arith, all))))
      (λ (l : number < length m.marks). omega (arith, e, end_of-mark (length m.text) m.marks number no_mark l, place_inside m number ordered next l))
      (eq-or-lt_of_le next.within)

  pub front_marks : AreMarks (length (take place m.text)) (reverse (take number m.marks))
  front_marks =
      ⊎_elim
      (λ (all : number ≡ length m.marks).
      let whole : take place m.text ≡ m.text = take_all place m.text (omega (arith, e, end_of-end (length m.text) m.marks number (omega (arith, all)))) in
      let every : take number m.marks ≡ m.marks = take_all number m.marks (omega (arith, all)) in
      rw (whole, every) ordered)
      (λ (l : number < length m.marks). front_ordered m number ordered next l place (e ∙ end_of-mark (length m.text) m.marks number no_mark l))
      (eq-or-lt_of_le next.within)

  pub front_is : IsFront m number (cut_back number place m)
  front_is =
      ⊎_elim
      (λ (all : number ≡ length m.marks).
      let whole : take place m.text ≡ m.text = take_all place m.text (omega (arith, e, end_of-end (length m.text) m.marks number (omega (arith, all)))) in
      let every : take number m.marks ≡ m.marks = take_all number m.marks (omega (arith, all)) in
      rw (whole, every) (is_whole_front m number all))
      (λ (l : number < length m.marks). is_front m number ordered next l place (e ∙ end_of-mark (length m.text) m.marks number no_mark l))
      (eq-or-lt_of_le next.within)

-- ---- where the walk begins and ends

-- the first mark of all begins a function
first_begins : (n : ℕ) (first : Mark) (later : List Mark) → AreMarks n (later ++ first ∷ []) → is_some first.frame ≡ true
first_begins n first [] a = begins first.frame a.1
  where
    begins : (o : Option Kind) → (o ≡ None → 0 < 0) → is_some o ≡ true
    begins (Some kind) h = refl
    begins None h = absurd (let no : 0 < 0 = h refl in omega arith)
first_begins n first (m ∷ later) a = first_begins m.place first later a.2

pub starts : (m : MarkedText) → IsOrdered m → IsNextFunction m.marks 0
starts m ordered = begun_at m.marks ordered
  where
    begun_at : (ms : List Mark) → AreMarks (length m.text) (reverse ms) → IsNextFunction ms 0
    begun_at [] a = record { within = omega arith; begins = λ l. absurd (omega arith) }
    begun_at (x ∷ ms) a = record {
      within = omega arith;
      begins = λ l. first_begins (length m.text) x (reverse ms) (subst (λ xs. AreMarks (length m.text) xs) (reverse_first x ms) a);
    }

-- after all marks no function is left
pub none_left : (m : MarkedText) (number : ℕ) → length m.marks ≤ number → frames_from number m ≡ []
none_left m number h =
    let counted : function_count (take number m.marks) ≡ length (neutral_of m).frames = ap function_count (take_all number m.marks h) ∙ frames_counted m in
    drop_all (function_count (take number m.marks)) (reverse (neutral_of m).frames) (omega (arith, counted, length-reverse (neutral_of m).frames))

-- ---- one function of the walk

-- a mark that begins no function counts for nothing, one that does for one
pub argument_counts : (marks : List Mark) (place : ℕ) → place < length marks → is_some (get_or marks place no_mark).frame ≡ false → function_count (take (place + 1) marks) ≡ function_count (take place marks)
argument_counts marks place l none = count_by_more_no (λ m. is_some m.frame) marks place no_mark l none

pub next_counts : (marks : List Mark) (place next : ℕ) → IsNextFunction marks place → place < length marks → function_count (take next marks) ≡ function_count (take (place + 1) marks) →
    function_count (take next marks) ≡ function_count (take place marks) + 1
next_counts marks place next begins l count = count ∙ count_by_more_yes (λ m. is_some m.frame) marks place no_mark l (begins.begins l)

get_of_drop : {X : Type 0} (n : ℕ) (xs : List X) → slice_get (drop n xs) 0 ≡ slice_get xs n
get_of_drop zero xs = refl
get_of_drop (suc n) [] = refl
get_of_drop (suc n) (x ∷ xs) = get_of_drop n xs

module _ (m front : MarkedText) (from next : ℕ) (is : IsFront m next front) (one_more : function_count (take next m.marks) ≡ function_count (take from m.marks) + 1) where
  -- it is the innermost of the front
  pub gives_frame : (number place : ℕ) (kind : Kind) (texts : List (List ℕ)) → IsInnermost front number place kind texts → IsFrame (slice_get (frames_from from m) 0) kind texts
  gives_frame number place kind texts inner =
      let passed : ℕ = function_count (take from m.marks) in
      let outer : passed ≡ length (neutral_of (cut_back number place front)).frames = omega (arith, one_more, is.count, outer_count front number place kind texts inner) in
      let shorter : passed < length (reverse (neutral_of front).frames) = omega (arith, one_more, is.count, length-reverse (neutral_of front).frames) in
      let same : slice_get (frames_from from m) 0 ≡ slice_get (reverse (neutral_of front).frames) passed =
      get_of_drop passed (reverse (neutral_of m).frames)
      ∙ ap (λ (fs : List Frame). slice_get (reverse fs) passed) is.frames_are
      ∙ ap (λ (fs : List Frame). slice_get fs passed) (reverse-append is.inner (neutral_of front).frames)
      ∙ slice_get-front (reverse (neutral_of front).frames) (reverse is.inner) passed shorter in
      subst (λ o. IsFrame o kind texts) (sym same) (is_last_frame front number place kind texts inner passed outer)

  -- and the others are left
  pub others_left : frames_from next m ≡ drop 1 (frames_from from m)
  others_left =
      ap (λ (n : ℕ). drop n (reverse (neutral_of m).frames)) one_more ∙ sym (drop-drop 1 (function_count (take from m.marks)) (reverse (neutral_of m).frames))

  -- a front has a function
  pub front_has_frames : (neutral_of front).frames ≡ [] → ⊥
  front_has_frames none = let empty : length (neutral_of front).frames ≡ 0 = ap length none in omega (arith, one_more, is.count)

  -- there are fewer of them by one
  pub one_less : length (frames_from next m) + 1 ≡ length (frames_from from m)
  one_less =
      let frames : List Frame = (neutral_of m).frames in
      let all : length frames ≡ length is.inner + length (neutral_of front).frames = ap length is.frames_are ∙ length-append is.inner (neutral_of front).frames in
      omega (
        arith,
        one_more,
        is.count,
        all,
        length-reverse frames,
        length-drop (function_count (take next m.marks)) (reverse frames),
        length-drop (function_count (take from m.marks)) (reverse frames),
      )
