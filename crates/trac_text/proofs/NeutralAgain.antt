-- The neutral text with begun functions put back: what it shows, and how large it is.
use Rattle.std.proofs.Common.{◌≡◌, ℕ, ◌+◌, ◌<◌, ◌≤◌, List, [], ◌∷◌, ◌++◌, length, map, reverse, refl, sym, ap, ◌∙◌, subst, arith}
use Rattle.std.specs.Prelude.{Option, Some, None}
use Rattle.std.specs.List.{concat}
use Rattle.std.proofs.lemmas.List.{append-nil, append_assoc, length-append, length-reverse}
use Rattle.std.proofs.lemmas.Option.{none-some}
use Rattle.trac_rules.specs.declared.kind.Kind.{Kind}
use Rattle.trac_rules.proofs.Bounded.{total_length-append}
use Rattle.trac_text.proofs.Joined.{total-joined}
use Rattle.trac_rules.specs.Limits.{argument_bytes, marks, total_length}
use Rattle.trac_rules.specs.State.{Frame}
use Rattle.trac_text.specs.declared.mark.Mark.{Mark}
use Rattle.trac_text.specs.Neutral.{AreMarks, Neutral, marked, neutral}
use Rattle.trac_text.proofs.Neutral.{AreMarks-longer, longer, neutral-append, neutral_bytes, bytes-neutral, marks-neutral}
use Rattle.trac_text.specs.Marks.{mark_at, comma_marks, function_marks}
use Rattle.trac_text.specs.Pieces.{Arguments, all_texts, frame_in, frames_in}
use Rattle.trac_text.proofs.Marking.{neutral-push, reverse_push}

-- a text with these marks, which are in order, is read as this base text and these frames
pub record Shows (text : List ℕ) (ms : List Mark) (n : Neutral) : Type 0 where
  pub same : neutral text (reverse ms) ≡ n
  pub ordered : AreMarks (length text) (reverse ms)

-- a text without marks is the base text
pub shows_base : (text : List ℕ) → Shows text [] (record { base = text; frames = [] })
shows_base text = record { same = refl; ordered = tt }

-- ---- one step

pub shows_more : (text more : List ℕ) (ms : List Mark) (n : Neutral) → Shows text ms n → Shows (text ++ more) ms (longer more n)
shows_more text more ms n shown = record {
  same = neutral-append text more (reverse ms) shown.ordered ∙ ap (longer more) shown.same;
  ordered = AreMarks-longer (length text) (length (text ++ more)) (reverse ms) (omega (arith, length-append text more)) shown.ordered;
}

pub shows_mark : (text : List ℕ) (ms : List Mark) (n : Neutral) (place : ℕ) (o : Option Kind) → place ≡ length text → (o ≡ None → 0 < length ms) → Shows text ms n →
    Shows text (ms ++ mark_at place o ∷ []) (marked o [] n)
shows_mark text ms n place o at above shown = record {
  same = ap (λ (k : ℕ). neutral text (reverse (ms ++ mark_at k o ∷ []))) at ∙ neutral-push text ms o ∙ ap (marked o []) shown.same;
  ordered = rw reverse_push (omega (arith, at), (λ e. rw length-reverse (above e)), subst (λ (k : ℕ). AreMarks k (reverse ms)) (sym at) shown.ordered);
}

-- ---- a function

-- base text and frames with this frame within the others
abbrev with_frame : List ℕ → List Frame → Kind → List (List ℕ) → List ℕ → Neutral
with_frame base fs kind arguments gathered = record { base = base; frames = record { kind = kind; arguments = arguments; gathered = gathered } ∷ fs }

module _ (base : List ℕ) (fs : List Frame) (kind : Kind) (gathered : List ℕ) where
  shows_arguments : (finished earlier : List (List ℕ)) (text : List ℕ) (ms : List Mark) (place : ℕ) → place ≡ length text → 0 < length ms → Shows text ms (with_frame base fs kind earlier []) →
      Shows (text ++ concat (finished ++ gathered ∷ [])) (ms ++ comma_marks place (map length finished)) (with_frame base fs kind (earlier ++ finished) gathered)
  shows_arguments [] earlier text ms place at some shown =
      let last : Shows (text ++ gathered) ms (with_frame base fs kind earlier gathered) = shows_more text gathered ms (with_frame base fs kind earlier []) shown in
      rw (append-nil gathered, append-nil ms, append-nil earlier) last
  shows_arguments (x ∷ finished) earlier text ms place at some shown =
      let longer_at : place + length x ≡ length (text ++ x) = omega (arith, at, length-append text x) in
      let one : Shows (text ++ x) ms (with_frame base fs kind earlier x) = shows_more text x ms (with_frame base fs kind earlier []) shown in
      let next : Shows (text ++ x) (ms ++ mark_at (place + length x) None ∷ []) (with_frame base fs kind (earlier ++ x ∷ []) []) =
      shows_mark (text ++ x) ms (with_frame base fs kind earlier x) (place + length x) None longer_at (λ _. some) one in
      let rest = shows_arguments finished (earlier ++ x ∷ []) (text ++ x) (ms ++ mark_at (place + length x) None ∷ []) (place + length x) longer_at
      (omega (arith, length-append ms (mark_at (place + length x) None ∷ []))) next in
      let text_is = append_assoc text x (concat (finished ++ gathered ∷ [])) in
      let marks_are = append_assoc ms (mark_at (place + length x) None ∷ []) (comma_marks (place + length x) (map length finished)) in
      let arguments_are = append_assoc earlier (x ∷ []) finished in
      subst (λ (t : List ℕ). Shows t (ms ++ comma_marks place (map length (x ∷ finished))) (with_frame base fs kind (earlier ++ x ∷ finished) gathered)) text_is
      (subst (λ (m : List Mark). Shows ((text ++ x) ++ concat (finished ++ gathered ∷ [])) m (with_frame base fs kind (earlier ++ x ∷ finished) gathered)) marks_are
      (subst (λ (a : List (List ℕ)). Shows ((text ++ x) ++ concat (finished ++ gathered ∷ [])) ((ms ++ mark_at (place + length x) None ∷ []) ++ comma_marks (place + length x) (map length finished)) (with_frame base fs kind a gathered)) arguments_are rest))

-- a function that is put at the end of the text is the innermost one
pub shows_function : (text : List ℕ) (ms : List Mark) (n : Neutral) (kind : Kind) (a : Arguments) → Shows text ms n →
    Shows (text ++ concat (all_texts a)) (ms ++ function_marks (length text) kind (map length a.finished)) (record n { frames = frame_in (kind, a) ∷ n.frames })
shows_function text ms n kind a shown =
    let begun : Shows text (ms ++ mark_at (length text) (Some kind) ∷ []) (with_frame n.base n.frames kind [] []) =
    shows_mark text ms n (length text) (Some kind) refl (λ e. absurd (none-some _ (sym e))) shown in
    subst (λ (m : List Mark). Shows (text ++ concat (all_texts a)) m (with_frame n.base n.frames kind a.finished a.gathered))
    (append_assoc ms (mark_at (length text) (Some kind) ∷ []) (comma_marks (length text) (map length a.finished)))
    (shows_arguments n.base n.frames kind a.gathered a.finished [] text (ms ++ mark_at (length text) (Some kind) ∷ []) (length text) refl
    (omega (arith, length-append ms (mark_at (length text) (Some kind) ∷ []))) begun)

-- ---- sizes

pub text_size : (text : List ℕ) (ms : List Mark) (n : Neutral) → Shows text ms n → length text ≡ length n.base + argument_bytes n.frames
text_size text ms n shown = sym (bytes-neutral text (reverse ms) shown.ordered) ∙ ap neutral_bytes shown.same

pub mark_size : (text : List ℕ) (ms : List Mark) (n : Neutral) → Shows text ms n → length ms ≡ marks n.frames
mark_size text ms n shown = sym (length-reverse ms) ∙ sym (marks-neutral text (reverse ms) (length text) shown.ordered) ∙ ap (λ (m : Neutral). marks m.frames) shown.same

-- the bytes of a function are those of its arguments
pub function_bytes : (finished : List (List ℕ)) (gathered : List ℕ) → length (concat (finished ++ gathered ∷ [])) ≡ total_length finished + length gathered
function_bytes finished gathered = sym (total-joined (finished ++ gathered ∷ [])) ∙ total_length-append finished gathered

-- a function after those that are left, and those that are put back already, are no more than all together
pub function_fits : (left back : List (Kind × Arguments)) (kind : Kind) (a : Arguments) →
    (length (concat (all_texts a)) + argument_bytes (frames_in back) ≤ argument_bytes (frames_in (left ++ (kind, a) ∷ back)))
    × (1 + length a.finished + marks (frames_in back) ≤ marks (frames_in (left ++ (kind, a) ∷ back)))
function_fits [] back kind a = (omega (arith, function_bytes a.finished a.gathered), omega arith)
function_fits (f ∷ left) back kind a =
    let after = function_fits left back kind a in
    (omega (arith, after.0), omega (arith, after.1))
