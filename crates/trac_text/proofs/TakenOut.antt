-- Begun functions: their arguments cut from the text that holds them, and taken out of the neutral text one after another.
use Rattle.std.proofs.Common.{◌≡◌, ℕ, ◌+◌, ◌<◌, ◌≤◌, List, [], ◌∷◌, ◌++◌, length, map, drop, get_or, reverse, sym, ap, ◌∙◌, arith}
use Rattle.std.proofs.lemmas.List.{append_assoc, map-append, reverse-reverse, length-append, drop_more}
use Rattle.std.proofs.lemmas.List.Sums.{sum_by-cons}
use Rattle.std.specs.List.{concat, sum}
use Rattle.trac_rules.specs.declared.kind.Kind.{Kind}
use Rattle.trac_rules.specs.Limits.{total_length}
use Rattle.trac_rules.specs.State.{Frame}
use Rattle.trac_text.specs.Frames.{all_arguments}
use Rattle.trac_text.specs.Pieces.{Arguments, all_texts, frame_in, frames_in}
use Rattle.trac_text.proofs.NeutralAgain.{function_bytes}
use Rattle.trac_text.proofs.Marking.{reverse_push}

-- ---- functions taken out one after another

-- lists that are the same with one more at the end of each are the same, and so are these two
pub same_before_last : {X : Type 0} (xs ys : List X) (x y : X) → xs ++ x ∷ [] ≡ ys ++ y ∷ [] → (xs ≡ ys) × (x ≡ y)
same_before_last xs ys x y e =
    let back : x ∷ reverse xs ≡ y ∷ reverse ys = sym (reverse_push xs x) ∙ ap reverse e ∙ reverse_push ys y in
    let fronts : reverse xs ≡ reverse ys = cc in
    (sym (reverse-reverse xs) ∙ ap reverse fronts ∙ reverse-reverse ys, cc)

-- a frame is known by its kind and all its arguments
pub same_frame : (f : Frame) (kind : Kind) (a : Arguments) → f.kind ≡ kind → all_arguments f ≡ all_texts a → f ≡ frame_in (kind, a)
same_frame f kind a kind_is arguments_are =
    let same = same_before_last f.arguments a.finished f.gathered a.gathered arguments_are in
    λ i. record { kind = kind_is i; arguments = same.0 i; gathered = same.1 i }

-- one more function is taken out, the innermost one that was left
pub one_more : (taken more : List (Kind × Arguments)) (left rest all : List Frame) (f : Frame) (kind : Kind) (a : Arguments) →
    more ≡ taken ++ (kind, a) ∷ [] → left ≡ f ∷ rest → f ≡ frame_in (kind, a) → frames_in taken ++ left ≡ all → frames_in more ++ rest ≡ all
one_more taken more left rest all f kind a more_is first is so_far =
    ap (λ (functions : List (Kind × Arguments)). frames_in functions ++ rest) more_is
    ∙ ap (λ (fs : List Frame). fs ++ rest) (map-append frame_in taken ((kind, a) ∷ []))
    ∙ append_assoc (frames_in taken) (frame_in (kind, a) ∷ []) rest
    ∙ ap (λ (g : Frame). frames_in taken ++ g ∷ rest) (sym is)
    ∙ ap (λ (fs : List Frame). frames_in taken ++ fs) (sym first)
    ∙ so_far

-- all arguments of a frame: there is one, and their bytes are those of the frame
pub sizes_of : (f : Frame) (texts : List (List ℕ)) → all_arguments f ≡ texts → (1 ≤ length texts) × (length (concat texts) ≡ total_length f.arguments + length f.gathered)
sizes_of f texts is = (
  omega (arith, length-append f.arguments (f.gathered ∷ []), ap (λ (ts : List (List ℕ)). length ts) is),
  sym (ap (λ (ts : List (List ℕ)). length (concat ts)) is) ∙ function_bytes f.arguments f.gathered,
)

-- ---- the marks of a function that is put back

-- all arguments but the last are within the bytes
pub finished_within : (finished : List (List ℕ)) (gathered : List ℕ) → sum (map length finished) ≤ length (concat (finished ++ gathered ∷ []))
finished_within [] gathered = omega arith
finished_within (text ∷ finished) gathered =
    omega (arith, sum_by-cons (λ (k : ℕ). k) (length text) (map length finished), finished_within finished gathered, length-append text (concat (finished ++ gathered ∷ [])))

-- the next of the lengths that are left
pub next_length : (lengths : List ℕ) (i : ℕ) → i < length lengths → sum (drop i lengths) ≡ get_or lengths i 0 + sum (drop (i + 1) lengths)
next_length lengths i h = ap sum (drop_more lengths i 0 h) ∙ sum_by-cons (λ (k : ℕ). k) (get_or lengths i 0) (drop (i + 1) lengths)
