-- How long the arguments are, told by the marks between them.
use Rattle.std.proofs.Common.{◌≡◌, ℕ, ◌+◌, ◌-◌, ◌<◌, ◌≤◌, List, [], ◌∷◌, length, map, take, drop, get_or, refl, ap, ◌∙◌, arith, subst, sym}
use Rattle.std.proofs.lemmas.List.{length-drop, length-take-le, drop_more}
use Rattle.std.specs.List.{concat}
use Rattle.trac_text.specs.declared.mark.Mark.{Mark}
use Rattle.trac_text.specs.Cuts.{AreCuts, cut, no_mark}
use Rattle.trac_text.proofs.Cutting.{concat-cut, length-cut, start_within}

-- how many bytes lie from a place up to the first mark, and from each mark up to the next
abbrev pub lengths_between : ℕ → List Mark → List ℕ
lengths_between from [] = []
lengths_between from (m ∷ marks) = (m.place - from) ∷ lengths_between m.place marks

-- the next of the marks that are left is within the end
pub next_within : (start : ℕ) (marks : List Mark) (i end : ℕ) → i < length marks → AreCuts start (drop i marks) end → (get_or marks i no_mark).place ≤ end
next_within start marks i end h cuts =
    let next : AreCuts start (get_or marks i no_mark ∷ drop (i + 1) marks) end = subst (λ (ms : List Mark). AreCuts start ms end) (drop_more marks i no_mark h) cuts in
    start_within (get_or marks i no_mark).place (drop (i + 1) marks) end next.1

-- cuts up to one end are cuts up to a later one
cuts_up_to : (from : ℕ) (marks : List Mark) (end most : ℕ) → AreCuts from marks end → end ≤ most → AreCuts from marks most
cuts_up_to from [] end most cuts h = omega (arith, cuts)
cuts_up_to from (m ∷ marks) end most cuts h = (cuts.0, cuts_up_to m.place marks end most cuts.1 h)

-- where the arguments have few bytes together, no mark is far from where they start
pub marks_near : (from : ℕ) (marks : List Mark) (text : List ℕ) (most : ℕ) → AreCuts from marks (length text) → length (concat (cut from marks text)) ≤ most → AreCuts from marks (from + most)
marks_near from marks text most cuts h =
    let bytes : length (concat (cut from marks text)) ≡ length (drop from text) = ap (λ (xs : List ℕ). length xs) (concat-cut from marks text cuts) in
    cuts_up_to from marks (length text) (from + most) cuts (omega (arith, bytes, length-drop from text))

-- the lengths of all arguments but the last
lengths_before_last : (from : ℕ) (marks : List Mark) (text : List ℕ) → AreCuts from marks (length text) → map length (take (length marks) (cut from marks text)) ≡ lengths_between from marks
lengths_before_last from [] text cuts = refl
lengths_before_last from (m ∷ marks) text cuts =
    let within : m.place ≤ length text = start_within m.place marks (length text) cuts.1 in
    λ i. length-take-le (m.place - from) (drop from text) (omega (arith, length-drop from text)) i ∷ lengths_before_last m.place marks text cuts.1 i

pub lengths_told : (from : ℕ) (marks : List Mark) (text : List ℕ) (texts : List (List ℕ)) → AreCuts from marks (length text) → cut from marks text ≡ texts →
    lengths_between from marks ≡ map length (take (length texts - 1) texts)
lengths_told from marks text texts cuts is =
    let count : length marks ≡ length texts - 1 = omega (arith, length-cut from marks text, ap (λ (ts : List (List ℕ)). length ts) is) in
    sym (lengths_before_last from marks text cuts) ∙ (λ i. map length (take (count i) (is i)))
