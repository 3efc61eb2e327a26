-- What readers and writers hold, as one call follows another.
use Rattle.std.proofs.Common.{◌≡◌, ℕ, ◌+◌, ◌-◌, ◌≤◌, List, [], ◌∷◌, ◌++◌, length, take, drop, refl, sym, ap, subst, ◌∙◌, arith}
use Rattle.std.specs.Prelude.{Option, None, Some}
use Rattle.std.specs.Io.KnownBytes.{Keeps, Appends, Consumes}
use Rattle.std.proofs.Math.Seq.{take-add}
use Rattle.std.proofs.lemmas.List.{append-nil, append_assoc, length-drop, take_all, take-append-drop}
use Rattle.trac_rules.specs.Fronts.{IsFrontOf}

-- ---- writers

-- nothing is written
pub Appends-nothing : (o : Option (List ℕ)) → Appends o o []
Appends-nothing None = tt
Appends-nothing (Some xs) = sym (append-nil xs)

-- one text after another
pub Appends-both : (a b c : Option (List ℕ)) (x y : List ℕ) → Appends a b x → Appends b c y → Appends a c (x ++ y)
Appends-both None b c x y first second = tt
Appends-both (Some u) None c x y first second = absurd first
Appends-both (Some u) (Some v) None x y first second = absurd second
Appends-both (Some u) (Some v) (Some w) x y first second = second ∙ ap (λ t. t ++ y) first ∙ append_assoc u x y

-- a text, and then nothing
pub Appends-kept : (a b c : Option (List ℕ)) (x : List ℕ) → Appends a b x → Keeps b c → Appends a c x
Appends-kept None b c x first second = tt
Appends-kept (Some u) None c x first second = absurd first
Appends-kept (Some u) (Some v) None x first second = absurd second
Appends-kept (Some u) (Some v) (Some w) x first second = second ∙ first

-- another name of the text
pub Appends-same : (a b : Option (List ℕ)) (x y : List ℕ) → x ≡ y → Appends a b x → Appends a b y
Appends-same a b x y e h = subst (Appends a b) e h

-- ---- readers

-- nothing is read
pub Consumes-nothing : (o : Option (List ℕ)) → Consumes o o []
Consumes-nothing None = tt
Consumes-nothing (Some xs) = refl

-- one text after another
pub Consumes-both : (a b c : Option (List ℕ)) (x y : List ℕ) → Consumes a b x → Consumes b c y → Consumes a c (x ++ y)
Consumes-both None b c x y first second = tt
Consumes-both (Some u) None c x y first second = absurd first
Consumes-both (Some u) (Some v) None x y first second = absurd second
Consumes-both (Some u) (Some v) (Some w) x y first second = first ∙ ap (λ t. x ++ t) second ∙ sym (append_assoc x y w)

-- ---- fronts

-- a text is a front of itself
pub front_of_itself : (text : List ℕ) → IsFrontOf text text
front_of_itself text = ([], sym (append-nil text))

-- nothing is a front of every text
pub front_of_nothing : (text : List ℕ) → IsFrontOf [] text
front_of_nothing text = (text, refl)

-- a front of a front
pub front_of_front : (x y z : List ℕ) → IsFrontOf x y → IsFrontOf y z → IsFrontOf x z
front_of_front x y z first second = (first.0 ++ second.0, second.1 ∙ ap (λ t. t ++ second.0) first.1 ∙ append_assoc x first.0 second.0)

-- a front after another text
pub front_after : (text front whole : List ℕ) → IsFrontOf front whole → IsFrontOf (text ++ front) (text ++ whole)
front_after text front whole f = (f.0, ap (λ t. text ++ t) f.1 ∙ sym (append_assoc text front f.0))

-- what is taken of a text is a front of it
pub front_taken : (n : ℕ) (text : List ℕ) → IsFrontOf (take n text) text
front_taken n text = (drop n text, sym (take-append-drop n text))

-- a part that is taken after a part that was taken
pub taken_after : (a n : ℕ) (text : List ℕ) → take a text ++ take n (take (length text - a) (drop a text)) ≡ take (a + n) text
taken_after a n text =
    let whole : length (drop a text) ≤ length text - a = omega (arith, length-drop a text) in
    ap (λ t. take a text ++ take n t) (take_all (length text - a) (drop a text) whole) ∙ sym (take-add a n text)

-- what stands before an empty text is empty
pub nothing_before : (a b : List ℕ) → a ++ b ≡ [] → a ≡ []
nothing_before [] b h = refl
nothing_before (x ∷ a) b h = absurd (cc)

-- a front of nothing is nothing
pub empty_front : (front text : List ℕ) → IsFrontOf front text → text ≡ [] → front ≡ []
empty_front front text f none = nothing_before front f.0 (sym f.1 ∙ none)
