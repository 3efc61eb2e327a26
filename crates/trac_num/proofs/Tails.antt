-- Where the octal string of a text begins.
use Rattle.std.proofs.Common.{◌≡◌, ℕ, ◌+◌, ◌-◌, ◌<◌, ◌≤◌, false, List, [], ◌∷◌, ◌++◌, length, take, drop, get_or, refl, sym, ap, ◌∙◌, arith}
use Rattle.std.proofs.lemmas.List.{drop_more, take-append-drop, get_or_at}
use Rattle.std.proofs.lemmas.List.Folds.{list_all_at}
use Rattle.std.proofs.lemmas.List.{length-append}
use Rattle.trac_rules.specs.Octal.{IsOctal, is_octal, is_octal_digit, octal_tail}
use Rattle.trac_rules.proofs.OctalTexts.{octal_tail-octal}

-- after a byte that is no octal digit
pub octal_tail-after : (front : List ℕ) (b : ℕ) (tail : List ℕ) → is_octal_digit b ≡ false → IsOctal tail → octal_tail (front ++ b ∷ tail) ≡ tail
octal_tail-after [] b tail n h = rw n (octal_tail-octal tail h)
octal_tail-after (x ∷ front) b tail n h =
    let other : is_octal (x ∷ front ++ b ∷ tail) ≡ false =
    list_all_at is_octal_digit (x ∷ front ++ b ∷ tail) (length (x ∷ front)) 0
    (omega (arith, length-append (x ∷ front) (b ∷ tail)))
    (ap is_octal_digit (get_or_at (x ∷ front) b tail 0 (length (x ∷ front)) refl) ∙ n) in
    rw other (octal_tail-after front b tail n h)

-- a tail of octal digits, before which none stands
pub octal_tail_from : (text : List ℕ) (i : ℕ) → i < length text → is_octal_digit (get_or text i 0) ≡ false → IsOctal (drop (i + 1) text) → octal_tail text ≡ drop (i + 1) text
octal_tail_from text i l n h =
    ap octal_tail (sym (take-append-drop i text) ∙ ap (λ t. take i text ++ t) (drop_more text i 0 l))
    ∙ octal_tail-after (take i text) (get_or text i 0) (drop (i + 1) text) n h

-- the same, counted from after it
pub octal_tail_after_place : (text : List ℕ) (n : ℕ) → 0 < n → n ≤ length text → is_octal_digit (get_or text (n - 1) 0) ≡ false → IsOctal (drop n text) → octal_tail text ≡ drop n text
octal_tail_after_place text n some within other h =
    let next : n - 1 + 1 ≡ n = omega (arith, some) in
    rw next at (octal_tail_from text (n - 1) (omega (arith, some, within)) other (rw next h))

pub octal_tail_whole : (text : List ℕ) (n : ℕ) → n ≤ 0 → IsOctal (drop n text) → octal_tail text ≡ drop n text
octal_tail_whole text n none h =
    let e : n ≡ 0 = omega (arith, none) in
    let whole : IsOctal text = rw e at h in
    rw e (octal_tail-octal text whole)
