-- The bits of octal texts that are made of others.
use Rattle.std.proofs.Common.{◌≡◌, ℕ, zero, suc, ◌+◌, ◌*◌, false, List, [], ◌∷◌, ◌++◌, length, take, drop, replicate, refl, sym, ap, ◌∙◌, arith}
use Rattle.std.proofs.lemmas.List.{take-append-drop}
use Rattle.std.proofs.lemmas.List.Concat.{flat_map-append}
use Rattle.std.proofs.lemmas.List.Folds.{list_all-append}
use Rattle.std.proofs.lemmas.Bool.{and_parts, and_from}
use Rattle.trac_rules.specs.declared.octals.TheConstants.{ZERO}
use Rattle.trac_rules.specs.Octal.{IsOctal, bits_of, digit_bits, is_octal, is_octal_digit}

-- ---- bits

pub bits_of-append : (xs ys : List ℕ) → bits_of (xs ++ ys) ≡ bits_of xs ++ bits_of ys
bits_of-append xs ys = flat_map-append digit_bits xs ys

pub length-bits_of : (xs : List ℕ) → length (bits_of xs) ≡ 3 * length xs
length-bits_of [] = refl
length-bits_of (x ∷ xs) = omega (arith, length-bits_of xs)

pub bits_of-drop : (n : ℕ) (xs : List ℕ) → bits_of (drop n xs) ≡ drop (3 * n) (bits_of xs)
bits_of-drop zero xs = refl
bits_of-drop (suc n) [] = let more : 3 * suc n ≡ suc (3 * n + 2) = omega arith in rw more refl
bits_of-drop (suc n) (x ∷ xs) =
    let more : 3 * suc n ≡ suc (suc (suc (3 * n))) = omega arith in
    rw more (bits_of-drop n xs)

pub bits_of-take : (n : ℕ) (xs : List ℕ) → bits_of (take n xs) ≡ take (3 * n) (bits_of xs)
bits_of-take zero xs = refl
bits_of-take (suc n) [] = let more : 3 * suc n ≡ suc (3 * n + 2) = omega arith in rw more refl
bits_of-take (suc n) (x ∷ xs) =
    let more : 3 * suc n ≡ suc (suc (suc (3 * n))) = omega arith in
    rw (more, bits_of-take n xs) refl

pub bits_of-zeros : (n : ℕ) → bits_of (replicate n ZERO) ≡ replicate (3 * n) false
bits_of-zeros zero = refl
bits_of-zeros (suc n) =
    let more : 3 * suc n ≡ suc (suc (suc (3 * n))) = omega arith in
    rw (more, bits_of-zeros n) refl

-- ---- octal digits alone

pub octal-append : (xs ys : List ℕ) → IsOctal xs → IsOctal ys → IsOctal (xs ++ ys)
octal-append xs ys hx hy = list_all-append is_octal_digit xs ys ∙ and_from (is_octal xs) (is_octal ys) hx hy

pub octal_parts : (xs ys : List ℕ) → IsOctal (xs ++ ys) → IsOctal xs × IsOctal ys
octal_parts xs ys h = and_parts (is_octal xs) (is_octal ys) (sym (list_all-append is_octal_digit xs ys) ∙ h)

pub octal-take : (n : ℕ) (xs : List ℕ) → IsOctal xs → IsOctal (take n xs)
octal-take n xs h = (octal_parts (take n xs) (drop n xs) (ap is_octal (take-append-drop n xs) ∙ h)).0

pub octal-drop : (n : ℕ) (xs : List ℕ) → IsOctal xs → IsOctal (drop n xs)
octal-drop n xs h = (octal_parts (take n xs) (drop n xs) (ap is_octal (take-append-drop n xs) ∙ h)).1

pub octal-zeros : (n : ℕ) → IsOctal (replicate n ZERO)
octal-zeros zero = refl
octal-zeros (suc n) = octal-zeros n
