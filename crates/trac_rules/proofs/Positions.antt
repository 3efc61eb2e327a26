-- The first place of a list that passes a test, where the list goes on.
use Rattle.std.proofs.Common.{◌≡◌, ℕ, ◌-◌, ◌<◌, ◌≤◌, Bool, true, false, ltb, List, ◌++◌, length, get_or, refl, sym, ap, ◌∙◌, arith, ⊎_elim}
use Rattle.std.specs.Prelude.{Option, None, Some, position}
use Rattle.std.specs.List.{position_or_len}
use Rattle.std.proofs.lemmas.Bool.{cond-true, ltb-false, lt-ltb, cases_Bool, cases_lt, false≢true}
use Rattle.std.proofs.lemmas.List.{length-append, get_or_append_left}
use Rattle.std.proofs.Math.Seq.{get_or-append_right}
use Rattle.std.proofs.lemmas.List.Sums.{position_or_len_is, fails_before_first}
use Rattle.std.proofs.lemmas.List.Quantifiers.{position-Some}

pub position_at : (p : ℕ → Bool) (xs : List ℕ) (k : ℕ) → k < length xs → p (get_or xs k 0) ≡ true → ((j : ℕ) → j < k → p (get_or xs j 0) ≡ false) → position p xs ≡ Some k
position_at p xs k l is before =
    let e : position_or_len p xs ≡ k = position_or_len_is p xs k 0 (omega arith) before (λ _. is) in
    rw e (cond-true (ltb k (length xs)) (Some k) None (lt-ltb k (length xs) l))

pub position_none : (p : ℕ → Bool) (xs : List ℕ) → position p xs ≡ None → (k : ℕ) → k < length xs → p (get_or xs k 0) ≡ false
position_none p xs h k l =
    ⊎_elim
    (λ (t : ltb (position_or_len p xs) (length xs) ≡ true).
    absurd (let e : position p xs ≡ Some (position_or_len p xs) = cond-true (ltb (position_or_len p xs) (length xs)) (Some (position_or_len p xs)) None t in cc))
    (λ (t : ltb (position_or_len p xs) (length xs) ≡ false).
    fails_before_first p xs k 0 (omega (arith, ltb-false (position_or_len p xs) (length xs) t)))
    (cases_Bool (ltb (position_or_len p xs) (length xs)))

pub position-append_Some : (p : ℕ → Bool) (xs ys : List ℕ) (k : ℕ) → position p xs ≡ Some k → position p (xs ++ ys) ≡ Some k
position-append_Some p xs ys k h =
    let at = position-Some p xs k 0 h in
    position_at p (xs ++ ys) k (omega (arith, at.0, length-append xs ys))
    (ap p (get_or_append_left xs ys 0 k at.0) ∙ at.1)
    (λ j l. ap p (get_or_append_left xs ys 0 j (omega (arith, at.0))) ∙ at.2 j l)

pub position-append_None : (p : ℕ → Bool) (xs ys : List ℕ) (k : ℕ) → position p xs ≡ None → position p (xs ++ ys) ≡ Some k → (length xs ≤ k) × (k < length (xs ++ ys))
position-append_None p xs ys k none h =
    let at = position-Some p (xs ++ ys) k 0 h in
    let after : length xs ≤ k =
    ⊎_elim
    (λ (l : k < length xs). absurd (false≢true (sym (position_none p xs none k l) ∙ ap p (sym (get_or_append_left xs ys 0 k l)) ∙ at.1)))
    (λ (l : length xs ≤ k). l)
    (cases_lt k (length xs)) in
    (after, at.0)

pub position-append_neither : (p : ℕ → Bool) (xs ys : List ℕ) → position p xs ≡ None → position p ys ≡ None → position p (xs ++ ys) ≡ None
position-append_neither p xs ys none_left none_right = go (position p (xs ++ ys)) refl
  where
    go : (at : Option ℕ) → position p (xs ++ ys) ≡ at → at ≡ None
    go None e = refl
    go (Some k) e =
        let inside = position-append_None p xs ys k none_left e in
        let there = position-Some p (xs ++ ys) k 0 e in
        absurd (false≢true (sym (position_none p ys none_right (k - length xs) (omega (arith, inside.0, inside.1, length-append xs ys)))
        ∙ ap p (sym (get_or-append_right xs ys k 0 inside.0)) ∙ there.1))
