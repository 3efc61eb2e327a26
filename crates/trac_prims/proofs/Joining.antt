-- Texts joined one after another.
use Rattle.std.proofs.Common.{◌≡◌, ℕ, ◌+◌, ◌<◌, List, [], ◌∷◌, ◌++◌, length, take, get_or, refl, sym, ap, ◌∙◌, arith}
use Rattle.std.specs.List.{join_with_byte}
use Rattle.std.proofs.lemmas.List.{append_assoc, length-take-le, take_more}

-- a further text stands after the byte that joins
join-push : (b : ℕ) (text : List ℕ) (texts : List (List ℕ)) (last : List ℕ) → join_with_byte b ((text ∷ texts) ++ last ∷ []) ≡ join_with_byte b (text ∷ texts) ++ b ∷ last
join-push b text [] last = refl
join-push b text (next ∷ texts) last = ap (λ rest. text ++ (b ∷ rest)) (join-push b next texts last) ∙ sym (append_assoc text (b ∷ join_with_byte b (next ∷ texts)) (b ∷ last))

-- of the first text alone nothing is joined
pub join-first : (b : ℕ) (texts : List (List ℕ)) → join_with_byte b (take 1 texts) ≡ get_or texts 0 []
join-first b [] = refl
join-first b (text ∷ texts) = refl

pub join-take : (b : ℕ) (texts : List (List ℕ)) (i : ℕ) → 0 < i → i < length texts →
    join_with_byte b (take (i + 1) texts) ≡ (join_with_byte b (take i texts) ++ b ∷ []) ++ get_or texts i []
join-take b texts i some l =
    ap (join_with_byte b) (take_more texts i [] l) ∙ pushed (take i texts) (omega (arith, length-take-le i texts (omega arith)))
    ∙ sym (append_assoc (join_with_byte b (take i texts)) (b ∷ []) (get_or texts i []))
  where
    pushed : (front : List (List ℕ)) → 0 < length front → join_with_byte b (front ++ get_or texts i [] ∷ []) ≡ join_with_byte b front ++ b ∷ get_or texts i []
    pushed [] h = absurd (omega arith)
    pushed (text ∷ front) h = join-push b text front (get_or texts i [])
