-- The first place of a byte, as a search finds it.
use Rattle.std.proofs.Common.{◌≡◌, ℕ, cond, List, length, get_or, sym, ap, ◌∙◌, arith, ltb}
use Rattle.std.specs.Prelude.{Option, Some, None, position, ◌==◌}
use Rattle.std.specs.List.{position_or_len}
use Rattle.std.proofs.lemmas.Bool.{false_from_ne_true, lt-ltb, le-ltb}
use Rattle.std.proofs.lemmas.List.Sums.{position_or_len_is}
use Rattle.memchr.specs.Find.{IsFirstByte, is_byte}

-- what `memchr` answers is the first place
pub first_byte : (b : ℕ) (text : List ℕ) (r : Option ℕ) → IsFirstByte (is_byte b) text r → r ≡ position (λ x. x == b) text
first_byte b text None none =
    let end : position_or_len (λ (x : ℕ). x == b) text ≡ length text =
    position_or_len_is (λ x. x == b) text (length text) 0 (omega arith) (λ k l. false_from_ne_true (get_or text k 0 == b) (none k (omega arith) l)) (λ l. absurd (omega arith)) in
    sym (ap (λ (n : ℕ). cond (ltb n (length text)) (Some n) None) end ∙ ap (λ b. cond b (Some (length text)) None) (le-ltb (length text) (length text) (omega arith)))
first_byte b text (Some k) found =
    let at : position_or_len (λ (x : ℕ). x == b) text ≡ k =
    position_or_len_is (λ x. x == b) text k 0 (omega (arith, found.0.high)) (λ j l. false_from_ne_true (get_or text j 0 == b) (found.0.before j (omega arith) l)) (λ l. found.1) in
    sym (ap (λ (n : ℕ). cond (ltb n (length text)) (Some n) None) at ∙ ap (λ b. cond b (Some k) None) (lt-ltb k (length text) found.0.high))
