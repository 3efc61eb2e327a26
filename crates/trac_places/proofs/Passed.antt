-- Places in a file, as one byte after another is passed.
use Rattle.std.proofs.Common.{◌≡◌, ◌<◌, ℕ, suc, ◌+◌, ◌==◌, List, [], ◌∷◌, ◌++◌, length, take, get_or, false, inl, inr, refl, sym, ap, subst, ◌∙◌, arith}
use Rattle.std.proofs.Math.Seq.{take-suc}
use Rattle.std.proofs.lemmas.List.{append-nil, append_assoc, length-append}
use Rattle.std.proofs.lemmas.List.Elements.{filter-append}
use Rattle.std.specs.List.{filter}
use Rattle.trac_rules.specs.declared.byte.TheConstants.{LINE_FEED}
use Rattle.trac_streams.specs.Escapes.{feed}
use Rattle.trac_places.specs.Spots.{IsSpot, feeds_in}

-- the line feeds of two texts
pub feeds_of_both : (a b : List ℕ) → feeds_in (a ++ b) ≡ feeds_in a + feeds_in b
feeds_of_both a b = ap length (filter-append (λ x. x == LINE_FEED) a b) ∙ length-append (filter (λ x. x == LINE_FEED) a) (filter (λ x. x == LINE_FEED) b)

-- at the beginning
pub spot_first : IsSpot [] 1 1
spot_first = record { lines = []; own = []; both = refl; whole = inl refl; unbroken = refl; line_number = refl; column_number = refl }

-- after a line feed
pub spot_after_feed : (before : List ℕ) (line column : ℕ) → IsSpot before line column → IsSpot (before ++ feed) (line + 1) 1
spot_after_feed before line column h =
    let count : feeds_in (before ++ feed) ≡ feeds_in h.lines + 1 = feeds_of_both before feed ∙ ap (λ t. feeds_in t + 1) h.both ∙ ap (λ n. n + 1) (feeds_of_both h.lines h.own) ∙ ap (λ n. feeds_in h.lines + n + 1) h.unbroken ∙ omega arith in
    record {
      lines = before ++ feed;
      own = [];
      both = sym (append-nil (before ++ feed));
      whole = inr (before, refl);
      unbroken = refl;
      line_number = ap (λ n. n + 1) h.line_number ∙ omega (arith, count);
      column_number = refl;
    }

-- after any other byte
pub spot_after_byte : (before : List ℕ) (b line column : ℕ) → (b == LINE_FEED) ≡ false → IsSpot before line column → IsSpot (before ++ b ∷ []) line (column + 1)
spot_after_byte before b line column other h =
    let none : feeds_in (b ∷ []) ≡ 0 = rw other refl in
    record {
      lines = h.lines;
      own = h.own ++ b ∷ [];
      both = ap (λ t. t ++ b ∷ []) h.both ∙ append_assoc h.lines h.own (b ∷ []);
      whole = h.whole;
      unbroken = feeds_of_both h.own (b ∷ []) ∙ omega (arith, h.unbroken, none);
      line_number = h.line_number;
      column_number = omega (arith, h.column_number, length-append h.own (b ∷ []));
    }

-- one byte more of a text
pub one_more : (text : List ℕ) (i : ℕ) → i < length text → take (i + 1) text ≡ take i text ++ (get_or text i 0 ∷ [])
one_more text i more =
    let next : i + 1 ≡ suc i = omega arith in
    ap (λ k. take k text) next ∙ take-suc text i 0 more

pub spot_past_feed : (text : List ℕ) (i line column : ℕ) → i < length text → get_or text i 0 ≡ LINE_FEED → IsSpot (take i text) line column → IsSpot (take (i + 1) text) (line + 1) 1
spot_past_feed text i line column more is h =
    subst (λ t. IsSpot t (line + 1) 1) (sym (one_more text i more ∙ ap (λ b. take i text ++ b ∷ []) is)) (spot_after_feed (take i text) line column h)

pub spot_past_byte : (text : List ℕ) (i line column : ℕ) → i < length text → (get_or text i 0 == LINE_FEED) ≡ false → IsSpot (take i text) line column → IsSpot (take (i + 1) text) line (column + 1)
spot_past_byte text i line column more other h =
    subst (λ t. IsSpot t line (column + 1)) (sym (one_more text i more)) (spot_after_byte (take i text) (get_or text i 0) line column other h)

-- what the goals of `spot_after` use
pub ruleset for_spot_after = (spot_first, spot_past_feed, spot_past_byte)
