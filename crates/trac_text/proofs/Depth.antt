-- A front of a text that is read byte by byte, and how many `(` of it are open.
use Rattle.std.proofs.Common.{◌≡◌, ℕ, ◌+◌, ◌-◌, ◌<◌, ◌≤◌, ◌≢◌, List, false, length, take, get_or, arith, below_more}
use Rattle.trac_rules.specs.declared.byte.TheConstants.{OPENING, CLOSING}
use Rattle.trac_rules.specs.Bytes.{count_of}
use Rattle.trac_rules.specs.Matching.{closes_at}
use Rattle.trac_rules.proofs.Balanced.{count_of_more_same, count_of_more_other, closes_at_other, closes_at_inside}

-- i bytes are read, `depth` of their `(` are open, and no place among them is the match
pub record IsOpen (text : List ℕ) (i depth : ℕ) : Type 0 where
  pub even : count_of OPENING (take i text) ≡ count_of CLOSING (take i text) + depth
  pub within : depth ≤ i
  pub none : (k : ℕ) → k < i → closes_at text k ≡ false

pub opens : (text : List ℕ) (i depth : ℕ) → IsOpen text i depth → i < length text → get_or text i 0 ≡ OPENING → IsOpen text (i + 1) (depth + 1)
opens text i depth o l is =
    let apart : get_or text i 0 ≢ CLOSING = λ e. absurd (omega (arith, e, is)) in
    record {
      even = omega (arith, o.even, count_of_more_same OPENING text i l is, count_of_more_other CLOSING text i l apart);
      within = omega (arith, o.within);
      none = below_more _ _ o.none (closes_at_other text i apart);
    }

pub closes : (text : List ℕ) (i depth : ℕ) → IsOpen text i depth → i < length text → get_or text i 0 ≡ CLOSING → depth ≢ 0 → IsOpen text (i + 1) (depth - 1)
closes text i depth o l is some =
    let apart : get_or text i 0 ≢ OPENING = λ e. absurd (omega (arith, e, is)) in
    record {
      even = omega (arith, o.even, count_of_more_same CLOSING text i l is, count_of_more_other OPENING text i l apart);
      within = omega (arith, o.within);
      none = below_more _ _ o.none (closes_at_inside text i (omega (arith, o.even)));
    }

pub passes_by : (text : List ℕ) (i depth : ℕ) → IsOpen text i depth → i < length text → get_or text i 0 ≢ OPENING → get_or text i 0 ≢ CLOSING → IsOpen text (i + 1) depth
passes_by text i depth o l no_opening no_closing = record {
  even = omega (arith, o.even, count_of_more_other CLOSING text i l no_closing, count_of_more_other OPENING text i l no_opening);
  within = omega (arith, o.within);
  none = below_more _ _ o.none (closes_at_other text i no_closing);
}
