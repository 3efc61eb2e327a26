-- What is guessed of the parentheses of a text.
use Rattle.std.specs.Prelude.{◌≤◌, ◌+◌, ℕ, List, length, take, Option, IfSome, codes}
use Rattle.trac_rules.specs.declared.byte.TheConstants.{OPENING, CLOSING}
use Rattle.trac_rules.specs.Bytes.{count_of}
use Rattle.trac_places.specs.declared.parentheses.TheConstants.{DEPTH_LIMIT}
use Rattle.trac_places.specs.declared.parentheses.Advice.{Advice}
use Rattle.trac_places.specs.declared.parentheses.Fault.{Fault}
use Rattle.trac_places.specs.declared.parentheses.Fault.TheVariants.{MissingOpening, MissingClosing}
use Rattle.trac_places.specs.declared.parentheses.Fault.TheVariants.{SurplusOpening, SurplusClosing}

-- a byte of the text is named, or its end, if any is
abbrev pub IsWithin : List ℕ → Option Advice → Type 0
IsWithin text given = IfSome given (λ a. a.place ≤ length text)

-- so many `(` of a front have no match in it that nothing is guessed
abbrev pub IsTooDeep : List ℕ → Type 0
IsTooDeep text = (n : ℕ) × (count_of CLOSING (take n text) + DEPTH_LIMIT ≤ count_of OPENING (take n text))

-- what is said of a fault
abbrev pub fault_words : Fault → List ℕ
fault_words MissingOpening = codes "a ( may be missing here"
fault_words MissingClosing = codes "a ) may be missing here"
fault_words SurplusOpening = codes "this ( may be one too many"
fault_words SurplusClosing = codes "this ) may be one too many"
