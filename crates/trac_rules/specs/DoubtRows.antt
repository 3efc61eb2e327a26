-- Words for the worked rows of doubts.
use Rattle.std.specs.Prelude.{◌≡◌, ℕ, List, Some}
use Rattle.trac_rules.specs.declared.doubt.Doubt.{Doubt}
use Rattle.trac_rules.specs.declared.width.Width.TheVariants.{W64}
use Rattle.trac_rules.specs.Doubts.{doubts_of_call}
use Rattle.trac_rules.specs.RecordRows.{stored}
use Rattle.trac_rules.specs.Rows.{Named}
use Rattle.trac_rules.specs.State.{Block}

-- if there are these forms and blocks, a call of these arguments raises these doubts; numbers are of 64 bits
abbrev pub Raises : List (List ℕ) → Named → List Block → List Doubt → Type 0
Raises arguments forms blocks doubts = doubts_of_call W64 (Some arguments) (stored forms blocks) ≡ doubts
