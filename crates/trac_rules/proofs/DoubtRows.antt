-- The doubts of calls, computed where the forms stand in a list.
use Rattle.std.proofs.Common.{◌≡◌, ℕ, List, ap, ◌∙◌}
use Rattle.std.specs.Prelude.{Option}
use Rattle.std.specs.Option.{option_and_then}
use Rattle.trac_rules.specs.declared.doubt.Doubt.{Doubt}
use Rattle.trac_rules.specs.declared.width.Width.TheVariants.{W64}
use Rattle.trac_rules.specs.Blocks.{number_addressed}
use Rattle.trac_rules.specs.DoubtRows.{Raises}
use Rattle.trac_rules.specs.Doubts.{Found, doubts_of_primitive, found_by}
use Rattle.trac_rules.specs.Effect.{argument}
use Rattle.trac_rules.specs.Form.{Form}
use Rattle.trac_rules.specs.Performing.{primitive_of}
use Rattle.trac_rules.specs.RecordRows.{stored}
use Rattle.trac_rules.specs.Rows.{Named}
use Rattle.trac_rules.specs.State.{Block}
use Rattle.trac_rules.proofs.BlockCalls.{found_in, looked_up}

-- what a call finds by the forms of its names
abbrev found_of : Option Form → Option Form → List Block → Found
found_of own named blocks = record { own = own; named = named; block = option_and_then (λ (form : Form). number_addressed form blocks) named }

-- what a call finds where the forms stand in a list
abbrev pub found_among : List (List ℕ) → Named → List Block → Found
found_among arguments es blocks = found_of (looked_up (argument 0 arguments) es) (looked_up (argument 1 arguments) es) blocks

found-held : (arguments : List (List ℕ)) (es : Named) (blocks : List Block) → found_by arguments (stored es blocks) ≡ found_among arguments es blocks
found-held arguments es blocks = λ i. found_of (found_in (argument 0 arguments) es i) (found_in (argument 1 arguments) es i) blocks

pub raises : (arguments : List (List ℕ)) (es : Named) (blocks : List Block) (doubts : List Doubt) →
    doubts_of_primitive (primitive_of (argument 0 arguments)) W64 arguments (found_among arguments es blocks) ≡ doubts → Raises arguments es blocks doubts
raises arguments es blocks doubts is = ap (doubts_of_primitive (primitive_of (argument 0 arguments)) W64 arguments) (found-held arguments es blocks) ∙ is
