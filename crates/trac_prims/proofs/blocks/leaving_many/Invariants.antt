-- The names that were found so far, and which of them were seen.
use Rattle.std.proofs.Common.{◌≡◌, ℕ, List, take}
use Rattle.std.specs.Prelude.{bytes_eq}
use Rattle.std.specs.List.{list_any}
use Rattle.trac_rules.specs.Blocks.{moved_out}
use Rattle.trac_rules.specs.Undone.{names_in}
use Rattle.trac_text.specs.Framing.{texts_of}
use Rattle.trac_prims.proofs.blocks.leaving_many.Given as goal

abbrev pub invariant-loop-i : goal.invariant-loop-i
invariant-loop-i g l = (texts_of l.held.items ≡ names_in (moved_out (take l.i l.names) l.store.forms))
    × ((q : List ℕ) → list_any (λ k. bytes_eq q k.now) l.seen.keys ≡ list_any (bytes_eq q) (texts_of l.held.items))
