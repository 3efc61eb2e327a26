-- What is left to take, from the forms as they are now.
use Rattle.std.proofs.Common.{◌≡◌, drop}
use Rattle.trac_rules.specs.Handling.{without}
use Rattle.trac_rules.specs.Undone.{names_in}
use Rattle.trac_storage.proofs.storage_back.unbring.Given as goal

abbrev pub invariant-loop-i : goal.invariant-loop-i
invariant-loop-i g l =
    record l.store { forms = without (names_in (drop l.i l.block.held)) l.store.forms } ≡ record l.initial.store { forms = without (names_in l.block.held) l.initial.store.forms }
