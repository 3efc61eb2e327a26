use Rattle.std.proofs.Common.{refl, sym}
use Rattle.std.proofs.lemmas.List.{append-nil}
use Rattle.trac_rules.specs.Effect.{reads}
use Rattle.trac_change.specs.declared.change.UnnamedChange.TheVariants.{Keep}
use Rattle.trac_prims.specs.Effects.{nothing}
use Rattle.trac_prims.proofs.Kept.{as_said}
use Rattle.trac_prims.proofs.io.take.Goals as goal

pub returns-clause-outcome : goal.returns-clause-outcome
returns-clause-outcome g c = λ arguments storage.
    let old = c.args.made.now in
    as_said arguments storage old (record old { value = c.extend_from_slice.new.self }) (reads c.args.text.now c.args.read storage) Keep (record nothing { read = c.args.read })
    c.in_ok-extend_from_slice.ensures.items (sym (append-nil old.print.items)) refl refl
