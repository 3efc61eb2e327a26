use Rattle.std.proofs.Common.{◌∙◌, rules, tests}
use Rattle.std.specs.Prelude.{Vec, ℕ, bytes_eq}
use Rattle.std.proofs.lemmas.Iterator.{YieldsList-from_slice}
use Rattle.std.proofs.lemmas.Iterator.Search.{any_from_yields_List}
use Rattle.trac_prims.proofs.MovedOut.{any_text}
use Rattle.trac_prims.proofs.blocks.stands_among.Goals as goal

pub returns : goal.returns
returns g c =
    any_from_yields_List (λ (held : Vec ℕ _). bytes_eq c.args.name.now held.items) _ _ c.any.result c.any.ensures.ran
    (YieldsList-from_slice c.args.names.now cc) (λ x b q k. search (rules, tests))
    ∙ any_text c.args.name.now c.args.names.now
