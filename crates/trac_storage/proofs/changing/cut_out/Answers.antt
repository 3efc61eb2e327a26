use Rattle.std.proofs.Common.{◌≡◌, List, ℕ, drop, sym, subst}
use Rattle.std.specs.Prelude.{IfSome}
use Rattle.std.specs.FinMap as finite
use Rattle.trac_rules.specs.Cuts.{cut_of}
use Rattle.trac_storage.proofs.Pointers.{cut_there}
use Rattle.trac_storage.proofs.changing.cut_out.Goals as goal

pub segment-requires : goal.segment-requires
segment-requires g c =
    subst (λ (texts : List (List ℕ)). IfSome (finite.get c.args.store.now.forms c.args.name.now) (λ form. c.args.cut ≡ cut_of texts form)) (sym c.after.ensures) c.requires

pub returns-in-Some-clause-storage : goal.returns-in-Some-clause-storage
returns-in-Some-clause-storage g c =
    cut_there c.args.store.now c.segment.new.self c.args.name.now c.after.result (drop 2 c.args.arguments.now) c.segment.ensures.cut c.after.ensures

pub returns-in-None-clause-storage : goal.returns-in-None-clause-storage
returns-in-None-clause-storage g c =
    cut_there c.args.store.now c.segment.new.self c.args.name.now c.after.result (drop 2 c.args.arguments.now) c.segment.ensures.cut c.after.ensures

pub returns-in-Some-clause-recent : goal.returns-in-Some-clause-recent
returns-in-Some-clause-recent g c = rw c.segment.ensures.cut (λ q h. h)

pub returns-in-None-clause-recent : goal.returns-in-None-clause-recent
returns-in-None-clause-recent g c = rw c.segment.ensures.cut (λ q h. h)
