use Rattle.std.proofs.Common.{List, ℕ, ◌++◌, ap, sym, ◌∙◌}
use Rattle.trac_walk.proofs.Begun.{at_same}
use Rattle.trac_walk.proofs.restarting.begun.Goals as goal

pub returns : goal.returns
returns g c =
    let bytes = c.as_slice.ensures.value ∙ (c.in-Ok-extend_from_slice.ensures.items ∙ ap (λ (all : List ℕ). all ++ c.args.typed.now) c.in-Ok.ensures.items) in
    at_same _ _ _ _ _ _ bytes (sym c.if-not-has_ended.false) (c.end_input.ensures _ _ _ c.in_ok-walker.ensures.stands)
