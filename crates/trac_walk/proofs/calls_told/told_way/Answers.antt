use Rattle.std.proofs.Common.{refl, subst}
use Rattle.trac_follow_step.specs.Places.{place_of}
use Rattle.trac_follow.specs.Tracing.{told_steps, way_of}
use Rattle.trac_walk.specs.Ways.{AreTold}
use Rattle.trac_walk.proofs.SaidOfWays.{are_told, nothing_told}
use Rattle.trac_walk.proofs.calls_told.told_way.Goals as goal

pub returns : goal.returns
returns g c =
    let found = c.traced-found.result in
    let way = c.traced-found.new.witness in
    let calls = way_of c.args.walker.now.window.session (place_of c.args.place) (told_steps found.steps found.end) in
    subst (λ step. AreTold step calls found.end way) c.step.ensures
    (are_told c.step.result _ calls found.steps found.end _ way (nothing_told c.step.result _ refl refl c.new.ensures.items) c.traced-found.ensures.told)
