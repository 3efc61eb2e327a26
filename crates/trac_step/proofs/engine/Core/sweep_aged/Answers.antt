use Rattle.std.proofs.Common.{ap, ◌∙◌}
use Rattle.std.specs.FinSet as set
use Rattle.trac_forms.specs.Stored.{Stored}
use Rattle.trac_rules.specs.Listing.{names_of}
use Rattle.trac_step.specs.Layout.{shown_by, Shown}
use Rattle.trac_step.proofs.engine.Core.sweep_aged.Goals as goal

pub returns : goal.returns
returns g c =
    let i = c.self.inside in
    ap (λ (s : Stored). shown_by i.texts s i.meta i.trace i.position i.output i.width) c.sweep_aged.ensures
    ∙ ap (λ (m : Shown). record m { known = m.recent; recent = set.from_list (names_of m.state.forms) }) c.self.view_is
