use Rattle.std.proofs.Common.{ℕ, ap, ◌∙◌, length}
use Rattle.std.specs.FinSet as set
use Rattle.trac_forms.specs.Stored.{Stored}
use Rattle.trac_rules.specs.Listing.{names_of}
use Rattle.trac_rules.specs.Session.{released}
use Rattle.trac_step.specs.Layout.{shown_by, Shown}
use Rattle.trac_step.proofs.engine.Core.settle.Goals as goal

pub returns : goal.returns
returns g c =
    let old = c.args.self.now in
    let i = c.self-2.inside in
    let printed = c.len-printed.ensures.len ∙ ap (λ (m : Shown). length m.state.output) c.self.view_is in
    let read = ap (λ (m : Shown). m.state.position) c.self.view_is in
    ap (λ (s : Stored). shown_by i.texts s i.meta i.trace i.position i.output i.width) c.sweep.ensures
    ∙ ap (λ (m : Shown). record m { known = set.from_list (names_of m.state.forms); recent = set.from_list (names_of m.state.forms) }) (c.self-2.view_is ∙ c.release.ensures)
    ∙ ap (λ (n : ℕ). record old { state = released n c.self.inside.position old.state; known = set.from_list (names_of old.state.forms); recent = set.from_list (names_of old.state.forms) }) printed
    ∙ ap (λ (n : ℕ). record old { state = released (length old.state.output) n old.state; known = set.from_list (names_of old.state.forms); recent = set.from_list (names_of old.state.forms) }) read
