use Rattle.std.proofs.Common.{rules, ap, ◌∙◌, sym, ◌<◌, length}
use Rattle.trac_text.specs.Neutral.{MarkedText, neutral_of}
use Rattle.trac_text.proofs.Peeling.{base_at}
use Rattle.trac_text.proofs.frames.NeutralText.base.Goals as goal

pub split_at-requires : goal.split_at-requires
split_at-requires c =
    let some : 0 < length c.self.inside.marks.now = search rules in
    (base_at c.self.inside.text.now c.self.inside.marks.now _ c.self.invariant.0 some).0

pub returns : goal.returns
returns c =
    let some : 0 < length c.self.inside.marks.now = search rules in
    c.split_at.ensures.front ∙ sym (base_at c.self.inside.text.now c.self.inside.marks.now _ c.self.invariant.0 some).1 ∙ ap (λ (m : MarkedText). (neutral_of m).base) c.self.view_is
