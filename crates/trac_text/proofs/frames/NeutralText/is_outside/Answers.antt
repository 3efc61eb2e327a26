use Rattle.std.proofs.Common.{ap, ◌∙◌, length}
use Rattle.std.specs.Prelude.{◌==◌}
use Rattle.trac_text.specs.Neutral.{MarkedText, neutral_of}
use Rattle.trac_text.proofs.Neutral.{outside_by_marks}
use Rattle.trac_text.proofs.frames.NeutralText.is_outside.Goals as goal

pub returns : goal.returns
returns c = c.is_empty.ensures ∙ outside_by_marks _ c.self.invariant.0 ∙ ap (λ (m : MarkedText). length (neutral_of m).frames == 0) c.self.view_is
