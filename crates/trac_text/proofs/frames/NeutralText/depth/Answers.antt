use Rattle.std.proofs.Common.{ap, ◌∙◌, length}
use Rattle.trac_text.specs.Neutral.{MarkedText, neutral_of}
use Rattle.trac_text.proofs.frames.NeutralText.depth.Goals as goal

pub returns : goal.returns
returns c = c.self.invariant.1 ∙ ap (λ (m : MarkedText). length (neutral_of m).frames) c.self.view_is
