use Rattle.std.proofs.Common.{ap, ◌∙◌, sym}
use Rattle.std.specs.List.{concat}
use Rattle.trac_text.specs.Pieces.{Arguments, all_texts}
use Rattle.trac_text.proofs.Joined.{joined-cut}
use Rattle.trac_text.proofs.pieces.PiecesRef.text.Goals as goal

pub returns : goal.returns
returns c =
    sym (joined-cut c.self.inside.commas.now c.self.inside.text.now) ∙ ap (λ (a : Arguments). concat (all_texts a)) c.self.view_is
