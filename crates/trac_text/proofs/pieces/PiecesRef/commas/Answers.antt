use Rattle.std.proofs.Common.{ap, ◌∙◌, sym, length, map}
use Rattle.trac_text.specs.Pieces.{Arguments}
use Rattle.trac_text.proofs.Joined.{lengths-cut}
use Rattle.trac_text.proofs.pieces.PiecesRef.commas.Goals as goal

pub returns : goal.returns
returns c =
    sym (lengths-cut c.self.inside.commas.now c.self.inside.text.now c.self.invariant)
    ∙ ap (λ (a : Arguments). map length a.finished) c.self.view_is
