use Rattle.std.proofs.Common.{length, ap, ◌∙◌, sym}
use Rattle.trac_text.proofs.Cutting.{length-cut}
use Rattle.trac_text.proofs.args.Args.comma_count.Goals as goal

pub returns : goal.returns
returns c = sym (length-cut _ _ _) ∙ ap length c.self.view_is
