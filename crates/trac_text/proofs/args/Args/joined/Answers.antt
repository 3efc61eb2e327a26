use Rattle.std.proofs.Common.{ap, ◌∙◌, sym}
use Rattle.std.specs.List.{concat}
use Rattle.trac_text.proofs.Cutting.{concat-cut, start_within}
use Rattle.trac_text.proofs.args.Args.joined.Goals as goal

pub split_at-requires : goal.split_at-requires
split_at-requires c = start_within c.self.inside.from c.self.inside.marks.now _ c.self.invariant

pub returns : goal.returns
returns c =
    c.split_at.ensures.back
    ∙ sym (concat-cut c.self.inside.from c.self.inside.marks.now c.self.inside.text.now c.self.invariant)
    ∙ ap concat c.self.view_is
