use Rattle.std.proofs.Common.{ap, take, ◌∙◌}
use Rattle.std.proofs.lemmas.List.{drop-take}
use Rattle.std.specs.Prelude.{drop}
use Rattle.trac_gap.specs.Window.{Window}
use Rattle.trac_gap.proofs.sliding.SlidingBuf.truncate.Goals as goal

pub returns-then-n-len : goal.returns-then-n-len
returns-then-n-len g c =
    let kept = ap (drop c.self.inside.gone) c.truncate.ensures.items ∙ drop-take c.self.inside.gone c.args.n c.self.inside.list.items in
    (λ i. record { items = kept i; capacity = c.truncate.ensures.capacity i })
    ∙ ap (λ (w : Window g.row.T.Denot). record w { items = take c.args.n w.items }) c.self.view_is
