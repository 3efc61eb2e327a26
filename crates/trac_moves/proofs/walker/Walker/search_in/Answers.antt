use Rattle.std.proofs.Common.{◌∙◌, sym, subst}
use Rattle.trac_moves.specs.Windows.{IsOver}
use Rattle.trac_moves.proofs.SearchedAnew.{met_anew, unmet_anew}
use Rattle.trac_moves.proofs.walker.Walker.search_in.Goals as goal

pub returns-in-Unmet-clause-moved : goal.returns-in-Unmet-clause-moved
returns-in-Unmet-clause-moved g c input width steps s over =
    unmet_anew c.args.done c.args.most c.step-start.result c.search_from-found.result c.args.self.now c.search_from-found.new.self c.swap.new.x c.search_from-found.ensures.moved
    c.in-Unmet.field-0 c.in-Unmet.field-1 c.swap-in-Unmet.new.x c.args.self.now.reason c.in-Unmet.is (c.swap-in-Unmet.ensures.x_after ∙ c.swap.ensures.y_after) input width steps s
    (subst (λ w. IsOver input width 0 w) (sym c.swap.ensures.x_after) over)

pub returns-in_default-clause-moved : goal.returns-in_default-clause-moved
returns-in_default-clause-moved g c input width steps s over =
    met_anew c.args.done c.args.most c.step-start.result c.search_from-found.result c.args.self.now c.search_from-found.new.self c.swap.new.x c.search_from-found.ensures.moved
    c.in_default.is c.step-start.ensures input width steps s (subst (λ w. IsOver input width 0 w) (sym c.swap.ensures.x_after) over)
