use Rattle.std.proofs.Common.{ℕ, List, sym, ap, ◌∙◌}
use Rattle.std.proofs.lemmas.Bool.{eqb-true}
use Rattle.std.proofs.lemmas.List.{nil_from_length}
use Rattle.trac_rules.specs.Segmenting.{cut_out}
use Rattle.trac_rules.proofs.Cutting.{cut_out_null}
use Rattle.trac_items.specs.RunGaps.{gapped}
use Rattle.trac_items.proofs.run_gaps.with_text.Goals as goal

pub returns-then-is_empty-clause-cut : goal.returns-then-is_empty-clause-cut
returns-then-is_empty-clause-cut g c =
    let items = gapped c.args.run.now c.args.gaps.items in
    sym (cut_out_null c.args.number items) ∙ ap (λ (t : List ℕ). cut_out c.args.number t items) (sym (nil_from_length c.args.text.now (eqb-true _ 0 (sym c.if-is_empty.ensures))))
