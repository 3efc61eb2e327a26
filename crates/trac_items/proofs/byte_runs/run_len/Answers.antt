-- A group without a gap is passed, and then byte by byte.
use Rattle.std.proofs.Common.{◌+◌, ap, arith, sym, ◌∙◌}
use Rattle.std.specs.Prelude.{Some}
use Rattle.std.proofs.lemmas.Option.{slice_get-get_or}
use Rattle.trac_items.proofs.ByteRuns.{byte_passed, gap_there}
use Rattle.trac_items.proofs.byte_runs.run_len.Goals as goal

pub items-preserved : goal.items-preserved
items-preserved c = (
  omega (arith, c.items-test.true),
  byte_passed c.args.items.now c.items.run (c.items.run + 1) c.index-items-run.result (omega arith) c.items-test.true c.index-items-run.is c.items.invariant.1 (sym c.is_gap.ensures ∙ c.if-is_gap.false),
)

pub returns-then-is_gap-clause-gap : goal.returns-then-is_gap-clause-gap
returns-then-is_gap-clause-gap c = λ _.
    let items = c.args.items.now in
    gap_there items c.items.run c.index-items-run.result (slice_get-get_or items c.items.run c.index-items-run.result c.items-test.true ∙ ap Some (sym c.index-items-run.is))
    ∙ sym c.is_gap.ensures ∙ c.if-is_gap.true
