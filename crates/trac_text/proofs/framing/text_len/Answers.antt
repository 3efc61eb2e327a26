-- Each argument adds its bytes.
use Rattle.std.proofs.Common.{ℕ, List, ap, ◌∙◌, arith, take_all}
use Rattle.std.specs.Prelude.{Vec}
use Rattle.trac_rules.specs.Limits.{total_length}
use Rattle.trac_text.specs.Framing.{texts_of}
use Rattle.trac_text.proofs.Framed.{bytes_more, total_more}
use Rattle.trac_text.proofs.framing.text_len.Goals as goal

pub loop-argument-init : goal.loop-argument-init
loop-argument-init g c = omega (arith, c.loop-arguments.invariant)

pub loop-argument-preserved : goal.loop-argument-preserved
loop-argument-preserved g c =
    let texts = c.deref-argument-items.result.now in
    omega (arith, total_more texts c.loop-argument.argument-index c.argument-item.result (omega arith) c.argument-item.is, c.loop-argument.invariant, c.saturating_add-total.ensures, c.len.ensures)

pub loop-arguments-preserved : goal.loop-arguments-preserved
loop-arguments-preserved g c =
    let f = c.loop-arguments-item.result in
    let all = take_all c.loop-argument.argument-index c.deref-argument-items.result.now (omega arith) ∙ c.deref-argument-items.ensures.value in
    omega (
      arith,
      bytes_more c.args.functions.now c.loop-arguments.arguments-index f (omega arith) c.loop-arguments-item.is,
      c.loop-argument.invariant,
      ap (λ (ts : List (Vec ℕ g.row.A.Denot)). total_length (texts_of ts)) all,
    )
