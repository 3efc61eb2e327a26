-- Where none so far is a gap, and the next one is none either, that one is passed; else there is one.
use Rattle.std.proofs.Common.{◌≡◌, ◌+◌, ◌<◌, ◌||◌, length, ap, arith, sym, ◌∙◌}
use Rattle.trac_items.proofs.ByteRuns.{byte_before, byte_passed, gap_met, neither}
use Rattle.trac_items.proofs.byte_runs.has_gap.Goals as goal

pub loop-i-preserved : goal.loop-i-preserved
loop-i-preserved g c =
    let items = c.args.items.now in
    let next = c.index-items-at in
    let at : c.args.at + (c.loop-i.i + 1) ≡ c.args.at + c.loop-i.i + 1 = omega arith in
    let within : c.args.at + c.loop-i.i < length items = omega (arith, c.requires) in
    record {
      none = λ none before.
          let both = neither c.loop-i.gap c.is_gap-gap.result none in
          byte_passed items _ _ next.result at within next.is (c.loop-i.invariant.none both.0 before) (sym c.is_gap-gap.ensures ∙ both.1);
      none_behind = λ none behind.
          let both = neither c.loop-i.gap c.is_gap-gap.result none in
          c.loop-i.invariant.none_behind both.0 (byte_before items _ _ next.result at within next.is behind (sym c.is_gap-gap.ensures ∙ both.1));
      some = λ some. gap_met items _ _ next.result at within next.is c.loop-i.gap c.loop-i.invariant.some (ap (λ b. c.loop-i.gap || b) (sym c.is_gap-gap.ensures) ∙ some);
    }
