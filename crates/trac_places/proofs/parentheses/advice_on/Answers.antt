use Rattle.std.proofs.Common.{◌<◌, ◌+◌, length, vec_len, arith}
use Rattle.trac_places.proofs.Depth.{IsDeep, fronts_further, deeper, less_deep, as_deep, closes_nothing, one_taken, none_begun}
use Rattle.trac_places.proofs.parentheses.advice_on.Goals as goal
use Rattle.trac_places.proofs.parentheses.advice_on.Goals.{then-byte-eq-OPENING+else-len-ge-DEPTH_LIMIT+in_ok-push, else-byte-eq-OPENING+else-byte-eq-CLOSING, else-byte-eq-CLOSING-via-then-byte-eq-CLOSING+else-is_none, else-byte-eq-CLOSING-via-else-byte-eq-CLOSING}

pub returns-then-is_none-clause-balanced : goal.returns-then-is_none-clause-balanced
returns-then-is_none-clause-balanced g c = λ balanced. absurd (closes_nothing c.args.text.now c.loop-place.place (vec_len c.loop-place.begun) c.loop-place.invariant.deep (omega arith) c.if-byte-eq-CLOSING.true (none_begun c.pop.result (vec_len c.loop-place.begun) c.pop.ensures.variant.1 c.if-is_none.ensures) balanced)

pub loop-place-preserved : goal.loop-place-preserved
loop-place-preserved g c =
    let text = c.args.text.now in
    let i = c.loop-place.place in
    let more : i < length text = omega arith in
    let deep : IsDeep text (i + 1) _ = elim c.if-byte-eq-OPENING.branch [
      | then-byte-eq-OPENING+else-len-ge-DEPTH_LIMIT+in_ok-push w ↦ rw w.begun-is (deeper text i (vec_len c.loop-place.begun) _ c.loop-place.invariant.deep more w.if-byte-eq-OPENING.true (omega (arith, w.in_ok-push.ensures.len)))
      | else-byte-eq-OPENING+else-byte-eq-CLOSING w ↦ rw w.begun-is (elim w.else-byte-eq-CLOSING.branch [
        | else-byte-eq-CLOSING-via-then-byte-eq-CLOSING+else-is_none v ↦ rw v.begun-is (less_deep text i (vec_len c.loop-place.begun) _ c.loop-place.invariant.deep more v.if-byte-eq-CLOSING.true (omega (arith, v.pop.ensures.len, one_taken v.pop.result v.if-is_none.ensures)))
        | else-byte-eq-CLOSING-via-else-byte-eq-CLOSING v ↦ rw v.begun-is (as_deep text i (vec_len c.loop-place.begun) c.loop-place.invariant.deep more w.if-byte-eq-OPENING.false v.if-byte-eq-CLOSING.false)
      ])
    ] in
    record {
      deep = deep;
      fronts = fronts_further text i _ c.loop-place.invariant.fronts deep;
      end = c.passed-before.ensures;
      unclosed = c.or_of-signs.ensures.unclosed c.loop-place.invariant.unclosed;
      within = c.or_of-signs.ensures.within c.loop-place.invariant.within;
      unbegun = c.or_of-signs.ensures.unbegun c.loop-place.invariant.unbegun;
    }
