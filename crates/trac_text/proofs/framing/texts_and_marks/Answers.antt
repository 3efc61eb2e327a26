-- Each function is begun within the one before.
use Rattle.std.proofs.Common.{refl, arith, rules}
use Rattle.std.proofs.lemmas.List.{append-nil}
use Rattle.trac_text.proofs.Framed.{begun_all, begun_next, begun_room}
use Rattle.trac_text.proofs.NeutralAgain.{shows_base}
use Rattle.trac_text.proofs.framing.texts_and_marks.Goals as goal

pub loop-kind-init : goal.loop-kind-init
loop-kind-init g c =
    rw (c.put_left.ensures, c.put_right.ensures, c.reserve.ensures.left, c.reserve.ensures.right, c.new-text.ensures, c.reserve-2.ensures.left, c.reserve-2.ensures.right, c.new-marks.ensures, append-nil) (record {
      begun = record { shows = shows_base c.args.base.now; right_is = refl; no_others = refl };
      holds = omega (arith, c.requires.text, c.text_len.ensures, c.max.ensures, c.in_ok-reserve.ensures.ok);
      mark_holds = omega (arith, c.requires.marks, c.mark_count.ensures, c.max-2.ensures, c.in_ok-reserve-2.ensures.ok);
      room = omega (arith, c.max.ensures, c.in_ok-reserve.ensures.ok);
      mark_room = omega (arith, c.max-2.ensures, c.in_ok-reserve-2.ensures.ok);
    })

pub put_function-requires : goal.put_function-requires
put_function-requires g c =
    let so_far = c.loop-kind.invariant in
    let room = begun_room so_far.begun c.requires.some c.loop-kind-item.result (omega arith) c.loop-kind-item.is so_far.holds so_far.mark_holds in
    rw c.as_slice.ensures.value (record { text = room.0; marks = room.1 })

pub loop-kind-preserved : goal.loop-kind-preserved
loop-kind-preserved g c =
    let so_far = c.loop-kind.invariant in
    rw (c.put_function.ensures.text, c.put_function.ensures.marks, c.as_slice.ensures.value) (record {
      begun = begun_next so_far.begun c.requires.some c.loop-kind-item.result (omega arith) c.loop-kind-item.is refl refl;
      holds = so_far.holds;
      mark_holds = so_far.mark_holds;
      room = so_far.room;
      mark_room = so_far.mark_room;
    })

pub returns : goal.returns
returns g c =
    let so_far = c.loop-kind.invariant in
    let all = begun_all so_far.begun c.requires.some (omega arith) so_far.holds so_far.mark_holds in
    record {
      neutral = all.0.same;
      active = so_far.begun.right_is;
      ordered = all.0.ordered;
      on_left = so_far.begun.no_others;
      holds = all.1;
      mark_holds = omega (arith, all.2);
      room = so_far.room;
      mark_room = so_far.mark_room;
      err = search rules;
    }
