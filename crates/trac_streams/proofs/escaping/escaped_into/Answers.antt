-- One more byte is shown.
use Rattle.std.proofs.Common.{get_or}
use Rattle.std.proofs.lemmas.Option.{slice_get-get_or}
use Rattle.trac_streams.specs.Escapes.{escaped_byte}
use Rattle.trac_streams.proofs.ShownLists.{shown_more}
use Rattle.trac_streams.proofs.escaping.escaped_into.Goals as goal

pub loop-byte-preserved : goal.loop-byte-preserved
loop-byte-preserved g c =
    let at = c.loop-byte in
    shown_more escaped_byte c.args.text.now at.byte-index (get_or c.args.text.now at.byte-index 0) c.args.out.now.items at.out.items c.byte_into.new.out.items
    (slice_get-get_or c.args.text.now at.byte-index 0 c.loop-byte-test.true) at.invariant c.in_ok-byte_into.ensures
