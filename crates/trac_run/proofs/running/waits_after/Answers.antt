use Rattle.std.proofs.Common.{◌≡◌, ◌<◌, ◌∙◌, length, sym, ap, subst}
use Rattle.std.specs.Prelude.{position, ◌==◌}
use Rattle.trac_prims.proofs.FirstPlaces.{first_byte}
use Rattle.trac_rules.specs.Reading.{unread}
use Rattle.trac_rules.specs.State.{State}
use Rattle.trac_rules.proofs.Waiting.{IsWithoutMeta, Feed_waits}
use Rattle.trac_streams.proofs.Splitting.{some_of_test}
use Rattle.trac_run.proofs.Waited.{none_by_test}
use Rattle.trac_run.proofs.running.waits_after.Goals as goal

pub returns-then-not-is_empty : goal.returns-then-not-is_empty
returns-then-not-is_empty g c = λ fed absent feeding wanted.
    let some : 0 < length (unread c.args.session.now.tape c.args.session.now.last) =
    subst (λ text. 0 < length text) c.unread.ensures.rest (some_of_test (length c.unread.result.now) c.is_empty.result c.is_empty.ensures c.if-not-is_empty.true) in
    let meta : c.meta.result ≡ c.args.session.now.last.meta = c.meta.ensures ∙ ap (λ (s : State). s.meta) c.machine.ensures.last in
    let none : IsWithoutMeta c.args.session.now.last c.args.bytes.now =
    ap (λ m. position (λ b. b == m) c.args.bytes.now) (sym meta)
    ∙ sym (first_byte c.meta.result c.args.bytes.now c.memchr.result c.memchr.ensures)
    ∙ none_by_test c.memchr.result c.is_none.result c.is_none.ensures absent in
    Feed_waits c.args.session.now fed c.args.bytes.now some none wanted feeding
