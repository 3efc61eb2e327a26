use Rattle.std.proofs.Common.{ap, length, arith}
use Rattle.std.proofs.lemmas.Result.{on_ok_weaker}
use Rattle.trac_text.proofs.Holding.{byte_count, held_now}
use Rattle.trac_text.proofs.texts.Texts.reserve.Goals as goal

pub returns-clause-ok : goal.returns-clause-ok
returns-clause-ok g c =
    on_ok_weaker c.reserve.result
    (λ room. omega (arith, room, byte_count (held_now (record { sound = c.self.invariant; view = c.self.view_is })), ap length c.reserve.ensures.left, ap length c.reserve.ensures.right)) c.reserve.ensures.ok
