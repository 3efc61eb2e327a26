use Rattle.std.proofs.Common.{◌≡◌, ◌-◌, length, ap, ◌∙◌, arith}
use Rattle.std.proofs.lemmas.Result.{IfOk-weaker}
use Rattle.trac_origins.proofs.Told.{byte_within}
use Rattle.trac_follow_step.proofs.CallsTold.{active_kept, rest_carried, tells_active}
use Rattle.trac_follow_step.proofs.called.of_active.Goals as goal

pub returns-then-after-rest-clause-tells : goal.returns-then-after-rest-clause-tells
returns-then-after-rest-clause-tells g c = λ environment t item wide h lengths stands.
    let same : c.saturating_sub-rest.result ≡ length c.args.before.now.state.active - 1 = c.saturating_sub-rest.ensures ∙ ap (λ text. length text - 1) c.active.ensures in
    absurd (omega (arith, same, lengths.active, c.if-after-rest.true, active_kept environment c.args.before.now.state t c.requires.call.0 item h c.requires.call.1 c.args.width wide))

pub returns-then-i-value-clause-tells : goal.returns-then-i-value-clause-tells
returns-then-i-value-clause-tells g c = IfOk-weaker c.value_byte.result _ _ (λ origin tells environment t item wide h lengths stands.
    let same : c.saturating_sub-rest.result ≡ length c.args.before.now.state.active - 1 = c.saturating_sub-rest.ensures ∙ ap (λ text. length text - 1) c.active.ensures in
    tells_active environment c.args.before.now.state t c.requires.call.0 item h c.requires.call.1 c.args.width wide origin c.args.i (c.args.after.active - c.saturating_sub-rest.result) tells lengths.read
    (omega (arith, same, lengths.active)) c.if-i-value.true stands) c.value_byte.ensures.tells

pub returns-then-i-value-2-clause-tells : goal.returns-then-i-value-2-clause-tells
returns-then-i-value-2-clause-tells g c = λ environment t item wide h lengths stands.
    absurd (omega (arith, byte_within c.args.i t.active item stands, lengths.active, c.if-i-value-2.true, c.if-i-value.false, c.if-after-rest.false))

pub returns-clause-tells : goal.returns-clause-tells
returns-clause-tells g c = λ environment t item wide h lengths stands.
    let same : c.saturating_sub-rest.result ≡ length c.args.before.now.state.active - 1 = c.saturating_sub-rest.ensures ∙ ap (λ text. length text - 1) c.active.ensures in
    let n = c.args.after.active - c.saturating_sub-rest.result in
    rest_carried environment c.args.before.now.state t c.requires.call.0 item h c.requires.call.1 c.args.width wide c.args.i n
    (omega (arith, same, lengths.active)) (omega (arith, same, lengths.active, c.if-after-rest.false)) (omega (arith, c.if-i-value.false)) (omega (arith, same, c.if-i-value-2.false))
