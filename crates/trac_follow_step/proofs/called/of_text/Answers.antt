use Rattle.std.proofs.Common.{sym, subst}
use Rattle.std.proofs.lemmas.Result.{IfOk-weaker}
use Rattle.trac_follow_step.specs.Places.{IsOutside, place_of}
use Rattle.trac_follow_step.proofs.CallsTold.{number_is, tells_current, text_carried, text_new, text_past}
use Rattle.trac_follow_step.proofs.called.of_text.Goals as goal

pub returns-then-stands_around-clause-tells : goal.returns-then-stands_around-clause-tells
returns-then-stands_around-clause-tells g c = λ after environment t item wide h lengths stands.
    let call = c.requires.call in
    let there = c.stands_around.ensures.there c.if-stands_around.true in
    text_carried environment c.args.before.now.state t call.0 item h call.1 c.args.width wide (place_of c.args.place) there.0.0 there.1.0 there.0.1
    (subst (λ n. IsOutside n (place_of c.args.place)) (sym (number_is c.args.before.now.state call.0 call.1 c.innermost-function.result (c.innermost-function.ensures call.0 call.1))) there.1.1)

pub returns-clause-tells : goal.returns-clause-tells
returns-clause-tells g c = IfOk-weaker c.value_byte.result _ _ (λ origin tells after environment t item wide h lengths stands.
    let s = c.args.before.now.state in
    let p = place_of c.args.place in
    let call = c.requires.call in
    let new = text_new environment s t call.0 item h call.1 c.args.width wide p c.innermost-function.result (c.innermost-function.ensures call.0 call.1) c.requires.text
    (c.stands_around.ensures.bare c.if-stands_around.false c.requires.text) stands in
    tells_current environment s t call.0 item h call.1 c.args.width wide origin p c.past_current.result tells lengths.read
    (text_past environment s t call.0 item h call.1 c.args.width wide p c.innermost-function.result c.past_current.result (c.innermost-function.ensures call.0 call.1) new c.past_current.ensures) stands) c.value_byte.ensures.tells
