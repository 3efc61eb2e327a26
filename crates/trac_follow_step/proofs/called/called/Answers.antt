use Rattle.std.proofs.Common.{sym, subst}
use Rattle.std.proofs.lemmas.Result.{IfOk-weaker}
use Rattle.trac_follow_step.specs.Places.{TellsOf, place_of}
use Rattle.trac_follow_step.proofs.called.called.Goals as goal

pub returns-in-Form-clause-tells : goal.returns-in-Form-clause-tells
returns-in-Form-clause-tells g c =
    subst (λ p. TellsOf c.args.before.now.state c.args.width c.args.after (place_of p) c.of_form.result) (sym c.in-Form.is) (c.of_form.ensures.tells c.args.width)

pub returns-in-Held-clause-tells : goal.returns-in-Held-clause-tells
returns-in-Held-clause-tells g c =
    subst (λ p. TellsOf c.args.before.now.state c.args.width c.args.after (place_of p) c.of_block.result) (sym c.in-Held.is) (c.of_block.ensures.tells c.args.width c.args.after)

pub returns-in-Base-clause-tells : goal.returns-in-Base-clause-tells
returns-in-Base-clause-tells g c = IfOk-weaker c.of_text.result _ _ (λ origin tells. tells c.args.after) c.of_text.ensures.tells
