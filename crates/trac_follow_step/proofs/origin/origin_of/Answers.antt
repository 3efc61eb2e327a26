use Rattle.trac_follow_step.proofs.CallsTold.{given_call, moves_done}
use Rattle.trac_follow_step.proofs.origin.origin_of.Goals as goal

pub called-requires : goal.called-requires
called-requires g c = record { call = given_call c.args.before.now.state c.in-Some.field-0-0 c.in-Some.arguments c.in-Some.ensures }

pub returns-in-None-clause-tells : goal.returns-in-None-clause-tells
returns-in-None-clause-tells g c = λ environment t item wide h lengths stands.
    c.moved.ensures.tells environment t item h (moves_done environment c.args.before.now.state t c.in-None.ensures h) lengths.active stands
