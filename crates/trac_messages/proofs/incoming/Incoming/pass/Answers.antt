use Rattle.std.proofs.Common.{List, ap, arith, length, ◌-◌, ◌∙◌, ℕ}
use Rattle.trac_messages.proofs.Given.{passes_all}
use Rattle.trac_messages.proofs.incoming.Incoming.pass.Goals as goal

pub returns-else-len-held-clause-coming : goal.returns-else-len-held-clause-coming
returns-else-len-held-clause-coming g c =
    passes_all c.args.self.now c.pass_all.new.self c.args.len c.requires
    (c.pass_all.ensures.skip ∙ ap (λ (t : List ℕ). c.args.len - length t) c.rest-held.ensures) c.pass_all.ensures.bytes (omega (arith, ap length c.rest-held.ensures))
