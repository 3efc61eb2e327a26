use Rattle.std.proofs.Common.{ap}
use Rattle.trac_messages.specs.Incoming.{Pending}
use Rattle.trac_messages.specs.declared.incoming.Front.TheVariants.{Part}
use Rattle.trac_messages.proofs.Given.{front_same}
use Rattle.trac_messages.proofs.incoming.Incoming.is_ready.Goals as goal

pub returns-in_default-clause-ready : goal.returns-in_default-clause-ready
returns-in_default-clause-ready g c = λ e. record {
  front = c.front_of-front.result;
  is = front_same c.rest.result.now c.args.self.now.bytes c.self.inside.ended c.args.self.now.ended c.front_of-front.result
      c.rest.ensures (ap (λ (p : Pending). p.ended) c.self.view_is) c.front_of-front.ensures;
  whole = c.in_default.not-Part;
}

pub returns-in-Part-clause-part : goal.returns-in-Part-clause-part
returns-in-Part-clause-part g c = λ e. front_same c.rest.result.now c.args.self.now.bytes c.self.inside.ended c.args.self.now.ended Part
    c.rest.ensures (ap (λ (p : Pending). p.ended) c.self.view_is) c.in-Part.ensures
