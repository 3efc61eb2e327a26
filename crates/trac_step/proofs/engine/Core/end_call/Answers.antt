use Rattle.std.proofs.Common.{◌<◌, length, sym, subst}
use Rattle.trac_step.specs.Layout.{Shown}
use Rattle.trac_step.proofs.Ended.{ended, no_less_ended, printed_within, some_active, value_limit, value_room}
use Rattle.trac_step.proofs.Finishing.{begins_here}
use Rattle.trac_step.proofs.engine.Core.end_call.Goals as goal

pub end_function-requires : goal.end_function-requires
end_function-requires g c = record {
  closing = subst (λ (m : Shown). 0 < length m.state.active) (sym c.self.view_is) (some_active c.args.self.now.state.active c.requires.front);
  begins = begins_here c.self.view_is c.args.beginning c.requires.begins;
}

pub put_value-requires : goal.put_value-requires
put_value-requires g c = record {
  room = value_room c.args.beginning c.args.deed c.args.made.now c.self.view_is c.requires c.end_function.ensures c.as_slice.result.now c.as_slice.ensures.value;
  limit = value_limit c.args.beginning c.args.deed c.args.made.now c.self.view_is c.requires c.end_function.ensures c.as_slice.result.now c.as_slice.ensures.value;
}

pub invariant_of-self : goal.invariant_of-self
invariant_of-self g c = record {
  storage_is = c.self.invariant.storage_is;
  output_limit =
      printed_within c.args.beginning c.args.deed c.args.made.now c.self.view_is c.requires c.end_function.ensures c.put_printed.new.output c.put_value.ensures c.unwrap_or-meta.ensures c.unwrap_or-trace.ensures c.put_printed.ensures.items
      c.as_slice.ensures.value c.as_slice-2.ensures.value;
}

pub returns : goal.returns
returns g c = record {
  state =
      ended c.args.beginning c.args.deed c.args.made.now c.self.view_is c.requires c.end_function.ensures c.put_printed.new.output c.put_value.ensures c.unwrap_or-meta.ensures c.unwrap_or-trace.ensures c.put_printed.ensures.items
      c.as_slice.ensures.value c.as_slice-2.ensures.value;
  room =
      no_less_ended c.args.beginning c.args.deed c.args.made.now c.self.view_is c.requires c.end_function.ensures c.put_printed.new.output c.put_value.ensures c.unwrap_or-meta.ensures c.unwrap_or-trace.ensures c.put_printed.ensures.items
      c.as_slice.ensures.value c.as_slice-2.ensures.value c.put_printed.ensures.grows;
}
