use Rattle.std.proofs.Common.{arith}
use Rattle.trac_step.proofs.CallsUndone.{can_begin_texts, printed_within, read_within, shorter, stands_again}
use Rattle.trac_step.proofs.engine.Core.begin_again.Goals as goal

pub begin_again-requires : goal.begin_again-requires
begin_again-requires g c = can_begin_texts c.self.view_is c.args.called c.args.arguments.now c.requires

pub overflow_sub-len : goal.overflow_sub-len
overflow_sub-len g c = omega (arith, printed_within c.self.view_is c.args.called c.args.arguments.now c.requires, c.len.ensures.len)

pub overflow_sub-self : goal.overflow_sub-self
overflow_sub-self g c = read_within c.self.view_is c.args.called c.args.arguments.now c.requires

pub invariant_of-self : goal.invariant_of-self
invariant_of-self g c = record {
  storage_is = c.self.invariant.storage_is;
  output_limit = omega (arith, c.self.invariant.output_limit, shorter c.self.view_is c.args.called c.args.arguments.now c.requires c.begin_again.ensures.back c.begin_again.ensures.rooms c.unwrap_or-meta.ensures c.len.result c.len.ensures.len c.truncate.ensures);
}

pub returns : goal.returns
returns g c = stands_again c.self.view_is c.args.called c.args.arguments.now c.requires c.begin_again.ensures.back c.begin_again.ensures.rooms c.unwrap_or-meta.ensures c.len.result c.len.ensures.len c.truncate.ensures
