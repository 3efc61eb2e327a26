use Rattle.std.proofs.Common.{arith}
use Rattle.trac_journal.specs.Told.{printed_by, read_by}
use Rattle.trac_journal.proofs.Dropped.{all_kept, fewer_kept, kept_fits, last_kept}
use Rattle.trac_journal.proofs.journal.Journal.keep_newest.Goals as goal

pub loop-self-init : goal.loop-self-init
loop-self-init g c = record { read = all_kept read_by c.args.self.now.records c.args.n; printed = all_kept printed_by c.args.self.now.records c.args.n }

pub overflow_add-passed : goal.overflow_add-passed
overflow_add-passed g c =
    let less = c.drop_some-more.ensures in
    omega (arith, c.requires.read_fits, kept_fits less.kept less.some (omega arith) less.read c.loop-self.invariant.read)

pub overflow_add-passed-in-loop-self : goal.overflow_add-passed-in-loop-self
overflow_add-passed-in-loop-self g c =
    let less = c.drop_some-more.ensures in
    omega (arith, c.requires.printed_fits, kept_fits less.kept less.some (omega arith) less.printed c.loop-self.invariant.printed)

pub loop-self-preserved : goal.loop-self-preserved
loop-self-preserved g c =
    let less = c.drop_some-more.ensures in
    record {
      read = fewer_kept less.kept less.some (omega arith) less.read c.loop-self.invariant.read;
      printed = fewer_kept less.kept less.some (omega arith) less.printed c.loop-self.invariant.printed;
    }

pub returns-clause-kept : goal.returns-clause-kept
returns-clause-kept g c = (last_kept (omega arith) c.loop-self.invariant.read).0

pub returns-clause-read : goal.returns-clause-read
returns-clause-read g c = (last_kept (omega arith) c.loop-self.invariant.read).1

pub returns-clause-printed : goal.returns-clause-printed
returns-clause-printed g c = (last_kept (omega arith) c.loop-self.invariant.printed).1
