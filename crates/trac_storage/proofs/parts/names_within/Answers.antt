-- A name that is too long.
use Rattle.std.proofs.Common.{sym, arith}
use Rattle.trac_storage.proofs.Entries.{name_fails, name_next}
use Rattle.trac_storage.proofs.parts.names_within.Goals as goal

pub returns-then-len-gt-NAME_LIMIT : goal.returns-then-len-gt-NAME_LIMIT
returns-then-len-gt-NAME_LIMIT g c = sym (name_fails c.args.names.now c.loop-name.name-index c.name-item.result (omega arith) c.name-item.is (omega (arith, c.len.ensures)))

pub loop-name-preserved : goal.loop-name-preserved
loop-name-preserved g c =
    name_next c.args.names.now c.loop-name.name-index c.name-item.result (omega arith) c.name-item.is (omega (arith, c.len.ensures)) c.loop-name.invariant
