use Rattle.std.proofs.Common.{arith, sym}
use Rattle.std.proofs.lemmas.List.{take_all}
use Rattle.trac_messages.specs.declared.header.TheConstants.{HEADER_LIMIT}
use Rattle.trac_messages.proofs.header.front_of.Goals as goal

pub returns-then-bytes-lt-HEADER_LIMIT : goal.returns-then-bytes-lt-HEADER_LIMIT
returns-then-bytes-lt-HEADER_LIMIT c = sym (take_all HEADER_LIMIT c.args.bytes.now (omega arith))
