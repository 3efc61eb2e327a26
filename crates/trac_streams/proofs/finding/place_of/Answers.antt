use Rattle.trac_streams.proofs.Splitting.{place_found}
use Rattle.trac_streams.proofs.finding.place_of.Goals as goal

pub returns : goal.returns
returns c = place_found c.args.wanted c.args.bytes.now c.memchr.result c.memchr.ensures
