use Rattle.trac_streams.proofs.Gathered.{gathers_by_none}
use Rattle.trac_streams.proofs.lines.Lines.has_more.Goals as goal
use Rattle.trac_streams.proofs.lines.Lines.has_more.Goals.{then-is_empty+then-not-self+in_ok-read_more, else-is_empty}

pub returns-clause-read : goal.returns-clause-read
returns-clause-read g c =
    elim c.if-is_empty.branch [
      | then-is_empty+then-not-self+in_ok-read_more w ↦ rw (w.self-is, w.input-is, w.reads-is) w.in_ok-read_more.ensures.more.gathers
      | else-is_empty w ↦ rw (w.self-is, w.input-is, w.reads-is) (gathers_by_none _ c.args.reads.now c.args.self.now c.requires.at_end)
    ]
