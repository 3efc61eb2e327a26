use Rattle.std.proofs.Common.{refl, inl}
use Rattle.trac_streams.proofs.Known.{Appends-kept, front_of_itself}
use Rattle.trac_streams.proofs.writing.finish.Goals as goal

pub returns : goal.returns
returns g c = record {
  written = c.args.text.now;
  front = front_of_itself c.args.text.now;
  gave = Appends-kept _ _ _ _ c.in_default.ensures.ok c.in_default-flush.ensures.same;
  ends = inl (refl, refl);
}
