use Rattle.std.proofs.Common.{sym}
use Rattle.trac_follow_step.specs.Places.{place_of}
use Rattle.trac_web_requests.proofs.ways.way_text.Goals as goal

pub returns-in-Ok-clause-way : goal.returns-in-Ok-clause-way
returns-in-Ok-clause-way g c = record {
  p = c.in_ok-window.window.session;
  reached = c.in_ok-window.ensures.reached;
  output = c.in_ok-window.ensures.output.0;
  forgotten = c.in_ok-window.window.forgotten;
  released = c.in_ok-window.window.released;
  window = c.in_ok-window.ensures.output.1;
  place = place_of c.in-Some.place;
  there = sym c.in-Some.ensures;
  way = c.in-Ok.ensures;
}
