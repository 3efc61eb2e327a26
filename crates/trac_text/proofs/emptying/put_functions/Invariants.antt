-- The functions that are put back stand in the text; they, after those that are left, are all.
use Rattle.std.proofs.Common.{◌≡◌, ◌++◌, [], List, length}
use Rattle.trac_rules.specs.declared.kind.Kind.{Kind}
use Rattle.trac_text.specs.Pieces.{Arguments, frames_in}
use Rattle.trac_text.proofs.NeutralAgain.{Shows}
use Rattle.trac_text.proofs.emptying.put_functions.Given as goal

abbrev pub invariant-loop-kind : goal.invariant-loop-kind
invariant-loop-kind g l = record {
  back : List (Kind × Arguments);
  all : l.functions.items ++ back ≡ l.fn.functions.items;
  shows : Shows (g.E.TwoEnds.ends l.text).left (g.M.TwoEnds.ends l.marks).left (record { base = l.base; frames = frames_in back });
  text_right : (g.E.TwoEnds.ends l.text).right ≡ [];
  mark_right : (g.M.TwoEnds.ends l.marks).right ≡ [];
  text_room : (g.E.TwoEnds.ends l.text).capacity ≡ (g.E.TwoEnds.ends l.fn.text).capacity;
  mark_room : (g.M.TwoEnds.ends l.marks).capacity ≡ (g.M.TwoEnds.ends l.fn.marks).capacity;
}

abbrev pub decreases-loop-kind : goal.decreases-loop-kind
decreases-loop-kind g l = length l.functions.items
