use Rattle.trac_origins.proofs.Unchanged.{calls_held, calls_unchanged, moves_held, moves_unchanged}
use Rattle.trac_origins.proofs.lengths.forms_hold_what_they_held.Goals as goal

pub returns : goal.returns
returns c = record {
  moves = λ environment s t name i item h is stands. let same = moves_unchanged environment s t name i item h is stands in (same.items, same.carried);
  calls = λ environment s t call name i item h is other stands. let same = calls_unchanged environment s t call name i item h is other stands in (same.items, same.carried);
  moves_held = moves_held;
  calls_held = calls_held;
}
