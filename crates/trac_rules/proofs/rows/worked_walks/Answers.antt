-- Each clause is computed from the definitions.
use Rattle.std.proofs.Common.{◌≡◌, ◌++◌, ◌∷◌, [], codes, refl, sym, ◌∙◌, arith, inl}
use Rattle.trac_rules.specs.Rows.{begun, fed, state_of}
use Rattle.trac_rules.specs.Session.{Back, Feed, Step}
use Rattle.trac_rules.specs.State.{State, initial}
use Rattle.trac_rules.specs.declared.kind.Kind.TheVariants.{Active}
use Rattle.trac_rules.proofs.Opened.{answer, match_of, performed, scan, step, texts_fit}
use Rattle.trac_rules.proofs.rows.worked_walks.Goals as goal

-- the state in which the text is read
resumed : State
resumed = record initial {
  active = codes "AB)";
  frames = begun Active (codes "ps" ∷ []) [] ∷ [];
  position = 3;
}

resumed-first : state_of (fed "AB" 8 ++ Feed (codes "'") ∷ Step ∷ []) ≡ resumed
unfolding match_of scan texts_fit performed step answer resumed
resumed-first = refl

resumed-second : state_of (fed "AB" 8 ++ Feed (codes "'") ∷ Step ∷ Back ∷ Feed (codes "C'") ∷ Step ∷ []) ≡ resumed
unfolding match_of scan texts_fit performed step answer resumed
resumed-second = refl

pub returns : goal.returns
unfolding match_of scan texts_fit performed step answer
returns c = record {
  resumed_again = resumed-second ∙ sym resumed-first;
  all_kinds_run = (_, refl, (_, refl, (_, refl, (_, refl, (_, refl, (_, refl, (_, refl, (_, refl, (_, refl, (_, refl, (_, refl, refl)))))))))));
  walk_there = record { within = omega arith; walked = refl; unmet = λ _ _ _ _ _. refl; stopped = inl refl };
  walk_back = record { within = omega arith; walked = refl; unmet = λ _ _ _ _ _. refl; stopped = inl refl };
  walk_at_start = record { within = omega arith; walked = refl; unmet = λ _ _ _ _ _. refl; stopped = (omega arith, (λ _. refl), refl) };
  walk_waiting = record { within = omega arith; walked = refl; unmet = λ _ _ _ _ _. refl; stopped = (omega arith, (λ _. refl), refl) };
  walk_full = record { within = omega arith; walked = refl; unmet = λ _ _ _ _ _. refl; stopped = (omega arith, (λ _. refl), refl) };
  walk_to_start = record { within = omega arith; walked = refl; unmet = λ _ _ _ _ _. refl; stopped = (omega arith, (λ _. refl), refl) };
  walk_to_the_rest = record { within = omega arith; walked = refl; unmet = λ _ _ _ _ _. refl; stopped = inl refl };
}
