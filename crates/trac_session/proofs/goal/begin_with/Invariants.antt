use Rattle.std.proofs.Common.{◌≡◌, drop, map}
use Rattle.std.specs.List.{starts_with}
use Rattle.std.specs.Str.{bytes_eq}
use Rattle.trac_session.proofs.goal.begin_with.Given as goal

-- the texts from here on tell
abbrev pub invariant-loop-i : goal.invariant-loop-i
invariant-loop-i l =
    starts_with bytes_eq (drop l.i l.arguments) (drop l.i (map (λ text. text.now) l.wanted)) ≡ starts_with bytes_eq l.arguments (map (λ text. text.now) l.wanted)
