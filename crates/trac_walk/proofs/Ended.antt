-- How a walk ends, by how its dialogue does.
use Rattle.std.proofs.Common.{◌≡◌, inl, inr, ℕ, ◌<◌, ◌≤◌, List, length, sym, subst, arith}
use Rattle.std.specs.Prelude.{◌↔◌}
use Rattle.trac_rules.specs.declared.limit.TheConstants.{TAPE_LIMIT}
use Rattle.trac_streams.specs.declared.ending.Ending.{Ending}
use Rattle.trac_streams.specs.declared.ending.Ending.TheVariants.{Ended, Budget, Limit, Memory, Read, Write, NotUnderstood}
use Rattle.trac_dialogue.specs.Talks.{IsStop}
use Rattle.trac_dialogue.proofs.Talked.{gives_none, takes_none}
use Rattle.trac_streams.specs.Tape.{MayRefuseTape}
use Rattle.trac_walk.specs.Ends.{MayEnd}

-- what ends a dialogue that was begun may end one
pub stop_may_end : (e : Ending) → IsStop e → MayEnd e
stop_may_end Ended s = tt
stop_may_end Budget s = tt
stop_may_end Limit s = tt
stop_may_end Memory s = tt
stop_may_end Read s = tt
stop_may_end Write s = tt
stop_may_end (NotUnderstood line) s = s

-- a dialogue that was begun is over a program that is not too long
pub stop_is_within : (program : List ℕ) (e : Ending) → IsStop e → length program ≤ TAPE_LIMIT → (e ≡ Limit) ↔ (TAPE_LIMIT < length program)
stop_is_within program e s within = (λ is. absurd (subst IsStop is s), λ long. absurd (omega (arith, within, long)))

-- a dialogue that is refused may end so
pub refused_may_end : (program : List ℕ) (e : Ending) → MayRefuseTape program e → MayEnd e
refused_may_end program e (inl why) = subst MayEnd (sym why.0) tt
refused_may_end program e (inr why) = subst MayEnd (sym why.0) tt

-- it is refused as too long where the program is
pub refused_too_long : (program : List ℕ) (e : Ending) → MayRefuseTape program e → (e ≡ Limit) ↔ (TAPE_LIMIT < length program)
refused_too_long program e (inl why) = (λ is. absurd (cc (why.0, is)), λ long. absurd (omega (arith, why.1, long)))
refused_too_long program e (inr why) = (λ is. why.1, λ long. why.0)

-- what the goals of `walk` use
pub ruleset for_walk = (takes_none, gives_none, stop_may_end, stop_is_within, refused_may_end, refused_too_long)
