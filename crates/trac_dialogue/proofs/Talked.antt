-- A dialogue, as one read or write follows another.
use Rattle.std.proofs.Common.{◌≡◌, inl, inr, ℕ, List, [], ◌++◌, sym, subst, arith, ⊎_elim}
use Rattle.std.specs.Prelude.{Option, Result, Ok, Err, IfErr}
use Rattle.trac_streams.specs.declared.ending.Ending.{Ending}
use Rattle.trac_streams.specs.declared.ending.Ending.TheVariants.{Ended, Budget, Limit, Memory, Read, Write, NotUnderstood}
use Rattle.trac_streams.proofs.Known.{Appends-both, Appends-nothing, Consumes-both, Consumes-nothing}
use Rattle.trac_streams.specs.Pending.{Pending}
use Rattle.trac_streams.specs.Reading.{Gathers, MayFail}
use Rattle.trac_dialogue.specs.Talks.{Gives, IsFault, IsRestStop, IsStop, Takes, TakesFew}

-- nothing is written
pub gives_none : (a : Option (List ℕ)) → Gives a a
gives_none a = record { written = []; gave = Appends-nothing a }

-- one text after another
pub gives_both : (a b c : Option (List ℕ)) → Gives a b → Gives b c → Gives a c
gives_both a b c first second = record {
  written = first.written ++ second.written;
  gave = Appends-both a b c first.written second.written first.gave second.gave;
}

-- nothing is read
pub takes_none : (a : Option (List ℕ)) → Takes a a
takes_none a = record { got = []; took = Consumes-nothing a }

-- one text after another
pub takes_both : (a b c : Option (List ℕ)) → Takes a b → Takes b c → Takes a c
takes_both a b c first second = record { got = first.got ++ second.got; took = Consumes-both a b c first.got second.got first.took second.took }

-- a fault ends a dialogue
pub fault_stops : (e : Ending) → IsFault e → IsStop e
fault_stops e (inl is) = subst IsStop (sym is) tt
fault_stops e (inr is) = subst IsStop (sym is) tt

pub faults_stop : {T : Type 0} (r : Result T Ending) → IfErr r IsFault → IfErr r IsStop
faults_stop (Ok v) h = tt
faults_stop (Err e) h = fault_stops e h

-- reads that gave what was wanted took bytes, and those before one that failed; a read that failed ends a dialogue
pub seek_takes : (a b : Option (List ℕ)) (old new : Pending) → Gathers a b old new → Takes a b
seek_takes a b old new h = record { got = h.got; took = h.took }

pub failed_takes : (a b : Option (List ℕ)) (old new : Pending) (e : Ending) → MayFail a b old new e → Takes a b
failed_takes a b old new e h = record { got = h.gathers.got; took = h.gathers.took }

pub failed_stops : (a b : Option (List ℕ)) (old new : Pending) (e : Ending) → MayFail a b old new e → IsStop e
failed_stops a b old new e h = ⊎_elim (λ (is : e ≡ Memory). subst IsStop (sym is) tt) (λ (is : e ≡ Read). subst IsStop (sym is) tt) h.fault

-- a line that was passed over took bytes, and what ends that ends a dialogue
pub few_takes : (a b : Option (List ℕ)) → TakesFew a b → Takes a b
few_takes a b h = record { got = h.got; took = h.took }

pub takes_few_none : (a : Option (List ℕ)) → TakesFew a a
takes_few_none a = record { got = []; took = Consumes-nothing a; few = omega arith }

pub rest_stops : (a b : Option (List ℕ)) (e : Ending) → IsRestStop a b e → IsStop e
rest_stops a b Ended h = absurd h
rest_stops a b Budget h = tt
rest_stops a b Limit h = h
rest_stops a b Memory h = tt
rest_stops a b Read h = tt
rest_stops a b Write h = absurd h
rest_stops a b (NotUnderstood line) h = h

-- what the goals of `converse` use
pub ruleset for_converse = (takes_none, gives_none, takes_both, gives_both)

-- what the goals of `take_line` use
pub ruleset for_take_line = (seek_takes, failed_takes, failed_stops, fault_stops, faults_stop, takes_none, gives_both)

-- what the goals of `pass_line` use
pub ruleset for_pass_line = (takes_few_none, fault_stops, faults_stop, rest_stops, gives_both)
