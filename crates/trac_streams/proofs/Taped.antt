-- A tape that is read, a part after the other.
use Rattle.std.proofs.Common.{◌≡◌, ℕ, ◌+◌, ◌<◌, ◌≤◌, List, [], ◌++◌, length, sym, subst, arith, inl, inr, refl}
use Rattle.std.specs.Prelude.{Option}
use Rattle.std.specs.Io.KnownBytes.{Consumes}
use Rattle.std.proofs.lemmas.List.{length-append}
use Rattle.trac_rules.specs.declared.limit.TheConstants.{TAPE_LIMIT}
use Rattle.trac_streams.specs.declared.ending.Ending.{Ending}
use Rattle.trac_streams.specs.declared.ending.Ending.TheVariants.{Limit}
use Rattle.trac_streams.proofs.Known.{Consumes-nothing, Consumes-both}
use Rattle.trac_streams.specs.Tape.{AddsPart, IsNoPart, IsNoTape, IsTape}

-- what was read so far
pub record IsRead (in_old in_now : Option (List ℕ)) (tape : List ℕ) : Type 0 where
  pub took : Consumes in_old in_now tape
  pub most : length tape ≤ TAPE_LIMIT + 1

pub read_none : (input : Option (List ℕ)) (tape : List ℕ) → tape ≡ [] → IsRead input input tape
read_none input tape none = subst (IsRead input input) (sym none) (record { took = Consumes-nothing input; most = omega arith })

-- a part more
pub read_part_more : (a b c : Option (List ℕ)) (old new : List ℕ) (count : ℕ) → IsRead a b old → AddsPart b c old new count → IsRead a c new
read_part_more a b c old new count far part = record {
  took = subst (Consumes a c) (sym part.bytes) (Consumes-both a b c old part.got far.took part.took);
  most = part.most;
}

-- all of it
pub read_whole : (a b c : Option (List ℕ)) (old new : List ℕ) (count : ℕ) → IsRead a b old → AddsPart b c old new count → length new ≡ length old + count → count ≡ 0 → length old ≤ TAPE_LIMIT → IsTape a c new
read_whole a b c old new count far part longer none within = record {
  took = (read_part_more a b c old new count far part).took;
  at_end = part.at_end none;
  within = omega (arith, longer, none, within);
}

-- one byte too many
pub read_beyond : (a b : Option (List ℕ)) (tape : List ℕ) → IsRead a b tape → TAPE_LIMIT < length tape → IsNoTape a b Limit
read_beyond a b tape far beyond = record { got = tape; took = far.took; most = far.most; why = inl (refl, omega (arith, far.most)) }

-- a fault
pub read_no_part : (a b c : Option (List ℕ)) (old : List ℕ) (ending : Ending) → IsRead a b old → IsNoPart b c old ending → IsNoTape a c ending
read_no_part a b c old ending far part = record {
  got = old ++ part.got;
  took = Consumes-both a b c old part.got far.took part.took;
  most = omega (arith, length-append old part.got, part.most);
  why = inr part.why;
}
