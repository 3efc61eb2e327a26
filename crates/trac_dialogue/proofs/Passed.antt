-- A line that is too long, as it is passed over part by part.
use Rattle.std.proofs.Common.{◌≡◌, ℕ, Bool, ◌+◌, ◌-◌, ◌*◌, ◌<◌, ◌≤◌, ◌==◌, List, [], ◌∷◌, ◌++◌, length, map, take, sym, ap, subst, arith, true, false, ⊎_elim}
use Rattle.std.specs.Prelude.{Option, nat_eq}
use Rattle.std.specs.Io.KnownBytes.{Consumes}
use Rattle.std.specs.List.{ends_with, onto_first}
use Rattle.std.proofs.lemmas.Bool.{cond-false, cond-true, cases_Bool}
use Rattle.std.proofs.lemmas.List.{append-nil, length-append, length-take}
use Rattle.trac_rules.specs.declared.byte.TheConstants.{CARRIAGE_RETURN, LINE_FEED}
use Rattle.trac_streams.specs.declared.ending.Ending.{Ending}
use Rattle.trac_streams.specs.declared.ending.Ending.TheVariants.{Memory, Read}
use Rattle.trac_streams.specs.declared.lines.NextLine.TheVariants.{TooLong}
use Rattle.trac_streams.specs.declared.lines.TheConstants.{LINE_COUNT_LIMIT, LINE_LIMIT}
use Rattle.trac_streams.specs.Lines.{between_feeds, without_return}
use Rattle.trac_streams.specs.Pending.{Pending}
use Rattle.trac_streams.specs.Reading.{Gathers, HELD_LIMIT, IsFront, MayFail}
use Rattle.trac_streams.proofs.Gathered.{few_held}
use Rattle.trac_streams.proofs.Known.{Consumes-both, Consumes-nothing}
use Rattle.trac_dialogue.specs.Talks.{IsRestStop, TakesFew, TakesMany}

-- ---- a part is longer than a line may be

-- how long the first of some lines is
abbrev first_length : List (List ℕ) → ℕ
first_length [] = 0
first_length (line ∷ lines) = length line

onto_length : (b : ℕ) (lines : List (List ℕ)) → first_length (onto_first b lines) ≤ first_length lines + 1
onto_length b [] = omega arith
onto_length b (line ∷ lines) = omega arith

-- the first line of a text is no longer than that
first_fits : (text : List ℕ) → first_length (between_feeds text) ≤ length text
first_fits [] = omega arith
first_fits (b ∷ text) = ⊎_elim
    (λ (feeds : (b == LINE_FEED) ≡ true). omega (arith, ap first_length (cond-true (b == LINE_FEED) ([] ∷ between_feeds text) (onto_first b (between_feeds text)) feeds)))
    (λ (other : (b == LINE_FEED) ≡ false). omega (arith, ap first_length (cond-false (b == LINE_FEED) ([] ∷ between_feeds text) (onto_first b (between_feeds text)) other), onto_length b (between_feeds text), first_fits text))
    (cases_Bool (b == LINE_FEED))

-- a line gets no longer without its carriage return
without_return_fits : (line : List ℕ) → length (without_return line) ≤ length line
without_return_fits line = ⊎_elim
    (λ (yes : ends_with nat_eq line (CARRIAGE_RETURN ∷ []) ≡ true). omega (arith, ap length (cond-true (ends_with nat_eq line (CARRIAGE_RETURN ∷ [])) (take (length line - 1) line) line yes), length-take (length line - 1) line))
    (λ (no_ : ends_with nat_eq line (CARRIAGE_RETURN ∷ []) ≡ false). omega (arith, ap length (cond-false (ends_with nat_eq line (CARRIAGE_RETURN ∷ [])) (take (length line - 1) line) line no_)))
    (cases_Bool (ends_with nat_eq line (CARRIAGE_RETURN ∷ [])))

returns_fit : (lines : List (List ℕ)) → first_length (map without_return lines) ≤ first_length lines
returns_fit [] = omega arith
returns_fit (line ∷ lines) = without_return_fits line

long_part : (bytes : List ℕ) (ended : Bool) → IsFront bytes ended TooLong → LINE_LIMIT < length bytes
long_part bytes ended long =
    let at = long [] in
    omega (arith, at.2, ap first_length at.3, returns_fit (between_feeds (bytes ++ [])), first_fits (bytes ++ []), ap length (append-nil bytes))

-- ---- parts

-- so many parts were read of a line
pub record Passing (old new : Option (List ℕ)) (parts : ℕ) : Type 0 where
  pub got : List ℕ
  pub took : Consumes old new got
  pub least : parts * (LINE_LIMIT + 1) ≤ length got
  pub most : length got ≤ parts * HELD_LIMIT

pub passing_none : (a : Option (List ℕ)) → Passing a a 0
passing_none a = record { got = []; took = Consumes-nothing a; least = omega arith; most = omega arith }

-- no read gives more than a part has
part_held : (a b : Option (List ℕ)) (old new : Pending) → (read : Gathers a b old new) → old.bytes ≡ [] → length read.got ≤ HELD_LIMIT
part_held a b old new read none = ⊎_elim
    (λ (nothing : read.got ≡ []). omega (arith, ap length nothing))
    (λ (few : length new.bytes ≤ HELD_LIMIT). omega (arith, few, ap length read.bytes, ap length none, length-append old.bytes read.got))
    (few_held a b old new read)

-- a part more
pub passing_more : (a b c : Option (List ℕ)) (parts : ℕ) (old new : Pending) → Passing a b parts → old.bytes ≡ [] → Gathers b c old new → IsFront new.bytes new.ended TooLong → Passing a c (parts + 1)
passing_more a b c parts old new first none read long = record {
  got = first.got ++ read.got;
  took = Consumes-both a b c first.got read.got first.took read.took;
  least = omega (arith, first.least, long_part new.bytes new.ended long, ap length read.bytes, ap length none, length-append old.bytes read.got, length-append first.got read.got);
  most = omega (arith, first.most, part_held b c old new read none, length-append first.got read.got);
}

-- and then the end of the line, or of what can be read
pub passed_few : (a b c : Option (List ℕ)) (parts : ℕ) (old new : Pending) → Passing a b parts → parts < LINE_COUNT_LIMIT → old.bytes ≡ [] → Gathers b c old new → TakesFew a c
passed_few a b c parts old new first below none read = record {
  got = first.got ++ read.got;
  took = Consumes-both a b c first.got read.got first.took read.took;
  few = omega (arith, first.most, below, part_held b c old new read none, length-append first.got read.got);
}

-- all parts that there may be
pub passed_all : (a b : Option (List ℕ)) (parts : ℕ) → Passing a b parts → parts ≤ LINE_COUNT_LIMIT → TakesFew a b
passed_all a b parts all most = record { got = all.got; took = all.took; few = omega (arith, all.most, most) }

pub passed_many : (a b : Option (List ℕ)) (parts : ℕ) → Passing a b parts → LINE_COUNT_LIMIT ≤ parts → TakesMany a b
passed_many a b parts all least = record { got = all.got; took = all.took; many = omega (arith, all.least, least) }

-- a read that fails may end it
pub failed_rest : (a b c : Option (List ℕ)) (old new : Pending) (e : Ending) → MayFail b c old new e → IsRestStop a c e
failed_rest a b c old new e h = ⊎_elim
    (λ (is : e ≡ Memory). subst (IsRestStop a c) (sym is) tt)
    (λ (is : e ≡ Read). subst (IsRestStop a c) (sym is) tt)
    h.fault

-- what the goals of `pass_rest` use
pub ruleset for_pass_rest = (passing_none, passed_all, passed_many, failed_rest)
