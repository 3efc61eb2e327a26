-- The leftmost occurrence leaves the first gap.
use Rattle.std.proofs.Common.{List, ℕ, length, refl, subst}
use Rattle.std.specs.Prelude.{None, Some}
use Rattle.memchr.specs.Find.{FindsNeedle}
use Rattle.trac_items.proofs.RunGaps.{cut_ends, cut_goes_on}
use Rattle.trac_items.proofs.run_gaps.new_gaps_into.Goals as goal

pub occurrences-preserved : goal.occurrences-preserved
occurrences-preserved g c =
    cut_goes_on c.args.number c.args.text.now c.args.run.now c.args.gaps.now.items c.occurrences.gaps.items c.occurrences.rest.now c.occurrences.invariant
    (record { passed = c.in-Some.passed; taken = length c.args.text.now; width = length c.args.text.now; ordinal = c.args.number }) c.push.new.self.items c.split_at.result.1.now c.requires.some
    (subst (λ (t : List ℕ). FindsNeedle c.occurrences.rest.now t 0 (Some c.in-Some.passed)) c.requires.finds c.in-Some.ensures) refl refl refl
    c.in_ok-push.ensures.items c.split_at.ensures.back

pub returns : goal.returns
returns g c = record {
  cut =
      cut_ends c.args.number c.args.text.now c.args.run.now c.args.gaps.now.items c.occurrences.gaps.items c.occurrences.rest.now c.occurrences.invariant
      (subst (λ (t : List ℕ). FindsNeedle c.occurrences.rest.now t 0 None) c.requires.finds c.in_default.ensures);
}
