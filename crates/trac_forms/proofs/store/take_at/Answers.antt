-- A value is taken, and the entry changes places with the last one that has a value.
use Rattle.std.proofs.Common.{◌≡◌, ◌-◌, get_or, is_some, refl, sym, ap, subst, ◌∙◌, arith}
use Rattle.std.specs.Prelude.{None}
use Rattle.std.specs.Map.{values_of}
use Rattle.std.proofs.lemmas.Option.{get_or_from_slice_get}
use Rattle.indexmap.specs.Layout.{length-set_value_at}
use Rattle.trac_forms.specs.Table.{IsParted}
use Rattle.trac_forms.proofs.Entries.{first_swapped, first_written}
use Rattle.trac_forms.proofs.Parted.{is_below, parted_fewer, parted_kept, parted_within}
use Rattle.trac_forms.proofs.store.take_at.Given.{Over}
use Rattle.trac_forms.proofs.store.take_at.Goals as goal
use Rattle.trac_forms.proofs.store.take_at.Goals.{After-is_some}

-- whether there was a value
was : (g : Over) (c : After-is_some g) → is_some (get_or (values_of c.args.table.now.entries) c.args.i None) ≡ c.is_some.result
was g c =
    ap is_some (get_or_from_slice_get (values_of c.args.table.now.entries) c.args.i _ None c.index_mut.ensures.value ∙ sym c.take-taken.ensures.value) ∙ sym c.is_some.ensures

pub swap_indices-requires-clause-a_in_bounds : goal.swap_indices-requires-clause-a_in_bounds
swap_indices-requires-clause-a_in_bounds g c = omega (arith, length-set_value_at c.args.table.now.entries c.args.i c.take-taken.new.self, c.requires.within)

pub swap_indices-requires-clause-b_in_bounds : goal.swap_indices-requires-clause-b_in_bounds
swap_indices-requires-clause-b_in_bounds g c =
    let full = was g (goal.at.swap_indices-requires-clause-b_in_bounds g c).After-is_some ∙ c.if-is_some.true in
    let es = c.args.table.now.entries in
    omega (arith, length-set_value_at es c.args.i c.take-taken.new.self, is_below es c.args.live.now c.requires.parted c.args.i full, parted_within es c.args.live.now c.requires.parted)

pub returns-then-is_some-clause-parted : goal.returns-then-is_some-clause-parted
returns-then-is_some-clause-parted g c =
    let full = was g (goal.at.returns-then-is_some-clause-parted g c).After-is_some ∙ c.if-is_some.true in
    subst (λ entries. IsParted entries (c.args.live.now - 1)) (sym c.swap_indices.ensures.entries)
    (parted_fewer c.args.table.now.entries c.args.live.now c.requires.parted c.args.i c.take-taken.new.self c.requires.within (ap is_some c.take-taken.ensures.after) full)

pub returns-else-is_some-clause-parted : goal.returns-else-is_some-clause-parted
returns-else-is_some-clause-parted g c =
    let none = was g (goal.at.returns-else-is_some-clause-parted g c).After-is_some ∙ c.if-is_some.false in
    parted_kept c.args.table.now.entries c.args.live.now c.requires.parted c.args.i c.take-taken.new.self c.requires.within (ap is_some c.take-taken.ensures.after ∙ sym none)

pub returns-then-is_some-clause-first : goal.returns-then-is_some-clause-first
returns-then-is_some-clause-first g c = λ n less all.
    let full = was g (goal.at.returns-then-is_some-clause-first g c).After-is_some ∙ c.if-is_some.true in
    let below = is_below c.args.table.now.entries c.args.live.now c.requires.parted c.args.i full in
    record {
      within = omega (arith, less);
      names = first_swapped n c.args.table.now.entries _ c.args.i c.take-taken.new.self (c.args.live.now - 1) c.swap_indices.ensures.entries (omega (arith, below, less)) (omega (arith, below, less)) all;
    }

pub returns-else-is_some-clause-first : goal.returns-else-is_some-clause-first
returns-else-is_some-clause-first g c = λ n less all. record { within = less; names = first_written n c.args.table.now.entries _ c.args.i c.take-taken.new.self refl }
