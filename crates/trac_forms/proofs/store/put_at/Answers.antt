-- A value is put in the place of another, or of none, and then after all others.
use Rattle.std.proofs.Common.{◌≡◌, ◌+◌, get_or, not, is_some, refl, sym, ap, subst, ◌∙◌, arith}
use Rattle.std.specs.Prelude.{None}
use Rattle.std.specs.Map.{values_of}
use Rattle.std.proofs.lemmas.Option.{get_or_from_slice_get}
use Rattle.indexmap.specs.Layout.{length-set_value_at}
use Rattle.trac_forms.specs.Table.{IsParted}
use Rattle.trac_forms.proofs.Entries.{first_swapped, first_written}
use Rattle.trac_forms.proofs.Parted.{is_past, parted_kept, parted_more}
use Rattle.trac_forms.proofs.store.put_at.Given.{Over}
use Rattle.trac_forms.proofs.store.put_at.Goals as goal
use Rattle.trac_forms.proofs.store.put_at.Goals.{After-is_none}

-- whether there was a value
was : (g : Over) (c : After-is_none g) → is_some (get_or (values_of c.args.table.now.entries) c.args.i None) ≡ not c.is_none.result
was g c =
    ap is_some (get_or_from_slice_get (values_of c.args.table.now.entries) c.args.i _ None c.index_mut.ensures.value ∙ sym c.replace-replaced.ensures.value) ∙ c.is_none.ensures

pub swap_indices-requires-clause-a_in_bounds : goal.swap_indices-requires-clause-a_in_bounds
swap_indices-requires-clause-a_in_bounds g c = omega (arith, length-set_value_at c.args.table.now.entries c.args.i c.replace-replaced.new.self, c.requires.within)

pub swap_indices-requires-clause-b_in_bounds : goal.swap_indices-requires-clause-b_in_bounds
swap_indices-requires-clause-b_in_bounds g c =
    let none = was g (goal.at.swap_indices-requires-clause-b_in_bounds g c).After-is_none ∙ ap not c.if-is_none.true in
    let es = c.args.table.now.entries in
    omega (arith, length-set_value_at es c.args.i c.replace-replaced.new.self, is_past es c.args.live.now c.requires.parted c.args.i none, c.requires.within)

pub overflow_add-live : goal.overflow_add-live
overflow_add-live g c =
    let none = was g (goal.at.overflow_add-live g c).After-is_none ∙ ap not c.if-is_none.true in
    omega (arith, is_past c.args.table.now.entries c.args.live.now c.requires.parted c.args.i none, c.requires.within, c.len-len.ensures.len, c.len-len.ensures.small)

pub returns-then-is_none-clause-parted : goal.returns-then-is_none-clause-parted
returns-then-is_none-clause-parted g c =
    let none = was g (goal.at.returns-then-is_none-clause-parted g c).After-is_none ∙ ap not c.if-is_none.true in
    subst (λ entries. IsParted entries (c.args.live.now + 1)) (sym c.swap_indices.ensures.entries)
    (parted_more c.args.table.now.entries c.args.live.now c.requires.parted c.args.i c.replace-replaced.new.self c.requires.within (ap is_some c.replace-replaced.ensures.after) none)

pub returns-else-is_none-clause-parted : goal.returns-else-is_none-clause-parted
returns-else-is_none-clause-parted g c =
    let full = was g (goal.at.returns-else-is_none-clause-parted g c).After-is_none ∙ ap not c.if-is_none.false in
    parted_kept c.args.table.now.entries c.args.live.now c.requires.parted c.args.i c.replace-replaced.new.self c.requires.within (ap is_some c.replace-replaced.ensures.after ∙ sym full)

pub returns-then-is_none-clause-first : goal.returns-then-is_none-clause-first
returns-then-is_none-clause-first g c = λ n below less all.
    let none = was g (goal.at.returns-then-is_none-clause-first g c).After-is_none ∙ ap not c.if-is_none.true in
    let past = is_past c.args.table.now.entries c.args.live.now c.requires.parted c.args.i none in
    record {
      within = omega (arith, past, below);
      names = first_swapped n c.args.table.now.entries _ c.args.i c.replace-replaced.new.self c.args.live.now c.swap_indices.ensures.entries below (omega (arith, past, below)) all;
    }

pub returns-else-is_none-clause-first : goal.returns-else-is_none-clause-first
returns-else-is_none-clause-first g c = λ n below less all. record { within = less; names = first_written n c.args.table.now.entries _ c.args.i c.replace-replaced.new.self refl }
