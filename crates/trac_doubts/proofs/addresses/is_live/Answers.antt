use Rattle.std.proofs.Common.{◌≡◌, List, ℕ, ap, not, subst, sym, ◌∙◌, pos, w64, to_z, of_z}
use Rattle.std.specs.Int.{FitsUnsigned, w128}
use Rattle.std.specs.Prelude.{None, Some, bytes_eq, is_some, unsigned_abs}
use Rattle.std.proofs.lemmas.Int.{to_z-of_z}
use Rattle.trac_rules.specs.Blocks.{block_at}
use Rattle.trac_rules.specs.Number.{number_of}
use Rattle.trac_rules.specs.declared.width.Width.TheVariants.{W64}
use Rattle.trac_prims.proofs.Addressing.{as_place, none_below, none_live, none_read}
use Rattle.trac_doubts.proofs.Addressed.{of_none, of_some, spelled_so}
use Rattle.trac_doubts.proofs.addresses.is_live.Goals as goal

pub returns-in_default : goal.returns-in_default
returns-in_default g c = λ form bytes.
    sym (ap is_some (none_read form c.args.text.now c.args.store.now.blocks c.block_count-count.ensures.within bytes
    (sym (c.in_default.ensures ∙ ap (number_of W64) c.read_tail.ensures.numeral))))

pub returns-in_default-try_from : goal.returns-in_default-try_from
returns-in_default-try_from g c = λ form bytes.
    let read_back : to_z w128 (of_z w128 c.in-Some.number) ≡ c.in-Some.number = to_z-of_z w128 c.in-Some.number search in
    sym (ap is_some (none_below form c.args.text.now c.args.store.now.blocks c.block_count-count.ensures.within bytes c.in-Some.number
    (sym (c.in-Some.ensures ∙ ap (number_of W64) c.read_tail.ensures.numeral))
    (λ (fits : FitsUnsigned w64 c.in-Some.number). c.in_default-try_from.ensures (subst (FitsUnsigned w64) (sym read_back) fits))))

pub returns-then-is_none : goal.returns-then-is_none
returns-then-is_none g c = λ form bytes.
    let read_back : to_z w128 (of_z w128 c.in-Some.number) ≡ c.in-Some.number = to_z-of_z w128 c.in-Some.number search in
    let is : pos c.in-Ok.place ≡ c.in-Some.number =
    as_place c.in-Some.number c.in-Ok.place (subst (FitsUnsigned w64) read_back c.in-Ok.ensures.0) (c.in-Ok.ensures.1 ∙ ap unsigned_abs read_back) in
    let erased : block_at c.in-Ok.place c.args.store.now.blocks ≡ None = of_none _ _ c.block.result (c.is_none.ensures ∙ ap not c.if-is_none.true) c.block.ensures in
    sym (ap is_some (none_live form c.args.text.now c.args.store.now.blocks c.block_count-count.ensures.within bytes c.in-Ok.place
    (sym (ap Some is ∙ c.in-Some.ensures ∙ ap (number_of W64) c.read_tail.ensures.numeral)) erased))

pub returns : goal.returns
returns g c = λ form bytes.
    let read_back : to_z w128 (of_z w128 c.in-Some.number) ≡ c.in-Some.number = to_z-of_z w128 c.in-Some.number search in
    let is : pos c.in-Ok.place ≡ c.in-Some.number =
    as_place c.in-Some.number c.in-Ok.place (subst (FitsUnsigned w64) read_back c.in-Ok.ensures.0) (c.in-Ok.ensures.1 ∙ ap unsigned_abs read_back) in
    let live = of_some _ _ c.block.result (c.is_none.ensures ∙ ap not c.if-is_none.false) c.block.ensures in
    spelled_so form c.args.text.now c.args.store.now.blocks c.in-Ok.place live.0.now.held c.eq.result c.block_count-count.ensures.within bytes
    (sym (ap Some is ∙ c.in-Some.ensures ∙ ap (number_of W64) c.read_tail.ensures.numeral)) live.1
    (c.eq.ensures ∙ ap (λ (xs : List ℕ). bytes_eq xs c.args.text.now) (c.as_bytes.ensures.value ∙ c.format.ensures.text))
