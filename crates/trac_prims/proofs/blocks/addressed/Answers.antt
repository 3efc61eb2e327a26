use Rattle.std.proofs.Common.{◌≡◌, List, [], ℕ, ℤ, ◌++◌, ap, subst, sym, ◌∙◌, pos, w64, to_z, of_z}
use Rattle.std.specs.Int.{FitsUnsigned, w128}
use Rattle.std.specs.Prelude.{Some, bytes_eq, decimal, unsigned_abs}
use Rattle.std.proofs.lemmas.Int.{to_z-of_z}
use Rattle.std.proofs.lemmas.Slice.Eq.{bytes_eq-Decides}
use Rattle.trac_rules.specs.Number.{number_of, number_text}
use Rattle.trac_rules.specs.declared.width.Width.TheVariants.{W64}
use Rattle.trac_prims.proofs.Addressing.{as_place, found_so, none_below, none_live, none_read, none_spelled}
use Rattle.trac_prims.proofs.blocks.addressed.Goals as goal

pub returns-in_default-clause-found : goal.returns-in_default-clause-found
returns-in_default-clause-found g c = λ form bytes.
    none_read form c.args.text.now c.args.store.now.blocks c.block_count-count.ensures.within bytes
    (sym (c.in_default.ensures ∙ ap (number_of W64) c.read_tail.ensures.numeral))

pub returns-in_default-try_from-clause-found : goal.returns-in_default-try_from-clause-found
returns-in_default-try_from-clause-found g c = λ form bytes.
    let read_back : to_z w128 (of_z w128 c.in-Some.number) ≡ c.in-Some.number = to_z-of_z w128 c.in-Some.number search in
    none_below form c.args.text.now c.args.store.now.blocks c.block_count-count.ensures.within bytes c.in-Some.number
    (sym (c.in-Some.ensures ∙ ap (number_of W64) c.read_tail.ensures.numeral))
    (λ (fits : FitsUnsigned w64 c.in-Some.number). c.in_default-try_from.ensures (subst (FitsUnsigned w64) (sym read_back) fits))

pub returns-in_default-block-clause-found : goal.returns-in_default-block-clause-found
returns-in_default-block-clause-found g c = λ form bytes.
    let read_back : to_z w128 (of_z w128 c.in-Some.number) ≡ c.in-Some.number = to_z-of_z w128 c.in-Some.number search in
    let is : pos c.in-Ok.place ≡ c.in-Some.number =
    as_place c.in-Some.number c.in-Ok.place (subst (FitsUnsigned w64) read_back c.in-Ok.ensures.0) (c.in-Ok.ensures.1 ∙ ap unsigned_abs read_back) in
    none_live form c.args.text.now c.args.store.now.blocks c.block_count-count.ensures.within bytes c.in-Ok.place
    (sym (ap Some is ∙ c.in-Some.ensures ∙ ap (number_of W64) c.read_tail.ensures.numeral)) c.in_default-block.ensures

-- the digits that are printed are those of the place
digits_spell : (number read : ℤ) (place : ℕ) (digits before : List ℕ) → read ≡ number → pos place ≡ number → digits ≡ before ++ number_text read → before ≡ [] → decimal place ≡ digits
digits_spell number read place digits before same is printed none =
    ap number_text is ∙ sym (printed ∙ ap (λ n. before ++ number_text n) same ∙ ap (λ (xs : List ℕ). xs ++ number_text number) none)

pub returns-then-eq-clause-found : goal.returns-then-eq-clause-found
returns-then-eq-clause-found g c = λ form bytes.
    let read_back : to_z w128 (of_z w128 c.in-Some.number) ≡ c.in-Some.number = to_z-of_z w128 c.in-Some.number search in
    let is : pos c.in-Ok.place ≡ c.in-Some.number =
    as_place c.in-Some.number c.in-Ok.place (subst (FitsUnsigned w64) read_back c.in-Ok.ensures.0) (c.in-Ok.ensures.1 ∙ ap unsigned_abs read_back) in
    let spells : decimal c.in-Ok.place ≡ c.args.text.now =
    digits_spell c.in-Some.number _ c.in-Ok.place c.as_slice.result.now c.new-digits.result.items read_back is (c.as_slice.ensures.value ∙ c.in_ok-print_into.ensures.ok) c.new-digits.ensures.items ∙ (bytes_eq-Decides c.as_slice.result.now c.args.text.now).0 (sym c.if-eq.ensures) in (
      found_so form c.args.text.now c.args.store.now.blocks c.block_count-count.ensures.within bytes c.in-Ok.place c.in-Some-block.block.now.held c.in-Some-block.ensures spells,
      c.in-Some-block.ensures,
    )

pub returns-clause-found : goal.returns-clause-found
returns-clause-found g c = λ form bytes.
    let read_back : to_z w128 (of_z w128 c.in-Some.number) ≡ c.in-Some.number = to_z-of_z w128 c.in-Some.number search in
    let is : pos c.in-Ok.place ≡ c.in-Some.number =
    as_place c.in-Some.number c.in-Ok.place (subst (FitsUnsigned w64) read_back c.in-Ok.ensures.0) (c.in-Ok.ensures.1 ∙ ap unsigned_abs read_back) in
    none_spelled form c.args.text.now c.args.store.now.blocks c.block_count-count.ensures.within bytes c.in-Ok.place
    (sym (ap Some is ∙ c.in-Some.ensures ∙ ap (number_of W64) c.read_tail.ensures.numeral))
    (ap (λ (xs : List ℕ). bytes_eq xs c.args.text.now) (digits_spell c.in-Some.number _ c.in-Ok.place c.as_slice.result.now c.new-digits.result.items read_back is (c.as_slice.ensures.value ∙ c.in_ok-print_into.ensures.ok) c.new-digits.ensures.items) ∙ sym c.if-eq.ensures)
