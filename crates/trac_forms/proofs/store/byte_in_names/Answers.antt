-- The names before one, and what is left of the byte's number, make up that number.
use Rattle.std.proofs.Common.{◌≡◌, ℕ, zero, suc, ◌+◌, List, [], ◌∷◌, length, map, take, sym, ap, ◌∙◌, arith, ltb-false, Some}
use Rattle.std.specs.Prelude.{option_map, slice_get}
use Rattle.std.proofs.Math.Seq.{take-length}
use Rattle.std.proofs.lemmas.Bool.{ltb-true}
use Rattle.std.proofs.lemmas.List.{length-map}
use Rattle.std.proofs.lemmas.Option.{slice_get-get_or, slice_get-map}
use Rattle.trac_forms.specs.Listed.{listed_len}
use Rattle.trac_forms.proofs.store.byte_in_names.Goals as goal

-- how long the names are up to one, with that
with_one : (text n : ℕ) (names : List (List ℕ)) (name : List ℕ) → slice_get names n ≡ Some name →
    listed_len text (take (suc n) names) ≡ listed_len text (take n names) + (text + length name)
with_one text n [] name there = absurd (cc)
with_one text zero (other ∷ names) name there =
    let same : other ≡ name = cc in
    omega (arith, ap (λ (q : List ℕ). length q) same)
with_one text (suc n) (other ∷ names) name there = omega (arith, with_one text n names name there)

pub loop-name-preserved : goal.loop-name-preserved
loop-name-preserved c =
    let there = slice_get-map (λ name. name.now) c.args.names.now c.loop-name.name-index
    ∙ ap (option_map (λ name. name.now)) (slice_get-get_or c.args.names.now c.loop-name.name-index (record { ref_ptr = (0, 0); now = [] }) c.loop-name-test.true) in
    let past = ltb-false c.loop-name.left _ (sym c.is_within.ensures ∙ c.if-is_within.false) in
    let one : c.loop-name.name-index + 1 ≡ suc c.loop-name.name-index = omega arith in
    omega (
      arith,
      c.loop-name.invariant,
      past,
      ap (λ n. listed_len c.args.text (take n (map (λ name. name.now) c.args.names.now))) one,
      with_one c.args.text c.loop-name.name-index (map (λ name. name.now) c.args.names.now) _ there,
    )

pub returns-then-is_within : goal.returns-then-is_within
returns-then-is_within c = record {
  number = c.loop-name.name-index;
  name = _;
  there = slice_get-map (λ name. name.now) c.args.names.now c.loop-name.name-index
      ∙ ap (option_map (λ name. name.now)) (slice_get-get_or c.args.names.now c.loop-name.name-index (record { ref_ptr = (0, 0); now = [] }) c.loop-name-test.true);
  place = c.loop-name.invariant;
  within = ltb-true c.loop-name.left _ (sym c.is_within.ensures ∙ c.if-is_within.true);
}

pub returns : goal.returns
returns c =
    let names : List (List ℕ) = map (λ name. name.now) c.args.names.now in
    let all : c.loop-name.name-index ≡ length names = omega (arith, c.loop-name-test.false, c.loop-name.auto.name-index-end, length-map c.args.names.now (λ name. name.now)) in
    omega (arith, c.loop-name.invariant, ap (λ n. listed_len c.args.text (take n names)) all, ap (listed_len c.args.text) (take-length names))
