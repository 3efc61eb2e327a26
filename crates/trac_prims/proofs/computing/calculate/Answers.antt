use Rattle.std.proofs.Common.{◌≡◌, ℕ, List, ◌++◌, Ok, true, refl, sym, ap, subst, ◌∙◌, to_z, of_z}
use Rattle.std.specs.Int.{w128}
use Rattle.std.proofs.lemmas.Int.{to_z-of_z}
use Rattle.std.proofs.lemmas.List.{append-nil, append_assoc}
use Rattle.trac_rules.specs.Computing.{result_of}
use Rattle.trac_rules.specs.Effect.{argument, forces, gives_or_forces}
use Rattle.trac_rules.specs.Number.{number_text, prefix_of}
use Rattle.trac_change.specs.declared.change.UnnamedChange.TheVariants.{Keep}
use Rattle.trac_prims.specs.Effects.{IsDone, nothing}
use Rattle.trac_prims.proofs.Calculated.{calculated-None, calculated-Some}
use Rattle.trac_prims.proofs.Kept.{as_said, given}
use Rattle.trac_prims.proofs.computing.calculate.Goals as goal

pub returns-in_default : goal.returns-in_default
returns-in_default g c = λ storage.
    let none = calculated-None (result_of c.args.operation) c.args.width (argument 1 c.args.args.now) (argument 2 c.args.args.now) c.in_default.ensures in
    let old = c.args.made.now in
    let new = record old { value = c.extend_from_slice.new.self } in
    let other = argument 3 c.args.args.now in
    let added = c.in_ok-extend_from_slice.ensures.items ∙ ap (λ (text : List ℕ). old.value.items ++ text) c.get.ensures in
    subst (λ o. IsDone c.args.args.now storage (Ok (gives_or_forces o other storage)) old new Keep (Ok (record nothing { forced = true }))) none
    (as_said c.args.args.now storage old new (forces other storage) Keep (record nothing { forced = true }) added (sym (append-nil old.print.items)) refl
    refl)

pub returns : goal.returns
returns g c = λ storage.
    let read_back : to_z w128 (of_z w128 c.in-Some.n) ≡ c.in-Some.n = to_z-of_z w128 c.in-Some.n search in
    let old = c.args.made.now in
    let new = record old { value = c.print_into.new.out } in
    let first = argument 1 c.args.args.now in
    let text = prefix_of first ++ number_text c.in-Some.n in
    let added : c.print_into.new.out.items ≡ old.value.items ++ text =
    c.in_ok-print_into.ensures.ok
    ∙ ap (λ n. c.put_prefix.new.out.items ++ number_text n) read_back
    ∙ ap (λ (before : List ℕ). before ++ number_text c.in-Some.n) (c.in_ok-put_prefix.ensures.items ∙ ap (λ (prefix : List ℕ). old.value.items ++ prefix) (c.read_tail.ensures.prefix ∙ ap prefix_of c.get-2.ensures))
    ∙ append_assoc old.value.items (prefix_of first) (number_text c.in-Some.n) in
    let some = calculated-Some (result_of c.args.operation) c.args.width first (argument 2 c.args.args.now) text c.in-Some.n c.in-Some.ensures refl in
    subst (λ o. IsDone c.args.args.now storage (Ok (gives_or_forces o (argument 3 c.args.args.now) storage)) old new Keep (Ok nothing)) some
    (given c.args.args.now storage old new text nothing added refl refl)
