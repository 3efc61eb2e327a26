use Rattle.std.proofs.Common.{◌≡◌, ℕ, ◌<◌, List, ◌++◌, flat_map, length, refl, ap, ◌∙◌, arith}
use Rattle.std.specs.Borrow.{Bor}
use Rattle.std.proofs.lemmas.List.{take_all}
use Rattle.trac_rules.specs.declared.limit.TheConstants.{TEXT_LIMIT}
use Rattle.trac_rules.specs.Effect.{argument}
use Rattle.trac_rules.specs.Listing.{listed}
use Rattle.trac_forms.specs.Stored.{storage_in}
use Rattle.trac_prims.specs.Effects.{nothing}
use Rattle.trac_prims.proofs.Listed.{listed_names}
use Rattle.trac_prims.proofs.Kept.{given, value_beyond}
use Rattle.trac_prims.proofs.forms.list_names.Goals as goal

pub returns-in_default : goal.returns-in_default
returns-in_default g c = λ width.
    let all = listed (argument 1 c.args.args.now) c.args.store.now.forms in
    let same : flat_map (λ name. c.get-text.result.now ++ name.now) c.as_slice-names.result.now ≡ all =
    listed_names c.get-text.result.now c.in_ok-found.found.items c.as_slice-names.result.now c.args.store.now.forms c.in_ok-found.ensures.names c.as_slice-names.ensures.value
    ∙ ap (λ (text : List ℕ). listed text c.args.store.now.forms) c.get-text.ensures in
    let long : TEXT_LIMIT < length all = omega (arith, c.in_default.ensures, ap length same) in
    value_beyond all (storage_in c.args.store.now) long

pub returns : goal.returns
returns g c = λ width.
    let old = c.args.made.now in
    let all = listed (argument 1 c.args.args.now) c.args.store.now.forms in
    let same = listed_names c.get-text.result.now c.in_ok-found.found.items c.as_slice-names.result.now c.args.store.now.forms c.in_ok-found.ensures.names c.as_slice-names.ensures.value
    ∙ ap (λ (text : List ℕ). listed text c.args.store.now.forms) c.get-text.ensures in
    let added : c.loop-name.made.value.items ≡ old.value.items ++ all =
    c.loop-name.invariant.0
    ∙ ap (λ (names : List (Bor (List ℕ))). old.value.items ++ flat_map (λ name. c.get-text.result.now ++ name.now) names) (take_all c.loop-name.name-index c.as_slice-names.result.now c.loop-name-test.false)
    ∙ ap (λ (text : List ℕ). old.value.items ++ text) same in
    given c.args.args.now (storage_in c.args.store.now) old c.loop-name.made all nothing added (ap (λ print. print.items) c.loop-name.invariant.1) refl
