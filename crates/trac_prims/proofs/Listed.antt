-- Names of references in a list.
use Rattle.std.proofs.Common.{◌≡◌, ℕ, ◌+◌, ◌-◌, ◌<◌, List, [], ◌∷◌, ◌++◌, length, get_or, map, take, flat_map, refl, ap, ◌∙◌, arith}
use Rattle.std.proofs.lemmas.List.{length-append}
use Rattle.std.proofs.lemmas.List.Folds.{length-flat_map-take}
use Rattle.trac_rules.specs.declared.limit.TheConstants.{TEXT_LIMIT}
use Rattle.std.specs.Borrow.{Bor}
use Rattle.trac_rules.specs.Listing.{listed, names_of}
use Rattle.trac_rules.specs.State.{Forms}

-- texts after references, each with a text before it
behind_references : (text : List ℕ) (names : List (Bor (List ℕ))) → flat_map (λ name. text ++ name.now) names ≡ flat_map (λ name. text ++ name) (map (λ name. name.now) names)
behind_references text [] = refl
behind_references text (name ∷ names) = ap (λ rest. (text ++ name.now) ++ rest) (behind_references text names)

-- the names of the forms, each with a text before it
pub listed_names : (text : List ℕ) (names slice : List (Bor (List ℕ))) (forms : Forms) → map (λ name. name.now) names ≡ names_of forms → slice ≡ names →
    flat_map (λ name. text ++ name.now) slice ≡ listed text forms
listed_names text names slice forms is same =
    ap (flat_map (λ name. text ++ name.now)) same
    ∙ behind_references text names
    ∙ ap (flat_map (λ name. text ++ name)) is

-- where the next name would pass the limit, all names pass it
pub names_beyond : (text : List ℕ) (names : List (Bor (List ℕ))) (i total : ℕ) (d : Bor (List ℕ)) → i < length names → total ≡ length (flat_map (λ name. text ++ name.now) (take i names)) →
    TEXT_LIMIT - total < length text + length (get_or names i d).now → TEXT_LIMIT < length (flat_map (λ name. text ++ name.now) names)
names_beyond text names i total d l is over =
    let next : length (text ++ (get_or names i d).now) ≡ length text + length (get_or names i d).now = length-append text (get_or names i d).now in
    omega (arith, is, over, next, length-flat_map-take (λ (name : Bor (List ℕ)). text ++ name.now) names i d l)
