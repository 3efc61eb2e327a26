-- Only the entry at the slot can have the letters.
use Rattle.std.proofs.Common.{◌≡◌, ℕ, [], ◌∷◌, ◌<◌, Some, List, get_or, length, refl, sym, ap, arith, ◌∙◌}
use Rattle.std.specs.Prelude.{slice_get}
use Rattle.std.proofs.lemmas.Bool.{false≢true}
use Rattle.std.proofs.lemmas.Option.{slice_get_past, slice_get_read}
use Rattle.std.proofs.lemmas.Slice.Eq.{bytes_eq-Decides}
use Rattle.trac_rules.specs.declared.primitive.TheConstants.{NAMES}
use Rattle.trac_rules.specs.declared.primitive.NamedPrimitive.{NamedPrimitive}
use Rattle.trac_prims.proofs.Slots.{entry_at, is_other, is_there, none_there, place_at, place_read, two_letters}
use Rattle.trac_prims.proofs.name.primitive_named.Goals as goal

-- the place that is read is that of the letters
there : (letters : List ℕ) (place : ℕ) (entry : NamedPrimitive) → place ≡ place_at letters → place < length NAMES → entry ≡ get_or NAMES place entry → entry_at letters ≡ Some entry
there letters place entry is within at = ap (slice_get NAMES) (sym is) ∙ slice_get_read NAMES (length NAMES) place entry refl within at

pub returns-in_default-get : goal.returns-in_default-get
returns-in_default-get c =
    let letters = c.to_ascii_lowercase.result ∷ c.to_ascii_lowercase-2.result ∷ [] in
    let lowered = two_letters c.args.name.now c.to_ascii_lowercase.result c.to_ascii_lowercase-2.result (omega (arith, c.in-len2.len_at_least)) (omega (arith, c.in-len2.len_below)) c.to_ascii_lowercase.ensures.value c.to_ascii_lowercase-2.ensures.value in
    let place = place_read c.to_ascii_lowercase.result c.to_ascii_lowercase-2.result c.from.result c.from-2.result c.from-3.result c.from-3.ensures c.from.ensures c.from-2.ensures in
    none_there c.args.name.now letters lowered (ap (slice_get NAMES) (sym place) ∙ slice_get_past NAMES c.from-3.result c.in_default-get.ensures.lookup.3)

pub returns-then-eq : goal.returns-then-eq
returns-then-eq c =
    let letters = c.to_ascii_lowercase.result ∷ c.to_ascii_lowercase-2.result ∷ [] in
    let lowered = two_letters c.args.name.now c.to_ascii_lowercase.result c.to_ascii_lowercase-2.result (omega (arith, c.in-len2.len_at_least)) (omega (arith, c.in-len2.len_below)) c.to_ascii_lowercase.ensures.value c.to_ascii_lowercase-2.ensures.value in
    let place = place_read c.to_ascii_lowercase.result c.to_ascii_lowercase-2.result c.from.result c.from-2.result c.from-3.result c.from-3.ensures c.from.ensures c.from-2.ensures in
    let at = there letters c.from-3.result c.in-Some.entry.now place c.in-Some.ensures.lookup.3.0 c.in-Some.ensures.lookup.1 in
    is_there c.args.name.now letters lowered c.in-Some.entry.now at ((bytes_eq-Decides c.in-Some.entry.now.letters letters).0 (sym c.if-eq.ensures))

pub returns-else-eq : goal.returns-else-eq
returns-else-eq c =
    let letters = c.to_ascii_lowercase.result ∷ c.to_ascii_lowercase-2.result ∷ [] in
    let lowered = two_letters c.args.name.now c.to_ascii_lowercase.result c.to_ascii_lowercase-2.result (omega (arith, c.in-len2.len_at_least)) (omega (arith, c.in-len2.len_below)) c.to_ascii_lowercase.ensures.value c.to_ascii_lowercase-2.ensures.value in
    let place = place_read c.to_ascii_lowercase.result c.to_ascii_lowercase-2.result c.from.result c.from-2.result c.from-3.result c.from-3.ensures c.from.ensures c.from-2.ensures in
    let at = there letters c.from-3.result c.in-Some.entry.now place c.in-Some.ensures.lookup.3.0 c.in-Some.ensures.lookup.1 in
    is_other c.args.name.now letters lowered c.in-Some.entry.now at (λ same. false≢true (c.if-eq.ensures ∙ (bytes_eq-Decides c.in-Some.entry.now.letters letters).1 same))
