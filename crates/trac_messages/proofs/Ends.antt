-- Where a header ends: a search finds the leftmost place, and more bytes do not change it.
use Rattle.std.proofs.Common.{◌≡◌, ℕ, ◌+◌, ◌<◌, ◌≤◌, Bool, true, false, List, ◌++◌, length, take, drop, get_or, sym, ap, subst, ◌∙◌, arith, ⊎_elim, refl}
use Rattle.std.specs.Prelude.{None, Some}
use Rattle.std.specs.Str.{bytes_eq}
use Rattle.std.proofs.lemmas.Bool.{false_from_ne_true}
use Rattle.std.proofs.lemmas.List.{drop-append-le, get_or-drop, get_or-take, length-append, length-drop, length-take, take-append-le, take_at}
use Rattle.std.proofs.lemmas.List.Prefix.{at_from_reads}
use Rattle.std.proofs.lemmas.Slice.Eq.{bytes_eq-Decides}
use Rattle.memchr.specs.Find.{FindsNeedle, OccursAt}
use Rattle.trac_rules.specs.Bytes.{first_place}
use Rattle.trac_rules.specs.Segmenting.{leftmost, stands_at}
use Rattle.trac_rules.proofs.Balanced.{first_place_cases, first_place_none, first_place_some}

-- the first place that passes a test, and what that says
pub first_place_parts : (passes : ℕ → Bool) (n k : ℕ) → first_place passes n ≡ Some k → (k < n) × (passes k ≡ true) × ((j : ℕ) → j < k → passes j ≡ false)
first_place_parts p n k found = ⊎_elim
    (λ (none : (j : ℕ) → j < n → p j ≡ false). absurd (let missing : first_place p n ≡ None = first_place_none p n none in cc))
    (λ (some : (j : ℕ) × (j < n) × (p j ≡ true) × ((i : ℕ) → i < j → p i ≡ false)).
    let there : first_place p n ≡ Some some.0 = first_place_some p n some.0 some.1 some.2 some.3 in
    let same : some.0 ≡ k = cc in
    subst (λ m. (m < n) × (p m ≡ true) × ((i : ℕ) → i < m → p i ≡ false)) same (some.1, some.2, some.3))
    (first_place_cases p n)

-- ---- a text at a place

stands : (text run : List ℕ) (place : ℕ) → stands_at text run place ≡ true → take (length text) (drop place run) ≡ text
stands text run place is = (bytes_eq-Decides (take (length text) (drop place run)) text).0 is

pub stands_fits : (text run : List ℕ) (place : ℕ) → 0 < length text → stands_at text run place ≡ true → place + length text ≤ length run
stands_fits text run place some is =
    omega (arith, ap length (stands text run place is), length-take (length text) (drop place run), length-drop place run)

-- more bytes do not change it
stands_on : (text run more : List ℕ) (place : ℕ) → place + length text ≤ length run → stands_at text (run ++ more) place ≡ stands_at text run place
stands_on text run more place fits =
    ap (λ (t : List ℕ). bytes_eq t text)
    (ap (take (length text)) (drop-append-le place run more (omega arith))
    ∙ take-append-le (length text) (drop place run) more (omega (arith, length-drop place run)))

pub occurs : (text run : List ℕ) (place : ℕ) → 0 < length text → stands_at text run place ≡ true → OccursAt run text place
occurs text run place some is = record {
  fits = stands_fits text run place some is;
  reads = λ j l. sym (get_or-drop place run j 0) ∙ sym (get_or-take (length text) (drop place run) j 0 l) ∙ ap (λ (t : List ℕ). get_or t j 0) (stands text run place is);
}

pub stands_there : (text run : List ℕ) (place : ℕ) → OccursAt run text place → stands_at text run place ≡ true
stands_there text run place there =
    (bytes_eq-Decides (take (length text) (drop place run)) text).1
    (ap (take (length text)) (at_from_reads 0 run text place there.fits there.reads) ∙ take_at text (drop (place + length text) run) (length text) refl)

-- ---- the leftmost place

-- what a search finds
pub leftmost_found : (text run : List ℕ) (place : ℕ) → 0 < length text → FindsNeedle run text 0 (Some place) → leftmost text run ≡ Some place
leftmost_found text run place some finds =
    first_place_some (stands_at text run) (length run + 1) place (omega (arith, finds.1.fits)) (stands_there text run place finds.1)
    (λ j l. false_from_ne_true (stands_at text run j) (λ is. finds.0.before j (omega arith) l (occurs text run j some is)))

pub leftmost_nowhere : (text run : List ℕ) → 0 < length text → FindsNeedle run text 0 None → leftmost text run ≡ None
leftmost_nowhere text run some finds =
    first_place_none (stands_at text run) (length run + 1)
    (λ j l. false_from_ne_true (stands_at text run j) (λ is. finds j (omega arith) l (occurs text run j some is)))

-- it is within the run
pub leftmost_fits : (text run : List ℕ) (place : ℕ) → 0 < length text → leftmost text run ≡ Some place → place + length text ≤ length run
leftmost_fits text run place some is =
    stands_fits text run place some (first_place_parts (stands_at text run) (length run + 1) place is).1

-- more bytes do not change it
pub leftmost_on : (text run more : List ℕ) (place : ℕ) → 0 < length text → leftmost text run ≡ Some place → leftmost text (run ++ more) ≡ Some place
leftmost_on text run more place some is =
    let parts = first_place_parts (stands_at text run) (length run + 1) place is in
    let fits = stands_fits text run place some parts.1 in
    first_place_some (stands_at text (run ++ more)) (length (run ++ more) + 1) place (omega (arith, length-append run more, fits))
    (stands_on text run more place fits ∙ parts.1)
    (λ j l. stands_on text run more j (omega (arith, fits, l)) ∙ parts.2 j l)
