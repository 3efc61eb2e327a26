-- How many `(` of a front of a text have no match in it.
use Rattle.std.proofs.Common.{◌≡◌, ℕ, ◌+◌, ◌<◌, ◌≢◌, List, length, take, get_or, zero, suc, true, false, refl, ap, ◌∙◌, ◌≤◌, ⊎_elim, arith}
use Rattle.std.proofs.lemmas.Bool.{cases_lt}
use Rattle.std.specs.Prelude.{Option, None, Some, is_some}
use Rattle.std.specs.Option.{option_to_list}
use Rattle.trac_rules.specs.declared.byte.TheConstants.{OPENING, CLOSING}
use Rattle.trac_rules.specs.Bytes.{count_of}
use Rattle.trac_rules.specs.Matching.{IsBalanced}
use Rattle.trac_rules.proofs.Balanced.{count_of_more_same, count_of_more_other}

-- so many of the first i bytes
abbrev pub IsDeep : List ℕ → ℕ → ℕ → Type 0
IsDeep text i depth = count_of OPENING (take i text) ≡ count_of CLOSING (take i text) + depth

pub deeper : (text : List ℕ) (i depth next : ℕ) → IsDeep text i depth → i < length text → get_or text i 0 ≡ OPENING → next ≡ depth + 1 → IsDeep text (i + 1) next
deeper text i depth next deep more is one =
    let apart : get_or text i 0 ≢ CLOSING = λ e. absurd (omega (arith, e, is)) in
    omega (arith, deep, one, count_of_more_same OPENING text i more is, count_of_more_other CLOSING text i more apart)

pub less_deep : (text : List ℕ) (i depth next : ℕ) → IsDeep text i depth → i < length text → get_or text i 0 ≡ CLOSING → depth ≡ next + 1 → IsDeep text (i + 1) next
less_deep text i depth next deep more is one =
    let apart : get_or text i 0 ≢ OPENING = λ e. absurd (omega (arith, e, is)) in
    omega (arith, deep, one, count_of_more_same CLOSING text i more is, count_of_more_other OPENING text i more apart)

pub as_deep : (text : List ℕ) (i depth : ℕ) → IsDeep text i depth → i < length text → get_or text i 0 ≢ OPENING → get_or text i 0 ≢ CLOSING → IsDeep text (i + 1) depth
as_deep text i depth deep more no_opening no_closing =
    omega (arith, deep, count_of_more_other CLOSING text i more no_closing, count_of_more_other OPENING text i more no_opening)

-- a text is not balanced that has a `)` where nothing is open
pub closes_nothing : (text : List ℕ) (i depth : ℕ) → IsDeep text i depth → i < length text → get_or text i 0 ≡ CLOSING → depth ≡ 0 → IsBalanced text → ⊥
closes_nothing text i depth deep more is none balanced =
    let apart : get_or text i 0 ≢ OPENING = λ e. absurd (omega (arith, e, is)) in
    omega (arith, deep, none, balanced.fronts (i + 1), count_of_more_same CLOSING text i more is, count_of_more_other OPENING text i more apart)

-- one is taken off those that are begun
pub one_taken : {X : Type 0} (given : Option X) → is_some given ≡ true → length (option_to_list given) ≡ 1
one_taken None is = cc
one_taken (Some x) is = refl

-- where none is taken off, none was begun
pub none_begun : {X : Type 0} (given : Option X) (depth : ℕ) → (0 < depth → is_some given ≡ true) → is_some given ≡ false → depth ≡ 0
none_begun None zero some is = refl
none_begun None (suc depth) some is = let is_some : false ≡ true = some (omega arith) in cc
none_begun (Some x) depth some is = cc

-- ---- fronts

-- no front of the first i bytes has more `)` than `(`
abbrev pub HasFronts : List ℕ → ℕ → Type 0
HasFronts text i = (n : ℕ) → n ≤ i → count_of CLOSING (take n text) ≤ count_of OPENING (take n text)

pub fronts_further : (text : List ℕ) (i depth : ℕ) → HasFronts text i → IsDeep text (i + 1) depth → HasFronts text (i + 1)
fronts_further text i depth fronts deep n within = ⊎_elim
    (λ (before : n < i + 1). fronts n (omega (arith, before)))
    (λ (last : i + 1 ≤ n).
    let same : n ≡ i + 1 = omega (arith, last, within) in
    omega (arith, deep, ap (λ k. count_of CLOSING (take k text)) same, ap (λ k. count_of OPENING (take k text)) same))
    (cases_lt n (i + 1))
