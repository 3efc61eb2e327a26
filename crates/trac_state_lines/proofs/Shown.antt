-- Parts of a state that are shown one after another.
use Rattle.std.proofs.Common.{◌≡◌, ℕ, zero, suc, ◌+◌, ◌-◌, ◌<◌, ◌≤◌, true, false, cond, T, Bor, List, [], ◌∷◌, ◌++◌, length, map, take, drop, get_or, refl, sym, ap, subst, ◌∙◌, arith, ⊎_elim}
use Rattle.std.specs.Prelude.{Option, None, Some, MatchOption, slice_get}
use Rattle.std.specs.Option.{option_map}
use Rattle.std.specs.Cmp.Lexicographic.{slice_cmp}
use Rattle.std.specs.FinMap as finite
use Rattle.std.specs.FinMap.Entries.{find, below_all, is_sorted}
use Rattle.std.specs.List.{enumerate_from, flat_map}
use Rattle.std.specs.Ordering.{nat_cmp, eq_by_cmp}
use Rattle.std.proofs.lemmas.Bool.{cases_Bool, cond-true, cond-false}
use Rattle.std.proofs.lemmas.List.{length-map, take_all}
use Rattle.std.proofs.lemmas.Option.{slice_get-get_or, slice_get-map}
use Rattle.trac_rules.specs.Form.{Form}
use Rattle.trac_rules.specs.Listing.{names_of}
use Rattle.trac_rules.specs.State.{Block, Forms}
use Rattle.trac_forms.specs.Stored.{Gathered}
use Rattle.trac_state_lines.specs.StateLines.{block_lines, lines_of_block}
use Rattle.trac_streams.proofs.ShownLists.{shown_more}
use Rattle.trac_rules.proofs.NamedForms.{one_name, ties_itself}
use Rattle.trac_rules.proofs.ProperDecided.{both_true, not_below}

-- ---- numbers beside a list

-- the element of a list with its number
pub numbered : {X : Type 0} (from : ℕ) (xs : List X) (i : ℕ) (x : X) → slice_get xs i ≡ Some x → slice_get (enumerate_from from xs) i ≡ Some (from + i, x)
numbered from [] i x there = absurd (cc)
numbered from (y ∷ ys) zero x there =
    let one : Some y ≡ Some x = there in
    let same : y ≡ x = cc in
    let count : from ≡ from + 0 = omega arith in
    ap (λ n. Some (n, y)) count ∙ ap (λ z. Some (from + 0, z)) same
numbered from (y ∷ ys) (suc i) x there =
    let count : (from + 1) + i ≡ from + suc i = omega arith in
    numbered (from + 1) ys i x there ∙ ap (λ n. Some (n, x)) count

-- ---- forms by their names

-- each entry is found under its name
entry_found : (es : List (List ℕ × Form)) (i : ℕ) (e : List ℕ × Form) → T (is_sorted (slice_cmp nat_cmp) es) → slice_get es i ≡ Some e → find (slice_cmp nat_cmp) e.0 es ≡ Some e.1
entry_found [] i e sorted there = absurd (cc)
entry_found (x ∷ es) zero e sorted there =
    let one : Some x ≡ Some e = there in
    let same : x ≡ e = cc in
    subst (λ (y : List ℕ × Form). find (slice_cmp nat_cmp) y.0 (x ∷ es) ≡ Some y.1) same
    (cond-true (eq_by_cmp (slice_cmp nat_cmp) x.0 x.0) (Some x.1) (find (slice_cmp nat_cmp) x.0 es) (ties_itself x.0))
entry_found (x ∷ es) (suc i) e sorted there =
    ⊎_elim
    (λ (t : eq_by_cmp (slice_cmp nat_cmp) e.0 x.0 ≡ true).
    absurd (let none : None ≡ Some e.1 = sym (ap (λ n. find (slice_cmp nat_cmp) n es) (one_name e.0 x.0 t) ∙ not_below x.0 es parts.0) ∙ entry_found es i e parts.1 there in cc))
    (λ (t : eq_by_cmp (slice_cmp nat_cmp) e.0 x.0 ≡ false).
    cond-false (eq_by_cmp (slice_cmp nat_cmp) e.0 x.0) (Some x.1) (find (slice_cmp nat_cmp) e.0 es) t ∙ entry_found es i e parts.1 there)
    (cases_Bool (eq_by_cmp (slice_cmp nat_cmp) e.0 x.0))
  where
    parts : T (below_all (slice_cmp nat_cmp) x.0 es) × T (is_sorted (slice_cmp nat_cmp) es)
    parts = both_true (below_all (slice_cmp nat_cmp) x.0 es) (is_sorted (slice_cmp nat_cmp) es) sorted

-- the form of an entry is got under its name
pub form_there : (forms : Forms) (i : ℕ) (e : List ℕ × Form) → slice_get (finite.entries forms) i ≡ Some e → finite.get forms e.0 ≡ Some e.1
form_there forms i e there = finite.get-entries forms e.0 ∙ entry_found (finite.entries forms) i e (finite.entries_sorted forms) there

-- ---- parts of a list

-- what stands at a place of a rest
get_after : {X : Type 0} (a k : ℕ) (xs : List X) → slice_get (drop a xs) k ≡ slice_get xs (a + k)
get_after zero k xs = let same : k ≡ 0 + k = omega arith in ap (slice_get xs) same
get_after (suc a) k [] = refl
get_after (suc a) k (x ∷ xs) = let next : suc (a + k) ≡ suc a + k = omega arith in get_after a k xs ∙ ap (slice_get (x ∷ xs)) next

-- one more of a part
pub shown_part : {X : Type 0} (f : X → List ℕ) (xs : List X) (from place : ℕ) (x : X) (old now after : List ℕ) → from ≤ place → slice_get xs place ≡ Some x →
    now ≡ old ++ flat_map f (take (place - from) (drop from xs)) → after ≡ now ++ f x → after ≡ old ++ flat_map f (take (place + 1 - from) (drop from xs))
shown_part f xs from place x old now after l there so_far adds =
    let here : from + (place - from) ≡ place = omega arith in
    let count : (place - from) + 1 ≡ place + 1 - from = omega arith in
    shown_more f (drop from xs) (place - from) x old now after (get_after from (place - from) xs ∙ ap (slice_get xs) here ∙ there) so_far adds
    ∙ ap (λ n. old ++ flat_map f (take n (drop from xs))) count

-- all of a list
pub shown_all : {X : Type 0} (f : X → List ℕ) (xs : List X) (i : ℕ) (old now : List ℕ) → length xs ≤ i → now ≡ old ++ flat_map f (take i xs) → now ≡ old ++ flat_map f xs
shown_all f xs i old now l so_far = so_far ∙ ap (λ t. old ++ flat_map f t) (take_all i xs l)

-- ---- blocks

pub length_numbered : {X : Type 0} (from : ℕ) (xs : List X) → length (enumerate_from from xs) ≡ length xs
length_numbered from [] = refl
length_numbered from (x ∷ xs) = omega (arith, length_numbered (from + 1) xs)

-- a block as it is looked at
pub block_seen : (seen : Option (Bor Gathered)) (block : Block) → MatchOption seen (block ≡ None) (λ b. block ≡ Some b.now.held) → block ≡ option_map (λ b. b.now.held) seen
block_seen None block is = is
block_seen (Some b) block is = is

-- one block more
pub blocks_more : (blocks : List Block) (i : ℕ) (block : Block) (old now after : List ℕ) → i < length blocks → get_or blocks i None ≡ block →
    now ≡ old ++ flat_map block_lines (take i (enumerate_from 0 blocks)) → after ≡ now ++ lines_of_block i block → after ≡ old ++ flat_map block_lines (take (i + 1) (enumerate_from 0 blocks))
blocks_more blocks i block old now after l is so_far adds =
    let count : 0 + i ≡ i = omega arith in
    let here : slice_get blocks i ≡ Some block = slice_get-get_or blocks i None l ∙ ap Some is in
    shown_more block_lines (enumerate_from 0 blocks) i (i, block) old now after (numbered 0 blocks i block here ∙ ap (λ n. Some (n, block)) count) so_far adds

-- ---- forms

-- the entry whose name stands at a place of the names
named_there : (forms : Forms) (names : List (Bor (List ℕ))) (i : ℕ) (d : Bor (List ℕ)) → map (λ name. name.now) names ≡ names_of forms → i < length names →
    (e : List ℕ × Form) × (slice_get (finite.entries forms) i ≡ Some e) × (e.0 ≡ (get_or names i d).now)
named_there forms names i d all l =
    let count : length names ≡ length (finite.entries forms) =
    sym (length-map names (λ (name : Bor (List ℕ)). name.now)) ∙ ap length all ∙ length-map (finite.entries forms) (λ (e : List ℕ × Form). e.0) in
    let e : List ℕ × Form = get_or (finite.entries forms) i (d.now, record { before = []; after = [] }) in
    let there : slice_get (finite.entries forms) i ≡ Some e = slice_get-get_or (finite.entries forms) i (d.now, record { before = []; after = [] }) (omega arith) in
    let one : Some (get_or names i d).now ≡ Some e.0 =
    sym (slice_get-map (λ (name : Bor (List ℕ)). name.now) names i ∙ ap (option_map (λ (name : Bor (List ℕ)). name.now)) (slice_get-get_or names i d l))
    ∙ ap (λ xs. slice_get xs i) all
    ∙ slice_get-map (λ (x : List ℕ × Form). x.0) (finite.entries forms) i ∙ ap (option_map (λ (x : List ℕ × Form). x.0)) there in
    (e, there, cc)

-- each name has a form
pub form_missing : (forms : Forms) (names : List (Bor (List ℕ))) (i : ℕ) (d : Bor (List ℕ)) (shown : Option Form) → map (λ name. name.now) names ≡ names_of forms → i < length names →
    shown ≡ None → shown ≡ finite.get forms (get_or names i d).now → ⊥
form_missing forms names i d shown all l none is =
    let at = named_there forms names i d all l in
    let found : finite.get forms (get_or names i d).now ≡ Some at.0.1 = ap (finite.get forms) (sym at.2) ∙ form_there forms i at.0 at.1 in
    let wrong : None ≡ Some at.0.1 = sym none ∙ is ∙ found in
    cc

-- one form more
pub forms_more : (line : List ℕ × Form → List ℕ) (forms : Forms) (names : List (Bor (List ℕ))) (i : ℕ) (d : Bor (List ℕ)) (form : Form) (old now after : List ℕ) →
    map (λ name. name.now) names ≡ names_of forms → i < length names → Some form ≡ finite.get forms (get_or names i d).now →
    now ≡ old ++ flat_map line (take i (finite.entries forms)) → after ≡ now ++ line ((get_or names i d).now, form) → after ≡ old ++ flat_map line (take (i + 1) (finite.entries forms))
forms_more line forms names i d form old now after all l is so_far adds =
    let at = named_there forms names i d all l in
    let found : Some form ≡ Some at.0.1 = is ∙ ap (finite.get forms) (sym at.2) ∙ form_there forms i at.0 at.1 in
    let one : form ≡ at.0.1 = cc in
    let entry : line ((get_or names i d).now, form) ≡ line at.0 = ap (λ n. line (n, form)) (sym at.2) ∙ ap (λ x. line (at.0.0, x)) one in
    shown_more line (finite.entries forms) i at.0 old now after at.1 so_far (adds ∙ ap (λ t. now ++ t) entry)
