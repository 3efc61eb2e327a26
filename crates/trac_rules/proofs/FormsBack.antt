-- Forms are got back as they were before some of them were put or taken.
use Rattle.std.proofs.Common.{◌≡◌, Bool, true, false, ℕ, List, [], ◌∷◌, ◌++◌, All, refl, sym, ap, subst, ◌∙◌, inl, inr, ⊎_elim}
use Rattle.std.specs.Prelude.{Option, None, Some, ◌⊎◌, not, is_some}
use Rattle.std.specs.Cmp.Lexicographic.{slice_cmp, nat_list_cmp_total}
use Rattle.std.specs.FinMap as finite
use Rattle.std.specs.FinMap.Entries.{find}
use Rattle.std.specs.Ordering.{nat_cmp, eq_by_cmp}
use Rattle.std.proofs.lemmas.Bool.{and_from, cases_Bool, cond-false, cond-true}
use Rattle.std.proofs.lemmas.List.Elements.{All-head, All-tail}
use Rattle.trac_rules.specs.Blocks.{moved_out, with_all, with_name}
use Rattle.trac_rules.specs.Form.{Form}
use Rattle.trac_rules.specs.Handling.{without}
use Rattle.trac_rules.specs.State.{Forms, Held}
use Rattle.trac_rules.specs.Undone.{are_free, are_there, is_free, names_in, swapped_back}
use Rattle.trac_rules.proofs.NamedForms.{get-put, one_name, only_equal_tie, ties_itself}
use Rattle.trac_rules.proofs.ProperBlocks.{WasAmong, get_taken, moved_out_among}
use Rattle.trac_rules.proofs.ProperDecided.{all_entries}

-- ---- what stands under a name

-- whether the order does not tell a name from another
abbrev ties : List ℕ → List ℕ → Bool
ties q name = eq_by_cmp (slice_cmp nat_cmp) q name

same_forms : (m n : Forms) → ((q : List ℕ) → finite.get m q ≡ finite.get n q) → m ≡ n
same_forms m n same = finite.same_map nat_list_cmp_total only_equal_tie m n same

get_put_at : (forms : Forms) (name q : List ℕ) (form : Form) → ties q name ≡ true → finite.get (finite.insert forms name form) q ≡ Some form
get_put_at forms name q form t = finite.get-insert nat_list_cmp_total forms name form q ∙ cond-true (ties q name) (Some form) (finite.get forms q) t

get_put_aside : (forms : Forms) (name q : List ℕ) (form : Form) → ties q name ≡ false → finite.get (finite.insert forms name form) q ≡ finite.get forms q
get_put_aside forms name q form t = finite.get-insert nat_list_cmp_total forms name form q ∙ cond-false (ties q name) (Some form) (finite.get forms q) t

get_taken_at : (forms : Forms) (name q : List ℕ) → ties q name ≡ true → finite.get (finite.remove forms name) q ≡ None
get_taken_at forms name q t = finite.get-remove nat_list_cmp_total forms name q ∙ cond-true (ties q name) None (finite.get forms q) t

get_taken_aside : (forms : Forms) (name q : List ℕ) → ties q name ≡ false → finite.get (finite.remove forms name) q ≡ finite.get forms q
get_taken_aside forms name q t = finite.get-remove nat_list_cmp_total forms name q ∙ cond-false (ties q name) None (finite.get forms q) t

by_tie : {P : Type 0} (q name : List ℕ) → (ties q name ≡ true → P) → (ties q name ≡ false → P) → P
by_tie q name at aside = ⊎_elim at aside (cases_Bool (ties q name))

-- ---- one name

-- forms that differ under this name alone
abbrev pub DifferAt : List ℕ → Forms → Forms → Type 0
DifferAt name m n = (q : List ℕ) → ties q name ≡ false → finite.get m q ≡ finite.get n q

pub put_differs : (name : List ℕ) (form : Form) (forms : Forms) → DifferAt name (finite.insert forms name form) forms
put_differs name form forms = λ q t. get_put_aside forms name q form t

pub taken_differs : (name : List ℕ) (forms : Forms) → DifferAt name (finite.remove forms name) forms
taken_differs name forms = λ q t. get_taken_aside forms name q t

pub swapped : (name : List ℕ) (old : Option Form) (m forms : Forms) → finite.get forms name ≡ old → DifferAt name m forms → swapped_back name old m ≡ forms
swapped name None m forms there apart =
    same_forms (finite.remove m name) forms (λ q. by_tie q name
    (λ t. get_taken_at m name q t ∙ sym there ∙ ap (finite.get forms) (sym (one_name q name t)))
    (λ t. get_taken_aside m name q t ∙ apart q t))
swapped name (Some form) m forms there apart =
    same_forms (finite.insert m name form) forms (λ q. by_tie q name
    (λ t. get_put_at m name q form t ∙ sym there ∙ ap (finite.get forms) (sym (one_name q name t)))
    (λ t. get_put_aside m name q form t ∙ apart q t))

-- ---- names

-- a name is one of these
abbrev pub IsOneOf : List ℕ → List (List ℕ) → Type 0
IsOneOf q [] = ⊥
IsOneOf q (name ∷ names) = (name ≡ q) ⊎ IsOneOf q names

one_of_later : (q : List ℕ) (earlier later : Held) → IsOneOf q (names_in later) → IsOneOf q (names_in (earlier ++ later))
one_of_later q [] later there = there
one_of_later q (entry ∷ earlier) later there = inr (one_of_later q earlier later there)

-- forms agree under a name, or it is one of these
abbrev AgreeOr : List (List ℕ) → Forms → Forms → List ℕ → Type 0
AgreeOr names m n q = (finite.get m q ≡ finite.get n q) ⊎ IsOneOf q names

-- ---- forms put back

-- an entry of some forms that is put leaves agreement with them
put_agrees : (forms base : Forms) (entry : List ℕ × Form) (q : List ℕ) → WasAmong forms entry → finite.get base q ≡ finite.get forms q →
    finite.get (finite.insert base entry.0 entry.1) q ≡ finite.get forms q
put_agrees forms base entry q was same =
    by_tie q entry.0
    (λ t. get_put_at base entry.0 q entry.1 t ∙ sym was ∙ ap (finite.get forms) (sym (one_name q entry.0 t)))
    (λ t. get_put_aside base entry.0 q entry.1 t ∙ same)

-- and so do entries one after another
all_agree : (forms base : Forms) (held : Held) (q : List ℕ) → All (WasAmong forms) held → finite.get base q ≡ finite.get forms q →
    finite.get (with_all held base) q ≡ finite.get forms q
all_agree forms base [] q was same = same
all_agree forms base (entry ∷ held) q was same =
    all_agree forms (finite.insert base entry.0 entry.1) held q (All-tail (WasAmong forms) entry held was)
    (put_agrees forms base entry q (All-head (WasAmong forms) entry held was) same)

-- under the name of one of them they agree then
names_agree : (forms base : Forms) (held : Held) (q : List ℕ) → All (WasAmong forms) held → IsOneOf q (names_in held) →
    finite.get (with_all held base) q ≡ finite.get forms q
names_agree forms base [] q was there = absurd there
names_agree forms base (entry ∷ held) q was (inl is) =
    all_agree forms (finite.insert base entry.0 entry.1) held q (All-tail (WasAmong forms) entry held was)
    (ap (finite.get (finite.insert base entry.0 entry.1)) (sym is) ∙ get-put base entry.0 entry.1
    ∙ sym (All-head (WasAmong forms) entry held was) ∙ ap (finite.get forms) is)
names_agree forms base (entry ∷ held) q was (inr there) =
    names_agree forms (finite.insert base entry.0 entry.1) held q (All-tail (WasAmong forms) entry held was) there

-- where all that is not there is among the entries, they are the forms
pub all_back : (forms base : Forms) (held : Held) → All (WasAmong forms) held → ((q : List ℕ) → AgreeOr (names_in held) base forms q) → with_all held base ≡ forms
all_back forms base held was covered =
    same_forms (with_all held base) forms (λ q. ⊎_elim (all_agree forms base held q was) (names_agree forms base held q was) (covered q))

-- ---- forms that were moved out

none_without : (names : List (List ℕ)) (forms : Forms) (q : List ℕ) → finite.get forms q ≡ None → finite.get (without names forms) q ≡ None
none_without [] forms q none = none
none_without (name ∷ names) forms q none =
    none_without names (finite.remove forms name) q
    (by_tie q name (λ t. get_taken_at forms name q t) (λ t. get_taken_aside forms name q t ∙ none))

moved_or_same : (names : List (List ℕ)) (forms : Forms) (q : List ℕ) → AgreeOr (names_in (moved_out names forms)) (without names forms) forms q
moved_or_same [] forms q = inl refl
moved_or_same (name ∷ names) forms q =
    by_tie q name (λ t. at (finite.get forms name) refl t) (aside (moved_or_same names (finite.remove forms name) q))
  where
    rest : Held
    rest = moved_out names (finite.remove forms name)

    at : (found : Option Form) → finite.get forms name ≡ found → ties q name ≡ true →
        AgreeOr (names_in (with_name name found ++ rest)) (without names (finite.remove forms name)) forms q
    at None there t =
        inl (none_without names (finite.remove forms name) q (get_taken_at forms name q t) ∙ sym there ∙ ap (finite.get forms) (sym (one_name q name t)))
    at (Some form) there t = inr (inl (sym (one_name q name t)))

    aside : AgreeOr (names_in rest) (without names (finite.remove forms name)) (finite.remove forms name) q → ties q name ≡ false →
        AgreeOr (names_in (with_name name (finite.get forms name) ++ rest)) (without names (finite.remove forms name)) forms q
    aside later t =
        ⊎_elim
        (λ (same : finite.get (without names (finite.remove forms name)) q ≡ finite.get (finite.remove forms name) q).
        inl (same ∙ get_taken_aside forms name q t))
        (λ (there : IsOneOf q (names_in rest)). inr (one_of_later q (with_name name (finite.get forms name)) rest there))
        later

pub none_left : (names : List (List ℕ)) (forms : Forms) (q : List ℕ) → IsOneOf q names → finite.get (without names forms) q ≡ None
none_left [] forms q there = absurd there
none_left (name ∷ names) forms q (inl is) =
    none_without names (finite.remove forms name) q (subst (λ n. finite.get (finite.remove forms n) q ≡ None) (sym is) (get_taken forms q))
none_left (name ∷ names) forms q (inr there) = none_left names (finite.remove forms name) q there

pub moved_are_named : (names : List (List ℕ)) (forms : Forms) (q : List ℕ) → IsOneOf q (names_in (moved_out names forms)) → IsOneOf q names
moved_are_named [] forms q there = absurd there
moved_are_named (name ∷ names) forms q there =
    by_found (finite.get forms name) (λ later. moved_are_named names (finite.remove forms name) q later) there
  where
    by_found : (found : Option Form) → (IsOneOf q (names_in (moved_out names (finite.remove forms name))) → IsOneOf q names) →
        IsOneOf q (names_in (with_name name found ++ moved_out names (finite.remove forms name))) → (name ≡ q) ⊎ IsOneOf q names
    by_found None others there = inr (others there)
    by_found (Some form) others (inl is) = inl is
    by_found (Some form) others (inr there) = inr (others there)

-- ---- names under which no form stands, or one each

pub all_free : (names : List (List ℕ)) (forms : Forms) → ((q : List ℕ) → IsOneOf q names → finite.get forms q ≡ None) → are_free names forms ≡ true
all_free [] forms free = refl
all_free (name ∷ names) forms free =
    and_from (is_free name forms) (are_free names forms) (ap (λ (o : Option Form). not (is_some o)) (free name (inl refl))) (all_free names forms (λ q there. free q (inr there)))

pub all_there : (names : List (List ℕ)) (forms : Forms) → ((q : List ℕ) → IsOneOf q names → is_some (finite.get forms q) ≡ true) → are_there names forms ≡ true
all_there [] forms stands = refl
all_there (name ∷ names) forms stands =
    and_from (is_some (finite.get forms name)) (are_there names forms) (stands name (inl refl)) (all_there names forms (λ q there. stands q (inr there)))

pub taken_free : (names : List (List ℕ)) (forms : Forms) → are_free names (without names forms) ≡ true
taken_free names forms = all_free names (without names forms) (λ q there. none_left names forms q there)

pub moved_free : (names : List (List ℕ)) (forms : Forms) → are_free (names_in (moved_out names forms)) (without names forms) ≡ true
moved_free names forms =
    all_free (names_in (moved_out names forms)) (without names forms) (λ q there. none_left names forms q (moved_are_named names forms q there))

pub moved_back_in : (names : List (List ℕ)) (forms : Forms) → with_all (moved_out names forms) (without names forms) ≡ forms
moved_back_in names forms =
    all_back forms (without names forms) (moved_out names forms) (moved_out_among names forms) (moved_or_same names forms)

-- ---- forms that were put

put_or_same : (held : Held) (forms : Forms) (q : List ℕ) → AgreeOr (names_in held) (with_all held forms) forms q
put_or_same [] forms q = inl refl
put_or_same (entry ∷ held) forms q =
    ⊎_elim
    (λ (same : finite.get (with_all held (finite.insert forms entry.0 entry.1)) q ≡ finite.get (finite.insert forms entry.0 entry.1) q).
    by_tie q entry.0 (λ t. inr (inl (sym (one_name q entry.0 t)))) (λ t. inl (same ∙ get_put_aside forms entry.0 q entry.1 t)))
    (λ (there : IsOneOf q (names_in held)). inr (inr there))
    (put_or_same held (finite.insert forms entry.0 entry.1) q)

still_there : (held : Held) (forms : Forms) (q : List ℕ) → is_some (finite.get forms q) ≡ true → is_some (finite.get (with_all held forms) q) ≡ true
still_there [] forms q stands = stands
still_there (entry ∷ held) forms q stands =
    still_there held (finite.insert forms entry.0 entry.1) q
    (by_tie q entry.0 (λ t. ap is_some (get_put_at forms entry.0 q entry.1 t)) (λ t. ap is_some (get_put_aside forms entry.0 q entry.1 t) ∙ stands))

put_there : (held : Held) (forms : Forms) (q : List ℕ) → IsOneOf q (names_in held) → is_some (finite.get (with_all held forms) q) ≡ true
put_there [] forms q there = absurd there
put_there (entry ∷ held) forms q (inl is) =
    still_there held (finite.insert forms entry.0 entry.1) q
    (ap (λ n. is_some (finite.get (finite.insert forms entry.0 entry.1) n)) (sym is) ∙ ap is_some (get-put forms entry.0 entry.1))
put_there (entry ∷ held) forms q (inr there) = put_there held (finite.insert forms entry.0 entry.1) q there

pub copies_there : (held : Held) (forms : Forms) → are_there (names_in held) (with_all held forms) ≡ true
copies_there held forms = all_there (names_in held) (with_all held forms) (λ q there. put_there held forms q there)

pub replaced_there : (held : Held) (forms : Forms) → are_there (names_in (moved_out (names_in held) forms)) (with_all held forms) ≡ true
replaced_there held forms =
    all_there (names_in (moved_out (names_in held) forms)) (with_all held forms) (λ q there. put_there held forms q (moved_are_named (names_in held) forms q there))

pub replaced_free : (held : Held) (forms : Forms) → are_free (names_in (moved_out (names_in held) forms)) (without (names_in held) (with_all held forms)) ≡ true
replaced_free held forms =
    all_free (names_in (moved_out (names_in held) forms)) (without (names_in held) (with_all held forms))
    (λ q there. none_left (names_in held) (with_all held forms) q (moved_are_named (names_in held) forms q there))

same_without : (names : List (List ℕ)) (m n : Forms) → ((q : List ℕ) → AgreeOr names m n q) → without names m ≡ without names n
same_without [] m n agree = same_forms m n (λ q. ⊎_elim (λ same. same) (λ there. absurd there) (agree q))
same_without (name ∷ names) m n agree =
    same_without names (finite.remove m name) (finite.remove n name) (λ q. by_tie q name
    (λ t. inl (get_taken_at m name q t ∙ sym (get_taken_at n name q t)))
    (λ t.
    ⊎_elim
    (λ (same : finite.get m q ≡ finite.get n q). inl (get_taken_aside m name q t ∙ same ∙ sym (get_taken_aside n name q t)))
    (λ (there : IsOneOf q (name ∷ names)). ⊎_elim
    (λ (is : name ≡ q). absurd (let other : true ≡ false = sym (ap (λ x. ties x name) (sym is) ∙ ties_itself name) ∙ t in cc))
    (λ (later : IsOneOf q names). inr later)
    there)
    (agree q)))

pub copies_taken_back : (held : Held) (forms : Forms) → with_all (moved_out (names_in held) forms) (without (names_in held) (with_all held forms)) ≡ forms
copies_taken_back held forms =
    ap (with_all (moved_out (names_in held) forms)) (same_without (names_in held) (with_all held forms) forms (put_or_same held forms))
    ∙ moved_back_in (names_in held) forms

-- ---- all forms

found_or_none : (es : Held) (q : List ℕ) → (find (slice_cmp nat_cmp) q es ≡ None) ⊎ IsOneOf q (names_in es)
found_or_none [] q = inl refl
found_or_none (e ∷ es) q =
    by_tie q e.0 (λ t. inr (inl (sym (one_name q e.0 t))))
    (λ t. ⊎_elim
    (λ (none : find (slice_cmp nat_cmp) q es ≡ None). inl (cond-false (ties q e.0) (Some e.1) (find (slice_cmp nat_cmp) q es) t ∙ none))
    (λ (there : IsOneOf q (names_in es)). inr (inr there))
    (found_or_none es q))

pub empty_free : (names : List (List ℕ)) → are_free names finite.empty ≡ true
empty_free names = all_free names finite.empty (λ q there. finite.get-empty (slice_cmp nat_cmp) q)

pub all_put_back : (forms : Forms) → with_all (finite.entries forms) finite.empty ≡ forms
all_put_back forms =
    all_back forms finite.empty (finite.entries forms)
    (all_entries (λ name form. finite.get forms name ≡ Some form) (finite.entries forms) (finite.entries_sorted forms)
    (λ name form there. finite.get-entries forms name ∙ there))
    (λ q. ⊎_elim
    (λ (none : find (slice_cmp nat_cmp) q (finite.entries forms) ≡ None).
    inl (finite.get-empty (slice_cmp nat_cmp) q ∙ sym (finite.get-entries forms q ∙ none)))
    (λ (there : IsOneOf q (names_in (finite.entries forms))). inr there)
    (found_or_none (finite.entries forms) q))
