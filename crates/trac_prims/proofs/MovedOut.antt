-- Forms that are moved out one after another: what a further name adds, what is left, and that the names of those that were moved out
-- say as much as all the names.
use Rattle.std.proofs.Common.{◌≡◌, ℕ, ◌+◌, ◌≤◌, Bool, Bor, true, false, cond, ◌||◌, List, [], ◌∷◌, ◌++◌, length, refl, sym, ap, ◌∙◌, arith, ⊎_elim}
use Rattle.std.specs.Prelude.{Option, None, Some, Vec, bytes_eq, is_some}
use Rattle.std.specs.Cmp.Lexicographic.{slice_cmp, nat_list_cmp_total}
use Rattle.std.specs.FinMap as finite
use Rattle.std.specs.List.{list_any}
use Rattle.std.specs.List.Sorted.{IsPermutation}
use Rattle.std.specs.Ordering.{nat_cmp, eq_by_cmp}
use Rattle.std.proofs.lemmas.Bool.{cases_Bool, cond-true}
use Rattle.std.proofs.lemmas.List.{append-nil, append_assoc, length-append, length-map, map-append}
use Rattle.std.proofs.lemmas.List.Folds.{list_any-append}
use Rattle.std.proofs.lemmas.List.Sorted.{list_any-IsPermutation}
use Rattle.std.proofs.lemmas.Map.Text.{is_eq-slice_cmp}
use Rattle.std.proofs.lemmas.Slice.Eq.{bytes_eq-Decides}
use Rattle.trac_rules.specs.Blocks.{moved_out, with_name}
use Rattle.trac_rules.specs.Form.{Form}
use Rattle.trac_rules.specs.Handling.{without}
use Rattle.trac_rules.specs.State.{Forms, Held}
use Rattle.trac_rules.proofs.NamedForms.{only_equal_tie, ties_itself}
use Rattle.trac_rules.specs.Undone.{names_in}
use Rattle.trac_text.specs.Framing.{texts_of}
use Rattle.trac_rules.proofs.Found.{taken_get}
use Rattle.trac_forms.proofs.Tables.{nothing_taken}

-- ---- one name

-- a form that is taken and put again
put_back : (forms : Forms) (name : List ℕ) (form : Form) → finite.get forms name ≡ Some form → finite.insert (finite.remove forms name) name form ≡ forms
put_back forms name form there =
    finite.same_map nat_list_cmp_total only_equal_tie (finite.insert (finite.remove forms name) name form) forms (λ q.
    finite.get-insert nat_list_cmp_total (finite.remove forms name) name form q
    ∙ ap (λ b. cond b (Some form) (finite.get (finite.remove forms name) q)) (is_eq-slice_cmp q name)
    ∙ ap (cond (bytes_eq q name) (Some form)) (taken_get forms name q)
    ∙ ⊎_elim
    (λ (t : bytes_eq q name ≡ true). rw t (sym (ap (finite.get forms) ((bytes_eq-Decides q name).0 t) ∙ there)))
    (λ (t : bytes_eq q name ≡ false). rw t refl)
    (cases_Bool (bytes_eq q name)))

-- what is found is one form less
len_found : (forms : Forms) (name : List ℕ) (found : Option Form) → finite.get forms name ≡ found →
    finite.len (finite.remove forms name) + length (with_name name found) ≡ finite.len forms
len_found forms name None there = let same = ap (λ (f : Forms). finite.len f) (nothing_taken forms name there) in omega (arith, same)
len_found forms name (Some form) there =
    let gone : finite.get (finite.remove forms name) name ≡ None =
    finite.get-remove nat_list_cmp_total forms name name ∙ cond-true (eq_by_cmp (slice_cmp nat_cmp) name name) None (finite.get forms name) (ties_itself name) in
    sym (finite.len-insert nat_list_cmp_total (finite.remove forms name) name form
    ∙ ap (λ (o : Option Form). cond (is_some o) (finite.len (finite.remove forms name)) (finite.len (finite.remove forms name) + 1)) gone)
    ∙ ap (λ (f : Forms). finite.len f) (put_back forms name form there)

-- ---- names in order

-- how many are left
pub len-without : (names : List (List ℕ)) (forms : Forms) → finite.len (without names forms) + length (moved_out names forms) ≡ finite.len forms
len-without [] forms = omega arith
len-without (name ∷ names) forms =
    let first = len_found forms name (finite.get forms name) refl in
    let others = len-without names (finite.remove forms name) in
    let both = length-append (with_name name (finite.get forms name)) (moved_out names (finite.remove forms name)) in
    omega (arith, first, others, both)

-- nothing twice is nothing
none_either : {X : Type 0} (b : Bool) → cond b None None ≡ (let none : Option X = None in none)
none_either true = refl
none_either false = refl

first_found : (forms : Forms) (name q : List ℕ) (found : Option Form) (rest : Held) → finite.get forms name ≡ found →
    cond (list_any (bytes_eq q) (names_in rest)) None (cond (bytes_eq q name) None (finite.get forms q))
    ≡ cond (list_any (bytes_eq q) (names_in (with_name name found ++ rest))) None (finite.get forms q)
first_found forms name q None rest there =
    ⊎_elim
    (λ (t : bytes_eq q name ≡ true).
    let none : finite.get forms q ≡ None = ap (finite.get forms) ((bytes_eq-Decides q name).0 t) ∙ there in
    rw (t, none) refl)
    (λ (t : bytes_eq q name ≡ false). rw t refl)
    (cases_Bool (bytes_eq q name))
first_found forms name q (Some form) rest there =
    ⊎_elim
    (λ (t : bytes_eq q name ≡ true). rw t (none_either (list_any (bytes_eq q) (names_in rest))))
    (λ (t : bytes_eq q name ≡ false). rw t refl)
    (cases_Bool (bytes_eq q name))

-- what is left under a name
pub get-without : (names : List (List ℕ)) (forms : Forms) (q : List ℕ) →
    finite.get (without names forms) q ≡ cond (list_any (bytes_eq q) (names_in (moved_out names forms))) None (finite.get forms q)
get-without [] forms q = refl
get-without (name ∷ names) forms q =
    get-without names (finite.remove forms name) q
    ∙ ap (cond (list_any (bytes_eq q) (names_in (moved_out names (finite.remove forms name)))) None) (taken_get forms name q)
    ∙ first_found forms name q (finite.get forms name) (moved_out names (finite.remove forms name)) refl

-- what a further name adds
moved_out-more : (names : List (List ℕ)) (forms : Forms) (name : List ℕ) →
    moved_out (names ++ name ∷ []) forms ≡ moved_out names forms ++ with_name name (finite.get (without names forms) name)
moved_out-more [] forms name = append-nil (with_name name (finite.get forms name))
moved_out-more (first ∷ names) forms name =
    ap (λ rest. with_name first (finite.get forms first) ++ rest) (moved_out-more names (finite.remove forms first) name)
    ∙ sym (append_assoc (with_name first (finite.get forms first)) (moved_out names (finite.remove forms first))
    (with_name name (finite.get (without names (finite.remove forms first)) name)))

-- its name, where there is a form
names-with_name : (name : List ℕ) (found : Option Form) (there : Bool) → is_some found ≡ there → names_in (with_name name found) ≡ cond there (name ∷ []) []
names-with_name name None false e = refl
names-with_name name (Some form) true e = refl
names-with_name name None true e = absurd (cc)
names-with_name name (Some form) false e = absurd (cc)

-- the names that were found so far, and one more name
module _ (names : List (List ℕ)) (forms : Forms) (name : List ℕ) (held : List (List ℕ)) (so_far : held ≡ names_in (moved_out names forms)) where
  with_more : (there : Bool) → is_some (finite.get (without names forms) name) ≡ there → held ++ cond there (name ∷ []) [] ≡ names_in (moved_out (names ++ name ∷ []) forms)
  with_more there e =
      ap (λ hs. hs ++ cond there (name ∷ []) []) so_far
      ∙ ap (λ ns. names_in (moved_out names forms) ++ ns) (sym (names-with_name name (finite.get (without names forms) name) there e))
      ∙ sym (map-append (λ entry. entry.0) (moved_out names forms) (with_name name (finite.get (without names forms) name)))
      ∙ ap names_in (sym (moved_out-more names forms name))

  -- what is found under it then
  found_then : finite.get (without names forms) name ≡ cond (list_any (bytes_eq name) held) None (finite.get forms name)
  found_then = get-without names forms name ∙ ap (λ ns. cond (list_any (bytes_eq name) ns) None (finite.get forms name)) (sym so_far)

  -- a name with a form that was not given before
  pub name_added : is_some (finite.get forms name) ≡ true → list_any (bytes_eq name) held ≡ false → held ++ name ∷ [] ≡ names_in (moved_out (names ++ name ∷ []) forms)
  name_added there new = with_more true (ap is_some (found_then ∙ ap (λ b. cond b None (finite.get forms name)) new) ∙ there)

  -- a name without a form
  pub name_missing : is_some (finite.get forms name) ≡ false → held ≡ names_in (moved_out (names ++ name ∷ []) forms)
  name_missing missing =
      sym (append-nil held)
      ∙ with_more false (ap is_some found_then ∙ either (list_any (bytes_eq name) held))
    where
      either : (b : Bool) → is_some (cond b None (finite.get forms name)) ≡ false
      either true = refl
      either false = missing

  -- a name that was given before
  pub name_again : list_any (bytes_eq name) held ≡ true → held ≡ names_in (moved_out (names ++ name ∷ []) forms)
  name_again again =
      sym (append-nil held) ∙ with_more false (ap is_some (found_then ∙ ap (λ b. cond b None (finite.get forms name)) again))

-- ---- the names of those that were moved out

again_moved : (forms : Forms) (name : List ℕ) (found : Option Form) (rest : Held) → finite.get forms name ≡ found →
    moved_out (names_in rest) (finite.remove forms name) ≡ rest → moved_out (names_in (with_name name found ++ rest)) forms ≡ with_name name found ++ rest
again_moved forms name None rest there others = ap (moved_out (names_in rest)) (sym (nothing_taken forms name there)) ∙ others
again_moved forms name (Some form) rest there others =
    ap (λ found. with_name name found ++ moved_out (names_in rest) (finite.remove forms name)) there ∙ ap (λ held. (name, form) ∷ held) others

pub moved_out-again : (names : List (List ℕ)) (forms : Forms) → moved_out (names_in (moved_out names forms)) forms ≡ moved_out names forms
moved_out-again [] forms = refl
moved_out-again (name ∷ names) forms =
    again_moved forms name (finite.get forms name) (moved_out names (finite.remove forms name)) refl (moved_out-again names (finite.remove forms name))

again_without : (forms left : Forms) (name : List ℕ) (found : Option Form) (rest : Held) → finite.get forms name ≡ found →
    without (names_in rest) (finite.remove forms name) ≡ left → without (names_in (with_name name found ++ rest)) forms ≡ left
again_without forms left name None rest there others = ap (without (names_in rest)) (sym (nothing_taken forms name there)) ∙ others
again_without forms left name (Some form) rest there others = others

pub without-again : (names : List (List ℕ)) (forms : Forms) → without (names_in (moved_out names forms)) forms ≡ without names forms
without-again [] forms = refl
without-again (name ∷ names) forms =
    again_without forms (without names (finite.remove forms name)) name (finite.get forms name) (moved_out names (finite.remove forms name)) refl
    (without-again names (finite.remove forms name))

-- ---- names of the code

-- whether a name stands among texts
pub any_text : {A : Type 0} (name : List ℕ) (texts : List (Vec ℕ A)) → list_any (λ text. bytes_eq name text.items) texts ≡ list_any (bytes_eq name) (texts_of texts)
any_text name [] = refl
any_text name (text ∷ texts) = ap (λ b. bytes_eq name text.items || b) (any_text name texts)

-- a key more among those of a set, and a name more among texts
pub key_added : (q : List ℕ) (keys new : List (Bor (List ℕ))) (key : Bor (List ℕ)) (held : List (List ℕ)) → IsPermutation (key ∷ keys) new →
    list_any (λ k. bytes_eq q k.now) keys ≡ list_any (bytes_eq q) held → list_any (λ k. bytes_eq q k.now) new ≡ list_any (bytes_eq q) (held ++ key.now ∷ [])
key_added q keys new key held put before =
    sym (list_any-IsPermutation (λ k. bytes_eq q k.now) (key ∷ keys) new put)
    ∙ turned (bytes_eq q key.now) (list_any (λ k. bytes_eq q k.now) keys)
    ∙ ap (λ b. b || (bytes_eq q key.now || false)) before
    ∙ sym (list_any-append (bytes_eq q) held (key.now ∷ []))
  where
    turned : (a b : Bool) → (a || b) ≡ (b || (a || false))
    turned true true = refl
    turned true false = refl
    turned false true = refl
    turned false false = refl

-- a text more
pub text_added : {A : Type 0} (held new : List (Vec ℕ A)) (text : Vec ℕ A) (name : List ℕ) → new ≡ held ++ text ∷ [] → text.items ≡ name → texts_of new ≡ texts_of held ++ name ∷ []
text_added {A} held new text name is called =
    ap (λ (ts : List (Vec ℕ A)). texts_of ts) is
    ∙ map-append (λ (t : Vec ℕ A). t.items) held (text ∷ [])
    ∙ ap (λ n. texts_of held ++ n ∷ []) called

-- no more leave than there are
pub fewer_held : {A : Type 0} (slice held : List (Vec ℕ A)) (names : List (List ℕ)) (forms : Forms) → slice ≡ held → texts_of held ≡ names_in (moved_out names forms) →
    length slice ≤ finite.len forms
fewer_held {A} slice held names forms same is =
    let lens = ap (λ (ts : List (Vec ℕ A)). length ts) same in
    let texts = length-map held (λ (t : Vec ℕ A). t.items) in
    let moved = ap (λ (ns : List (List ℕ)). length ns) is ∙ length-map (moved_out names forms) (λ entry. entry.0) in
    omega (arith, lens, texts, moved, len-without names forms)
