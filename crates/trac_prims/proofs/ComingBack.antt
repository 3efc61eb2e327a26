-- How many forms there are when those of a block are put among them.
use Rattle.std.proofs.Common.{◌≡◌, ℕ, ◌+◌, ◌-◌, ◌<◌, ◌≤◌, Bool, true, false, cond, List, [], ◌∷◌, ◌++◌, get_or, length, map, take, refl, sym, ap, ◌∙◌, arith, ⊎_elim}
use Rattle.std.specs.Prelude.{Option, Some, Vec, bytes_eq, is_some, nat_le, slice_get}
use Rattle.std.proofs.lemmas.Bool.{cases_Bool, le-leb, leb-false, leb-true, lt-leb}
use Rattle.std.proofs.lemmas.List.{map-append, take_more}
use Rattle.std.proofs.lemmas.Option.{slice_get-get_or}
use Rattle.std.specs.Cmp.Lexicographic.{nat_list_cmp_total, nat_list_eq_equiv}
use Rattle.std.specs.FinMap as finite
use Rattle.std.specs.List.{AllByRecursion}
use Rattle.std.proofs.lemmas.Map.Keys.{IsDistinct-head, IsDistinct-tail}
use Rattle.std.proofs.lemmas.Map.Text.{is_eq-slice_cmp}
use Rattle.trac_rules.specs.declared.limit.TheConstants.{FORM_COUNT_LIMIT}
use Rattle.trac_rules.specs.Blocks.{with_all}
use Rattle.trac_rules.specs.Form.{Form}
use Rattle.trac_rules.specs.State.{Forms, Held}
use Rattle.trac_forms.specs.Stored.{AreApart}
use Rattle.trac_prims.specs.Blocks.{count_further}
use Rattle.trac_change.specs.Changed.{named_forms}

-- a form that is put is not seen under other names
get_other : (forms : Forms) (name q : List ℕ) (form : Form) → bytes_eq name q ≡ false → finite.get (finite.insert forms name form) q ≡ finite.get forms q
get_other forms name q form other =
    finite.get-insert nat_list_cmp_total forms name form q
    ∙ ap (λ b. cond b (Some form) (finite.get forms q)) (is_eq-slice_cmp q name ∙ nat_list_eq_equiv.symm q name ∙ other)

-- so it makes no difference to how many of others are further ones
count_others : (held : Held) (forms : Forms) (name : List ℕ) (form : Form) → AllByRecursion (λ n. bytes_eq name n ≡ false) (map (λ entry. entry.0) held) →
    count_further held (finite.insert forms name form) ≡ count_further held forms
count_others [] forms name form apart = refl
count_others (entry ∷ held) forms name form apart =
    let first = ap {B = ℕ} (λ (o : Option Form). cond (is_some o) 0 1) (get_other forms name entry.0 form apart.0) in
    let others = count_others held forms name form apart.1 in
    omega (arith, first, others)

-- how many more there are for one that is put
one_more : (there : Bool) (n : ℕ) → cond there n (n + 1) ≡ n + cond there 0 1
one_more true n = omega arith
one_more false n = omega arith

pub len-with_all : (held : Held) (forms : Forms) → AreApart held → finite.len (with_all held forms) ≡ finite.len forms + count_further held forms
len-with_all [] forms apart = omega arith
len-with_all (entry ∷ held) forms apart =
    let names = map (λ (e : List ℕ × Form). e.0) held in
    let rest = len-with_all held (finite.insert forms entry.0 entry.1) (IsDistinct-tail bytes_eq entry.0 names apart) in
    let put = finite.len-insert nat_list_cmp_total forms entry.0 entry.1 ∙ one_more (is_some (finite.get forms entry.0)) (finite.len forms) in
    let others = count_others held forms entry.0 entry.1 (IsDistinct-head bytes_eq entry.0 names apart) in
    omega (arith, rest, put, others)

-- of one more form
pub count-more : (held : Held) (forms : Forms) (entry : List ℕ × Form) → count_further (held ++ entry ∷ []) forms ≡ count_further held forms + cond (is_some (finite.get forms entry.0)) 0 1
count-more [] forms entry = omega arith
count-more (first ∷ held) forms entry = let rest = count-more held forms entry in omega (arith, rest)

-- ---- an entry after another

-- what stands in a place
entry_at : (held : Held) (i : ℕ) (entry : List ℕ × Form) → i < length held → slice_get held i ≡ Some entry → get_or held i entry ≡ entry
entry_at held i entry within at = let both : Some (get_or held i entry) ≡ Some entry = sym (slice_get-get_or held i entry within) ∙ at in cc

at_most_one : (there : Bool) → cond there 0 1 ≤ 1
at_most_one true = omega arith
at_most_one false = omega arith

-- the further ones up to the next entry
pub further_more : (held : Held) (forms : Forms) (i n more : ℕ) (name : List ℕ) (form : Form) (there : Bool) → i < length held → slice_get held i ≡ Some (name, form) →
    is_some (finite.get forms name) ≡ there → n ≡ count_further (take i held) forms → n ≤ i → more ≡ n + cond there 0 1 →
    (more ≡ count_further (take (i + 1) held) forms) × (more ≤ i + 1)
further_more held forms i n more name form there within at is so_far few one =
    let next : count_further (take (i + 1) held) forms ≡ count_further (take i held) forms + cond (is_some (finite.get forms name)) 0 1 =
    ap (λ (hs : Held). count_further hs forms) (take_more held i (name, form) within)
    ∙ count-more (take i held) forms (get_or held i (name, form))
    ∙ ap (λ (e : List ℕ × Form). count_further (take i held) forms + cond (is_some (finite.get forms e.0)) 0 1) (entry_at held i (name, form) within at) in
    let flag = ap {B = ℕ} (λ b. cond b 0 1) is in
    (omega (arith, next, flag, so_far, one), omega (arith, one, few, at_most_one there))

-- the copies up to the next entry
pub copy_added : {A : Type 0} (copies new : List (Vec ℕ A × Form)) (held : Held) (i : ℕ) (name : Vec ℕ A) (form : Form) (called : List ℕ) (copied : Form) → i < length held →
    slice_get held i ≡ Some (called, copied) → named_forms copies ≡ take i held → new ≡ copies ++ (name, form) ∷ [] → name.items ≡ called → form ≡ copied →
    named_forms new ≡ take (i + 1) held
copy_added {A} copies new held i name form called copied within at so_far is names same =
    ap (λ (cs : List (Vec ℕ A × Form)). named_forms cs) is
    ∙ map-append (λ (c : Vec ℕ A × Form). (c.0.items, c.1)) copies ((name, form) ∷ [])
    ∙ ap (λ (hs : Held). hs ++ (name.items, form) ∷ []) so_far
    ∙ ap (λ (n : List ℕ). take i held ++ (n, form) ∷ []) names
    ∙ ap (λ (f : Form). take i held ++ (called, f) ∷ []) same
    ∙ ap (λ (e : List ℕ × Form). take i held ++ e ∷ []) (sym (entry_at held i (called, copied) within at))
    ∙ sym (take_more held i (called, copied) within)

-- ---- whether they may come back

module _ (held : Held) (forms : Forms) (count more : ℕ) (apart : AreApart held) (counts : count ≡ finite.len forms) (further : more ≡ count_further held forms) where
  pub fit_together : count ≤ FORM_COUNT_LIMIT → nat_le more (FORM_COUNT_LIMIT - count) ≡ nat_le (finite.len (with_all held forms)) FORM_COUNT_LIMIT
  fit_together few =
      ⊎_elim
      (λ (t : nat_le more (FORM_COUNT_LIMIT - count) ≡ true).
      t
      ∙ sym (le-leb (finite.len (with_all held forms)) FORM_COUNT_LIMIT
      (omega (arith, few, counts, further, len-with_all held forms apart, leb-true more (FORM_COUNT_LIMIT - count) t))))
      (λ (t : nat_le more (FORM_COUNT_LIMIT - count) ≡ false).
      t
      ∙ sym (lt-leb (finite.len (with_all held forms)) FORM_COUNT_LIMIT
      (omega (arith, few, counts, further, len-with_all held forms apart, leb-false more (FORM_COUNT_LIMIT - count) t))))
      (cases_Bool (nat_le more (FORM_COUNT_LIMIT - count)))

  pub too_many_already : FORM_COUNT_LIMIT < count → nat_le count FORM_COUNT_LIMIT ≡ nat_le (finite.len (with_all held forms)) FORM_COUNT_LIMIT
  too_many_already many =
      lt-leb count FORM_COUNT_LIMIT many
      ∙ sym (lt-leb (finite.len (with_all held forms)) FORM_COUNT_LIMIT (omega (arith, many, counts, len-with_all held forms apart)))
