-- Lists of named forms, of blocks and of names, one after another.
use Rattle.std.proofs.Common.{◌≡◌, ℕ, ◌+◌, ◌<◌, ◌≤◌, ◌&&◌, Bool, true, false, IsTrue, List, [], ◌∷◌, ◌++◌, length, take, get_or, map, All, refl, sym, ap, subst, ◌∙◌, arith}
use Rattle.std.specs.Prelude.{Option, Vec, nat_le}
use Rattle.std.specs.List.{list_all}
use Rattle.std.proofs.lemmas.Bool.{and_parts, false_from_ne_true, le-leb, leb-true}
use Rattle.std.proofs.lemmas.List.{map-append, take_all}
use Rattle.std.proofs.lemmas.List.Elements.{All-push}
use Rattle.std.proofs.lemmas.List.Folds.{list_all-map, list_all_at, list_all_more}
use Rattle.trac_rules.specs.declared.limit.TheConstants.{BLOCK_LIMIT, FORM_LIMIT, NAME_LIMIT}
use Rattle.trac_rules.specs.Form.{Form, IsWide, all_items, extent}
use Rattle.trac_rules.specs.Proper.{IsProperForm}
use Rattle.trac_rules.proofs.Cutting.{count_within_extent}
use Rattle.trac_change.specs.Changed.{named_forms}
use Rattle.trac_text.specs.Framing.{texts_of}
use Rattle.trac_text.proofs.Framed.{map_next}
use Rattle.trac_rules.specs.Undone.{names_in}
use Rattle.trac_storage.specs.Loading.{AreProperEntries, block_entries_fit, blocks_fit, entries_fit, names_fit}

-- ---- elements that are looked at one after another

module _ {X : Type 0} (p : X → Bool) (xs : List X) (i : ℕ) (x : X) (within : i < length xs) (is : x ≡ get_or xs i x) where
  -- all pass so far, and one more does
  pub all_next : list_all p (take i xs) ≡ true → p x ≡ true → list_all p (take (i + 1) xs) ≡ true
  all_next so_far passes = list_all_more p xs i x within ∙ ap (λ b. b && p (get_or xs i x)) so_far ∙ ap p (sym is) ∙ passes

  -- one does not pass
  pub one_fails : p x ≡ false → list_all p xs ≡ false
  one_fails fails = list_all_at p xs i x within (ap p (sym is) ∙ fails)

-- where five judgements are passed, the last two are
pub last_two : (a b c d e : Bool) → IsTrue (a && b && c && d && e) → IsTrue d × IsTrue e
last_two a b c d e all =
    let last = and_parts (a && b && c && d) e all in
    ((and_parts (a && b && c) d last.0).1, last.1)

-- ---- forms with their names

-- a name that is short enough, with any form of the code
pub proper_entry : (name : List ℕ) (form : Form) → length name ≤ NAME_LIMIT → extent (all_items form) ≤ FORM_LIMIT → All IsWide (all_items form) → IsProperForm name form
proper_entry name form short within wide = record {
  fits = rw (le-leb _ _ short, le-leb (length (all_items form)) FORM_LIMIT (omega (arith, count_within_extent (all_items form) wide, within)), le-leb _ _ within) refl;
  wide = wide;
}

-- a name that is too long
pub over : (a b : ℕ) → b < a → nat_le a b ≡ false
over a b h = false_from_ne_true (nat_le a b) (λ e. absurd (omega (arith, leb-true a b e, h)))

-- one more element of which P holds
pub All-next : {X Y : Type 0} (f : X → Y) (P : Y → Type 0) (xs : List X) (i : ℕ) (x : X) → i < length xs → x ≡ get_or xs i x → P (f x) → All P (map f (take i xs)) →
    All P (map f (take (i + 1) xs))
All-next f P xs i x within is here so_far =
    subst (λ ys. All P ys) (sym (map_next f xs i x within is)) (All-push P (map f (take i xs)) (f x) so_far here)

module _ {A : Type 0} where
  abbrev seen : Vec ℕ A × Form → List ℕ × Form
  seen entry = (entry.0.items, entry.1)

  abbrev short : Vec ℕ A × Form → Bool
  short entry = nat_le (length entry.0.items) NAME_LIMIT

  -- names, as the code has them
  entries_as : (forms : List (Vec ℕ A × Form)) → entries_fit (named_forms forms) ≡ list_all short forms
  entries_as forms =
      list_all-map (λ (name : List ℕ). nat_le (length name) NAME_LIMIT) (λ (entry : List ℕ × Form). entry.0) (named_forms forms)
      ∙ list_all-map (λ (entry : List ℕ × Form). nat_le (length entry.0) NAME_LIMIT) seen forms

  names_as : (names : List (Vec ℕ A)) → names_fit (texts_of names) ≡ list_all (λ (name : Vec ℕ A). nat_le (length name.items) NAME_LIMIT) names
  names_as names = list_all-map (λ (name : List ℕ). nat_le (length name) NAME_LIMIT) (λ (name : Vec ℕ A). name.items) names

  -- one is too long
  pub name_fails : (names : List (Vec ℕ A)) (i : ℕ) (name : Vec ℕ A) → i < length names → name ≡ get_or names i name → NAME_LIMIT < length name.items → names_fit (texts_of names) ≡ false
  name_fails names i name within is long =
      names_as names ∙ one_fails (λ (n : Vec ℕ A). nat_le (length n.items) NAME_LIMIT) names i name within is (over (length name.items) NAME_LIMIT long)

  module _ (forms : List (Vec ℕ A × Form)) (i : ℕ) (entry : Vec ℕ A × Form) (within : i < length forms) (is : entry ≡ get_or forms i entry) where
    pub entry_fails : short entry ≡ false → entries_fit (named_forms forms) ≡ false
    entry_fails fails = entries_as forms ∙ one_fails short forms i entry within is fails

    pub entry_next : short entry ≡ true → entries_fit (named_forms (take i forms)) ≡ true → entries_fit (named_forms (take (i + 1) forms)) ≡ true
    entry_next passes so_far = entries_as (take (i + 1) forms) ∙ all_next short forms i entry within is (sym (entries_as (take i forms)) ∙ so_far) passes

    pub proper_next : IsProperForm entry.0.items entry.1 → AreProperEntries (named_forms (take i forms)) → AreProperEntries (named_forms (take (i + 1) forms))
    proper_next here so_far = All-next seen (λ (e : List ℕ × Form). IsProperForm e.0 e.1) forms i entry within is here so_far

  -- names that are copied one after another
  pub names_next : (names pushed : List (Vec ℕ A)) (name : Vec ℕ A) (forms : List (Vec ℕ A × Form)) (i : ℕ) (entry : Vec ℕ A × Form) → i < length forms → entry ≡ get_or forms i entry →
      pushed ≡ names ++ name ∷ [] → name.items ≡ entry.0.items → texts_of names ≡ names_in (named_forms (take i forms)) → texts_of pushed ≡ names_in (named_forms (take (i + 1) forms))
  names_next names pushed name forms i entry within is push same so_far =
      ap texts_of push
      ∙ map-append (λ (n : Vec ℕ A). n.items) names (name ∷ [])
      ∙ ap (λ (texts : List (List ℕ)). texts ++ name.items ∷ []) so_far
      ∙ ap (λ (n : List ℕ). names_in (named_forms (take i forms)) ++ n ∷ []) same
      ∙ sym (ap names_in (map_next seen forms i entry within is) ∙ map-append (λ (e : List ℕ × Form). e.0) (named_forms (take i forms)) ((entry.0.items, entry.1) ∷ []))

  -- ---- blocks

  -- too many of them
  pub blocks_over : (blocks : List (Option (Vec (Vec ℕ A × Form) A))) → BLOCK_LIMIT < length blocks → false ≡ blocks_fit blocks
  blocks_over blocks many = rw (over _ _ many) refl

  -- one with a name that is too long
  pub block_fails_within : (blocks : List (Option (Vec (Vec ℕ A × Form) A))) (i : ℕ) (block : Option (Vec (Vec ℕ A × Form) A)) → i < length blocks → block ≡ get_or blocks i block →
      block_entries_fit block ≡ false → false ≡ blocks_fit blocks
  block_fails_within blocks i block within is fails =
      and_false (nat_le (length blocks) BLOCK_LIMIT) (list_all block_entries_fit blocks) (one_fails block_entries_fit blocks i block within is fails)
    where
      and_false : (a b : Bool) → b ≡ false → false ≡ (a && b)
      and_false true b e = sym e
      and_false false b e = refl

  -- all of them
  pub all_blocks_within : (blocks : List (Option (Vec (Vec ℕ A × Form) A))) (i : ℕ) → length blocks ≤ BLOCK_LIMIT → length blocks ≤ i → list_all block_entries_fit (take i blocks) ≡ true →
      true ≡ blocks_fit blocks
  all_blocks_within blocks i few all fits =
      rw (le-leb _ _ few, subst (λ (bs : List (Option (Vec (Vec ℕ A × Form) A))). list_all block_entries_fit bs ≡ true) (take_all i blocks all) fits) refl

  -- names, the next of which is short enough
  pub name_next : (names : List (Vec ℕ A)) (i : ℕ) (name : Vec ℕ A) → i < length names → name ≡ get_or names i name → length name.items ≤ NAME_LIMIT → names_fit (texts_of (take i names)) ≡ true →
      names_fit (texts_of (take (i + 1) names)) ≡ true
  name_next names i name within is short so_far =
      names_as (take (i + 1) names)
      ∙ all_next (λ (n : Vec ℕ A). nat_le (length n.items) NAME_LIMIT) names i name within is (sym (names_as (take i names)) ∙ so_far) (le-leb _ _ short)
