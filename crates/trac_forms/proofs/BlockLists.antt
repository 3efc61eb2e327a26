-- Blocks as they are kept, and the forms in one of them.
use Rattle.std.proofs.Common.{◌≡◌, ℕ, ◌+◌, ◌<◌, List, [], ◌∷◌, ◌++◌, false, ap, arith, get_or, length, map, subst, sym, ◌∙◌}
use Rattle.std.specs.Prelude.{MatchOption, Option, None, Some, Vec, bytes_eq, option_map, option_to_list, slice_get, slice_set, vec_len}
use Rattle.std.specs.List.{AllByRecursion, IsDistinct, list_any}
use Rattle.std.specs.Vec.{with_item}
use Rattle.std.specs.Cmp.Lexicographic.{nat_list_eq_equiv}
use Rattle.std.proofs.lemmas.Bool.{or_parts}
use Rattle.std.proofs.lemmas.List.{map-append, map-set, nil_from_length}
use Rattle.std.proofs.lemmas.Option.{slice_get-get_or, slice_get-map}
use Rattle.trac_rules.specs.Form.{Form}
use Rattle.trac_rules.specs.State.{Block, Held}
use Rattle.trac_forms.specs.Stored.{AreApart, Gathered, Stored}
use Rattle.trac_forms.specs.Table.{first_of, forms_of, kept_in, known_of, named, places_left, stored}

-- another block, or none, in a place of the list
pub replaced : {A : Type 0} (entries : List (List ℕ × Option Form)) (first : ℕ) (blocks : Vec (Option Gathered) A) (s : Stored) (i : ℕ) (block : Option Gathered) →
    stored entries (kept_in first blocks) ≡ s →
    stored entries (kept_in first (with_item blocks i block)) ≡ record s { blocks = slice_set s.blocks i (option_map (λ b. b.held) block) }
replaced entries first blocks s i block is =
    ap (λ (bs : List Block). let t : Stored = record { forms = forms_of entries; blocks = bs; spare = places_left blocks; known = known_of entries; recent = first_of first entries } in t)
    (map-set (option_map (λ (b : Gathered). b.held)) blocks.items i block)
    ∙ ap (λ (t : Stored). let u : Stored = record t { blocks = slice_set t.blocks i (option_map (λ b. b.held) block) } in u) is

-- an entry that was read, by its name
pub entry_at : {K V : Type 0} (name : K → List ℕ) (entries read : List (K × V)) (i : ℕ) (entry : K × V) → read ≡ entries → i < length read →
    entry ≡ get_or read i entry → slice_get (named name entries) i ≡ Some (name entry.0, entry.1)
entry_at {K} {V} name entries read i entry same within is =
    ap (λ (es : List (K × V)). slice_get (named name es) i) (sym same)
    ∙ slice_get-map (λ (e : K × V). (name e.0, e.1)) read i
    ∙ ap (option_map (λ (e : K × V). (name e.0, e.1))) (slice_get-get_or read i entry within ∙ ap Some (sym is))

-- ---- names

-- a name after others that are told apart from it
one_more : (P : List ℕ → Type 0) (held : Held) (name : List ℕ) (form : Form) → P name → AllByRecursion P (map (λ entry. entry.0) held) →
    AllByRecursion P (map (λ entry. entry.0) (held ++ (name, form) ∷ []))
one_more P [] name form last all = (last, tt)
one_more P (entry ∷ held) name form last all = (all.0, one_more P held name form last all.1)

-- a new name after others
pub apart_pushed : (held : Held) (name : List ℕ) (form : Form) → list_any (λ entry. bytes_eq name entry.0) held ≡ false → AreApart held →
    AreApart (held ++ (name, form) ∷ [])
unfolding IsDistinct
apart_pushed [] name form other apart = (tt, tt)
apart_pushed (entry ∷ held) name form other apart =
    let parts = or_parts (bytes_eq name entry.0) (list_any (λ e. bytes_eq name e.0) held) other in (
      one_more (λ n. bytes_eq entry.0 n ≡ false) held name form (nat_list_eq_equiv.symm entry.0 name ∙ parts.0) apart.0,
      apart_pushed held name form parts.1 apart.1,
    )

-- the first of names that are told apart
first_ones : (P : List ℕ → Type 0) (front back : Held) → AllByRecursion P (map (λ entry. entry.0) (front ++ back)) → AllByRecursion P (map (λ entry. entry.0) front)
first_ones P [] back all = tt
first_ones P (entry ∷ front) back all = (all.0, first_ones P front back all.1)

pub apart_front : (front back : Held) → AreApart (front ++ back) → AreApart front
unfolding IsDistinct
apart_front [] back apart = tt
apart_front (entry ∷ front) back apart = (first_ones (λ n. bytes_eq entry.0 n ≡ false) front back apart.0, apart_front front back apart.1)

-- of no forms
pub none_apart : AreApart []
unfolding IsDistinct
none_apart = tt

-- ---- entries of a vector, read with their names

module _ {K V : Type 0} (name : K → List ℕ) where
  -- one after another
  pub named-append : (xs ys : List (K × V)) → named name (xs ++ ys) ≡ named name xs ++ named name ys
  named-append xs ys = map-append (λ (e : K × V). (name e.0, e.1)) xs ys

-- what a block holds, and its room, by its vector
module _ {K A : Type 0} (name : K → List ℕ) (old : Vec (K × Form) A) (held : Held) (is : named name old.items ≡ held) where
  -- the last one taken
  pub popped : (new : Vec (K × Form) A) (last : Option (K × Form)) → old.items ≡ new.items ++ option_to_list last →
      MatchOption last ((vec_len old ≡ 0) × (vec_len new ≡ 0)) (λ _. vec_len new + 1 ≡ vec_len old) →
      MatchOption last ((held ≡ []) × (named name new.items ≡ [])) (λ entry. held ≡ named name new.items ++ (name entry.0, entry.1) ∷ [])
  popped new None items lens = (
    sym is ∙ ap (named name) (nil_from_length old.items (omega (arith, lens.0, old.ok.0))),
    ap (named name) (nil_from_length new.items (omega (arith, lens.1, new.ok.0))),
  )
  popped new (Some entry) items lens = sym is ∙ ap (named name) items ∙ named-append name new.items (entry ∷ [])

  -- and the others are told apart
  pub apart_popped : (new : Vec (K × Form) A) (last : Option (K × Form)) → old.items ≡ new.items ++ option_to_list last → AreApart (named name old.items) →
      AreApart (named name new.items)
  apart_popped new last items apart =
      apart_front (named name new.items) (named name (option_to_list last))
      (subst AreApart (ap (named name) items ∙ named-append name new.items (option_to_list last)) apart)

  -- a new one pushed
  pub pushed : (new : Vec (K × Form) A) (key : K) (form : Form) → new.items ≡ old.items ++ (key, form) ∷ [] → named name new.items ≡ held ++ (name key, form) ∷ []
  pushed new key form items =
      ap (named name) items ∙ named-append name old.items ((key, form) ∷ []) ∙ ap (λ (h : Held). h ++ (name key, form) ∷ []) is

  -- and its name is told apart from the others
  pub apart_with : (new : Vec (K × Form) A) (key : K) (form : Form) → new.items ≡ old.items ++ (key, form) ∷ [] →
      list_any (λ entry. bytes_eq (name key) entry.0) held ≡ false → AreApart (named name old.items) → AreApart (named name new.items)
  apart_with new key form items other apart =
      subst AreApart (sym (ap (named name) items ∙ named-append name old.items ((key, form) ∷ [])))
      (apart_pushed (named name old.items) (name key) form (ap (list_any (λ (entry : List ℕ × Form). bytes_eq (name key) entry.0)) is ∙ other) apart)
