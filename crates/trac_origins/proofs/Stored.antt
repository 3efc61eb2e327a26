-- Forms and blocks that are put, taken and copied, with their origins beside them.
use Rattle.std.proofs.Common.{◌≡◌, ℕ, zero, suc, Bool, true, false, cond, List, [], ◌∷◌, ◌++◌, All, length, refl, sym, ap, subst, ◌∙◌, inl, inr, ⊎_elim}
use Rattle.std.specs.Prelude.{Option, None, Some, ◌⊎◌, ◌==◌, bytes_eq, is_some, slice_set}
use Rattle.std.specs.Cmp.Lexicographic.{slice_cmp}
use Rattle.std.specs.FinMap as finite
use Rattle.std.specs.Ordering.{nat_cmp}
use Rattle.std.proofs.lemmas.Bool.{eqb-true, eqb-false}
use Rattle.std.proofs.lemmas.List.{get_or_at, take-append-drop}
use Rattle.std.proofs.lemmas.List.Elements.{All-head, All-tail}
use Rattle.std.proofs.lemmas.Option.{same_Some}
use Rattle.trac_rules.specs.declared.item.Item.{Item}
use Rattle.trac_rules.specs.Blocks.{block_at, forms_in, moved_out, with_all}
use Rattle.trac_rules.specs.Form.{Form, all_items, pointed_at}
use Rattle.trac_rules.specs.Handling.{without}
use Rattle.trac_rules.specs.State.{Block, Forms, Held}
use Rattle.trac_rules.proofs.Found.{put_get}
use Rattle.trac_rules.proofs.NamedForms.{found_of_put, found_of_taken}
use Rattle.trac_rules.proofs.ProperBlocks.{WasAmong, moved_out_among}
use Rattle.trac_origins.specs.Places.{Origin, held_form}
use Rattle.trac_origins.specs.Performing.{put_under}
use Rattle.trac_origins.proofs.Zips.{Zip}

-- ---- forms that are left

found_without : (names : List (List ℕ)) (forms : Forms) (q : List ℕ) (form : Form) → finite.get (without names forms) q ≡ Some form → finite.get forms q ≡ Some form
found_without [] forms q form e = e
found_without (name ∷ names) forms q form e = found_of_taken forms name q form (found_without names (finite.remove forms name) q form e)

-- what is found after entries of some forms were put is theirs
found_of_entries : (forms base : Forms) (held : Held) → All (WasAmong forms) held → ((q : List ℕ) (form : Form) → finite.get base q ≡ Some form → finite.get forms q ≡ Some form) →
    (q : List ℕ) (form : Form) → finite.get (with_all held base) q ≡ Some form → finite.get forms q ≡ Some form
found_of_entries forms base [] all was q form e = was q form e
found_of_entries forms base (entry ∷ held) all was q form e =
    found_of_entries forms (finite.insert base entry.0 entry.1) held (All-tail (WasAmong forms) entry held all)
    (λ r found there. ⊎_elim
    (λ (same : (r ≡ entry.0) × (found ≡ entry.1)). ap (finite.get forms) same.0 ∙ All-head (WasAmong forms) entry held all ∙ ap Some (sym same.1))
    (λ (before : finite.get base r ≡ Some found). was r found before)
    (found_of_put base entry.0 r entry.1 found there))
    q form e

pub none_found : (q : List ℕ) (form : Form) → finite.get {R = slice_cmp nat_cmp} finite.empty q ≡ Some form → ⊥
none_found q form e = let none : None ≡ Some form = sym (finite.get-empty (slice_cmp nat_cmp) q) ∙ e in cc

-- a form that a new block holds stood under its name
pub held_of_moved : (names : List (List ℕ)) (forms : Forms) (q : List ℕ) (form : Form) → held_form q (Some (moved_out names forms)) ≡ Some form → finite.get forms q ≡ Some form
held_of_moved names forms =
    found_of_entries forms finite.empty (moved_out names forms) (moved_out_among names forms) (λ q form e. absurd (none_found q form e))

-- ---- forms that are copied

-- the first of two, where it is there, else the second
abbrev or_else : Option Form → Option Form → Option Form
or_else None second = second
or_else (Some form) second = Some form

either : (b : Bool) (form : Form) (first second : Option Form) → cond b (Some form) (or_else first second) ≡ or_else (cond b (Some form) first) second
either true form first second = refl
either false form first second = refl

-- entries that are put among forms, and among others before them
copied : (held : Held) (m n forms : Forms) (q : List ℕ) → finite.get n q ≡ or_else (finite.get m q) (finite.get forms q) →
    finite.get (with_all held n) q ≡ or_else (finite.get (with_all held m) q) (finite.get forms q)
copied [] m n forms q e = e
copied (entry ∷ held) m n forms q e =
    copied held (finite.insert m entry.0 entry.1) (finite.insert n entry.0 entry.1) forms q
    (put_get n entry.0 q entry.1
    ∙ ap (λ found. cond (bytes_eq q entry.0) (Some entry.1) found) e
    ∙ either (bytes_eq q entry.0) entry.1 (finite.get m q) (finite.get forms q)
    ∙ ap (λ found. or_else found (finite.get forms q)) (sym (put_get m entry.0 q entry.1)))

pub found_of_copies : (block : Block) (forms : Forms) (q : List ℕ) → finite.get (with_all (forms_in block) forms) q ≡ or_else (held_form q block) (finite.get forms q)
found_of_copies block forms q =
    copied (forms_in block) finite.empty forms forms q (ap (λ found. or_else found (finite.get forms q)) (sym (finite.get-empty (slice_cmp nat_cmp) q)))

-- ---- blocks

block_of_more : (blocks : List Block) (block : Block) (k : ℕ) → (k ≡ length blocks → ⊥) → block_at k (blocks ++ block ∷ []) ≡ block_at k blocks
block_of_more [] block zero other = absurd (other refl)
block_of_more [] block (suc k) other = refl
block_of_more (b ∷ blocks) block zero other = refl
block_of_more (b ∷ blocks) block (suc k) other = block_of_more blocks block k (λ e. other (ap suc e))

-- an erased one is none, and the others are as before
erased_or_same : (blocks : List Block) (number k : ℕ) → (block_at k (slice_set blocks number None) ≡ None) ⊎ (block_at k (slice_set blocks number None) ≡ block_at k blocks)
erased_or_same [] number k = inr refl
erased_or_same (b ∷ blocks) zero zero = inl refl
erased_or_same (b ∷ blocks) zero (suc k) = inr refl
erased_or_same (b ∷ blocks) (suc number) zero = inr refl
erased_or_same (b ∷ blocks) (suc number) (suc k) = erased_or_same blocks number k

-- so what a block holds after one was erased it held before
pub held_of_erased : (blocks : List Block) (number k : ℕ) (q : List ℕ) (form : Form) → held_form q (block_at k (slice_set blocks number None)) ≡ Some form → held_form q (block_at k blocks) ≡ Some form
held_of_erased blocks number k q form e =
    ⊎_elim
    (λ (none : block_at k (slice_set blocks number None) ≡ None). absurd (none_found q form (sym (ap (held_form q) none) ∙ e)))
    (λ (same : block_at k (slice_set blocks number None) ≡ block_at k blocks). sym (ap (held_form q) same) ∙ e)
    (erased_or_same blocks number k)

-- ---- with origins beside them

module _ (R : Origin → Item → Type 0) where
  -- each form
  abbrev pub FormsBeside : (List ℕ → List Origin) → Forms → Type 0
  FormsBeside from forms = (name : List ℕ) (form : Form) → finite.get forms name ≡ Some form → Zip R (from name) (all_items form)

  -- each form that a block holds
  abbrev pub BlocksBeside : (ℕ → List ℕ → List Origin) → List Block → Type 0
  BlocksBeside from blocks = (number : ℕ) (name : List ℕ) (form : Form) → held_form name (block_at number blocks) ≡ Some form → Zip R (from number name) (all_items form)

  -- a form that is put
  pub put_beside : (name : List ℕ) (items : List Origin) (form : Form) (from : List ℕ → List Origin) (forms : Forms) → Zip R items (all_items form) → FormsBeside from forms →
      FormsBeside (put_under name items from) (finite.insert forms name form)
  put_beside name items form from forms z h q found e = go (bytes_eq q name) (sym (put_get forms name q form) ∙ e)
    where
      go : (b : Bool) → cond b (Some form) (finite.get forms q) ≡ Some found → Zip R (cond b items (from q)) (all_items found)
      go true e = subst (λ (f : Form). Zip R items (all_items f)) (same_Some form found e) z
      go false e = h q found e

  -- a pointer that is set
  pub pointed_beside : (name : List ℕ) (place : ℕ) (form : Form) (from : List ℕ → List Origin) (forms : Forms) → finite.get forms name ≡ Some form → FormsBeside from forms →
      FormsBeside from (finite.insert forms name (pointed_at place (all_items form)))
  pointed_beside name place form from forms there h q found e =
      ⊎_elim
      (λ (same : (q ≡ name) × (found ≡ pointed_at place (all_items form))).
      let items : all_items form ≡ all_items found = sym (take-append-drop place (all_items form)) ∙ ap all_items (sym same.1) in
      subst (λ (n : List ℕ). Zip R (from n) (all_items found)) (sym same.0)
      (subst (λ (is : List Item). Zip R (from name) is) items (h name form there)))
      (λ (was : finite.get forms q ≡ Some found). h q found was)
      (found_of_put forms name q (pointed_at place (all_items form)) found e)

  pub without_beside : (names : List (List ℕ)) (from : List ℕ → List Origin) (forms : Forms) → FormsBeside from forms → FormsBeside from (without names forms)
  without_beside names from forms h q form e = h q form (found_without names forms q form e)

  pub taken_beside : (name : List ℕ) (from : List ℕ → List Origin) (forms : Forms) → FormsBeside from forms → FormsBeside from (finite.remove forms name)
  taken_beside name from forms h q form e = h q form (found_of_taken forms name q form e)

  pub none_beside : (from : List ℕ → List Origin) → FormsBeside from finite.empty
  none_beside from q form e = absurd (none_found q form e)

  -- copies of a block's forms
  pub copied_beside : (block : Block) (held from : List ℕ → List Origin) (forms : Forms) → ((q : List ℕ) (form : Form) → held_form q block ≡ Some form → Zip R (held q) (all_items form)) →
      FormsBeside from forms → FormsBeside (λ q. cond (is_some (held_form q block)) (held q) (from q)) (with_all (forms_in block) forms)
  copied_beside block held from forms holds h q found e = go (held_form q block) refl (sym (found_of_copies block forms q) ∙ e)
    where
      go : (o : Option Form) → held_form q block ≡ o → or_else o (finite.get forms q) ≡ Some found → Zip R (cond (is_some o) (held q) (from q)) (all_items found)
      go None is e = h q found e
      go (Some form) is e = holds q found (is ∙ e)

  -- a new block
  pub stored_beside : (names : List (List ℕ)) (from : List ℕ → List Origin) (blocks_from : ℕ → List ℕ → List Origin) (forms : Forms) (blocks : List Block) → FormsBeside from forms →
      BlocksBeside blocks_from blocks → BlocksBeside (λ k. cond (k == length blocks) from (blocks_from k)) (blocks ++ Some (moved_out names forms) ∷ [])
  stored_beside names from blocks_from forms blocks h holds k q form e = go (k == length blocks) refl
    where
      new : Block
      new = Some (moved_out names forms)

      go : (b : Bool) → (k == length blocks) ≡ b → Zip R ((cond b from (blocks_from k)) q) (all_items form)
      go true t =
          let last : block_at k (blocks ++ new ∷ []) ≡ new = get_or_at blocks new [] None k (sym (eqb-true k (length blocks) t)) in
          h q form (held_of_moved names forms q form (sym (ap (held_form q) last) ∙ e))
      go false t = holds k q form (sym (ap (held_form q) (block_of_more blocks new k (eqb-false k (length blocks) t))) ∙ e)

  pub erased_beside : (number : ℕ) (blocks_from : ℕ → List ℕ → List Origin) (blocks : List Block) → BlocksBeside blocks_from blocks → BlocksBeside blocks_from (slice_set blocks number None)
  erased_beside number blocks_from blocks holds k q form e = holds k q form (held_of_erased blocks number k q form e)
