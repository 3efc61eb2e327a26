-- Forms and blocks that are put back: the names of the forms are known, and the order in which they come does not matter.
use Rattle.std.proofs.Common.{◌≡◌, ℕ, zero, suc, ◌-◌, Bool, true, false, cond, List, [], ◌∷◌, ◌++◌, length, take, refl, sym, ap, subst, ◌∙◌, is_some, IsTrue}
use Rattle.std.specs.Prelude.{Option, Some, None, ◌&&◌, IfSome, bytes_eq, nat_le, nat_lt, not, slice_get, slice_set, option_and_then, unwrap_or}
use Rattle.std.specs.Bool.{then_some}
use Rattle.std.specs.FinMap as finite
use Rattle.std.specs.FinSet as set
use Rattle.std.specs.Cmp.Lexicographic.{slice_cmp, nat_list_cmp_total, nat_list_eq_equiv}
use Rattle.std.specs.Ordering.{nat_cmp, eq_by_cmp}
use Rattle.std.specs.List.{AllByRecursion, IsDistinct}
use Rattle.std.proofs.lemmas.Bool.{and_parts, ltb-true}
use Rattle.std.proofs.lemmas.Option.{slice_get-get_or}
use Rattle.trac_rules.specs.Blocks.{block_at, with_all}
use Rattle.trac_rules.specs.declared.item.CutGap.{CutGap}
use Rattle.trac_rules.specs.declared.item.Item.{Item}
use Rattle.trac_rules.specs.Cuts.{joined}
use Rattle.trac_rules.specs.Form.{Form, all_items, pointed_at}
use Rattle.trac_rules.specs.Handling.{keeping, pointing, without}
use Rattle.trac_rules.specs.State.{Block, Forms, Held, Storage}
use Rattle.trac_rules.specs.Undone.{are_free, are_there, is_erased, joined_back, last_block, moved_out_again, names_in, pointed_back, pointer_back, swapped_back, unbrought}
use Rattle.trac_rules.proofs.NamedForms.{get-put, one_name, only_equal_tie}
use Rattle.trac_forms.specs.Stored.{AreApart, KnowsAll, Names, Stored, changing, storage_in, unsegmented}
use Rattle.trac_change.specs.Changed.{pointed}
use Rattle.trac_storage.specs.Changing.{KnowsNamed}
use Rattle.trac_storage.specs.Returning.{KnowsBefore}

-- ---- known names

-- the name of a form that is put is known, where all names are known then
pub knows_put : (known : Names) (forms : Forms) (name : List ℕ) (form : Form) → KnowsAll known (finite.insert forms name form) → IsTrue (set.contains known name)
knows_put known forms name form knows = knows name (ap is_some (get-put forms name form))

-- a name that has a form has one when another is put
has_still : (forms : Forms) (name q : List ℕ) (form : Form) → is_some (finite.get forms q) ≡ true → is_some (finite.get (finite.insert forms name form) q) ≡ true
has_still forms name q form has = ap is_some (finite.get-insert nat_list_cmp_total forms name form q) ∙ either (eq_by_cmp (slice_cmp nat_cmp) q name)
  where
    either : (b : Bool) → is_some (cond b (Some form) (finite.get forms q)) ≡ true
    either true = refl
    either false = has

-- the names of forms are known, where they are known with one more
knows_less : (known : Names) (forms : Forms) (name : List ℕ) (form : Form) → KnowsAll known (finite.insert forms name form) → KnowsAll known forms
knows_less known forms name form knows = λ q has. knows q (has_still forms name q form has)

-- and with all of these
pub knows_fewer : (held : Held) (known : Names) (forms : Forms) → KnowsAll known (with_all held forms) → KnowsAll known forms
knows_fewer [] known forms knows = knows
knows_fewer (entry ∷ held) known forms knows = knows_less known forms entry.0 entry.1 (knows_fewer held known (finite.insert forms entry.0 entry.1) knows)

-- so each of these has a known name
pub knows_each : (held : Held) (known : Names) (forms : Forms) → KnowsAll known (with_all held forms) → KnowsNamed held known
knows_each [] known forms knows = tt
knows_each (entry ∷ held) known forms knows =
    (knows_put known forms entry.0 entry.1 (knows_fewer held known (finite.insert forms entry.0 entry.1) knows), knows_each held known (finite.insert forms entry.0 entry.1) knows)

-- ---- the order in which forms are put

-- what is found where two forms of different names are put
swapped : {X : Type 0} (a b : Bool) (x y o : X) → (a ≡ true → b ≡ true → ⊥) → cond a x (cond b y o) ≡ cond b y (cond a x o)
swapped true true x y o apart = absurd (apart refl refl)
swapped true false x y o apart = refl
swapped false b x y o apart = refl

-- two forms of different names may be put in either order
insert-insert : (forms : Forms) (name other : List ℕ) (form second : Form) → bytes_eq other name ≡ false →
    finite.insert (finite.insert forms name form) other second ≡ finite.insert (finite.insert forms other second) name form
insert-insert forms name other form second apart =
    finite.same_map nat_list_cmp_total only_equal_tie (finite.insert (finite.insert forms name form) other second) (finite.insert (finite.insert forms other second) name form) (λ q.
    finite.get-insert nat_list_cmp_total (finite.insert forms name form) other second q
    ∙ ap (cond (eq_by_cmp (slice_cmp nat_cmp) q other) (Some second)) (finite.get-insert nat_list_cmp_total forms name form q)
    ∙ swapped (eq_by_cmp (slice_cmp nat_cmp) q other) (eq_by_cmp (slice_cmp nat_cmp) q name) (Some second) (Some form) (finite.get forms q) (λ t u.
    let same : other ≡ name = sym (one_name q other t) ∙ one_name q name u in
    let unset : false ≡ true = sym apart ∙ ap (λ (n : List ℕ). bytes_eq other n) (sym same) ∙ nat_list_eq_equiv.refl other in
    absurd (cc))
    ∙ ap (cond (eq_by_cmp (slice_cmp nat_cmp) q name) (Some form)) (sym (finite.get-insert nat_list_cmp_total forms other second q))
    ∙ sym (finite.get-insert nat_list_cmp_total (finite.insert forms other second) name form q))

-- so a form of a further name may be put before all others
pub put_before_all : (held : Held) (forms : Forms) (name : List ℕ) (form : Form) → AreApart (held ++ (name, form) ∷ []) →
    with_all held (finite.insert forms name form) ≡ with_all (held ++ (name, form) ∷ []) forms
unfolding IsDistinct
put_before_all [] forms name form apart = refl
put_before_all (entry ∷ held) forms name form apart =
    ap (with_all held) (insert-insert forms name entry.0 form entry.1 (last_of held entry.0 name form apart.0))
    ∙ put_before_all held (finite.insert forms entry.0 entry.1) name form apart.1
  where
    last_of : (others : Held) (first last : List ℕ) (f : Form) → AllByRecursion (λ n. bytes_eq first n ≡ false) (names_in (others ++ (last, f) ∷ [])) → bytes_eq first last ≡ false
    last_of [] first last f all = all.0
    last_of (other ∷ others) first last f all = last_of others first last f all.1

-- its name is known, and so are those of the others
pub knows_last : (fewer : Held) (known : Names) (entry : List ℕ × Form) → KnowsNamed (fewer ++ entry ∷ []) known → KnowsNamed fewer known × IsTrue (set.contains known entry.0)
knows_last [] known entry knows = (tt, knows.0)
knows_last (first ∷ fewer) known entry knows =
    let rest = knows_last fewer known entry knows.1 in
    ((knows.0, rest.0), rest.1)

-- ---- erased blocks

-- a test holds where there is something after it whose names are known
pub tested : (b : Bool) (known : Names) (storage : Storage) → KnowsBefore known (then_some b storage) →
    (b ≡ true) × KnowsAll known storage.forms × (then_some b storage ≡ Some storage)
tested true known storage knows = (refl, knows, refl)
tested false known storage knows = absurd knows

-- a pointer that is got back is set
pub pointed_again : (known : Names) (name : List ℕ) (place : ℕ) (storage : Storage) (found : Option Form) → KnowsBefore known (pointer_back name place found storage) →
    pointer_back name place found storage ≡ Some (pointed name place found storage)
pointed_again known name place storage None knows = absurd knows
pointed_again known name place storage (Some form) knows = (tested (nat_le place (length (all_items form))) known (pointing name place form storage) knows).2

pub erased_there : (number : ℕ) (blocks : List Block) → is_erased number blocks ≡ true → slice_get blocks number ≡ Some None
erased_there number blocks is =
    let parts = and_parts (nat_lt number (length blocks)) (not (is_some (block_at number blocks))) is in
    slice_get-get_or blocks number None (ltb-true number (length blocks) parts.0) ∙ ap Some (none_there (block_at number blocks) parts.1)
  where
    none_there : (block : Block) → not (is_some block) ≡ true → block ≡ None
    none_there None e = refl
    none_there (Some held) e = absurd (let unset : false ≡ true = e in cc)

-- ---- blocks whose forms come back

-- what there was where the last block held these forms, which go back; the block's name is an argument of the call
pub record IsMovedOut (known : Names) (first name : List ℕ) (names : List (List ℕ)) (old : Option Form) (storage : Storage) (held : Held) : Type 0 where
  pub state : moved_out_again first names old storage ≡ Some (record { forms = with_all held (swapped_back name old storage.forms); blocks = take (length storage.blocks - 1) storage.blocks })
  pub knows : KnowsAll known (with_all held (swapped_back name old storage.forms))

module _ (known : Names) {first name : List ℕ} (named : name ≡ first) (names : List (List ℕ)) (old : Option Form) (storage : Storage) where
  abbrev moves : Held → Bool
  moves held =
      is_some (finite.get storage.forms name)
      && (are_free names (swapped_back name old storage.forms) && are_free (names_in held) (swapped_back name old storage.forms))

  abbrev before : Held → Storage
  before held = record { forms = with_all held (swapped_back name old storage.forms); blocks = take (length storage.blocks - 1) storage.blocks }

  abbrev moved : Held → Option Storage
  moved held = then_some (moves held) (before held)

  knows_named : KnowsBefore known (moved_out_again first names old storage) → KnowsBefore known (moved_out_again name names old storage)
  knows_named knows = subst (λ (n : List ℕ). KnowsBefore known (moved_out_again n names old storage)) (sym named) knows

  pub is_moved_out : (held : Held) → last_block storage.blocks ≡ Some held → KnowsBefore known (moved_out_again first names old storage) →
      IsMovedOut known first name names old storage held
  is_moved_out held last knows =
      let at = tested (moves held) known (before held) (subst (λ (block : Block). KnowsBefore known (option_and_then moved block)) last (knows_named knows)) in
      record { state = ap (λ (n : List ℕ). moved_out_again n names old storage) (sym named) ∙ ap (option_and_then moved) last ∙ at.2; knows = at.1 }

  pub never_none : last_block storage.blocks ≡ None → KnowsBefore known (moved_out_again first names old storage) → ⊥
  never_none last knows = subst (λ (block : Block). KnowsBefore known (option_and_then moved block)) last (knows_named knows)

-- what there was where the block of a number holds these forms, of which copies were put among the forms
pub record IsUnbrought (known : Names) (number : ℕ) (replaced : Held) (storage : Storage) (held : Held) : Type 0 where
  pub state : unbrought number replaced storage ≡ Some (keeping (with_all replaced (without (names_in held) storage.forms)) storage)
  pub knows : KnowsAll known (with_all replaced (without (names_in held) storage.forms))

module _ (known : Names) (number : ℕ) (replaced : Held) (storage : Storage) where
  abbrev brings : Held → Bool
  brings held =
      are_there (names_in held) storage.forms
      && (are_there (names_in replaced) storage.forms && are_free (names_in replaced) (without (names_in held) storage.forms))

  abbrev without_copies : Held → Storage
  without_copies held = keeping (with_all replaced (without (names_in held) storage.forms)) storage

  abbrev brought : Held → Option Storage
  brought held = then_some (brings held) (without_copies held)

  pub is_unbrought : (held : Held) → block_at number storage.blocks ≡ Some held → KnowsBefore known (unbrought number replaced storage) →
      IsUnbrought known number replaced storage held
  is_unbrought held there knows =
      let at = tested (brings held) known (without_copies held) (subst (λ (block : Block). KnowsBefore known (option_and_then brought block)) there knows) in
      record { state = ap (option_and_then brought) there ∙ at.2; knows = at.1 }

  pub never_erased : block_at number storage.blocks ≡ None → KnowsBefore known (unbrought number replaced storage) → ⊥
  never_erased none knows = subst (λ (block : Block). KnowsBefore known (option_and_then brought block)) none knows

-- a block that is taken away leaves an erased one, in whose place it can be put again
pub set_again : (blocks : List Block) (number : ℕ) (held : Held) → block_at number blocks ≡ Some held →
    (slice_get (slice_set blocks number None) number ≡ Some None) × (slice_set (slice_set blocks number None) number (Some held) ≡ blocks)
set_again [] number held there = absurd (cc)
set_again (block ∷ blocks) zero held there = (refl, ap (λ (b : Block). b ∷ blocks) (sym there))
set_again (block ∷ blocks) (suc number) held there =
    let rest = set_again blocks number held there in
    (rest.0, ap (λ (bs : List Block). block ∷ bs) rest.1)

-- ---- gaps that are filled again

module _ (texts : List (List ℕ)) (cut : List CutGap) (name : List ℕ) (place : ℕ) (store : Stored) where
  abbrev back : Option (List Item) → Option Storage
  back o = option_and_then (λ items. pointed_back name place items (storage_in store)) o

  -- they can be filled in the form that is there
  pub can_join : (found : Option Form) → KnowsBefore store.known (joined_back texts cut name place found (storage_in store)) → IfSome found (λ form. IsTrue (is_some (joined texts cut (all_items form))))
  can_join None knows = absurd knows
  can_join (Some form) knows = by_items (joined texts cut (all_items form)) knows
    where
      by_items : (o : Option (List Item)) → KnowsBefore store.known (back o) → IsTrue (is_some o)
      by_items None knows = absurd knows
      by_items (Some items) knows = refl

  -- and then the form before is there
  pub joins_again : (found : Option Form) → KnowsBefore store.known (joined_back texts cut name place found (storage_in store)) →
      joined_back texts cut name place found (storage_in store) ≡ Some (storage_in (record store { forms = changing name (λ form. unsegmented texts cut place form) found store.forms }))
  joins_again None knows = absurd knows
  joins_again (Some form) knows = by_items (joined texts cut (all_items form)) knows
    where
      by_items : (o : Option (List Item)) → KnowsBefore store.known (back o) → back o ≡ Some (storage_in (record store { forms = finite.insert store.forms name (pointed_at place (unwrap_or o [])) }))
      by_items None knows = absurd knows
      by_items (Some items) knows = (tested (nat_le place (length items)) store.known (keeping (finite.insert store.forms name (pointed_at place items)) (storage_in store)) knows).2
