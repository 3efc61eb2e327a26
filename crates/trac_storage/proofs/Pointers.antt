-- A form that is changed where it stands, as a storage sees it.
use Rattle.std.proofs.Common.{◌≡◌, ℕ, List, refl, ap, ◌∙◌}
use Rattle.std.specs.FinMap as finite
use Rattle.std.specs.Prelude.{Option, Some, None}
use Rattle.trac_rules.specs.Form.{Form, all_items, pointed_at}
use Rattle.trac_rules.specs.Segmenting.{segmented}
use Rattle.trac_forms.specs.Stored.{Stored, changed_at, changing, storage_in}
use Rattle.trac_change.specs.Changed.{cut_in, pointed}

-- its pointer is set
pub pointed_there : (store after : Stored) (name : List ℕ) (place : ℕ) → after ≡ record store { forms = changed_at name (λ form. pointed_at place (all_items form)) store.forms } →
    storage_in after ≡ pointed name place (finite.get store.forms name) (storage_in store)
pointed_there store after name place is = ap storage_in is ∙ by_form (finite.get store.forms name)
  where
    by_form : (o : Option Form) → storage_in (record store { forms = changing name (λ form. pointed_at place (all_items form)) o store.forms }) ≡ pointed name place o (storage_in store)
    by_form None = refl
    by_form (Some form) = refl

-- texts are cut out of it
pub cut_there : (store after : Stored) (name : List ℕ) (given texts : List (List ℕ)) → after ≡ record store { forms = changed_at name (λ form. segmented given form) store.forms } → given ≡ texts →
    storage_in after ≡ cut_in name texts (finite.get store.forms name) (storage_in store)
cut_there store after name given texts is are =
    ap storage_in is ∙ by_form (finite.get store.forms name) ∙ ap (λ (ts : List (List ℕ)). cut_in name ts (finite.get store.forms name) (storage_in store)) are
  where
    by_form : (o : Option Form) → storage_in (record store { forms = changing name (λ form. segmented given form) o store.forms }) ≡ cut_in name given o (storage_in store)
    by_form None = refl
    by_form (Some form) = refl
