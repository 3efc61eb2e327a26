-- Whether a form may be put among others.
use Rattle.std.proofs.Common.{◌≡◌, ℕ, suc, ◌+◌, ◌<◌, ◌≤◌, Bool, true, false, List, length, refl, sym, ap, ◌∙◌, arith}
use Rattle.std.specs.Prelude.{Option, None, Some, Err, ◌&&◌, nat_le, nat_lt, is_some, cond, Ok, if◌then◌else◌}
use Rattle.std.specs.Borrow.{Bor}
use Rattle.std.specs.Cmp.Lexicographic.{nat_list_cmp_total}
use Rattle.std.specs.FinMap as map
use Rattle.std.specs.Option.{option_copied}
use Rattle.std.proofs.lemmas.Bool.{le-leb, lt-leb, ltb-true, and_left, and_right}
use Rattle.std.proofs.lemmas.List.{length-map}
use Rattle.trac_rules.specs.declared.item.Item.TheVariants.{Byte}
use Rattle.trac_rules.specs.declared.limit.TheConstants.{FORM_LIMIT, FORM_COUNT_LIMIT, NAME_LIMIT}
use Rattle.trac_rules.specs.declared.refusal.Refusal.TheVariants.{TooLong}
use Rattle.trac_rules.specs.Form.{Form, all_items, defined, extent}
use Rattle.trac_rules.specs.Effect.{leaves}
use Rattle.trac_rules.specs.Handling.{keeping, putting}
use Rattle.trac_rules.specs.Outcomes.{MayLackMemory}
use Rattle.trac_rules.specs.Limits.{form_fits, may_be_put}
use Rattle.trac_rules.specs.Segmenting.{segmented}
use Rattle.trac_rules.specs.State.{Forms, Storage}
use Rattle.trac_rules.proofs.Cutting.{count_within_extent, extent-segmented, wide-segmented_from}
use Rattle.trac_forms.specs.Layout.{IsSound}

-- what a reference is made of is there where the reference is
pub there_behind : {X : Type 0} (found : Option (Bor X)) (held : Option X) → option_copied found ≡ held → is_some found ≡ is_some held
there_behind None held e = ap is_some e
there_behind (Some x) held e = ap is_some e

-- a name that is too long
pub not_under_long : (name : List ℕ) (form : Form) (forms : Forms) → NAME_LIMIT < length name → false ≡ may_be_put name form forms
unfolding may_be_put
not_under_long name form forms l =
    let fitting : form_fits name form ≡ false =
    and_left (nat_le (length name) NAME_LIMIT && nat_le (length (all_items form)) FORM_LIMIT) (nat_le (extent (all_items form)) FORM_LIMIT)
    (and_left (nat_le (length name) NAME_LIMIT) (nat_le (length (all_items form)) FORM_LIMIT) (lt-leb (length name) NAME_LIMIT l)) in
    sym (and_left (form_fits name form) (nat_le (map.len (map.insert forms name form)) FORM_COUNT_LIMIT) fitting)

-- a form of the code under a name that is not: the number of forms alone decides
module _ (name : List ℕ) (form : Form) (forms : Forms) (count : ℕ) (named : length name ≤ NAME_LIMIT) (sound : IsSound form) (is : count ≡ map.len forms) where
  fits : form_fits name form ≡ true
  fits =
      ap (λ b. b && nat_le (length (all_items form)) FORM_LIMIT && nat_le (extent (all_items form)) FORM_LIMIT) (le-leb (length name) NAME_LIMIT named)
      ∙ ap (λ b. b && nat_le (extent (all_items form)) FORM_LIMIT) (le-leb (length (all_items form)) FORM_LIMIT (omega (arith, sound.within, count_within_extent (all_items form) sound.wide)))
      ∙ le-leb (extent (all_items form)) FORM_LIMIT sound.within

  by_count : (there : Bool) → is_some (map.get forms name) ≡ there → nat_le (cond there count (count + 1)) FORM_COUNT_LIMIT ≡ may_be_put name form forms
  unfolding may_be_put
  by_count there e =
      ap (λ n. nat_le n FORM_COUNT_LIMIT) (ap (λ b. cond b count (count + 1)) (sym e) ∙ ap (λ n. cond (is_some (map.get forms name)) n (n + 1)) is ∙ sym (map.len-insert nat_list_cmp_total forms name form))
      ∙ ap (λ b. b && nat_le (map.len (map.insert forms name form)) FORM_COUNT_LIMIT) (sym fits)

  -- in place of an earlier form
  pub put_again : is_some (map.get forms name) ≡ true → nat_le count FORM_COUNT_LIMIT ≡ may_be_put name form forms
  put_again e = by_count true e

  -- as a further form
  pub put_new : is_some (map.get forms name) ≡ false → nat_lt count FORM_COUNT_LIMIT ≡ may_be_put name form forms
  put_new e =
      let one_more : suc count ≡ count + 1 = omega arith in
      ap (λ n. nat_le n FORM_COUNT_LIMIT) one_more ∙ by_count false e

  -- either way, where there is a place for a further form
  pub put_any : nat_lt count FORM_COUNT_LIMIT ≡ true → true ≡ may_be_put name form forms
  put_any few = either (is_some (map.get forms name)) refl
    where
      either : (there : Bool) → is_some (map.get forms name) ≡ there → true ≡ may_be_put name form forms
      either true e = sym (le-leb count FORM_COUNT_LIMIT (omega (arith, ltb-true count FORM_COUNT_LIMIT few))) ∙ put_again e
      either false e = sym few ∙ put_new e

-- ---- forms as the code has them

-- one of which texts are cut out is one still
pub sound_segmented : (texts : List (List ℕ)) (form : Form) → IsSound form → IsSound (segmented texts form)
sound_segmented texts form sound = record {
  within = omega (arith, sound.within, extent-segmented texts form);
  wide = wide-segmented_from 1 texts (all_items form) sound.wide;
}

-- a text that is too long for a form
pub long_text : (name text : List ℕ) (forms : Forms) → FORM_LIMIT < length text → may_be_put name (defined text) forms ≡ false
unfolding may_be_put
long_text name text forms l =
    let items : length (all_items (defined text)) ≡ length text = length-map text Byte in
    let over : nat_le (length (all_items (defined text))) FORM_LIMIT ≡ false = lt-leb (length (all_items (defined text))) FORM_LIMIT (omega (arith, l, items)) in
    let fitting : form_fits name (defined text) ≡ false =
    and_left (nat_le (length name) NAME_LIMIT && nat_le (length (all_items (defined text))) FORM_LIMIT) (nat_le (extent (all_items (defined text))) FORM_LIMIT)
    (and_right (nat_le (length name) NAME_LIMIT) (nat_le (length (all_items (defined text))) FORM_LIMIT) over) in
    and_left (form_fits name (defined text)) (nat_le (map.len (map.insert forms name (defined text))) FORM_COUNT_LIMIT) fitting

-- what may not be put is refused
pub not_put : (name : List ℕ) (form : Form) (storage : Storage) → may_be_put name form storage.forms ≡ false → putting name form storage ≡ Err TooLong
not_put name form storage e =
    ap (λ b. if b then Ok (leaves (keeping (map.insert storage.forms name form) storage)) else Err TooLong) e

-- and what may be put is put
pub is_put : (name : List ℕ) (form : Form) (storage : Storage) → may_be_put name form storage.forms ≡ true →
    putting name form storage ≡ Ok (leaves (keeping (map.insert storage.forms name form) storage))
is_put name form storage e =
    ap (λ b. if b then Ok (leaves (keeping (map.insert storage.forms name form) storage)) else Err TooLong) e

-- memory may be refused in place of both
pub putting_lacks : (name : List ℕ) (form : Form) (storage : Storage) → MayLackMemory (putting name form storage)
putting_lacks name form storage = lacks (may_be_put name form storage.forms)
  where
    lacks : (b : Bool) → MayLackMemory (if b then Ok (leaves (keeping (map.insert storage.forms name form) storage)) else Err TooLong)
    lacks true = tt
    lacks false = tt
