-- Forms and blocks that are put into a store one after another.
use Rattle.std.proofs.Common.{◌≡◌, ℕ, ◌+◌, ◌-◌, ◌<◌, ◌≤◌, ◌&&◌, Bool, true, false, List, [], ◌∷◌, ◌++◌, length, take, get_or, map, refl, sym, ap, subst, ◌∙◌}
use Rattle.std.specs.Prelude.{Option, None, Ok, Vec, slice_set}
use Rattle.std.specs.List.{list_all}
use Rattle.std.specs.FinMap as finite
use Rattle.std.proofs.lemmas.Bool.{le-leb}
use Rattle.std.proofs.lemmas.List.{append_assoc}
use Rattle.std.proofs.lemmas.List.Folds.{list_all-map}
use Rattle.trac_rules.specs.Form.{Form}
use Rattle.trac_rules.specs.declared.limit.TheConstants.{FORM_COUNT_LIMIT}
use Rattle.trac_rules.specs.State.{Block, Storage, storage_of}
use Rattle.trac_rules.specs.Outcomes.{limited}
use Rattle.trac_rules.proofs.Outcomes.{limited_Ok}
use Rattle.trac_forms.specs.Stored.{Stored, storage_in}
use Rattle.trac_change.specs.Changed.{named_forms}
use Rattle.trac_storage.specs.declared.parts.Parts as code
use Rattle.trac_storage.specs.Loading.{block_few, block_of, counts_fit, forms_few, forms_of, state_in}
use Rattle.trac_storage.proofs.Entries.{all_next, one_fails, over}
use Rattle.trac_text.proofs.Framed.{map_next}

-- ---- blocks

-- the last block is erased
pub erased_last : (blocks : List Block) (block : Block) → slice_set (blocks ++ block ∷ []) (length blocks) None ≡ blocks ++ None ∷ []
erased_last [] block = refl
erased_last (b ∷ blocks) block = ap (λ (bs : List Block). b ∷ bs) (erased_last blocks block)

-- one more block after others
pub pushed_next : (first old new : Stored) (blocks : List Block) (block : Block) → storage_in old ≡ record (storage_in first) { blocks = first.blocks ++ blocks } →
    storage_in new ≡ record (storage_in old) { blocks = old.blocks ++ block ∷ [] } → storage_in new ≡ record (storage_in first) { blocks = first.blocks ++ (blocks ++ block ∷ []) }
pushed_next first old new blocks block so_far is =
    is
    ∙ ap (λ (s : Storage). let t : Storage = record s { blocks = s.blocks ++ block ∷ [] } in t) so_far
    ∙ ap (λ (bs : List Block). let t : Storage = record (storage_in first) { blocks = bs } in t) (append_assoc first.blocks blocks (block ∷ []))

module _ {A : Type 0} (blocks : List (Option (Vec (Vec ℕ A × Form) A))) (i : ℕ) (forms : Option (Vec (Vec ℕ A × Form) A)) (within : i < length blocks) (is_at : forms ≡ get_or blocks i forms) where
  -- one that has too many forms
  pub block_fails : block_few (block_of forms) ≡ false → list_all block_few (map block_of blocks) ≡ false
  block_fails fails = list_all-map block_few block_of blocks ∙ one_fails (λ b. block_few (block_of b)) blocks i forms within is_at fails

  -- one that has not
  pub block_next : block_few (block_of forms) ≡ true → list_all block_few (map block_of (take i blocks)) ≡ true → list_all block_few (map block_of (take (i + 1) blocks)) ≡ true
  block_next passes so_far =
      list_all-map block_few block_of (take (i + 1) blocks)
      ∙ all_next (λ b. block_few (block_of b)) blocks i forms within is_at (sym (list_all-map block_few block_of (take i blocks)) ∙ so_far) passes

  -- one that goes in after the others, as `pushed` in code
  pub block_pushed : (first old new : Stored) (pushed : Block) → limited block_few (Ok (block_of forms)) ≡ Ok pushed →
      storage_in old ≡ record (storage_in first) { blocks = first.blocks ++ map block_of (take i blocks) } → new ≡ record old { blocks = old.blocks ++ pushed ∷ []; spare = old.spare - 1 } →
      list_all block_few (map block_of (take i blocks)) ≡ true →
      (storage_in new ≡ record (storage_in first) { blocks = first.blocks ++ map block_of (take (i + 1) blocks) })
      × (list_all block_few (map block_of (take (i + 1) blocks)) ≡ true)
  block_pushed first old new pushed fit so_far is few =
      let both = limited_Ok block_few (Ok (block_of forms)) pushed fit in
      let same : block_of forms ≡ pushed = (let e = both.0 in cc) in (
        pushed_next first old new (map block_of (take i blocks)) (block_of forms) so_far
            (ap storage_in is ∙ ap (λ (b : Block). let t : Storage = record (storage_in old) { blocks = old.blocks ++ b ∷ [] } in t) (sym same))
            ∙ ap (λ (bs : List Block). let t : Storage = record (storage_in first) { blocks = first.blocks ++ bs } in t) (sym (map_next block_of blocks i forms within is_at)),
        block_next (ap block_few same ∙ both.1) few,
      )

-- ---- the store of parts

module _ {A : Type 0} (parts : code.Parts A) (store : Stored) (store_is : storage_in store ≡ record { forms = forms_of (named_forms parts.forms.items); blocks = [] }) where
  -- neither forms nor blocks are too many
  pub counts_kept : finite.len store.forms ≤ FORM_COUNT_LIMIT → list_all block_few (map block_of parts.blocks.items) ≡ true → counts_fit (storage_of (state_in parts)) ≡ true
  counts_kept within few =
      let len : finite.len (forms_of (named_forms parts.forms.items)) ≤ FORM_COUNT_LIMIT = subst (λ (s : Storage). finite.len s.forms ≤ FORM_COUNT_LIMIT) store_is within in
      rw (le-leb _ _ len, few) refl

  -- too many forms
  pub forms_many : FORM_COUNT_LIMIT < finite.len store.forms → counts_fit (storage_of (state_in parts)) ≡ false
  forms_many beyond =
      let len : FORM_COUNT_LIMIT < finite.len (forms_of (named_forms parts.forms.items)) = subst (λ (s : Storage). FORM_COUNT_LIMIT < finite.len s.forms) store_is beyond in
      rw (over _ _ len) refl

-- or too many in a block
pub blocks_many : {A : Type 0} (parts : code.Parts A) → list_all block_few (map block_of parts.blocks.items) ≡ false → counts_fit (storage_of (state_in parts)) ≡ false
blocks_many parts fails = and_false (forms_few (state_in parts).forms) (list_all block_few (map block_of parts.blocks.items)) fails
  where
    and_false : (a b : Bool) → b ≡ false → (a && b) ≡ false
    and_false true b e = e
    and_false false b e = refl
