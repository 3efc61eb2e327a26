-- The state of parts is proper just where its limits are kept, those that are judged at once and those that a store tells.
use Rattle.std.proofs.Common.{◌≡◌, ℕ, ◌≤◌, ◌&&◌, Bool, true, false, List, [], ◌∷◌, ◌++◌, length, map, All, refl, sym, ap, subst, ◌∙◌, inl, inr, ⊎_elim, is_some, IsTrue}
use Rattle.std.specs.Prelude.{Option, Some, None, Vec, bytes_eq, nat_le, ◌⊎◌}
use Rattle.std.specs.Cmp.Lexicographic.{slice_cmp}
use Rattle.std.specs.FinMap as finite
use Rattle.std.specs.FinSet as set
use Rattle.std.specs.List.{list_all}
use Rattle.std.specs.Ordering.{nat_cmp}
use Rattle.std.proofs.lemmas.Bool.{and_parts, cases_Bool, cond-true, cond-false, false_from_ne_true, le-leb, leb-true}
use Rattle.std.proofs.lemmas.List.{length-map}
use Rattle.std.proofs.lemmas.List.Elements.{All-nil, All-cons, All-head, All-tail, All-weaker}
use Rattle.std.proofs.lemmas.Slice.Eq.{bytes_eq-Decides}
use Rattle.trac_rules.specs.declared.limit.TheConstants.{BLOCK_LIMIT, FORM_LIMIT, NAME_LIMIT}
use Rattle.trac_rules.specs.Blocks.{moved_out, with_all, with_name}
use Rattle.trac_rules.specs.Form.{Form, all_items, extent}
use Rattle.trac_rules.specs.Limits.{texts_fit}
use Rattle.trac_rules.specs.Proper.{IsProper, IsProperBlock, IsProperForm, IsProperStorage, is_proper}
use Rattle.trac_rules.specs.State.{Forms, Held, storage_of}
use Rattle.trac_rules.proofs.NamedForms.{get-put}
use Rattle.trac_rules.proofs.ProperBlocks.{All-append_right, EachProper, IsProperEntry, each_with_all, moved_out_among, moved_out_distinct}
use Rattle.trac_rules.proofs.ProperDecided.{proper_decided}
use Rattle.trac_forms.specs.Stored.{KnowsAll, Names}
use Rattle.trac_rules.specs.Undone.{names_in}
use Rattle.trac_change.specs.Changed.{named_forms}
use Rattle.trac_text.specs.Framing.{texts_of}
use Rattle.trac_rules.proofs.Found.{put_get, taken_get}
use Rattle.trac_storage.specs.declared.parts.Parts as code
use Rattle.trac_storage.specs.Changing.{KnowsNamed}
use Rattle.trac_storage.specs.Loading.{AreProperEntries, IsProperList, block_entries_fit, block_few, block_of, blocks_fit, counts_fit, entries_fit, forms_few, forms_of, held_of, lengths_fit, names_fit, parts_fit, rooms_fit, state_in}

-- ---- names and their forms

-- a name has a form
abbrev HasForm : Forms → List ℕ → Type 0
HasForm forms name = (form : Form) × (finite.get forms name ≡ Some form)

has_still : (forms : Forms) (name q : List ℕ) (form : Form) → HasForm forms q → HasForm (finite.insert forms name form) q
has_still forms name q form has =
    ⊎_elim
    (λ (t : bytes_eq q name ≡ true). (form, put_get forms name q form ∙ cond-true (bytes_eq q name) (Some form) (finite.get forms q) t))
    (λ (t : bytes_eq q name ≡ false). (has.0, put_get forms name q form ∙ cond-false (bytes_eq q name) (Some form) (finite.get forms q) t ∙ has.1))
    (cases_Bool (bytes_eq q name))

has_after : (held : Held) (forms : Forms) (q : List ℕ) → HasForm forms q → HasForm (with_all held forms) q
has_after [] forms q has = has
has_after (entry ∷ held) forms q has = has_after held (finite.insert forms entry.0 entry.1) q (has_still forms entry.0 q entry.1 has)

-- each name of forms that are put has one
each_has : (held : Held) (forms : Forms) → All (HasForm (with_all held forms)) (names_in held)
each_has [] forms = All-nil (HasForm forms)
each_has (entry ∷ held) forms =
    All-cons (HasForm (with_all (entry ∷ held) forms)) entry.0 (names_in held)
    (has_after held (finite.insert forms entry.0 entry.1) entry.0 (entry.1, get-put forms entry.0 entry.1))
    (each_has held (finite.insert forms entry.0 entry.1))

-- ---- the names of proper forms are short enough

abbrev IsShort : List ℕ → Type 0
IsShort name = nat_le (length name) NAME_LIMIT ≡ true

short_of_proper : (name : List ℕ) (form : Form) → IsProperForm name form → IsShort name
short_of_proper name form proper =
    let parts = and_parts (nat_le (length name) NAME_LIMIT && nat_le (length (all_items form)) FORM_LIMIT) (nat_le (extent (all_items form)) FORM_LIMIT) proper.fits in
    (and_parts (nat_le (length name) NAME_LIMIT) (nat_le (length (all_items form)) FORM_LIMIT) parts.0).0

one_more : (name : List ℕ) (names : List (List ℕ)) → IsShort name → names_fit names ≡ true → names_fit (name ∷ names) ≡ true
one_more name names short rest = rw short rest

short_by_forms : (names : List (List ℕ)) (forms : Forms) → EachProper forms → All (HasForm forms) names → names_fit names ≡ true
short_by_forms [] forms each has = refl
short_by_forms (name ∷ names) forms each has =
    let first = All-head (HasForm forms) name names has in
    one_more name names (short_of_proper name first.0 (each name first.0 first.1)) (short_by_forms names forms each (All-tail (HasForm forms) name names has))

-- a name is short, or it has a form that is still to be moved out
abbrev IsShortOrHas : Forms → List ℕ → Type 0
IsShortOrHas forms name = IsShort name ⊎ HasForm forms name

still_or : (forms : Forms) (name q : List ℕ) → IsShort name → IsShortOrHas forms q → IsShortOrHas (finite.remove forms name) q
still_or forms name q short (inl here) = inl here
still_or forms name q short (inr has) =
    ⊎_elim
    (λ (t : bytes_eq q name ≡ true). inl (subst IsShort (sym ((bytes_eq-Decides q name).0 t)) short))
    (λ (t : bytes_eq q name ≡ false). inr (has.0, taken_get forms name q ∙ cond-false (bytes_eq q name) None (finite.get forms q) t ∙ has.1))
    (cases_Bool (bytes_eq q name))

first_short : (forms : Forms) (name : List ℕ) (rest : Held) → All IsProperEntry (with_name name (finite.get forms name) ++ rest) → IsShortOrHas forms name → IsShort name
first_short forms name rest all (inl short) = short
first_short forms name rest all (inr has) =
    let there : All IsProperEntry ((name, has.0) ∷ rest) = subst (λ (o : Option Form). All IsProperEntry (with_name name o ++ rest)) has.1 all in
    short_of_proper name has.0 (All-head IsProperEntry (name, has.0) rest there)

short_by_moved : (names : List (List ℕ)) (forms : Forms) → All (IsShortOrHas forms) names → All IsProperEntry (moved_out names forms) → names_fit names ≡ true
short_by_moved [] forms has all = refl
short_by_moved (name ∷ names) forms has all =
    let rest = moved_out names (finite.remove forms name) in
    let short = first_short forms name rest all (All-head (IsShortOrHas forms) name names has) in
    one_more name names short
    (short_by_moved names (finite.remove forms name)
    (All-weaker (IsShortOrHas forms) (IsShortOrHas (finite.remove forms name)) (λ q h. still_or forms name q short h) names (All-tail (IsShortOrHas forms) name names has))
    (All-append_right IsProperEntry (with_name name (finite.get forms name)) rest all))

-- ---- blocks

each_of : (held : Held) → AreProperEntries held → EachProper (forms_of held)
each_of held all = each_with_all held finite.empty all (λ name form there. absurd (let none = sym (finite.get-empty (slice_cmp nat_cmp) name) ∙ there in cc))

module _ {A : Type 0} where
  -- proper, where what it holds is, and not too much
  proper_block : (forms : Option (Vec (Vec ℕ A × Form) A)) → IsProperList forms → block_few (block_of forms) ≡ true → IsProperBlock (block_of forms)
  proper_block None proper few = tt
  proper_block (Some forms) proper few =
      let held = named_forms forms.items in
      record {
        count = leb-true _ _ few;
        each = All-weaker (λ (e : List ℕ × Form). finite.get (forms_of held) e.0 ≡ Some e.1) IsProperEntry (λ e there. each_of held proper e.0 e.1 there) (held_of held)
            (moved_out_among (names_in held) (forms_of held));
        distinct = moved_out_distinct (names_in held) (forms_of held);
      }

  proper_blocks : (blocks : List (Option (Vec (Vec ℕ A × Form) A))) → All IsProperList blocks → list_all block_few (map block_of blocks) ≡ true → All IsProperBlock (map block_of blocks)
  proper_blocks [] all few = All-nil IsProperBlock
  proper_blocks (b ∷ blocks) all few =
      let both = and_parts (block_few (block_of b)) (list_all block_few (map block_of blocks)) few in
      All-cons IsProperBlock (block_of b) (map block_of blocks) (proper_block b (All-head IsProperList b blocks all) both.0) (proper_blocks blocks (All-tail IsProperList b blocks all) both.1)

  -- and proper blocks have short names, and not too many
  block_fits : (forms : Option (Vec (Vec ℕ A × Form) A)) → IsProperBlock (block_of forms) → (block_entries_fit forms ≡ true) × (block_few (block_of forms) ≡ true)
  block_fits None proper = (refl, refl)
  block_fits (Some forms) proper =
      let held = named_forms forms.items in (
        short_by_moved (names_in held) (forms_of held)
            (All-weaker (HasForm (forms_of held)) (IsShortOrHas (forms_of held)) (λ name has. inr has) (names_in held) (each_has held finite.empty)) proper.each,
        le-leb _ _ proper.count,
      )

  all_blocks_fit : (blocks : List (Option (Vec (Vec ℕ A × Form) A))) → All IsProperBlock (map block_of blocks) →
      (list_all block_entries_fit blocks ≡ true) × (list_all block_few (map block_of blocks) ≡ true)
  all_blocks_fit [] all = (refl, refl)
  all_blocks_fit (b ∷ blocks) all =
      let first = block_fits b (All-head IsProperBlock (block_of b) (map block_of blocks) all) in
      let rest = all_blocks_fit blocks (All-tail IsProperBlock (block_of b) (map block_of blocks) all) in
      (rw first.0 rest.0, rw first.1 rest.1)

-- ---- the whole

module _ {A : Type 0} (parts : code.Parts A) where
  -- the limits that are judged at once, apart
  abbrev judged : Bool
  judged = texts_fit (state_in parts) && rooms_fit parts && names_fit (texts_of parts.names.items)

  pub record Judged : Type 0 where
    pub texts : texts_fit (state_in parts) ≡ true
    pub rooms : rooms_fit parts ≡ true
    pub names : names_fit (texts_of parts.names.items) ≡ true
    pub blocks : nat_le (length parts.blocks.items) BLOCK_LIMIT ≡ true

  pub judged_apart : lengths_fit parts ≡ true → Judged
  judged_apart fits =
      let blocks = and_parts (judged && entries_fit (named_forms parts.forms.items)) (blocks_fit parts.blocks.items) fits in
      let forms = and_parts judged (entries_fit (named_forms parts.forms.items)) blocks.0 in
      let names = and_parts (texts_fit (state_in parts) && rooms_fit parts) (names_fit (texts_of parts.names.items)) forms.0 in
      let rooms = and_parts (texts_fit (state_in parts)) (rooms_fit parts) names.0 in
      record {
        texts = rooms.0;
        rooms = rooms.1;
        names = names.1;
        blocks = (and_parts (nat_le (length parts.blocks.items) BLOCK_LIMIT) (list_all block_entries_fit parts.blocks.items) blocks.1).0;
      }

  -- the storage is proper where the limits are kept
  pub proper_storage : lengths_fit parts ≡ true → AreProperEntries (named_forms parts.forms.items) → All IsProperList parts.blocks.items →
      counts_fit (storage_of (state_in parts)) ≡ true → IsProperStorage (storage_of (state_in parts))
  proper_storage fits forms blocks counts =
      let both = and_parts (forms_few (state_in parts).forms) (list_all block_few (state_in parts).blocks) counts in
      record {
        forms = record { count = leb-true _ _ both.0; each = each_of (named_forms parts.forms.items) forms };
        block_count = subst (λ n. n ≤ BLOCK_LIMIT) (sym (length-map parts.blocks.items block_of)) (leb-true _ _ (judged_apart fits).blocks);
        blocks = proper_blocks parts.blocks.items blocks both.1;
      }

  -- so all fits
  pub all_fits : lengths_fit parts ≡ true → AreProperEntries (named_forms parts.forms.items) → All IsProperList parts.blocks.items →
      counts_fit (storage_of (state_in parts)) ≡ true → parts_fit parts ≡ true
  all_fits fits forms blocks counts =
      let judged = judged_apart fits in
      rw ((proper_decided (state_in parts)).1 (record { texts = judged.texts; storage = proper_storage fits forms blocks counts }), judged.rooms, judged.names) refl

  -- and where all fits the limits are kept
  limits_of : parts_fit parts ≡ true → (lengths_fit parts ≡ true) × (counts_fit (storage_of (state_in parts)) ≡ true)
  limits_of fits =
      let names = and_parts (is_proper (state_in parts) && rooms_fit parts) (names_fit (texts_of parts.names.items)) fits in
      let rooms = and_parts (is_proper (state_in parts)) (rooms_fit parts) names.0 in
      let proper : IsProper (state_in parts) = (proper_decided (state_in parts)).0 rooms.0 in
      let held = named_forms parts.forms.items in
      let blocks = all_blocks_fit parts.blocks.items proper.storage.blocks in
      let few = le-leb (length parts.blocks.items) BLOCK_LIMIT (subst (λ n. n ≤ BLOCK_LIMIT) (length-map parts.blocks.items block_of) proper.storage.block_count) in (
        rw (proper.texts, rooms.1, names.1, short_by_forms (names_in held) (forms_of held) proper.storage.forms.each (each_has held finite.empty), few, blocks.0) refl,
        rw (le-leb _ _ proper.storage.forms.count, blocks.1) refl,
      )

  -- so where they are not, something passes a limit
  pub lengths_fail : lengths_fit parts ≡ false → parts_fit parts ≡ false
  lengths_fail fails = false_from_ne_true (parts_fit parts) (λ fits. absurd (let both = sym fails ∙ (limits_of fits).0 in cc))

  pub counts_fail : counts_fit (storage_of (state_in parts)) ≡ false → parts_fit parts ≡ false
  counts_fail fails = false_from_ne_true (parts_fit parts) (λ fits. absurd (let both = sym fails ∙ (limits_of fits).1 in cc))

-- ---- names that are known

knows_with : (known : Names) (forms : Forms) (name : List ℕ) (form : Form) → IsTrue (set.contains known name) → KnowsAll known forms → KnowsAll known (finite.insert forms name form)
knows_with known forms name form here knows q there =
    ⊎_elim
    (λ (t : bytes_eq q name ≡ true). subst (λ n. IsTrue (set.contains known n)) (sym ((bytes_eq-Decides q name).0 t)) here)
    (λ (t : bytes_eq q name ≡ false).
    knows q (sym (ap is_some (put_get forms name q form ∙ cond-false (bytes_eq q name) (Some form) (finite.get forms q) t)) ∙ there))
    (cases_Bool (bytes_eq q name))

knows_after : (held : Held) (forms : Forms) (known : Names) → KnowsNamed held known → KnowsAll known forms → KnowsAll known (with_all held forms)
knows_after [] forms known named knows = knows
knows_after (entry ∷ held) forms known named knows =
    knows_after held (finite.insert forms entry.0 entry.1) known named.1 (knows_with known forms entry.0 entry.1 named.0 knows)

-- where the names of all forms are known, those of the forms are that are put
pub knows_forms : (held : Held) (known : Names) → KnowsNamed held known → KnowsAll known (forms_of held)
knows_forms held known named =
    knows_after held finite.empty known named (λ q there. absurd (let none = sym (ap is_some (finite.get-empty (slice_cmp nat_cmp) q)) ∙ there in cc))
