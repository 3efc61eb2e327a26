-- What calls on blocks come to, and what is judged for them.
use Rattle.std.proofs.Common.{◌≡◌, ℕ, ◌+◌, ◌<◌, ◌≤◌, ◌^◌, Bool, true, false, List, [], ◌∷◌, ◌++◌, length, refl, sym, ap, ◌∙◌, arith}
use Rattle.std.specs.Prelude.{None, Some, Ok, bytes_eq, cond, decimal, is_some}
use Rattle.std.specs.FinMap as finite
use Rattle.std.specs.List.{list_any}
use Rattle.std.proofs.lemmas.Bool.{le-leb}
use Rattle.std.proofs.lemmas.Fmt.{length-decimal-le}
use Rattle.std.proofs.lemmas.List.{length-map}
use Rattle.trac_rules.specs.declared.limit.TheConstants.{BLOCK_LIMIT, FORM_COUNT_LIMIT}
use Rattle.trac_rules.specs.declared.refusal.Refusal.TheVariants.{Memory}
use Rattle.trac_rules.specs.Blocks.{moved_out, put_aside, storing}
use Rattle.trac_rules.specs.Effect.{leaves}
use Rattle.trac_rules.specs.Form.{Form, defined}
use Rattle.trac_rules.specs.Handling.{without}
use Rattle.trac_rules.specs.Limits.{may_be_put}
use Rattle.trac_rules.specs.State.{Forms, Storage}
use Rattle.trac_rules.proofs.Cutting.{extent-as_items, wide-as_items}
use Rattle.trac_forms.specs.declared.error.FormError.{FormError}
use Rattle.trac_forms.specs.declared.error.FormError.TheVariants.{Memory as NoMemory, TooLong as LongForm}
use Rattle.trac_forms.specs.Layout.{IsSound}
use Rattle.trac_forms.specs.Outcomes.{MayRefuseForm, as_refusal}
use Rattle.trac_rules.specs.Undone.{names_in}
use Rattle.trac_change.specs.Changed.{with_form}
use Rattle.trac_prims.proofs.MovedOut.{get-without, len-without, moved_out-again, without-again}

-- ---- `sb`

-- a number as a form
pub number_sound : (number : ℕ) → number < 2 ^ 64 → IsSound (defined (decimal number))
number_sound number small = record {
  within = omega (arith, extent-as_items (decimal number), length-decimal-le 20 number (omega arith) (omega arith) (omega arith));
  wide = wide-as_items (decimal number);
}

-- which is short enough for one
pub number_memory : (number : ℕ) (text : List ℕ) (error : FormError) → number < 2 ^ 64 → text ≡ decimal number → MayRefuseForm (length text) error → as_refusal error ≡ Memory
number_memory number text NoMemory small is h = refl
number_memory number text LongForm small is long =
    absurd (omega (arith, long, ap length is, length-decimal-le 20 number (omega arith) (omega arith) (omega arith)))

module _ (name : List ℕ) (names : List (List ℕ)) (storage : Storage) where
  -- the names of those that are moved say as much
  put_aside-again : put_aside (names_in (moved_out names storage.forms)) storage ≡ put_aside names storage
  put_aside-again =
      (λ i. record { forms = without-again names storage.forms i; blocks = storage.blocks ++ Some (moved_out-again names storage.forms i) ∷ [] })

  -- all is within the limits
  pub stored_so : (held : List (List ℕ)) (address : Form) → held ≡ names_in (moved_out names storage.forms) → address ≡ defined (decimal (length storage.blocks)) →
      length held ≤ FORM_COUNT_LIMIT → length storage.blocks < BLOCK_LIMIT → may_be_put name (defined (decimal (length storage.blocks))) (without names storage.forms) ≡ true →
      storing name names storage ≡ Ok (leaves (with_form name address (put_aside held storage)))
  stored_so held address is addresses few more may =
      let count : length held ≡ length (moved_out names storage.forms) = ap (λ (ns : List (List ℕ)). length ns) is ∙ length-map (moved_out names storage.forms) (λ entry. entry.0) in
      rw (le-leb (length (moved_out names storage.forms)) FORM_COUNT_LIMIT (omega (arith, few, count)), le-leb (length storage.blocks + 1) BLOCK_LIMIT (omega (arith, more)), may) (
      ap (λ (s : Storage). Ok (leaves (with_form name (defined (decimal (length storage.blocks))) s))) (sym put_aside-again)
      ∙ ap (λ (ns : List (List ℕ)). Ok (leaves (with_form name (defined (decimal (length storage.blocks))) (put_aside ns storage)))) (sym is)
      ∙ ap (λ (f : Form). Ok (leaves (with_form name f (put_aside held storage)))) (sym addresses))

-- how many forms are left when those of these names have gone, and whether one is left under a name
module _ (names held : List (List ℕ)) (forms : Forms) (is : held ≡ names_in (moved_out names forms)) where
  pub count_left : (count len left : ℕ) → count ≡ finite.len forms → len ≡ length held → len ≤ count → left + len ≡ count → left ≡ finite.len (without names forms)
  count_left count len left counts lens fewer rest =
      let moved : length held ≡ length (moved_out names forms) = ap (λ (ns : List (List ℕ)). length ns) is ∙ length-map (moved_out names forms) (λ entry. entry.0) in
      omega (arith, counts, lens, rest, moved, len-without names forms)

  left_under : (name : List ℕ) → is_some (finite.get (without names forms) name) ≡ is_some (cond (list_any (bytes_eq name) held) None (finite.get forms name))
  left_under name = ap is_some (get-without names forms name ∙ ap (λ (ns : List (List ℕ)). cond (list_any (bytes_eq name) ns) None (finite.get forms name)) (sym is))

  pub stays_under : (name : List ℕ) → is_some (finite.get forms name) ≡ true → list_any (bytes_eq name) held ≡ false → is_some (finite.get (without names forms) name) ≡ true
  stays_under name there new = left_under name ∙ ap (λ b. is_some (cond b None (finite.get forms name))) new ∙ there

  pub gone_under : (name : List ℕ) → list_any (bytes_eq name) held ≡ true → is_some (finite.get (without names forms) name) ≡ false
  gone_under name among = left_under name ∙ ap (λ b. is_some (cond b None (finite.get forms name))) among

  pub none_under : (name : List ℕ) → is_some (finite.get forms name) ≡ false → is_some (finite.get (without names forms) name) ≡ false
  none_under name none = left_under name ∙ either (list_any (bytes_eq name) held)
    where
      either : (b : Bool) → is_some (cond b None (finite.get forms name)) ≡ false
      either true = refl
      either false = none
