-- What was done where texts were added to those that were made before.
use Rattle.std.proofs.Common.{◌≡◌, ℕ, ◌<◌, List, [], ◌∷◌, ◌++◌, length, take, Bool, true, refl, sym, ap, subst, ◌∙◌}
use Rattle.std.specs.Prelude.{Result, Ok, Err, OnOk, nat_le, slice_get}
use Rattle.std.proofs.lemmas.Bool.{and_left, lt-leb}
use Rattle.std.proofs.lemmas.List.{append-nil}
use Rattle.trac_rules.specs.declared.limit.TheConstants.{OUTPUT_LIMIT, TEXT_LIMIT}
use Rattle.trac_rules.specs.declared.refusal.Refusal.{Refusal}
use Rattle.trac_rules.specs.declared.refusal.Refusal.TheVariants.{TooLong}
use Rattle.trac_rules.specs.declared.primitive.Primitive.{Primitive}
use Rattle.trac_rules.specs.Effect.{Effect, gives, leaves, prints, reads}
use Rattle.trac_rules.specs.Outcomes.{limited}
use Rattle.trac_rules.specs.Performing.{meta_set}
use Rattle.trac_rules.specs.Reading.{byte_read, rest_read}
use Rattle.trac_rules.specs.State.{Storage}
use Rattle.trac_rules.specs.Undone.{Nothing, undone_by}
use Rattle.trac_rules.proofs.Outcomes.{limited_beyond}
use Rattle.trac_change.specs.declared.change.UnnamedChange.{UnnamedChange}
use Rattle.trac_change.specs.declared.change.UnnamedChange.TheVariants.{Keep}
use Rattle.trac_prims.specs.declared.effect.Deed.{Deed}
use Rattle.trac_prims.specs.declared.effect.Made.{Made}
use Rattle.trac_change.specs.Changes.{IsChangeOf}
use Rattle.trac_prims.specs.Effects.{IsDone, done_on, nothing, pieces_fit}
use Rattle.trac_change.specs.Changed.{changed}

module _ {A : Type 0} (arguments : List (List ℕ)) (storage : Storage) (old new : Made A) where
  -- the texts are longer by those of an effect, and all else is as it says
  pub as_said : (e : Effect) (change : UnnamedChange A) (d : Deed) → new.value.items ≡ old.value.items ++ e.value → new.print.items ≡ old.print.items ++ e.printed →
      changed arguments change storage ≡ e.storage → d ≡ record { forced = e.forced; read = e.read; meta = e.meta; trace = e.trace } →
      IsDone arguments storage (Ok e) old new change (Ok d)
  as_said e change d value printed left is =
      let v = sym value in
      let p = sym printed in
      let s = sym left in
      ap Ok ((λ i. record e { value = v i; printed = p i; storage = s i }) ∙ ap (λ (deed : Deed). done_on arguments storage new change deed) (sym is))

  -- a value, and no more
  pub given : (text : List ℕ) (d : Deed) → new.value.items ≡ old.value.items ++ text → new.print.items ≡ old.print.items → d ≡ nothing →
      IsDone arguments storage (Ok (gives text storage)) old new Keep (Ok d)
  given text d value same is = as_said (gives text storage) Keep d value (same ∙ sym (append-nil old.print.items)) refl is

  -- a printed text, and no more
  pub printed : (text : List ℕ) (d : Deed) → new.value.items ≡ old.value.items → new.print.items ≡ old.print.items ++ text → d ≡ nothing →
      IsDone arguments storage (Ok (prints text storage)) old new Keep (Ok d)
  printed text d same print is = as_said (prints text storage) Keep d (same ∙ sym (append-nil old.value.items)) print refl is

module _ {A : Type 0} (arguments : List (List ℕ)) (storage : Storage) (made : Made A) where
  -- nothing is made
  pub left_so : (e : Effect) (change : UnnamedChange A) (d : Deed) → e.value ≡ [] → e.printed ≡ [] → changed arguments change storage ≡ e.storage →
      d ≡ record { forced = e.forced; read = e.read; meta = e.meta; trace = e.trace } → IsDone arguments storage (Ok e) made made change (Ok d)
  left_so e change d none silent left is =
      as_said arguments storage made made e change d (sym (append-nil made.value.items) ∙ ap (λ text. made.value.items ++ text) (sym none))
      (sym (append-nil made.print.items) ∙ ap (λ text. made.print.items ++ text) (sym silent)) left is

  -- a change, and no more
  pub changed_so : {outcome : Result Effect Refusal} {d : Deed} (change : UnnamedChange A) → outcome ≡ Ok (leaves (changed arguments change storage)) → d ≡ nothing →
      IsDone arguments storage outcome made made change (Ok d)
  changed_so {outcome} {d} change said is =
      subst (λ o. IsDone arguments storage o made made change (Ok d)) (sym said)
      (left_so (leaves (changed arguments change storage)) change d refl refl refl is)

-- nothing is destroyed where the forms stay
pub keeps_so : {A : Type 0} (primitive : Primitive) (arguments : List (List ℕ)) (storage : Storage) (change : UnnamedChange A) (result : Result Deed Refusal) →
    undone_by primitive arguments storage ≡ Nothing → change ≡ Keep → OnOk result (IsChangeOf primitive arguments storage change)
keeps_so primitive arguments storage change (Ok d) none kept =
    subst (λ (c : UnnamedChange _). IsChangeOf primitive arguments storage c) (sym kept) (record { undone_is = sym none; pieces_are = tt })
keeps_so primitive arguments storage change (Err refusal) none kept = tt

-- the first byte of what is left to read
pub byte_given : (text : List ℕ) (ended : Bool) (storage : Storage) → (length text ≡ 0 → ⊥) → byte_read text ended storage ≡ Ok (reads (take 1 text) 1 storage)
byte_given [] ended storage some = absurd (some refl)
byte_given (b ∷ rest) ended storage some = refl

-- all that is left to read
pub rest_given : (text : List ℕ) (storage : Storage) → (length text ≡ 0 → ⊥) → rest_read text true storage ≡ Ok (reads text (length text) storage)
rest_given [] storage some = absurd (some refl)
rest_given (b ∷ rest) storage some = refl

-- the first byte of a text as meta character
pub meta_given : (text : List ℕ) (storage : Storage) → meta_set text storage ≡ record (leaves storage) { meta = slice_get text 0 }
meta_given [] storage = refl
meta_given (b ∷ bytes) storage = refl

-- ---- pieces that are too long

-- a value that no state can hold is not made
pub value_beyond : (text : List ℕ) (storage : Storage) → TEXT_LIMIT < length text → limited pieces_fit (Ok (gives text storage)) ≡ Err TooLong
value_beyond text storage long = limited_beyond pieces_fit (gives text storage) (and_left (nat_le (length text) TEXT_LIMIT) (nat_le 0 OUTPUT_LIMIT) (lt-leb (length text) TEXT_LIMIT long))
