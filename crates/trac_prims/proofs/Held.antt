-- Forms that are there, and forms that cannot be made.
use Rattle.std.proofs.Common.{◌≡◌, ℕ, List, length, sym, ap, ◌∙◌, true, false}
use Rattle.std.specs.Prelude.{Option, Some, Ok, Err}
use Rattle.trac_forms.specs.declared.error.FormError.{FormError}
use Rattle.trac_forms.specs.declared.error.FormError.TheVariants.{Memory as NoMemory, TooLong as LongForm}
use Rattle.trac_forms.specs.Outcomes.{MayRefuseForm, as_refusal}
use Rattle.trac_rules.specs.declared.refusal.Refusal.TheVariants.{TooLong}
use Rattle.trac_rules.specs.declared.primitive.FormAction.TheVariants.{Read}
use Rattle.trac_rules.specs.declared.primitive.FormReading.{FormReading}
use Rattle.trac_rules.specs.declared.width.Width.{Width}
use Rattle.trac_rules.specs.Effect.{argument, leaves}
use Rattle.trac_rules.specs.Form.{Form, defined}
use Rattle.trac_rules.specs.Handling.{default_argument, form_read, gives_piece, handled, named_form, on_form, piece_read, putting}
use Rattle.trac_rules.specs.Limits.{may_be_put}
use Rattle.trac_rules.specs.Outcomes.{limited}
use Rattle.trac_rules.specs.Pieces.{Piece}
use Rattle.trac_rules.specs.Segmenting.{segmented}
use Rattle.trac_rules.specs.State.{Storage}
use Rattle.trac_prims.specs.Effects.{MayFail, pieces_fit}
use Rattle.trac_change.specs.Changed.{cut_in}
use Rattle.trac_prims.proofs.Putting.{is_put, long_text, not_put, putting_lacks}

-- a text that was not made a form is refused, or memory is
pub not_made : (name text : List ℕ) (storage : Storage) (e : FormError) → MayRefuseForm (length text) e → MayFail (putting name (defined text) storage) (as_refusal e)
not_made name text storage NoMemory h = putting_lacks name (defined text) storage
not_made name text storage LongForm long = ap (limited pieces_fit) (not_put name (defined text) storage (long_text name text storage.forms long))

-- a form that is there is segmented where it may be put again
module _ (name : List ℕ) (texts : List (List ℕ)) (held : Option Form) (form : Form) (storage : Storage) (there : held ≡ Some form) where
  pub not_segmented : may_be_put name (segmented texts form) storage.forms ≡ false →
      limited pieces_fit (on_form held (λ f. putting name (segmented texts f) storage) storage) ≡ Err TooLong
  not_segmented refused =
      ap (λ h. limited pieces_fit (on_form h (λ f. putting name (segmented texts f) storage) storage)) there
      ∙ ap (limited pieces_fit) (not_put name (segmented texts form) storage refused)

  pub is_segmented : may_be_put name (segmented texts form) storage.forms ≡ true →
      on_form held (λ f. putting name (segmented texts f) storage) storage ≡ Ok (leaves (cut_in name texts held storage))
  is_segmented may =
      ap (λ h. on_form h (λ f. putting name (segmented texts f) storage) storage) there
      ∙ is_put name (segmented texts form) storage may
      ∙ ap (λ h. Ok (leaves (cut_in name texts h storage))) (sym there)

-- a form is there, and this is what is read of it
pub form_is_read : (reading : FormReading) (width : Width) (arguments : List (List ℕ)) (storage : Storage) (form : Form) (piece : Option Piece) →
    named_form arguments storage ≡ Some form → piece ≡ piece_read reading width arguments form →
    handled (Read reading) width arguments storage ≡ Ok (gives_piece piece (default_argument reading arguments) (argument 1 arguments) form storage)
form_is_read reading width arguments storage form piece there is =
    ap (λ held. on_form held (λ f. Ok (form_read reading width arguments f storage)) storage) there
    ∙ ap (λ p. Ok (gives_piece p (default_argument reading arguments) (argument 1 arguments) form storage)) (sym is)
