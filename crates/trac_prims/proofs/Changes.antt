-- Changes of the forms and blocks, as those of calls.
use Rattle.std.proofs.Common.{◌≡◌, ℕ, List, length, drop, refl, sym, ap, ◌∙◌, ⊎_elim, true, false}
use Rattle.std.specs.Prelude.{Some, Vec, bytes_eq, cond}
use Rattle.std.specs.Cmp.Lexicographic.{nat_list_cmp_total}
use Rattle.std.specs.FinMap as finite
use Rattle.std.proofs.lemmas.Bool.{cases_Bool}
use Rattle.std.proofs.Math.Seq.{drop-append_seam, take-append_seam}
use Rattle.std.proofs.lemmas.Map.Text.{is_eq-slice_cmp}
use Rattle.std.proofs.lemmas.Slice.Eq.{bytes_eq-Decides}
use Rattle.trac_rules.specs.declared.primitive.BlockAction.TheVariants.{StoreBlock}
use Rattle.trac_rules.specs.declared.primitive.Primitive.TheVariants.{HandleBlock}
use Rattle.trac_rules.specs.Blocks.{moved_out}
use Rattle.trac_rules.specs.Effect.{argument}
use Rattle.trac_rules.specs.Form.{Form, all_items, pointed_at}
use Rattle.trac_rules.specs.Handling.{keeping, without}
use Rattle.trac_rules.specs.State.{Forms, Storage}
use Rattle.trac_rules.specs.Undone.{MoveOut, names_in}
use Rattle.trac_rules.proofs.NamedForms.{only_equal_tie}
use Rattle.trac_change.specs.declared.change.UnnamedChange.TheVariants.{MoveIn}
use Rattle.trac_change.specs.Changes.{IsChangeOf}
use Rattle.trac_change.specs.Changed.{pointed}
use Rattle.trac_text.specs.Framing.{texts_of}
use Rattle.trac_prims.proofs.MovedOut.{without-again}

-- ---- a form whose pointer stays

-- a form that is put again where it stands
put_same : (forms : Forms) (name : List ℕ) (form : Form) → finite.get forms name ≡ Some form → finite.insert forms name form ≡ forms
put_same forms name form there =
    finite.same_map nat_list_cmp_total only_equal_tie (finite.insert forms name form) forms (λ q.
    finite.get-insert nat_list_cmp_total forms name form q
    ∙ ap (λ b. cond b (Some form) (finite.get forms q)) (is_eq-slice_cmp q name)
    ∙ ⊎_elim
    (λ (t : bytes_eq q name ≡ true). rw t (sym (ap (finite.get forms) ((bytes_eq-Decides q name).0 t) ∙ there)))
    (λ (t : bytes_eq q name ≡ false). rw t refl)
    (cases_Bool (bytes_eq q name)))

-- the pointer where it stands
pointed_as_before : (form : Form) → pointed_at (length form.before) (all_items form) ≡ form
pointed_as_before form = (λ i. record { before = take-append_seam form.before form.after i; after = drop-append_seam form.before form.after i })

pub pointer_stays : (name : List ℕ) (form : Form) (storage : Storage) → finite.get storage.forms name ≡ Some form →
    pointed name (length form.before) (finite.get storage.forms name) storage ≡ storage
pointer_stays name form storage there =
    ap (λ held. pointed name (length form.before) held storage) there
    ∙ ap (λ (f : Form). keeping (finite.insert storage.forms name f) storage) (pointed_as_before form)
    ∙ ap (λ (forms : Forms). keeping forms storage) (put_same storage.forms name form there)

-- ---- forms that leave

pub moves_in : {A : Type 0} (arguments : List (List ℕ)) (storage : Storage) (held : Vec (Vec ℕ A) A) (address : Form) →
    texts_of held.items ≡ names_in (moved_out (drop 2 arguments) storage.forms) → IsChangeOf (HandleBlock StoreBlock) arguments storage (MoveIn held address)
moves_in arguments storage held address are = record {
  undone_is =
      ap (λ (ns : List (List ℕ)). MoveOut (finite.get (without ns storage.forms) (argument 1 arguments))) are
      ∙ ap (λ (forms : Forms). MoveOut (finite.get forms (argument 1 arguments))) (without-again (drop 2 arguments) storage.forms);
  pieces_are = are;
}
