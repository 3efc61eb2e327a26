-- What a planned change destroys, and of what its pieces are made.
use Rattle.std.specs.Prelude.{◌≡◌, ℕ, List, drop, length, IfSome, IsTrue, is_some, Option, None, Some}
use Rattle.std.specs.FinMap as finite
use Rattle.trac_rules.specs.declared.item.CutGap.{CutGap}
use Rattle.trac_rules.specs.declared.primitive.Primitive.{Primitive}
use Rattle.trac_rules.specs.Blocks.{block_at, moved_out}
use Rattle.trac_rules.specs.Cuts.{cut_of}
use Rattle.trac_rules.specs.Effect.{argument}
use Rattle.trac_rules.specs.Form.{Form}
use Rattle.trac_rules.specs.Handling.{named_form, without}
use Rattle.trac_rules.specs.State.{Storage}
use Rattle.trac_rules.specs.Undone.{Undone, Nothing, Join, Swap, Restore, MoveOut, Unbring, block_lost, pointer_lost}
use Rattle.trac_rules.specs.Undone.{undone_by, names_in}
use Rattle.trac_change.specs.declared.change.UnnamedChange as code
use Rattle.trac_change.specs.declared.change.UnnamedChange.TheVariants.{Keep, Put, Cut, Remove, Clear, Point, MoveIn}
use Rattle.trac_change.specs.declared.change.UnnamedChange.TheVariants.{Bring, Erase}
use Rattle.trac_change.specs.Changed.{named_forms}
use Rattle.trac_text.specs.Framing.{texts_of}

-- the gaps of a cut are made in a form, if there is one, and its pointer is lost
abbrev pub cut_lost : List CutGap → Option Form → Undone
cut_lost cut None = Nothing
cut_lost cut (Some form) = Join cut (length form.before)

-- what a change of a storage by a call of these arguments destroys
abbrev pub undone_of : {A : Type 0} → List (List ℕ) → code.UnnamedChange A → Storage → Undone
undone_of arguments Keep storage = Nothing
undone_of arguments (Put form) storage = Swap (named_form arguments storage)
undone_of arguments (Cut cut) storage = cut_lost cut (named_form arguments storage)
undone_of arguments (Remove names) storage = Restore (moved_out (texts_of names.items) storage.forms)
undone_of arguments Clear storage = Restore (finite.entries storage.forms)
undone_of arguments (Point place) storage = pointer_lost (named_form arguments storage)
undone_of arguments (MoveIn held address) storage =
    MoveOut (finite.get (without (texts_of held.items) storage.forms) (argument 1 arguments))
undone_of arguments (Bring number forms) storage =
    Unbring number (moved_out (names_in (named_forms forms.items)) storage.forms)
undone_of arguments (Erase number) storage = block_lost (Some number) (named_form arguments storage) storage.blocks

-- the pieces of a change are those of a call of these arguments: if texts are cut out, just these gaps are made in the
-- form that is there; just these forms go into a new block, each once; the copies are those of a block; and a block
-- that is erased is there
abbrev pub PiecesAreOf : {A : Type 0} → List (List ℕ) → Storage → code.UnnamedChange A → Type 0
PiecesAreOf arguments storage (Cut cut) =
    IfSome (named_form arguments storage) (λ form. cut ≡ cut_of (drop 2 arguments) form)
PiecesAreOf arguments storage (MoveIn held address) =
    texts_of held.items ≡ names_in (moved_out (drop 2 arguments) storage.forms)
PiecesAreOf arguments storage (Bring number forms) = block_at number storage.blocks ≡ Some (named_forms forms.items)
PiecesAreOf arguments storage (Erase number) = IsTrue (is_some (block_at number storage.blocks))
PiecesAreOf arguments storage change = Unit {0}

-- a change is that of a call of this primitive with these arguments: it destroys what the definitions
-- say, and its pieces are those of the call
pub record IsChangeOf {A : Type 0} (primitive : Primitive) (arguments : List (List ℕ)) (storage : Storage)
    (change : code.UnnamedChange A) : Type 0 where
  pub undone_is : undone_of arguments change storage ≡ undone_by primitive arguments storage
  pub pieces_are : PiecesAreOf arguments storage change
