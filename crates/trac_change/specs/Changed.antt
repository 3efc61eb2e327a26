-- What a planned change makes of forms and blocks.
use Rattle.std.specs.Prelude.{ℕ, List, map, drop, Option, None, Some, Vec}
use Rattle.std.specs.FinMap as finite
use Rattle.trac_rules.specs.Blocks.{erased, put_aside, with_all}
use Rattle.trac_rules.specs.Effect.{argument}
use Rattle.trac_rules.specs.Form.{Form}
use Rattle.trac_rules.specs.Handling.{keeping, named_form, pointing, without}
use Rattle.trac_rules.specs.Segmenting.{segmented}
use Rattle.trac_rules.specs.State.{Held, Storage}
use Rattle.trac_text.specs.Framing.{texts_of}
use Rattle.trac_change.specs.declared.change.UnnamedChange as code
use Rattle.trac_change.specs.declared.change.UnnamedChange.TheVariants.{Keep, Put, Cut, Remove, Clear, Point, MoveIn}
use Rattle.trac_change.specs.declared.change.UnnamedChange.TheVariants.{Bring, Erase}

-- the storage where the pointer of a form, if it is there, is set
abbrev pub pointed : List ℕ → ℕ → Option Form → Storage → Storage
pointed name place None storage = storage
pointed name place (Some form) storage = pointing name place form storage

-- the storage where a form, if it is there, has these texts cut out
abbrev pub cut_in : List ℕ → List (List ℕ) → Option Form → Storage → Storage
cut_in name texts None storage = storage
cut_in name texts (Some form) storage = keeping (finite.insert storage.forms name (segmented texts form)) storage

-- forms of the code with their names
abbrev pub named_forms : {A : Type 0} → List (Vec ℕ A × Form) → Held
named_forms forms = map (λ entry. (entry.0.items, entry.1)) forms

-- the storage with this form under a name
abbrev pub with_form : List ℕ → Form → Storage → Storage
with_form name form storage = keeping (finite.insert storage.forms name form) storage

-- the storage after a change by a call of these arguments
abbrev pub changed : {A : Type 0} → List (List ℕ) → code.UnnamedChange A → Storage → Storage
changed arguments Keep storage = storage
changed arguments (Put form) storage = with_form (argument 1 arguments) form storage
changed arguments (Cut cut) storage =
    cut_in (argument 1 arguments) (drop 2 arguments) (named_form arguments storage) storage
changed arguments (Remove names) storage = keeping (without (texts_of names.items) storage.forms) storage
changed arguments Clear storage = keeping finite.empty storage
changed arguments (Point place) storage = pointed (argument 1 arguments) place (named_form arguments storage) storage
changed arguments (MoveIn held address) storage =
    with_form (argument 1 arguments) address (put_aside (texts_of held.items) storage)
changed arguments (Bring number forms) storage = keeping (with_all (named_forms forms.items) storage.forms) storage
changed arguments (Erase number) storage = erased number (argument 1 arguments) storage
