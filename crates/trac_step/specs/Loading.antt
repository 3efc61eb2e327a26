-- Loading: the room that is wanted.
use Rattle.std.specs.Prelude.{◌≤◌, IsTrue}
use Rattle.std.specs.FinSet as set
use Rattle.std.specs.List.{All}
use Rattle.trac_text.specs.Framing.{texts_of}
use Rattle.trac_storage.specs.declared.parts.Parts as code
use Rattle.trac_step.specs.Layout.{Shown}

-- a machine has at least these rooms, and knows these names
pub record HasAsked {A : Type 0} (parts : code.Parts A) (m : Shown) : Type 0 where
  pub text : parts.text_room ≤ m.text_room
  pub marks : parts.mark_room ≤ m.mark_room
  pub output : parts.output_room ≤ m.output_room
  pub names : All (λ name. IsTrue (set.contains m.known name)) (texts_of parts.names.items)
