-- What a measured piece of a form says: the bytes that it gives, and where the pointer goes.
use Rattle.std.specs.Prelude.{◌≤◌, min, List, length, take, drop}
use Rattle.trac_rules.specs.declared.item.Item.{Item}
use Rattle.trac_rules.specs.Form.{Form, all_items}
use Rattle.trac_rules.specs.Pieces.{Piece, bytes_in}
use Rattle.trac_forms.specs.declared.piece.Piece.{Piece as Measured}

-- the items that the bytes of a piece stand among: those from the lesser of the form's and the piece's pointer on
abbrev pub items_from : Measured → Form → List Item
items_from piece form = drop (min piece.pointer (length form.before)) (all_items form)

-- what is read: the first bytes of these
abbrev pub taken : Measured → Form → Piece
taken piece form = record { value = take piece.len (bytes_in (items_from piece form)); place = piece.pointer }

-- so many bytes are there, and the pointer goes to a place of the form
pub record IsThere (form : Form) (piece : Measured) : Type 0 where
  pub pointer : piece.pointer ≤ length (all_items form)
  pub bytes : piece.len ≤ length (bytes_in (items_from piece form))
