-- Edits of a text.
use Rattle.std.specs.Prelude.{ℕ, max, List, ◌++◌, take, drop, Option, None, Some}
use Rattle.trac_documents.specs.declared.editing.Range.{Range}
use Rattle.trac_documents.specs.declared.positions.Encoding.{Encoding}
use Rattle.trac_documents.specs.Positions.{offset_of}

-- a text with the bytes between two places replaced by others: what is before, the new, what is after
abbrev pub edited : ℕ → ℕ → List ℕ → List ℕ → List ℕ
edited start end new text = take start text ++ (new ++ drop end text)

-- a text after a change: the range replaced, or all of it without a range
abbrev pub changed : Encoding → Option Range → List ℕ → List ℕ → List ℕ
changed encoding None new text = new
changed encoding (Some range) new text =
    edited (offset_of text encoding range.start)
    (max (offset_of text encoding range.end) (offset_of text encoding range.start)) new text
