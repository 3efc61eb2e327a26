-- What an idle step emptied, as the rules see it.
use Rattle.std.specs.Prelude.{ℕ, List}
use Rattle.trac_rules.specs.State.{Frame}
use Rattle.trac_text.specs.Pieces.{frames_in}
use Rattle.trac_journal.specs.declared.emptied.Emptied.{Emptied}

-- what an idle step emptied: the base text and the frames
abbrev pub texts_in : {A : Type 0} → Emptied A → List ℕ × List Frame
texts_in emptied = (emptied.base.items, frames_in emptied.frames.items)
