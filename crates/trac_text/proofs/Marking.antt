-- A mark at the end of the text, after all others.
use Rattle.std.proofs.Common.{◌≡◌, ℕ, List, [], ◌∷◌, ◌++◌, length, reverse, ap, ◌∙◌}
use Rattle.std.specs.Prelude.{Option}
use Rattle.std.proofs.lemmas.List.{reverse-append}
use Rattle.trac_rules.specs.declared.kind.Kind.{Kind}
use Rattle.trac_text.specs.declared.mark.Mark.{Mark}
use Rattle.trac_text.specs.Marks.{mark_at}
use Rattle.trac_text.specs.Neutral.{marked, neutral}
use Rattle.trac_text.proofs.Neutral.{neutral-mark}

pub reverse_push : {X : Type 0} (xs : List X) (x : X) → reverse (xs ++ x ∷ []) ≡ x ∷ reverse xs
reverse_push xs x = reverse-append xs (x ∷ [])

pub neutral-push : (text : List ℕ) (marks : List Mark) (o : Option Kind) → neutral text (reverse (marks ++ mark_at (length text) o ∷ [])) ≡ marked o [] (neutral text (reverse marks))
neutral-push text marks o = ap (neutral text) (reverse_push marks (mark_at (length text) o)) ∙ neutral-mark text o (reverse marks)
