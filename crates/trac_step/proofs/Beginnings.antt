-- Where the innermost function begins, by the state and by the marks.
use Rattle.std.proofs.Common.{◌≡◌, ℕ, List, subst}
use Rattle.trac_rules.specs.declared.kind.Kind.{Kind}
use Rattle.trac_rules.specs.State.{State}
use Rattle.trac_text.specs.Frames.{IsInnermost}
use Rattle.trac_text.specs.Holding.{BeginsFirst}
use Rattle.trac_text.specs.Neutral.{MarkedText, Neutral, neutral_of}
use Rattle.trac_text.proofs.Beginnings.{begins_first}
use Rattle.trac_step.specs.Calling.{BeginsInnermost}

-- where the innermost function of the marks begins, that of the state does
pub begins_innermost : (s : State) (m : MarkedText) (number place : ℕ) (kind : Kind) (texts : List (List ℕ)) → neutral_of m ≡ record { base = s.base; frames = s.frames } →
    IsInnermost m number place kind texts → BeginsInnermost s (record { number = number; place = place; kind = kind })
begins_innermost s m number place kind texts same inner =
    subst (λ (n : Neutral). BeginsFirst n.frames n.base (record { number = number; place = place; kind = kind })) same (begins_first m number place kind texts inner)
