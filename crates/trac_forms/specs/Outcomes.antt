-- What a refused call may answer.
use Rattle.std.specs.Prelude.{ℕ, ◌<◌}
use Rattle.trac_rules.specs.declared.limit.TheConstants.{FORM_LIMIT}
use Rattle.trac_forms.specs.declared.error.FormError.{FormError}
use Rattle.trac_forms.specs.declared.error.FormError.TheVariants.{Memory, TooLong}
use Rattle.trac_rules.specs.Outcomes.{OrMemory}
use Rattle.trac_rules.specs.declared.refusal.Refusal.{Refusal}
use Rattle.trac_rules.specs.declared.refusal.Refusal.TheVariants as refused

-- the same as a refusal of a step
abbrev pub as_refusal : FormError → Refusal
as_refusal Memory = refused.Memory
as_refusal TooLong = refused.TooLong

-- a form that stands for so many bytes may be refused for memory, and for its length if it passes the limit
abbrev pub MayRefuseForm : ℕ → FormError → Type 0
MayRefuseForm bytes error = OrMemory (Unit {0}) (λ _. FORM_LIMIT < bytes) (as_refusal error)
