-- Outcomes: what comes of something, or why it is refused; and what a call may answer that is to show an outcome.
use Rattle.std.specs.Prelude.{◌≡◌, if◌then◌else◌, Bool, Result, Ok, Err}
use Rattle.trac_rules.specs.declared.refusal.Refusal.{Refusal}
use Rattle.trac_rules.specs.declared.refusal.Refusal.TheVariants.{Memory, TooLong}

-- ---- outcomes

-- the same outcome, with another view of what comes of it
abbrev pub seen_as : {T U : Type 0} → (T → U) → Result T Refusal → Result U Refusal
seen_as view (Ok x) = Ok (view x)
seen_as view (Err refusal) = Err refusal

-- an outcome that is refused if it does not fit
abbrev pub limited : {T : Type 0} → (T → Bool) → Result T Refusal → Result T Refusal
limited fits (Ok x) = if fits x then Ok x else Err TooLong
limited fits (Err refusal) = Err refusal

-- ---- the one free choice: memory

-- a refusal is `Memory`, if memory may be lacking (`lacks`), or one that is the definitions' own (`said`)
abbrev pub OrMemory : Type 0 → (Refusal → Type 0) → Refusal → Type 0
OrMemory lacks said Memory = lacks
OrMemory lacks said refusal = said refusal

-- memory may be lacking if something comes of it, or if it is `TooLong`; not otherwise
abbrev pub MayLackMemory : {T : Type 0} → Result T Refusal → Type 0
MayLackMemory (Ok x) = Unit {0}
MayLackMemory (Err TooLong) = Unit {0}
MayLackMemory (Err refusal) = ⊥

-- if this is the outcome of the definitions, a call may be refused so
abbrev pub MayRefuse : {T : Type 0} → Result T Refusal → Refusal → Type 0
MayRefuse outcome refusal = OrMemory (MayLackMemory outcome) (λ said. outcome ≡ Err said) refusal

-- a call answers this outcome, or `Memory` if that may be; `view` says how what it gives is seen
abbrev pub MayAnswer : {T C : Type 0} → (C → T) → Result T Refusal → Result C Refusal → Type 0
MayAnswer view outcome (Ok made) = outcome ≡ Ok (view made)
MayAnswer view outcome (Err refusal) = MayRefuse outcome refusal
