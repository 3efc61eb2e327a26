-- What the primitives do, and where their values go. The case of names, unknown names, `cm` of an empty text, `hl`, the
-- line of the trace, and that a neutral function's value may be forced is this project's profile.
use Rattle.std.specs.Prelude.{ℕ, ◌+◌, List, [], ◌∷◌, ◌++◌, find, Bool, true, false, Option, None, Some, Result, Ok, Err}
use Rattle.std.specs.Prelude.{codes}
use Rattle.std.specs.List.{join_with_byte}
use Rattle.std.specs.Option.{unwrap_or}
use Rattle.std.specs.Str.{str_eq_ignore_ascii_case}
use Rattle.trac_rules.specs.declared.byte.TheConstants.{STAR, CLOSING, LINE_FEED}
use Rattle.trac_rules.specs.declared.kind.Kind.{Kind}
use Rattle.trac_rules.specs.declared.kind.Kind.TheVariants.{Active, Neutral}
use Rattle.trac_rules.specs.declared.primitive.Primitive.{Primitive}
use Rattle.trac_rules.specs.declared.primitive.Primitive.TheVariants.{PrintString, ReadString, ReadByte, Halt, SetMeta}
use Rattle.trac_rules.specs.declared.primitive.Primitive.TheVariants.{SetTrace, Compute, Handle, HandleBlock, Unknown}
use Rattle.trac_rules.specs.declared.primitive.NamedPrimitive.{NamedPrimitive}
use Rattle.trac_rules.specs.declared.primitive.TheConstants.{NAMES}
use Rattle.trac_rules.specs.declared.refusal.Refusal.{Refusal}
use Rattle.trac_rules.specs.declared.refusal.Refusal.TheVariants.{Ended}
use Rattle.trac_rules.specs.Blocks.{block_handled}
use Rattle.trac_rules.specs.Computing.{computed}
use Rattle.trac_rules.specs.Effect.{Effect, argument, leaves, prints, sets_meta, sets_trace}
use Rattle.trac_rules.specs.Handling.{handled}
use Rattle.trac_rules.specs.Outcomes.{seen_as}
use Rattle.trac_rules.specs.Reading.{byte_read, string_read, unread}
use Rattle.trac_rules.specs.Scanning.{Call, gather}
use Rattle.trac_rules.specs.State.{Environment, State, Storage, storage_of}

-- ---- names

-- what an entry of a table of names stands for, if there is one
abbrev pub named_primitive : Option NamedPrimitive → Primitive
named_primitive None = Unknown
named_primitive (Some entry) = entry.primitive

-- what a name stands for by a table: the first entry of these letters, each in either case
abbrev pub looked_up : List NamedPrimitive → List ℕ → Primitive
looked_up table name = named_primitive (find (λ entry. str_eq_ignore_ascii_case name entry.letters) table)

-- the names of the primitives
abbrev pub known_names : List (List ℕ)
known_names =
    codes "ps" ∷ codes "rs" ∷ codes "rc" ∷ codes "hl" ∷ codes "cm" ∷ codes "tn" ∷ codes "tf" ∷ codes "eq" ∷
    codes "gr" ∷ codes "ad" ∷ codes "su" ∷ codes "ml" ∷ codes "dv" ∷ codes "bu" ∷ codes "bi" ∷ codes "bc" ∷
    codes "bs" ∷ codes "br" ∷ codes "ds" ∷ codes "dd" ∷ codes "da" ∷ codes "ss" ∷ codes "cr" ∷ codes "cl" ∷
    codes "cs" ∷ codes "cc" ∷ codes "cn" ∷ codes "in" ∷ codes "ln" ∷ codes "pf" ∷ codes "sb" ∷ codes "fb" ∷
    codes "eb" ∷ []

-- what a name stands for; an unknown name is no primitive's
abbrev pub primitive_of : List ℕ → Primitive
primitive_of name = looked_up NAMES name

-- ---- primitives

-- the first byte of a text becomes the meta character; an empty text leaves it
abbrev pub meta_set : List ℕ → Storage → Effect
meta_set [] storage = leaves storage
meta_set (b ∷ bytes) storage = sets_meta b storage

-- what a primitive does with these arguments, its name being the first, in this state: of it a primitive uses the meta
-- character, the position and the storage alone
abbrev pub effect_of : Primitive → Environment → List (List ℕ) → State → Result Effect Refusal
effect_of PrintString environment arguments s = Ok (prints (argument 1 arguments) (storage_of s))
effect_of ReadString environment arguments s =
    string_read (unread environment.tape s) environment.tape.ended s.meta (storage_of s)
effect_of ReadByte environment arguments s = byte_read (unread environment.tape s) environment.tape.ended (storage_of s)
-- the processor halts, whatever the tape
effect_of Halt environment arguments s = Err Ended
effect_of SetMeta environment arguments s = Ok (meta_set (argument 1 arguments) (storage_of s))
effect_of (SetTrace trace) environment arguments s = Ok (sets_trace trace (storage_of s))
effect_of (Compute computation) environment arguments s =
    Ok (computed computation environment.width arguments (storage_of s))
effect_of (Handle action) environment arguments s = handled action environment.width arguments (storage_of s)
effect_of (HandleBlock action) environment arguments s = block_handled action arguments (storage_of s)
effect_of Unknown environment arguments s = Ok (leaves (storage_of s))

-- ---- a call

-- how a function of this kind begins
abbrev pub beginning_of : Kind → List ℕ
beginning_of Active = codes "#("
beginning_of Neutral = codes "##("

-- the line of the trace, if the trace is on: the function's beginning, all its arguments with `*` between them, its
-- end, and a line feed
abbrev pub trace_line : Bool → Kind → List (List ℕ) → List ℕ
trace_line false kind arguments = []
trace_line true kind arguments = beginning_of kind ++ join_with_byte STAR arguments ++ CLOSING ∷ LINE_FEED ∷ []

-- an effect with a text printed before all else
abbrev pub printed_after : List ℕ → Effect → Effect
printed_after line e = record e { printed = line ++ e.printed }

-- what a call does: its primitive's effect, with the line of the trace printed first; the flag before the call decides,
-- and a call that is refused prints no line
unfoldable pub performed : Environment → Call → Result Effect Refusal
performed environment call =
    seen_as (printed_after (trace_line call.state.trace call.kind call.arguments))
    (effect_of (primitive_of (argument 0 call.arguments)) environment call.arguments call.state)

-- where the value goes: that of an active function and every forced one before the active text, and any other to the
-- current text
abbrev pub placed : Kind → Bool → List ℕ → State → State
placed Active forced value s = record s { active = value ++ s.active }
placed Neutral true value s = record s { active = value ++ s.active }
placed Neutral false value s = gather value s

-- the state with all that an effect changes, but for its value
abbrev pub changed_by : Effect → State → State
changed_by e s = record s {
  forms = e.storage.forms;
  blocks = e.storage.blocks;
  meta = unwrap_or e.meta s.meta;
  trace = unwrap_or e.trace s.trace;
  position = s.position + e.read;
  output = s.output ++ e.printed;
}

-- the state after a call with this effect
abbrev pub after_call : Call → Effect → State
after_call call e = placed call.kind e.forced e.value (changed_by e call.state)
