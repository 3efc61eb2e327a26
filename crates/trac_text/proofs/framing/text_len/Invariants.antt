-- What was added up so far.
use Rattle.std.proofs.Common.{◌≡◌, ◌+◌, ◌-◌, ◌^◌, length, take}
use Rattle.std.specs.Prelude.{min}
use Rattle.trac_rules.specs.Limits.{total_length}
use Rattle.trac_text.specs.Framing.{function_bytes, functions_of, texts_of}
use Rattle.trac_text.proofs.framing.text_len.Given as goal

abbrev pub invariant-loop-arguments : goal.invariant-loop-arguments
invariant-loop-arguments g l =
    l.total ≡ min (length l.active + length l.base + function_bytes (functions_of (take l.arguments-index l.functions))) (2 ^ 64 - 1)

abbrev pub invariant-loop-argument : goal.invariant-loop-argument
invariant-loop-argument g l =
    l.total ≡ min (length l.active + length l.base + function_bytes (functions_of (take l.arguments-index l.functions)) + total_length (texts_of (take l.argument-index l.argument-items))) (2 ^ 64 - 1)
