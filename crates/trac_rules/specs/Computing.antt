-- Values made of arguments alone: decisions, decimals and bit strings. A number of places that does not fit gives
-- empty by this project's profile.
use Rattle.std.specs.Prelude.{ℕ, ℤ, List, [], Bool, true, false, Option, None, Some}
use Rattle.std.specs.Str.{bytes_eq}
use Rattle.trac_rules.specs.declared.primitive.Computation.{Computation}
use Rattle.trac_rules.specs.declared.primitive.Computation.TheVariants.{Equal, Greater, Calculate, Union, Meet}
use Rattle.trac_rules.specs.declared.primitive.Computation.TheVariants.{Complement, Shift, Rotate}
use Rattle.trac_rules.specs.declared.primitive.Operation.{Operation}
use Rattle.trac_rules.specs.declared.primitive.Operation.TheVariants.{Add, Subtract, Multiply, Divide}
use Rattle.trac_rules.specs.declared.width.Width.{Width}
use Rattle.trac_rules.specs.State.{Storage}
use Rattle.trac_rules.specs.Effect.{Effect, argument, gives, gives_or_forces}
use Rattle.trac_rules.specs.Number.{calculated, difference_of, is_greater, number_of, numeral_of, product_of}
use Rattle.trac_rules.specs.Number.{quotient_of, sum_of}
use Rattle.trac_rules.specs.Octal.{bits_of, complement, meet, octal_tail, rotate, shift, text_of, union}

-- a decision gives the argument after the two that it looks at, or the one after that
abbrev pub chosen : Bool → List (List ℕ) → List ℕ
chosen true arguments = argument 3 arguments
chosen false arguments = argument 4 arguments

-- the result of an operation, if it fits
abbrev pub result_of : Operation → Width → ℤ → ℤ → Option ℤ
result_of Add width a b = sum_of width a b
result_of Subtract width a b = difference_of width a b
result_of Multiply width a b = product_of width a b
result_of Divide width a b = quotient_of width a b

-- the bits of the octal string of an argument
abbrev pub octal_argument : ℕ → List (List ℕ) → List Bool
octal_argument k arguments = bits_of (octal_tail (argument k arguments))

-- bits moved by a number; empty if there is none, since it does not fit
abbrev pub moved : (ℤ → List Bool → List Bool) → Option ℤ → List Bool → List ℕ
moved by (Some n) bits = text_of (by n bits)
moved by None bits = []

-- the number of an argument, its prefix dropped, if it fits
abbrev pub number_argument : Width → ℕ → List (List ℕ) → Option ℤ
number_argument width k arguments = number_of width (numeral_of (argument k arguments))

-- the value of a computation of these arguments, on numbers of this width; nothing else changes
abbrev pub computed : Computation → Width → List (List ℕ) → Storage → Effect
computed Equal width arguments = gives (chosen (bytes_eq (argument 1 arguments) (argument 2 arguments)) arguments)
computed Greater width arguments =
    gives (chosen (is_greater (numeral_of (argument 1 arguments)) (numeral_of (argument 2 arguments))) arguments)
computed (Calculate operation) width arguments =
    gives_or_forces (calculated (result_of operation) width (argument 1 arguments) (argument 2 arguments))
    (argument 3 arguments)
computed Union width arguments = gives (text_of (union (octal_argument 1 arguments) (octal_argument 2 arguments)))
computed Meet width arguments = gives (text_of (meet (octal_argument 1 arguments) (octal_argument 2 arguments)))
computed Complement width arguments = gives (text_of (complement (octal_argument 1 arguments)))
computed Shift width arguments = gives (moved shift (number_argument width 1 arguments) (octal_argument 2 arguments))
computed Rotate width arguments = gives (moved rotate (number_argument width 1 arguments) (octal_argument 2 arguments))
