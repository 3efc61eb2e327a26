-- Whether there is a doubt among some, and whether an operation gives no result.
use Rattle.std.proofs.Common.{◌≡◌, ℕ, Bool, not, List, length, refl, sym, ap, ◌∙◌}
use Rattle.std.specs.Prelude.{Option, None, Some, ℤ, is_some, nat_lt}
use Rattle.std.specs.Option.{is_none}
use Rattle.trac_rules.specs.declared.primitive.Operation.{Operation}
use Rattle.trac_rules.specs.declared.width.Width.{Width}
use Rattle.trac_rules.specs.Computing.{number_argument, result_of}
use Rattle.trac_rules.specs.Effect.{argument}
use Rattle.trac_rules.specs.Number.{after_prefix, calculated, on_both, prefix_of}
use Rattle.trac_rules.specs.declared.doubt.Doubt.{Doubt}

-- whether there is a doubt among these
abbrev pub is_any : List Doubt → Bool
is_any doubts = nat_lt 0 (length doubts)

-- ---- a result that is missing

none_after : (prefix : List ℕ) (o : Option ℤ) → is_none (after_prefix prefix o) ≡ is_none o
none_after prefix None = refl
none_after prefix (Some n) = refl

-- whether there is none, as its code tests it
pub silent : (operation : Operation) (width : Width) (arguments : List (List ℕ)) (o : Option ℤ) (there : Bool) →
    o ≡ on_both (result_of operation width) (number_argument width 1 arguments) (number_argument width 2 arguments) → is_some o ≡ there →
    not there ≡ is_none (calculated (result_of operation) width (argument 1 arguments) (argument 2 arguments))
unfolding calculated
silent operation width arguments o there e is =
    ap not (sym is) ∙ ap is_none e ∙ sym (none_after (prefix_of (argument 1 arguments)) (on_both (result_of operation width) (number_argument width 1 arguments) (number_argument width 2 arguments)))
