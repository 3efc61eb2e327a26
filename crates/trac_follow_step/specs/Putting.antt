-- What a call puts under a name.
use Rattle.std.specs.Prelude.{ℕ, List, bytes_eq, if◌then◌else◌}
use Rattle.trac_rules.specs.declared.primitive.BlockAction.TheVariants.{StoreBlock, FetchBlock}
use Rattle.trac_rules.specs.declared.primitive.FormAction.TheVariants.{Define, Segment}
use Rattle.trac_rules.specs.declared.primitive.Primitive.{Primitive}
use Rattle.trac_rules.specs.declared.primitive.Primitive.TheVariants.{Handle, HandleBlock}
use Rattle.trac_follow_step.specs.declared.called.Put as code

-- of this primitive, with this argument 1
abbrev pub put_by : Primitive → List ℕ → List ℕ → code.Put
put_by (Handle Define) given name = if bytes_eq name given then code.TheVariants.Text else code.TheVariants.Nothing
put_by (Handle Segment) given name = if bytes_eq name given then code.TheVariants.Cut else code.TheVariants.Nothing
put_by (HandleBlock StoreBlock) given name =
    if bytes_eq name given then code.TheVariants.Address else code.TheVariants.Nothing
put_by (HandleBlock FetchBlock) given name = code.TheVariants.Fetched
put_by primitive given name = code.TheVariants.Nothing
