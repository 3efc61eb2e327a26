-- What a writer holds after a text was written, whole or in part.
use Rattle.std.specs.Prelude.{◌≡◌, ℕ, List, Option, ◌⊎◌}
use Rattle.std.specs.Io.KnownBytes.{Appends}
use Rattle.trac_rules.specs.Fronts.{IsFrontOf}
use Rattle.trac_streams.specs.declared.ending.Ending.{Ending}
use Rattle.trac_streams.specs.declared.ending.Ending.TheVariants.{Write}

-- a front of a text was written, and no more
pub record WritesFront (old new : Option (List ℕ)) (text : List ℕ) : Type 0 where
  pub written : List ℕ
  pub front : IsFrontOf written text
  pub gave : Appends old new written

-- a run that was to end so, with this text pending, ended so and wrote it all, or ended for a fault of the writer
pub record Closes (old new : Option (List ℕ)) (text : List ℕ) (ending result : Ending) : Type 0 where
  pub written : List ℕ
  pub front : IsFrontOf written text
  pub gave : Appends old new written
  pub ends : ((result ≡ ending) × (written ≡ text)) ⊎ (result ≡ Write)
