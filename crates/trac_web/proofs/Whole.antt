-- What was written of whole texts.
use Rattle.std.proofs.Common.{◌≡◌, ◌<◌, ◌≤◌, ℕ, List, [], ◌++◌, length, refl, sym, ap, subst, ◌∙◌}
use Rattle.std.specs.Prelude.{Some, ◌↔◌}
use Rattle.std.specs.Io.KnownBytes.{Keeps}
use Rattle.trac_rules.specs.declared.limit.TheConstants.{TAPE_LIMIT}
use Rattle.trac_streams.specs.declared.ending.Ending.{Ending}
use Rattle.trac_streams.specs.declared.ending.Ending.TheVariants.{Limit}
use Rattle.trac_walk.specs.Ends.{MayEnd}
use Rattle.trac_places.specs.declared.report.TheConstants.{PLACE_LIMIT}
use Rattle.trac_places.specs.declared.report.Found.{Found}
use Rattle.trac_places.specs.Findings.{IsWritten}
use Rattle.trac_web.specs.Requests.{WritesDoubts, WritesTalk, search_ending}

-- a dialogue, which wrote all of that
pub whole_talk : (program before all : List ℕ) (ending : Ending) → before ≡ [] → MayEnd ending → (ending ≡ Limit) ↔ (TAPE_LIMIT < length program) →
    (ending ≡ Limit → Keeps (Some before) (Some all)) → WritesTalk program all ending
whole_talk program before all ending none ends too_long nothing = record { ends = ends; too_long = too_long; nothing = λ is. nothing is ∙ none }

-- a search for doubts, which wrote all of that
pub whole_doubts : (before all : List ℕ) (found : Found) → before ≡ [] → found.told ≤ PLACE_LIMIT → IsWritten (Some before) (Some all) found →
    WritesDoubts found.told all (search_ending found.halt)
whole_doubts before all found none few w =
    let is_all : w.written ≡ all = sym (w.gave ∙ ap (λ b. b ++ w.written) none) in
    record {
      few = few;
      none = λ zero. subst (λ t. t ≡ []) is_all (w.none zero);
      some = λ positive other. subst (λ t. 0 < length t) is_all (w.some positive (λ is. other (ap search_ending is)));
      halt = found.halt;
      ends = refl;
    }
