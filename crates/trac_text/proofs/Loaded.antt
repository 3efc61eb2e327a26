-- Lists that were made of texts and begun functions are sound.
use Rattle.std.proofs.Common.{◌≡◌, ℕ, ◌+◌, ◌≤◌, List, [], length, sym, ◌∙◌, arith}
use Rattle.std.specs.Prelude.{Vec}
use Rattle.std.proofs.lemmas.List.{length-map, length-reverse}
use Rattle.trac_gap.specs.Ends.{Ends, item_count}
use Rattle.trac_rules.specs.declared.kind.Kind.{Kind}
use Rattle.trac_rules.specs.declared.limit.TheConstants.{MARK_LIMIT, TEXT_LIMIT}
use Rattle.trac_text.specs.declared.mark.Mark.{Mark}
use Rattle.trac_text.specs.Framing.{EachGathers, argument_count, frames_of, function_bytes, functions_of, marked_in}
use Rattle.trac_text.specs.Holding.{AreSound}
use Rattle.trac_text.specs.Neutral.{IsOrdered, neutral_of}
use Rattle.trac_text.proofs.Framed.{bytes_of_frames, marks_of_frames}
use Rattle.trac_text.proofs.Holding.{Hold, byte_count, held_in, mark_count}
use Rattle.trac_rules.specs.Records.{Texts}

-- as many frames as functions that are given
given_count : {A : Type 0} (functions : List (Kind × Vec (Vec ℕ A) A)) → length (frames_of (functions_of functions)) ≡ length functions
given_count functions = length-reverse _ ∙ length-map (functions_of functions) _ ∙ length-map functions _

pub loaded_now : {A : Type 0} (functions : List (Kind × Vec (Vec ℕ A) A)) (active base : List ℕ) → EachGathers functions → length active + length base + function_bytes (functions_of functions) ≤ TEXT_LIMIT →
    argument_count (functions_of functions) ≤ MARK_LIMIT → {text : Ends ℕ} {ms : Ends Mark} → neutral_of (marked_in text ms) ≡ record { base = base; frames = frames_of (functions_of functions) } →
    text.right ≡ active → IsOrdered (marked_in text ms) → ms.right ≡ [] → item_count text ≤ text.capacity → length ms.left ≤ ms.capacity → AreSound (length functions) text ms
loaded_now functions active base each text_limit mark_limit {text} {ms} same right ordered on_left text_room mark_room =
    let t : Texts = record { active = active; base = base; frames = frames_of (functions_of functions) } in
    let holds : Hold text ms t = record { active = right; neutral = record { same = same; ordered = ordered }; on_left = on_left } in
    (held_in holds (sym (given_count functions)) (record {
      text_room = omega (arith, text_room, byte_count holds);
      mark_room = omega (arith, mark_room, mark_count holds);
      text_limit = omega (arith, text_limit, bytes_of_frames (functions_of functions));
      mark_limit = omega (arith, mark_limit, marks_of_frames functions each);
    })).sound
