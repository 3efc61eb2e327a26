-- The arguments of begun functions, kept apart from the neutral text.
use Rattle.std.specs.Prelude.{ℕ, List, [], ◌∷◌, ◌++◌, map, take, drop, refl}
use Rattle.std.specs.Coded.{Coded, code_by, coded×, coded_list}
use Rattle.trac_rules.specs.declared.kind.Kind.{Kind}
use Rattle.trac_rules.specs.Codes.{text_code}
use Rattle.trac_rules.specs.State.{Frame}

-- all arguments of a begun function: at least one, the last of which is being gathered
pub record Arguments : Type 0 where
  pub finished : List (List ℕ)
  pub gathered : List ℕ

abbrev pub arguments_code : Coded Arguments
arguments_code =
    code_by (List (List ℕ) × List ℕ) (coded× (coded_list text_code) text_code)
    (λ a. (a.finished, a.gathered)) (λ p. record { finished = p.0; gathered = p.1 }) (λ _. refl)

-- a text that holds them one after another, cut by the lengths of all but the last
abbrev pub cut_at : List ℕ → List ℕ → Arguments
cut_at [] text = record { finished = []; gathered = text }
cut_at (n ∷ lengths) text = record {
  finished = take n text ∷ (cut_at lengths (drop n text)).finished;
  gathered = (cut_at lengths (drop n text)).gathered;
}

-- the texts of all of them
abbrev pub all_texts : Arguments → List (List ℕ)
all_texts a = a.finished ++ a.gathered ∷ []

-- a begun function with its arguments, as a frame
abbrev pub frame_in : Kind × Arguments → Frame
frame_in entry = record { kind = entry.0; arguments = entry.1.finished; gathered = entry.1.gathered }

-- begun functions with their arguments, as frames
abbrev pub frames_in : List (Kind × Arguments) → List Frame
frames_in frames = map frame_in frames
