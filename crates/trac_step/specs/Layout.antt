-- How the parts of a machine are read as a state.
use Rattle.std.specs.Prelude.{ℕ, ◌≤◌, List, length, Bool, refl}
use Rattle.std.specs.Coded.{Coded, code_by, coded×, coded_ℕ}
use Rattle.std.specs.FinSet as set
use Rattle.trac_rules.specs.declared.width.Width.{Width}
use Rattle.trac_gap.specs.Window.{Window}
use Rattle.trac_rules.specs.declared.limit.TheConstants.{OUTPUT_LIMIT}
use Rattle.trac_rules.specs.Records.{Rest, state_of}
use Rattle.trac_rules.specs.State.{State, Storage}
use Rattle.trac_rules.specs.Proper.{IsProperStorage}
use Rattle.trac_rules.specs.Codes.{state_code, text_code, width_code}
use Rattle.trac_forms.specs.Stored.{Names, Stored, storage_in}
use Rattle.trac_text.specs.Holding.{ShownTexts}

-- ---- what a contract sees of a machine

-- its state; how wide numbers are; how many bytes of texts, how many marks and how many bytes of output it has room for
-- without more memory; the names under which it can put a form without more memory, those of them that a sweep of aged
-- names leaves, and how many blocks it can add without more memory
pub record Shown : Type 0 where
  pub state : State
  pub width : Width
  pub text_room : ℕ
  pub mark_room : ℕ
  pub output_room : ℕ
  pub known : Names
  pub recent : Names
  pub spare : ℕ

-- meta character, trace, position and output
abbrev pub rest_in : ℕ → Bool → ℕ → Window ℕ → Rest
rest_in meta trace position output = record { meta = meta; trace = trace; position = position; output = output.items }

-- what is seen of a machine with these texts, this store, meta character, trace, position and output, and this width
abbrev pub shown_by : ShownTexts → Stored → ℕ → Bool → ℕ → Window ℕ → Width → Shown
shown_by texts store meta trace position output width = record {
  state = state_of texts.texts (storage_in store) (rest_in meta trace position output);
  width = width;
  text_room = texts.text_room;
  mark_room = texts.mark_room;
  output_room = output.capacity;
  known = store.known;
  recent = store.recent;
  spare = store.spare;
}

-- what is true of every machine, beside what is true of its texts: storage and output are within the limits
pub record IsMachine (storage : Storage) (output : List ℕ) : Type 0 where
  pub storage_is : IsProperStorage storage
  pub output_limit : length output ≤ OUTPUT_LIMIT

abbrev pub shown_code : Coded Shown
shown_code = code_by (State × (Width × (ℕ × (ℕ × (ℕ × (Names × (Names × ℕ))))))) (coded× state_code
    (coded× width_code (coded× coded_ℕ
    (coded× coded_ℕ (coded× coded_ℕ (coded× (set.code text_code) (coded× (set.code text_code) coded_ℕ)))))))
    (λ m. (m.state, (m.width, (m.text_room, (m.mark_room, (m.output_room, (m.known, (m.recent, m.spare))))))))
    (λ p. record {
      state = p.0;
      width = p.1.0;
      text_room = p.1.1.0;
      mark_room = p.1.1.1.0;
      output_room = p.1.1.1.1.0;
      known = p.1.1.1.1.1.0;
      recent = p.1.1.1.1.1.1.0;
      spare = p.1.1.1.1.1.1.1;
    }) (λ _. refl)
