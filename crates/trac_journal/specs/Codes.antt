-- The code of what a journal is seen as, by which a proof tells two of them apart. Nothing of the language stands here.
use Rattle.std.specs.Prelude.{◌≡◌, ℕ, zero, suc, List, refl, ◌⊎◌, Bool, Option, true}
use Rattle.std.proofs.Common.{inl, inr}
use Rattle.std.specs.Coded.{Coded, code_by, coded×, coded⊎, coded_list, coded_option, coded_bool, coded_ℕ}
use Rattle.trac_rules.specs.declared.item.CutGap.{CutGap}
use Rattle.trac_rules.specs.declared.kind.Kind.{Kind}
use Rattle.trac_rules.specs.Codes.{form_code, frame_code, kind_code, text_code}
use Rattle.trac_rules.specs.Form.{Form}
use Rattle.trac_rules.specs.Records.{CallRecord, Record, Moved, Comma, Begun, Quoted, Deleted, Idle, Called}
use Rattle.trac_rules.specs.State.{Frame, Held}
use Rattle.trac_rules.specs.Undone.{Undone, Nothing, Point, Join, Swap, Restore, MoveOut, Unbring, Unerase}
use Rattle.trac_journal.specs.Journaled.{Journaled, Lists, Room}
use Rattle.trac_journal.specs.Listed.{Listed}
use Rattle.trac_journal.specs.declared.entry.CallEntry.{CallEntry}

abbrev pub cut_gap_code : Coded CutGap
cut_gap_code = code_by (ℕ × ℕ) (coded× coded_ℕ coded_ℕ) (λ g. (g.place, g.ordinal))
    (λ p. record { place = p.0; ordinal = p.1 }) (λ _. refl)

abbrev pub held_code : Coded Held
held_code = coded_list (coded× text_code form_code)

-- ---- what a call destroyed

abbrev UndoneParts : Type 0
UndoneParts =
    Bool ⊎ (ℕ ⊎ ((List CutGap × ℕ) ⊎ (Option Form ⊎ (Held ⊎ (Option Form ⊎ ((ℕ × Held) ⊎ (ℕ × (Held × Form))))))))

abbrev parts_of_undone : Undone → UndoneParts
parts_of_undone Nothing = inl true
parts_of_undone (Point place) = inr (inl place)
parts_of_undone (Join cut place) = inr (inr (inl (cut, place)))
parts_of_undone (Swap old) = inr (inr (inr (inl old)))
parts_of_undone (Restore held) = inr (inr (inr (inr (inl held))))
parts_of_undone (MoveOut old) = inr (inr (inr (inr (inr (inl old)))))
parts_of_undone (Unbring number held) = inr (inr (inr (inr (inr (inr (inl (number, held)))))))
parts_of_undone (Unerase number held address) = inr (inr (inr (inr (inr (inr (inr (number, (held, address))))))))

abbrev undone_of_parts : UndoneParts → Undone
undone_of_parts (inl b) = Nothing
undone_of_parts (inr (inl place)) = Point place
undone_of_parts (inr (inr (inl p))) = Join p.0 p.1
undone_of_parts (inr (inr (inr (inl old)))) = Swap old
undone_of_parts (inr (inr (inr (inr (inl held))))) = Restore held
undone_of_parts (inr (inr (inr (inr (inr (inl old)))))) = MoveOut old
undone_of_parts (inr (inr (inr (inr (inr (inr (inl p))))))) = Unbring p.0 p.1
undone_of_parts (inr (inr (inr (inr (inr (inr (inr p))))))) = Unerase p.0 p.1.0 p.1.1

pub undone_from_parts : (undone : Undone) → undone_of_parts (parts_of_undone undone) ≡ undone
undone_from_parts Nothing = refl
undone_from_parts other = refl

abbrev pub undone_code : Coded Undone
undone_code = code_by UndoneParts (coded⊎ coded_bool (coded⊎ coded_ℕ
    (coded⊎ (coded× (coded_list cut_gap_code) coded_ℕ) (coded⊎ (coded_option form_code) (coded⊎ held_code (coded⊎
    (coded_option form_code) (coded⊎ (coded× coded_ℕ held_code) (coded× coded_ℕ (coded× held_code form_code)))))))))
    parts_of_undone undone_of_parts undone_from_parts

-- ---- records

abbrev pub call_record_code : Coded CallRecord
call_record_code =
    code_by (Kind × (List (List ℕ) × (ℕ × (Bool × (ℕ × (ℕ × (Option ℕ × (Bool × Undone))))))))
    (coded× kind_code (coded× (coded_list text_code) (coded× coded_ℕ (coded× coded_bool (coded× coded_ℕ (coded× coded_ℕ
    (coded× (coded_option coded_ℕ) (coded× coded_bool undone_code))))))))
    (λ c. (c.kind, (c.arguments, (c.value, (c.scanned, (c.printed, (c.read, (c.meta, (c.trace, c.undone)))))))))
    (λ p. record {
      kind = p.0;
      arguments = p.1.0;
      value = p.1.1.0;
      scanned = p.1.1.1.0;
      printed = p.1.1.1.1.0;
      read = p.1.1.1.1.1.0;
      meta = p.1.1.1.1.1.1.0;
      trace = p.1.1.1.1.1.1.1.0;
      undone = p.1.1.1.1.1.1.1.1;
    })
    (λ _. refl)

abbrev RecordParts : Type 0
RecordParts = ℕ ⊎ ((ℕ × Bool) ⊎ (ℕ ⊎ ((List ℕ × List Frame) ⊎ CallRecord)))

abbrev parts_of_record : Record → RecordParts
parts_of_record Moved = inl 0
parts_of_record Comma = inl 1
parts_of_record Begun = inl 2
parts_of_record (Quoted inner closed) = inr (inl (inner, closed))
parts_of_record (Deleted b) = inr (inr (inl b))
parts_of_record (Idle base frames) = inr (inr (inr (inl (base, frames))))
parts_of_record (Called call) = inr (inr (inr (inr call)))

abbrev short_of_number : ℕ → Record
short_of_number zero = Moved
short_of_number (suc zero) = Comma
short_of_number (suc (suc n)) = Begun

abbrev record_of_parts : RecordParts → Record
record_of_parts (inl n) = short_of_number n
record_of_parts (inr (inl p)) = Quoted p.0 p.1
record_of_parts (inr (inr (inl b))) = Deleted b
record_of_parts (inr (inr (inr (inl p)))) = Idle p.0 p.1
record_of_parts (inr (inr (inr (inr call)))) = Called call

pub record_from_parts : (r : Record) → record_of_parts (parts_of_record r) ≡ r
record_from_parts Moved = refl
record_from_parts other = refl

abbrev pub record_code : Coded Record
record_code = code_by RecordParts (coded⊎ coded_ℕ (coded⊎ (coded× coded_ℕ coded_bool)
    (coded⊎ coded_ℕ (coded⊎ (coded× text_code (coded_list frame_code)) call_record_code))))
    parts_of_record record_of_parts record_from_parts

-- ---- what is kept

abbrev pub room_code : Coded Room
room_code =
    code_by (ℕ × (ℕ × (ℕ × (ℕ × ℕ)))) (coded× coded_ℕ (coded× coded_ℕ (coded× coded_ℕ (coded× coded_ℕ coded_ℕ))))
    (λ r. (r.calls, (r.bytes, (r.commas, (r.undone, r.emptied)))))
    (λ p. record { calls = p.0; bytes = p.1.0; commas = p.1.1.0; undone = p.1.1.1.0; emptied = p.1.1.1.1 })
    (λ _. refl)

abbrev pub call_code : Coded CallEntry
call_code = code_by (ℕ × (ℕ × (ℕ × (ℕ × (ℕ × (Kind × (Bool × (Bool × Option ℕ))))))))
    (coded× coded_ℕ (coded× coded_ℕ (coded× coded_ℕ (coded× coded_ℕ
    (coded× coded_ℕ (coded× kind_code (coded× coded_bool (coded× coded_bool (coded_option coded_ℕ)))))))))
    (λ c. (c.value, (c.printed, (c.read, (c.bytes, (c.commas, (c.kind, (c.scanned, (c.trace, c.meta)))))))))
    (λ p. record {
      value = p.0;
      printed = p.1.0;
      read = p.1.1.0;
      bytes = p.1.1.1.0;
      commas = p.1.1.1.1.0;
      kind = p.1.1.1.1.1.0;
      scanned = p.1.1.1.1.1.1.0;
      trace = p.1.1.1.1.1.1.1.0;
      meta = p.1.1.1.1.1.1.1.1;
    }) (λ _. refl)

abbrev pub listed_code : Coded Listed
listed_code =
    code_by (List CallEntry × (List ℕ × (List ℕ × (List Undone × List (List ℕ × List Frame)))))
    (coded× (coded_list call_code) (coded× text_code (coded× text_code (coded× (coded_list undone_code)
    (coded_list (coded× text_code (coded_list frame_code)))))))
    (λ l. (l.calls, (l.bytes, (l.commas, (l.undone, l.emptied)))))
    (λ p. record { calls = p.0; bytes = p.1.0; commas = p.1.1.0; undone = p.1.1.1.0; emptied = p.1.1.1.1 })
    (λ _. refl)

abbrev pub lists_code : Coded Lists
lists_code = code_by (Listed × Room) (coded× listed_code room_code) (λ l. (l.listed, l.room))
    (λ p. record { listed = p.0; room = p.1 }) (λ _. refl)

abbrev pub journaled_code : Coded Journaled
journaled_code =
    code_by (List Record × (ℕ × Room)) (coded× (coded_list record_code) (coded× coded_ℕ room_code))
    (λ j. (j.records, (j.places, j.room))) (λ p. record { records = p.0; places = p.1.0; room = p.1.1 }) (λ _. refl)
