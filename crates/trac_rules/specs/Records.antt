-- Records: what a step destroys, and how the state before it is got back from that and the state after it. What a rule
-- of scanning only moves is not kept: a record says how much it was, counted from the end of the text to which it went.
-- So it says of a call's value, of what was printed and of what was read how much that was, counted from the ends that
-- grew: no record has a place of the tape or of the output.
use Rattle.std.specs.Prelude.{ℕ, ◌+◌, ◌-◌, ◌==◌, ◌&&◌, nat_le, List, [], ◌∷◌, ◌++◌, length, take, drop, reverse, get_or}
use Rattle.std.specs.Prelude.{if◌then◌else◌, Bool, true, false, Option, None, Some, is_some, option_map}
use Rattle.std.specs.Prelude.{option_and_then, codes}
use Rattle.std.specs.Bool.{then_some}
use Rattle.std.specs.List.{flat_map}
use Rattle.std.specs.Option.{option_to_list, unwrap_or}
use Rattle.std.specs.Result.{result_ok}
use Rattle.std.specs.Str.{bytes_eq}
use Rattle.trac_rules.specs.declared.kind.Kind.{Kind}
use Rattle.trac_rules.specs.declared.kind.Kind.TheVariants.{Active, Neutral}
use Rattle.trac_rules.specs.declared.scan.Front.{Front}
use Rattle.trac_rules.specs.declared.scan.Front.TheVariants as front
use Rattle.trac_rules.specs.Bytes.{idle_program}
use Rattle.trac_rules.specs.Effect.{Effect, argument}
use Rattle.trac_rules.specs.Matching.{match_of, protected}
use Rattle.trac_rules.specs.Performing.{beginning_of, performed, primitive_of}
use Rattle.trac_rules.specs.Proper.{is_proper}
use Rattle.trac_rules.specs.Scanning.{Call, Scanned, Moves, Calls, front_of, scan}
use Rattle.trac_rules.specs.State.{Environment, Frame, State, Storage, storage_of}
use Rattle.trac_rules.specs.Undone.{Undone, storage_before, undone_by}

-- what a call destroyed: its frame, and what its primitive replaced
pub record CallRecord : Type 0 where
  pub kind : Kind
  -- all its arguments, its name being the first
  pub arguments : List (List ℕ)
  -- how long its value was
  pub value : ℕ
  -- whether the value went before the active text to be scanned, and not to the current text
  pub scanned : Bool
  -- how many bytes were printed
  pub printed : ℕ
  -- how many bytes of the tape were read
  pub read : ℕ
  -- the meta character before, if one was set
  pub meta : Option ℕ
  -- whether each call was printed before
  pub trace : Bool
  -- what was destroyed of forms and blocks
  pub undone : Undone

pub data Record : Type 0 where
  -- a byte went to the current text
  Moved : Record
  -- an argument was finished, and an empty one begun
  Comma : Record
  -- a function was begun
  Begun : Record
  -- a protected text of this length went to the current text, and whether a match of its `(` was deleted
  Quoted : ℕ → Bool → Record
  -- this byte was deleted
  Deleted : ℕ → Record
  -- this base text and these frames, the innermost first, were emptied
  Idle : List ℕ → List Frame → Record
  -- a function was performed, and this destroyed
  Called : CallRecord → Record

-- ---- the record of a rule of scanning that moves on

-- a byte that is deleted, the first of the active text
abbrev pub deletion : State → Record
deletion s = Deleted (get_or s.active 0 0)

-- of a `,`, the first argument being the state's frames: outside any function it is deleted
abbrev pub comma_recorded : List Frame → State → Record
comma_recorded [] s = deletion s
comma_recorded (f ∷ fs) s = Comma

-- by what is at the front; a `)` is deleted, outside any function, and inside one it is no rule
-- that moves on but a call
abbrev pub recorded_at : Front → State → Record
recorded_at front.Nothing s = Idle s.base s.frames
recorded_at front.Opening s = Quoted (length (protected (drop 1 s.active)).inner) (is_some (match_of (drop 1 s.active)))
recorded_at front.Layout s = deletion s
recorded_at front.Comma s = comma_recorded s.frames s
recorded_at front.ActiveCall s = Begun
recorded_at front.NeutralCall s = Begun
recorded_at front.Sharp s = Moved
recorded_at front.Closing s = deletion s
recorded_at front.Plain s = Moved

-- what the rule destroys by which scanning moves on from a state
abbrev pub recorded : State → Record
recorded s = recorded_at (front_of s.active) s

-- ---- the record of a step

-- whether a value goes before the active text to be scanned: that of an active function, and every forced one
abbrev pub is_scanned : Kind → Bool → Bool
is_scanned Active forced = true
is_scanned Neutral forced = forced

-- what a call with this effect destroys; the effect's printed text begins with the line of the
-- trace, if there is one
abbrev pub call_recorded : Call → Effect → CallRecord
call_recorded call e = record {
  kind = call.kind;
  arguments = call.arguments;
  value = length e.value;
  scanned = is_scanned call.kind e.forced;
  printed = length e.printed;
  read = e.read;
  meta = option_map (λ meta. call.state.meta) e.meta;
  trace = call.state.trace;
  undone = undone_by (primitive_of (argument 0 call.arguments)) call.arguments (storage_of call.state);
}

-- of what scanning asks for, the record of the call; none if it asks for none, or the call is refused
abbrev pub call_record_in : Environment → Scanned → Option CallRecord
call_record_in environment (Moves t) = None
call_record_in environment (Calls call) = option_map (call_recorded call) (result_ok (performed environment call))

-- the record of the call at which a state stands, if it stands at one and the call is not refused
abbrev pub call_record_of : Environment → State → Option CallRecord
call_record_of environment s = call_record_in environment (scan s)

-- of what scanning gives, the record of the step from the state: of a rule that moves on the one above
abbrev pub record_in : Environment → State → Scanned → Option Record
record_in environment s (Moves t) = Some (recorded s)
record_in environment s (Calls call) = option_map Called (call_record_in environment (Calls call))

-- what the step from a state destroys; none if a call is refused
abbrev pub record_of : Environment → State → Option Record
record_of environment s = record_in environment s (scan s)

-- the records of the steps from these states over one tape
abbrev pub records_from : Environment → List State → List Record
records_from environment states = flat_map (λ s. option_to_list (record_of environment s)) states

-- ---- the state before a step of scanning

-- the last n bytes of a text, if there are so many
abbrev pub last_of : ℕ → List ℕ → List ℕ
last_of n text = drop (length text - n) text

-- the text without them
abbrev pub all_before_last : ℕ → List ℕ → List ℕ
all_before_last n text = take (length text - n) text

-- a state with a text before its active text
abbrev pub put_before : List ℕ → State → State
put_before text s = record s { active = text ++ s.active }

-- the last n bytes of the current text go back before the active text; none if it has fewer. The first argument is the
-- state's frames
abbrev pub moved_back_in : List Frame → ℕ → State → Option State
moved_back_in [] n s =
    then_some (nat_le n (length s.base)) (put_before (last_of n s.base) (record s { base = all_before_last n s.base }))
moved_back_in (f ∷ fs) n s = then_some (nat_le n (length f.gathered)) (put_before (last_of n f.gathered)
    (record s { frames = record f { gathered = all_before_last n f.gathered } ∷ fs }))

abbrev pub moved_back : ℕ → State → Option State
moved_back n s = moved_back_in s.frames n s

-- a frame with these arguments, the last one first, which is being gathered; none if there is none
abbrev pub frame_backward : Kind → List (List ℕ) → Option Frame
frame_backward kind [] = None
frame_backward kind (text ∷ earlier) = Some (record { kind = kind; arguments = reverse earlier; gathered = text })

-- a frame with these arguments, the last of which is being gathered; none if there is none
abbrev pub frame_of : Kind → List (List ℕ) → Option Frame
frame_of kind arguments = frame_backward kind (reverse arguments)

-- the argument that was finished last is gathered again, and its `,` is back. None outside any function, if no argument
-- is finished, or if the one after it is not empty. The first argument is the state's frames
abbrev pub gathered_again_in : List Frame → State → Option State
gathered_again_in [] s = None
gathered_again_in (f ∷ fs) s =
    if length f.gathered == 0
    then option_map (λ g. put_before (codes ",") (record s { frames = g ∷ fs })) (frame_of f.kind f.arguments)
    else None

-- the innermost function is gone, and its beginning is back. None outside any function, or if the function is more than
-- begun. The first argument is the state's frames
abbrev pub not_begun_in : List Frame → State → Option State
not_begun_in [] s = None
not_begun_in (f ∷ fs) s = then_some (length f.arguments == 0 && length f.gathered == 0)
    (put_before (beginning_of f.kind) (record s { frames = fs }))

-- the end of a protected text: the match, if it had one
abbrev pub ending_of : Bool → List ℕ
ending_of true = codes ")"
ending_of false = []

-- whether nothing but the idle program is there to be scanned, and no function is begun
abbrev pub is_idle : State → Bool
is_idle s = bytes_eq s.active idle_program && length s.base == 0 && length s.frames == 0

-- ---- the state before a call, in three parts: each is got back from its part of the state after,
-- whatever the others are

-- texts and begun functions, the innermost first
pub record Texts : Type 0 where
  pub active : List ℕ
  pub base : List ℕ
  pub frames : List Frame

-- the texts and begun functions of a state
abbrev pub texts_in : State → Texts
texts_in s = record { active = s.active; base = s.base; frames = s.frames }

-- the last n bytes are off the current text; none if it has fewer. The first argument is the frames
abbrev pub end_taken_in : List Frame → ℕ → Texts → Option Texts
end_taken_in [] n texts =
    then_some (nat_le n (length texts.base)) (record texts { base = all_before_last n texts.base })
end_taken_in (f ∷ fs) n texts = then_some (nat_le n (length f.gathered))
    (record texts { frames = record f { gathered = all_before_last n f.gathered } ∷ fs })

-- a value of n bytes is taken off again, from where it went. That is the front of the active text if it was to be
-- scanned, or else the end of the current text
abbrev pub value_taken : Bool → ℕ → Texts → Option Texts
value_taken true n texts = then_some (nat_le n (length texts.active)) (record texts { active = drop n texts.active })
value_taken false n texts = end_taken_in texts.frames n texts

-- a function with these arguments is begun again, and its `)` is back; none if there is no argument
abbrev pub begun_again : Kind → List (List ℕ) → Texts → Option Texts
begun_again kind arguments texts =
    option_map (λ f. record texts { active = codes ")" ++ texts.active; frames = f ∷ texts.frames })
    (frame_of kind arguments)

-- texts and begun functions before a call, from those after it
abbrev pub texts_before : CallRecord → Texts → Option Texts
texts_before call texts =
    option_and_then (begun_again call.kind call.arguments) (value_taken call.scanned call.value texts)

-- all else but forms and blocks
pub record Rest : Type 0 where
  pub meta : ℕ
  pub trace : Bool
  pub position : ℕ
  pub output : List ℕ

-- all else of a state
abbrev pub rest_of : State → Rest
rest_of s = record { meta = s.meta; trace = s.trace; position = s.position; output = s.output }

-- all else before a call, from that after it: the old meta character if one was set, and the old flag. What was read is
-- to be read again, and what was printed is off the output. None if less is read or printed
abbrev pub rest_before : CallRecord → Rest → Option Rest
rest_before call rest =
    then_some (nat_le call.read rest.position && nat_le call.printed (length rest.output))
    (record {
      meta = unwrap_or call.meta rest.meta;
      trace = call.trace;
      position = rest.position - call.read;
      output = all_before_last call.printed rest.output;
    })

-- the state of these parts
abbrev pub state_of : Texts → Storage → Rest → State
state_of texts storage rest = record {
  active = texts.active;
  base = texts.base;
  frames = texts.frames;
  forms = storage.forms;
  blocks = storage.blocks;
  meta = rest.meta;
  trace = rest.trace;
  position = rest.position;
  output = rest.output;
}

-- the state of these parts, if all are there
abbrev pub put_together : Option Texts → Option Storage → Option Rest → Option State
put_together (Some texts) (Some storage) (Some rest) = Some (state_of texts storage rest)
put_together texts storage rest = None

-- the state before a call
abbrev pub restored_call : CallRecord → State → Option State
restored_call call t = put_together (texts_before call (texts_in t))
    (storage_before call.arguments call.undone (storage_of t)) (rest_before call (rest_of t))

-- ---- the state before a step

-- the state before, from a record and the state after, before the limits are looked at. None if the state after does
-- not show what the record names. Of a protected text without a match it is not asked that the active text after it is
-- empty
abbrev pub restored : Record → State → Option State
restored Moved t = moved_back 1 t
restored Comma t = gathered_again_in t.frames t
restored Begun t = not_begun_in t.frames t
restored (Quoted inner closed) t =
    option_map (put_before (codes "(")) (moved_back inner (put_before (ending_of closed) t))
restored (Deleted b) t = Some (put_before (b ∷ []) t)
restored (Idle base frames) t = then_some (is_idle t) (record t { active = []; base = base; frames = frames })
restored (Called call) t = restored_call call t

-- the state before; none also if that is no proper state
unfoldable pub state_before : Record → State → Option State
state_before r t = option_and_then (λ s. then_some (is_proper s) s) (restored r t)

-- the state from which steps with these records lead to this one, the newest record first
abbrev pub led_back : List Record → State → Option State
led_back [] t = Some t
led_back (r ∷ records) t = option_and_then (led_back records) (state_before r t)

-- a record is one of scanning, and not of a call
abbrev pub IsOfScanning : Record → Type 0
IsOfScanning (Called call) = ⊥
IsOfScanning r = Unit {0}

-- a state at a position that is k further on, with an output that has a text before it
abbrev pub further_on : ℕ → List ℕ → State → State
further_on k text s = record s { position = k + s.position; output = text ++ s.output }
