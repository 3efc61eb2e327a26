-- Where what stands in the state after a step comes from.
use Rattle.std.specs.Prelude.{Result, Ok, Err}
use Rattle.trac_rules.specs.declared.refusal.Refusal.{Refusal}
use Rattle.trac_rules.specs.Effect.{Effect}
use Rattle.trac_rules.specs.Performing.{performed}
use Rattle.trac_rules.specs.Scanning.{Call, Scanned, Moves, Calls, front_of, scan}
use Rattle.trac_rules.specs.State.{Environment, State}
use Rattle.trac_origins.specs.Places.{Place, Origin}
use Rattle.trac_origins.specs.Lists.{Origins, all_kept, frames_kept, origin_at}
use Rattle.trac_origins.specs.Moving.{deleted_from, ended_from, moved_from}
use Rattle.trac_origins.specs.Performing.{after_call_from}

-- after a call; if it is refused, all is as before
abbrev pub call_from : Environment → State → Call → Result Effect Refusal → Origins
call_from environment s call (Ok e) = after_call_from (record {
  environment = environment;
  call = call;
  effect = e;
  from = ended_from (frames_kept s.frames) (deleted_from 1 (all_kept s));
})
call_from environment s call (Err refusal) = all_kept s

-- after what scanning gives
abbrev pub scanned_from : Environment → State → Scanned → Origins
scanned_from environment s (Moves t) = moved_from (front_of s.active) s (all_kept s)
scanned_from environment s (Calls call) = call_from environment s call (performed environment call)

-- after the step from a state
unfoldable pub origins : Environment → State → Origins
origins environment s = scanned_from environment s (scan s)

-- where what stands at a place after the step from a state comes from
abbrev pub origin : Environment → State → Place → Origin
origin environment s place = origin_at (origins environment s) place
