-- A step, with origins beside the state after it.
use Rattle.std.proofs.Common.{◌≡◌, ℕ, ◌+◌, ◌<◌, ◌≤◌, Bool, true, false, List, refl, sym, ap, subst, ◌∙◌, arith}
use Rattle.std.specs.Prelude.{Some, Ok, option_map}
use Rattle.std.proofs.lemmas.Bool.{or_left, or_right}
use Rattle.trac_rules.specs.declared.item.Item.{Item}
use Rattle.trac_rules.specs.declared.item.Item.TheVariants.{Byte, Gap}
use Rattle.trac_rules.specs.declared.kind.Kind.{Kind}
use Rattle.trac_rules.specs.declared.kind.Kind.TheVariants.{Active, Neutral}
use Rattle.trac_rules.specs.Effect.{Effect, argument}
use Rattle.trac_rules.specs.Limits.{texts_fit}
use Rattle.trac_rules.specs.Performing.{after_call, changed_by, effect_of, performed, placed, primitive_of, printed_after, trace_line}
use Rattle.trac_rules.specs.Scanning.{Call, Scanned, Moves, Calls, front_of, scan, scan_at}
use Rattle.trac_rules.specs.State.{Environment, State}
use Rattle.trac_rules.specs.Stepping.{carried_out, step}
use Rattle.trac_rules.proofs.Outcomes.{limited_Ok, seen_as-Ok}
use Rattle.trac_rules.proofs.Scans.{ScanShows, place_of, scan_keeps_place}
use Rattle.trac_rules.proofs.Steps.{position-after_call}
use Rattle.trac_origins.specs.Places.{Place, Origin, Carried, Read, Made, byte_at, found_at}
use Rattle.trac_origins.specs.Lists.{Origins, all_kept, all_made, frames_kept}
use Rattle.trac_origins.specs.Moving.{EndedOrigins, deleted_from, ended_from, moved_from}
use Rattle.trac_origins.specs.Performing.{EffectOrigins, after_call_from, changed_from, effect_from, performed_from, placed_from, traced_from}
use Rattle.trac_origins.specs.Stepping.{call_from, origins, scanned_from}
use Rattle.trac_origins.specs.Accounts.{made_in, makes, makes_bytes, makes_gaps, makes_idle}
use Rattle.trac_origins.proofs.Zips.{ends, appended, of_dropped}
use Rattle.trac_origins.proofs.Besides.{EndedBeside, ScanBeside, StateBeside, Text, gathered_beside, kept_beside, scan_beside, with_active}
use Rattle.trac_origins.proofs.CallsBeside.{DoneBeside, EffectBeside, MayBeRead, doing, effect_beside}
use Rattle.trac_origins.proofs.Values.{made_beside}

-- what may be said in a relation of a step from a state, up to the position after it
pub record MaySay (R : Origin → Item → Type 0) (environment : Environment) (s : State) (position : ℕ) : Type 0 where
  pub carried : (place : Place) (item : Item) → found_at s place ≡ Some item → R (Carried place) item
  pub made : (item : Item) → makes item s ≡ true → R Made item
  pub read : (n b : ℕ) → s.position ≤ n → n < position → byte_at n environment.tape.bytes ≡ Some (Byte b) → R (Read n) (Byte b)

module _ (R : Origin → Item → Type 0) where
  -- where a value goes
  placed_beside : (kind : Kind) (forced : Bool) (os : List Origin) (value : List ℕ) → Text R os value → (o : Origins) (s : State) → StateBeside R o s →
      StateBeside R (placed_from kind forced os o) (placed kind forced value s)
  placed_beside Active forced os value t o s b = with_active R _ _ (appended t b.active) o s b
  placed_beside Neutral true os value t o s b = with_active R _ _ (appended t b.active) o s b
  placed_beside Neutral false os value t o s b = gathered_beside R b.frames os value t o s b

  -- what an effect changes
  changed_beside : (f : EffectOrigins) (e : Effect) → EffectBeside R f e → (o : Origins) (s : State) → StateBeside R o s → StateBeside R (changed_from f o) (changed_by e s)
  changed_beside f e h o s b = record {
    active = b.active;
    base = b.base;
    frames = b.frames;
    output = appended b.output h.printed;
    forms = h.forms;
    blocks = h.blocks;
  }

  -- a line that is printed first
  traced_beside : (line : List ℕ) → Text R (all_made line) line → (f : EffectOrigins) (e : Effect) → EffectBeside R f e → EffectBeside R (traced_from line f) (printed_after line e)
  traced_beside line t f e h = record {
    value = h.value;
    printed = appended t h.printed;
    forms = h.forms;
    blocks = h.blocks;
  }

  -- the line of the trace
  line_beside : (call : Call) (trace : Bool) → (trace ≡ true → (b : ℕ) → R Made (Byte b)) → Text R (all_made (trace_line trace call.kind call.arguments)) (trace_line trace call.kind call.arguments)
  line_beside call false made = ends
  line_beside call true made = made_beside R (trace_line true call.kind call.arguments) (made refl)

module _ (R : Origin → Item → Type 0) (environment : Environment) (s t : State) (may : MaySay R environment s t.position) where
  kept : StateBeside R (all_kept s) s
  kept = kept_beside R s may.carried

  pub scanned : ScanBeside R (front_of s.active) s (all_kept s) (scan s)
  unfolding scan
  scanned =
      scan_beside R (front_of s.active) s (all_kept s) kept
      (λ e b. may.made (Byte b) (ap (λ front. made_in (Byte b) s (scan_at front s)) e ∙ ap makes_idle e))

  -- what a call does
  pub whole : (call : Call) (from : EndedOrigins) → scan s ≡ Calls call → EndedBeside R from call → (e : Effect) → performed environment call ≡ Ok e → t ≡ after_call call e →
      EffectBeside R (performed_from (record { environment = environment; call = call; effect = e; from = from })) e
  unfolding performed
  whole call from is given e does after =
      let line = trace_line call.state.trace call.kind call.arguments in
      let primitive = primitive_of (argument 0 call.arguments) in
      let outcome = effect_of primitive environment call.arguments call.state in
      let plain = seen_as-Ok (printed_after line) outcome e does in
      let place : call.state.position ≡ s.position = subst (ScanShows place_of s) is (scan_keeps_place s) in
      let end : t.position ≡ call.state.position + plain.0.read = ap (λ (u : State). u.position) after ∙ position-after_call call e ∙ ap (λ (f : Effect). call.state.position + f.read) plain.2 in
      let made : makes_bytes primitive ≡ true → (b : ℕ) → R Made (Byte b) =
      λ m b. may.made (Byte b) (ap (made_in (Byte b) s) is ∙ or_right call.state.trace (makes_bytes primitive) m) in
      let gap : makes_gaps primitive ≡ true → (k w : ℕ) → R Made (Gap k w) = λ m k w. may.made (Gap k w) (ap (made_in (Gap k w) s) is ∙ m) in
      let traced : call.state.trace ≡ true → (b : ℕ) → R Made (Byte b) =
      λ m b. may.made (Byte b) (ap (made_in (Byte b) s) is ∙ or_left call.state.trace (makes_bytes primitive) m) in
      let read : MayBeRead R environment call from given line plain.0.read =
      λ i b less there. may.read (call.state.position + i) b (omega (arith, place)) (omega (arith, less, end))
      (ap (option_map Byte) (sym (of_dropped call.state.position environment.tape.bytes i) ∙ there)) in
      let effect : EffectBeside R (effect_from primitive (doing R environment call from given line plain.0)) plain.0 = (subst (DoneBeside R environment call from given line (λ f. effect_from primitive (doing R environment call from given line f))) plain.1 (effect_beside R environment call from given line primitive made gap)) read in
      subst
      (λ (f : Effect). EffectBeside R (performed_from (record { environment = environment; call = call; effect = f; from = from })) f) (sym plain.2)
      (traced_beside R line (line_beside R call call.state.trace traced) _ plain.0 effect)

  -- a call
  called : (call : Call) (from : EndedOrigins) → scan s ≡ Calls call → EndedBeside R from call → (e : Effect) → performed environment call ≡ Ok e → t ≡ after_call call e →
      StateBeside R (after_call_from (record { environment = environment; call = call; effect = e; from = from })) (after_call call e)
  called call from is given e does after =
      let effect = whole call from is given e does after in
      placed_beside R call.kind e.forced _ e.value effect.value _ _ (changed_beside R _ _ effect from.others call.state given.others)

  pub stepped : step environment s ≡ Ok t → StateBeside R (origins environment s) t
  unfolding step origins
  stepped h = go (scan s) refl scanned (limited_Ok texts_fit (carried_out environment (scan s)) t h).0
    where
      go : (x : Scanned) → scan s ≡ x → ScanBeside R (front_of s.active) s (all_kept s) x → carried_out environment x ≡ Ok t → StateBeside R (scanned_from environment s x) t
      go (Moves u) is beside out = let same : u ≡ t = cc in subst (StateBeside R (moved_from (front_of s.active) s (all_kept s))) same beside
      go (Calls call) is beside out =
          let at = seen_as-Ok (after_call call) (performed environment call) t out in
          subst (λ outcome. StateBeside R (call_from environment s call outcome) t) (sym at.1)
          (subst (λ (u : State). StateBeside R (call_from environment s call (Ok at.0)) u) (sym at.2)
          (called call (ended_from (frames_kept s.frames) (deleted_from 1 (all_kept s))) is beside at.0 at.1 at.2))
