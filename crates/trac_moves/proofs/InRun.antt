-- The states that a session keeps are those of a run, a command after the other.
use Rattle.std.proofs.Common.{◌≡◌, ℕ, zero, suc, ◌+◌, ◌-◌, ◌≤◌, List, [], ◌∷◌, ◌++◌, length, take, drop, refl, sym, ap, subst, ◌∙◌, arith}
use Rattle.std.specs.Prelude.{Ok, Some, map, false, true}
use Rattle.std.proofs.lemmas.Bool.{false≢true}
use Rattle.std.proofs.lemmas.List.{append_assoc, drop-append-le, drop-drop, length-append, length-drop}
use Rattle.std.proofs.lemmas.Option.{option_and_then_some}
use Rattle.trac_rules.specs.declared.width.Width.{Width}
use Rattle.trac_rules.specs.GoingOn.{whole}
use Rattle.trac_rules.specs.Outcomes.{seen_as}
use Rattle.trac_rules.specs.Running.{silent}
use Rattle.trac_rules.specs.Session.{PlainSession, Back, Commit, End, Feed, Step, accepted_by, answer, done, first_kept, first_of, new_session, over, released, repeated}
use Rattle.trac_rules.specs.State.{Environment, State, Tape, initial}
use Rattle.trac_rules.specs.Stepping.{step}
use Rattle.trac_rules.specs.Trails.{AreSteps, IsTrail}
use Rattle.trac_rules.proofs.LongerTapes.{step-whole}
use Rattle.trac_rules.proofs.Outcomes.{seen_as-Ok}
use Rattle.trac_rules.proofs.Replies.{Commit_done, End_done, Feed_done, Step_done, accepted_done}
use Rattle.trac_rules.proofs.Steps.{cut, moved_back, step-cut, step-silent_Ok, step_onward}
use Rattle.trac_rules.proofs.TakenAgain.{Back_done}
use Rattle.trac_moves.specs.States.{AreOfRun, IsOfRun, KeepsStates}

-- ---- one state

step_of_run : (e : Environment) (d n : ℕ) (s t : State) → IsOfRun e d n s → step (cut d e) s ≡ Ok t → IsOfRun e d (suc n) t
step_of_run e d n s t of taken =
    let quiet = step-silent_Ok (cut d e) s t taken in
    let moved : seen_as (moved_back d) (step e (silent of.state)) ≡ Ok quiet.0 =
    sym (step-cut d e (silent of.state) of.read) ∙ ap (step (cut d e)) (sym of.same) ∙ quiet.1 in
    let at = seen_as-Ok (moved_back d) (step e (silent of.state)) quiet.0 moved in
    record {
      state = at.0;
      reached = (of.state, of.reached, at.1);
      read = omega (arith, of.read, step_onward e (silent of.state) at.0 at.1);
      same = ap silent quiet.2 ∙ ap silent at.2;
    }

-- released of some of its output, over a tape that has lost as much as this
released_of_run : (e : Environment) (d n o k : ℕ) (s : State) → IsOfRun e d n s → k ≤ s.position → IsOfRun e (d + k) n (released o k s)
released_of_run e d n o k s of few =
    let place : s.position ≡ of.state.position - d = ap (λ (u : State). u.position) of.same in
    let further : (of.state.position - d) - k ≡ of.state.position - (d + k) = omega arith in
    record {
      state = of.state;
      reached = of.reached;
      read = omega (arith, few, place, of.read);
      same = ap (λ (u : State). record u { position = u.position - k }) of.same ∙ ap (λ p. record of.state { output = []; position = p }) further;
    }

-- ---- lists of states

first_read : (e : Environment) (earlier : List State) (t : State) → AreSteps e earlier t → (first_of t earlier).position ≤ t.position
first_read e [] t all = omega arith
first_read e (s ∷ earlier) t all = omega (arith, first_read e earlier s all.1, step_onward e s t all.0)

last_steps : (e : Environment) (keep : ℕ) (earlier : List State) (t : State) → AreSteps e earlier t → AreSteps e (take keep earlier) t
last_steps e zero earlier t all = tt
last_steps e (suc keep) [] t all = tt
last_steps e (suc keep) (s ∷ earlier) t all = (all.0, last_steps e keep earlier s all.1)

last_of_run : (e : Environment) (d n : ℕ) (t : State) (earlier : List State) → AreOfRun e d n t earlier → IsOfRun e d n t
last_of_run e d n t [] all = all
last_of_run e d n t (s ∷ earlier) all = all.0

take_of_run : (e : Environment) (d n keep : ℕ) (t : State) (earlier : List State) → AreOfRun e d n t earlier → AreOfRun e d n t (take keep earlier)
take_of_run e d n zero t earlier all = last_of_run e d n t earlier all
take_of_run e d n (suc keep) t [] all = all
take_of_run e d n (suc keep) t (s ∷ earlier) all = (all.0, all.1, take_of_run e d (n - 1) keep s earlier all.2)

all_released : (e f : Environment) (d n o k : ℕ) (t : State) (earlier : List State) → AreOfRun e d n t earlier → AreSteps f earlier t → k ≤ (first_of t earlier).position →
    AreOfRun e (d + k) n (released o k t) (map (released o k) earlier)
all_released e f d n o k t [] all steps few = released_of_run e d n o k t all few
all_released e f d n o k t (s ∷ earlier) all steps few = (
  released_of_run e d n o k t all.0 (omega (arith, few, first_read f (s ∷ earlier) t steps)),
  all.1,
  all_released e f d (n - 1) o k s earlier all.2 steps.1 few,
)

-- ---- each command

pub new_keeps : (limit : ℕ) (width : Width) (tape : Tape) → KeepsStates tape 0 (record (new_session limit width) { tape = tape })
new_keeps limit width tape = record {
  dropped = 0;
  few = omega arith;
  tape = refl;
  states = λ more none. record { state = initial; reached = refl; read = omega arith; same = refl };
}

-- the tape that is left of one that goes on
cut_whole : (d : ℕ) (input : Tape) (more : List ℕ) (width : Width) → d ≤ length input.bytes →
    cut d (over width (whole input more)) ≡ over width (whole (record input { bytes = drop d input.bytes }) more)
cut_whole d input more width few = ap (λ (bytes : List ℕ). over width (record { bytes = bytes; ended = true })) (drop-append-le d input.bytes more few)

pub step_keeps : (input : Tape) (steps : ℕ) (p q : PlainSession) → KeepsStates input steps p → answer Step p ≡ done q → KeepsStates input (suc steps) q
step_keeps input steps p q keeps h =
    let at = Step_done p q h in
    subst (λ (r : PlainSession). KeepsStates input (suc steps) r) (sym at.2) (record {
      dropped = keeps.dropped;
      few = keeps.few;
      tape = keeps.tape;
      states = λ more none.
          let all = keeps.states more none in
          let less : steps ≡ suc steps - 1 = omega arith in
          let ended : p.tape.ended ≡ input.ended = ap (λ (t : Tape). t.ended) keeps.tape in
          let longer : step (over p.width (whole p.tape more)) p.last ≡ Ok at.0 = step-whole (over p.width p.tape) more p.last (λ is. none (sym ended ∙ is)) (λ w. cc) ∙ at.1 in
          let taken : step (cut keeps.dropped (over p.width (whole input more))) p.last ≡ Ok at.0 =
          ap (λ e. step e p.last) (cut_whole keeps.dropped input more p.width keeps.few ∙ ap (λ (t : Tape). over p.width (whole t more)) (sym keeps.tape)) ∙ longer in (
            step_of_run (over p.width (whole input more)) keeps.dropped steps p.last at.0 (last_of_run (over p.width (whole input more)) keeps.dropped steps p.last p.earlier all) taken,
            omega arith,
            subst (λ k. AreOfRun (over p.width (whole input more)) keeps.dropped k p.last p.earlier) less all,
          );
    })

pub steps_keep : (n : ℕ) (input : Tape) (steps : ℕ) (p q : PlainSession) → KeepsStates input steps p → repeated Step n p ≡ Some q → KeepsStates input (steps + n) q
steps_keep zero input steps p q keeps walked =
    let same : p ≡ q = cc in
    let count : steps ≡ steps + 0 = omega arith in
    subst (λ k. KeepsStates input k q) count (subst (λ (r : PlainSession). KeepsStates input steps r) same keeps)
steps_keep (suc n) input steps p q keeps walked =
    option_and_then_some (λ (m : PlainSession). accepted_by (answer Step m)) (repeated Step n p) q walked
    (λ m there next.
    let count : suc (steps + n) ≡ steps + suc n = omega arith in
    subst (λ k. KeepsStates input k q) count (step_keeps input (steps + n) m q (steps_keep n input steps p m keeps there) (accepted_done (answer Step m) q next)))

pub back_keeps : (input : Tape) (steps : ℕ) (p q : PlainSession) → KeepsStates input steps p → answer Back p ≡ done q → KeepsStates input (steps - 1) q
back_keeps input steps p q keeps h =
    let at = Back_done p q h in
    subst (λ (r : PlainSession). KeepsStates input (steps - 1) r) (sym at.3) (record {
      dropped = keeps.dropped;
      few = keeps.few;
      tape = keeps.tape;
      states = λ more none. (subst (λ (earlier : List State). AreOfRun (over p.width (whole input more)) keeps.dropped steps p.last earlier) at.2 (keeps.states more none)).2;
    })

pub backs_keep : (n : ℕ) (input : Tape) (steps : ℕ) (p q : PlainSession) → KeepsStates input steps p → repeated Back n p ≡ Some q → KeepsStates input (steps - n) q
backs_keep zero input steps p q keeps walked =
    let same : p ≡ q = cc in
    let count : steps ≡ steps - 0 = omega arith in
    subst (λ k. KeepsStates input k q) count (subst (λ (r : PlainSession). KeepsStates input steps r) same keeps)
backs_keep (suc n) input steps p q keeps walked =
    option_and_then_some (λ (m : PlainSession). accepted_by (answer Back m)) (repeated Back n p) q walked
    (λ m there next.
    let count : (steps - n) - 1 ≡ steps - suc n = omega arith in
    subst (λ k. KeepsStates input k q) count (back_keeps input (steps - n) m q (backs_keep n input steps p m keeps there) (accepted_done (answer Back m) q next)))

pub feed_keeps : (bytes : List ℕ) (input : Tape) (steps : ℕ) (p q : PlainSession) → KeepsStates input steps p → answer (Feed bytes) p ≡ done q →
    KeepsStates (record input { bytes = input.bytes ++ bytes }) steps q
feed_keeps bytes input steps p q keeps h =
    let at = Feed_done bytes p q h in
    let ended : input.ended ≡ false = sym (ap (λ (t : Tape). t.ended) keeps.tape) ∙ at.1 in
    subst (λ (r : PlainSession). KeepsStates (record input { bytes = input.bytes ++ bytes }) steps r) (sym at.0) (record {
      dropped = keeps.dropped;
      few = omega (arith, keeps.few, length-append input.bytes bytes);
      tape = ap (λ (t : Tape). record t { bytes = t.bytes ++ bytes }) keeps.tape ∙ ap (λ (all : List ℕ). record input { bytes = all }) (sym (drop-append-le keeps.dropped input.bytes bytes keeps.few));
      states = λ more none.
          subst (λ (all : List ℕ). AreOfRun (over p.width (record { bytes = all; ended = true })) keeps.dropped steps p.last p.earlier) (sym (append_assoc input.bytes bytes more))
          (keeps.states (bytes ++ more) (λ is. absurd (false≢true (sym ended ∙ is))));
    })

pub end_keeps : (input : Tape) (steps : ℕ) (p q : PlainSession) → KeepsStates input steps p → answer End p ≡ done q → KeepsStates (record input { ended = true }) steps q
end_keeps input steps p q keeps h =
    let at = End_done p q h in
    subst (λ (r : PlainSession). KeepsStates (record input { ended = true }) steps r) (sym at) (record {
      dropped = keeps.dropped;
      few = keeps.few;
      tape = ap (λ (t : Tape). record t { ended = true }) keeps.tape;
      states = λ more none. keeps.states more (λ _. none refl);
    })

pub commit_keeps : (keep : ℕ) (input : Tape) (steps : ℕ) (p q : PlainSession) → KeepsStates input steps p → IsTrail p → answer (Commit keep) p ≡ done q → (first_kept keep p).position ≤ length p.tape.bytes →
    KeepsStates input steps q
commit_keeps keep input steps p q keeps trail h on_tape =
    let first : State = first_kept keep p in
    let at = Commit_done keep p q h in
    subst (λ (r : PlainSession). KeepsStates input steps r) (sym at) (record {
      dropped = keeps.dropped + first.position;
      few = omega (arith, keeps.few, on_tape, ap (λ (t : Tape). length t.bytes) keeps.tape, length-drop keeps.dropped input.bytes);
      tape = ap (λ (t : Tape). record t { bytes = drop first.position t.bytes }) keeps.tape
          ∙ ap (λ (all : List ℕ). record input { bytes = all }) (drop-drop first.position keeps.dropped input.bytes ∙ ap (λ k. drop k input.bytes) (omega arith));
      states = λ more none.
          all_released (over p.width (whole input more)) (over p.width p.tape) keeps.dropped steps (length first.output) first.position p.last (take keep p.earlier)
          (take_of_run (over p.width (whole input more)) keeps.dropped steps keep p.last p.earlier (keeps.states more none))
          (last_steps (over p.width p.tape) keep p.earlier p.last trail.steps) (omega arith);
    })
