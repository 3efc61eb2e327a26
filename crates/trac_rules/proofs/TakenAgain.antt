-- Steps that are gone back over and taken again.
use Rattle.std.proofs.Common.{◌≡◌, ℕ, zero, suc, ◌<◌, ◌≤◌, Bool, true, false, List, [], ◌∷◌, length, map, take, refl, sym, ap, subst, ◌∙◌, arith, ⊎_elim}
use Rattle.std.specs.Prelude.{Some, Result, Ok, Err, option_and_then}
use Rattle.std.proofs.lemmas.Bool.{cases_Bool}
use Rattle.std.proofs.lemmas.List.{length-append}
use Rattle.std.proofs.lemmas.Option.{option_and_then_some}
use Rattle.trac_rules.specs.declared.refusal.Refusal.{Refusal}
use Rattle.trac_rules.specs.declared.refusal.Refusal.TheVariants.{Memory, NeedInput}
use Rattle.trac_rules.specs.declared.reply.Reply.{Reply}
use Rattle.trac_rules.specs.declared.reply.Reply.TheVariants.{Done, Refused}
use Rattle.trac_rules.specs.declared.width.Width.{Width}
use Rattle.trac_rules.specs.Session.{PlainSession, Command, Feed, End, Step, Back, Commit, Answers, Run, accepted_by, answer, backed_to, committed, done, first_kept, first_of, new_session, over, refused, released, repeated}
use Rattle.trac_rules.specs.State.{Environment, State}
use Rattle.trac_rules.specs.Stepping.{step}
use Rattle.trac_rules.specs.Trails.{AreSteps, IsTrail}
use Rattle.trac_rules.proofs.LongerTapes.{step-ended, step-lengthened}
use Rattle.trac_rules.proofs.Released.{length-committed, step-released, step_prints_more}
use Rattle.trac_rules.proofs.Replies.{Back_refused, Commit_done, End_done, Feed_done, Feed_refused, Step_done, Step_refused, accepted_done, answer_Commit, answer_End, answer_Step_Ok, done_of_refused, with_end, with_more, with_next}
use Rattle.trac_rules.proofs.Steps.{cut, step_onward}

-- ---- steps over another tape

same_steps : (e f : Environment) (earlier : List State) (t : State) → ((s u : State) → step e s ≡ Ok u → step f s ≡ Ok u) → AreSteps e earlier t → AreSteps f earlier t
same_steps e f [] t same all = tt
same_steps e f (s ∷ earlier) t same all = (same s t all.0, same_steps e f earlier s same all.1)

took_no_input : (x : Result State Refusal) (t : State) → x ≡ Ok t → x ≡ Err NeedInput → ⊥
took_no_input x t taken short = let both : Ok t ≡ Err NeedInput = sym taken ∙ short in absurd (cc)

-- ---- each command

refused_leaves : (command : Command) (p q : PlainSession) (refusal : Refusal) → answer command p ≡ refused refusal q → q ≡ p
refused_leaves (Feed bytes) p q refusal h = (Feed_refused bytes p q refusal h).0
refused_leaves End p q refusal h = absurd (done_of_refused refusal q (with_end p) (sym h ∙ answer_End p))
refused_leaves Step p q refusal h = (Step_refused p q refusal h).0
refused_leaves Back p q refusal h = (Back_refused p q refusal h).0
refused_leaves (Commit keep) p q refusal h = absurd (done_of_refused refusal q (committed keep p) (sym h ∙ answer_Commit keep p))

not_done_leaves : (refusal : Refusal) (command : Command) (p q : PlainSession) → Answers command p (Refused refusal) q → q ≡ p
not_done_leaves Memory command p q h = h.1
not_done_leaves other command p q h = refused_leaves command p q other h

-- a step back that was done took the last state away
backed_to_done : (earlier : List State) (p q : PlainSession) → backed_to earlier p ≡ done q →
    (s : State) × (rest : List State) × (earlier ≡ s ∷ rest) × (q ≡ record p { earlier = rest; last = s })
backed_to_done [] p q h = absurd (done_of_refused _ p q h)
backed_to_done (s ∷ rest) p q h = (s, rest, refl, sym (ap (λ a. a.session) h))

pub Back_done : (p q : PlainSession) → answer Back p ≡ done q → (s : State) × (rest : List State) × (p.earlier ≡ s ∷ rest) × (q ≡ record p { earlier = rest; last = s })
unfolding answer
Back_done p q h = backed_to_done p.earlier p q h

after_feed : (bytes : List ℕ) (p : PlainSession) → p.tape.ended ≡ false → IsTrail p → IsTrail (with_more p bytes)
after_feed bytes p unended trail = record {
  steps = same_steps (over p.width p.tape) (over p.width (with_more p bytes).tape) p.earlier p.last
      (λ s t taken. step-lengthened p.width p.tape s bytes unended (took_no_input (step (over p.width p.tape) s) t taken) ∙ taken) trail.steps;
  within = trail.within;
}

after_end : (p : PlainSession) → IsTrail p → IsTrail (with_end p)
after_end p trail = record {
  steps = same_steps (over p.width p.tape) (over p.width (with_end p).tape) p.earlier p.last
      (λ s t taken. ⊎_elim
      (λ (ended : p.tape.ended ≡ true). ap (λ (b : Bool). step (over p.width (record p.tape { ended = b })) s) (sym ended) ∙ taken)
      (λ (unended : p.tape.ended ≡ false). step-ended p.width p.tape s unended (took_no_input (step (over p.width p.tape) s) t taken) ∙ taken)
      (cases_Bool p.tape.ended)) trail.steps;
  within = trail.within;
}

after_step : (p : PlainSession) (t : State) → step (over p.width p.tape) p.last ≡ Ok t → length p.earlier < p.limit → IsTrail p → IsTrail (with_next p t)
after_step p t taken room trail = record { steps = (taken, trail.steps); within = omega (arith, room) }

after_back : (p : PlainSession) (s : State) (rest : List State) → p.earlier ≡ s ∷ rest → IsTrail p → IsTrail (record p { earlier = rest; last = s })
after_back p s rest is trail = record {
  steps = (subst (λ (earlier : List State). AreSteps (over p.width p.tape) earlier p.last) is trail.steps).1;
  within = omega (arith, ap length is, trail.within);
}

-- ---- a commit

last_steps : (e : Environment) (n : ℕ) (earlier : List State) (t : State) → AreSteps e earlier t → AreSteps e (take n earlier) t
last_steps e zero earlier t all = tt
last_steps e (suc n) [] t all = tt
last_steps e (suc n) (s ∷ earlier) t all = (all.0, last_steps e n earlier s all.1)

-- the first of the states has read no more than the last one, and printed no more
record IsBelow (s t : State) : Type 0 where
  position : s.position ≤ t.position
  output : length s.output ≤ length t.output

first_below : (e : Environment) (earlier : List State) (t : State) → AreSteps e earlier t → IsBelow (first_of t earlier) t
first_below e [] t all = record { position = omega arith; output = omega arith }
first_below e (s ∷ earlier) t all =
    let first = first_below e earlier s all.1 in
    let more = step_prints_more e s t all.0 in
    record {
      position = omega (arith, first.position, step_onward e s t all.0);
      output = omega (arith, first.output, ap length more.1, length-append s.output more.0);
    }

-- states that are released of no more than the first of them has are steps over the tape that has lost as much
released_steps : (e : Environment) (o k : ℕ) (earlier : List State) (t : State) → k ≤ (first_of t earlier).position → o ≤ length (first_of t earlier).output → AreSteps e earlier t →
    AreSteps (cut k e) (map (released o k) earlier) (released o k t)
released_steps e o k [] t read printed all = tt
released_steps e o k (s ∷ earlier) t read printed all =
    let first = first_below e earlier s all.1 in (
      step-released e o k s t (omega (arith, read, first.position)) (omega (arith, printed, first.output)) all.0,
      released_steps e o k earlier s read printed all.1,
    )

after_commit : (keep : ℕ) (p : PlainSession) → IsTrail p → IsTrail (committed keep p)
after_commit keep p trail =
    let first = first_kept keep p in
    record {
      steps = released_steps (over p.width p.tape) (length first.output) first.position (take keep p.earlier) p.last (omega arith) (omega arith)
          (last_steps (over p.width p.tape) keep p.earlier p.last trail.steps);
      within = omega (arith, length-committed keep p, trail.within);
    }

-- ---- the laws

after_done : (command : Command) (p q : PlainSession) → IsTrail p → answer command p ≡ done q → IsTrail q
after_done (Feed bytes) p q trail h = let at = Feed_done bytes p q h in subst IsTrail (sym at.0) (after_feed bytes p at.1 trail)
after_done End p q trail h = subst IsTrail (sym (End_done p q h)) (after_end p trail)
after_done Step p q trail h = let at = Step_done p q h in subst IsTrail (sym at.2) (after_step p at.0 at.1 at.3 trail)
after_done Back p q trail h = let at = Back_done p q h in subst IsTrail (sym at.3) (after_back p at.0 at.1 at.2 trail)
after_done (Commit keep) p q trail h = subst IsTrail (sym (Commit_done keep p q h)) (after_commit keep p trail)

pub new_trail : (limit : ℕ) (width : Width) → IsTrail (new_session limit width)
new_trail limit width = record { steps = tt; within = omega arith }

pub answered_trail : (command : Command) (reply : Reply) (p q : PlainSession) → IsTrail p → Answers command p reply q → IsTrail q
answered_trail command Done p q trail h = after_done command p q trail h
answered_trail command (Refused refusal) p q trail h = subst IsTrail (sym (not_done_leaves refusal command p q h)) trail

pub run_trail : (commands : List Command) (replies : List Reply) (p q : PlainSession) → IsTrail p → Run commands replies p q → IsTrail q
run_trail [] [] p q trail run = subst IsTrail (sym run) trail
run_trail (command ∷ commands) (reply ∷ replies) p q trail run = run_trail commands replies run.0 q (answered_trail command reply p run.0 trail run.1) run.2
run_trail [] (reply ∷ replies) p q trail run = absurd run
run_trail (command ∷ commands) [] p q trail run = absurd run

pub repeated_trail : (command : Command) (n : ℕ) (p q : PlainSession) → IsTrail p → repeated command n p ≡ Some q → IsTrail q
repeated_trail command zero p q trail h = let same : p ≡ q = cc in subst IsTrail same trail
repeated_trail command (suc n) p q trail h =
    option_and_then_some (λ (m : PlainSession). accepted_by (answer command m)) (repeated command n p) q h
    (λ m there next. after_done command m q (repeated_trail command n p m trail there) (accepted_done (answer command m) q next))

-- a step that is gone back over and taken again
step_again : (p q : PlainSession) → IsTrail p → answer Back p ≡ done q → answer Step q ≡ done p
step_again p q trail h =
    let at = Back_done p q h in
    let s : State = at.0 in
    let rest : List State = at.1 in
    let back : PlainSession = record p { earlier = rest; last = s } in
    let taken = (subst (λ (earlier : List State). AreSteps (over p.width p.tape) earlier p.last) at.2 trail.steps).0 in
    subst (λ (r : PlainSession). answer Step r ≡ done p) (sym at.3)
    (answer_Step_Ok back p.last (omega (arith, ap length at.2, trail.within)) taken ∙ ap (λ (earlier : List State). done (record p { earlier = earlier })) (sym at.2))

pub repeated_after_one : (command : Command) (n : ℕ) (p q : PlainSession) → answer command p ≡ done q → repeated command (suc n) p ≡ repeated command n q
repeated_after_one command zero p q h = ap accepted_by h
repeated_after_one command (suc n) p q h = ap (option_and_then (λ (m : PlainSession). accepted_by (answer command m))) (repeated_after_one command n p q h)

pub steps_again : (n : ℕ) (p q : PlainSession) → IsTrail p → repeated Back n p ≡ Some q → repeated Step n q ≡ Some p
steps_again zero p q trail h = sym h
steps_again (suc n) p q trail h =
    option_and_then_some (λ (m : PlainSession). accepted_by (answer Back m)) (repeated Back n p) q h
    (λ m there next.
    let again = step_again m q (repeated_trail Back n p m trail there) (accepted_done (answer Back m) q next) in
    repeated_after_one Step n q m again ∙ steps_again n p m trail there)
