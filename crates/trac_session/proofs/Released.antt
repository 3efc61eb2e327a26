-- What is released and what is pending are what the steps print, a command after the other.
use Rattle.std.proofs.Common.{◌≡◌, ℕ, zero, suc, ◌+◌, ◌-◌, ◌<◌, ◌≤◌, true, false, List, [], ◌∷◌, ◌++◌, length, take, drop, refl, sym, ap, subst, ◌∙◌, arith, ⊎_elim}
use Rattle.std.specs.Prelude.{Some, Result, Ok, Err}
use Rattle.std.proofs.lemmas.Bool.{cases_lt, false≢true}
use Rattle.std.proofs.lemmas.List.{append-nil, append_assoc, length-append, length-drop}
use Rattle.std.proofs.lemmas.Option.{option_and_then_some}
use Rattle.trac_rules.specs.declared.refusal.Refusal.{Refusal}
use Rattle.trac_rules.specs.declared.refusal.Refusal.TheVariants.{Ended, Memory}
use Rattle.trac_rules.specs.declared.reply.Reply.{Reply}
use Rattle.trac_rules.specs.declared.reply.Reply.TheVariants.{Done, Refused}
use Rattle.trac_rules.specs.declared.width.Width.{Width}
use Rattle.trac_rules.specs.State.{Environment, State, Tape}
use Rattle.trac_rules.specs.Stepping.{step}
use Rattle.trac_rules.specs.Session.{PlainSession, Command, Feed, End, Step, Back, Commit, Answers, accepted_by, answer, committed, done, first_kept, first_of, new_session, over, refused, repeated}
use Rattle.trac_rules.specs.Trails.{AreSteps, IsTrail}
use Rattle.trac_rules.specs.Running.{Output, BudgetSpent, InputEnded, going_on, output_from, output_of, silent}
use Rattle.trac_rules.specs.GoingOn.{prepended, going_on_from}
use Rattle.trac_rules.proofs.GoingOn.{after_repeated, going_on-Commit, going_on-repeated, going_on_ended, going_on_spent, prepended-prepended}
use Rattle.trac_rules.proofs.Released.{first-committed, length-committed}
use Rattle.trac_rules.proofs.Replies.{Commit_done, End_done, Feed_done, Feed_refused, Step_done, accepted_done, answer_Back_from, answer_Commit, answer_End, done_of_refused, with_end, with_more, with_next}
use Rattle.trac_rules.proofs.TakenAgain.{Back_done, answered_trail, repeated_after_one, steps_again}
use Rattle.trac_session.proofs.Walked.{Back_refused_same, Step_refused_same}
use Rattle.trac_session.specs.Outputs.{HasReleased, Prints, fed_by, gone_back, released_by, steps_after}

-- ---- back to the first state, and on again

back_to_first : (earlier : List State) (p : PlainSession) → p.earlier ≡ earlier → repeated Back (length earlier) p ≡ Some (record p { earlier = []; last = first_of p.last earlier })
back_to_first [] p is = ap (λ (states : List State). Some (record p { earlier = states })) is
back_to_first (s ∷ rest) p is =
    repeated_after_one Back (length rest) p (record p { earlier = rest; last = s }) (answer_Back_from p s rest is)
    ∙ back_to_first rest (record p { earlier = rest; last = s }) refl

-- so many steps lead from the first state to the last
forth_again : (p : PlainSession) → IsTrail p → repeated Step (length p.earlier) (gone_back p) ≡ Some p
forth_again p trail = steps_again (length p.earlier) p (gone_back p) trail (back_to_first p.earlier p refl)

-- what is printed from the first state on is what is printed from the last on, after as many steps
on_from_first : (p : PlainSession) (n : ℕ) (more : List ℕ) → IsTrail p → (gone_back p).last.position ≤ length p.tape.bytes → (p.tape.ended ≡ true → more ≡ []) →
    going_on_from (gone_back p) more (n + length p.earlier) ≡ going_on_from p more n
on_from_first p n more trail on_tape none = going_on-repeated (length p.earlier) n (gone_back p) p more on_tape none (forth_again p trail)

pub last_on_tape : (p : PlainSession) → IsTrail p → (gone_back p).last.position ≤ length p.tape.bytes → p.last.position ≤ length p.tape.bytes
last_on_tape p trail on_tape = (after_repeated (length p.earlier) (gone_back p) p on_tape (forth_again p trail)).within

-- ---- each command

pub new_released : (limit : ℕ) (width : Width) (tape : Tape) → HasReleased tape.bytes 0 [] (record (new_session limit width) { tape = tape })
new_released limit width tape = record {
  trail = record { steps = tt; within = omega arith };
  on_tape = omega arith;
  counted = omega arith;
  rest = λ n more none. let count : (0 - 0) + n ≡ n = omega arith in ap (output_of width (tape.bytes ++ more)) count;
}

module _ (input text : List ℕ) (steps : ℕ) (p : PlainSession) (has : HasReleased input steps text p) where
  after_feed : (bytes : List ℕ) → p.tape.ended ≡ false → IsTrail (with_more p bytes) → HasReleased (input ++ bytes) steps text (with_more p bytes)
  after_feed bytes unended trail =
      let first : State = (gone_back p).last in
      record {
        trail = trail;
        on_tape = omega (arith, has.on_tape, length-append p.tape.bytes bytes);
        counted = has.counted;
        rest = λ n more none.
            ap (λ (all : List ℕ). output_of p.width all ((steps - length p.earlier) + n)) (append_assoc input bytes more)
            ∙ has.rest n (bytes ++ more) (λ over_. absurd (false≢true (sym unended ∙ over_)))
            ∙ ap (λ (all : List ℕ). prepended text (prepended first.output (output_from n (over p.width (record { bytes = all; ended = true })) first))) (sym (append_assoc p.tape.bytes bytes more));
      }

  after_end : IsTrail (with_end p) → HasReleased input steps text (with_end p)
  after_end trail = record { trail = trail; on_tape = has.on_tape; counted = has.counted; rest = λ n more none. has.rest n more (λ _. none refl) }

  after_step : (t : State) → IsTrail (with_next p t) → HasReleased input (steps + 1) text (with_next p t)
  after_step t trail = record {
    trail = trail;
    on_tape = has.on_tape;
    counted = omega (arith, has.counted);
    rest = λ n more none.
        let count : ((steps + 1) - length (p.last ∷ p.earlier)) + n ≡ (steps - length p.earlier) + n = omega arith in
        ap (output_of p.width (input ++ more)) count ∙ has.rest n more none;
  }

  after_back : (s : State) (states : List State) → p.earlier ≡ s ∷ states → IsTrail (record p { earlier = states; last = s }) → HasReleased input (steps - 1) text (record p { earlier = states; last = s })
  after_back s states is trail =
      let first : first_of p.last p.earlier ≡ first_of s states = ap (first_of p.last) is in
      record {
        trail = trail;
        on_tape = subst (λ (f : State). f.position ≤ length p.tape.bytes) first has.on_tape;
        counted = omega (arith, has.counted, ap length is);
        rest = λ n more none.
            let count : ((steps - 1) - length states) + n ≡ (steps - length p.earlier) + n = omega (arith, ap length is) in
            ap (output_of p.width (input ++ more)) count
            ∙ has.rest n more none
            ∙ ap (λ (f : State). prepended text (going_on_from (record p { earlier = []; last = f }) more n)) first;
      }

-- ---- a commit

-- the states before the first that is kept
first_of_dropped : (keep : ℕ) (earlier : List State) (t : State) → first_of (first_of t (take keep earlier)) (drop keep earlier) ≡ first_of t earlier
first_of_dropped zero earlier t = refl
first_of_dropped (suc keep) [] t = refl
first_of_dropped (suc keep) (s ∷ earlier) t = first_of_dropped keep earlier s

steps_dropped : (e : Environment) (keep : ℕ) (earlier : List State) (t : State) → AreSteps e earlier t → AreSteps e (drop keep earlier) (first_of t (take keep earlier))
steps_dropped e zero earlier t all = all
steps_dropped e (suc keep) [] t all = tt
steps_dropped e (suc keep) (s ∷ earlier) t all = steps_dropped e keep earlier s all.1

-- the session up to the first state that a commit keeps
abbrev up_to_first : ℕ → PlainSession → PlainSession
up_to_first keep p = record p { earlier = drop keep p.earlier; last = first_kept keep p }

trail_dropped : (keep : ℕ) (p : PlainSession) → IsTrail p → IsTrail (up_to_first keep p)
trail_dropped keep p trail = record {
  steps = steps_dropped (over p.width p.tape) keep p.earlier p.last trail.steps;
  within = omega (arith, length-drop keep p.earlier, trail.within);
}

-- committed to its last state it is the first one of the session after the commit
first_alone : (keep : ℕ) (p : PlainSession) → committed 0 (up_to_first keep p) ≡ gone_back (committed keep p)
first_alone keep p = ap (λ (s : State). record (committed keep p) { earlier = []; last = s }) (sym (first-committed keep p))

after_commit : (keep : ℕ) (input text : List ℕ) (steps : ℕ) (p : PlainSession) → HasReleased input steps text p → IsTrail (committed keep p) →
    HasReleased input steps (text ++ (first_kept keep p).output) (committed keep p)
after_commit keep input text steps p has trail =
    let r : PlainSession = up_to_first keep p in
    let first : first_of p.last p.earlier ≡ (gone_back r).last = sym (first_of_dropped keep p.earlier p.last) in
    let trail_r = trail_dropped keep p has.trail in
    let on_tape : (gone_back r).last.position ≤ length r.tape.bytes = subst (λ (f : State). f.position ≤ length p.tape.bytes) first has.on_tape in
    let kept = length-committed keep p in
    record {
      trail = trail;
      on_tape = subst (λ (s : State). s.position ≤ length (committed keep p).tape.bytes) (sym (first-committed keep p)) (omega arith);
      counted = omega (arith, has.counted, kept);
      rest = λ n more none.
          let count : (steps - length (committed keep p).earlier) + n ≡ (steps - length p.earlier) + (n + length r.earlier) = omega (arith, has.counted, kept, length-drop keep p.earlier) in
          ap (output_of p.width (input ++ more)) count
          ∙ has.rest (n + length r.earlier) more none
          ∙ ap (λ (f : State). prepended text (going_on_from (record p { earlier = []; last = f }) more (n + length r.earlier))) first
          ∙ ap (prepended text) (on_from_first r n more trail_r on_tape none ∙ going_on-Commit r (committed 0 r) more n (last_on_tape r trail_r on_tape) (answer_Commit 0 r))
          ∙ prepended-prepended text r.last.output (going_on_from (committed 0 r) more n)
          ∙ ap (λ (q : PlainSession). prepended (text ++ r.last.output) (going_on_from q more n)) (first_alone keep p);
    }

-- ---- the laws

-- with nothing more fed, or nothing more released
fed_nothing : (input text : List ℕ) (steps : ℕ) (q : PlainSession) → HasReleased input steps text q → HasReleased (input ++ []) steps text q
fed_nothing input text steps q has = subst (λ (all : List ℕ). HasReleased all steps text q) (sym (append-nil input)) has

nothing_more : (input text : List ℕ) (steps : ℕ) (q : PlainSession) → HasReleased input steps text q → HasReleased input steps (text ++ []) q
nothing_more input text steps q has = subst (λ (all : List ℕ). HasReleased input steps all q) (sym (append-nil text)) has

none_of_both : (input text : List ℕ) (steps : ℕ) (q : PlainSession) → HasReleased input steps text q → HasReleased (input ++ []) steps (text ++ []) q
none_of_both input text steps q has = nothing_more (input ++ []) text steps q (fed_nothing input text steps q has)

-- a session that stays
stays_released : (input text : List ℕ) (steps : ℕ) (p q : PlainSession) → HasReleased input steps text p → q ≡ p → HasReleased (input ++ []) steps (text ++ []) q
stays_released input text steps p q has same = subst (λ (r : PlainSession). HasReleased (input ++ []) steps (text ++ []) r) (sym same) (none_of_both input text steps p has)

pub step_released : (input text : List ℕ) (steps : ℕ) (p q : PlainSession) → HasReleased input steps text p → answer Step p ≡ done q → HasReleased input (steps + 1) text q
step_released input text steps p q has h =
    let at = Step_done p q h in
    let trail = answered_trail Step Done p q has.trail h in
    subst (λ (r : PlainSession). HasReleased input (steps + 1) text r) (sym at.2) (after_step input text steps p has at.0 (subst IsTrail at.2 trail))

pub one_back_released : (input text : List ℕ) (steps : ℕ) (p q : PlainSession) → HasReleased input steps text p → answer Back p ≡ done q → (1 ≤ steps) × HasReleased input (steps - 1) text q
one_back_released input text steps p q has h =
    let at = Back_done p q h in
    let trail = answered_trail Back Done p q has.trail h in (
      omega (arith, has.counted, ap length at.2),
      subst (λ (r : PlainSession). HasReleased input (steps - 1) text r) (sym at.3) (after_back input text steps p has at.0 at.1 at.2 (subst IsTrail at.3 trail)),
    )

pub end_released : (input text : List ℕ) (steps : ℕ) (p q : PlainSession) → HasReleased input steps text p → answer End p ≡ done q → HasReleased input steps text q
end_released input text steps p q has h =
    let at = End_done p q h in
    let trail = answered_trail End Done p q has.trail h in
    subst (λ (r : PlainSession). HasReleased input steps text r) (sym at) (after_end input text steps p has (subst IsTrail at trail))

pub commit_released : (keep : ℕ) (input text : List ℕ) (steps : ℕ) (p q : PlainSession) → HasReleased input steps text p → answer (Commit keep) p ≡ done q → HasReleased input steps (text ++ (first_kept keep p).output) q
commit_released keep input text steps p q has h =
    let at = Commit_done keep p q h in
    let trail = answered_trail (Commit keep) Done p q has.trail h in
    subst (λ (r : PlainSession). HasReleased input steps (text ++ (first_kept keep p).output) r) (sym at) (after_commit keep input text steps p has (subst IsTrail at trail))

done_released : (command : Command) (input text : List ℕ) (steps : ℕ) (p q : PlainSession) → HasReleased input steps text p → answer command p ≡ done q →
    HasReleased (input ++ fed_by command Done) (steps_after command Done steps) (text ++ released_by command Done p) q
done_released (Feed bytes) input text steps p q has h =
    let at = Feed_done bytes p q h in
    let trail = answered_trail (Feed bytes) Done p q has.trail h in
    nothing_more (input ++ bytes) text steps q
    (subst (λ (r : PlainSession). HasReleased (input ++ bytes) steps text r) (sym at.0) (after_feed input text steps p has bytes at.1 (subst IsTrail at.0 trail)))
done_released End input text steps p q has h = none_of_both input text steps q (end_released input text steps p q has h)
done_released Step input text steps p q has h = none_of_both input text (steps + 1) q (step_released input text steps p q has h)
done_released Back input text steps p q has h = none_of_both input text (steps - 1) q (one_back_released input text steps p q has h).1
done_released (Commit keep) input text steps p q has h = fed_nothing input (text ++ (first_kept keep p).output) steps q (commit_released keep input text steps p q has h)

-- whatever is refused changes nothing
feed_refused : (bytes : List ℕ) (refusal : Refusal) (p q : PlainSession) → Answers (Feed bytes) p (Refused refusal) q → q ≡ p
feed_refused bytes Memory p q h = h.1
feed_refused bytes other p q h = (Feed_refused bytes p q other h).0

end_refused : (refusal : Refusal) (p q : PlainSession) → Answers End p (Refused refusal) q → q ≡ p
end_refused Memory p q h = h.1
end_refused other p q h = absurd (done_of_refused other q (with_end p) (sym h ∙ answer_End p))

commit_refused : (keep : ℕ) (refusal : Refusal) (p q : PlainSession) → Answers (Commit keep) p (Refused refusal) q → q ≡ p
commit_refused keep Memory p q h = h.1
commit_refused keep other p q h = absurd (done_of_refused other q (committed keep p) (sym h ∙ answer_Commit keep p))

refused_released : (command : Command) (refusal : Refusal) (input text : List ℕ) (steps : ℕ) (p q : PlainSession) → HasReleased input steps text p → Answers command p (Refused refusal) q →
    HasReleased (input ++ fed_by command (Refused refusal)) (steps_after command (Refused refusal) steps) (text ++ released_by command (Refused refusal) p) q
refused_released (Feed bytes) refusal input text steps p q has h = stays_released input text steps p q has (feed_refused bytes refusal p q h)
refused_released End refusal input text steps p q has h = stays_released input text steps p q has (end_refused refusal p q h)
refused_released Step refusal input text steps p q has h = stays_released input text steps p q has (Step_refused_same p q refusal h)
refused_released Back refusal input text steps p q has h = stays_released input text steps p q has (Back_refused_same p q refusal h)
refused_released (Commit keep) refusal input text steps p q has h = stays_released input text steps p q has (commit_refused keep refusal p q h)

pub answered_released : (command : Command) (reply : Reply) (input text : List ℕ) (steps : ℕ) (p q : PlainSession) → HasReleased input steps text p → Answers command p reply q →
    HasReleased (input ++ fed_by command reply) (steps_after command reply steps) (text ++ released_by command reply p) q
answered_released command Done input text steps p q has h = done_released command input text steps p q has h
answered_released command (Refused refusal) input text steps p q has h = refused_released command refusal input text steps p q has h

pub stepped_released : (n : ℕ) (input text : List ℕ) (steps : ℕ) (p q : PlainSession) → HasReleased input steps text p → repeated Step n p ≡ Some q → HasReleased input (steps + n) text q
stepped_released zero input text steps p q has h =
    let same : p ≡ q = cc in
    let count : steps ≡ steps + 0 = omega arith in
    subst (λ k. HasReleased input k text q) count (subst (λ (r : PlainSession). HasReleased input steps text r) same has)
stepped_released (suc n) input text steps p q has h =
    option_and_then_some (λ (m : PlainSession). accepted_by (answer Step m)) (repeated Step n p) q h
    (λ m there next.
    let count : (steps + n) + 1 ≡ steps + suc n = omega arith in
    subst (λ k. HasReleased input k text q) count
    (step_released input text (steps + n) m q (stepped_released n input text steps p m has there) (accepted_done (answer Step m) q next)))

pub back_released : (n : ℕ) (input text : List ℕ) (steps : ℕ) (p q : PlainSession) → HasReleased input steps text p → repeated Back n p ≡ Some q → (n ≤ steps) × HasReleased input (steps - n) text q
back_released zero input text steps p q has h =
    let same : p ≡ q = cc in
    let count : steps ≡ steps - 0 = omega arith in
    (omega arith, subst (λ k. HasReleased input k text q) count (subst (λ (r : PlainSession). HasReleased input steps text r) same has))
back_released (suc n) input text steps p q has h =
    option_and_then_some (λ (m : PlainSession). accepted_by (answer Back m)) (repeated Back n p) q h
    (λ m there next.
    let before = back_released n input text steps p m has there in
    let one = one_back_released input text (steps - n) m q before.1 (accepted_done (answer Back m) q next) in
    let count : (steps - n) - 1 ≡ steps - suc n = omega arith in
    (omega (arith, one.0), subst (λ k. HasReleased input k text q) count one.1))

-- what a run prints over all of the input, from the last state on
goes_on : (input text : List ℕ) (steps : ℕ) (p : PlainSession) → HasReleased input steps text p → (n : ℕ) (more : List ℕ) → (p.tape.ended ≡ true → more ≡ []) →
    output_of p.width (input ++ more) (steps + n) ≡ prepended text (going_on_from p more n)
goes_on input text steps p has n more none =
    let count : steps + n ≡ (steps - length p.earlier) + (n + length p.earlier) = omega (arith, has.counted) in
    ap (output_of p.width (input ++ more)) count
    ∙ has.rest (n + length p.earlier) more none
    ∙ ap (prepended text) (on_from_first p n more has.trail has.on_tape none)

pub is_printed : (input text : List ℕ) (steps : ℕ) (p : PlainSession) → HasReleased input steps text p → (more : List ℕ) → (p.tape.ended ≡ true → more ≡ []) →
    Prints p.width (input ++ more) steps (text ++ p.last.output)
is_printed input text steps p has more none =
    let count : steps ≡ steps + 0 = omega arith in
    ap (output_of p.width (input ++ more)) count ∙ goes_on input text steps p has 0 more none ∙ ap (prepended text) (going_on_spent p more)

pub at_the_end : (input text : List ℕ) (steps : ℕ) (p : PlainSession) → HasReleased input steps text p → answer Step p ≡ refused Ended p → (n : ℕ) (more : List ℕ) → (p.tape.ended ≡ true → more ≡ []) →
    output_of p.width (input ++ more) (steps + 1 + n) ≡ record { bytes = text ++ p.last.output; stop = InputEnded }
at_the_end input text steps p has h n more none =
    let count : steps + 1 + n ≡ steps + suc n = omega arith in
    ap (output_of p.width (input ++ more)) count
    ∙ goes_on input text steps p has (suc n) more none
    ∙ ap (prepended text) (going_on_ended p p more n (last_on_tape p has.trail has.on_tape) h none)

-- ---- two ways

pub prints_alike : (width : Width) (input first second : List ℕ) (steps : ℕ) → Prints width input steps first → Prints width input steps second → first ≡ second
prints_alike width input first second steps one other = ap (λ (o : Output). o.bytes) (sym one ∙ other)

pub released_alike : (input first second : List ℕ) (steps : ℕ) (p q : PlainSession) → HasReleased input steps first p → HasReleased input steps second q → p.width ≡ q.width →
    first ++ p.last.output ≡ second ++ q.last.output
released_alike input first second steps p q one other wide =
    let here = is_printed input first steps p one [] (λ _. refl) in
    let there = is_printed input second steps q other [] (λ _. refl) in
    prints_alike q.width (input ++ []) (first ++ p.last.output) (second ++ q.last.output) steps
    (subst (λ width. Prints width (input ++ []) steps (first ++ p.last.output)) wide here) there

-- a run that ends before its budget is spent is the same with a greater one
going_on_alike : (x : Result State Refusal) (first second : State → Output) → ((t : State) → ((second t).stop ≡ BudgetSpent → ⊥) → first t ≡ second t) →
    ((going_on x second).stop ≡ BudgetSpent → ⊥) → going_on x first ≡ going_on x second
going_on_alike (Ok t) first second same other = ap (prepended t.output) (same t other)
going_on_alike (Err refusal) first second same other = refl

longer_run : (m k : ℕ) (e : Environment) (s : State) → ((output_from m e s).stop ≡ BudgetSpent → ⊥) → output_from (m + k) e s ≡ output_from m e s
unfolding output_from
longer_run zero k e s other = absurd (other refl)
longer_run (suc m) k e s other =
    let count : suc m + k ≡ suc (m + k) = omega arith in
    ap (λ n. output_from n e s) count
    ∙ going_on_alike (step e (silent s)) (λ t. output_from (m + k) e t) (λ t. output_from m e t) (λ t. longer_run m k e t) other

longer_ends : (width : Width) (input : List ℕ) (m n : ℕ) → m ≤ n → ((output_of width input m).stop ≡ BudgetSpent → ⊥) → output_of width input n ≡ output_of width input m
longer_ends width input m n less other =
    let count : n ≡ m + (n - m) = omega (arith, less) in
    ap (output_of width input) count ∙ longer_run m (n - m) _ _ other

pub ends_alike : (width : Width) (input : List ℕ) (m n : ℕ) → ((output_of width input m).stop ≡ BudgetSpent → ⊥) → ((output_of width input n).stop ≡ BudgetSpent → ⊥) →
    output_of width input m ≡ output_of width input n
ends_alike width input m n first second = ⊎_elim
    (λ (less : m < n). sym (longer_ends width input m n (omega (arith, less)) first))
    (λ (less : n ≤ m). longer_ends width input n m less second)
    (cases_lt m n)
