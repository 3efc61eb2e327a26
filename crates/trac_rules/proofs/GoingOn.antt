-- What a run still writes from a session, as commands are answered.
use Rattle.std.proofs.Common.{◌≡◌, ℕ, zero, suc, ◌+◌, ◌-◌, ◌<◌, ◌≤◌, true, false, List, [], ◌++◌, length, drop, refl, sym, ap, ◌∙◌, arith}
use Rattle.std.specs.Prelude.{Some, Result, Ok, Err}
use Rattle.std.proofs.lemmas.List.{append-nil, append_assoc, drop_all, drop-append-le, length-append}
use Rattle.std.proofs.lemmas.Option.{option_and_then_some}
use Rattle.trac_rules.specs.declared.limit.TheConstants.{TEXT_LIMIT}
use Rattle.trac_rules.specs.declared.refusal.Refusal.{Refusal}
use Rattle.trac_rules.specs.declared.refusal.Refusal.TheVariants.{TooLong, NeedInput, Ended}
use Rattle.trac_rules.specs.declared.width.Width.{Width}
use Rattle.trac_rules.specs.State.{Environment, State, Tape}
use Rattle.trac_rules.specs.Reading.{unread}
use Rattle.trac_rules.specs.Stepping.{step}
use Rattle.trac_rules.specs.Session.{PlainSession, Feed, End, Step, Commit, done, refused, settled, committed, answer, accepted_by, over, repeated}
use Rattle.trac_rules.specs.Running.{Output, Stop, BudgetSpent, InputEnded, LimitPassed, stop_of, silent, going_on, output_from}
use Rattle.trac_rules.specs.GoingOn.{whole, prepended, going_on_from}
use Rattle.trac_rules.proofs.LongerTapes.{step-whole}
use Rattle.trac_rules.proofs.Steps.{step_within, step-silent_Ok, step-silent_Err, silent_of_none, output_from-output, output_from-cut, moved_back}
use Rattle.trac_rules.proofs.Refusals.{step_hopeless-silent}
use Rattle.trac_rules.proofs.Replies.{accepted_done, Step_done, Step_refused_TooLong, Step_refused_NeedInput, Step_refused_Ended, Feed_done, End_done, Commit_done}

-- ---- outputs

pub prepended-prepended : (xs ys : List ℕ) (o : Output) → prepended xs (prepended ys o) ≡ prepended (xs ++ ys) o
prepended-prepended xs ys o = ap (λ (bytes : List ℕ). record { bytes = bytes; stop = o.stop }) (sym (append_assoc xs ys o.bytes))

pub prepended_empty : (text : List ℕ) (stop : Stop) → prepended text (record { bytes = []; stop = stop }) ≡ record { bytes = text; stop = stop }
prepended_empty text stop = ap (λ (bytes : List ℕ). record { bytes = bytes; stop = stop }) (append-nil text)

-- ---- one step of a run

pub output_from_Ok : (n : ℕ) (e : Environment) (s t : State) → step e s ≡ Ok t → prepended s.output (output_from (suc n) e s) ≡ prepended t.output (output_from n e t)
unfolding output_from
output_from_Ok n e s t h =
    let at = step-silent_Ok e s t h in
    ap (λ (x : Result State Refusal). prepended s.output (going_on x (λ u. output_from n e u))) at.1
    ∙ prepended-prepended s.output at.0.output (output_from n e at.0)
    ∙ ap (λ (o : Output). prepended (s.output ++ at.0.output) o) (sym (output_from-output n e at.0 (s.output ++ at.0.output)))
    ∙ ap (λ (u : State). prepended u.output (output_from n e u)) (sym at.2)

pub output_from_Err : (n : ℕ) (e : Environment) (s : State) (refusal : Refusal) → step e (silent s) ≡ Err refusal → prepended s.output (output_from (suc n) e s) ≡ record { bytes = s.output; stop = stop_of refusal }
unfolding output_from
output_from_Err n e s r h =
    ap (λ (x : Result State Refusal). prepended s.output (going_on x (λ u. output_from n e u))) h
    ∙ prepended_empty s.output (stop_of r)

-- ---- accepted steps

-- a session after so many accepted steps
pub record IsAfterSteps (k : ℕ) (p q : PlainSession) : Type 0 where
  pub tape : q.tape ≡ p.tape
  pub width : q.width ≡ p.width
  pub limit : q.limit ≡ p.limit
  pub within : q.last.position ≤ length q.tape.bytes
  pub earlier : length q.earlier ≡ length p.earlier + k

pub after_Step : (p q : PlainSession) → p.last.position ≤ length p.tape.bytes → answer Step p ≡ done q → IsAfterSteps 1 p q
after_Step p q l h =
    let at = Step_done p q h in
    let inside : at.0.position ≤ length p.tape.bytes = step_within (over p.width p.tape) p.last at.0 at.1 l in
    rw at.2 (record { tape = refl; width = refl; limit = refl; within = inside; earlier = omega arith })

-- an accepted step writes what the run writes
pub going_on-Step : (p q : PlainSession) (more : List ℕ) (n : ℕ) → p.last.position ≤ length p.tape.bytes → answer Step p ≡ done q → (p.tape.ended ≡ true → more ≡ []) →
    going_on_from p more (suc n) ≡ going_on_from q more n
going_on-Step p q more n l h none =
    let at = Step_done p q h in
    let e : step (over p.width (whole p.tape more)) p.last ≡ Ok at.0 = step-whole (over p.width p.tape) more p.last none (λ w. cc) ∙ at.1 in
    output_from_Ok n (over p.width (whole p.tape more)) p.last at.0 e ∙ ap (λ (s : PlainSession). going_on_from s more n) (sym at.2)

pub after_repeated : (k : ℕ) (p q : PlainSession) → p.last.position ≤ length p.tape.bytes → repeated Step k p ≡ Some q → IsAfterSteps k p q
after_repeated zero p q l h = let same : p ≡ q = cc in rw (← same) (record { tape = refl; width = refl; limit = refl; within = l; earlier = omega arith })
after_repeated (suc k) p q l h =
    option_and_then_some (λ m. accepted_by (answer Step m)) (repeated Step k p) q h
    (λ m walked last.
    let before = after_repeated k p m l walked in
    let one = after_Step m q before.within (accepted_done (answer Step m) q last) in
    record {
      tape = one.tape ∙ before.tape;
      width = one.width ∙ before.width;
      limit = one.limit ∙ before.limit;
      within = one.within;
      earlier = omega (arith, one.earlier, before.earlier);
    })

-- many accepted steps write what the run writes
pub going_on-repeated : (k n : ℕ) (p q : PlainSession) (more : List ℕ) → p.last.position ≤ length p.tape.bytes → (p.tape.ended ≡ true → more ≡ []) → repeated Step k p ≡ Some q →
    going_on_from p more (n + k) ≡ going_on_from q more n
going_on-repeated zero n p q more l none h = let same : p ≡ q = cc in rw (← same) (ap (going_on_from p more) (omega arith))
going_on-repeated (suc k) n p q more l none h =
    option_and_then_some (λ m. accepted_by (answer Step m)) (repeated Step k p) q h
    (λ m walked last.
    let before = after_repeated k p m l walked in
    let count : n + suc k ≡ suc n + k = omega arith in
    ap (going_on_from p more) count
    ∙ going_on-repeated k (suc n) p m more l none walked
    ∙ going_on-Step m q more n before.within (accepted_done (answer Step m) q last) (λ ended. none (sym (ap (λ t. t.ended) before.tape) ∙ ended)))

-- ---- a commit, a feed, the end

pub settled_is : (s : State) → settled s ≡ record s { output = []; position = 0 }
settled_is s =
    let output : drop (length s.output) s.output ≡ [] = drop_all (length s.output) s.output (omega arith) in
    let place : s.position - s.position ≡ 0 = omega arith in
    λ i. record s { output = output i; position = place i }

pub after_Commit : (p q : PlainSession) → answer (Commit 0) p ≡ done q → (q.last.output ≡ []) × (q.earlier ≡ []) × (q.last.position ≡ 0) × (q.limit ≡ p.limit)
after_Commit p q h =
    rw (Commit_done 0 p q h) (ap (λ (s : State). s.output) (settled_is p.last), refl, ap (λ (s : State). s.position) (settled_is p.last), refl)

-- a run goes on from a settled state as from the state itself
pub output_from-settled : (n : ℕ) (width : Width) (tape : Tape) (more : List ℕ) (s : State) → s.position ≤ length tape.bytes →
    output_from n (over width (whole tape more)) s ≡ output_from n (over width (whole (record tape { bytes = drop s.position tape.bytes }) more)) (settled s)
output_from-settled n width tape more s l =
    sym (output_from-cut n s.position (over width (whole tape more)) s (omega arith))
    ∙ ap (λ (bytes : List ℕ). output_from n (over width (record { bytes = bytes; ended = true })) (moved_back s.position s)) (drop-append-le s.position tape.bytes more l)
    ∙ sym (output_from-output n (over width (whole (record tape { bytes = drop s.position tape.bytes }) more)) (moved_back s.position s) (drop (length s.output) s.output))

-- a commit writes the pending output
pub going_on-Commit : (p q : PlainSession) (more : List ℕ) (n : ℕ) → p.last.position ≤ length p.tape.bytes → answer (Commit 0) p ≡ done q →
    going_on_from p more n ≡ prepended p.last.output (going_on_from q more n)
going_on-Commit p q more n l h =
    let rest : Output = output_from n (over p.width (whole (committed 0 p).tape more)) (settled p.last) in
    let nothing : (settled p.last).output ≡ [] = ap (λ (s : State). s.output) (settled_is p.last) in
    ap (prepended p.last.output) (output_from-settled n p.width p.tape more p.last l)
    ∙ ap (λ (text : List ℕ). prepended p.last.output (prepended text rest)) (sym nothing)
    ∙ ap (λ (s : PlainSession). prepended p.last.output (going_on_from s more n)) (sym (Commit_done 0 p q h))

-- what a feed leaves
pub after_Feed : (p q : PlainSession) (bytes : List ℕ) → p.last.position ≤ length p.tape.bytes → answer (Feed bytes) p ≡ done q →
    (q.last ≡ p.last) × (q.earlier ≡ p.earlier) × (q.limit ≡ p.limit) × (q.last.position ≤ length q.tape.bytes) × (q.tape.ended ≡ false)
after_Feed p q d l h =
    let at = Feed_done d p q h in
    let inside : p.last.position ≤ length (p.tape.bytes ++ d) = omega (arith, length-append p.tape.bytes d) in
    rw at.0 (refl, refl, refl, inside, at.1)

pub going_on-Feed : (p q : PlainSession) (bytes more : List ℕ) (n : ℕ) → answer (Feed bytes) p ≡ done q → going_on_from p (bytes ++ more) n ≡ going_on_from q more n
going_on-Feed p q d more n h =
    ap (λ (bytes : List ℕ). prepended p.last.output (output_from n (over p.width (record { bytes = bytes; ended = true })) p.last)) (sym (append_assoc p.tape.bytes d more))
    ∙ ap (λ (s : PlainSession). going_on_from s more n) (sym (Feed_done d p q h).0)

-- what the end leaves
pub after_End : (p q : PlainSession) → p.last.position ≤ length p.tape.bytes → answer End p ≡ done q →
    (q.last ≡ p.last) × (q.earlier ≡ p.earlier) × (q.limit ≡ p.limit) × (q.last.position ≤ length q.tape.bytes) × (q.tape.ended ≡ true)
after_End p q l h = rw (End_done p q h) (refl, refl, refl, l, refl)

pub going_on-End : (p q : PlainSession) (n : ℕ) → answer End p ≡ done q → going_on_from p [] n ≡ going_on_from q [] n
going_on-End p q n h = ap (λ (s : PlainSession). going_on_from s [] n) (sym (End_done p q h))

-- ---- the ends of a run

-- without a step left the run ends for its budget
pub going_on_spent : (p : PlainSession) (more : List ℕ) → going_on_from p more zero ≡ record { bytes = p.last.output; stop = BudgetSpent }
unfolding output_from
going_on_spent p more = prepended_empty p.last.output BudgetSpent

-- where a step is refused at the end, the run ends for the end of the input
pub going_on_ended : (p q : PlainSession) (more : List ℕ) (n : ℕ) → p.last.position ≤ length p.tape.bytes → answer Step p ≡ refused Ended q → (p.tape.ended ≡ true → more ≡ []) →
    going_on_from p more (suc n) ≡ record { bytes = p.last.output; stop = InputEnded }
going_on_ended p q more n l h none =
    let e : step (over p.width p.tape) p.last ≡ Err Ended = Step_refused_Ended p q h in
    let f : step (over p.width (whole p.tape more)) p.last ≡ Err Ended = step-whole (over p.width p.tape) more p.last none (λ w. cc) ∙ e in
    output_from_Err n (over p.width (whole p.tape more)) p.last Ended (step-silent_Err (over p.width (whole p.tape more)) p.last Ended f (λ w. cc))

-- where a step is refused for a limit and nothing is pending, the run ends for the limit
pub going_on_too_long : (p q : PlainSession) (more : List ℕ) (n : ℕ) → p.last.position ≤ length p.tape.bytes → answer Step p ≡ refused TooLong q → (p.tape.ended ≡ true → more ≡ []) → p.last.output ≡ [] →
    going_on_from p more (suc n) ≡ record { bytes = []; stop = LimitPassed }
going_on_too_long p q more n l h none nothing =
    let e : step (over p.width p.tape) p.last ≡ Err TooLong = Step_refused_TooLong p q h in
    let f : step (over p.width (whole p.tape more)) p.last ≡ Err TooLong = step-whole (over p.width p.tape) more p.last none (λ w. cc) ∙ e in
    output_from_Err n (over p.width (whole p.tape more)) p.last TooLong (ap (step (over p.width (whole p.tape more))) (silent_of_none p.last nothing) ∙ f)
    ∙ ap (λ (bytes : List ℕ). record { bytes = bytes; stop = LimitPassed }) nothing

-- where a step wants input and too much is unread already, the run ends for the limit, however the input goes on
pub going_on_hopeless : (p q : PlainSession) (more : List ℕ) (n : ℕ) → p.last.position ≤ length p.tape.bytes → answer Step p ≡ refused NeedInput q → TEXT_LIMIT < length (unread p.tape p.last) →
    going_on_from p more (suc n) ≡ record { bytes = p.last.output; stop = LimitPassed }
going_on_hopeless p q more n l h long =
    output_from_Err n (over p.width (whole p.tape more)) p.last TooLong (step_hopeless-silent (over p.width p.tape) more p.last (Step_refused_NeedInput p q h) l long)
