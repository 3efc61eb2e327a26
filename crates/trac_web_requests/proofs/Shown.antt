-- What is shown is what the steps print.
use Rattle.std.proofs.Common.{◌≡◌, ℕ, ◌+◌, List, [], ◌∷◌, ◌++◌, length, refl, sym, ap, subst, ◌∙◌, arith}
use Rattle.std.specs.Prelude.{codes}
use Rattle.std.proofs.lemmas.List.{append-nil, drop_all}
use Rattle.trac_rules.specs.declared.width.Width.{Width}
use Rattle.trac_rules.specs.Session as session
use Rattle.trac_rules.specs.Session.{Answer, Command, PlainSession, answer, done, repeated}
use Rattle.trac_rules.proofs.GoingOn.{after_repeated}
use Rattle.trac_rules.proofs.Replies.{Commit_done, answer_width}
use Rattle.trac_session.specs.Outputs.{HasReleased, Prints}
use Rattle.trac_session.proofs.Released.{is_printed, last_on_tape, prints_alike}
use Rattle.trac_run.specs.Runs.{AreDone}
use Rattle.trac_debug.specs.Commands.{Commit, Forward}
use Rattle.trac_debug.specs.Debugging.{Does, TellsOutput, Turn, TurnTells, ready, turn_at}
use Rattle.trac_debug.specs.Replies.{walk_line}
use Rattle.trac_web_requests.specs.Shown.{IsShown, ByDebugger, ByFollowing, ByModule, ByRun, ByWindow, ShowsBoth}
use Rattle.trac_web_requests.proofs.Whole.{whole_run}

-- ---- the width of numbers

done_width : (command : Command) (p q : PlainSession) → answer command p ≡ done q → q.width ≡ p.width
done_width command p q h = ap (λ (a : Answer). a.session.width) (sym h) ∙ answer_width command p

all_width : (commands : List Command) (p : PlainSession) (text : List ℕ) (q : PlainSession) → AreDone commands p text q → q.width ≡ p.width
all_width [] p text q all = ap (λ (r : PlainSession). r.width) all.1
all_width (session.Feed bytes ∷ commands) p text q all = all_width commands all.2.0 text q all.2.2 ∙ done_width (session.Feed bytes) p all.2.0 all.2.1
all_width (session.End ∷ commands) p text q all = all_width commands all.1.0 text q all.1.2 ∙ done_width session.End p all.1.0 all.1.1
all_width (session.Step ∷ commands) p text q all = all_width commands all.0 text q all.2 ∙ done_width session.Step p all.0 all.1
all_width (session.Back ∷ commands) p text q all = absurd all
all_width (session.Commit keep ∷ commands) p text q all = all_width commands all.0 all.2.0 q all.2.2 ∙ done_width (session.Commit keep) p all.0 all.1

-- ---- what is shown

-- by a session over the whole input
session_printed : (width : Width) (input released text : List ℕ) (steps : ℕ) (p : PlainSession) → HasReleased input steps released p → p.width ≡ width → text ≡ released ++ p.last.output → Prints width input steps text
session_printed width input released text steps p has wide is =
    subst (λ (all : List ℕ). Prints width input steps all) (sym is)
    (subst (λ (w : Width). Prints w input steps (released ++ p.last.output)) wide
    (subst (λ (bytes : List ℕ). Prints p.width bytes steps (released ++ p.last.output)) (append-nil input) (is_printed input released steps p has [] (λ _. refl))))

-- by one that the debugger has come to
told_released : (input : List ℕ) (lines : List (List ℕ)) (number steps : ℕ) (text : List ℕ) (p : PlainSession) (written : List ℕ) → TellsOutput input lines number steps text p written → HasReleased input steps text p
told_released input [] number steps text p written told = told.0
told_released input (line ∷ lines) number steps text p written told = told.0

pub shown_printed : (width : Width) (input text : List ℕ) (steps : ℕ) → IsShown width input steps text → Prints width input steps text
shown_printed width input text steps (ByRun rest budget ending run taken sound) = (whole_run width budget steps input rest [] text ending refl run taken).exact sound
shown_printed width input text steps (ByDebugger lines number released written p told wide is) =
    session_printed width input released text steps p (told_released input lines number steps released p written told) wide is
shown_printed width input text steps (ByWindow released forgotten count p window wide is) = session_printed width input released text steps p window.has wide is
shown_printed width input text steps (ByModule budget ending run sound) = run.exact sound
shown_printed width input text steps (ByFollowing limit spot rows way is) =
    session_printed width input way.output text steps way.p way.window.has (all_width way.reached.commands (ready input limit width) way.reached.released way.p way.reached.are_done) is

pub shown_alike : (width : Width) (input first second : List ℕ) (steps : ℕ) → IsShown width input steps first → IsShown width input steps second → first ≡ second
shown_alike width input first second steps one other = prints_alike width input first second steps (shown_printed width input first steps one) (shown_printed width input second steps other)

-- ---- two replies of the debugger

-- nothing is pending once all is released
none_pending : (p q : PlainSession) → answer (session.Commit 0) p ≡ done q → q.last.output ≡ []
none_pending p q h = ap (λ (r : PlainSession). r.last.output) (Commit_done 0 p q h) ∙ drop_all (length p.last.output) p.last.output (omega arith)

-- the texts that were released before, on the way forward and at last
all_released : (text none more pending : List ℕ) → none ≡ [] → pending ≡ [] → text ++ more ≡ ((text ++ none) ++ more) ++ pending
all_released text none more pending first last =
    sym (ap (λ (end : List ℕ). ((text ++ none) ++ more) ++ end) last ∙ append-nil ((text ++ none) ++ more)
    ∙ ap (λ (t : List ℕ). (text ++ t) ++ more) first ∙ ap (λ (t : List ℕ). t ++ more) (append-nil text))

pub replied_both : (input text written forward release : List ℕ) (lines : List (List ℕ)) (number most before : ℕ) (p : PlainSession) → turn_at number forward ≡ Does (Forward most) →
    turn_at (number + 1) release ≡ Does (Commit 0) → TellsOutput input (forward ∷ release ∷ lines) number before text p written → ShowsBoth p.width input before text written
replied_both input text written forward release lines number most before p goes releases told =
    let After : ℕ → List ℕ → PlainSession → List ℕ → Type 0 = λ after all q rest. TellsOutput input (release ∷ lines) (number + 1) after all q rest in
    let one : TurnTells (Does (Forward most)) before text p After written = subst (λ (turn : Turn). TurnTells turn before text p After written) goes told.1 in
    let q : PlainSession = one.1 in
    let here : ℕ = one.3 in
    let none : List ℕ = one.4 in
    let Last : ℕ → List ℕ → PlainSession → List ℕ → Type 0 = λ after all r rest. TellsOutput input lines (number + 1 + 1) after all r rest in
    let two : TurnTells (Does (Commit 0)) here (text ++ none) q Last one.2 = subst (λ (turn : Turn). TurnTells turn here (text ++ none) q Last one.2) releases one.8.1 in
    let r : PlainSession = two.1 in
    let more : List ℕ = two.4 in
    let steps : ℕ = one.6.0.0 in
    let there : two.3 ≡ before + steps = two.6.0 ∙ one.6.0.3 in
    let wide : r.width ≡ p.width =
    done_width (session.Commit 0) q r two.5.1 ∙ (after_repeated one.5.0 p q (last_on_tape p told.0.trail told.0.on_tape) one.5.2.walked).width in
    record {
      steps = steps;
      why = one.6.0.1;
      more = more;
      later = two.2;
      replies = one.7 ∙ ap (λ (reply : List ℕ). reply ++ one.2) one.6.0.2
          ∙ ap (λ (rest : List ℕ). walk_line (codes "forward") steps one.6.0.1 ++ rest) (two.7 ∙ ap (λ (reply : List ℕ). reply ++ two.2) two.6.1);
      shown = ByDebugger lines (number + 1 + 1) ((text ++ none) ++ more) two.2 r
          (subst (λ (n : ℕ). TellsOutput input lines (number + 1 + 1) n ((text ++ none) ++ more) r two.2) there two.8) wide
          (all_released text none more r.last.output one.6.1 (none_pending q r two.5.1));
    }
