-- Where a window and a walker stand after what is done to them.
use Rattle.std.proofs.Common.{◌≡◌, ℕ, zero, suc, ◌+◌, ◌-◌, ◌^◌, ◌<◌, ◌≤◌, List, [], ◌∷◌, ◌++◌, length, take, min, refl, sym, ap, subst, ◌∙◌, arith, ⊎_elim}
use Rattle.std.specs.Prelude.{◌&&◌, Bool, MatchOption, Option, None, Some, false, nat_lt, true}
use Rattle.std.proofs.lemmas.Bool.{cases_lt}
use Rattle.std.proofs.lemmas.Option.{option_and_then_some}
use Rattle.trac_rules.specs.declared.refusal.Refusal.{Refusal}
use Rattle.trac_rules.specs.declared.refusal.Refusal.TheVariants.{NotMet}
use Rattle.trac_rules.specs.declared.reply.Reply.TheVariants.{Refused}
use Rattle.trac_rules.specs.declared.width.Width.{Width}
use Rattle.trac_rules.specs.State.{Environment, State, Tape}
use Rattle.trac_rules.specs.Trails.{AreSteps, IsTrail}
use Rattle.trac_rules.specs.Session.{PlainSession, Command, Back, Commit, End, Feed, Step, Answers, Goal, HasEnded, IsWalk, accepted_by, answer, done, first_kept, first_of, new_session, no_goal, over, repeated}
use Rattle.trac_rules.proofs.GoingOn.{after_repeated}
use Rattle.trac_rules.proofs.Replies.{Commit_done, End_done, Feed_done, accepted_done}
use Rattle.trac_rules.proofs.Steps.{step_onward}
use Rattle.trac_rules.proofs.TakenAgain.{Back_done}
use Rattle.trac_session.specs.declared.walk.Return as returns
use Rattle.trac_session.specs.declared.walk.Return.{Return}
use Rattle.trac_session.specs.Goals.{outcome}
use Rattle.trac_session.specs.Outputs.{gone_back}
use Rattle.trac_session.specs.Returns.{IsReturn}
use Rattle.trac_session.specs.Within.{IsSearchWithin, IsWalkWithin}
use Rattle.trac_session.proofs.Released.{last_on_tape}
use Rattle.trac_session.proofs.Returned.{back_count}
use Rattle.trac_sight.specs.declared.reach.Forgetting.{Forgetting}
use Rattle.trac_moves.specs.declared.walker.Walker.{Walker}
use Rattle.trac_moves.specs.declared.window.Window.{Window}
use Rattle.trac_moves.specs.States.{KeepsStates}
use Rattle.trac_moves.specs.Steps.{number_of_step}
use Rattle.trac_moves.specs.Walkers.{IsBackward, IsReturned, Moves, refusal_said}
use Rattle.trac_moves.specs.Windows.{IsOver, IsWindow, StaysOver}
use Rattle.trac_moves.proofs.InRun.{backs_keep, commit_keeps, end_keeps, feed_keeps, new_keeps, steps_keep}
use Rattle.trac_moves.proofs.Kept.{backward, ended, fed, forward}

-- the number of the step that comes next
pub numbered : (input text : List ℕ) (steps forgotten released : ℕ) (p : PlainSession) → IsWindow input steps text forgotten released p →
    number_of_step forgotten (length p.earlier) ≡ min steps (2 ^ 64 - 1)
numbered input text steps forgotten released p w = omega (arith, w.steps_forgotten, w.has.counted)

-- steps back do not change the width
same_back : (n : ℕ) (p q : PlainSession) → repeated Back n p ≡ Some q → q.width ≡ p.width
same_back zero p q walked = let same : p ≡ q = cc in ap (λ (r : PlainSession). r.width) (sym same)
same_back (suc n) p q walked =
    option_and_then_some (λ (m : PlainSession). accepted_by (answer Back m)) (repeated Back n p) q walked
    (λ m there next. ap (λ (r : PlainSession). r.width) (Back_done m q (accepted_done (answer Back m) q next)).3 ∙ same_back n p m there)

-- the first state that a commit keeps has read no more than the tape has
first_onward : (e : Environment) (keep : ℕ) (earlier : List State) (t : State) → AreSteps e earlier t → (first_of t (take keep earlier)).position ≤ t.position
first_onward e zero earlier t all = omega arith
first_onward e (suc keep) [] t all = omega arith
first_onward e (suc keep) (s ∷ earlier) t all = omega (arith, first_onward e keep earlier s all.1, step_onward e s t all.0)

first_on_tape : (keep : ℕ) (p : PlainSession) → IsTrail p → (gone_back p).last.position ≤ length p.tape.bytes → (first_kept keep p).position ≤ length p.tape.bytes
first_on_tape keep p trail on_tape = omega (arith, first_onward (over p.width p.tape) keep p.earlier p.last trail.steps, last_on_tape p trail on_tape)

-- a walk that no refusal ended took all its steps
walked_all : (command : Command) (n steps : ℕ) (why : Option Refusal) (old new : PlainSession) → IsWalk command no_goal n old steps why new → why ≡ None → steps ≡ n
walked_all command n steps why old new walk none = ⊎_elim
    (λ (all : steps ≡ n). all)
    (λ (met : (0 < steps) × (false ≡ true)). absurd (cc (met.1)))
    (subst (λ w. MatchOption w (HasEnded no_goal n steps new) (λ refusal. (steps < n) × (0 < steps → no_goal new.last ≡ false) × Answers command new (Refused refusal) new)) none walk.stopped)

-- a walk that may take a step takes one, if no refusal ends it
pub takes_some : (most : ℕ) (goal : Goal) (n : ℕ) (old : PlainSession) (steps : ℕ) (why : Option Refusal) (new : PlainSession) → IsWalkWithin most goal n old steps why new → why ≡ None → 0 < n → 0 < steps
takes_some most goal n old steps why new within none some =
    let any : 0 < within.allowed = ⊎_elim (λ (l : within.allowed < n). (within.heavy l).0) (λ (all : n ≤ within.allowed). omega (arith, all, some)) (cases_lt within.allowed n) in
    ⊎_elim
    (λ (all : steps ≡ within.allowed). omega (arith, all, any))
    (λ (met : (0 < steps) × (goal new.last ≡ true)). met.0)
    (subst (λ w. MatchOption w (HasEnded goal within.allowed steps new) (λ refusal. (steps < within.allowed) × (0 < steps → goal new.last ≡ false) × Answers Step new (Refused refusal) new)) none within.walk.stopped)

-- so does one to a goal
pub finds_some : (most : ℕ) (goal : Goal) (n : ℕ) (old : PlainSession) (steps : ℕ) (why : Option Refusal) (new : PlainSession) → IsSearchWithin most goal n old steps why new → why ≡ None → 0 < n → 0 < steps
finds_some most goal n old steps why new search none =
    takes_some most goal n old steps search.0 new search.1 (unended (nat_lt 0 steps && goal new.last) search.0 (sym none ∙ search.2))
  where
    unended : (met : Bool) (ended : Option Refusal) → None ≡ outcome met ended → ended ≡ None
    unended met None is = refl
    unended met (Some refusal) is = absurd (cc)

module _ {A : Type 0} where
  -- ---- a window

  pub over_made : (tape : List ℕ) (limit : ℕ) (width : Width) (w : Window A) → answer (Feed tape) (new_session limit width) ≡ done w.session →
      IsWindow tape 0 [] w.forgotten w.released w.session → IsOver (record { bytes = tape; ended = false }) width 0 w
  over_made tape limit width w fed is =
      let at = (Feed_done tape (new_session limit width) w.session fed).0 in
      record {
        text = [];
        is = is;
        states = subst (λ (p : PlainSession). KeepsStates (record { bytes = tape; ended = false }) 0 p) (sym at) (new_keeps limit width (record { bytes = tape; ended = false }));
        wide = ap (λ (p : PlainSession). p.width) at;
      }

  pub over_kept : (keep : ℕ) (w v : Window A) → answer (Commit keep) w.session ≡ done v.session →
      ((input text : List ℕ) (steps : ℕ) → IsWindow input steps text w.forgotten w.released w.session →
      IsWindow input steps (text ++ (first_kept keep w.session).output) v.forgotten v.released v.session) → StaysOver w v
  over_kept keep w v kept released input width steps o =
      let at = Commit_done keep w.session v.session kept in
      record {
        text = o.text ++ (first_kept keep w.session).output;
        is = released input.bytes o.text steps o.is;
        states = commit_keeps keep input steps w.session v.session o.states o.is.has.trail kept (first_on_tape keep w.session o.is.has.trail o.is.has.on_tape);
        wide = ap (λ (p : PlainSession). p.width) at ∙ o.wide;
      }

  pub over_ended : (input : Tape) (width : Width) (steps : ℕ) (w : Window A) (q : PlainSession) → IsOver input width steps w → answer End w.session ≡ done q →
      IsOver (record input { ended = true }) width steps (record w { session = q })
  over_ended input width steps w q o done_ =
      let at = End_done w.session q done_ in
      record {
        text = o.text;
        is = ended input.bytes o.text steps w.forgotten w.released w.session q o.is done_;
        states = end_keeps input steps w.session q o.states done_;
        wide = ap (λ (p : PlainSession). p.width) at ∙ o.wide;
      }

  pub over_stepped : (n : ℕ) (input : Tape) (width : Width) (steps : ℕ) (w : Window A) (q : PlainSession) → IsOver input width steps w → repeated Step n w.session ≡ Some q →
      IsOver input width (steps + n) (record w { session = q })
  over_stepped n input width steps w q o walked =
      let at = after_repeated n w.session q (last_on_tape w.session o.is.has.trail o.is.has.on_tape) walked in
      record {
        text = o.text;
        is = forward n input.bytes o.text steps w.forgotten w.released w.session q o.is walked;
        states = steps_keep n input steps w.session q o.states walked;
        wide = at.width ∙ o.wide;
      }

  pub over_back : (n : ℕ) (input : Tape) (width : Width) (steps : ℕ) (w : Window A) (q : PlainSession) → IsOver input width steps w → repeated Back n w.session ≡ Some q →
      IsOver input width (steps - n) (record w { session = q })
  over_back n input width steps w q o walked =
      record {
        text = o.text;
        is = backward n input.bytes o.text steps w.forgotten w.released w.session q o.is walked;
        states = backs_keep n input steps w.session q o.states walked;
        wide = same_back n w.session q walked ∙ o.wide;
      }

  pub over_fed : (bytes : List ℕ) (input : Tape) (width : Width) (steps : ℕ) (w : Window A) (q : PlainSession) → IsOver input width steps w → answer (Feed bytes) w.session ≡ done q →
      IsOver (record input { bytes = input.bytes ++ bytes }) width steps (record w { session = q })
  over_fed bytes input width steps w q o done_ =
      let at = (Feed_done bytes w.session q done_).0 in
      record {
        text = o.text;
        is = fed bytes input.bytes o.text steps w.forgotten w.released w.session q o.is done_;
        states = feed_keeps bytes input steps w.session q o.states done_;
        wide = ap (λ (p : PlainSession). p.width) at ∙ o.wide;
      }

  -- ---- a walker

  pub moves_none : (w : Walker A) → Moves (λ steps after. after ≡ steps) w w
  moves_none w = λ input width steps s. (steps, refl, s)

  pub moves_kept : (w : Walker A) (v : Window A) (reason : Option Forgetting) → StaysOver w.window v → Moves (λ steps after. after ≡ steps) w (record w { window = v; reason = reason })
  moves_kept w v reason stays = λ input width steps s. (steps, refl, record { over = stays input width steps s.over; given = s.given; closed = s.closed })

  pub moves_on : (Leads : ℕ → ℕ → Type 0) (n : ℕ) (w : Walker A) (q : PlainSession) → repeated Step n w.window.session ≡ Some q → ((steps : ℕ) → Leads steps (steps + n)) →
      Moves Leads w (record w { window = record w.window { session = q } })
  moves_on Leads n w q walked leads = λ input width steps s.
      (steps + n, leads steps, record { over = over_stepped n input width steps w.window q s.over walked; given = s.given; closed = s.closed })

  pub moves_back : (Leads : ℕ → ℕ → Type 0) (n : ℕ) (w : Walker A) (q : PlainSession) → repeated Back n w.window.session ≡ Some q → ((steps : ℕ) → n ≤ steps → Leads steps (steps - n)) →
      Moves Leads w (record w { window = record w.window { session = q } })
  moves_back Leads n w q walked leads = λ input width steps s. (
    steps - n,
    leads steps (omega (arith, back_count n w.window.session q walked, s.over.is.has.counted)),
    record { over = over_back n input width steps w.window q s.over walked; given = s.given; closed = s.closed },
  )

  -- one move after another
  pub moves_then : {First Then Both : ℕ → ℕ → Type 0} (u v w : Walker A) → Moves First u v → Moves Then v w →
      ((x y z : ℕ) → First x y → Then y z → Both x z) → Moves Both u w
  moves_then u v w first then_ both = λ input width steps s.
      let one = first input width steps s in
      let two = then_ input width one.0 one.2 in
      (two.0, both steps one.0 two.0 one.1 two.1, two.2)

  pub moves_as : {First Then : ℕ → ℕ → Type 0} (v w : Walker A) → Moves First v w → ((x y : ℕ) → First x y → Then x y) → Moves Then v w
  moves_as v w first then_ = λ input width steps s. let one = first input width steps s in (one.0, then_ steps one.0 one.1, one.2)

  -- ---- walks forward, one after another

  pub gone_on : (most left n : ℕ) (start here room there : Walker A) (q : PlainSession) → left ≤ most → n ≤ left → Moves (λ steps after. after ≡ steps + (most - left)) start here →
      Moves (λ steps after. after ≡ steps) here room → repeated Step n room.window.session ≡ Some q →
      Moves (λ steps after. after ≡ steps) (record room { window = record room.window { session = q } }) there →
      Moves (λ steps after. after ≡ steps + (most - (left - n))) start there
  gone_on most left n start here room there q within few before roomy walked after = λ input width steps s.
      let at = before input width steps s in
      let made = roomy input width at.0 at.2 in
      let gone = moves_on (λ x y. y ≡ x + n) n room q walked (λ x. refl) input width made.0 made.2 in
      let last = after input width gone.0 gone.2 in
      (last.0, omega (arith, at.1, made.1, gone.1, last.1), last.2)

  -- ---- walks back

  pub moves_backed : (most steps : ℕ) (why : Option Refusal) (w : Walker A) (q : PlainSession) → IsWalk Back no_goal most w.window.session steps why q →
      Moves (IsBackward most why) w (record w { window = record w.window { session = q } })
  moves_backed most steps why w q walk =
      moves_back (IsBackward most why) steps w q walk.walked
      (λ x few. (omega arith, omega (arith, walk.within), λ none. omega (arith, few, walked_all Back most steps why w.window.session q walk none)))

  pub moves_returned : (goal : Goal) (outcome : Return) (w : Walker A) (q : PlainSession) → IsReturn goal w.window.session outcome q →
      Moves (IsReturned (refusal_said outcome)) w (record w { window = record w.window { session = q } })
  moves_returned goal (returns.TheVariants.Met steps) w q h =
      moves_back (IsReturned None) steps w q h.1.walked (λ x few. (omega arith, λ no. absurd (cc)))
  moves_returned goal returns.TheVariants.NotMet w q h =
      moves_on (IsReturned (Some NotMet)) 0 w q (ap (λ (p : PlainSession). Some p) (sym h.1)) (λ x. (omega arith, λ met. omega arith))
  moves_returned goal (returns.TheVariants.Stopped left why) w q h =
      let memory = h.1.memory in
      moves_back (IsReturned (Some why)) left w q h.1.back (λ x few. (omega arith, λ no. absurd (cc)))
