-- A whole run, turn by turn.
use Rattle.std.proofs.Common.{◌≡◌, ℕ, ◌+◌, ◌-◌, ◌*◌, ◌≤◌, true, false, List, [], ◌++◌, length, refl, sym, ap, subst, ◌∙◌, arith, inl, ⊎_elim}
use Rattle.std.specs.Prelude.{Option, nat_lt}
use Rattle.std.proofs.lemmas.Bool.{false≢true, lt-ltb}
use Rattle.std.proofs.lemmas.List.{append_assoc, length-append}
use Rattle.trac_rules.specs.declared.limit.TheConstants.{TAPE_LIMIT}
use Rattle.trac_rules.specs.declared.width.Width.{Width}
use Rattle.trac_rules.specs.Limits.{texts_fit}
use Rattle.trac_rules.specs.Scanning.{scan}
use Rattle.trac_rules.specs.Session.{MayRunOut, PlainSession, Step, answer, new_session}
use Rattle.trac_rules.specs.Stepping.{step}
use Rattle.trac_rules.specs.Running.{Output, output_of}
use Rattle.trac_rules.specs.GoingOn.{prepended, going_on_from}
use Rattle.trac_streams.specs.declared.ending.Ending.{Ending}
use Rattle.trac_streams.specs.declared.ending.Ending.TheVariants.{Ended, Budget, Limit, Memory, Read, Write, NotUnderstood}
use Rattle.trac_rules.specs.Fronts.{IsFrontOf}
use Rattle.trac_streams.specs.Written.{Closes}
use Rattle.trac_run.specs.Runs.{Shows, Runs, RunsAnew, RunsBy, FeedsSteps, FeedsToLast, IsFresh, GoesOn, Finishes, most_read, most_reads, unread_count}
use Rattle.trac_streams.specs.Reading.{end_reads}
use Rattle.trac_streams.proofs.Gathered.{end_reads_one}
use Rattle.trac_streams.proofs.Known.{Appends-nothing, Consumes-nothing, front_after, front_of_nothing, empty_front}
use Rattle.trac_run.proofs.Stepped.{feeds_both, feeds_late, feeds_none, leaves_closed, no_step}
use Rattle.trac_run.proofs.Transfers.{only_written, both_moved, goes_on_twice, rest_left}
use Rattle.trac_run.proofs.Turned.{Shows-Write, no_steps_write}

-- what a run has done so far: it goes on from a new session to this one, which so many steps of it made
pub record SoFar (in_old in_now out_old out_now : Option (List ℕ)) (width : Width) (budget : ℕ) (start p : PlainSession) (left reads : ℕ) : Type 0 where
  pub new : (limit : ℕ) × (start ≡ new_session limit width)
  pub fresh : IsFresh p
  pub on : GoesOn in_old in_now out_old out_now 0 reads start budget p left
  pub fits : length p.tape.bytes ≤ TAPE_LIMIT
  pub within : left ≤ budget
  pub steps : FeedsSteps in_old in_now out_old out_now (budget - left) [] [] start p

-- at the beginning nothing is read, and nothing written
pub so_far_new : (input output : Option (List ℕ)) (width : Width) (budget limit : ℕ) (p : PlainSession) → 1 ≤ limit → p ≡ new_session limit width → SoFar input input output output width budget p p budget 0
so_far_new input output width budget limit p some e =
    subst (λ (s : PlainSession). SoFar input input output output width budget s s budget 0) (sym e) (record {
      new = (limit, refl);
      fresh = record { some_records = some; first = refl; nothing_pending = refl; nothing_read = refl };
      on = record {
        moved = only_written input output output [] (Appends-nothing output);
        closed = λ over. absurd (false≢true over);
        at_end = λ over. absurd (false≢true over);
        within = omega arith;
        rest = λ k more none. let count : k + (budget - budget) ≡ k = omega arith in ap (going_on_from (new_session limit width) more) count;
        fits = λ fits. fits;
        few = λ _. omega arith;
        counted = refl;
      };
      fits = omega arith;
      within = omega arith;
      steps = subst (λ n. FeedsSteps input input output output n [] [] (new_session limit width) (new_session limit width)) (no_step budget) (feeds_none input output (new_session limit width) (new_session limit width) refl);
    })

-- what is stated of the input is what goes on from the new session; and what was read is no more than its steps may take
-- and what is unread
module _ {in_old in_now out_old out_now : Option (List ℕ)} {width : Width} {budget : ℕ} {start p : PlainSession} {left reads : ℕ} (far : SoFar in_old in_now out_old out_now width budget start p left reads) where
  stated : (text : List ℕ) (n : ℕ) → output_of width text n ≡ going_on_from start text n
  stated text n = rw far.new.1 refl

  so_far : (length far.on.moved.got + left * TAPE_LIMIT ≤ unread_count p + budget * TAPE_LIMIT) × (reads ≡ far.on.moved.full + end_reads p.tape.ended)
  so_far =
      let empty = ap (λ (s : PlainSession). length s.tape.bytes) far.new.1 in
      let open_ = ap (λ (s : PlainSession). end_reads s.tape.ended) far.new.1 in
      (omega (arith, far.on.few (omega (arith, empty)), empty), omega (arith, far.on.counted, open_))

-- no more reads than may be, and few enough to be counted
pub few_so_far : (in_old in_now out_old out_now : Option (List ℕ)) (width : Width) (budget : ℕ) (start p : PlainSession) (left reads : ℕ) → budget ≤ 1000000000000 →
    SoFar in_old in_now out_old out_now width budget start p left reads → reads ≤ most_reads 1000000000000
few_so_far in_old in_now out_old out_now width budget start p left reads few far =
    omega (arith, few, (so_far far).1, far.on.moved.came.0, (so_far far).0, far.fits, far.within, end_reads_one p.tape.ended)

-- the steps so far and those of a turn
steps_so_far : {in_old in_now in_new out_old out_now out_new : Option (List ℕ)} {rest late : List ℕ} (budget m n : ℕ) (start p q : PlainSession) → m ≤ budget → n ≤ m → FeedsSteps in_old in_now out_old out_now (budget - m) [] [] start p →
    FeedsSteps in_now in_new out_now out_new (m - n) rest late p q → FeedsSteps in_old in_new out_old out_new (budget - n) rest late start q
steps_so_far {in_old} {in_now} {in_new} {out_old} {out_now} {out_new} {rest} {late} budget m n start p q within fewer first second =
    let count : (budget - m) + (m - n) ≡ budget - n = omega (arith, within, fewer) in
    subst (λ k. FeedsSteps in_old in_new out_old out_new k rest late start q) count (feeds_both (budget - m) (m - n) start p q first second)

-- a turn
pub so_far_turn : (in_old in_now in_new out_old out_now out_new : Option (List ℕ)) (width : Width) (budget : ℕ) (start p q : PlainSession) (m n reads_now reads_new : ℕ) →
    SoFar in_old in_now out_old out_now width budget start p m reads_now → GoesOn in_now in_new out_now out_new reads_now reads_new p m q n → n ≤ m → FeedsSteps in_now in_new out_now out_new (m - n) [] [] p q → IsFresh q →
    SoFar in_old in_new out_old out_new width budget start q n reads_new
so_far_turn in_old in_now in_new out_old out_now out_new width budget start p q m n reads_now reads_new far on fewer steps fresh = record {
  new = far.new;
  fresh = fresh;
  on = goes_on_twice in_old in_now in_new out_old out_now out_new 0 reads_now reads_new start p q budget m n far.on on;
  fits = on.fits far.fits;
  within = omega (arith, far.within, fewer);
  steps = steps_so_far budget m n start p q far.within fewer far.steps steps;
}

-- what an ending says after what was written
pub Shows-prepended : (ending : Ending) (text written : List ℕ) (o : Output) → Shows ending written o → Shows ending (text ++ written) (prepended text o)
Shows-prepended Ended text written o shows = ap (prepended text) shows
Shows-prepended Budget text written o shows = ap (prepended text) shows
Shows-prepended Limit text written o shows = ap (prepended text) shows
Shows-prepended Memory text written o shows = tt
Shows-prepended Read text written o shows = tt
Shows-prepended Write text written o shows = tt
Shows-prepended (NotUnderstood line) text written o shows = absurd shows

-- the last turn
pub ran : (in_old in_now in_new out_old out_now out_new : Option (List ℕ)) (width : Width) (budget : ℕ) (start p : PlainSession) (m n reads_now reads_new : ℕ) (ending : Ending) →
    SoFar in_old in_now out_old out_now width budget start p m reads_now → Finishes in_now in_new out_now out_new reads_now reads_new p m n ending → n ≤ m →
    RunsBy in_old in_new out_old out_new width budget (budget - n) reads_new ending
ran in_old in_now in_new out_old out_now out_new width budget start p m n reads_now reads_new ending far last fewer =
    let one = far.on.moved in
    let two = last.moved in
    let both = both_moved one two in
    let all : (more : List ℕ) → (p.tape.ended ≡ true → more ≡ []) → output_of width ((one.got ++ two.got) ++ more) budget ≡ prepended one.written (going_on_from p (two.got ++ more) m) =
    λ more none.
    stated far ((one.got ++ two.got) ++ more) budget ∙ ap (λ text. going_on_from start text budget) (append_assoc one.got two.got more)
    ∙ rest_left far.on (two.got ++ more) (λ over. ap (λ g. g ++ more) (last.closed over) ∙ none over) in
    let count : budget - n ≡ (m - n) + (budget - m) = omega (arith, far.within, fewer) in
    let taken : (steps : ℕ) → steps + n ≡ budget → length (one.got ++ two.got) ≤ most_read steps =
    λ steps all_. omega (arith, all_, length-append one.got two.got, (so_far far).0, last.few far.fits) in
    let read : (steps : ℕ) → steps + n ≡ budget → reads_new ≤ most_reads steps =
    λ steps all_. omega (arith, all_, (so_far far).1, one.came.0, (so_far far).0, last.counted, last.few_reads far.fits) in
    let all_steps : (budget - n) + n ≡ budget = omega (arith, far.within, fewer) in
    record {
      runs = record {
        got = both.got;
        written = both.written;
        saw_end = p.tape.ended;
        steps = budget - n;
        within = omega arith;
        few = taken (budget - n) all_steps;
        took = both.took;
        gave = both.gave;
        at_end = last.at_end;
        front = λ more none. subst (λ (o : Output). IsFrontOf both.written o.bytes) (sym (all more none))
            (front_after one.written two.written (going_on_from p (two.got ++ more) m).bytes (last.front more none));
        shows = λ more none. subst (λ (o : Output). Shows ending both.written o) (sym (all more none))
            (Shows-prepended ending one.written two.written (going_on_from p (two.got ++ more) m) (last.shows more none));
        exact = λ sound more none.
            stated far ((one.got ++ two.got) ++ more) (budget - n)
            ∙ ap (λ text. going_on_from start text (budget - n)) (append_assoc one.got two.got more)
            ∙ ap (going_on_from start (one.got ++ (two.got ++ more))) count
            ∙ far.on.rest (m - n) (two.got ++ more) (λ over. ap (λ g. g ++ more) (last.closed over) ∙ none over)
            ∙ ap (prepended one.written) (last.exact sound more none);
      };
      taken = refl;
      counted = (both.full, both.came, omega (arith, (so_far far).1, last.counted));
      few_reads = read (budget - n) all_steps;
    }

-- the steps of the last turn too
pub ran_steps : {in_new out_new : Option (List ℕ)} (ending : Ending) (in_old in_now out_old out_now : Option (List ℕ)) (width : Width) (budget : ℕ) (start p q : PlainSession) (m n reads : ℕ) →
    SoFar in_old in_now out_old out_now width budget start p m reads → n ≤ m → FeedsToLast ending in_now in_new out_now out_new (m - n) p q → FeedsToLast ending in_old in_new out_old out_new (budget - n) start q
ran_steps ending in_old in_now out_old out_now width budget start p q m n reads far fewer steps = (steps.0, steps.1, steps_so_far budget m n start p q far.within fewer far.steps steps.2, steps.3)

-- a run that did not begin for want of memory
pub ran_not : (input : Option (List ℕ)) (out_old out_new : Option (List ℕ)) (text : List ℕ) (width : Width) (budget : ℕ) (result : Ending) → text ≡ [] → Closes out_old out_new text Memory result →
    Runs input input out_old out_new width budget result
ran_not input out_old out_new text width budget result none closes =
    let nothing : closes.written ≡ [] = empty_front closes.written text closes.front none in
    record {
      got = [];
      written = closes.written;
      saw_end = false;
      steps = 0;
      within = omega arith;
      few = omega arith;
      took = Consumes-nothing input;
      gave = closes.gave;
      at_end = λ over. absurd (false≢true over);
      front = λ more _. subst (λ t. IsFrontOf t (output_of width more budget).bytes) (sym nothing) (front_of_nothing (output_of width more budget).bytes);
      shows = λ more _. ⊎_elim
          (λ (all : (result ≡ Memory) × (closes.written ≡ text)). subst (λ w. Shows w closes.written (output_of width more budget)) (sym all.0) tt)
          (λ (fault : result ≡ Write). Shows-Write result closes.written (output_of width more budget) fault)
          closes.ends;
      exact = λ _ more _. no_steps_write (new_session 1 width) 0 more closes.written nothing;
    }

-- a new session is new by its own limit and width
pub new_by_itself : (limit : ℕ) (width : Width) (p : PlainSession) → p ≡ new_session limit width → p ≡ new_session p.limit p.width
new_by_itself limit width p made = made ∙ sym (ap (λ (s : PlainSession). new_session s.limit s.width) made)

-- the first step of a new session begins a function
new_lacks : (limit : ℕ) (width : Width) → 1 ≤ limit → MayRunOut Step (answer Step (new_session limit width)).reply
unfolding answer step scan texts_fit
new_lacks limit width some = let test : nat_lt 0 limit ≡ true = lt-ltb 0 limit (omega (arith, some)) in rw test tt

-- it took no steps
pub ran_not_anew : (input : Option (List ℕ)) (out_old out_new : Option (List ℕ)) (text : List ℕ) (journal : ℕ) (width : Width) (budget : ℕ) (result : Ending) → 1 ≤ journal → text ≡ [] → Closes out_old out_new text Memory result →
    RunsAnew input input out_old out_new journal width budget result
unfolding ran_not
ran_not_anew input out_old out_new text journal width budget result some none closes = record {
  runs = ran_not input out_old out_new text width budget result none closes;
  session = new_session journal width;
  feeds = (
    [],
    closes.written,
    feeds_late (new_session journal width) (new_session journal width) refl (record { written = closes.written; front = subst (IsFrontOf closes.written) none closes.front; gave = closes.gave }),
    leaves_closed Memory result [] (new_session journal width) closes.ends (inl (refl, (new_lacks journal width some, refl))),
  );
}

-- a run from a new session
pub ran_anew : {in_old in_new out_old out_new : Option (List ℕ)} (journal : ℕ) (width : Width) (budget steps reads : ℕ) (start q : PlainSession) (ending : Ending) → start ≡ new_session journal width →
    RunsBy in_old in_new out_old out_new start.width budget steps reads ending → FeedsToLast ending in_old in_new out_old out_new steps start q → RunsAnew in_old in_new out_old out_new journal width budget ending
ran_anew {in_old} {in_new} {out_old} {out_new} journal width budget steps reads start q ending made by feeds =
    let here : start ≡ new_session journal start.width = made ∙ ap (λ (s : PlainSession). new_session journal s.width) (sym made) in
    subst (λ w. RunsAnew in_old in_new out_old out_new journal w budget ending) (ap (λ (s : PlainSession). s.width) made) (record {
      runs = by.runs;
      session = q;
      feeds = subst (λ n. FeedsToLast ending in_old in_new out_old out_new n (new_session journal start.width) q) (sym by.taken) (subst (λ p. FeedsToLast ending in_old in_new out_old out_new steps p q) here feeds);
    })
