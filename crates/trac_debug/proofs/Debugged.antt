-- A session of the debugger, line by line.
use Rattle.std.proofs.Common.{◌≡◌, ℕ, ◌+◌, ◌-◌, ◌*◌, ◌<◌, ◌≤◌, not, Bool, true, false, List, [], ◌∷◌, ◌++◌, length, take, drop, refl, sym, ap, subst, ◌∙◌, arith, inl, inr, ⊎_elim}
use Rattle.std.specs.Prelude.{◌⊎◌, Option, None, Some, nat_le, if◌then◌else◌}
use Rattle.std.specs.Io.KnownBytes.{Appends, Consumes, IsAtEnd, Keeps}
use Rattle.std.proofs.lemmas.Bool.{false≢true, cond-true, cond-false, le-leb, lt-leb, cases_lt}
use Rattle.std.proofs.lemmas.List.{append-nil, append_assoc, length-append, length-drop, length-take-le}
use Rattle.std.proofs.Math.Seq.{drop-append_seam, take-append_seam}
use Rattle.trac_rules.specs.declared.width.Width.{Width}
use Rattle.trac_rules.specs.declared.limit.TheConstants.{TAPE_LIMIT}
use Rattle.trac_rules.specs.Fronts.{IsFrontOf}
use Rattle.trac_rules.specs.Session.{PlainSession, done}
use Rattle.trac_streams.specs.declared.ending.Ending.{Ending}
use Rattle.trac_streams.specs.declared.ending.Ending.TheVariants.{Ended, Budget, Limit, Memory, Read, Write, NotUnderstood}
use Rattle.trac_streams.proofs.Known.{Appends-nothing, Appends-both, Appends-kept, Consumes-nothing, Consumes-both, front_after, front_of_front, front_of_nothing}
use Rattle.trac_streams.specs.declared.lines.NextLine.TheVariants.{Line, TooLong}
use Rattle.trac_streams.specs.declared.lines.TheConstants.{LINE_LIMIT, LINE_COUNT_LIMIT}
use Rattle.trac_rules.specs.declared.byte.TheConstants.{LINE_FEED}
use Rattle.trac_streams.specs.Lines.{feed_count, lines_of, is_within}
use Rattle.trac_debug.specs.Commands.{LineCommand, Forward, Back, Until, Return, Print, Commit, Quit, command_of}
use Rattle.trac_debug.specs.Replies.{Replies, is_walk}
use Rattle.trac_debug.specs.Debugging.{Turn, Passes, Does, Ends, Takes, TurnLeads, LeadsTo, MayWrite, MayFollow, FollowsFirst, FollowsInPart, MayShow, RepliesInPart, RepliesToFirst, ready, shown_where, turn_at, turn_of}
use Rattle.trac_debug.specs.Debugs.{OnWrite, UnlessFault, UnlessWrite, IsReading, BeginsWith, FaultsAt, Debugs, DebugsBy, MOST_READ, IsReady, ReadsInLines, Settles, Stops, Advances, Halts}
use Rattle.trac_streams.specs.Pending.{Pending}
use Rattle.trac_streams.specs.Tape.{MayRefuseTape}
use Rattle.trac_streams.specs.Reading.{AreInLine, HELD_LIMIT, IsFront, Gathers, GathersBy, FailsBy, CameBy, end_reads, fault_reads}
use Rattle.trac_debug.proofs.Existing.{some_text}
use Rattle.trac_debug.proofs.ToldOutput.{all_told, ready_released}
use Rattle.trac_streams.proofs.Gathered.{came_by_both, came_by_none, empty_reads_sound, end_reads_one, end_reads_open, few_held, open_before, reads_counted}
use Rattle.trac_streams.proofs.Splitting.{first_line, lines_of-count}

-- ---- what becomes of a line

-- a line that is too long is not understood
pub turn_long : (number : ℕ) (line : List ℕ) → number ≤ LINE_COUNT_LIMIT → LINE_LIMIT < length line → turn_at number line ≡ Ends (NotUnderstood number)
turn_long number [] few long = absurd (omega arith)
turn_long number (b ∷ bs) few long =
    cond-true (nat_le number LINE_COUNT_LIMIT) (if is_within (b ∷ bs) then turn_of number (command_of (b ∷ bs)) else Ends (NotUnderstood number)) (Ends Budget) (le-leb number LINE_COUNT_LIMIT few)
    ∙ cond-false (is_within (b ∷ bs)) (turn_of number (command_of (b ∷ bs))) (Ends (NotUnderstood number)) (lt-leb (length (b ∷ bs)) LINE_LIMIT long)

-- a line after the last one that there may be
pub turn_late : (number : ℕ) (line : List ℕ) → LINE_COUNT_LIMIT < number → turn_at number line ≡ Ends Budget
turn_late number [] late = cond-false (nat_le number LINE_COUNT_LIMIT) Passes (Ends Budget) (lt-leb number LINE_COUNT_LIMIT late)
turn_late number (b ∷ bs) late =
    cond-false (nat_le number LINE_COUNT_LIMIT) (if is_within (b ∷ bs) then turn_of number (command_of (b ∷ bs)) else Ends (NotUnderstood number)) (Ends Budget) (lt-leb number LINE_COUNT_LIMIT late)

-- ---- a turn

-- what a writer kept, it has nothing more of
Appends-none : (a b : Option (List ℕ)) → Keeps a b → Appends a b []
Appends-none a b kept = Appends-kept a a b [] (Appends-nothing a) kept

-- what a turn that is done with has written, and where it leads
pub record IsSettled (turn : Turn) (p q : PlainSession) (a b : Option (List ℕ)) : Type 0 where
  pub written : List ℕ
  pub gave : Appends a b written
  pub leads : TurnLeads turn p (λ r rest. (rest ≡ []) × (q ≡ r)) written

settled : (turn : Turn) (p q : PlainSession) (a b : Option (List ℕ)) → Settles turn p q a b → IsSettled turn p q a b
settled Passes p q a b over = record {
  written = [];
  gave = Appends-none a b over.1;
  leads = (refl, over.0);
}
settled (Does command) p q a b over = record {
  written = over.reply;
  gave = over.gave;
  leads = (over.reply, q, [], over.replies, sym (append-nil over.reply), (refl, refl));
}
settled (Ends stop) p q a b over = absurd over

-- an ending without a fault
abbrev pub IsPlain : Ending → Type 0
IsPlain Memory = ⊥
IsPlain Read = ⊥
IsPlain Write = ⊥
IsPlain ending = Unit {0}

plain_sound : (ending : Ending) → IsPlain ending → fault_reads ending ≡ 0
plain_sound Read plain = absurd plain
plain_sound ending plain = refl

-- it may come wherever it comes
plain_anywhere : (ending : Ending) (done number : ℕ) (saw_end : Bool) (read commands : List ℕ) → IsPlain ending → FaultsAt ending done number saw_end read commands
plain_anywhere Memory done number saw_end read commands plain = absurd plain
plain_anywhere Read done number saw_end read commands plain = absurd plain
plain_anywhere Write done number saw_end read commands plain = absurd plain
plain_anywhere ending done number saw_end read commands plain = tt

-- a session that a line ends, ends without a fault
abbrev EndsSound : Turn → Type 0
EndsSound Passes = Unit {0}
EndsSound (Does command) = Unit {0}
EndsSound (Ends stop) = IsPlain stop

either_sound : (b : Bool) (x y : Turn) → EndsSound x → EndsSound y → EndsSound (if b then x else y)
either_sound true x y one other = one
either_sound false x y one other = other

turn_of_sound : (number : ℕ) (command : Option LineCommand) → EndsSound (turn_of number command)
turn_of_sound number None = tt
turn_of_sound number (Some (Forward n)) = tt
turn_of_sound number (Some (Back n)) = tt
turn_of_sound number (Some (Until name n)) = tt
turn_of_sound number (Some (Return name)) = tt
turn_of_sound number (Some Print) = tt
turn_of_sound number (Some (Commit keep)) = tt
turn_of_sound number (Some Quit) = tt

turn_sound : (number : ℕ) (line : List ℕ) → EndsSound (turn_at number line)
turn_sound number [] = either_sound (nat_le number LINE_COUNT_LIMIT) Passes (Ends Budget) tt tt
turn_sound number (b ∷ bs) =
    either_sound (nat_le number LINE_COUNT_LIMIT) (if is_within (b ∷ bs) then turn_of number (command_of (b ∷ bs)) else Ends (NotUnderstood number)) (Ends Budget)
    (either_sound (is_within (b ∷ bs)) (turn_of number (command_of (b ∷ bs))) (Ends (NotUnderstood number)) (turn_of_sound number (command_of (b ∷ bs))) tt) tt

-- nor does one that ends in a reply
stop_sound : (turn : Turn) (p q : PlainSession) (a b : Option (List ℕ)) (ending : Ending) → EndsSound turn → Stops turn p q a b ending → fault_reads ending ≡ 0
stop_sound Passes p q a b ending sound stops = absurd stops
stop_sound (Does command) p q a b ending sound stops = ⊎_elim
    (λ (none : (ending ≡ Memory) × (stops.front.written ≡ []) × (is_walk command ≡ false) × (q ≡ p)). ap fault_reads none.0)
    (λ (fault : (ending ≡ Write) × (q ≡ stops.made)). ap fault_reads fault.0)
    stops.fault
stop_sound (Ends stop) p q a b ending sound stops = ap fault_reads stops.0 ∙ plain_sound stop sound

-- a turn in which the session ends: what was written is a front of what may be written, or, without a fault, all of it.
-- The session stays, unless the writer failed: then the turn led on
pub record IsStopped (turn : Turn) (p q : PlainSession) (a b : Option (List ℕ)) (ending : Ending) : Type 0 where
  pub written : List ℕ
  pub gave : Appends a b written
  pub front : (lines : List (List ℕ)) → (number : ℕ) →
      (text : List ℕ) × (stop : Ending) × Takes turn p (λ r rest. MayWrite lines number r rest stop) text stop × IsFrontOf written text
  pub whole : (lines : List (List ℕ)) → (number : ℕ) → UnlessFault ending (Takes turn p (λ r rest. MayWrite lines number r rest ending) written ending)
  pub nothing : UnlessWrite ending (written ≡ [])
  pub stays : UnlessWrite ending (q ≡ p)
  pub unwritten : (number : ℕ) (line : List ℕ) (later : List (List ℕ)) → turn ≡ turn_at number line → OnWrite ending (RepliesInPart (line ∷ later) number p written q)
  pub faults : (done number : ℕ) → (saw_end : Bool) → (read commands line : List ℕ) → (later : List (List ℕ)) → drop done (lines_of commands) ≡ line ∷ later → turn ≡ turn_at number line →
      FaultsAt ending done number saw_end read commands

-- without a fault the whole is said; after one nothing is
unless_always : (ending : Ending) (Fact : Type 0) → Fact → UnlessFault ending Fact
unless_always Memory Fact fact = tt
unless_always Read Fact fact = tt
unless_always Write Fact fact = tt
unless_always ending Fact fact = fact

unless_Memory : (ending : Ending) (Fact : Type 0) → ending ≡ Memory → UnlessFault ending Fact
unless_Memory ending Fact is = subst (λ e. UnlessFault e Fact) (sym is) tt

unless_Write : (ending : Ending) (Fact : Type 0) → ending ≡ Write → UnlessFault ending Fact
unless_Write ending Fact is = subst (λ e. UnlessFault e Fact) (sym is) tt

unless_Read : (ending : Ending) (Fact : Type 0) → ending ≡ Read → UnlessFault ending Fact
unless_Read ending Fact is = subst (λ e. UnlessFault e Fact) (sym is) tt

-- the same of an ending but a fault of the writer
pub always_unless : (ending : Ending) (Fact : Type 0) → Fact → UnlessWrite ending Fact
always_unless Write Fact fact = tt
always_unless ending Fact fact = fact

also_unless : (ending : Ending) (Fact Other : Type 0) → (Fact → Other) → UnlessWrite ending Fact → UnlessWrite ending Other
also_unless Write Fact Other go fact = tt
also_unless ending Fact Other go fact = go fact

both_unless : (ending : Ending) (One Fact Other : Type 0) → (One → Fact → Other) → UnlessWrite ending One → UnlessWrite ending Fact → UnlessWrite ending Other
both_unless Write One Fact Other go one fact = tt
both_unless ending One Fact Other go one fact = go one fact

write_unless : (ending : Ending) (Fact : Type 0) → ending ≡ Write → UnlessWrite ending Fact
write_unless ending Fact is = subst (λ e. UnlessWrite e Fact) (sym is) tt

-- a fault of the writer is none of these
on_plain : (ending : Ending) (Fact : Type 0) → IsPlain ending → OnWrite ending Fact
on_plain Write Fact plain = absurd plain
on_plain ending Fact plain = tt

on_none : (ending : Ending) (Fact : Type 0) → (ending ≡ Memory) ⊎ (ending ≡ Read) → OnWrite ending Fact
on_none ending Fact (inl lacks) = subst (λ e. OnWrite e Fact) (sym lacks) tt
on_none ending Fact (inr fails) = subst (λ e. OnWrite e Fact) (sym fails) tt

also_on : (ending : Ending) (Fact Other : Type 0) → (Fact → Other) → OnWrite ending Fact → OnWrite ending Other
also_on Write Fact Other go fact = go fact
also_on ending Fact Other go fact = tt

wrote_nothing : (ending : Ending) (written : List ℕ) → written ≡ [] → UnlessWrite ending (written ≡ [])
wrote_nothing ending written none = always_unless ending (written ≡ []) none

-- a front of a front, with more after it
front_before : (written text rest : List ℕ) → IsFrontOf written text → IsFrontOf written (text ++ rest)
front_before written text rest front = front_of_front written text (text ++ rest) front (rest, refl)

-- where a command is carried out whose reply is written in part
in_part : (command : LineCommand) (number : ℕ) (line : List ℕ) (later : List (List ℕ)) (p q made : PlainSession) (part reply : List ℕ) → Does command ≡ turn_at number line → Replies command p reply made → q ≡ made →
    IsFrontOf part reply → RepliesInPart (line ∷ later) number p part q
in_part command number line later p q made part reply turn replies left front = (
  line,
  later,
  reply,
  refl,
  subst (λ t. TurnLeads t p (λ r rest. (rest ≡ []) × (q ≡ r)) reply) turn (reply, made, [], replies, sym (append-nil reply), (refl, left)),
  front,
)

stopped : (turn : Turn) (p q : PlainSession) (a b : Option (List ℕ)) (ending : Ending) → EndsSound turn → Stops turn p q a b ending → IsStopped turn p q a b ending
stopped Passes p q a b ending sound stops = absurd stops
stopped (Does command) p q a b ending sound stops =
    let written = stops.front.written in
    record {
      written = written;
      gave = stops.front.gave;
      front = λ lines number.
          let more = some_text lines number stops.made in
          (stops.reply ++ more.0, more.1, (stops.reply, stops.made, more.0, stops.replies, refl, more.2), front_before written stops.reply more.0 stops.front.front);
      whole = λ lines number. ⊎_elim
          (λ (none : (ending ≡ Memory) × (written ≡ []) × (is_walk command ≡ false) × (q ≡ p)). unless_Memory ending (Takes (Does command) p (λ r rest. MayWrite lines number r rest ending) written ending) none.0)
          (λ (fault : (ending ≡ Write) × (q ≡ stops.made)). unless_Write ending (Takes (Does command) p (λ r rest. MayWrite lines number r rest ending) written ending) fault.0)
          stops.fault;
      nothing = ⊎_elim
          (λ (none : (ending ≡ Memory) × (written ≡ []) × (is_walk command ≡ false) × (q ≡ p)). always_unless ending (written ≡ []) none.1)
          (λ (fault : (ending ≡ Write) × (q ≡ stops.made)). write_unless ending (written ≡ []) fault.0)
          stops.fault;
      stays = ⊎_elim
          (λ (none : (ending ≡ Memory) × (written ≡ []) × (is_walk command ≡ false) × (q ≡ p)). always_unless ending (q ≡ p) none.3)
          (λ (fault : (ending ≡ Write) × (q ≡ stops.made)). write_unless ending (q ≡ p) fault.0)
          stops.fault;
      unwritten = λ number line later turn. ⊎_elim
          (λ (none : (ending ≡ Memory) × (written ≡ []) × (is_walk command ≡ false) × (q ≡ p)). on_none ending (RepliesInPart (line ∷ later) number p written q) (inl none.0))
          (λ (fault : (ending ≡ Write) × (q ≡ stops.made)).
          subst (λ e. OnWrite e (RepliesInPart (line ∷ later) number p written q)) (sym fault.0)
          (in_part command number line later p q stops.made written stops.reply turn stops.replies fault.1 stops.front.front))
          stops.fault;
      faults = λ done number saw_end read commands line later at turn. ⊎_elim
          (λ (none : (ending ≡ Memory) × (written ≡ []) × (is_walk command ≡ false) × (q ≡ p)).
          subst (λ e. FaultsAt e done number saw_end read commands) (sym none.0) (inr (line, later, command, at, sym turn, none.2)))
          (λ (fault : (ending ≡ Write) × (q ≡ stops.made)). subst (λ e. FaultsAt e done number saw_end read commands) (sym fault.0) (line, later, command, at, sym turn, tt))
          stops.fault;
    }
stopped (Ends stop) p q a b ending sound stops = record {
  written = [];
  gave = Appends-none a b stops.1;
  stays = always_unless ending (q ≡ p) stops.2;
  unwritten = λ number line later turn.
      subst (λ e. OnWrite e (RepliesInPart (line ∷ later) number p [] q)) (sym stops.0) (on_plain stop (RepliesInPart (line ∷ later) number p [] q) sound);
  front = λ lines number. ([], stop, (refl, refl), front_of_nothing []);
  whole = λ lines number. unless_always ending (Takes (Ends stop) p (λ r rest. MayWrite lines number r rest ending) [] ending) (refl, stops.0);
  nothing = wrote_nothing ending [] refl;
  faults = λ done number saw_end read commands line later at turn. subst (λ e. FaultsAt e done number saw_end read commands) (sym stops.0) (plain_anywhere stop done number saw_end read commands sound);
}

-- ---- a line

-- the text of the commands, as it was and with what was read
read_on : (old new : Pending) (got more : List ℕ) → new.bytes ≡ old.bytes ++ got → new.bytes ++ more ≡ old.bytes ++ (got ++ more)
read_on old new got more e = ap (λ t. t ++ more) e ∙ append_assoc old.bytes got more

-- what is held after bytes were read
held_after : (in_old in_new : Option (List ℕ)) (old mid : Pending) → (read : Gathers in_old in_new old mid) →
    (length old.bytes + length read.got ≡ length mid.bytes) × (length old.bytes ≤ HELD_LIMIT → length mid.bytes ≤ HELD_LIMIT)
held_after in_old in_new old mid read =
    let all : length old.bytes + length read.got ≡ length mid.bytes = sym (ap length read.bytes ∙ length-append old.bytes read.got) in (
      all,
      λ held. ⊎_elim
          (λ (none : read.got ≡ []). omega (arith, all, held, ap length none))
          (λ (few : length mid.bytes ≤ HELD_LIMIT). few)
          (few_held in_old in_new old mid read),
    )

-- a line is done with, which is not too long
pub advances : (in_old in_new out_old out_new : Option (List ℕ)) (reads_old reads_new number : ℕ) (old mid new : Pending) (p q : PlainSession) (len whole : ℕ) → len ≤ LINE_LIMIT →
    GathersBy in_old in_new reads_old reads_new old mid → IsFront mid.bytes mid.ended (Line len whole) → Settles (turn_at number (take len mid.bytes)) p q out_old out_new →
    new ≡ record mid { bytes = drop whole mid.bytes } → Advances in_old in_new out_old out_new reads_old reads_new number old p new q
advances in_old in_new out_old out_new reads_old reads_new number old mid new p q len whole short by front over_ after =
    let read : Gathers in_old in_new old mid = by.gathers in
    let line : List ℕ = take len mid.bytes in
    let held = held_after in_old in_new old mid read in
    let left : length new.bytes ≡ length mid.bytes - whole = ap (λ (l : Pending). length l.bytes) after ∙ length-drop whole mid.bytes in
    let ended : new.ended ≡ mid.ended = ap (λ (l : Pending). l.ended) after in
    let turn : IsSettled (turn_at number line) p q out_old out_new = settled (turn_at number line) p q out_old out_new over_ in
    record {
      got = read.got;
      written = turn.written;
      took = read.took;
      gave = turn.gave;
      closed = λ over. ((read.closed over).0, ended ∙ (read.closed over).1);
      at_end = λ over. read.at_end (sym ended ∙ over);
      in_line = subst (λ over. AreInLine old over read.got) (sym ended) read.in_line;
      line = line;
      splits = λ more none.
          ap lines_of (sym (read_on old mid read.got more read.bytes)) ∙ front.2 more (λ over. none (ended ∙ over))
          ∙ ap (λ (l : Pending). line ∷ lines_of (l.bytes ++ more)) (sym after);
      leads = turn.leads;
      few = omega (arith, held.0, left, short, front.3);
      held = λ old_held. omega (arith, held.1 old_held, left);
      full = by.full;
      came = by.came;
      counted = omega (arith, by.counted, ap end_reads ended);
    }

-- the session ends so, with this written: what the bytes that are held say of that
halts_by : {in_old in_new out_old out_new : Option (List ℕ)} (reads_old reads_new number : ℕ) (old mid : Pending) (p q : PlainSession) (written : List ℕ) (ending : Ending) → fault_reads ending ≡ 0 →
    GathersBy in_old in_new reads_old reads_new old mid → Appends out_old out_new written → UnlessWrite ending (written ≡ []) → UnlessWrite ending (q ≡ p) →
    ((more : List ℕ) → (mid.ended ≡ true → more ≡ []) → OnWrite ending (RepliesInPart (lines_of (mid.bytes ++ more)) number p written q)) →
    ((more : List ℕ) → (mid.ended ≡ true → more ≡ []) → (text : List ℕ) × (stop : Ending) × MayWrite (lines_of (mid.bytes ++ more)) number p text stop × IsFrontOf written text) →
    ((more : List ℕ) → (mid.ended ≡ true → more ≡ []) → UnlessFault ending (MayWrite (lines_of (mid.bytes ++ more)) number p written ending)) →
    ((more : List ℕ) → (mid.ended ≡ true → more ≡ []) → FaultsAt ending 0 number mid.ended mid.bytes (mid.bytes ++ more)) →
    Halts in_old in_new out_old out_new reads_old reads_new number old p q ending
halts_by {in_old} {in_new} {out_old} {out_new} reads_old reads_new number old mid p q written ending sound by gave nothing stays unwritten front whole faults =
    let read : Gathers in_old in_new old mid = by.gathers in
    record {
      got = read.got;
      written = written;
      saw_end = mid.ended;
      took = read.took;
      gave = gave;
      closed = read.closed;
      at_end = read.at_end;
      in_line = read.in_line;
      front = λ more none.
          let some = front more none in
          (some.0, some.1, subst (λ text. MayWrite (lines_of text) number p some.0 some.1) (read_on old mid read.got more read.bytes) some.2, some.3);
      whole = λ more none. subst (λ text. UnlessFault ending (MayWrite (lines_of text) number p written ending)) (read_on old mid read.got more read.bytes) (whole more none);
      nothing = nothing;
      stays = stays;
      unwritten = λ more none.
          subst (λ text. OnWrite ending (RepliesInPart (lines_of text) number p written q)) (read_on old mid read.got more read.bytes) (unwritten more none);
      faults = λ more none.
          subst (λ text. FaultsAt ending 0 number mid.ended (old.bytes ++ read.got) text) (read_on old mid read.got more read.bytes)
          (subst (λ read_. FaultsAt ending 0 number mid.ended read_ (mid.bytes ++ more)) read.bytes (faults more none));
      held = λ old_held. let held_ = held_after in_old in_new old mid read in omega (arith, held_.0, held_.1 old_held);
      full = by.full;
      came = by.came;
      counted = omega (arith, by.counted, empty_reads_sound mid.ended ending sound);
    }

-- the session ends in a line
pub halts_in : (in_old in_new out_old out_new : Option (List ℕ)) (reads_old reads_new number : ℕ) (old mid : Pending) (p q : PlainSession) (len whole : ℕ) (ending : Ending) →
    GathersBy in_old in_new reads_old reads_new old mid → IsFront mid.bytes mid.ended (Line len whole) → Stops (turn_at number (take len mid.bytes)) p q out_old out_new ending →
    Halts in_old in_new out_old out_new reads_old reads_new number old p q ending
halts_in in_old in_new out_old out_new reads_old reads_new number old mid p q len whole ending by front stops =
    let line : List ℕ = take len mid.bytes in
    let turn : IsStopped (turn_at number line) p q out_old out_new ending = stopped (turn_at number line) p q out_old out_new ending (turn_sound number line) stops in
    halts_by reads_old reads_new number old mid p q turn.written ending (stop_sound (turn_at number line) p q out_old out_new ending (turn_sound number line) stops) by turn.gave turn.nothing turn.stays
    (λ more none.
    subst (λ ls. OnWrite ending (RepliesInPart ls number p turn.written q)) (sym (front.2 more none)) (turn.unwritten number line (lines_of (drop whole mid.bytes ++ more)) refl))
    (λ more none.
    let some = turn.front (lines_of (drop whole mid.bytes ++ more)) (number + 1) in
    (some.0, some.1, subst (λ ls. MayWrite ls number p some.0 some.1) (sym (front.2 more none)) some.2, some.3))
    (λ more none. subst (λ ls. UnlessFault ending (MayWrite ls number p turn.written ending)) (sym (front.2 more none)) (turn.whole (lines_of (drop whole mid.bytes ++ more)) (number + 1)))
    (λ more none. turn.faults 0 number mid.ended mid.bytes (mid.bytes ++ more) line (lines_of (drop whole mid.bytes ++ more)) (front.2 more none) refl)

-- the session ends before a line, and nothing is written: the lines, whatever more there are, say that it ends so
pub halts_before : (in_old in_new output : Option (List ℕ)) (reads_old reads_new number : ℕ) (old mid : Pending) (p : PlainSession) (ending : Ending) → IsPlain ending →
    GathersBy in_old in_new reads_old reads_new old mid →
    ((more : List ℕ) → (mid.ended ≡ true → more ≡ []) → MayWrite (lines_of (mid.bytes ++ more)) number p [] ending) → Halts in_old in_new output output reads_old reads_new number old p p ending
halts_before in_old in_new output reads_old reads_new number old mid p ending plain by says =
    halts_by reads_old reads_new number old mid p p [] ending (plain_sound ending plain) by (Appends-nothing output) (wrote_nothing ending [] refl) (always_unless ending (p ≡ p) refl)
    (λ more none. on_plain ending (RepliesInPart (lines_of (mid.bytes ++ more)) number p [] p) plain)
    (λ more none. ([], ending, says more none, front_of_nothing []))
    (λ more none. unless_always ending (MayWrite (lines_of (mid.bytes ++ more)) number p [] ending) (says more none))
    (λ more none. plain_anywhere ending 0 number mid.ended mid.bytes (mid.bytes ++ more) plain)

-- at the end of the lines
pub halts_at_end : (number : ℕ) (mid : Pending) (p : PlainSession) → (mid.ended ≡ true) × (mid.bytes ≡ []) →
    (more : List ℕ) → (mid.ended ≡ true → more ≡ []) → MayWrite (lines_of (mid.bytes ++ more)) number p [] Ended
halts_at_end number mid p over more none =
    let nothing : [] ≡ mid.bytes ++ more = sym (ap (λ t. t ++ more) over.1 ∙ none over.0) in
    subst (λ t. MayWrite (lines_of t) number p [] Ended) nothing (refl, refl)

-- where a first line ends the session
ends_first : (number : ℕ) (p : PlainSession) (lines rest : List (List ℕ)) (line : List ℕ) (ending : Ending) → lines ≡ line ∷ rest → turn_at number line ≡ Ends ending → MayWrite lines number p [] ending
ends_first number p lines rest line ending is ends =
    subst (λ ls. MayWrite ls number p [] ending) (sym is)
    (subst (λ turn. Takes turn p (λ q left. MayWrite rest (number + 1) q left ending) [] ending) (sym ends) (refl, refl))

-- at a line that is too long, a part of which was read
pub halts_too_long : (number : ℕ) (mid : Pending) (p : PlainSession) → number ≤ LINE_COUNT_LIMIT → IsFront mid.bytes mid.ended TooLong →
    (more : List ℕ) → (mid.ended ≡ true → more ≡ []) → MayWrite (lines_of (mid.bytes ++ more)) number p [] (NotUnderstood number)
halts_too_long number mid p few front more none =
    let at = front more in
    ends_first number p (lines_of (mid.bytes ++ more)) at.1 at.0 (NotUnderstood number) at.3 (turn_long number at.0 few at.2)

-- at a line that is too long, all of which was read
pub halts_long : (number : ℕ) (mid : Pending) (p : PlainSession) (len whole : ℕ) → number ≤ LINE_COUNT_LIMIT → IsFront mid.bytes mid.ended (Line len whole) → LINE_LIMIT < len →
    (more : List ℕ) → (mid.ended ≡ true → more ≡ []) → MayWrite (lines_of (mid.bytes ++ more)) number p [] (NotUnderstood number)
halts_long number mid p len whole few front long more none =
    ends_first number p (lines_of (mid.bytes ++ more)) (lines_of (drop whole mid.bytes ++ more)) (take len mid.bytes) (NotUnderstood number) (front.2 more none)
    (turn_long number (take len mid.bytes) few (omega (arith, length-take-le len mid.bytes front.0)))

-- bytes that are there begin a line
some_line : (bytes more : List ℕ) → 0 < length bytes → (line : List ℕ) × (rest : List (List ℕ)) × (lines_of (bytes ++ more) ≡ line ∷ rest)
some_line bytes more some = first_line (bytes ++ more) (omega (arith, length-append bytes more))

-- after the last line that there may be
pub halts_late : (number : ℕ) (mid : Pending) (p : PlainSession) → LINE_COUNT_LIMIT < number → 0 < length mid.bytes →
    (more : List ℕ) → (mid.ended ≡ true → more ≡ []) → MayWrite (lines_of (mid.bytes ++ more)) number p [] Budget
halts_late number mid p late some more none =
    let at = some_line mid.bytes more some in
    ends_first number p (lines_of (mid.bytes ++ more)) at.1 at.0 Budget at.2 (turn_late number at.0 late)

-- a read failed, or memory was refused before one: nothing is written, and more may come
pub halts_unread : (in_old in_new output : Option (List ℕ)) (reads_old reads_new number : ℕ) (old new : Pending) (p : PlainSession) (ending : Ending) →
    FailsBy in_old in_new reads_old reads_new old new ending → Halts in_old in_new output output reads_old reads_new number old p p ending
halts_unread in_old in_new output reads_old reads_new number old new p ending by =
    let read : Gathers in_old in_new old new = by.fails.gathers in
    let open_ : old.ended ≡ false = open_before in_old in_new old new read by.fails.part.0 in
    let reading : IsReading 0 false (old.bytes ++ read.got) = (refl, ap feed_count (sym read.bytes) ∙ by.fails.part.2) in
    record {
      got = read.got;
      written = [];
      saw_end = false;
      took = read.took;
      gave = Appends-nothing output;
      closed = λ over. absurd (false≢true (sym open_ ∙ over));
      at_end = λ over. absurd (false≢true over);
      in_line = subst (λ over. AreInLine old over read.got) by.fails.part.0 read.in_line;
      front = λ more none.
          let some = some_text (lines_of (old.bytes ++ (read.got ++ more))) number p in
          (some.0, some.1, some.2, front_of_nothing some.0);
      whole = λ more none. ⊎_elim
          (λ (lacks : ending ≡ Memory). unless_Memory ending (MayWrite (lines_of (old.bytes ++ (read.got ++ more))) number p [] ending) lacks)
          (λ (fails : ending ≡ Read). unless_Read ending (MayWrite (lines_of (old.bytes ++ (read.got ++ more))) number p [] ending) fails)
          by.fails.fault;
      nothing = wrote_nothing ending [] refl;
      stays = always_unless ending (p ≡ p) refl;
      unwritten = λ more none. on_none ending (RepliesInPart (lines_of (old.bytes ++ (read.got ++ more))) number p [] p) by.fails.fault;
      faults = λ more none. ⊎_elim
          (λ (lacks : ending ≡ Memory). subst (λ e. FaultsAt e 0 number false (old.bytes ++ read.got) (old.bytes ++ (read.got ++ more))) (sym lacks) (inl reading))
          (λ (fails : ending ≡ Read). subst (λ e. FaultsAt e 0 number false (old.bytes ++ read.got) (old.bytes ++ (read.got ++ more))) (sym fails) reading)
          by.fails.fault;
      held = λ _. omega (arith, by.fails.part.1, ap length read.bytes, length-append old.bytes read.got);
      full = by.full;
      came = by.came;
      counted = omega (arith, by.counted, end_reads_open old.ended open_);
    }

-- ---- reads

-- the next line is being read after others, each of which ended at a line feed
reading_later : (before : List (List ℕ)) (saw_end : Bool) (far got held : List ℕ) →
    ((more : List ℕ) → (saw_end ≡ true → more ≡ []) → lines_of ((far ++ got) ++ more) ≡ before ++ lines_of (held ++ (got ++ more))) →
    IsReading 0 saw_end (held ++ got) → IsReading (length before) saw_end (far ++ got)
reading_later before saw_end far got held splits reading =
    let all : lines_of ((far ++ got) ++ LINE_FEED ∷ []) ≡ before ++ lines_of ((held ++ got) ++ LINE_FEED ∷ []) =
    splits (LINE_FEED ∷ []) (λ over. absurd (false≢true (sym reading.0 ∙ over))) ∙ ap (λ text. before ++ lines_of text) (sym (append_assoc held got (LINE_FEED ∷ []))) in
    (reading.0, omega (arith, ap length all, length-append before (lines_of ((held ++ got) ++ LINE_FEED ∷ [])), lines_of-count (far ++ got), lines_of-count (held ++ got), reading.1))

-- before the reads of a later part a line was being read too
reads_later : (before : List (List ℕ)) (done : ℕ) (far got : List ℕ) (lines : Pending) (saw_end : Bool) → length before ≤ done →
    ((more : List ℕ) → (lines.ended ≡ true → more ≡ []) → lines_of (far ++ more) ≡ before ++ lines_of (lines.bytes ++ more)) →
    ReadsInLines (length before) lines.ended far → AreInLine lines saw_end got → ReadsInLines done saw_end (far ++ got)
reads_later before done far got lines saw_end fewer splits reads (inl none) =
    let same : far ++ got ≡ far = ap (λ g. far ++ g) none.0 ∙ append-nil far in
    record {
      before = reads.before;
      piece = reads.piece;
      all = same ∙ reads.all;
      few = reads.few;
      feeds = omega (arith, reads.feeds, fewer);
      at_end = λ over. omega (arith, ap feed_count same, reads.at_end (sym none.1 ∙ over), fewer);
    }
reads_later before done far got lines saw_end fewer splits reads (inr last) =
    let reading : IsReading (length before) false (far ++ last.before) =
    reading_later before false far last.before lines.bytes
    (λ more none. ap lines_of (append_assoc far last.before more) ∙ splits (last.before ++ more) (λ over. absurd (false≢true (sym last.part.0 ∙ over))))
    (refl, last.part.2) in
    let all : far ++ got ≡ (far ++ last.before) ++ last.piece = ap (λ g. far ++ g) last.all ∙ sym (append_assoc far last.before last.piece) in
    record {
      before = far ++ last.before;
      piece = last.piece;
      all = all;
      few = last.few;
      feeds = omega (arith, reading.1, fewer);
      at_end = λ over.
          let whole : far ++ got ≡ far ++ last.before = all ∙ ap (λ piece. (far ++ last.before) ++ piece) (last.at_end over) ∙ append-nil (far ++ last.before) in
          omega (arith, ap feed_count whole, reading.1, fewer);
    }

-- ---- where lines lead

-- more after a turn that does not end the session
turn_on : (turn : Turn) (p : PlainSession) (Before After : PlainSession → List ℕ → Type 0) (written text : List ℕ) → ((r : PlainSession) (rest : List ℕ) → Before r rest → After r (rest ++ text)) →
    TurnLeads turn p Before written → TurnLeads turn p After (written ++ text)
turn_on Passes p Before After written text on leads = on p written leads
turn_on (Does command) p Before After written text on leads =
    (leads.0, leads.1, leads.2 ++ text, leads.3, ap (λ t. t ++ text) leads.4 ∙ append_assoc leads.0 leads.2 text, on leads.1 leads.2 leads.5)
turn_on (Ends stop) p Before After written text on leads = absurd leads

-- it is one of those that there may be
turn_taken : (turn : Turn) (p : PlainSession) (Rest : PlainSession → List ℕ → Type 0) (written : List ℕ) (stop : Ending) → TurnLeads turn p Rest written → Takes turn p Rest written stop
turn_taken Passes p Rest written stop leads = leads
turn_taken (Does command) p Rest written stop leads = leads
turn_taken (Ends last) p Rest written stop leads = absurd leads

-- no line is counted yet
at_start : (number next : ℕ) → 0 + number ≡ next → number ≡ next
at_start number next count = omega (arith, count)

-- lines after others
leads_on : (before later : List (List ℕ)) (number next : ℕ) (p q r : PlainSession) (written text : List ℕ) → length before + number ≡ next → LeadsTo before number p written q → LeadsTo later next q text r →
    LeadsTo (before ++ later) number p (written ++ text) r
leads_on [] later number next p q r written text count leads more =
    subst (λ w. LeadsTo later number p (w ++ text) r) (sym leads.0) (subst (λ n. LeadsTo later n p text r) (sym (at_start number next count)) (subst (λ s. LeadsTo later next s text r) leads.1 more))
leads_on (line ∷ before) later number next p q r written text count leads more =
    turn_on (turn_at number line) p (λ s rest. LeadsTo before (number + 1) s rest q) (λ s rest. LeadsTo (before ++ later) (number + 1) s rest r) written text
    (λ s rest led. leads_on before later (number + 1) next s q r rest text (omega (arith, count)) led more) leads

-- what may be written after lines
leads_before : (before later : List (List ℕ)) (number next : ℕ) (p q : PlainSession) (written text : List ℕ) (stop : Ending) → length before + number ≡ next → LeadsTo before number p written q →
    MayWrite later next q text stop → MayWrite (before ++ later) number p (written ++ text) stop
leads_before [] later number next p q written text stop count leads may =
    subst (λ w. MayWrite later number p (w ++ text) stop) (sym leads.0) (subst (λ n. MayWrite later n p text stop) (sym (at_start number next count)) (subst (λ s. MayWrite later next s text stop) leads.1 may))
leads_before (line ∷ before) later number next p q written text stop count leads may =
    turn_taken (turn_at number line) p (λ s rest. MayWrite (before ++ later) (number + 1) s rest stop) (written ++ text) stop
    (turn_on (turn_at number line) p (λ s rest. LeadsTo before (number + 1) s rest q) (λ s rest. MayWrite (before ++ later) (number + 1) s rest stop) written text
    (λ s rest led. leads_before before later (number + 1) next s q rest text stop (omega (arith, count)) led may) leads)

-- what they write, if they are all
leads_may : (lines : List (List ℕ)) (number : ℕ) (p q : PlainSession) (written : List ℕ) → LeadsTo lines number p written q → MayWrite lines number p written Ended
leads_may lines number p q written leads =
    subst (λ ls. MayWrite ls number p written Ended) (append-nil lines)
    (subst (λ w. MayWrite (lines ++ []) number p w Ended) (append-nil written)
    (leads_before lines [] number (length lines + number) p q written [] Ended refl leads (refl, refl)))

-- ---- a whole session

-- what a session has done so far: what was read, what was written, the lines that were replied to, and where they lead. No more was read than these lines may have and is held, and so often
pub record SoFar (in_old in_now out_old out_now : Option (List ℕ)) (start : PlainSession) (reads number : ℕ) (lines : Pending) (p : PlainSession) : Type 0 where
  pub got : List ℕ
  pub written : List ℕ
  pub took : Consumes in_old in_now got
  pub gave : Appends out_old out_now written
  pub at_end : lines.ended ≡ true → IsAtEnd in_now
  pub before : List (List ℕ)
  pub splits : (more : List ℕ) → (lines.ended ≡ true → more ≡ []) → lines_of (got ++ more) ≡ before ++ lines_of (lines.bytes ++ more)
  pub leads : LeadsTo before 1 start written p
  pub count : length before + 1 ≡ number
  pub in_lines : ReadsInLines (length before) lines.ended got
  pub few : length got ≤ length before * (LINE_LIMIT + 2) + length lines.bytes
  pub held : length lines.bytes ≤ HELD_LIMIT
  pub full : ℕ
  pub came : CameBy full got
  pub counted : reads ≡ full + end_reads lines.ended

-- a tape that is not too long is gone over
shown_within : (tape : List ℕ) (limit : ℕ) (width : Width) (commands text : List ℕ) (stop : Ending) → length tape ≤ TAPE_LIMIT →
    MayWrite (lines_of commands) 1 (ready tape limit width) text stop → MayShow tape limit width commands text stop
shown_within tape limit width commands text stop within may =
    subst (λ fits. shown_where tape limit width commands text stop fits) (sym (le-leb (length tape) TAPE_LIMIT within)) may

-- a tape that is too long is not
shown_beyond : (tape : List ℕ) (limit : ℕ) (width : Width) (commands : List ℕ) → TAPE_LIMIT < length tape → MayShow tape limit width commands [] Limit
shown_beyond tape limit width commands beyond =
    subst (λ fits. shown_where tape limit width commands [] Limit fits) (sym (lt-leb (length tape) TAPE_LIMIT beyond)) (refl, refl)

-- at the beginning
pub so_far_none : (input output : Option (List ℕ)) (lines : Pending) (p : PlainSession) → lines ≡ record { bytes = []; ended = false } → SoFar input input output output p 0 1 lines p
so_far_none input output lines p none = record {
  got = [];
  written = [];
  took = Consumes-nothing input;
  gave = Appends-nothing output;
  at_end = λ over. absurd (false≢true (sym (ap (λ (l : Pending). l.ended) none) ∙ over));
  before = [];
  splits = λ more _. ap (λ (l : Pending). lines_of (l.bytes ++ more)) (sym none);
  leads = (refl, refl);
  count = refl;
  in_lines = record { before = []; piece = []; all = refl; few = omega arith; feeds = omega arith; at_end = λ over. omega arith };
  few = omega arith;
  held = omega (arith, ap (λ (l : Pending). length l.bytes) none);
  full = 0;
  came = came_by_none;
  counted = omega (arith, end_reads_open lines.ended (ap (λ (l : Pending). l.ended) none));
}

-- a line more
pub so_far_more : (in_old in_now in_new out_old out_now out_new : Option (List ℕ)) (start : PlainSession) (reads_now reads_new number : ℕ) (lines after : Pending) (p q : PlainSession) →
    SoFar in_old in_now out_old out_now start reads_now number lines p → Advances in_now in_new out_now out_new reads_now reads_new number lines p after q →
    SoFar in_old in_new out_old out_new start reads_new (number + 1) after q
so_far_more in_old in_now in_new out_old out_now out_new start reads_now reads_new number lines after p q far on = record {
  got = far.got ++ on.got;
  written = far.written ++ on.written;
  took = Consumes-both in_old in_now in_new far.got on.got far.took on.took;
  gave = Appends-both out_old out_now out_new far.written on.written far.gave on.gave;
  at_end = on.at_end;
  before = far.before ++ (on.line ∷ []);
  splits = λ more none.
      ap lines_of (append_assoc far.got on.got more) ∙ far.splits (on.got ++ more) (λ over. let at = on.closed over in ap (λ g. g ++ more) at.0 ∙ none at.1)
      ∙ ap (λ ls. far.before ++ ls) (on.splits more none) ∙ sym (append_assoc far.before (on.line ∷ []) (lines_of (after.bytes ++ more)));
  leads = leads_on far.before (on.line ∷ []) 1 number start p q far.written on.written far.count far.leads on.leads;
  count = omega (arith, length-append far.before (on.line ∷ []), far.count);
  in_lines =
      reads_later far.before (length (far.before ++ (on.line ∷ []))) far.got on.got lines after.ended (omega (arith, length-append far.before (on.line ∷ [])))
      far.splits far.in_lines on.in_line;
  few = omega (arith, length-append far.got on.got, length-append far.before (on.line ∷ []), far.few, on.few);
  held = on.held far.held;
  full = far.full + on.full;
  came = came_by_both far.full on.full far.got on.got far.came on.came;
  counted = omega (arith, far.counted, on.counted);
}

-- there were few reads: one for each byte at most, and one
pub few_so_far : (in_old in_now out_old out_now : Option (List ℕ)) (start : PlainSession) (reads number : ℕ) (lines : Pending) (p : PlainSession) → number ≤ LINE_COUNT_LIMIT + 1 →
    SoFar in_old in_now out_old out_now start reads number lines p → reads ≤ MOST_READ + 1
few_so_far in_old in_now out_old out_now start reads number lines p few_lines far =
    omega (arith, few_lines, far.counted, far.came.0, far.few, far.count, far.held, end_reads_one lines.ended)

-- what is said of an ending without a fault, after what was written
unless_also : (ending : Ending) (Fact Other : Type 0) → (Fact → Other) → UnlessFault ending Fact → UnlessFault ending Other
unless_also Memory Fact Other go fact = tt
unless_also Read Fact Other go fact = tt
unless_also Write Fact Other go fact = tt
unless_also ending Fact Other go fact = go fact

-- the first lines of all, and nothing after the replies to them
first_replied : (start p q : PlainSession) (before later lines : List (List ℕ)) (written nothing : List ℕ) → lines ≡ before ++ later → nothing ≡ [] → q ≡ p →
    LeadsTo before 1 start written p → (length before ≤ length lines) × LeadsTo (take (length before) lines) 1 start (written ++ nothing) q
first_replied start p q before later lines written nothing splits none same leads = (
  omega (arith, ap length splits, length-append before later),
  subst (λ ls. LeadsTo ls 1 start (written ++ nothing) q) (sym (take-append_seam before later) ∙ ap (take (length before)) (sym splits))
      (subst (λ t. LeadsTo before 1 start t q) (sym (append-nil written) ∙ ap (λ t. written ++ t) (sym none))
      (subst (λ r. LeadsTo before 1 start written r) (sym same) leads)),
)

-- the next line comes after others
begins_later : (IsKind : LineCommand → Type 0) (number : ℕ) (before lines all : List (List ℕ)) → length before + 1 ≡ number → all ≡ before ++ lines →
    BeginsWith IsKind number lines → BeginsWith IsKind (length before + 1) (drop (length before) all)
begins_later IsKind number before lines all count is next = (
  next.0,
  next.1,
  next.2,
  ap (drop (length before)) is ∙ drop-append_seam before lines ∙ next.3,
  subst (λ n. turn_at n next.0 ≡ Does next.2) (sym count) next.4,
  next.5,
)

-- a fault comes where it may after these lines too
faults_later : (ending : Ending) (number : ℕ) (before : List (List ℕ)) (saw_end : Bool) (far got held more : List ℕ) → length before + 1 ≡ number →
    ((more : List ℕ) → (saw_end ≡ true → more ≡ []) → lines_of ((far ++ got) ++ more) ≡ before ++ lines_of (held ++ (got ++ more))) → (saw_end ≡ true → more ≡ []) →
    FaultsAt ending 0 number saw_end (held ++ got) (held ++ (got ++ more)) → FaultsAt ending (length before) (length before + 1) saw_end (far ++ got) ((far ++ got) ++ more)
faults_later Memory number before saw_end far got held more count splits none faults = ⊎_elim
    (λ (reading : IsReading 0 saw_end (held ++ got)). inl (reading_later before saw_end far got held splits reading))
    (λ (next : BeginsWith (λ command. is_walk command ≡ false) number (lines_of (held ++ (got ++ more)))).
    inr (begins_later (λ command. is_walk command ≡ false) number before (lines_of (held ++ (got ++ more))) (lines_of ((far ++ got) ++ more)) count (splits more none) next))
    faults
faults_later Read number before saw_end far got held more count splits none faults = reading_later before saw_end far got held splits faults
faults_later Write number before saw_end far got held more count splits none faults =
    begins_later (λ command. Unit {0}) number before (lines_of (held ++ (got ++ more))) (lines_of ((far ++ got) ++ more)) count (splits more none) faults
faults_later ending number before saw_end far got held more count splits none faults = tt

-- they are followed
first_followed : (start p q : PlainSession) (before later : List (List ℕ)) (commands written nothing : List ℕ) → lines_of commands ≡ before ++ later → nothing ≡ [] → q ≡ p → LeadsTo before 1 start written p →
    FollowsFirst start q (length before) commands (written ++ nothing)
first_followed start p q before later commands written nothing splits none same leads =
    let first = first_replied start p q before later (lines_of commands) written nothing splits none same leads in
    let may = leads_may (take (length before) (lines_of commands)) 1 start q (written ++ nothing) first.1 in
    (first.0, first.1, λ input steps text has. all_told _ input 1 steps text start _ Ended has may)

-- and so is one more, of the reply to which a front is written
followed_in_part : (start p q : PlainSession) (number count : ℕ) (before later : List (List ℕ)) (commands written part : List ℕ) → length before + 1 ≡ number → length before ≡ count → lines_of commands ≡ before ++ later →
    LeadsTo before 1 start written p → RepliesInPart later number p part q → FollowsInPart start q count commands (written ++ part)
followed_in_part start p q number count before later commands written part next done_ splits leads one_more =
    subst (λ n. FollowsInPart start q n commands (written ++ part)) done_ (
      p,
      written,
      part,
      subst (FollowsFirst start p (length before) commands) (append-nil written) (first_followed start p p before later commands written [] splits refl refl leads),
      subst (λ n. RepliesInPart (drop (length before) (lines_of commands)) n p part q) (sym next)
          (subst (λ ls. RepliesInPart ls number p part q) (sym (ap (drop (length before)) splits ∙ drop-append_seam before later)) one_more),
      refl,
    )

-- the end
pub debugged : (in_old in_now in_new out_old out_now out_new : Option (List ℕ)) (start : PlainSession) (reads_now reads_new number count : ℕ) (lines : Pending) (p q : PlainSession) (ending : Ending) →
    number ≤ LINE_COUNT_LIMIT + 1 → count + 1 ≡ number →
    SoFar in_old in_now out_old out_now start reads_now number lines p → Halts in_now in_new out_now out_new reads_now reads_new number lines p q ending →
    DebugsBy in_old in_new out_old out_new (MayFollow start) (FollowsFirst start q) (FollowsInPart start q) count reads_new ending
debugged in_old in_now in_new out_old out_now out_new start reads_now reads_new number count lines p q ending few_lines counts far last =
    let splits : (more : List ℕ) → (last.saw_end ≡ true → more ≡ []) → lines_of ((far.got ++ last.got) ++ more) ≡ far.before ++ lines_of (lines.bytes ++ (last.got ++ more)) =
    λ more none.
    ap lines_of (append_assoc far.got last.got more) ∙ far.splits (last.got ++ more) (λ over. let at = last.closed over in ap (λ g. g ++ more) at.0 ∙ none at.1) in
    let all : (more : List ℕ) → (last.saw_end ≡ true → more ≡ []) → (text : List ℕ) → (stop : Ending) → MayWrite (lines_of (lines.bytes ++ (last.got ++ more))) number p text stop →
    MayFollow start ((far.got ++ last.got) ++ more) (far.written ++ text) stop =
    λ more none text stop may.
    subst (λ ls. MayWrite ls 1 start (far.written ++ text) stop) (sym (splits more none))
    (leads_before far.before (lines_of (lines.bytes ++ (last.got ++ more))) 1 number start p far.written text stop far.count far.leads may) in
    let lines_done : length far.before ≡ count = omega (arith, far.count, counts) in
    record {
      debugs = record {
        got = far.got ++ last.got;
        few = omega (arith, length-append far.got last.got, far.count, few_lines, far.few, last.held far.held);
        written = far.written ++ last.written;
        saw_end = last.saw_end;
        took = Consumes-both in_old in_now in_new far.got last.got far.took last.took;
        gave = Appends-both out_old out_now out_new far.written last.written far.gave last.gave;
        at_end = last.at_end;
        front = λ more none.
            let some = last.front more none in
            (far.written ++ some.0, some.1, all more none some.0 some.1 some.2, front_after far.written last.written some.0 some.3);
        whole = λ more none.
            unless_also ending (MayWrite (lines_of (lines.bytes ++ (last.got ++ more))) number p last.written ending)
            (MayFollow start ((far.got ++ last.got) ++ more) (far.written ++ last.written) ending)
            (λ may. all more none last.written ending may) (last.whole more none);
        replied = length far.before;
        few_lines = omega (arith, far.count, few_lines);
        replies = λ more none.
            both_unless ending (last.written ≡ []) (q ≡ p) (FollowsFirst start q (length far.before) ((far.got ++ last.got) ++ more) (far.written ++ last.written))
            (λ nothing same.
            first_followed start p q far.before (lines_of (lines.bytes ++ (last.got ++ more))) ((far.got ++ last.got) ++ more) far.written last.written (splits more none) nothing same far.leads)
            last.nothing last.stays;
        faults = λ more none. faults_later ending number far.before last.saw_end far.got last.got lines.bytes more far.count splits none (last.faults more none);
        reads = reads_later far.before (length far.before) far.got last.got lines last.saw_end (omega arith) far.splits far.in_lines last.in_line;
      };
      done_with = lines_done;
      few = omega (arith, length-append far.got last.got, lines_done, far.few, last.held far.held);
      counted = (far.full + last.full, came_by_both far.full last.full far.got last.got far.came last.came, omega (arith, far.counted, last.counted));
      unwritten = λ more none.
          also_on ending (RepliesInPart (lines_of (lines.bytes ++ (last.got ++ more))) number p last.written q)
          (FollowsInPart start q count ((far.got ++ last.got) ++ more) (far.written ++ last.written))
          (λ one_more.
          followed_in_part start p q number count far.before (lines_of (lines.bytes ++ (last.got ++ more))) ((far.got ++ last.got) ++ more) far.written last.written far.count lines_done (splits more none) far.leads one_more)
          (last.unwritten more none);
    }

-- there were no more reads than there may be
pub few_reads_by : (in_old in_new out_old out_new : Option (List ℕ)) (Stated : List ℕ → List ℕ → Ending → Type 0) (ToFirst InPart : ℕ → List ℕ → List ℕ → Type 0) (lines reads : ℕ) (ending : Ending) →
    DebugsBy in_old in_new out_old out_new Stated ToFirst InPart lines reads ending → reads ≤ MOST_READ + 1
few_reads_by in_old in_new out_old out_new Stated ToFirst InPart lines reads ending by =
    omega (arith, by.debugs.few, reads_counted reads by.debugs.got by.debugs.saw_end ending by.counted)

-- the same over a tape that is not too long
pub debugged_over : (in_old in_new out_old out_new : Option (List ℕ)) (tape : List ℕ) (limit : ℕ) (width : Width) (p q : PlainSession) (ending : Ending) → IsReady tape limit width p →
    Debugs in_old in_new out_old out_new (MayFollow p) (FollowsFirst p q) ending → Debugs in_old in_new out_old out_new (MayShow tape limit width) (RepliesToFirst tape limit width) ending
debugged_over in_old in_new out_old out_new tape limit width p q ending is all =
    let shown : (commands text : List ℕ) (stop : Ending) → MayFollow p commands text stop → MayShow tape limit width commands text stop =
    λ commands text stop may. shown_within tape limit width commands text stop is.within (subst (λ q. MayFollow q commands text stop) is.is may) in
    record {
      got = all.got;
      few = all.few;
      written = all.written;
      saw_end = all.saw_end;
      took = all.took;
      gave = all.gave;
      at_end = all.at_end;
      front = λ more none. let some = all.front more none in (some.0, some.1, shown (all.got ++ more) some.0 some.1 some.2, some.3);
      whole = λ more none.
          unless_also ending (MayFollow p (all.got ++ more) all.written ending) (MayShow tape limit width (all.got ++ more) all.written ending) (shown (all.got ++ more) all.written ending)
          (all.whole more none);
      replied = all.replied;
      few_lines = all.few_lines;
      replies = λ more none.
          also_unless ending (FollowsFirst p q all.replied (all.got ++ more) all.written) (RepliesToFirst tape limit width all.replied (all.got ++ more) all.written)
          (λ first.
          let over = subst (λ r. FollowsFirst r q all.replied (all.got ++ more) all.written) is.is first in
          ((q, over), over.2 tape 0 [] (ready_released tape limit width)))
          (all.replies more none);
      faults = all.faults;
      reads = all.reads;
    }

-- over each tape something may be written
some_shown : (tape : List ℕ) (limit : ℕ) (width : Width) (commands : List ℕ) → (text : List ℕ) × (stop : Ending) × MayShow tape limit width commands text stop
some_shown tape limit width commands = ⊎_elim
    (λ (beyond : TAPE_LIMIT < length tape). ([], Limit, shown_beyond tape limit width commands beyond))
    (λ (within : length tape ≤ TAPE_LIMIT).
    let some = some_text (lines_of commands) 1 (ready tape limit width) in
    (some.0, some.1, shown_within tape limit width commands some.0 some.1 within some.2))
    (cases_lt TAPE_LIMIT (length tape))

-- a session that did not begin
pub debugged_not : (input output : Option (List ℕ)) (tape : List ℕ) (limit : ℕ) (width : Width) (ending : Ending) → MayRefuseTape tape ending → Debugs input input output output (MayShow tape limit width) (RepliesToFirst tape limit width) ending
debugged_not input output tape limit width ending why = record {
  got = [];
  few = omega arith;
  written = [];
  saw_end = false;
  took = Consumes-nothing input;
  gave = Appends-nothing output;
  at_end = λ over. absurd (false≢true over);
  front = λ more none. let any = some_shown tape limit width more in (any.0, any.1, any.2, front_of_nothing any.0);
  whole = λ more none. ⊎_elim
      (λ (memory : (ending ≡ Memory) × (length tape ≤ TAPE_LIMIT)). unless_Memory ending (MayShow tape limit width more [] ending) memory.0)
      (λ (beyond : (ending ≡ Limit) × (TAPE_LIMIT < length tape)).
      unless_always ending (MayShow tape limit width more [] ending) (subst (λ stop. MayShow tape limit width more [] stop) (sym beyond.0) (shown_beyond tape limit width more beyond.1)))
      why;
  replied = 0;
  few_lines = omega arith;
  replies = λ more none. always_unless ending (RepliesToFirst tape limit width 0 more []) ((ready tape limit width, (omega arith, (refl, refl), λ input steps text has. (has, refl))), (ready_released tape limit width, refl));
  faults = λ more none. ⊎_elim
      (λ (memory : (ending ≡ Memory) × (length tape ≤ TAPE_LIMIT)). subst (λ e. FaultsAt e 0 1 false [] more) (sym memory.0) (inl (refl, refl)))
      (λ (beyond : (ending ≡ Limit) × (TAPE_LIMIT < length tape)). subst (λ e. FaultsAt e 0 1 false [] more) (sym beyond.0) tt)
      why;
  reads = record { before = []; piece = []; all = refl; few = omega arith; feeds = omega arith; at_end = λ over. absurd (false≢true over) };
}

-- over a tape that is too long it ends so
pub refused_too_long : (tape : List ℕ) (ending : Ending) → MayRefuseTape tape ending → TAPE_LIMIT < length tape → ending ≡ Limit
refused_too_long tape ending (inl why) long = absurd (omega (arith, why.1, long))
refused_too_long tape ending (inr why) long = why.0
