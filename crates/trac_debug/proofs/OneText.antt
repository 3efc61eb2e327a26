-- The debugger has one text in which no reply says that memory was refused.
use Rattle.std.proofs.Common.{◌≡◌, ℕ, zero, suc, ◌+◌, ◌<◌, ◌≤◌, true, false, List, [], ◌∷◌, ◌++◌, length, refl, sym, ap, subst, ◌∙◌, arith, inl, inr, ⊎_elim}
use Rattle.std.specs.Prelude.{◌⊎◌, Bool, Option, None, Some, max, nat_le, nat_lt, ◌&&◌, codes}
use Rattle.std.proofs.lemmas.Bool.{cases_lt, false≢true}
use Rattle.std.proofs.lemmas.List.{append_assoc}
use Rattle.std.proofs.lemmas.Option.{option_and_then_some}
use Rattle.trac_rules.specs.declared.limit.TheConstants.{TAPE_LIMIT}
use Rattle.trac_rules.specs.declared.refusal.Refusal.{Refusal}
use Rattle.trac_rules.specs.declared.refusal.Refusal.TheVariants.{Memory}
use Rattle.trac_rules.specs.declared.reply.Reply.TheVariants.{Refused}
use Rattle.trac_rules.specs.declared.width.Width.{Width}
use Rattle.trac_rules.specs.Session as session
use Rattle.trac_rules.specs.Session.{PlainSession, Goal, IsWalk, HasEnded, Answers, accepted_by, answer, done, refused, repeated, no_goal}
use Rattle.trac_rules.proofs.Replies.{Commit_done, accepted_done, done_of_refused, refused_alike}
use Rattle.trac_session.specs.Goals.{IsSearch, is_call_of, outcome}
use Rattle.trac_streams.specs.declared.ending.Ending.{Ending}
use Rattle.trac_streams.specs.declared.ending.Ending.TheVariants as endings
use Rattle.trac_debug.specs.Commands.{LineCommand, Forward, Back, Until, Return, Print, Commit, Quit}
use Rattle.trac_streams.specs.Lines.{lines_of}
use Rattle.trac_debug.specs.Replies.{HasMemoryReply, Replies, RepliesWithMemory, SaysMemory, walk_line}
use Rattle.trac_debug.specs.Debugging.{Turn, Passes, Does, Ends, TakesBy, WritesBy, MayWrite, MayShow, ShowsWithMemory, ready, shown_by, shown_where, turn_at}
use Rattle.trac_debug.proofs.Existing.{answered_as_said, reply_allowed, some_text_with}

-- ---- walks

-- a walk that ended as the definitions alone say
record IsRuled (command : session.Command) (goal : Goal) (n : ℕ) (old : PlainSession) (steps : ℕ) (why : Option Refusal) (new : PlainSession) : Type 0 where
  walk : IsWalk command goal n old steps why new
  said : (refusal : Refusal) → why ≡ Some refusal → answer command new ≡ refused refusal new

-- where a walk goes on, the next command was done
next_done : (command : session.Command) (steps count : ℕ) (old new other : PlainSession) → repeated command steps old ≡ Some new → repeated command count old ≡ Some other → steps < count →
    (q : PlainSession) × (answer command new ≡ done q)
next_done command steps zero old new other walked there l = absurd (omega arith)
next_done command steps (suc m) old new other walked there l =
    option_and_then_some (λ u. accepted_by (answer command u)) (repeated command m old) other there
    (λ q before last. ⊎_elim
    (λ (less : steps < m). next_done command steps m old new q walked before less)
    (λ (at : m ≤ steps).
    let count : steps ≡ m = omega arith in
    let both : Some new ≡ Some q = sym walked ∙ ap (λ k. repeated command k old) count ∙ before in
    let same : new ≡ q = cc in
    (other, ap (answer command) same ∙ accepted_done (answer command q) other last))
    (cases_lt steps m))

-- so it does not end where another one of the same session goes on
not_shorter : (command : session.Command) (goal : Goal) (n : ℕ) (old : PlainSession) (steps count : ℕ) (why because : Option Refusal) (new other : PlainSession) →
    IsRuled command goal n old steps why new → IsWalk command goal n old count because other → steps < count → ⊥
not_shorter command goal n old steps count None because new other ruled walk l =
    let ended : HasEnded goal n steps new = ruled.walk.stopped in
    let most : count ≤ n = walk.within in
    ⊎_elim
    (λ (all : steps ≡ n). absurd (omega arith))
    (λ (met : (0 < steps) × (goal new.last ≡ true)). absurd (false≢true (sym (walk.unmet steps new met.0 l ruled.walk.walked) ∙ met.1)))
    ended
not_shorter command goal n old steps count (Some refusal) because new other ruled walk l =
    let taken = next_done command steps count old new other ruled.walk.walked walk.walked l in
    done_of_refused refusal new taken.0 (sym (ruled.said refusal refl) ∙ taken.1)

-- a walk that was over was not refused there
ends_once : (goal : Goal) (n steps : ℕ) (new : PlainSession) → HasEnded goal n steps new → steps < n → (0 < steps → goal new.last ≡ false) → ⊥
ends_once goal n steps new ended less unmet = ⊎_elim
    (λ (all : steps ≡ n). absurd (omega arith))
    (λ (met : (0 < steps) × (goal new.last ≡ true)). absurd (false≢true (sym (unmet met.0) ∙ met.1)))
    ended

-- why it ended is told by where it ended
same_reason : (command : session.Command) (goal : Goal) (n : ℕ) (old : PlainSession) (steps : ℕ) (why because : Option Refusal) (new : PlainSession) →
    IsRuled command goal n old steps why new → IsRuled command goal n old steps because new → why ≡ because
same_reason command goal n old steps None None new one other = refl
same_reason command goal n old steps None (Some refusal) new one other =
    absurd (ends_once goal n steps new one.walk.stopped other.walk.stopped.0 other.walk.stopped.1)
same_reason command goal n old steps (Some refusal) None new one other =
    absurd (ends_once goal n steps new other.walk.stopped one.walk.stopped.0 one.walk.stopped.1)
same_reason command goal n old steps (Some refusal) (Some second) new one other =
    ap Some (refused_alike refusal second new new (sym (one.said refusal refl) ∙ other.said second refl)).0

-- a session, a number of steps and a reason
record IsSameEnd (steps count : ℕ) (why because : Option Refusal) (new other : PlainSession) : Type 0 where
  steps_same : steps ≡ count
  why_same : why ≡ because
  new_same : new ≡ other

-- there is one walk that ended as the definitions alone say
one_walk : (command : session.Command) (goal : Goal) (n : ℕ) (old : PlainSession) (steps count : ℕ) (why because : Option Refusal) (new other : PlainSession) →
    IsRuled command goal n old steps why new → IsRuled command goal n old count because other → IsSameEnd steps count why because new other
one_walk command goal n old steps count why because new other first second =
    let same : steps ≡ count = ⊎_elim
    (λ (less : steps < count). absurd (not_shorter command goal n old steps count why because new other first second.walk less))
    (λ (more : count ≤ steps). ⊎_elim
    (λ (less : count < steps). absurd (not_shorter command goal n old count steps because why other new second first.walk less))
    (λ (at : steps ≤ count). let e : steps ≡ count = omega arith in e)
    (cases_lt count steps))
    (cases_lt steps count) in
    let both : Some new ≡ Some other = sym first.walk.walked ∙ ap (λ k. repeated command k old) same ∙ second.walk.walked in
    let place : new ≡ other = cc in
    let here : IsRuled command goal n old steps because new =
    subst (λ k. IsRuled command goal n old k because new) (sym same) (subst (λ q. IsRuled command goal n old count because q) (sym place) second) in
    record { steps_same = same; why_same = same_reason command goal n old steps why because new first here; new_same = place }

-- ---- walks forward and back

-- a step back is never refused for memory
back_said : (p : PlainSession) (refusal : Refusal) → Answers session.Back p (Refused refusal) p → answer session.Back p ≡ refused refusal p
back_said p refusal h =
    (answered_as_said session.Back p p refusal (λ is. absurd ((subst (λ (r : Refusal). Answers session.Back p (Refused r) p) is h).0))).0 h

forward_ruled : (goal : Goal) (n : ℕ) (old : PlainSession) (steps : ℕ) (why : Option Refusal) (new : PlainSession) → (why ≡ Some Memory → ⊥) → IsWalk session.Step goal n old steps why new →
    IsRuled session.Step goal n old steps why new
forward_ruled goal n old steps None new other walk = record { walk = walk; said = λ refusal is. absurd (cc) }
forward_ruled goal n old steps (Some second) new other walk = record {
  walk = walk;
  said = λ refusal is.
      let same : second ≡ refusal = cc in
      (answered_as_said session.Step new new second (λ e. other (ap Some e))).0 walk.stopped.2 ∙ ap (λ r. refused r new) same;
}

back_ruled : (goal : Goal) (n : ℕ) (old : PlainSession) (steps : ℕ) (why : Option Refusal) (new : PlainSession) → IsWalk session.Back goal n old steps why new →
    IsRuled session.Back goal n old steps why new
back_ruled goal n old steps None new walk = record { walk = walk; said = λ refusal is. absurd (cc) }
back_ruled goal n old steps (Some second) new walk = record {
  walk = walk;
  said = λ refusal is. let same : second ≡ refusal = cc in back_said new second walk.stopped.2 ∙ ap (λ r. refused r new) same;
}

-- ---- replies

-- a reply and the session after it are one
record IsOne (reply other : List ℕ) (new last : PlainSession) : Type 0 where
  reply_same : reply ≡ other
  new_same : new ≡ last

-- two walks that end alike are replied to alike
walks_alike : (word : List ℕ) (steps count : ℕ) (why because : Option Refusal) (new last : PlainSession) (reply other : List ℕ) → IsSameEnd steps count why because new last →
    reply ≡ walk_line word steps why → other ≡ walk_line word count because → IsOne reply other new last
walks_alike word steps count why because new last reply other same is this = record {
  reply_same = is ∙ (λ i. walk_line word (same.steps_same i) (same.why_same i)) ∙ sym this;
  new_same = same.new_same;
}

-- and two searches
searches_alike : (goal : Goal) (word : List ℕ) (steps count : ℕ) (ended finished why because : Option Refusal) (new last : PlainSession) (reply other : List ℕ) →
    IsSameEnd steps count ended finished new last → why ≡ outcome (nat_lt 0 steps && goal new.last) ended → because ≡ outcome (nat_lt 0 count && goal last.last) finished →
    reply ≡ walk_line word steps why → other ≡ walk_line word count because → IsOne reply other new last
searches_alike goal word steps count ended finished why because new last reply other same first second is this =
    let reason : why ≡ because =
    first ∙ (λ i. outcome (nat_lt 0 (same.steps_same i) && goal (same.new_same i).last) (same.why_same i)) ∙ sym second in
    walks_alike word steps count why because new last reply other (record { steps_same = same.steps_same; why_same = reason; new_same = same.new_same }) is this

-- a search that memory did not end is a walk that memory did not end
not_ended_so : (met : Bool) (ended why : Option Refusal) → why ≡ outcome met ended → (why ≡ Some Memory → ⊥) → ended ≡ Some Memory → ⊥
not_ended_so met ended why is other so = other (is ∙ ap (outcome met) so)

-- there is one reply to a command that does not say that memory was refused
one_reply : (command : LineCommand) (old new last : PlainSession) (reply other : List ℕ) → RepliesWithMemory command old reply new → RepliesWithMemory command old other last → IsOne reply other new last
one_reply (Forward n) old new last reply other a b =
    walks_alike (codes "forward") a.0 b.0 a.1 b.1 new last reply other
    (one_walk session.Step no_goal n old a.0 b.0 a.1 b.1 new last (forward_ruled no_goal n old a.0 a.1 new a.2.1 a.2.0) (forward_ruled no_goal n old b.0 b.1 last b.2.1 b.2.0))
    a.3 b.3
one_reply (Back n) old new last reply other a b =
    walks_alike (codes "back") a.0 b.0 a.1 b.1 new last reply other
    (one_walk session.Back no_goal n old a.0 b.0 a.1 b.1 new last (back_ruled no_goal n old a.0 a.1 new a.2) (back_ruled no_goal n old b.0 b.1 last b.2))
    a.3 b.3
one_reply (Until name n) old new last reply other a b =
    let goal = is_call_of name in
    let one : IsSearch session.Step goal n old a.0 a.1 new = a.2.0 in
    let two : IsSearch session.Step goal n old b.0 b.1 last = b.2.0 in
    searches_alike goal (codes "until") a.0 b.0 one.0 two.0 a.1 b.1 new last reply other
    (one_walk session.Step goal n old a.0 b.0 one.0 two.0 new last
    (forward_ruled goal n old a.0 one.0 new (not_ended_so (nat_lt 0 a.0 && goal new.last) one.0 a.1 one.2 a.2.1) one.1)
    (forward_ruled goal n old b.0 two.0 last (not_ended_so (nat_lt 0 b.0 && goal last.last) two.0 b.1 two.2 b.2.1) two.1))
    one.2 two.2 a.3 b.3
one_reply (Return name) old new last reply other a b =
    let goal = is_call_of name in
    let n = max 1 (length old.earlier) in
    let one : IsSearch session.Back goal n old a.0 a.1 new = a.2 in
    let two : IsSearch session.Back goal n old b.0 b.1 last = b.2 in
    searches_alike goal (codes "return") a.0 b.0 one.0 two.0 a.1 b.1 new last reply other
    (one_walk session.Back goal n old a.0 b.0 one.0 two.0 new last (back_ruled goal n old a.0 one.0 new one.1) (back_ruled goal n old b.0 two.0 last two.1))
    one.2 two.2 a.3 b.3
one_reply Print old new last reply other a b = record { reply_same = a.0 ∙ sym b.0; new_same = a.1 ∙ sym b.1 }
one_reply (Commit keep) old new last reply other a b =
    record { reply_same = a.0 ∙ sym b.0; new_same = Commit_done keep old new a.1 ∙ sym (Commit_done keep old last b.1) }
one_reply Quit old new last reply other a b = record { reply_same = a.0 ∙ sym b.0; new_same = a.1 ∙ sym b.1 }

-- a walk was ended for want of memory, or not
for_memory : (why : Option Refusal) → (why ≡ Some Memory) ⊎ (why ≡ Some Memory → ⊥)
for_memory (Some Memory) = inl refl
for_memory other = inr (λ e. cc)

-- a reply that there may be does not say that memory was refused, or says so
pub with_or_said : (command : LineCommand) (old new : PlainSession) (reply : List ℕ) → Replies command old reply new → RepliesWithMemory command old reply new ⊎ SaysMemory reply
with_or_said (Forward n) old new reply is = ⊎_elim
    (λ (so : is.1 ≡ Some Memory). inr (codes "forward", is.0, is.3 ∙ ap (walk_line (codes "forward") is.0) so))
    (λ (other : is.1 ≡ Some Memory → ⊥). inl (is.0, is.1, (is.2, other), is.3))
    (for_memory is.1)
with_or_said (Until name n) old new reply is = ⊎_elim
    (λ (so : is.1 ≡ Some Memory). inr (codes "until", is.0, is.3 ∙ ap (walk_line (codes "until") is.0) so))
    (λ (other : is.1 ≡ Some Memory → ⊥). inl (is.0, is.1, (is.2, other), is.3))
    (for_memory is.1)
with_or_said other old new reply is = inl is

-- ---- texts

-- one text, and one ending
abbrev AreOne : List ℕ → List ℕ → Ending → Ending → Type 0
AreOne text other stop last = (text ≡ other) × (stop ≡ last)

abbrev Writes : List (List ℕ) → ℕ → PlainSession → List ℕ → Ending → Type 0
Writes lines number p text stop = WritesBy RepliesWithMemory lines number p text stop

one_turn : (turn : Turn) (lines : List (List ℕ)) (number : ℕ) (p : PlainSession) (text other : List ℕ) (stop last : Ending) →
    ((q : PlainSession) (rest more : List ℕ) → Writes lines number q rest stop → Writes lines number q more last → AreOne rest more stop last) →
    TakesBy RepliesWithMemory turn p (λ q rest. Writes lines number q rest stop) text stop →
    TakesBy RepliesWithMemory turn p (λ q rest. Writes lines number q rest last) other last → AreOne text other stop last
one_turn Passes lines number p text other stop last one a b = one p text other a b
one_turn (Does command) lines number p text other stop last one a b =
    let same = one_reply command p a.1 b.1 a.0 b.0 a.3 b.3 in
    let rest = one a.1 a.2 b.2 a.5 (subst (λ q. Writes lines number q b.2 last) (sym same.new_same) b.5) in
    (a.4 ∙ (λ i. same.reply_same i ++ rest.0 i) ∙ sym b.4, rest.1)
one_turn (Ends end) lines number p text other stop last one a b = (a.0 ∙ sym b.0, a.1 ∙ sym b.1)

one_text : (lines : List (List ℕ)) (number : ℕ) (p : PlainSession) (text other : List ℕ) (stop last : Ending) → Writes lines number p text stop → Writes lines number p other last →
    AreOne text other stop last
one_text [] number p text other stop last a b = (a.0 ∙ sym b.0, a.1 ∙ sym b.1)
one_text (line ∷ lines) number p text other stop last a b =
    one_turn (turn_at number line) lines (number + 1) p text other stop last (λ q rest more. one_text lines (number + 1) q rest more stop last) a b

-- it is one of those that there may be
turn_allowed : (turn : Turn) (lines : List (List ℕ)) (number : ℕ) (p : PlainSession) (text : List ℕ) (stop : Ending) →
    ((q : PlainSession) (rest : List ℕ) → Writes lines number q rest stop → MayWrite lines number q rest stop) →
    TakesBy RepliesWithMemory turn p (λ q rest. Writes lines number q rest stop) text stop → TakesBy Replies turn p (λ q rest. MayWrite lines number q rest stop) text stop
turn_allowed Passes lines number p text stop allowed a = allowed p text a
turn_allowed (Does command) lines number p text stop allowed a = (a.0, a.1, a.2, reply_allowed command p a.1 a.0 a.3, a.4, allowed a.1 a.2 a.5)
turn_allowed (Ends end) lines number p text stop allowed a = a

text_allowed : (lines : List (List ℕ)) (number : ℕ) (p : PlainSession) (text : List ℕ) (stop : Ending) → Writes lines number p text stop → MayWrite lines number p text stop
text_allowed [] number p text stop a = a
text_allowed (line ∷ lines) number p text stop a =
    turn_allowed (turn_at number line) lines (number + 1) p text stop (λ q rest. text_allowed lines (number + 1) q rest stop) a

-- any other text that there may be has a reply that says that memory was refused
abbrev IsWithOrHas : (List ℕ → Type 0) → List ℕ → Type 0
IsWithOrHas With text = With text ⊎ HasMemoryReply text

has_after : (reply rest text : List ℕ) → text ≡ reply ++ rest → HasMemoryReply rest → HasMemoryReply text
has_after reply rest text whole has =
    (reply ++ has.0, has.1, has.2, has.3, whole ∙ ap (λ (r : List ℕ). reply ++ r) has.4 ∙ sym (append_assoc reply has.0 (has.1 ++ has.2)))

turn_with_or_has : (turn : Turn) (lines : List (List ℕ)) (number : ℕ) (p : PlainSession) (text : List ℕ) (stop : Ending) →
    ((q : PlainSession) (rest : List ℕ) → MayWrite lines number q rest stop → IsWithOrHas (λ r. Writes lines number q r stop) rest) →
    TakesBy Replies turn p (λ q rest. MayWrite lines number q rest stop) text stop →
    IsWithOrHas (λ t. TakesBy RepliesWithMemory turn p (λ q rest. Writes lines number q rest stop) t stop) text
turn_with_or_has Passes lines number p text stop rest a = rest p text a
turn_with_or_has (Does command) lines number p text stop rest a = ⊎_elim
    (λ (plain : RepliesWithMemory command p a.0 a.1). ⊎_elim
    (λ (plain_rest : Writes lines number a.1 a.2 stop). inl (a.0, a.1, a.2, plain, a.4, plain_rest))
    (λ (has : HasMemoryReply a.2). inr (has_after a.0 a.2 text a.4 has))
    (rest a.1 a.2 a.5))
    (λ (says : SaysMemory a.0). inr ([], a.0, a.2, says, a.4))
    (with_or_said command p a.1 a.0 a.3)
turn_with_or_has (Ends end) lines number p text stop rest a = inl a

text_with_or_has : (lines : List (List ℕ)) (number : ℕ) (p : PlainSession) (text : List ℕ) (stop : Ending) → MayWrite lines number p text stop →
    IsWithOrHas (λ t. Writes lines number p t stop) text
text_with_or_has [] number p text stop a = inl a
text_with_or_has (line ∷ lines) number p text stop a =
    turn_with_or_has (turn_at number line) lines (number + 1) p text stop (λ q rest. text_with_or_has lines (number + 1) q rest stop) a

-- ---- whole sessions

module _ (tape : List ℕ) (limit : ℕ) (width : Width) (commands : List ℕ) where
  abbrev Shows : List ℕ → Ending → Bool → Type 0
  Shows text stop within = shown_by (WritesBy RepliesWithMemory) tape limit width commands text stop within

  there_by : (within : Bool) → (text : List ℕ) × (stop : Ending) × Shows text stop within
  there_by true = some_text_with (lines_of commands) 1 (ready tape limit width)
  there_by false = ([], endings.Limit, (refl, refl))

  one_by : (within : Bool) (text other : List ℕ) (stop last : Ending) → Shows text stop within → Shows other last within → AreOne text other stop last
  one_by true text other stop last a b = one_text (lines_of commands) 1 (ready tape limit width) text other stop last a b
  one_by false text other stop last a b = (a.0 ∙ sym b.0, a.1 ∙ sym b.1)

  among_by : (within : Bool) (text : List ℕ) (stop : Ending) → Shows text stop within → shown_where tape limit width commands text stop within
  among_by true text stop a = text_allowed (lines_of commands) 1 (ready tape limit width) text stop a
  among_by false text stop a = a

  with_or_has_by : (within : Bool) (text : List ℕ) (stop : Ending) → shown_where tape limit width commands text stop within → IsWithOrHas (λ t. Shows t stop within) text
  with_or_has_by true text stop a = text_with_or_has (lines_of commands) 1 (ready tape limit width) text stop a
  with_or_has_by false text stop a = inl a

  pub text_is_there : (text : List ℕ) × (stop : Ending) × ShowsWithMemory tape limit width commands text stop
  text_is_there = there_by (nat_le (length tape) TAPE_LIMIT)

  pub text_is_one : (text other : List ℕ) (stop last : Ending) → ShowsWithMemory tape limit width commands text stop → ShowsWithMemory tape limit width commands other last → AreOne text other stop last
  text_is_one text other stop last a b = one_by (nat_le (length tape) TAPE_LIMIT) text other stop last a b

  pub text_is_among : (text : List ℕ) (stop : Ending) → ShowsWithMemory tape limit width commands text stop → MayShow tape limit width commands text stop
  text_is_among text stop a = among_by (nat_le (length tape) TAPE_LIMIT) text stop a

  pub text_has_memory_reply : (text : List ℕ) (stop : Ending) → MayShow tape limit width commands text stop → ShowsWithMemory tape limit width commands text stop ⊎ HasMemoryReply text
  text_has_memory_reply text stop a = with_or_has_by (nat_le (length tape) TAPE_LIMIT) text stop a
