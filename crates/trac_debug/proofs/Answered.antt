-- What the code answers, as the definitions have it: replies, turns, and sessions that are ready.
use Rattle.std.proofs.Common.{◌≡◌, ℕ, ◌==◌, ◌<◌, ◌≤◌, not, Bool, true, false, List, [], ◌∷◌, length, refl, sym, ap, subst, ◌∙◌, arith, inl, inr}
use Rattle.std.specs.Prelude.{Option, Result, Ok, Err, IfErr, OnErr, IsOkUnless}
use Rattle.std.proofs.lemmas.Bool.{false≢true}
use Rattle.std.proofs.lemmas.Bool.Decides.{nat_tests}
use Rattle.trac_rules.specs.declared.width.Width.{Width}
use Rattle.trac_rules.specs.declared.limit.TheConstants.{TAPE_LIMIT}
use Rattle.trac_rules.specs.Session.{PlainSession, Feed, End, answer, done, new_session}
use Rattle.trac_rules.proofs.Replies.{End_done, Feed_done, with_end, with_more}
use Rattle.trac_streams.specs.Written.{WritesFront}
use Rattle.trac_streams.specs.declared.ending.Ending.{Ending}
use Rattle.trac_streams.specs.declared.ending.Ending.TheVariants.{Memory, Write}
use Rattle.trac_streams.proofs.Known.{Appends-nothing, front_of_nothing}
use Rattle.trac_debug.specs.Commands.{LineCommand}
use Rattle.trac_debug.specs.Replies.{Replies, is_walk}
use Rattle.trac_debug.specs.Debugging.{turn_at}
use Rattle.trac_debug.specs.Debugs.{IsReady, IsNotReplied, Settles, Stops}
use Rattle.trac_debug.proofs.Existing.{some_reply}

-- ---- replies

-- no reply could be made
pub not_made : (command : LineCommand) (old new : PlainSession) (output : Option (List ℕ)) → is_walk command ≡ false → new ≡ old → IsNotReplied command old new output output Memory
not_made command old new output other same =
    let some = some_reply command old in
    record {
      fault = inl (refl, refl, other, same);
      reply = some.0;
      made = some.1;
      replies = some.2;
      front = record { written = []; front = front_of_nothing some.0; gave = Appends-nothing output };
    }

-- a reply could not be written or flushed
pub not_written : (command : LineCommand) (old new : PlainSession) (lent reply : List ℕ) (a b : Option (List ℕ)) (wrote : Result (Unit {0}) Ending) → lent ≡ reply → Replies command old reply new → IsOkUnless wrote Write → OnErr wrote (WritesFront a b lent) →
    IfErr wrote (IsNotReplied command old new a b)
not_written command old new lent reply a b (Ok none) is replies fault front = tt
not_written command old new lent reply a b (Err ending) is replies fault front = record {
  fault = inr (fault, refl);
  reply = reply;
  made = new;
  replies = replies;
  front = subst (WritesFront a b) is front;
}

-- ---- the session

-- it stands over the tape
pub ready_made : (tape : List ℕ) (limit : ℕ) (width : Width) (p q r : PlainSession) → length tape ≤ TAPE_LIMIT → p ≡ new_session limit width → answer (Feed tape) p ≡ done q → answer End q ≡ done r → IsReady tape limit width r
ready_made tape limit width p q r within new fed ended = record {
  within = within;
  is = End_done q r ended ∙ ap with_end ((Feed_done tape p q fed).0) ∙ ap (λ (s : PlainSession). with_end (with_more s tape)) new;
}

-- ---- what the code answers, as the definitions have it

-- the line as it was lent, and the ending as it was passed on
pub stops_at : (number : ℕ) (lent line : List ℕ) (p q : PlainSession) (a b : Option (List ℕ)) (e ending : Ending) → lent ≡ line → ending ≡ e → Stops (turn_at number lent) p q a b e → Stops (turn_at number line) p q a b ending
stops_at number lent line p q a b e ending same is stops =
    subst (λ l. Stops (turn_at number l) p q a b ending) same (subst (λ x. Stops (turn_at number lent) p q a b x) (sym is) stops)

pub settles_at : (number : ℕ) (lent line : List ℕ) (p q : PlainSession) (a b : Option (List ℕ)) → lent ≡ line → Settles (turn_at number lent) p q a b → Settles (turn_at number line) p q a b
settles_at number lent line p q a b same settles = subst (λ l. Settles (turn_at number l) p q a b) same settles

-- whether there are more bytes, as it is tested
pub some_of_more : (n : ℕ) (more : Bool) → more ≡ not (n == 0) → more ≡ true → 0 < n
some_of_more n more is some = grind (arith, nat_tests)

pub none_of_more : (bytes : List ℕ) (more : Bool) → more ≡ not (length bytes == 0) → more ≡ false → bytes ≡ []
none_of_more [] more is none = refl
none_of_more (b ∷ bs) more is none = absurd (false≢true (sym none ∙ is ∙ some_bytes))
  where
    some_bytes : not (length (b ∷ bs) == 0) ≡ true
    some_bytes = grind (arith, nat_tests)
