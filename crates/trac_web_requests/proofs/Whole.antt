-- What was read and written of whole texts.
use Rattle.std.proofs.Common.{◌≡◌, ◌+◌, ◌<◌, ℕ, List, [], ◌++◌, length, refl, sym, ap, subst, ◌∙◌}
use Rattle.std.specs.Prelude.{Some}
use Rattle.trac_rules.specs.declared.limit.TheConstants.{TAPE_LIMIT}
use Rattle.trac_rules.specs.declared.width.Width.{Width}
use Rattle.trac_rules.specs.Fronts.{IsFrontOf}
use Rattle.trac_rules.specs.Running.{Output, output_from, output_of}
use Rattle.trac_session.specs.Outputs.{Prints}
use Rattle.trac_streams.specs.declared.ending.Ending.{Ending}
use Rattle.trac_streams.specs.declared.ending.Ending.TheVariants.{Limit, Memory}
use Rattle.trac_streams.proofs.Known.{front_of_nothing}
use Rattle.trac_run.specs.Runs.{Runs, Shows}
use Rattle.trac_debug.specs.Debugging.{MayShow, RepliesToFirst}
use Rattle.trac_debug.specs.Debugs.{Debugs, FaultsAt, UnlessFault, UnlessWrite}
use Rattle.trac_web_requests.specs.declared.outcome.Outcome.{Outcome}
use Rattle.trac_web_requests.specs.Replies.{Delivers, Gives}
use Rattle.trac_web_requests.specs.Requests.{WritesReplies, WritesRun}

-- a run that read this text, of which a rest was left, and wrote all of that, where nothing was before
pub whole_run : (width : Width) (budget steps : ℕ) (text rest before all : List ℕ) (ending : Ending) → before ≡ [] →
    (r : Runs (Some text) (Some rest) (Some before) (Some all) width budget ending) → r.steps ≡ steps → WritesRun width budget steps text all ending
whole_run width budget steps text rest before all ending none r taken =
    let stated : List ℕ → Output = λ t. output_of width t budget in
    let is_text : r.got ++ rest ≡ text = sym r.took in
    let is_all : r.written ≡ all = sym (r.gave ∙ ap (λ b. b ++ r.written) none) in
    record {
      front = subst (λ w. IsFrontOf w (stated text).bytes) is_all (subst (λ t. IsFrontOf r.written (stated t).bytes) is_text (r.front rest r.at_end));
      shows = subst (λ w. Shows ending w (stated text)) is_all (subst (λ t. Shows ending r.written (stated t)) is_text (r.shows rest r.at_end));
      exact = λ sound.
          subst (λ n. Prints width text n all) taken
          (subst (λ w. Prints width text r.steps w) is_all (subst (λ t. Prints width t r.steps r.written) is_text (r.exact sound rest r.at_end)));
    }

-- a run that did not begin
pub run_not_begun : (width : Width) (budget : ℕ) (input : List ℕ) → WritesRun width budget 0 input [] Memory
unfolding output_from
run_not_begun width budget input = record {
  front = front_of_nothing (output_of width input budget).bytes;
  shows = tt;
  exact = λ sound. refl;
}

-- the same of a session of the debugger
pub whole_replies : (tape : List ℕ) (limit : ℕ) (width : Width) (commands rest before all : List ℕ) (ending : Ending) → before ≡ [] →
    Debugs (Some commands) (Some rest) (Some before) (Some all) (MayShow tape limit width) (RepliesToFirst tape limit width) ending →
    (TAPE_LIMIT < length tape → ending ≡ Limit) → WritesReplies tape limit width commands all ending
whole_replies tape limit width commands rest before all ending none d too_long =
    let is_text : d.got ++ rest ≡ commands = sym d.took in
    let is_all : d.written ≡ all = sym (d.gave ∙ ap (λ b. b ++ d.written) none) in
    record {
      front =
          subst (λ w. (text : List ℕ) × (stop : Ending) × MayShow tape limit width commands text stop × IsFrontOf w text) is_all
          (subst (λ t. (text : List ℕ) × (stop : Ending) × MayShow tape limit width t text stop × IsFrontOf d.written text) is_text (d.front rest d.at_end));
      whole =
          subst (λ w. UnlessFault ending (MayShow tape limit width commands w ending)) is_all
          (subst (λ t. UnlessFault ending (MayShow tape limit width t d.written ending)) is_text (d.whole rest d.at_end));
      replied = d.replied;
      few_lines = d.few_lines;
      replies =
          subst (λ w. UnlessWrite ending (RepliesToFirst tape limit width d.replied commands w)) is_all
          (subst (λ t. UnlessWrite ending (RepliesToFirst tape limit width d.replied t d.written)) is_text (d.replies rest d.at_end));
      read = d.got;
      saw_end = d.saw_end;
      front_read = (rest, d.took);
      faults = subst (λ t. FaultsAt ending d.replied (d.replied + 1) d.saw_end d.got t) is_text (d.faults rest d.at_end);
      too_long = too_long;
    }

-- what was written is stated, and in the buffer
pub gives_all : {Stated : List ℕ → Ending → Type 0} {text all old new : List ℕ} {ending : Ending} {written : ℕ} {outcome : Outcome} → text ≡ all → Stated all ending → Delivers text ending old new written outcome → Gives Stated old new written outcome
gives_all {Stated = Stated} {text = text} {ending = ending} same stated delivered = record { text = text; ending = ending; stated = subst (λ t. Stated t ending) (sym same) stated; delivered = delivered }
