-- What is shown of a program's output: by a run, the debugger, a window, and the module of the page.
use Rattle.std.specs.Prelude.{◌≡◌, ◌≢◌, ℕ, ◌+◌, List, [], ◌++◌, Option, Some, codes}
use Rattle.trac_rules.specs.declared.refusal.Refusal.{Refusal}
use Rattle.trac_rules.specs.declared.width.Width.{Width}
use Rattle.trac_rules.specs.Session.{PlainSession}
use Rattle.trac_streams.specs.declared.ending.Ending.{Ending}
use Rattle.trac_streams.specs.declared.ending.Ending.TheVariants.{Write}
use Rattle.trac_streams.specs.Escapes.{text_line}
use Rattle.trac_run.specs.Runs.{Runs}
use Rattle.trac_debug.specs.Debugging.{TellsOutput}
use Rattle.trac_debug.specs.Replies.{walk_line}
use Rattle.trac_moves.specs.Windows.{IsWindow}
use Rattle.trac_web_requests.specs.Requests.{WritesRun}
use Rattle.trac_web_requests.specs.Ways.{SpotSeen, WritesWay}

-- so many steps over this input, with numbers of this width, are shown to print this text
pub data IsShown (width : Width) (input : List ℕ) (steps : ℕ) (text : List ℕ) : Type 0 where
  -- a run of so many steps had this input from its reader, and wrote the text, where nothing was. The writer was sound
  ByRun : (rest : List ℕ) (budget : ℕ) (ending : Ending)
      (run : Runs (Some input) (Some rest) (Some []) (Some text) width budget ending) →
      run.steps ≡ steps → ending ≢ Write → IsShown width input steps text
  -- the debugger has come to a session, as its replies told, and has released what is not pending there
  ByDebugger : (lines : List (List ℕ)) (number : ℕ) (released written : List ℕ) (p : PlainSession) →
      TellsOutput input lines number steps released p written →
      p.width ≡ width → text ≡ released ++ p.last.output → IsShown width input steps text
  -- a window stands at a session, and has released what is not pending there
  ByWindow : (released : List ℕ) (forgotten count : ℕ) (p : PlainSession) →
      IsWindow input steps released forgotten count p →
      p.width ≡ width → text ≡ released ++ p.last.output → IsShown width input steps text
  -- the module ran all of the input, and wrote the text. It had room for that
  ByModule : (budget : ℕ) (ending : Ending) →
      WritesRun width budget steps input text ending → ending ≢ Write → IsShown width input steps text
  -- the module has come to a session, to follow a byte, and has released what is not pending there
  ByFollowing : (limit : ℕ) (spot : SpotSeen) (rows : List ℕ) (way : WritesWay input limit width steps spot rows) →
      text ≡ way.output ++ way.p.last.output → IsShown width input steps text

-- the debugger had released this text after so many steps. It was told to go forward, and then to release all. Its two
-- replies tell how many steps it went, and a text: all that is released is shown
pub record ShowsBoth (width : Width) (input : List ℕ) (before : ℕ) (text written : List ℕ) : Type 0 where
  pub steps : ℕ
  pub why : Option Refusal
  pub more : List ℕ
  pub later : List ℕ
  pub replies : written ≡ walk_line (codes "forward") steps why ++ (text_line (codes "commit") more ++ later)
  pub shown : IsShown width input (before + steps) (text ++ more)
