-- What a reply tells of the output: how many steps led to the session, and what it releases.
use Rattle.std.specs.Prelude.{◌≡◌, ℕ, ◌+◌, List, [], Option, codes}
use Rattle.trac_rules.specs.declared.refusal.Refusal.{Refusal}
use Rattle.trac_debug.specs.Commands.{LineCommand, Forward, Back, Until, Return, Print, Commit, Quit}
use Rattle.trac_debug.specs.Replies.{walk_line}
use Rattle.trac_streams.specs.Escapes.{text_line}

-- a walk is told by this word, and by how many steps lie between these two numbers
abbrev pub TellsWalk : List ℕ → List ℕ → ℕ → ℕ → Type 0
TellsWalk word reply less more =
    (steps : ℕ) × (why : Option Refusal) × (reply ≡ walk_line word steps why) × (more ≡ less + steps)

-- so many steps led to the session before this command. This reply to it tells that so many led to the session after
-- it, and that this text was released. That text is all that a commit shows
abbrev pub Tells : LineCommand → List ℕ → ℕ → ℕ → List ℕ → Type 0
Tells (Forward n) reply before after text = TellsWalk (codes "forward") reply before after × (text ≡ [])
Tells (Back n) reply before after text = TellsWalk (codes "back") reply after before × (text ≡ [])
Tells (Until name n) reply before after text = TellsWalk (codes "until") reply before after × (text ≡ [])
Tells (Return name) reply before after text = TellsWalk (codes "return") reply after before × (text ≡ [])
Tells (Commit keep) reply before after text = (after ≡ before) × (reply ≡ text_line (codes "commit") text)
Tells Print reply before after text = (after ≡ before) × (text ≡ [])
Tells Quit reply before after text = (after ≡ before) × (text ≡ [])
