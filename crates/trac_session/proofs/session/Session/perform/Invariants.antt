use Rattle.std.proofs.Common.{◌≡◌, ◌≤◌, length, map, take}
use Rattle.std.specs.Vec.{vec_capacity, vec_len}
use Rattle.trac_rules.specs.Session.{Run}
use Rattle.trac_session.specs.Commands.{command_of}
use Rattle.trac_session.proofs.session.Session.perform.Given as goal

-- the commands so far are carried out, and there is room for the replies to the others
abbrev pub invariant-loop-command : goal.invariant-loop-command
invariant-loop-command g l =
    Run (map command_of (take l.command-index l.fn.commands)) l.replies.items l.fn.self l.self
    × (vec_len l.replies ≡ l.command-index)
    × (length l.fn.commands ≤ vec_capacity l.replies)
