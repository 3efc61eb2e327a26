use Rattle.std.proofs.Common.{◌≡◌, ℕ, List, length, refl, sym, ap, subst, arith}
use Rattle.trac_rules.specs.declared.reply.Reply.TheVariants.{Done}
use Rattle.trac_rules.specs.Session.{Feed}
use Rattle.trac_gap.specs.Window.{Window}
use Rattle.trac_session.specs.Journal.{IsSession}
use Rattle.trac_session.proofs.Journaled.{Feed_closed_of_fields, Feed_long_of_fields, Feed_room_of_fields, Feed_memory_of_fields, IsSound-feed}
use Rattle.trac_session.proofs.Trailed.{answered}
use Rattle.trac_session.proofs.session.Session.feed.Goals as goal

pub returns-then-self : goal.returns-then-self
returns-then-self g c = Feed_closed_of_fields _ _ _ c.self.inside.journal.records _ _ _ c.self.view_is c.if-self.true

pub returns-then-bytes-len : goal.returns-then-bytes-len
returns-then-bytes-len g c =
    let count : c.len.result ≡ length c.self.inside.tape.items = c.len.ensures.len in
    Feed_long_of_fields _ _ _ c.self.inside.journal.records _ _ _ c.self.view_is c.if-self.false (omega (arith, c.self.invariant.sound.tape_limit))

pub returns-in_default : goal.returns-in_default
returns-in_default g c =
    let count : c.len.result ≡ length c.self.inside.tape.items = c.len.ensures.len in
    Feed_memory_of_fields _ _ _ _ c.self.inside.journal.records _ _ _ c.self.view_is c.if-self.false (omega (arith, c.self.invariant.sound.tape_limit)) (ap (λ (w : Window ℕ). w.items) c.in_default.ensures.err)

pub returns : goal.returns
returns g c =
    let count : c.len.result ≡ length c.self.inside.tape.items = c.len.ensures.len in
    Feed_room_of_fields _ _ _ _ c.self.inside.journal.records _ _ _ c.self.view_is c.if-self.false (omega (arith, c.self.invariant.sound.tape_limit)) c.in-Ok.ensures.ok

pub invariant_of-self : goal.invariant_of-self
invariant_of-self g c =
    let inside = c.self.inside in
    subst (λ (items : List ℕ). IsSession inside.limit inside.width items inside.ended inside.mark inside.journal.records inside.machine) (sym (ap (λ (w : Window ℕ). w.items) c.in_default.ensures.err)) c.self.invariant

pub invariant_of-self-2 : goal.invariant_of-self-2
invariant_of-self-2 g c =
    let count : c.len.result ≡ length c.self.inside.tape.items = c.len.ensures.len in
    answered (Feed c.args.bytes.now) Done c.self.invariant refl
    (IsSound-feed _ _ _ c.args.bytes.now c.self.inside.journal.records _ c.in-Ok.ensures.ok (omega (arith, c.self.invariant.sound.tape_limit)) c.self.invariant.sound)
    (Feed_room_of_fields _ _ _ _ c.self.inside.journal.records _ _ _ refl c.if-self.false (omega (arith, c.self.invariant.sound.tape_limit)) c.in-Ok.ensures.ok)
    c.self.invariant.names c.self.invariant.recent
