use Rattle.std.proofs.Common.{arith}
use Rattle.trac_text.specs.Holding.{shown_texts}
use Rattle.trac_text.proofs.CallsBack.{back_is, called_now, has_value, mark_room, text_room}
use Rattle.trac_text.proofs.Holding.{depth_fits}
use Rattle.trac_text.proofs.texts.Texts.begin_again.Goals as goal

pub put_call-requires : goal.put_call-requires
put_call-requires g c = record {
  value = has_value (record { sound = c.self.invariant; view = c.self.view_is }) c.args.kind c.args.arguments.now c.args.scanned c.args.n c.requires;
  text_room = text_room (record { sound = c.self.invariant; view = c.self.view_is }) c.args.kind c.args.arguments.now c.args.scanned c.args.n c.requires;
  mark_room = mark_room (record { sound = c.self.invariant; view = c.self.view_is }) c.args.kind c.args.arguments.now c.args.scanned c.args.n c.requires;
}

pub overflow_add-self : goal.overflow_add-self
overflow_add-self g c = omega (arith, depth_fits (record { sound = c.self.invariant; view = c.self.view_is }))

pub invariant_of-self : goal.invariant_of-self
invariant_of-self g c = (called_now (record { sound = c.self.invariant; view = c.self.view_is }) c.args.kind c.args.arguments.now c.args.scanned c.args.n c.requires c.put_call.ensures.text c.put_call.ensures.marks).sound

pub returns : goal.returns
returns g c =
    let ns = g.M.TwoEnds.ends c.put_call.new.marks in
    let both = back_is (record { sound = c.self.invariant; view = c.self.view_is }) c.args.kind c.args.arguments.now c.args.scanned c.args.n c.requires (shown_texts (g.E.TwoEnds.ends c.put_call.new.text) ns) (called_now (record { sound = c.self.invariant; view = c.self.view_is }) c.args.kind c.args.arguments.now c.args.scanned c.args.n c.requires {ns = g.M.TwoEnds.ends c.put_call.new.marks} c.put_call.ensures.text c.put_call.ensures.marks).view in
    record { back = both.0; rooms = both.1 }
