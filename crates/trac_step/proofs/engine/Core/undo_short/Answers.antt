use Rattle.std.proofs.Common.{subst, sym}
use Rattle.trac_rules.specs.Records.{restored}
use Rattle.trac_text.specs.Ruled.{said_by}
use Rattle.trac_step.specs.Layout.{Shown}
use Rattle.trac_step.specs.Room.{IsNoLess}
use Rattle.trac_step.proofs.Lifting.{can_hold, goes_back, only_texts, short_lifts}
use Rattle.trac_step.proofs.Rooms.{no_less_state}
use Rattle.trac_step.proofs.ScanningBack.{before_is_restored, can_show_before}
use Rattle.trac_step.proofs.engine.Core.undo_short.Goals as goal

pub take_back-requires : goal.take_back-requires
take_back-requires g c = can_hold c.self.view_is (restored (said_by c.args.short)) (short_lifts c.args.short) (can_show_before (said_by c.args.short) c.args.self.now c.args.self.now.state c.requires)

pub returns : goal.returns
returns g c =
    let back = goes_back c.self.view_is (restored (said_by c.args.short)) (short_lifts c.args.short) c.take_back.new.self c.take_back.ensures.back in
    let same = only_texts c.self.view_is c.take_back.new.self c.take_back.ensures.rooms in
    record {
      state = before_is_restored (said_by c.args.short) c.args.self.now c.args.self.now.state _ c.requires back;
      room = subst (λ (m : Shown). IsNoLess c.args.self.now m) (sym same) (no_less_state c.args.self.now _);
    }
