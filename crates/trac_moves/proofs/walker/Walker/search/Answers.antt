use Rattle.std.proofs.Common.{ap, arith}
use Rattle.trac_moves.proofs.Searched.{kept_at, near_at, near_far}
use Rattle.trac_moves.proofs.SearchedAnew.{moves_further, moves_met, moves_unmet}
use Rattle.trac_moves.proofs.walker.Walker.search.Goals as goal

pub returns-in-Met-clause-moved : goal.returns-in-Met-clause-moved
returns-in-Met-clause-moved g c = moves_met c.args.most c.args.self.now c.search_near.new.session c.in-Met.ensures.gone

pub returns-in-Met-clause-near : goal.returns-in-Met-clause-near
returns-in-Met-clause-near g c = near_at (omega arith) c.in-Met.ensures.near

pub returns-in-Met-clause-kept : goal.returns-in-Met-clause-kept
returns-in-Met-clause-kept g c = kept_at (omega arith) c.in-Met.ensures.kept

pub returns-in-Unmet-JournalFull-default-clause-moved : goal.returns-in-Unmet-JournalFull-default-clause-moved
returns-in-Unmet-JournalFull-default-clause-moved g c =
    moves_further c.search_far.result _ c.args.most c.args.self.now c.search_far.new.self c.search_near.new.session c.in-Unmet-JournalFull-default.ensures.stayed
    c.in-Unmet-JournalFull-default.ensures.gone c.search_far.ensures.moved

pub returns-in-Unmet-JournalFull-default-clause-near : goal.returns-in-Unmet-JournalFull-default-clause-near
returns-in-Unmet-JournalFull-default-clause-near g c = λ light.
    near_far c.search_far.result c.search_far.new.self.window.session c.in-Unmet-JournalFull-default.field-0-is (near_at (omega arith) c.in-Unmet-JournalFull-default.ensures.near light)

pub returns-in-Unmet-JournalFull-default-clause-kept : goal.returns-in-Unmet-JournalFull-default-clause-kept
returns-in-Unmet-JournalFull-default-clause-kept g c = λ light.
    near_far c.search_far.result c.search_far.new.self.window.session c.in-Unmet-JournalFull-default.field-0-is
    (kept_at (omega arith) c.in-Unmet-JournalFull-default.ensures.kept light)

pub returns-in-Unmet : goal.returns-in-Unmet
returns-in-Unmet g c = record {
  moved = moves_unmet c.in-Unmet.refusal c.in-Unmet.done c.args.most c.args.self.now c.search_near.new.session c.in-Unmet.ensures.stayed;
  stayed = ap (λ (session : _). record c.args.self.now.window { session = session }) c.in-Unmet.ensures.stayed;
  met = λ met. absurd (cc);
  near = near_at (omega arith) c.in-Unmet.ensures.near;
  kept = kept_at (omega arith) c.in-Unmet.ensures.kept;
}
