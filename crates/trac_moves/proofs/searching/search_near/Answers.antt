use Rattle.trac_moves.proofs.Searched.{near_met, near_unmet}
use Rattle.trac_moves.proofs.searching.search_near.Goals as goal

pub returns-in_default-clause-gone : goal.returns-in_default-clause-gone
returns-in_default-clause-gone g c = (c.walk_near-walk.result.done, c.walk_near-walk.ensures.within, c.walk_near-walk.ensures.walked)

pub returns-in_default-clause-near : goal.returns-in_default-clause-near
returns-in_default-clause-near g c = λ light. near_met c.walk_near-walk.result.done (c.walk_near-walk.ensures.near light) c.in_default.is

pub returns-in_default-clause-kept : goal.returns-in_default-clause-kept
returns-in_default-clause-kept g c = λ light. near_met c.walk_near-walk.result.done (c.walk_near-walk.ensures.kept light) c.in_default.is

pub returns-clause-gone : goal.returns-clause-gone
returns-clause-gone g c = c.walk_near-walk.ensures.within

pub returns-clause-near : goal.returns-clause-near
returns-clause-near g c = λ light. near_unmet c.walk_near-walk.result.done c.in-Some.refusal c.back.new.self (c.walk_near-walk.ensures.near light) c.in-Some.is

pub returns-clause-kept : goal.returns-clause-kept
returns-clause-kept g c = λ light. near_unmet c.walk_near-walk.result.done c.in-Some.refusal c.back.new.self (c.walk_near-walk.ensures.kept light) c.in-Some.is
