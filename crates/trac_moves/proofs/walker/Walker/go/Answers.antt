use Rattle.std.proofs.Common.{◌≡◌, ◌+◌, ◌∙◌, ap, arith, false, length, not, sym, true, ⊎_elim}
use Rattle.std.specs.Option.{is_some}
use Rattle.std.proofs.lemmas.Bool.{false≢true}
use Rattle.trac_moves.specs.declared.walker.Walker.{Walker}
use Rattle.trac_moves.proofs.Kept.{step_count}
use Rattle.trac_moves.proofs.Standing.{gone_on, moves_as, moves_none}
use Rattle.trac_moves.proofs.walker.Walker.go.Goals as goal

pub loop-left-init : goal.loop-left-init
loop-left-init g c = (omega arith, moves_as _ _ (moves_none c.args.self.now) (λ x y same. omega (arith, same)))

pub loop-left-preserved : goal.loop-left-preserved
loop-left-preserved g c = (
  omega (arith, c.saturating_sub-left.ensures, c.loop-left.invariant.0),
  moves_as _ _
      (gone_on c.args.most c.loop-left.left c.walk_on-walk.result.done _ _ _ _ _ c.loop-left.invariant.0 (omega (arith, c.walk_on-walk.ensures.within, c.min-most.ensures)) c.loop-left.invariant.1
      c.make_room.ensures.moved c.walk_on-walk.ensures.walked c.goes_on.ensures.moved)
      (λ x y same. omega (arith, same, c.saturating_sub-left.ensures)),
)

pub returns-then-not-goes_on-clause-moved : goal.returns-then-not-goes_on-clause-moved
returns-then-not-goes_on-clause-moved g c =
    moves_as _ _
    (gone_on c.args.most c.loop-left.left c.walk_on-walk.result.done _ _ _ _ _ c.loop-left.invariant.0 (omega (arith, c.walk_on-walk.ensures.within, c.min-most.ensures)) c.loop-left.invariant.1
    c.make_room.ensures.moved c.walk_on-walk.ensures.walked c.goes_on.ensures.moved)
    (λ x y same. (omega (arith, same), omega (arith, same)))

pub returns-then-not-goes_on-clause-all : goal.returns-then-not-goes_on-clause-all
returns-then-not-goes_on-clause-all g c none =
    let lacks : c.is_some.result ≡ false = c.is_some.ensures ∙ ap is_some none in
    moves_as _ _
    (gone_on c.args.most c.loop-left.left c.walk_on-walk.result.done _ _ _ _ _ c.loop-left.invariant.0 (omega (arith, c.walk_on-walk.ensures.within, c.min-most.ensures)) c.loop-left.invariant.1
    c.make_room.ensures.moved c.walk_on-walk.ensures.walked c.goes_on.ensures.moved)
    (λ x y same. (
      omega (arith, same),
      omega (arith, same),
      λ why.
          let on : c.goes_on.result ≡ true = (c.goes_on.ensures.ended why).0 ∙ ap not lacks in
          absurd (false≢true (sym c.if-not-goes_on.true ∙ on)),
    ))

pub returns-in-None-clause-moved : goal.returns-in-None-clause-moved
returns-in-None-clause-moved g c = moves_as _ _ c.loop-left.invariant.1 (λ x y same. (omega (arith, same), omega (arith, same)))

pub returns-in-None-clause-all : goal.returns-in-None-clause-all
returns-in-None-clause-all g c none =
    moves_as _ _ c.loop-left.invariant.1 (λ x y same. (omega (arith, same), omega (arith, same), λ why. omega (arith, same, c.loop-left-test.false)))

pub returns-in-Some-clause-moved : goal.returns-in-Some-clause-moved
returns-in-Some-clause-moved g c = moves_as _ _ c.loop-left.invariant.1 (λ x y same. (omega (arith, same), omega (arith, same)))

pub returns-in-Some-clause-all : goal.returns-in-Some-clause-all
returns-in-Some-clause-all g c none = moves_as _ _ c.loop-left.invariant.1 (λ x y same. (omega (arith, same), omega (arith, same), λ why. absurd (cc)))

pub loop-left-smaller : goal.loop-left-smaller
loop-left-smaller g c =
    let room = c.make_room.ensures.kept in
    let walked : length c.walk_on-walk.new.session.earlier ≡ length c.make_room.new.self.window.session.earlier + c.walk_on-walk.result.done =
    step_count _ _ _ c.walk_on-walk.ensures.walked in
    ⊎_elim
    (λ none.
    let some = c.walk_on-walk.ensures.some none (omega (arith, c.loop-left-test.true, c.max.ensures, c.min-most.ensures)) in
    let same : length c.goes_on.new.self.window.session.earlier ≡ length c.walk_on-walk.new.session.earlier =
    ap (λ (w : Walker _). length w.window.session.earlier) (c.goes_on.ensures.ended none).1 in
    omega (arith, room, walked, some, same, c.walk_on-walk.ensures.within, c.min-most.ensures, c.saturating_sub-left.ensures))
    (λ less. omega (arith, room, walked, less, c.walk_on-walk.ensures.within, c.min-most.ensures, c.saturating_sub-left.ensures))
    (c.goes_on.ensures.less c.if-not-goes_on.false)
