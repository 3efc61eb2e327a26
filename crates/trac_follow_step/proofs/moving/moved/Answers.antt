use Rattle.std.proofs.Common.{◌≡◌, ℕ, ◌+◌, length, true, refl, ap, arith}
use Rattle.trac_rules.specs.Scanning.{front_of}
use Rattle.trac_origins.specs.Lengths.{is_outside, moves_bytes}
use Rattle.trac_follow_step.specs.Places.{place_of}
use Rattle.trac_follow_step.specs.declared.place.Place as code_place
use Rattle.trac_follow_step.proofs.Scanned.{carried_within, gathered_by, new_moved, new_so_far, stays_carried}
use Rattle.trac_follow_step.proofs.moving.moved.Goals as goal

outside : (p : code_place.Place) → ((i : ℕ) → p ≡ code_place.TheVariants.Active i → ⊥) → is_outside (place_of p) ≡ true
outside (code_place.TheVariants.Active i) other = absurd (other i refl)
outside p other = refl

pub returns-then-stands-clause-tells : goal.returns-then-stands-clause-tells
returns-then-stands-clause-tells g c = λ environment t item h is left stands.
    let there = c.stands.ensures.there c.if-stands.true in
    stays_carried environment c.args.before.now.state t (place_of c.args.place) there.0 item is (outside c.args.place c.in_default.not-Active) there.1 stands

pub returns-in_default-first_moved_at-clause-tells : goal.returns-in_default-first_moved_at-clause-tells
returns-in_default-first_moved_at-clause-tells g c = λ environment t item h is left stands.
    let new = new_moved environment c.args.before.now.state t (place_of c.args.place) item h is (outside c.args.place c.in_default.not-Active) (c.stands.ensures.bare c.if-stands.false) stands in
    let moves : moves_bytes (front_of c.args.before.now.state.active) ≡ true = new.0 in
    let still = c.in_default-first_moved_at.ensures.moves in
    let same = ap (λ text. moves_bytes (front_of text)) c.active-2.ensures in
    absurd (cc)

pub returns-then-n-active-clause-tells : goal.returns-then-n-active-clause-tells
returns-then-n-active-clause-tells g c = λ environment t item h is left stands.
    let s = c.args.before.now.state in
    let p = place_of c.args.place in
    let new = new_moved environment s t p item h is (outside c.args.place c.in_default.not-Active) (c.stands.ensures.bare c.if-stands.false) stands in
    let at = new_so_far s p c.depth.result c.past_current-n.result c.depth.ensures new.1 c.past_current-n.ensures in
    let carried = gathered_by environment s t p c.past_current-n.result c.in-Some.first c.active-2.result.now item is c.active-2.ensures c.in-Some.ensures.moves at stands in
    absurd (omega (arith, carried_within environment s t p (c.in-Some.first + c.past_current-n.result) item h stands carried, c.if-n-active.true, ap (λ text. length text) c.active-3.ensures))

pub returns-clause-tells : goal.returns-clause-tells
returns-clause-tells g c = λ environment t item h is left stands.
    let s = c.args.before.now.state in
    let p = place_of c.args.place in
    let new = new_moved environment s t p item h is (outside c.args.place c.in_default.not-Active) (c.stands.ensures.bare c.if-stands.false) stands in
    let at = new_so_far s p c.depth.result c.past_current-n.result c.depth.ensures new.1 c.past_current-n.ensures in
    gathered_by environment s t p c.past_current-n.result c.in-Some.first c.active-2.result.now item is c.active-2.ensures c.in-Some.ensures.moves at stands
