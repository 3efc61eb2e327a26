use Rattle.std.proofs.Common.{◌≡◌, ◌+◌, ◌-◌, ◌<◌, ◌≤◌, ℕ, length, drop, get_or, refl, sym, ap, ◌∙◌, subst, List, arith}
use Rattle.std.specs.Prelude.{Some}
use Rattle.trac_rules.specs.declared.kind.Kind.{Kind}
use Rattle.trac_text.specs.declared.mark.Mark.{Mark}
use Rattle.trac_text.specs.Cuts.{AreArguments, AreCuts, BeginsFunction, cut, no_mark}
use Rattle.trac_text.specs.Neutral.{MarkedText}
use Rattle.trac_text.proofs.Ending.{cuts_after, is_innermost, no_function}
use Rattle.trac_text.proofs.frames.innermost_in.Goals as goal

-- the last mark that begins a function
last_begins : (marks : List Mark) (number : ℕ) (kind : Kind) → 0 < number → number ≤ length marks → (get_or marks (number - 1) no_mark).frame ≡ Some kind → AreArguments (drop number marks) →
    BeginsFunction marks (number - 1) kind
last_begins marks number kind some within is after =
    let same : number ≡ number - 1 + 1 = omega arith in
    record { within = omega arith; begins = is; after = subst (λ (n : ℕ). AreArguments (drop n marks)) same after }

pub new-requires : goal.new-requires
new-requires c =
    let m : MarkedText = record { text = c.args.text.now; marks = c.args.marks.now } in
    let begins = last_begins m.marks c.loop-number.number c.in-Some.kind c.loop-number-test.true c.loop-number.invariant.within c.in-Some.is c.loop-number.invariant.after in
    let place : ℕ = (get_or m.marks (c.loop-number.number - 1) no_mark).place in
    subst (λ (ms : List Mark). AreCuts place ms (length m.text)) (sym c.split_at.ensures.back) (cuts_after m (c.loop-number.number - 1) c.in-Some.kind c.requires begins)

pub returns-in-Some : goal.returns-in-Some
returns-in-Some c =
    let m : MarkedText = record { text = c.args.text.now; marks = c.args.marks.now } in
    let begins = last_begins m.marks c.loop-number.number c.in-Some.kind c.loop-number-test.true c.loop-number.invariant.within c.in-Some.is c.loop-number.invariant.after in
    let place : ℕ = (get_or m.marks (c.loop-number.number - 1) no_mark).place in
    is_innermost m (c.loop-number.number - 1) c.in-Some.kind c.requires begins place c.new.result refl (c.new.ensures ∙ ap (λ (ms : List Mark). cut place ms m.text) c.split_at.ensures.back)

pub returns : goal.returns
returns c =
    let none : c.loop-number.number ≡ 0 = omega arith in
    no_function (record { text = c.args.text.now; marks = c.args.marks.now }) c.requires (subst (λ (n : ℕ). AreArguments (drop n c.args.marks.now)) none c.loop-number.invariant.after)
