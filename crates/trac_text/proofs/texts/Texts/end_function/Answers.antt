use Rattle.std.proofs.Common.{◌-◌, arith}
use Rattle.trac_text.proofs.Holding.{begun_here, ended_now, some_function}
use Rattle.trac_text.proofs.texts.Texts.end_function.Goals as goal

pub cut_function-requires-clause-place : goal.cut_function-requires-clause-place
cut_function-requires-clause-place g c = (begun_here (record { sound = c.self.invariant; view = c.self.view_is }) c.args.beginning c.requires.begins).innermost.place_within

pub cut_function-requires-clause-number : goal.cut_function-requires-clause-number
cut_function-requires-clause-number g c = omega (arith, (begun_here (record { sound = c.self.invariant; view = c.self.view_is }) c.args.beginning c.requires.begins).innermost.within)

pub overflow_sub-self : goal.overflow_sub-self
overflow_sub-self g c = some_function (record { sound = c.self.invariant; view = c.self.view_is }) c.args.beginning c.requires.begins

pub invariant_of-self : goal.invariant_of-self
invariant_of-self g c =
    let some = some_function (record { sound = c.self.invariant; view = c.self.view_is }) c.args.beginning c.requires.begins in
    (ended_now (record { sound = c.self.invariant; view = c.self.view_is }) c.args.beginning c.requires.closing c.requires.begins (omega (arith, some)) c.cut_function.ensures.text c.cut_function.ensures.marks).sound

pub returns : goal.returns
returns g c =
    let some = some_function (record { sound = c.self.invariant; view = c.self.view_is }) c.args.beginning c.requires.begins in
    (ended_now (record { sound = c.self.invariant; view = c.self.view_is }) c.args.beginning c.requires.closing c.requires.begins {k = c.self.inside.functions - 1} (omega (arith, some)) c.cut_function.ensures.text c.cut_function.ensures.marks).view
