use Rattle.std.proofs.Common.{◌≡◌, ℕ, List, Ok, sym, ap, subst, ◌∙◌}
use Rattle.std.specs.Str.{bytes_eq}
use Rattle.trac_rules.specs.declared.primitive.Computation.{Computation}
use Rattle.trac_rules.specs.Computing.{chosen, computed, octal_argument}
use Rattle.trac_rules.specs.Effect.{Effect, argument, gives}
use Rattle.trac_rules.specs.Number.{is_greater, numeral_of}
use Rattle.trac_rules.specs.Octal.{bits_of, complement, meet, union}
use Rattle.trac_rules.proofs.OctalTexts.{text_from_bits}
use Rattle.trac_change.specs.declared.change.UnnamedChange.TheVariants.{Keep}
use Rattle.trac_prims.specs.Effects.{IsDone}
use Rattle.trac_prims.proofs.OctalCalls.{gives_joined}
use Rattle.trac_prims.proofs.computing.compute.Goals as goal

pub returns-in-Equal : goal.returns-in-Equal
returns-in-Equal g c = λ storage.
    let same : c.eq.result ≡ bytes_eq (argument 1 c.args.args.now) (argument 2 c.args.args.now) =
    c.eq.ensures ∙ ap (λ (text : List ℕ). bytes_eq text c.get-in-Equal.result.now) c.get.ensures ∙ ap (bytes_eq (argument 1 c.args.args.now)) c.get-in-Equal.ensures in
    let said : computed c.args.computation c.args.width c.args.args.now storage ≡ gives c.choose.result.now storage =
    ap (λ (k : Computation). computed k c.args.width c.args.args.now storage) c.in-Equal.is
    ∙ ap (λ (text : List ℕ). gives text storage) (sym (c.choose.ensures ∙ ap (λ b. chosen b c.args.args.now) same)) in
    subst (λ (e : Effect). IsDone c.args.args.now storage (Ok e) c.args.made.now c.give.new.made Keep c.give.result) (sym said) (c.give.ensures c.args.args.now storage)

pub returns-in-Greater : goal.returns-in-Greater
returns-in-Greater g c = λ storage.
    let first : c.read_tail.result.numeral.now ≡ numeral_of (argument 1 c.args.args.now) = c.read_tail.ensures.numeral ∙ ap numeral_of c.get-in-Greater.ensures in
    let second : c.read_tail-in-Greater.result.numeral.now ≡ numeral_of (argument 2 c.args.args.now) = c.read_tail-in-Greater.ensures.numeral ∙ ap numeral_of c.get-in-Greater-2.ensures in
    let greater_is = c.greater.ensures ∙ ap (λ (text : List ℕ). is_greater text c.read_tail-in-Greater.result.numeral.now) first ∙ ap (is_greater (numeral_of (argument 1 c.args.args.now))) second in
    let said : computed c.args.computation c.args.width c.args.args.now storage ≡ gives c.choose-in-Greater.result.now storage =
    ap (λ (k : Computation). computed k c.args.width c.args.args.now storage) c.in-Greater.is
    ∙ ap (λ (text : List ℕ). gives text storage) (sym (c.choose-in-Greater.ensures ∙ ap (λ b. chosen b c.args.args.now) greater_is)) in
    subst (λ (e : Effect). IsDone c.args.args.now storage (Ok e) c.args.made.now c.give-in-Greater.new.made Keep c.give-in-Greater.result) (sym said) (c.give-in-Greater.ensures c.args.args.now storage)

pub returns-in-Calculate : goal.returns-in-Calculate
returns-in-Calculate g c = λ storage.
    subst (λ (k : Computation). IsDone c.args.args.now storage (Ok (computed k c.args.width c.args.args.now storage)) c.args.made.now c.calculate.new.made Keep c.calculate.result) (sym c.in-Calculate.is) (c.calculate.ensures storage)

pub returns-in_ok-union-in-Union : goal.returns-in_ok-union-in-Union
returns-in_ok-union-in-Union g c = λ storage.
    let said : computed c.args.computation c.args.width c.args.args.now storage ≡ gives c.as_slice.result.now storage =
    ap (λ (k : Computation). computed k c.args.width c.args.args.now storage) c.in-Union.is
    ∙ gives_joined union c.args.args.now c.in_ok-union-in-Union.field-0.items c.octal_at.result.now c.octal_at-in-Union.result.now storage c.in_ok-union-in-Union.ensures.octal c.in_ok-union-in-Union.ensures.bits c.octal_at.ensures.value c.octal_at-in-Union.ensures.value
    ∙ ap (λ (text : List ℕ). gives text storage) (sym c.as_slice.ensures.value) in
    subst (λ (e : Effect). IsDone c.args.args.now storage (Ok e) c.args.made.now c.give-in-Union.new.made Keep c.give-in-Union.result) (sym said) (c.give-in-Union.ensures c.args.args.now storage)

pub returns-in_ok-meet-in-Meet : goal.returns-in_ok-meet-in-Meet
returns-in_ok-meet-in-Meet g c = λ storage.
    let said : computed c.args.computation c.args.width c.args.args.now storage ≡ gives c.as_slice-in-Meet.result.now storage =
    ap (λ (k : Computation). computed k c.args.width c.args.args.now storage) c.in-Meet.is
    ∙ gives_joined meet c.args.args.now c.in_ok-meet-in-Meet.field-0.items c.octal_at-in-Meet.result.now c.octal_at-in-Meet-2.result.now storage c.in_ok-meet-in-Meet.ensures.octal c.in_ok-meet-in-Meet.ensures.bits c.octal_at-in-Meet.ensures.value c.octal_at-in-Meet-2.ensures.value
    ∙ ap (λ (text : List ℕ). gives text storage) (sym c.as_slice-in-Meet.ensures.value) in
    subst (λ (e : Effect). IsDone c.args.args.now storage (Ok e) c.args.made.now c.give-in-Meet.new.made Keep c.give-in-Meet.result) (sym said) (c.give-in-Meet.ensures c.args.args.now storage)

pub returns-in_ok-complement-in-Complement : goal.returns-in_ok-complement-in-Complement
returns-in_ok-complement-in-Complement g c = λ storage.
    let text = text_from_bits c.in_ok-complement-in-Complement.field-0.items (complement (octal_argument 1 c.args.args.now)) c.in_ok-complement-in-Complement.ensures.octal
    (c.in_ok-complement-in-Complement.ensures.bits ∙ ap (λ (text : List ℕ). complement (bits_of text)) c.octal_at-in-Complement.ensures.value) in
    let said : computed c.args.computation c.args.width c.args.args.now storage ≡ gives c.as_slice-in-Complement.result.now storage =
    ap (λ (k : Computation). computed k c.args.width c.args.args.now storage) c.in-Complement.is
    ∙ ap (λ (text : List ℕ). gives text storage) (sym text)
    ∙ ap (λ (text : List ℕ). gives text storage) (sym c.as_slice-in-Complement.ensures.value) in
    subst (λ (e : Effect). IsDone c.args.args.now storage (Ok e) c.args.made.now c.give-in-Complement.new.made Keep c.give-in-Complement.result) (sym said) (c.give-in-Complement.ensures c.args.args.now storage)

pub returns-in_ok-moved_of-in-Shift : goal.returns-in_ok-moved_of-in-Shift
returns-in_ok-moved_of-in-Shift g c = λ storage.
    let said : computed c.args.computation c.args.width c.args.args.now storage ≡ gives c.as_slice-in-Shift.result.now storage =
    ap (λ (k : Computation). computed k c.args.width c.args.args.now storage) c.in-Shift.is
    ∙ c.in_ok-moved_of-in-Shift.ensures.made storage
    ∙ ap (λ (text : List ℕ). gives text storage) (sym c.as_slice-in-Shift.ensures.value) in
    subst (λ (e : Effect). IsDone c.args.args.now storage (Ok e) c.args.made.now c.give-in-Shift.new.made Keep c.give-in-Shift.result) (sym said) (c.give-in-Shift.ensures c.args.args.now storage)

pub returns-in_ok-moved_of-in-Rotate : goal.returns-in_ok-moved_of-in-Rotate
returns-in_ok-moved_of-in-Rotate g c = λ storage.
    let said : computed c.args.computation c.args.width c.args.args.now storage ≡ gives c.as_slice-in-Rotate.result.now storage =
    ap (λ (k : Computation). computed k c.args.width c.args.args.now storage) c.in-Rotate.is
    ∙ c.in_ok-moved_of-in-Rotate.ensures.made storage
    ∙ ap (λ (text : List ℕ). gives text storage) (sym c.as_slice-in-Rotate.ensures.value) in
    subst (λ (e : Effect). IsDone c.args.args.now storage (Ok e) c.args.made.now c.give-in-Rotate.new.made Keep c.give-in-Rotate.result) (sym said) (c.give-in-Rotate.ensures c.args.args.now storage)
