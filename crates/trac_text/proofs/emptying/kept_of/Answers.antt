-- The innermost function that was left is taken out.
use Rattle.std.proofs.Common.{◌≡◌, ◌∷◌, length, sym, ap, ◌∙◌, arith}
use Rattle.std.proofs.lemmas.List.{length_push}
use Rattle.trac_rules.specs.Limits.{argument_bytes}
use Rattle.trac_text.specs.Neutral.{MarkedText, neutral_of}
use Rattle.trac_text.specs.Pieces.{frame_in}
use Rattle.trac_text.proofs.TakenOut.{one_more, same_frame, sizes_of}
use Rattle.trac_text.proofs.emptying.kept_of.Goals as goal

pub of-requires : goal.of-requires
of-requires g c =
    let inner = c.in-Some.ensures in
    omega (
      arith,
      (sizes_of inner.frame c.in-Some.innermost.arguments inner.arguments_are).1,
      ap argument_bytes inner.frames_are,
      c.loop-innermost.invariant.fewer,
      c.requires,
    )

pub loop-innermost-preserved : goal.loop-innermost-preserved
loop-innermost-preserved g c =
    let inner = c.in-Some.ensures in
    let taken = c.loop-innermost.functions.items in
    let frames = (neutral_of c.loop-innermost.rest).frames in
    let rest = (neutral_of c.before-rest.result).frames in
    let kind = c.in-Some.innermost.kind in
    let arguments = c.in_ok-arguments.arguments in
    let same : inner.frame ≡ frame_in (kind, arguments) = same_frame inner.frame kind arguments inner.kind_is (inner.arguments_are ∙ sym c.in_ok-arguments.ensures.same) in
    let first : frames ≡ inner.frame ∷ rest =
    inner.frames_are ∙ ap (λ (m : MarkedText). inner.frame ∷ (neutral_of m).frames) (sym c.before-rest.ensures) in
    record {
      all = one_more taken c.push_reserved.new.self.items frames rest (neutral_of c.args.text).frames inner.frame kind arguments c.push_reserved.ensures.items first same c.loop-innermost.invariant.all;
      places = omega (arith, ap length first, ap length c.push_reserved.ensures.items, length_push taken (kind, arguments), c.push_reserved.ensures.capacity, c.loop-innermost.invariant.places);
      fewer = omega (arith, ap argument_bytes first, c.loop-innermost.invariant.fewer);
    }

pub returns-clause-base : goal.returns-clause-base
returns-clause-base g c = c.in_ok-base.ensures.items ∙ c.base.ensures
