-- The bytes are those of all arguments, and the lengths those of all but the last.
use Rattle.std.proofs.Common.{◌≡◌, ◌≤◌, ℕ, List, ◌++◌, length, map, take, ap, ◌∙◌, arith}
use Rattle.std.specs.List.{concat, sum}
use Rattle.trac_text.specs.Pieces.{all_texts, cut_at}
use Rattle.trac_text.proofs.Joined.{cut-joined, lengths_within, text_within}
use Rattle.trac_text.proofs.pieces.Pieces.of.Goals as goal

pub overflow_cast-get : goal.overflow_cast-get
overflow_cast-get g c =
    let texts = c.args.arguments.now in
    omega (
      arith,
      c.requires,
      ap (λ (text : List ℕ). length text) c.get.ensures,
      text_within texts c.loop-i.i,
    )

pub invariant_of-result : goal.invariant_of-result
invariant_of-result g c =
    let texts = c.args.arguments.now in
    let bytes : c.extend_from_slice.new.self.items ≡ concat texts =
    c.in_ok-extend_from_slice.ensures.items ∙ ap (λ (none : List ℕ). none ++ c.joined-joined.result.now) c.in_ok-text.ensures.items ∙ c.joined-joined.ensures in
    let within : sum (map length (take c.loop-i.i texts)) ≤ length (concat texts) = lengths_within texts c.loop-i.i in
    rw (c.loop-i.invariant.so_far, bytes) within

pub returns-clause-same : goal.returns-clause-same
returns-clause-same g c =
    let texts = c.args.arguments.now in
    let bytes : c.extend_from_slice.new.self.items ≡ concat texts =
    c.in_ok-extend_from_slice.ensures.items ∙ ap (λ (none : List ℕ). none ++ c.joined-joined.result.now) c.in_ok-text.ensures.items ∙ c.joined-joined.ensures in
    (λ i. all_texts (cut_at (c.loop-i.invariant.so_far i) (bytes i)))
    ∙ cut-joined texts c.loop-i.i (omega (arith, c.comma_count-count.ensures))
