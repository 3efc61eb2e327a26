use Rattle.std.proofs.Common.{List, ℕ, ◌∷◌, [], length, ap, arith}
use Rattle.std.proofs.lemmas.List.{length-append, length-map}
use Rattle.std.specs.List.{concat}
use Rattle.trac_text.specs.Pieces.{Arguments, all_texts}
use Rattle.trac_text.proofs.Joined.{total-joined}
use Rattle.trac_journal.proofs.emptied_weight.weigh_pieces.Goals as goal

pub returns : goal.returns
returns g c =
    let a = c.args.arguments.now in
    omega (
      arith,
      ap (λ (text : List ℕ). length text) c.text.ensures,
      ap (λ (lengths : List ℕ). length lengths) c.commas.ensures,
      ap (λ (lent : Arguments). length (concat (all_texts lent))) c.lend-lent.ensures,
      ap (λ (lent : Arguments). length lent.finished) c.lend-lent.ensures,
      length-map c.lend-lent.result.finished (λ (text : List ℕ). length text),
      total-joined (all_texts a),
      length-append a.finished (a.gathered ∷ []),
    )
