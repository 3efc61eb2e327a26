use Rattle.std.proofs.Common.{◌≡◌, length, refl, ap, subst, ◌∙◌, arith, MatchBool}
use Rattle.trac_rules.specs.declared.primitive.BlockAction.TheVariants.{StoreBlock}
use Rattle.trac_rules.specs.declared.primitive.Primitive.TheVariants.{HandleBlock}
use Rattle.trac_rules.specs.Effect.{argument}
use Rattle.trac_rules.specs.Performing.{primitive_of}
use Rattle.trac_follow_step.proofs.Staying.{held_carried}
use Rattle.trac_follow_step.proofs.PutTold.{stored_tells, unstored}
use Rattle.trac_follow_step.proofs.ValuesTold.{named_by}
use Rattle.trac_follow_step.proofs.called.of_block.Goals as goal

pub returns-then-number-count-clause-tells : goal.returns-then-number-count-clause-tells
returns-then-number-count-clause-tells g c = λ width after environment t item wide h lengths stands.
    held_carried c.args.before.now.state c.args.number c.args.name.now c.args.i
    (omega (arith, c.if-number-count.true, c.block_count-count.ensures.count, ap (λ stored. length stored.blocks) c.store.ensures)) environment t item h stands

pub returns-then-number-count-2-clause-tells : goal.returns-then-number-count-2-clause-tells
returns-then-number-count-2-clause-tells g c = λ width after environment t item wide h lengths stands.
    let call = c.requires.call in
    absurd (unstored environment c.args.before.now.state t call.0 h call.1 (primitive_of (argument 0 call.0.arguments)) refl c.args.number c.args.name.now c.args.i item
    (omega (arith, c.if-number-count-2.true, c.block_count-count.ensures.count, ap (λ stored. length stored.blocks) c.store.ensures))
    (λ stores last. absurd (omega (arith, last, c.if-number-count-2.true, c.block_count-count.ensures.count, ap (λ stored. length stored.blocks) c.store.ensures))) stands)

pub returns-then-stores_block-clause-tells : goal.returns-then-stores_block-clause-tells
returns-then-stores_block-clause-tells g c = λ width after environment t item wide h lengths stands.
    let call = c.requires.call in
    stored_tells environment c.args.before.now.state t call.0 h call.1 c.args.number c.args.name.now c.args.i item
    (named_by c.args.before.now.state c.args.arguments.now call c.primitive_named.result c.get.result.now c.get.ensures c.primitive_named.ensures
    ∙ subst (λ b. MatchBool b (c.primitive_named.result ≡ HandleBlock StoreBlock) (c.primitive_named.result ≡ HandleBlock StoreBlock → ⊥)) c.if-stores_block.true c.stores_block.ensures)
    (omega (arith, c.if-number-count.false, c.if-number-count-2.false, c.block_count-count.ensures.count, ap (λ stored. length stored.blocks) c.store.ensures)) stands

pub returns-clause-tells : goal.returns-clause-tells
returns-clause-tells g c = λ width after environment t item wide h lengths stands.
    let call = c.requires.call in
    absurd (unstored environment c.args.before.now.state t call.0 h call.1 c.primitive_named.result
    (named_by c.args.before.now.state c.args.arguments.now call c.primitive_named.result c.get.result.now c.get.ensures c.primitive_named.ensures)
    c.args.number c.args.name.now c.args.i item
    (omega (arith, c.if-number-count.false, c.block_count-count.ensures.count, ap (λ stored. length stored.blocks) c.store.ensures))
    (λ stores last.
    subst (λ b. MatchBool b (c.primitive_named.result ≡ HandleBlock StoreBlock) (c.primitive_named.result ≡ HandleBlock StoreBlock → ⊥)) c.if-stores_block.false c.stores_block.ensures stores) stands)
