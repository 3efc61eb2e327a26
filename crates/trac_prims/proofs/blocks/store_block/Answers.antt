use Rattle.std.proofs.Common.{◌≡◌, ℕ, List, ap, arith, drop, length, sym, true, ◌<◌, ◌≤◌, ◌∙◌, refl}
use Rattle.std.specs.Prelude.{Vec, decimal}
use Rattle.std.proofs.lemmas.List.{length-map}
use Rattle.trac_forms.specs.Stored.{storage_in}
use Rattle.trac_rules.specs.declared.limit.TheConstants.{BLOCK_LIMIT, FORM_COUNT_LIMIT}
use Rattle.trac_rules.specs.Blocks.{moved_out}
use Rattle.trac_rules.specs.Effect.{argument}
use Rattle.trac_rules.specs.Form.{defined}
use Rattle.trac_rules.specs.Handling.{without}
use Rattle.trac_rules.specs.Limits.{may_be_put}
use Rattle.trac_rules.specs.Undone.{names_in}
use Rattle.trac_change.specs.declared.change.UnnamedChange.TheVariants.{MoveIn}
use Rattle.trac_text.specs.Framing.{texts_of}
use Rattle.trac_prims.proofs.BlockPlans.{stored_so}
use Rattle.trac_prims.proofs.Changes.{moves_in}
use Rattle.trac_prims.proofs.Kept.{changed_so}
use Rattle.trac_prims.proofs.MovedOut.{fewer_held}
use Rattle.trac_prims.proofs.blocks.store_block.Goals as goal

pub may_stand-requires : goal.may_stand-requires
may_stand-requires g c =
    fewer_held c.as_slice.result.now c.in_ok-held.held.items c.after.result c.args.store.now.forms c.as_slice.ensures.value c.in_ok-held.ensures.made

pub returns-clause-outcome : goal.returns-clause-outcome
returns-clause-outcome g c = λ texts.
    let storage = storage_in c.args.store.now in
    let name = argument 1 c.args.args.now in
    let names = drop 2 c.args.args.now in
    let blocks = c.args.store.now.blocks in
    let held : texts_of c.in_ok-held.held.items ≡ names_in (moved_out names storage.forms) =
    c.in_ok-held.ensures.made ∙ ap (λ (ns : List (List ℕ)). names_in (moved_out ns storage.forms)) c.after.ensures in
    let slice : texts_of c.as_slice.result.now ≡ names_in (moved_out names storage.forms) =
    ap (λ (ts : List (Vec ℕ _)). texts_of ts) c.as_slice.ensures.value ∙ held in
    let few : length (texts_of c.in_ok-held.held.items) ≤ FORM_COUNT_LIMIT =
    omega (arith, length-map c.in_ok-held.held.items (λ text. text.items), c.in_ok-held.held.ok.0) in
    let more : length blocks < BLOCK_LIMIT = omega (arith, c.block_count-number.ensures.count) in
    let may : may_be_put name (defined (decimal (length blocks))) (without names storage.forms) ≡ true =
    ap (λ (n : List ℕ). may_be_put n (defined (decimal (length blocks))) (without names storage.forms)) (sym c.get.ensures)
    ∙ sym (c.if-not-may_stand.ensures names (length blocks) (omega (arith, more)) slice) in
    changed_so c.args.args.now storage texts (MoveIn c.in_ok-held.held c.in_ok-address.address)
    (stored_so name names storage (texts_of c.in_ok-held.held.items) c.in_ok-address.address held
    (c.in_ok-address.ensures.made ∙ ap (λ (n : ℕ). defined (decimal n)) c.block_count-number.ensures.count) few more may)
    refl

pub returns-clause-change : goal.returns-clause-change
returns-clause-change g c =
    let storage = storage_in c.args.store.now in
    let held : texts_of c.in_ok-held.held.items ≡ names_in (moved_out (drop 2 c.args.args.now) storage.forms) =
    c.in_ok-held.ensures.made ∙ ap (λ (ns : List (List ℕ)). names_in (moved_out ns storage.forms)) c.after.ensures in
    moves_in c.args.args.now storage c.in_ok-held.held c.in_ok-address.address held
