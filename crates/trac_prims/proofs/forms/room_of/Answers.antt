use Rattle.std.proofs.Common.{◌≡◌, ℕ, ◌+◌, ◌-◌, ◌*◌, ◌≤◌, List, length, drop, ap, subst, arith}
use Rattle.std.specs.List.{concat}
use Rattle.std.proofs.lemmas.List.{length-append}
use Rattle.trac_rules.specs.declared.limit.TheConstants.{TEXT_LIMIT}
use Rattle.trac_prims.proofs.ValueLengths.{all_items_give, later}
use Rattle.trac_prims.proofs.forms.room_of.Goals as goal

pub returns-then-saturating_mul-le-TEXT_LIMIT : goal.returns-then-saturating_mul-le-TEXT_LIMIT
returns-then-saturating_mul-le-TEXT_LIMIT g c =
    let form = c.args.form.now in
    let bytes = length c.joined.result.now in
    let count : c.len.result - c.pointer.result ≡ length form.after = omega (arith, c.len.ensures.len, c.pointer.ensures, length-append form.before form.after) in
    let few : (c.len.result - c.pointer.result) * (bytes + 1) ≤ TEXT_LIMIT = omega (arith, c.saturating_mul.ensures, c.if-saturating_mul-le-TEXT_LIMIT.true) in
    let within : length (concat (drop 2 c.args.args.now)) ≤ bytes = omega (arith, later 2 c.args.args.now, ap (λ (text : List ℕ). length text) c.joined.ensures) in
    omega (arith, all_items_give (drop 2 c.args.args.now) bytes within form.after, subst (λ (n : ℕ). n * (bytes + 1) ≤ TEXT_LIMIT) count few)
