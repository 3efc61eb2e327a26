-- One item more is read; a gap stands after as many bytes as were read since the gap before it.
use Rattle.std.proofs.Common.{◌≡◌, ◌+◌, ◌-◌, ◌++◌, ◌<◌, ◌≤◌, ◌∷◌, [], ℕ, List, length, take, refl, sym, ap, subst, ◌∙◌, arith}
use Rattle.std.specs.Prelude.{Some, slice_get}
use Rattle.std.specs.List.{All}
use Rattle.std.proofs.lemmas.List.{length-take, take_more}
use Rattle.std.proofs.lemmas.Option.{get_or_from_slice_get}
use Rattle.trac_rules.specs.declared.item.Item.{Item}
use Rattle.trac_rules.specs.declared.item.Item.TheVariants.{Byte}
use Rattle.trac_rules.specs.declared.limit.TheConstants.{FORM_LIMIT}
use Rattle.trac_rules.specs.Form.{IsWide, all_items, extent, width_of}
use Rattle.trac_rules.proofs.Cutting.{count_within_extent}
use Rattle.trac_items.specs.declared.run_gaps.RunGap.{RunGap}
use Rattle.trac_items.proofs.RunGaps.{IsRead, byte_read, gap_read}
use Rattle.trac_forms.proofs.form.Form.take_apart.Goals as goal

next : (items : List Item) (i : ℕ) (item : Item) → i < length items → Some item ≡ slice_get items i → take (i + 1) items ≡ take i items ++ item ∷ []
next items i item l is = take_more items i (Byte 0) l ∙ ap (λ (x : Item). take i items ++ x ∷ []) (get_or_from_slice_get items i item (Byte 0) (sym is))

fits : (items : List Item) (i n : ℕ) → n ≤ length (take i items) → extent items ≤ FORM_LIMIT → All IsWide items → n ≤ FORM_LIMIT
fits items i n short within wide = omega (arith, short, within, length-take i items, count_within_extent items wide)

pub loop-i-preserved-in-Byte : goal.loop-i-preserved-in-Byte
loop-i-preserved-in-Byte g c =
    let items = all_items c.args.self.now in
    let more = next items c.loop-i.i c.in-Some.item (omega (arith, c.len-i-end.ensures.len)) c.in-Some.ensures ∙ ap (λ (x : Item). take c.loop-i.i items ++ x ∷ []) c.in-Byte.is in
    subst (λ (xs : List Item). IsRead xs c.push.new.self.items c.loop-i.gaps.items c.loop-i.before) (sym more)
    (byte_read (take c.loop-i.i items) c.loop-i.run.items c.loop-i.gaps.items c.loop-i.before c.loop-i.invariant c.in-Byte.b c.push.new.self.items c.in_ok-push-in-Byte.ensures.items)

pub overflow_cast-gap : goal.overflow_cast-gap
overflow_cast-gap g c =
    let most = fits (all_items c.args.self.now) c.loop-i.i (length c.loop-i.run.items) c.loop-i.invariant.short c.len-i-end.ensures.within c.len-i-end.ensures.wide in
    omega (arith, most, c.len.ensures, c.loop-i.run.ok.0)

pub loop-i-preserved : goal.loop-i-preserved
loop-i-preserved g c =
    let items = all_items c.args.self.now in
    let l : c.loop-i.i < length items = omega (arith, c.len-i-end.ensures.len) in
    let more = next items c.loop-i.i c.in-Some.item l c.in-Some.ensures ∙ ap (λ (x : Item). take c.loop-i.i items ++ x ∷ []) c.in-Gap.is in
    let gap : RunGap = record { passed = c.len.result - c.loop-i.before; taken = 0; width = c.in-Gap.width; ordinal = c.in-Gap.ordinal } in
    let wide : 1 ≤ c.in-Gap.width =
    omega (arith, c.len-i-end.ensures.wide c.loop-i.i (Byte 0) l, ap width_of (get_or_from_slice_get items c.loop-i.i c.in-Some.item (Byte 0) (sym c.in-Some.ensures) ∙ c.in-Gap.is)) in
    let count : length c.loop-i.run.items ≡ c.len-before.result = omega (arith, c.len-before.ensures, c.loop-i.run.ok.0) in
    let at = gap_read (take c.loop-i.i items) c.loop-i.run.items c.loop-i.gaps.items c.loop-i.before c.loop-i.invariant gap c.push-in-Gap.new.self.items (wide, refl)
    (omega (arith, c.len.ensures, c.loop-i.run.ok.0, c.loop-i.invariant.within)) c.in_ok-push-in-Gap.ensures.items in
    subst (λ n. IsRead (take (c.loop-i.i + 1) items) c.loop-i.run.items c.push-in-Gap.new.self.items n) count
    (subst (λ (xs : List Item). IsRead xs c.loop-i.run.items c.push-in-Gap.new.self.items (length c.loop-i.run.items)) (sym more) at)

pub returns-clause-fits : goal.returns-clause-fits
returns-clause-fits g c = fits (all_items c.args.self.now) c.loop-i.i (length c.loop-i.run.items) c.loop-i.invariant.short c.len-i-end.ensures.within c.len-i-end.ensures.wide
