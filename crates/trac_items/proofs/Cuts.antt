-- What a search for a text in a run says of the run's parts.
use Rattle.std.proofs.Common.{◌≡◌, ℕ, ◌+◌, ◌<◌, ◌≤◌, List, [], ◌∷◌, ◌++◌, length, take, drop, sym, ap, subst, ◌∙◌, arith, ⊎_elim}
use Rattle.std.specs.Prelude.{None, Some}
use Rattle.std.proofs.lemmas.Bool.{cases_lt}
use Rattle.std.proofs.lemmas.List.{take-append-drop, length-append, length-take-le, get_or-append-add, get_or_append_left}
use Rattle.std.proofs.lemmas.List.Prefix.{at_from_reads}
use Rattle.memchr.specs.Find.{OccursAt, FindsNeedle}
use Rattle.trac_rules.specs.declared.item.Item.TheVariants.{Gap}
use Rattle.trac_rules.specs.Form.{as_items}
use Rattle.trac_rules.specs.Segmenting.{part}
use Rattle.trac_rules.proofs.Cutting.{part_found, part_without}

-- a text occurs after what is before it
occurs_after : (front text back : List ℕ) → OccursAt (front ++ (text ++ back)) text (length front)
occurs_after front text back = record {
  fits = omega (arith, length-append front (text ++ back), length-append text back);
  reads = λ j l. get_or-append-add front (text ++ back) j 0 ∙ get_or_append_left text back 0 j l;
}

pub occurs_in : (run front text back : List ℕ) → run ≡ front ++ (text ++ back) → OccursAt run text (length front)
occurs_in run front text back e = subst (λ r. OccursAt r text (length front)) (sym e) (occurs_after front text back)

-- a run splits where a text occurs
pub split_at : (run text : List ℕ) (place : ℕ) → OccursAt run text place → run ≡ take place run ++ (text ++ drop (place + length text) run)
split_at run text place h = sym (take-append-drop place run) ∙ ap (λ r. take place run ++ r) (at_from_reads 0 run text place h.fits h.reads)

-- the first place that a search finds is cut
pub part_some : (k : ℕ) (text run : List ℕ) (place : ℕ) → 0 < length text → FindsNeedle run text 0 (Some place) →
    part k text run ≡ as_items (take place run) ++ Gap k (length text) ∷ part k text (drop (place + length text) run)
part_some k text run place some h =
    let front = take place run in
    let back = drop (place + length text) run in
    let split = split_at run text place h.1 in
    ap (part k text) split
    ∙ part_found k text front back (λ (e : text ≡ []). absurd (omega (arith, some, ap length e)))
    (λ sooner rest e. ⊎_elim
    (λ (l : length sooner < place). absurd (h.0.before (length sooner) (omega arith) l (occurs_in run sooner text rest (split ∙ e))))
    (λ (l : place ≤ length sooner). omega (arith, l, length-take-le place run (omega (arith, h.1.fits))))
    (cases_lt (length sooner) place))

-- where a search finds nothing, the run stays
pub part_none : (k : ℕ) (text run : List ℕ) → FindsNeedle run text 0 None → part k text run ≡ as_items run
part_none k text run h =
    part_without k text run (λ front back e.
    h (length front) (omega arith) (omega (arith, ap length e, length-append front (text ++ back))) (occurs_in run front text back e))
