-- Gaps in a run of bytes: how they are read off a form, made text by text, and where those that are made stand in the end.
use Rattle.std.proofs.Common.{◌≡◌, ◌⊎◌, ℕ, ◌+◌, ◌-◌, ◌<◌, ◌≤◌, Bool, true, false, List, [], ◌∷◌, ◌++◌, length, take, drop, get_or, refl, sym, ap, subst, ◌∙◌, arith, inr, zero-add, ⊎_elim}
use Rattle.std.specs.Prelude.{None, Some, ◌==◌, if◌then◌else◌}
use Rattle.std.specs.List.{All}
use Rattle.std.proofs.lemmas.Bool.{eq-eqb, ne_eqb}
use Rattle.std.proofs.lemmas.List.{append_assoc, append-nil, drop-append-le, drop-drop, drop-take, drop_all, drop_more, length-append, length-drop, length-map, length-take-le, map-append, take-append-drop, take_all, take_at}
use Rattle.std.proofs.lemmas.List.Elements.{All-nil, All-cons, All-append, All-head, All-tail, All-weaker}
use Rattle.std.proofs.Math.Seq.{take-take}
use Rattle.memchr.specs.Find.{FindsNeedle}
use Rattle.trac_rules.specs.declared.item.CutGap.{CutGap}
use Rattle.trac_rules.specs.declared.item.Item.{Item}
use Rattle.trac_rules.specs.declared.item.Item.TheVariants.{Byte, Gap}
use Rattle.trac_rules.specs.Cuts.{cut_between}
use Rattle.trac_rules.specs.Form.{as_items}
use Rattle.trac_rules.specs.Segmenting.{cut_out, part}
use Rattle.trac_rules.proofs.Cuts.{between_kept, between_made}
use Rattle.trac_rules.proofs.Cutting.{cut_out_gap, cut_out_last}
use Rattle.trac_items.specs.declared.run_gaps.RunGap.{RunGap}
use Rattle.trac_items.specs.RunGaps.{AreWithin, IsCutOut, IsMade, IsOld, earlier, gapped, gaps_from, spanned}
use Rattle.trac_items.proofs.Cuts.{part_none, part_some}

-- a gap that was there before, or is made
abbrev pub IsGap : RunGap → Type 0
IsGap gap = IsOld gap ⊎ IsMade gap

-- no gap at all
abbrev pub no_gap : RunGap
no_gap = record { passed = 0; taken = 0; width = 0; ordinal = 0 }

-- the items up to the last gap
abbrev pub fronted : List ℕ → List RunGap → List Item
fronted run [] = []
fronted run (gap ∷ gaps) = as_items (take gap.passed run) ++ Gap gap.ordinal gap.width ∷ fronted (drop (gap.passed + gap.taken) run) gaps

spanned-append : (xs ys : List RunGap) → spanned (xs ++ ys) ≡ spanned xs + spanned ys
spanned-append [] ys = omega arith
spanned-append (gap ∷ xs) ys = omega (arith, spanned-append xs ys)

-- gaps after others
gapped-append : (run : List ℕ) (xs ys : List RunGap) → gapped run (xs ++ ys) ≡ fronted run xs ++ gapped (drop (spanned xs) run) ys
gapped-append run [] ys = refl
gapped-append run (gap ∷ xs) ys =
    let n = gap.passed + gap.taken in
    ap (λ (items : List Item). as_items (take gap.passed run) ++ Gap gap.ordinal gap.width ∷ items)
    (gapped-append (drop n run) xs ys ∙ ap (λ (rest : List ℕ). fronted (drop n run) xs ++ gapped rest ys) (drop-drop (spanned xs) n run))
    ∙ sym (append_assoc (as_items (take gap.passed run)) (Gap gap.ordinal gap.width ∷ fronted (drop n run) xs) (gapped (drop (n + spanned xs) run) ys))

fronted-append : (run : List ℕ) (xs ys : List RunGap) → fronted run (xs ++ ys) ≡ fronted run xs ++ fronted (drop (spanned xs) run) ys
fronted-append run [] ys = refl
fronted-append run (gap ∷ xs) ys =
    let n = gap.passed + gap.taken in
    ap (λ (items : List Item). as_items (take gap.passed run) ++ Gap gap.ordinal gap.width ∷ items)
    (fronted-append (drop n run) xs ys ∙ ap (λ (rest : List ℕ). fronted (drop n run) xs ++ fronted rest ys) (drop-drop (spanned xs) n run))
    ∙ sym (append_assoc (as_items (take gap.passed run)) (Gap gap.ordinal gap.width ∷ fronted (drop n run) xs) (fronted (drop (n + spanned xs) run) ys))

-- the bytes after the last gap
gapped_last : (run : List ℕ) (gaps : List RunGap) → gapped run gaps ≡ fronted run gaps ++ as_items (drop (spanned gaps) run)
gapped_last run gaps = ap (gapped run) (sym (append-nil gaps)) ∙ gapped-append run gaps []

-- gaps in the front of a run
fronted-take : (run : List ℕ) (n : ℕ) (gaps : List RunGap) → spanned gaps ≤ n → fronted (take n run) gaps ≡ fronted run gaps
fronted-take run n [] l = refl
fronted-take run n (gap ∷ gaps) l =
    let m = gap.passed + gap.taken in
    let first : take gap.passed (take n run) ≡ take gap.passed run = take-take gap.passed n run (omega (arith, l)) in
    let more : n ≡ m + (n - m) = omega (arith, l) in
    let others : drop m (take n run) ≡ take (n - m) (drop m run) = ap (λ k. drop m (take k run)) more ∙ drop-take m (n - m) run in
    (λ i. as_items (first i) ++ Gap gap.ordinal gap.width ∷ fronted (others i) gaps)
    ∙ ap (λ (items : List Item). as_items (take gap.passed run) ++ Gap gap.ordinal gap.width ∷ items) (fronted-take (drop m run) (n - m) gaps (omega (arith, l)))

-- the bytes before the first gap are there
pub first_within : (run : List ℕ) (gaps : List RunGap) (gap : RunGap) (others : List RunGap) → gaps ≡ gap ∷ others → AreWithin (length run) gaps → gap.passed ≤ length run
first_within run gaps gap others is within = omega (arith, within.span, ap spanned is)

-- ---- the gaps that were there before

as_gaps : (gaps : List RunGap) → All IsMade gaps → All IsGap gaps
as_gaps gaps fresh = All-weaker IsMade IsGap (λ gap made. inr made) gaps fresh

-- a gap after so many bytes, and those after it
abbrev at_gap : RunGap → List RunGap → ℕ → List RunGap
at_gap gap gaps n = if gap.taken == 0 then record gap { passed = n } ∷ earlier 0 gaps else earlier (n + gap.taken) gaps

is_taken : (gap : RunGap) → IsMade gap → (gap.taken == 0) ≡ false
is_taken gap made = ne_eqb gap.taken 0 (λ none. absurd (omega (arith, none, made.0, made.1)))

-- gaps that are made are passed as bytes
past_made : (made : List RunGap) (gap : RunGap) (gaps : List RunGap) (more : ℕ) → All IsMade made →
    earlier more (made ++ gap ∷ gaps) ≡ at_gap gap gaps (more + (spanned made + gap.passed))
past_made [] gap gaps more fresh = let e : more + gap.passed ≡ more + (0 + gap.passed) = omega arith in ap (at_gap gap gaps) e
past_made (first ∷ made) gap gaps more fresh =
    let e : more + first.passed + first.taken + (spanned made + gap.passed) ≡ more + (first.passed + first.taken + spanned made + gap.passed) = omega arith in
    ap (λ (b : Bool). if b then record first { passed = more + first.passed } ∷ earlier 0 (made ++ gap ∷ gaps) else earlier (more + first.passed + first.taken) (made ++ gap ∷ gaps))
    (is_taken first (All-head IsMade first made fresh))
    ∙ past_made made gap gaps (more + first.passed + first.taken) (All-tail IsMade first made fresh) ∙ ap (at_gap gap gaps) e

all_made : (made : List RunGap) (more : ℕ) → All IsMade made → earlier more made ≡ []
all_made [] more fresh = refl
all_made (first ∷ made) more fresh =
    ap (λ (b : Bool). if b then record first { passed = more + first.passed } ∷ earlier 0 made else earlier (more + first.passed + first.taken) made)
    (is_taken first (All-head IsMade first made fresh))
    ∙ all_made made (more + first.passed + first.taken) (All-tail IsMade first made fresh)

pub all_old : (gaps : List RunGap) → All IsOld gaps → earlier 0 gaps ≡ gaps
all_old [] old = refl
all_old (gap ∷ gaps) old =
    ap (λ (b : Bool). if b then record gap { passed = 0 + gap.passed } ∷ earlier 0 gaps else earlier (0 + gap.passed + gap.taken) gaps)
    (eq-eqb gap.taken 0 (All-head IsOld gap gaps old).1)
    ∙ (λ i. record gap { passed = zero-add gap.passed i } ∷ all_old gaps (All-tail IsOld gap gaps old) i)

-- after the same gaps
earlier-same : (gaps xs ys : List RunGap) → ((more : ℕ) → earlier more xs ≡ earlier more ys) → (more : ℕ) → earlier more (gaps ++ xs) ≡ earlier more (gaps ++ ys)
earlier-same [] xs ys same more = same more
earlier-same (gap ∷ gaps) xs ys same more = λ i. if gap.taken == 0
    then record gap { passed = more + gap.passed } ∷ earlier-same gaps xs ys same 0 i
    else earlier-same gaps xs ys same (more + gap.passed + gap.taken) i

-- ---- one text in one run

-- the gaps that are made so far, and the rest of the run
pub record IsCutSoFar (k : ℕ) (text run : List ℕ) (old new : List RunGap) (rest : List ℕ) : Type 0 where
  pub made : List RunGap
  pub all : new ≡ old ++ made
  pub items : fronted run made ++ part k text rest ≡ part k text run
  pub here : rest ≡ drop (spanned made) run
  pub fresh : All IsMade made
  pub counted : spanned made + length rest ≡ length run

module _ (k : ℕ) (text run : List ℕ) (old : List RunGap) where
  module _ (gaps : List RunGap) (rest : List ℕ) (so_far : IsCutSoFar k text run old gaps rest) where
    module _ (gap : RunGap) (new : List RunGap) (back : List ℕ) (some : 0 < length text) (finds : FindsNeedle rest text 0 (Some gap.passed))
        (width : gap.width ≡ length text) (taken : gap.taken ≡ length text) (ordinal : gap.ordinal ≡ k) (put : new ≡ gaps ++ gap ∷ []) (is : back ≡ drop (gap.passed + length text) rest) where
      abbrev more : List RunGap
      more = so_far.made ++ gap ∷ []

      spanned_more : spanned more ≡ spanned so_far.made + (gap.passed + length text)
      spanned_more = omega (arith, spanned-append so_far.made (gap ∷ []), taken)

      fronted_more : fronted run more ≡ fronted run so_far.made ++ (as_items (take gap.passed rest) ++ Gap k (length text) ∷ [])
      fronted_more =
          fronted-append run so_far.made (gap ∷ [])
          ∙ ap (λ (r : List ℕ). fronted run so_far.made ++ (as_items (take gap.passed r) ++ Gap gap.ordinal gap.width ∷ [])) (sym so_far.here)
          ∙ (λ i. fronted run so_far.made ++ (as_items (take gap.passed rest) ++ Gap (ordinal i) (width i) ∷ []))

      pub cut_goes_on : IsCutSoFar k text run old new back
      cut_goes_on =
          let front = as_items (take gap.passed rest) in
          let left = drop (gap.passed + length text) rest in
          record {
            made = more;
            all = put ∙ ap (λ (xs : List RunGap). xs ++ gap ∷ []) so_far.all ∙ append_assoc old so_far.made (gap ∷ []);
            items =
                (λ i. fronted_more i ++ part k text (is i))
                ∙ append_assoc (fronted run so_far.made) (front ++ Gap k (length text) ∷ []) (part k text left)
                ∙ ap (λ (xs : List Item). fronted run so_far.made ++ xs)
                (append_assoc front (Gap k (length text) ∷ []) (part k text left) ∙ sym (part_some k text rest gap.passed some finds))
                ∙ so_far.items;
            here =
                is ∙ ap (λ (r : List ℕ). drop (gap.passed + length text) r) so_far.here ∙ drop-drop (gap.passed + length text) (spanned so_far.made) run
                ∙ ap (λ n. drop n run) (sym spanned_more);
            fresh = All-append IsMade so_far.made (gap ∷ []) so_far.fresh
                (All-cons IsMade gap [] (omega (arith, width, some), taken ∙ sym width) (All-nil IsMade));
            counted = omega (arith, spanned_more, so_far.counted, finds.1.fits, ap length is, length-drop (gap.passed + length text) rest);
          }

    pub cut_ends : FindsNeedle rest text 0 None → IsCutOut k text run old gaps (length rest)
    cut_ends none = record {
      made = so_far.made;
      all = so_far.all;
      items =
          gapped_last run so_far.made
          ∙ ap (λ (r : List ℕ). fronted run so_far.made ++ as_items r) (sym so_far.here)
          ∙ ap (λ (xs : List Item). fronted run so_far.made ++ xs) (sym (part_none k text rest none))
          ∙ so_far.items;
      fresh = so_far.fresh;
      counted = so_far.counted;
    }

-- ---- one text between the gaps that are there

-- the gaps so far, the rest of the run, and the gaps in it that are still to be passed
pub record IsMixedSoFar (k : ℕ) (text run : List ℕ) (all out : List RunGap) (rest : List ℕ) (left : List RunGap) : Type 0 where
  pub items : fronted run out ++ cut_out k text (gapped rest left) ≡ cut_out k text (gapped run all)
  pub old : earlier 0 (out ++ left) ≡ earlier 0 all
  pub here : rest ≡ drop (spanned out) run
  pub each : All IsGap out
  pub counted : spanned out + length rest ≡ length run
  pub ahead : AreWithin (length rest) left

pub mixed_starts : (k : ℕ) (text run : List ℕ) (all out : List RunGap) → out ≡ [] → AreWithin (length run) all → IsMixedSoFar k text run all out run all
mixed_starts k text run all out none within =
    subst (λ (gaps : List RunGap). IsMixedSoFar k text run all gaps run all) (sym none)
    (record { items = refl; old = refl; here = refl; each = All-nil IsGap; counted = omega arith; ahead = within })

module _ (k : ℕ) (text run : List ℕ) (all : List RunGap) where
  module _ (out : List RunGap) (rest : List ℕ) (left : List RunGap) (so_far : IsMixedSoFar k text run all out rest left) where
    -- what a piece of the rest makes
    module _ (n : ℕ) (within : n ≤ length rest) (middle : List RunGap) (after : ℕ) (cut : IsCutOut k text (take n rest) out middle after) where
      counted : spanned cut.made + after ≡ n
      counted = omega (arith, cut.counted, length-take-le n rest within)

      piece : fronted rest cut.made ++ as_items (take after (drop (spanned cut.made) rest)) ≡ part k text (take n rest)
      piece =
          let whole : drop (spanned cut.made) (take n rest) ≡ take after (drop (spanned cut.made) rest) =
          ap (λ m. drop (spanned cut.made) (take m rest)) (sym counted) ∙ drop-take (spanned cut.made) after rest in
          sym (λ i. fronted-take rest n cut.made (omega (arith, counted)) i ++ as_items (whole i))
          ∙ sym (gapped_last (take n rest) cut.made) ∙ cut.items

      -- and the gap after it
      module _ (gap : RunGap) (next : List RunGap) (new : List RunGap) (back : List ℕ) (is : left ≡ gap ∷ next) (passed : n ≡ gap.passed)
          (put : new ≡ middle ++ record gap { passed = after } ∷ []) (back_is : back ≡ drop (gap.passed + gap.taken) rest) where
        abbrev moved : RunGap
        moved = record gap { passed = after }

        new_is : new ≡ out ++ (cut.made ++ moved ∷ [])
        new_is = put ∙ ap (λ (xs : List RunGap). xs ++ moved ∷ []) cut.all ∙ append_assoc out cut.made (moved ∷ [])

        spanned_new : spanned new ≡ spanned out + (gap.passed + gap.taken)
        spanned_new =
            omega (arith, ap spanned new_is, spanned-append out (cut.made ++ moved ∷ []), spanned-append cut.made (moved ∷ []), counted, passed)

        fronted_new : fronted run new ≡ fronted run out ++ (part k text (take gap.passed rest) ++ Gap gap.ordinal gap.width ∷ [])
        fronted_new =
            ap (fronted run) new_is ∙ fronted-append run out (cut.made ++ moved ∷ [])
            ∙ ap (λ (r : List ℕ). fronted run out ++ fronted r (cut.made ++ moved ∷ [])) (sym so_far.here)
            ∙ ap (λ (xs : List Item). fronted run out ++ xs)
            (fronted-append rest cut.made (moved ∷ [])
            ∙ sym (append_assoc (fronted rest cut.made) (as_items (take after (drop (spanned cut.made) rest))) (Gap gap.ordinal gap.width ∷ []))
            ∙ ap (λ (xs : List Item). xs ++ Gap gap.ordinal gap.width ∷ []) (piece ∙ ap (λ m. part k text (take m rest)) passed))

        old_new : earlier 0 (new ++ next) ≡ earlier 0 all
        old_new =
            ap (λ (xs : List RunGap). earlier 0 (xs ++ next)) new_is
            ∙ ap (earlier 0) (append_assoc out (cut.made ++ moved ∷ []) next ∙ ap (λ (xs : List RunGap). out ++ xs) (append_assoc cut.made (moved ∷ []) next))
            ∙ earlier-same out (cut.made ++ moved ∷ next) (gap ∷ next) (λ more.
            let e : more + (spanned cut.made + after) ≡ more + gap.passed = omega (arith, counted, passed) in
            past_made cut.made moved next more cut.fresh ∙ ap (at_gap gap next) e) 0
            ∙ ap (λ (xs : List RunGap). earlier 0 (out ++ xs)) (sym is) ∙ so_far.old

        pub mixed_goes_on : IsMixedSoFar k text run all new back next
        mixed_goes_on =
            let front = part k text (take gap.passed rest) in
            let later = cut_out k text (gapped (drop (gap.passed + gap.taken) rest) next) in
            let ahead = subst (AreWithin (length rest)) is so_far.ahead in
            let length_back = ap length back_is ∙ length-drop (gap.passed + gap.taken) rest in
            record {
              items =
                  (λ i. fronted_new i ++ cut_out k text (gapped (back_is i) next))
                  ∙ append_assoc (fronted run out) (front ++ Gap gap.ordinal gap.width ∷ []) later
                  ∙ ap (λ (xs : List Item). fronted run out ++ xs)
                  (append_assoc front (Gap gap.ordinal gap.width ∷ []) later
                  ∙ sym (cut_out_gap k gap.ordinal gap.width text (take gap.passed rest) (gapped (drop (gap.passed + gap.taken) rest) next)))
                  ∙ ap (λ (gaps : List RunGap). fronted run out ++ cut_out k text (gapped rest gaps)) (sym is)
                  ∙ so_far.items;
              old = old_new;
              here =
                  back_is ∙ ap (λ (r : List ℕ). drop (gap.passed + gap.taken) r) so_far.here ∙ drop-drop (gap.passed + gap.taken) (spanned out) run
                  ∙ ap (λ m. drop m run) (sym spanned_new);
              each =
                  subst (All IsGap) (sym new_is)
                  (All-append IsGap out (cut.made ++ moved ∷ []) so_far.each
                  (All-append IsGap cut.made (moved ∷ []) (as_gaps cut.made cut.fresh)
                  (All-cons IsGap moved [] (All-head IsGap gap next ahead.each) (All-nil IsGap))));
              counted = omega (arith, spanned_new, so_far.counted, ahead.span, length_back);
              ahead = record { span = omega (arith, ahead.span, length_back); each = All-tail IsGap gap next ahead.each };
            }

    -- after the last gap
    module _ (none : left ≡ []) (new : List RunGap) (after : ℕ) (cut : IsCutOut k text rest out new after) where
      pub mixed_ends : gapped run new ≡ cut_out k text (gapped run all)
      mixed_ends =
          ap (gapped run) cut.all ∙ gapped-append run out cut.made
          ∙ ap (λ (r : List ℕ). fronted run out ++ gapped r cut.made) (sym so_far.here)
          ∙ ap (λ (xs : List Item). fronted run out ++ xs) (cut.items ∙ sym (cut_out_last k text rest))
          ∙ ap (λ (gaps : List RunGap). fronted run out ++ cut_out k text (gapped rest gaps)) (sym none)
          ∙ so_far.items

      pub mixed_within : AreWithin (length run) new
      mixed_within = record {
        span = omega (arith, ap spanned cut.all, spanned-append out cut.made, cut.counted, so_far.counted);
        each = subst (All IsGap) (sym cut.all) (All-append IsGap out cut.made so_far.each (as_gaps cut.made cut.fresh));
      }

      pub mixed_old : earlier 0 new ≡ earlier 0 all
      mixed_old =
          ap (earlier 0) cut.all ∙ earlier-same out cut.made [] (λ more. all_made cut.made more cut.fresh) 0
          ∙ ap (λ (xs : List RunGap). earlier 0 (out ++ xs)) (sym none) ∙ so_far.old

-- ---- places

-- items that stay are passed
items_kept : (place at : ℕ) (front old new : List Item) → at ≡ place + length front → cut_between place (front ++ old) (front ++ new) ≡ cut_between at old new
items_kept place at [] old new e = let same : place ≡ at = omega (arith, e) in ap (λ (n : ℕ). cut_between n old new) same
items_kept place at (item ∷ front) old new e = between_kept place item (front ++ old) (front ++ new) ∙ items_kept (place + 1) at front old new (omega (arith, e))

abbrev first_of : ℕ → ℕ → List CutGap → List CutGap
first_of place k gaps = record { place = place; ordinal = k } ∷ gaps

-- bytes in two parts
two_parts : (n m all : ℕ) (run : List ℕ) (items : List Item) → all ≡ n + m → as_items (take all run) ++ items ≡ as_items (take n run) ++ (as_items (take m (drop n run)) ++ items)
two_parts n m all run items e =
    let split : take all run ≡ take n run ++ take m (drop n run) =
    ap (λ k. take k run) e ∙ sym (take-append-drop n (take (n + m) run)) ∙ (λ i. take-take n (n + m) run (omega arith) i ++ drop-take n m run i) in
    ap (λ (xs : List Item). xs ++ items) (ap as_items split ∙ map-append Byte (take n run) (take m (drop n run)))
    ∙ append_assoc (as_items (take n run)) (as_items (take m (drop n run))) items

-- bytes before the gaps that were there before
carried : (gaps : List RunGap) (more : ℕ) (run : List ℕ) → gapped run (earlier more gaps) ≡ as_items (take more run) ++ gapped (drop more run) (earlier 0 gaps)
carried [] more run = ap as_items (sym (take-append-drop more run)) ∙ map-append Byte (take more run) (drop more run)
carried (gap ∷ gaps) more run = by (gap.taken == 0) (carried gaps)
  where
    n : ℕ
    n = 0 + gap.passed + gap.taken

    all : more + gap.passed + gap.taken ≡ more + n
    all = omega arith

    back : drop (more + gap.passed + gap.taken) run ≡ drop n (drop more run)
    back = ap (λ m. drop m run) all ∙ sym (drop-drop n more run)

    by : (b : Bool) → ((m : ℕ) (r : List ℕ) → gapped r (earlier m gaps) ≡ as_items (take m r) ++ gapped (drop m r) (earlier 0 gaps)) →
        gapped run (if b then record gap { passed = more + gap.passed } ∷ earlier 0 gaps else earlier (more + gap.passed + gap.taken) gaps)
        ≡ as_items (take more run) ++ gapped (drop more run) (if b then record gap { passed = 0 + gap.passed } ∷ earlier 0 gaps else earlier n gaps)
    by true further =
        two_parts more (0 + gap.passed) (more + gap.passed) run (Gap gap.ordinal gap.width ∷ gapped (drop (more + gap.passed + gap.taken) run) (earlier 0 gaps)) (omega arith)
        ∙ ap (λ (rest : List ℕ). as_items (take more run) ++ (as_items (take (0 + gap.passed) (drop more run)) ++ Gap gap.ordinal gap.width ∷ gapped rest (earlier 0 gaps))) back
    by false further =
        further (more + gap.passed + gap.taken) run
        ∙ two_parts more n (more + gap.passed + gap.taken) run (gapped (drop (more + gap.passed + gap.taken) run) (earlier 0 gaps)) all
        ∙ ap (λ (rest : List ℕ). as_items (take more run) ++ (as_items (take n (drop more run)) ++ gapped rest (earlier 0 gaps))) back
        ∙ ap (λ (xs : List Item). as_items (take more run) ++ xs) (sym (further n (drop more run)))

-- those that are made stand where the form before had bytes
module _ (place : ℕ) (run : List ℕ) (gap : RunGap) (gaps : List RunGap) (within : AreWithin (length run) (gap ∷ gaps)) where
  abbrev n : ℕ
  n = gap.passed + gap.taken

  abbrev front : List Item
  front = as_items (take gap.passed run)

  abbrev before : List Item
  before = gapped (drop n run) (earlier 0 gaps)

  abbrev after : List Item
  after = gapped (drop n run) gaps

  abbrev choice : Bool → List RunGap
  choice b = if b then record gap { passed = 0 + gap.passed } ∷ earlier 0 gaps else earlier (0 + gap.passed + gap.taken) gaps

  abbrev places : Bool → List CutGap
  places b = (if b then [] else record { place = place + gap.passed; ordinal = gap.ordinal } ∷ []) ++ gaps_from (place + gap.passed + 1) gaps

  front_length : place + gap.passed ≡ place + length front
  front_length = omega (arith, length-map (take gap.passed run) Byte, length-take-le gap.passed run (omega (arith, within.span)))

  rest_within : AreWithin (length (drop n run)) gaps
  rest_within = record { span = omega (arith, within.span, length-drop n run); each = All-tail IsGap gap gaps within.each }

  module _ (others : gaps_from (place + gap.passed + 1) gaps ≡ cut_between (place + gap.passed + 1) before after) where
    place_old : IsOld gap → gaps_from place (gap ∷ gaps) ≡ cut_between place (gapped run (earlier 0 (gap ∷ gaps))) (front ++ Gap gap.ordinal gap.width ∷ after)
    place_old is =
        let stays : (gap.taken == 0) ≡ true = eq-eqb gap.taken 0 is.1 in
        let item = Gap gap.ordinal gap.width in
        ap places stays ∙ others
        ∙ sym (between_kept (place + gap.passed) item before after)
        ∙ sym (items_kept place (place + gap.passed) front (item ∷ before) (item ∷ after) front_length)
        ∙ sym (λ i. cut_between place (as_items (take (zero-add gap.passed i) run) ++ item ∷ gapped (drop (zero-add gap.passed i + gap.taken) run) (earlier 0 gaps)) (front ++ item ∷ after))
        ∙ sym (ap (λ (b : Bool). cut_between place (gapped run (choice b)) (front ++ item ∷ after)) stays)

    place_made : IsMade gap → gaps_from place (gap ∷ gaps) ≡ cut_between place (gapped run (earlier 0 (gap ∷ gaps))) (front ++ Gap gap.ordinal gap.width ∷ after)
    place_made is =
        let text = take gap.taken (drop gap.passed run) in
        let long : length text ≡ gap.width = length-take-le gap.taken (drop gap.passed run) (omega (arith, within.span, length-drop gap.passed run)) ∙ is.1 in
        let all : 0 + gap.passed + gap.taken ≡ n = omega arith in
        let whole : gapped run (choice (gap.taken == 0)) ≡ front ++ (as_items text ++ before) =
        ap (λ (b : Bool). gapped run (choice b)) (is_taken gap is) ∙ ap (λ (m : ℕ). gapped run (earlier m gaps)) all
        ∙ carried gaps n run ∙ two_parts gap.passed gap.taken n run before refl in
        ap places (is_taken gap is) ∙ ap (first_of (place + gap.passed) gap.ordinal) others
        ∙ sym (between_made (place + gap.passed) gap.ordinal text before after (omega (arith, long, is.0)))
        ∙ (λ i. cut_between (place + gap.passed) (as_items text ++ before) (Gap gap.ordinal (long i) ∷ after))
        ∙ sym (items_kept place (place + gap.passed) front (as_items text ++ before) (Gap gap.ordinal gap.width ∷ after) front_length)
        ∙ sym (λ i. cut_between place (whole i) (front ++ Gap gap.ordinal gap.width ∷ after))

pub places_are : (place : ℕ) (run : List ℕ) (gaps : List RunGap) → AreWithin (length run) gaps →
    gaps_from place gaps ≡ cut_between place (gapped run (earlier 0 gaps)) (gapped run gaps)
places_are place run [] within =
    let whole : as_items run ≡ as_items run ++ [] = sym (append-nil (as_items run)) in
    sym ((λ i. cut_between place (whole i) (whole i)) ∙ items_kept place (place + length (as_items run)) (as_items run) [] [] refl)
places_are place run (gap ∷ gaps) within =
    let others = places_are (place + gap.passed + 1) (drop (gap.passed + gap.taken) run) gaps (rest_within place run gap gaps within) in
    ⊎_elim (place_old place run gap gaps within others) (place_made place run gap gaps within others) (All-head IsGap gap gaps within.each)

-- ---- a form that is taken apart

-- its first items, and how many bytes stand before the last gap
pub record IsRead (items : List Item) (run : List ℕ) (gaps : List RunGap) (before : ℕ) : Type 0 where
  pub are : gapped run gaps ≡ items
  pub spans : spanned gaps ≡ before
  pub within : before ≤ length run
  pub short : length run ≤ length items
  pub old : All IsOld gaps

module _ (items : List Item) (run : List ℕ) (gaps : List RunGap) (before : ℕ) (so_far : IsRead items run gaps before) where
  pub byte_read : (b : ℕ) (new : List ℕ) → new ≡ run ++ b ∷ [] → IsRead (items ++ Byte b ∷ []) new gaps before
  byte_read b new put =
      let within : spanned gaps ≤ length run = omega (arith, so_far.spans, so_far.within) in
      let front : fronted (run ++ b ∷ []) gaps ≡ fronted run gaps =
      sym (fronted-take (run ++ b ∷ []) (length run) gaps within) ∙ ap (λ (r : List ℕ). fronted r gaps) (take_at run (b ∷ []) (length run) refl) in
      record {
        are =
            ap (λ (r : List ℕ). gapped r gaps) put ∙ gapped_last (run ++ b ∷ []) gaps
            ∙ (λ i. front i ++ as_items (drop-append-le (spanned gaps) run (b ∷ []) within i))
            ∙ ap (λ (xs : List Item). fronted run gaps ++ xs) (map-append Byte (drop (spanned gaps) run) (b ∷ []))
            ∙ sym (append_assoc (fronted run gaps) (as_items (drop (spanned gaps) run)) (Byte b ∷ []))
            ∙ ap (λ (xs : List Item). xs ++ Byte b ∷ []) (sym (gapped_last run gaps) ∙ so_far.are);
        spans = so_far.spans;
        within = omega (arith, so_far.within, ap length put, length-append run (b ∷ []));
        short = omega (arith, so_far.short, ap length put, length-append run (b ∷ []), length-append items (Byte b ∷ []));
        old = so_far.old;
      }

  pub gap_read : (gap : RunGap) (new : List RunGap) → IsOld gap → gap.passed + before ≡ length run → new ≡ gaps ++ gap ∷ [] →
      IsRead (items ++ Gap gap.ordinal gap.width ∷ []) run new (length run)
  gap_read gap new old passed put =
      let rest = drop (spanned gaps) run in
      let left : length rest ≡ gap.passed = omega (arith, length-drop (spanned gaps) run, so_far.spans, passed) in
      let gap_item = Gap gap.ordinal gap.width in
      record {
        are =
            ap (gapped run) put ∙ gapped-append run gaps (gap ∷ [])
            ∙ (λ i. fronted run gaps ++ (as_items (take_all gap.passed rest (omega (arith, left)) i) ++ gap_item ∷ as_items (drop_all (gap.passed + gap.taken) rest (omega (arith, left)) i)))
            ∙ sym (append_assoc (fronted run gaps) (as_items rest) (gap_item ∷ []))
            ∙ ap (λ (xs : List Item). xs ++ gap_item ∷ []) (sym (gapped_last run gaps) ∙ so_far.are);
        spans = omega (arith, ap spanned put, spanned-append gaps (gap ∷ []), so_far.spans, passed, old.1);
        within = omega arith;
        short = omega (arith, so_far.short, length-append items (gap_item ∷ []));
        old = subst (All IsOld) (sym put) (All-append IsOld gaps (gap ∷ []) so_far.old (All-cons IsOld gap [] old (All-nil IsOld)));
      }

-- ---- the places of the gaps that are made

-- one gap more is passed
module _ (gaps : List RunGap) (i place : ℕ) (l : i < length gaps) where
  abbrev next : RunGap
  next = get_or gaps i no_gap

  left_is : drop i gaps ≡ next ∷ drop (i + 1) gaps
  left_is = drop_more gaps i no_gap l

  abbrev placed_if : Bool → List CutGap
  placed_if old = if old then [] else record { place = place + next.passed; ordinal = next.ordinal } ∷ []

  module _ (before all : List CutGap) (so_far : before ++ gaps_from place (drop i gaps) ≡ all) where
    passed_on : (old : Bool) → (next.taken == 0) ≡ old → (newer : List CutGap) → newer ≡ before ++ placed_if old → newer ++ gaps_from (place + next.passed + 1) (drop (i + 1) gaps) ≡ all
    passed_on old is newer put =
        let later = gaps_from (place + next.passed + 1) (drop (i + 1) gaps) in
        ap (λ (cuts : List CutGap). cuts ++ later) put
        ∙ append_assoc before (placed_if old) later
        ∙ ap (λ b. before ++ (placed_if b ++ later)) (sym is)
        ∙ ap (λ (rest : List RunGap). before ++ gaps_from place rest) (sym left_is)
        ∙ so_far

    pub placed_on : 0 < next.taken → (newer : List CutGap) → newer ≡ before ++ record { place = place + next.passed; ordinal = next.ordinal } ∷ [] →
        newer ++ gaps_from (place + next.passed + 1) (drop (i + 1) gaps) ≡ all
    placed_on made newer put = passed_on false (ne_eqb next.taken 0 (λ none. absurd (omega (arith, none, made)))) newer put

    pub left_out : next.taken ≡ 0 → (newer : List CutGap) → newer ≡ before → newer ++ gaps_from (place + next.passed + 1) (drop (i + 1) gaps) ≡ all
    left_out old newer put = passed_on true (eq-eqb next.taken 0 old) newer (put ∙ sym (append-nil before))

  pub place_within : (most : ℕ) → place + spanned (drop i gaps) ≤ most + i → place + next.passed + 1 + spanned (drop (i + 1) gaps) ≤ most + (i + 1)
  place_within most within = omega (arith, within, ap spanned left_is)
