-- How the two halves of a block change when one call writes places and moves the ends of the gap.
use Rattle.std.proofs.Common.{◌≡◌, ℕ, suc, ◌+◌, ◌-◌, ◌≤◌, ◌<◌, ◌++◌, List, [], ◌∷◌, Option, Some, None, IsSome, length, take, drop, get_or, set, map, refl, sym, ap, subst, ◌∙◌, add-one, arith, length-drop, length-set}
use Rattle.std.proofs.lemmas.List.{length-map, take-append-drop, take-take, drop-take, drop-drop, drop-set-lt, get_or-take, get_or-drop}
use Rattle.std.proofs.Math.Seq.{length-take-le, take-add, take-suc, take-suc-set}
use Rattle.trac_gap.specs.declared.gap_buf.GapBuf.TheInside.{Inside}
use Rattle.trac_gap.specs.declared.slots.Slots.{Slots}
use Rattle.trac_gap.specs.Ends.{item_count}
use Rattle.trac_gap.specs.GapBuf.{buffer_ends, IsLaidOut}
use Rattle.trac_gap.specs.Slots.{items_of, IsFull, IsShifted, run, pasted}
use Rattle.trac_gap.proofs.Full.{items_of-map, IsFull-map, length-items_of, full_both, IsFull-take, IsFull-drop, items_of-take, items_of-drop, some_at}
use Rattle.trac_gap.proofs.Pasted.{length-pasted, take-pasted, drop-pasted, take-pasted_before, drop-pasted_after}

-- the row is full, with these items
abbrev pub Holds : {T : Type 0} → List (Option T) → List T → Type 0
Holds cs xs = IsFull cs × (items_of cs ≡ xs)

module _ {T : Type 0} where
  same_row : (cs ds : List (Option T)) → ds ≡ cs → IsFull cs → Holds ds (items_of cs)
  same_row cs ds e full = (subst IsFull (sym e) full, ap items_of e)

  -- a row that is xs after or before what another has
  after : (cs ds : List (Option T)) (xs : List T) → ds ≡ cs ++ map Some xs → IsFull cs → Holds ds (items_of cs ++ xs)
  after cs ds xs e full = let both = full_both cs (map Some xs) ds e full (IsFull-map xs) in (both.0, both.1 ∙ ap (λ ys. items_of cs ++ ys) (items_of-map xs))

  before : (cs ds : List (Option T)) (xs : List T) → ds ≡ map Some xs ++ cs → IsFull cs → Holds ds (xs ++ items_of cs)
  before cs ds xs e full = let both = full_both (map Some xs) cs ds e (IsFull-map xs) full in (both.0, both.1 ∙ ap (λ ys. ys ++ items_of cs) (items_of-map xs))

module _ {T A : Type 0} (b : Inside T A) (ok : IsLaidOut b) where
  abbrev cs : List (Option T)
  cs = b.places.slots

  abbrev L : List T
  L = items_of (take b.gap_start cs)

  abbrev R : List T
  R = items_of (drop b.gap_end cs)

  pub left_count : length L ≡ b.gap_start
  left_count = length-items_of (take b.gap_start cs) ok.left_full ∙ length-take-le b.gap_start cs (omega (arith, ok.gap, ok.within, ok.places_count))

  pub right_count : length R + b.gap_end ≡ b.capacity
  right_count = omega (arith, length-items_of (drop b.gap_end cs) ok.right_full, length-drop b.gap_end cs, ok.within, ok.places_count)

  -- the block after a call: its invariant, and what callers see of it
  abbrev pub Becomes : Slots T → ℕ → ℕ → List T → List T → Type 0
  Becomes p s e ls rs = let b' = record b { places = p; gap_start = s; gap_end = e } in IsLaidOut b' × (buffer_ends b' ≡ record { left = ls; right = rs; capacity = b.capacity })

  becomes : (p : Slots T) (s e : ℕ) (ls rs : List T) → p.at ≡ b.places.at → length p.slots ≡ length cs → s ≤ e → e ≤ b.capacity
      → Holds (take s p.slots) ls → Holds (drop e p.slots) rs → Becomes p s e ls rs
  becomes p s e ls rs at same gap within hl hr = (
    record {
      places_at = at ∙ ok.places_at;
      lease = ok.lease;
      places_count = same ∙ ok.places_count;
      gap = gap;
      within = within;
      fits = ok.fits;
      left_full = hl.0;
      right_full = hr.0;
    },
    λ i. record { left = hl.1 i; right = hr.1 i; capacity = b.capacity },
  )

  gap_room : (n : ℕ) → item_count (buffer_ends b) + n ≤ b.capacity → b.gap_start + n ≤ b.gap_end
  gap_room n h = omega (arith, left_count, right_count, ok.gap, ok.within)

  -- one item at either side
  module _ (p : Slots T) (x : T) (at : p.at ≡ b.places.at) (room : item_count (buffer_ends b) < b.capacity) where
    free : b.gap_start < b.gap_end
    free = let h : item_count (buffer_ends b) + 1 ≤ b.capacity = omega arith in let k = gap_room 1 h in omega arith

    pub pushed_left : p.slots ≡ set cs b.gap_start (Some x) → Becomes p (b.gap_start + 1) b.gap_end (L ++ x ∷ []) R
    pushed_left e =
        let in_row : b.gap_start < length cs = omega (arith, free, ok.within, ok.places_count) in
        let front : take (b.gap_start + 1) p.slots ≡ take b.gap_start cs ++ map Some (x ∷ []) = ap (λ l. take (b.gap_start + 1) l) e ∙ ap (λ k. take k (set cs b.gap_start (Some x))) (add-one b.gap_start) ∙ take-suc-set cs b.gap_start (Some x) in_row in
        let back : drop b.gap_end p.slots ≡ drop b.gap_end cs = ap (drop b.gap_end) e ∙ drop-set-lt b.gap_end cs b.gap_start (Some x) free in
        becomes p (b.gap_start + 1) b.gap_end (L ++ x ∷ []) R at (ap length e ∙ length-set cs b.gap_start (Some x)) (omega (arith, free)) ok.within
        (after (take b.gap_start cs) _ (x ∷ []) front ok.left_full) (same_row (drop b.gap_end cs) _ back ok.right_full)

  -- a run of items at either side
  module _ (p : Slots T) (xs : List T) (at : p.at ≡ b.places.at) (room : item_count (buffer_ends b) + length xs ≤ b.capacity) where
    abbrev ws : List (Option T)
    ws = map Some xs

    long : length ws ≡ length xs
    long = length-map xs Some

    pub free_run : b.gap_start + length xs ≤ b.gap_end
    free_run = gap_room (length xs) room

    pub put_left : p.slots ≡ pasted cs b.gap_start ws → Becomes p (b.gap_start + length xs) b.gap_end (L ++ xs) R
    put_left e =
        let fits : b.gap_start + length ws ≤ length cs = omega (arith, long, free_run, ok.within, ok.places_count) in
        let front : take (b.gap_start + length xs) p.slots ≡ take b.gap_start cs ++ ws = ap (take (b.gap_start + length xs)) e ∙ ap (λ k. take (b.gap_start + k) (pasted cs b.gap_start ws)) (sym long) ∙ take-pasted cs b.gap_start ws fits in
        let back : drop b.gap_end p.slots ≡ drop b.gap_end cs = ap (drop b.gap_end) e ∙ drop-pasted_after cs b.gap_start ws fits b.gap_end (omega (arith, long, free_run)) in
        becomes p (b.gap_start + length xs) b.gap_end (L ++ xs) R at (ap length e ∙ length-pasted cs b.gap_start ws fits) free_run ok.within
        (after (take b.gap_start cs) _ xs front ok.left_full) (same_row (drop b.gap_end cs) _ back ok.right_full)

    pub put_right : p.slots ≡ pasted cs (b.gap_end - length xs) ws → Becomes p b.gap_start (b.gap_end - length xs) L (xs ++ R)
    put_right e =
        let low = b.gap_end - length xs in
        let fits : low + length ws ≤ length cs = omega (arith, long, free_run, ok.within, ok.places_count) in
        let next : low + length ws ≡ b.gap_end = omega (arith, long, free_run) in
        let back : drop low p.slots ≡ ws ++ drop b.gap_end cs = ap (drop low) e ∙ drop-pasted cs low ws fits ∙ ap (λ k. ws ++ drop k cs) next in
        let front : take b.gap_start p.slots ≡ take b.gap_start cs = ap (take b.gap_start) e ∙ take-pasted_before cs low ws fits b.gap_start (omega (arith, free_run)) in
        becomes p b.gap_start low L (xs ++ R) at (ap length e ∙ length-pasted cs low ws fits) (omega (arith, free_run)) (omega (arith, ok.within))
        (same_row (take b.gap_start cs) _ front ok.left_full) (before (drop b.gap_end cs) _ xs back ok.right_full)

  -- items leave without a move
  left_part : (k : ℕ) → k ≤ b.gap_start → Holds (take k cs) (take k L)
  left_part k h =
      let front = take b.gap_start cs in let same : take k cs ≡ take k front = sym (take-take k b.gap_start cs h) in
      let within : k ≤ length front = omega (arith, length-take-le b.gap_start cs (omega (arith, ok.gap, ok.within, ok.places_count))) in
      (subst IsFull (sym same) (IsFull-take k front ok.left_full), ap items_of same ∙ items_of-take k front ok.left_full within)

  right_part : (n : ℕ) → b.gap_end + n ≤ b.capacity → Holds (drop (b.gap_end + n) cs) (drop n R)
  right_part n h =
      let back = drop b.gap_end cs in let same : drop (b.gap_end + n) cs ≡ drop n back = sym (drop-drop n b.gap_end cs) in
      let within : n ≤ length back = omega (arith, length-drop b.gap_end cs, ok.places_count) in
      (subst IsFull (sym same) (IsFull-drop n back ok.right_full), ap items_of same ∙ items_of-drop n back ok.right_full within)

  pub cut_left : (n : ℕ) → n ≤ length L → Becomes b.places (b.gap_start - n) b.gap_end (take (length L - n) L) R
  cut_left n h =
      let kept : length L - n ≡ b.gap_start - n = ap (λ k. k - n) left_count in let part = left_part (b.gap_start - n) (omega arith) in
      becomes b.places (b.gap_start - n) b.gap_end _ R refl refl (omega (arith, ok.gap)) ok.within (part.0, part.1 ∙ ap (λ k. take k L) (sym kept)) (ok.right_full, refl)

  pub cut_right : (n : ℕ) → n ≤ length R → Becomes b.places b.gap_start (b.gap_end + n) L (drop n R)
  cut_right n h =
      let within : b.gap_end + n ≤ b.capacity = omega (arith, right_count) in
      becomes b.places b.gap_start (b.gap_end + n) L _ refl refl (omega (arith, ok.gap)) within (ok.left_full, refl) (right_part n within)

  -- the place next to the gap has an item, which the call takes
  module _ (some : 0 < b.gap_start) where
    abbrev last : ℕ
    last = b.gap_start - 1

    pub last_some : (last < length cs) × IsSome (get_or cs last None)
    last_some =
        let front = take b.gap_start cs in let long = length-take-le b.gap_start cs (omega (arith, ok.gap, ok.within, ok.places_count)) in
        (omega (arith, ok.gap, ok.within, ok.places_count), subst IsSome (get_or-take b.gap_start cs last None (omega arith)) (some_at front last ok.left_full (omega (arith, long))))

    pub popped_left : (x : T) → get_or cs last None ≡ Some x → IsLaidOut (record b { gap_start = last }) × (L ≡ items_of (take last cs) ++ x ∷ [])
    popped_left x is =
        let part = left_part last (omega arith) in
        let at : b.gap_start ≡ suc last = omega arith in
        let row : take b.gap_start cs ≡ take last cs ++ map Some (x ∷ []) = ap (λ k. take k cs) at ∙ take-suc cs last None last_some.0 ∙ ap (λ c. take last cs ++ c ∷ []) is in
        ((becomes b.places last b.gap_end _ R refl refl (omega (arith, ok.gap)) ok.within part (ok.right_full, refl)).0, (after (take last cs) _ (x ∷ []) row part.0).1)

  module _ (some : b.gap_end < b.capacity) where
    pub first_some : (b.gap_end < length cs) × IsSome (get_or cs b.gap_end None)
    first_some =
        let back = drop b.gap_end cs in
        (omega (arith, ok.places_count), subst IsSome (get_or-drop b.gap_end cs 0 None ∙ ap (λ k. get_or cs k None) (omega arith)) (some_at back 0 ok.right_full (omega (arith, length-drop b.gap_end cs, ok.places_count))))

  -- a run crosses the gap
  module _ (n : ℕ) (p : Slots T) (at : p.at ≡ b.places.at) where
    module _ (h : n ≤ length R) where
      abbrev next : List (Option T)
      next = run b.gap_end n cs

      next_within : b.gap_end + n ≤ b.capacity
      next_within = omega (arith, right_count)

      next_holds : Holds next (take n R)
      next_holds = let back = drop b.gap_end cs in let within : n ≤ length back = omega (arith, length-drop b.gap_end cs, ok.places_count, next_within) in
          (IsFull-take n back ok.right_full, items_of-take n back ok.right_full within)

      pub next_full : (b.gap_end + n ≤ length cs) × (b.gap_start + n ≤ length cs) × IsFull next
      next_full = (omega (arith, next_within, ok.places_count), omega (arith, next_within, ok.gap, ok.places_count), next_holds.0)

      pub shifted_left : IsShifted cs b.gap_end b.gap_start n p.slots → Becomes p (b.gap_start + n) (b.gap_end + n) (L ++ take n R) (drop n R)
      shifted_left is =
          let front : take (b.gap_start + n) p.slots ≡ take b.gap_start cs ++ next = take-add b.gap_start n p.slots ∙ (λ k. is.below b.gap_start ok.gap (omega arith) k ++ is.moved k) in
          let back : drop (b.gap_end + n) p.slots ≡ drop (b.gap_end + n) cs = is.above (b.gap_end + n) (omega arith) (omega (arith, ok.gap)) in
          let both = full_both (take b.gap_start cs) next _ front ok.left_full next_holds.0 in
          let rest = right_part n next_within in let gone = same_row (drop (b.gap_end + n) cs) _ back rest.0 in
          becomes p (b.gap_start + n) (b.gap_end + n) (L ++ take n R) (drop n R) at is.count (omega (arith, ok.gap)) next_within
          (both.0, both.1 ∙ ap (λ ys. L ++ ys) next_holds.1) (gone.0, gone.1 ∙ rest.1)

    module _ (h : n ≤ length L) where
      abbrev low : ℕ
      low = b.gap_start - n

      abbrev tail : List (Option T)
      tail = run low n cs

      low_within : low + n ≡ b.gap_start
      low_within = omega (arith, left_count)

      tail_is : tail ≡ drop low (take b.gap_start cs)
      tail_is = sym (ap (λ k. drop low (take k cs)) (sym low_within) ∙ drop-take low n cs)

      tail_holds : Holds tail (drop (length L - n) L)
      tail_holds =
          let front = take b.gap_start cs in let within : low ≤ length front = omega (arith, length-take-le b.gap_start cs (omega (arith, ok.gap, ok.within, ok.places_count))) in
          let same : length L - n ≡ low = ap (λ k. k - n) left_count in
          (subst IsFull (sym tail_is) (IsFull-drop low front ok.left_full), ap items_of tail_is ∙ items_of-drop low front ok.left_full within ∙ ap (λ k. drop k L) (sym same))

      pub tail_full : (low + n ≤ length cs) × (b.gap_end - n + n ≤ length cs) × IsFull tail
      tail_full = (omega (arith, low_within, ok.gap, ok.within, ok.places_count), omega (arith, low_within, ok.gap, ok.within, ok.places_count), tail_holds.0)

      pub shifted_right : IsShifted cs low (b.gap_end - n) n p.slots → Becomes p low (b.gap_end - n) (take (length L - n) L) (drop (length L - n) L ++ R)
      shifted_right is =
          let to = b.gap_end - n in let after_it : to + n ≡ b.gap_end = omega (arith, low_within, ok.gap) in
          let next : drop (to + n) p.slots ≡ drop b.gap_end cs = is.above (to + n) (omega (arith, low_within, ok.gap)) (omega arith) ∙ ap (λ k. drop k cs) after_it in
          let back : drop to p.slots ≡ tail ++ drop b.gap_end cs = sym (take-append-drop n (drop to p.slots)) ∙ (λ k. is.moved k ++ (drop-drop n to p.slots ∙ next) k) in
          let front : take low p.slots ≡ take low cs = is.below low (omega arith) (omega (arith, low_within, ok.gap)) in
          let both = full_both tail (drop b.gap_end cs) _ back tail_holds.0 ok.right_full in
          let part = left_part low (omega arith) in let kept = same_row (take low cs) _ front part.0 in
          let same : length L - n ≡ low = ap (λ k. k - n) left_count in
          becomes p low to (take (length L - n) L) (drop (length L - n) L ++ R) at is.count (omega (arith, low_within, ok.gap)) (omega (arith, ok.within))
          (kept.0, kept.1 ∙ part.1 ∙ ap (λ k. take k L) (sym same)) (both.0, both.1 ∙ ap (λ ys. ys ++ R) tail_holds.1)
