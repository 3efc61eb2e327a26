-- Two runs of places that lie apart come out of one row, and go back after one has moved to the other. Assumes `Logic`.
use mathlib.Core.Path.{◌≡◌, refl, sym, ap, ◌∙◌}
use Prim.Native.Nat.{ℕ, ◌+◌, ◌-◌, ◌*◌, ◌≤◌}
use native.Mathlib.Omega.{arith}
use mathlib.Core.Logic.{◌⊎◌, inl, inr}
use mathlib.Core.List.{List, [], ◌∷◌, ◌++◌, map}
use lib.ListN.{length, take, drop, replicate, length-drop, length-replicate}
use lib.Seq.{length-take-le}
use seplogic.Ra.Ura.{Ura}
use base.Fraction.{full_share}
use mir.Syntax.{ty_array}
use base.Logic.{ent, sep, id⊢, mono_r}
use base.Fml.{Fml, fsep, froom}
use types.Logic.{Logic, sem}
use types.Kit.{‵, ◌⊛◌, given, ◌$◌, ◌∵◌, !, qed, by, move, use1, use2, split, learn, rewrite, fsplit, fjoin, done}
use denote.Array.{Array}
use denote.Index.{row}
use denote.Memory.{part_at}
use Rattle.std.specs.Prelude.{Some, None}
use Rattle.std.proofs.lemmas.List.{length-map}
use Rattle.core.proofs.mem.Param.{El, R, el_x, elτ}
use Rattle.core.proofs.ptr.Rows as arrays
use Rattle.core.proofs.ptr.Rows.{add_times}
use Rattle.trac_gap.specs.Ownership.{row_owns}
use Rattle.trac_gap.specs.Slots.{items_of, IsFull, IsShifted, run}
use Rattle.trac_gap.proofs.Rows.{Slot, step_size, cut, glue, of_room, to_room}
use Rattle.trac_gap.proofs.Shifted.{both, both_is, five, shifted_down, shifted_up}

module _ (E : El) {M : Type 1} {𝓤 : Ura M} (𝓛 : Logic 𝓤) (b : ℕ) where
  abbrev s : ℕ
  s = step_size E

  abbrev Row : ℕ → List (Slot E) → Fml
  Row = row_owns (R E) b

  -- full places as an array of values
  module _ (xs : List (el_x E)) (n : ℕ) (long : length xs ≡ n) where
    abbrev E' : arrays.El
    E' = record { row = E.row; laws = E.laws }

    as_row : (ys : List (el_x E)) (o : ℕ) → ent 𝓤 (sem 𝓛 (Row o (map Some ys))) (sem 𝓛 (row (R E) full_share ys b o))
    as_row [] o = id⊢ 𝓤 _
    as_row (y ∷ ys) o = mono_r 𝓤 (sem 𝓛 (part_at (R E) full_share y b o)) (as_row ys (o + s))

    of_row : (ys : List (el_x E)) (o : ℕ) → ent 𝓤 (sem 𝓛 (row (R E) full_share ys b o)) (sem 𝓛 (Row o (map Some ys)))
    of_row [] o = id⊢ 𝓤 _
    of_row (y ∷ ys) o = mono_r 𝓤 (sem 𝓛 (part_at (R E) full_share y b o)) (of_row ys (o + s))

    pub to_values : (o : ℕ) → ent 𝓤 (sem 𝓛 (Row o (map Some xs))) (sem 𝓛 (part_at (Array (R E) n) full_share xs b o))
    to_values o = qed 𝓛 (‵ (Row o (map Some xs)) ∷ []) ∵ use1 𝓛 (‵ (row (R E) full_share xs b o)) (as_row xs o) $ by ! (arrays.whole E' 𝓛 full_share n xs b o long)

    pub of_values : (o : ℕ) → ent 𝓤 (sem 𝓛 (part_at (Array (R E) n) full_share xs b o)) (sem 𝓛 (Row o (map Some xs)))
    of_values o = qed 𝓛 (‵ (part_at (Array (R E) n) full_share xs b o) ∷ []) ∵
        use1 𝓛 (given (length xs ≡ n) (‵ (row (R E) full_share xs b o))) (arrays.apart E' 𝓛 full_share n xs b o) $ learn ! (λ _. by ! (of_row xs o))

  module _ (o : ℕ) (cs : List (Slot E)) (low high n : ℕ) (apart : low + n ≤ high) (fits : high + n ≤ length cs) where
    abbrev middle : List (Slot E)
    middle = run (low + n) (high - (low + n)) cs

    -- the places but for the two runs
    abbrev pub Others : Fml
    Others = fsep (Row o (take low cs)) (fsep (Row ((low + n) * s + o) middle) (Row ((high + n) * s + o) (drop (high + n) cs)))

    at_low : low * s + o ≡ length (take low cs) * s + o
    at_low = ap (λ k. k * s + o) (sym (length-take-le low cs (omega arith)))

    at_middle : (l : ℕ) → l ≡ n → (low + n) * s + o ≡ l * s + (low * s + o)
    at_middle l e = let p = add_times low n s in let q : l * s ≡ n * s = ap (λ k. k * s) e in omega arith

    at_high : high * s + o ≡ length middle * s + ((low + n) * s + o)
    at_high =
        let g = high - (low + n) in let long : length middle ≡ g = length-take-le g (drop (low + n) cs) (omega (arith, length-drop (low + n) cs)) in
        let p = add_times (low + n) g s in let q : length middle * s ≡ g * s = ap (λ k. k * s) long in
        let e : high ≡ low + n + g = omega arith in let r : high * s ≡ (low + n + g) * s = ap (λ k. k * s) e in omega arith

    at_end : (l : ℕ) → l ≡ n → (high + n) * s + o ≡ l * s + (high * s + o)
    at_end l e = let p = add_times high n s in let q : l * s ≡ n * s = ap (λ k. k * s) e in omega arith

    run_count : (i : ℕ) → i + n ≤ length cs → length (run i n cs) ≡ n
    run_count i h = length-take-le n (drop i cs) (omega (arith, length-drop i cs))

    pub two_out : ent 𝓤 (sem 𝓛 (Row o cs)) (sep 𝓤 (sem 𝓛 (Row (low * s + o) (run low n cs))) (sep 𝓤 (sem 𝓛 (Row (high * s + o) (run high n cs))) (sem 𝓛 Others)))
    two_out =
        let end = drop (high + n) cs in let third = run high n cs ++ end in let second = middle ++ third in let first = run low n cs ++ second in
        qed 𝓛 (‵ (Row o cs) ∷ []) ∵ rewrite ! 0 (λ (l : List (Slot E)). ‵ (Row o l)) (sym (five cs low high n apart)) refl $
        use1 𝓛 (‵ (Row o (take low cs)) ⊛ ‵ (Row (low * s + o) first)) (cut E 𝓛 b (take low cs) first o (low * s + o) at_low) $ split ! $ move ! (1 ∷ []) $
        use1 𝓛 (‵ (Row (low * s + o) (run low n cs)) ⊛ ‵ (Row ((low + n) * s + o) second)) (cut E 𝓛 b (run low n cs) second (low * s + o) ((low + n) * s + o) (at_middle _ (run_count low (omega arith)))) $ split ! $ move ! (1 ∷ []) $
        use1 𝓛 (‵ (Row ((low + n) * s + o) middle) ⊛ ‵ (Row (high * s + o) third)) (cut E 𝓛 b middle third ((low + n) * s + o) (high * s + o) at_high) $ split ! $ move ! (1 ∷ []) $
        use1 𝓛 (‵ (Row (high * s + o) (run high n cs)) ⊛ ‵ (Row ((high + n) * s + o) end)) (cut E 𝓛 b (run high n cs) end (high * s + o) ((high + n) * s + o) (at_end _ (run_count high fits))) $ split ! $
        -- [the high run; the end; the middle; the low run; the front]
        move ! (2 ∷ 1 ∷ []) $ fjoin ! $ move ! (3 ∷ 0 ∷ []) $ fjoin ! $ move ! (2 ∷ 1 ∷ 0 ∷ []) $ done !

    pub two_in : (ws vs : List (Slot E)) (p : length ws ≡ n) (q : length vs ≡ n)
        → ent 𝓤 (sep 𝓤 (sem 𝓛 (Row (low * s + o) ws)) (sep 𝓤 (sem 𝓛 (Row (high * s + o) vs)) (sem 𝓛 Others))) (sem 𝓛 (Row o (both cs low high n apart fits ws vs p q)))
    two_in ws vs p q =
        let end = drop (high + n) cs in let third = vs ++ end in let second = middle ++ third in let first = ws ++ second in
        qed 𝓛 (‵ (Row (low * s + o) ws) ∷ ‵ (Row (high * s + o) vs) ∷ ‵ Others ∷ []) ∵ move ! (2 ∷ []) $ fsplit ! $ move ! (1 ∷ []) $ fsplit ! $
        -- [the middle; the end; the front; the low run; the high run]
        move ! (4 ∷ 1 ∷ []) $ use2 𝓛 (‵ (Row (high * s + o) third)) (glue E 𝓛 b vs end (high * s + o) ((high + n) * s + o) (at_end _ q)) $ move ! (1 ∷ 0 ∷ []) $
        use2 𝓛 (‵ (Row ((low + n) * s + o) second)) (glue E 𝓛 b middle third ((low + n) * s + o) (high * s + o) at_high) $ move ! (2 ∷ 0 ∷ []) $
        use2 𝓛 (‵ (Row (low * s + o) first)) (glue E 𝓛 b ws second (low * s + o) ((low + n) * s + o) (at_middle _ p)) $ move ! (1 ∷ 0 ∷ []) $
        use2 𝓛 (‵ (Row o (take low cs ++ first))) (glue E 𝓛 b (take low cs) first o (low * s + o) at_low) $
        rewrite ! 0 (λ (l : List (Slot E)). ‵ (Row o l)) (sym (both_is cs low high n apart fits ws vs p q)) refl $ done !

  -- n values leave the places from `from` on, where `to` has room for them, and arrive
  module _ (o : ℕ) (cs : List (Slot E)) (n : ℕ) where
    abbrev at : ℕ → ℕ
    at i = i * s + o

    pub record Plan (from to : ℕ) : Type 1 where
      pub values : List (el_x E)
      pub Rest : Fml
      pub new : List (Slot E)
      pub out : ent 𝓤 (sem 𝓛 (Row o cs)) (sep 𝓤 (sem 𝓛 (part_at (Array (R E) n) full_share values b (at from))) (sep 𝓤 (sem 𝓛 (froom (ty_array (elτ E) n) b (at to))) (sem 𝓛 Rest)))
      pub back : ent 𝓤 (sep 𝓤 (sem 𝓛 (part_at (Array (R E) n) full_share values b (at to))) (sep 𝓤 (sem 𝓛 (froom (ty_array (elτ E) n) b (at from))) (sem 𝓛 Rest))) (sem 𝓛 (Row o new))
      pub shifted : IsShifted cs from to n new

    empty : (i : ℕ) (ws : List (Slot E)) → length ws ≡ n → ent 𝓤 (sem 𝓛 (Row (at i) ws)) (sem 𝓛 (froom (ty_array (elτ E) n) b (at i)))
    empty i ws e = qed 𝓛 (‵ (Row (at i) ws) ∷ []) ∵ use1 𝓛 (‵ (froom (ty_array (elτ E) (length ws)) b (at i))) (to_room E 𝓛 b ws (at i)) $
        rewrite ! 0 (λ (k : ℕ). ‵ (froom (ty_array (elτ E) k) b (at i))) e refl $ done !

    module _ (from to : ℕ) (fits : from + n ≤ length cs) (room : to + n ≤ length cs) (full : IsFull (run from n cs)) where
      abbrev xs : List (el_x E)
      xs = items_of (run from n cs)

      count : (i : ℕ) → i + n ≤ length cs → length (run i n cs) ≡ n
      count i h = length-take-le n (drop i cs) (omega (arith, length-drop i cs))

      long : length xs ≡ n
      long = sym (length-map xs Some) ∙ ap length (sym full) ∙ count from fits

      all : length (map Some xs) ≡ n
      all = ap length (sym full) ∙ count from fits

      -- places that hold nothing
      abbrev gone : List (Slot E)
      gone = replicate n None

      none : length gone ≡ n
      none = length-replicate n None

      pub plan : (from + n ≤ to) ⊎ (to + n ≤ from) → Plan from to
      plan (inl up) = record {
        values = xs;
        Rest = Others o cs from to n up room;
        new = both cs from to n up room gone (map Some xs) none all;
        out = qed 𝓛 (‵ (Row o cs) ∷ []) ∵
            use1 𝓛 (‵ (Row (at from) (run from n cs)) ⊛ ‵ (Row (at to) (run to n cs)) ⊛ ‵ (Others o cs from to n up room)) (two_out o cs from to n up room) $ split ! $
            rewrite ! 0 (λ (l : List (Slot E)). ‵ (Row (at from) l)) full refl $ use1 𝓛 (‵ (part_at (Array (R E) n) full_share xs b (at from))) (to_values xs n long (at from)) $ move ! (1 ∷ []) $ split ! $
            use1 𝓛 (‵ (froom (ty_array (elτ E) n) b (at to))) (empty to (run to n cs) (count to room)) $ move ! (2 ∷ 0 ∷ 1 ∷ []) $ done !;
        back = qed 𝓛 (‵ (part_at (Array (R E) n) full_share xs b (at to)) ∷ ‵ (froom (ty_array (elτ E) n) b (at from)) ∷ ‵ (Others o cs from to n up room) ∷ []) ∵
            use1 𝓛 (‵ (Row (at to) (map Some xs))) (of_values xs n long (at to)) $ move ! (1 ∷ []) $ use1 𝓛 (‵ (Row (at from) gone)) (of_room E 𝓛 b n (at from)) $
            by ! (two_in o cs from to n up room gone (map Some xs) none all);
        shifted = shifted_up cs from to n up room gone (map Some xs) none all (sym full);
      }
      plan (inr down) = record {
        values = xs;
        Rest = Others o cs to from n down fits;
        new = both cs to from n down fits (map Some xs) gone all none;
        out = qed 𝓛 (‵ (Row o cs) ∷ []) ∵
            use1 𝓛 (‵ (Row (at to) (run to n cs)) ⊛ ‵ (Row (at from) (run from n cs)) ⊛ ‵ (Others o cs to from n down fits)) (two_out o cs to from n down fits) $ split ! $
            use1 𝓛 (‵ (froom (ty_array (elτ E) n) b (at to))) (empty to (run to n cs) (count to room)) $ move ! (1 ∷ []) $ split ! $
            rewrite ! 0 (λ (l : List (Slot E)). ‵ (Row (at from) l)) full refl $ use1 𝓛 (‵ (part_at (Array (R E) n) full_share xs b (at from))) (to_values xs n long (at from)) $ move ! (0 ∷ 2 ∷ 1 ∷ []) $ done !;
        back = qed 𝓛 (‵ (part_at (Array (R E) n) full_share xs b (at to)) ∷ ‵ (froom (ty_array (elτ E) n) b (at from)) ∷ ‵ (Others o cs to from n down fits) ∷ []) ∵
            use1 𝓛 (‵ (Row (at to) (map Some xs))) (of_values xs n long (at to)) $ move ! (1 ∷ []) $ use1 𝓛 (‵ (Row (at from) gone)) (of_room E 𝓛 b n (at from)) $ move ! (1 ∷ 0 ∷ []) $
            by ! (two_in o cs to from n down fits (map Some xs) gone all none);
        shifted = shifted_down cs to from n down fits (map Some xs) gone all none (sym full);
      }
