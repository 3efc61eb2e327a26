-- `grow` asks whether there is room, and then the backing. What the backing refuses is counted back.
use Rattle.trac_memory.proofs.Steps.{◌≡◌, ℕ, ◌^◌, ◌<◌, Bool, true, false, List, [], ◌∷◌, refl, w64, Bor, Ura, Fn, Body, Val, vbool, vint, vptr, inst_fn, SProp, ent, ex, id⊢, never_e, Lft, Share, Fml, ftrue, flft, Memory, size, capped, capped_fits, Routine, Env, Wp, WpFn, Tables, after_seq, at_return, Logic, Item, ‵, raw, ⋆, ◌⊛◌, some, later, given, at_ret, any_q, After, ◌$◌, ◌∵◌, !, qed, by, move, keep, use0, use1, use2, split, split3, join, pick, learn, fsplit, fjoin, suffices, await, done, stop, fld, addr, un, size_word, no_more, and_then, of_opd, lit, first, branches, skips, switches_on, exec, returns, returns_within, enter, vrt, in_variant, whole, agg, alloc_all, pass_all, free_all, look_at, get, get_in, get_tag, through, sets, sets_last, lands_as, env, ◌⊑◌, ⊑_trans, Fun, tables, tables_of, fm_of, WpFn-mono, usize, RawPtr, RattleType, yes, shr_dup, unhide, layout, param, uint_vals, uint_Tells, owns, Ptr, block_ptr, null_ptr, ptr_val, rawptr_vals, rawptr_Tells, shr_vals, plain, types_at, nothing, calls_at, Ended, Clauses, triple_of, Triple, entered, cited, Stays, stay_dropped, walk_of, ends_at, walked, Goes-dropped, walk_Meets, after, front, arm_body}
use Rattle.trac_memory.proofs.Lent.{args_at, self_at, backing_in, room_in}
use Rattle.std.specs.Allocator.{block_with_items, resized_if_ok}
use Rattle.std.proofs.alloc.Calls.{Al, token, seen, Answer, answer_val, Answer-typed}
use Rattle.std.proofs.alloc.Resizes.{Grows, resize_key, Resizes, at_resizes, left_by, Resized, Resizes-goes, Resizes-gives, result_of, result_own, flagged, asked as told, heard_all}
use Rattle.trac_memory.proofs.Asking.{Asks, asks_with, Asks-starts, Asks-ends}
use Rattle.trac_memory.proofs.room.exchange.Symbol as asked
use Rattle.trac_memory.proofs.room.exchange.Met as asked_met
use denote.Param.Laws.{param_laws}
use Rattle.trac_memory.proofs.limited.Limited.TheLaws as limited_laws
use Rattle.trac_memory.specs.contracts.limited.Limited as limited
use Rattle.trac_memory.specs.contracts.limited.LimitedAllocator.grow as this
use Rattle.trac_memory.specs.contracts.limited.LimitedAllocator.grow.Key as key
use Rattle.trac_memory.proofs.limited.LimitedAllocator.grow.Statement as stated
use Rattle.trac_memory.proofs.limited.LimitedAllocator.grow.Code as code

module _ (Z : Al) (X : RattleType) where
  abbrev body : Fn
  body = inst_fn (args_at Z X) code.function

  abbrev ended : Ended
  ended = this.ended Z.row X Z.g Z.d Z.drops

  abbrev stayed : Stays ended.signature.params ended.kept
  stayed = (stay_dropped (self_at Z) yes, (stay_dropped (plain (λ _. RawPtr)) yes, (stay_dropped (plain (λ _. usize)) yes, (stay_dropped (plain (λ _. usize)) yes, (stay_dropped (plain (λ _. usize)) yes, tt)))))

module _ (Z : Al) (X : RattleType) {M : Type 1} {𝓤 : Ura M} (𝓛 : Logic 𝓤) (at_mem : Memory → SProp 𝓤) (run : Routine → Fun 𝓤) (𝓣 : Tables 𝓤 𝓛.H)
    (backing : Triple 𝓤 (𝓣.C (resize_key Z X 2)) (Resizes Z X (Grows X) 𝓛 at_mem run)) (asking : Triple 𝓤 (𝓣.C asked.name) (Asks 𝓛 at_mem run)) where
  open 𝓛 use {H}

  abbrev clauses : Clauses 𝓤 (ended Z X)
  clauses = this.clauses Z.row X Z.g Z.d Z.drops 𝓛 at_mem run

  -- the size of a value, as the code has it
  abbrev s : ℕ
  s = capped (size (layout X))

  module _ (κ ρ κT : Lft) (q qρ qT : Share) (out : κ ⊑ ρ) (r : Bor (limited.the_row Z.row).Denot) (len old new : ℕ) (xs : List X.Denot) where
    abbrev bound : Ptr → (walk_of 𝓛 (ended Z X) (stayed Z X) clauses).Ghost
    bound x = (((κ, (ρ, (κT, tt))), (q, (qρ, (qT, tt))), (out, tt), (r, (x, (len, (old, (new, tt))))), (shr_vals r, (rawptr_vals x, (vint w64 len ∷ [], (vint w64 old ∷ [], (vint w64 new ∷ [], tt)))))), xs)

    abbrev vs : Ptr → List Val
    vs x = vptr r.ref_ptr.0 r.ref_ptr.1 ∷ ptr_val x ∷ vint w64 len ∷ vint w64 old ∷ vint w64 new ∷ []

    abbrev Post : Ptr → Val → SProp 𝓤
    Post x = (walk_of 𝓛 (ended Z X) (stayed Z X) clauses).post (bound x)

    abbrev passed : Ptr → Item 𝓤
    passed x = (‵ (flft κ q) ⊛ ‵ (flft ρ qρ) ⊛ ‵ (flft κT qT) ⊛ ‵ ftrue) ⊛ ‵ (owns (types_at (ended Z X).signature.params (bound x).0.0) (bound x).0.3 (bound x).0.4)

    abbrev block : Ptr → Fml
    block x = block_with_items (token Z r.now.backing) (param 1 X) x len old xs

    -- either end: an answer with what comes with it, and the tokens
    ending : (x : Ptr) (y : Bool) (b o : ℕ) → ent 𝓤 (⋆ 𝓛 (‵ (resized_if_ok (token Z r.now.backing) (param 1 X) x len old new xs (result_of y b o)) ∷ ‵ (flft κ q) ∷ ‵ (flft ρ qρ) ∷ ‵ (flft κT qT) ∷ [])) (Post x (answer_val y b o))
    ending x y b o = qed 𝓛 (‵ (resized_if_ok (token Z r.now.backing) (param 1 X) x len old new xs (result_of y b o)) ∷ ‵ (flft κ q) ∷ ‵ (flft ρ qρ) ∷ ‵ (flft κT qT) ∷ []) ∵
        suffices ! _ (ends_at 𝓛 (ended Z X) (stayed Z X) clauses (bound x) (answer_val y b o) (result_of y b o) (tt, (tt, (tt, (tt, (tt, tt))))) (tt, (tt, (tt, (tt, (tt, tt)))))) $
        use0 𝓛 (‵ (Answer.own_val (result_of y b o) (answer_val y b o ∷ []))) (result_own 𝓛 y b o) $
        nothing ! $ nothing ! $ fjoin ! $ nothing ! $ fjoin ! $ nothing ! $ fjoin ! $ nothing ! $ fjoin ! $ nothing ! $ fjoin ! $ join ! $
        nothing ! $ move ! (5 ∷ 0 ∷ []) $ join ! $ move ! (4 ∷ 0 ∷ []) $ join ! $ move ! (3 ∷ 0 ∷ []) $ join ! $ join ! $ done !

    walk : len < 2 ^ 64 → old < 2 ^ 64 → new < 2 ^ 64 → (x : Ptr) → ent 𝓤 ((walk_of 𝓛 (ended Z X) (stayed Z X) clauses).pre (bound x)) (WpFn 𝓤 H 𝓣.C 𝓣.Λ (body Z X) (vs x) (Post x))
    -- no block lies at null
    walk fits_len fits_old fits_new null_ptr =
        qed 𝓛 (passed null_ptr ∷ raw (told 𝓛 (ρ ⊑ Z.row.lives) (κT ⊑ X.lives) (Grows X len old new) (block null_ptr)) ∷ []) ∵ move ! (1 ∷ []) $
        heard_all ! (ρ ⊑ Z.row.lives) (κT ⊑ X.lives) (Grows X len old new) (block null_ptr) (λ _ _ _. fsplit ! $ keep ! (0 ∷ []) $ by ! (never_e 𝓤 _))
    walk fits_len fits_old fits_new (block_ptr b o) =
        let x : Ptr = block_ptr b o in
        let h : Z.row.Denot = r.now.backing in
        let p : ℕ × ℕ = backing_in Z r in
        let c : ℕ × ℕ = room_in Z r in
        let y : (Resizes Z X (Grows X) 𝓛 at_mem run).Ghost = at_resizes Z X (Grows X) 𝓛 at_mem run κ κT q qT p h b o len old new xs in
        let left : Answer.Denot → Fml = left_by Z X (Grows X) 𝓛 at_mem run κ κT q qT p h b o len old new xs in
        qed 𝓛 (passed x ∷ raw (told 𝓛 (ρ ⊑ Z.row.lives) (κT ⊑ X.lives) (Grows X len old new) (block x)) ∷ []) ∵
        move ! (1 ∷ []) $ heard_all ! (ρ ⊑ Z.row.lives) (κT ⊑ X.lives) (Grows X len old new) (block x) (λ within within_X said. move ! (1 ∷ []) $
        split ! $ split3 ! $ move ! (2 ∷ []) $ split ! $ move ! (4 ∷ []) $ fsplit ! $ fsplit ! $ keep ! (1 ∷ 5 ∷ 7 ∷ 6 ∷ 3 ∷ []) $
        shr_dup ! (limited.the_row (param 0 Z.row)) (limited_laws.the_row_laws (param 0 Z.row) (param_laws 0 Z.row Z.laws)).shr_laws r.now r.ref_ptr.0 r.ref_ptr.1 κ $
        unhide ! $ fsplit ! $ fsplit ! $ use1 𝓛 (‵ (seen Z κ p h)) (id⊢ 𝓤 _) $ move ! (1 ∷ []) $ fsplit ! $ keep ! (4 ∷ 0 ∷ 2 ∷ 5 ∷ 6 ∷ 7 ∷ 8 ∷ []) $
        unhide ! $ fsplit ! $ fsplit ! $ move ! (1 ∷ []) $ fsplit ! $ keep ! (4 ∷ 6 ∷ 5 ∷ 7 ∷ 8 ∷ 9 ∷ 0 ∷ []) $
        -- [a `&` to the room; the token of `self`; a `&` to the backing; the block; the other tokens; a `&` to the room]
        enter ! 𝓣.C 𝓣.Λ (body Z X) (vs x) _ $ alloc_all ! (λ l. pass_all ! refl ((tt, tt), ((tt, tt), ((tt, record { fits = fits_len }), ((tt, record { fits = fits_old }), ((tt, record { fits = fits_new }), tt))))) $
        let En : Env 𝓤 H = env (body Z X).locals l in
        sets ! (addr ! (through ! refl (fld ! refl (stop !)))) refl (tt, tt) $
        use2 𝓛 (raw ((Asks 𝓛 at_mem run).pre (asks_with 𝓛 at_mem run κ q c old new s))) (Asks-starts 𝓛 at_mem run κ q c old new s fits_old fits_new (capped_fits (size (layout X)))) $
        calls_at ! (fm_of 𝓤 H 𝓛.laws 𝓣) (Asks 𝓛 at_mem run) asking (asks_with 𝓛 at_mem run κ q c old new s) (and_then ! (get ! refl) (and_then ! (get ! refl) (and_then ! (get ! refl) (and_then ! (size_word !) (no_more !))))) (λ u.
        use1 𝓛 (later (some (λ (b' : Bool). given (u ≡ vbool b') (‵ (flft κ q))))) (Asks-ends 𝓛 at_mem run κ q c old new s u) $ await ! tt $ pick ! (λ b'. learn ! (λ is.
        lands_as ! is refl (tt, tt) $ sets ! (un ! (get ! refl) tt) refl (tt, tt) $
        -- [the token of `self`; a `&` to the backing; the block; the other tokens; a `&` to the room]
        first ! $ branches ! (get ! refl)
        (λ refused. sets ! (agg ! (no_more !)) refl (tt, tt) $
        sets ! (agg ! (and_then ! (lit ! tt) (and_then ! (get ! refl) (no_more !)))) refl (Answer-typed false 0 0) $
        returns_within ! (Post x) refl (look_at ! 0 refl) $ free_all ! refl $ keep ! (2 ∷ 0 ∷ 3 ∷ 4 ∷ []) $ by ! (ending x false 0 0))
        (λ accepted. skips ! $ exec ! 𝓣.C 𝓣.Λ En (after 4 (body Z X).body) (at_ret En (Post x)) $
        let Then : After 𝓤 H = any_q (after_seq 𝓤 H (Wp 𝓤 H 𝓣.C 𝓣.Λ En (after 7 (body Z X).body) (at_return 𝓤 H En (Post x))) (at_return 𝓤 H En (Post x))) in
        let both : Body = front (after 6 (body Z X).body) in
        sets ! (addr ! (through ! refl (fld ! refl (stop !)))) refl (tt, tt) $
        move ! (0 ∷ 4 ∷ []) $ join ! $ move ! (1 ∷ 0 ∷ []) $ join ! $ move ! (1 ∷ 0 ∷ []) $ join ! $
        use1 𝓛 (raw ((Resizes Z X (Grows X) 𝓛 at_mem run).pre y)) (Resizes-goes Z X (Grows X) 𝓛 at_mem run κ κT q qT p h b o len old new xs (⊑_trans κ ρ Z.row.lives out within) within_X said fits_len fits_old fits_new) $
        calls_at ! (fm_of 𝓤 H 𝓛.laws 𝓣) (Resizes Z X (Grows X) 𝓛 at_mem run) backing y (and_then ! (get ! refl) (and_then ! (get ! refl) (and_then ! (get ! refl) (and_then ! (get ! refl) (and_then ! (get ! refl) (no_more !)))))) (λ v.
        use1 𝓛 (later (raw (ex 𝓤 (Resized Z X (Grows X) 𝓛 at_mem run κ κT q qT p h b o len old new xs v)) ⊛ ‵ (flft κ q) ⊛ ‵ (flft κT qT)))
        (Resizes-gives Z X (Grows X) 𝓛 at_mem run κ κT q qT p h b o len old new xs v) $ await ! tt $ split3 ! $
        -- [what came back; the token of `self`; that of the values; the other; a `&` to the room]
        flagged ! v left
        (λ at off e. lands_as ! e refl (Answer-typed true at off) $
        first ! $ switches_on ! (get_tag ! (vrt ! refl (fld ! refl (stop !))) (whole !)) $ exec ! 𝓣.C 𝓣.Λ En (arm_body 0 both) Then $
        sets ! (of_opd ! (get_in ! (vrt ! refl (fld ! refl (stop !))) (in_variant ! 0 0 refl refl (whole !)))) refl (tt, tt) $
        sets_last ! (agg ! (and_then ! (lit ! tt) (and_then ! (get ! refl) (no_more !)))) refl (Answer-typed true at off) $
        exec ! 𝓣.C 𝓣.Λ En (after 7 (body Z X).body) (at_ret En (Post x)) $ sets ! (of_opd ! (get ! refl)) refl (Answer-typed true at off) $ returns ! (look_at ! 0 refl) $ free_all ! refl $
        keep ! (0 ∷ 1 ∷ 3 ∷ 2 ∷ []) $ by ! (ending x true at off))
        (λ e. lands_as ! e refl (Answer-typed false 0 0) $
        first ! $ switches_on ! (get_tag ! (vrt ! refl (fld ! refl (stop !))) (whole !)) $ exec ! 𝓣.C 𝓣.Λ En (arm_body 1 both) Then $
        sets ! (of_opd ! (get_in ! (vrt ! refl (fld ! refl (stop !))) (in_variant ! 1 0 refl refl (whole !)))) refl (tt, tt) $
        sets ! (addr ! (through ! refl (fld ! refl (stop !)))) refl (tt, tt) $ move ! (4 ∷ 1 ∷ []) $
        use2 𝓛 (raw ((Asks 𝓛 at_mem run).pre (asks_with 𝓛 at_mem run κ q c new old s))) (Asks-starts 𝓛 at_mem run κ q c new old s fits_new fits_old (capped_fits (size (layout X)))) $
        calls_at ! (fm_of 𝓤 H 𝓛.laws 𝓣) (Asks 𝓛 at_mem run) asking (asks_with 𝓛 at_mem run κ q c new old s) (and_then ! (get ! refl) (and_then ! (get ! refl) (and_then ! (get ! refl) (and_then ! (size_word !) (no_more !))))) (λ w.
        use1 𝓛 (later (some (λ (b' : Bool). given (w ≡ vbool b') (‵ (flft κ q))))) (Asks-ends 𝓛 at_mem run κ q c new old s w) $ await ! tt $ pick ! (λ counted. learn ! (λ is'.
        lands_as ! is' refl (tt, tt) $
        sets_last ! (agg ! (and_then ! (lit ! tt) (and_then ! (get ! refl) (no_more !)))) refl (Answer-typed false 0 0) $
        exec ! 𝓣.C 𝓣.Λ En (after 7 (body Z X).body) (at_ret En (Post x)) $ sets ! (of_opd ! (get ! refl)) refl (Answer-typed false 0 0) $ returns ! (look_at ! 0 refl) $ free_all ! refl $
        keep ! (1 ∷ 0 ∷ 3 ∷ 2 ∷ []) $ by ! (ending x false 0 0))))))))))))

pub grow_spec : {M : Type 1} → stated.statement M
unfolding tables_of
grow_spec 𝓤 𝓛 𝓜 𝓡 wired Y X LY LX g d d' met _ =
    let Z : Al = record { row = Y; laws = LY; g = g; d = d; drops = d' } in
    let 𝓣 : Tables 𝓤 𝓛.H = tables_of 𝓤 𝓛.H 𝓜 (tables 𝓤 𝓛.H 𝓜 𝓡 𝓡.env) in
    let asking = cited 𝓤 𝓛.H _ 𝓜 𝓡 𝓡.env asked.name (𝓡.env asked.name) refl (asked_met.met 𝓤 𝓛 𝓜 𝓡 (code.calls-trac_memory::room::exchange 𝓡.env wired)) in
    let held = clauses Z X 𝓛 𝓜.mem 𝓡.returns 𝓣 (met.grow d' X LX) asking in
    let runs = WpFn 𝓤 𝓛.H 𝓣.C 𝓣.Λ (body Z X) in
    let gone = λ (V : RattleType). Goes-dropped 𝓛 3 (plain (λ _. V)) yes in
    entered 𝓤 𝓛.H (triple_of 𝓛 (this.signature Y X) (this.spec Y X g d d' 𝓛 𝓜.mem 𝓡.returns)) 𝓣.C 𝓣.Λ (key.name (args_at Z X)) (body Z X) (code.unfolded 𝓤 𝓛.H 𝓜 𝓡 wired (Y, (X, tt)) d d')
    (walk_Meets 𝓛 (ended Z X) (stayed Z X) (Goes-dropped 𝓛 3 (self_at Z) yes (λ κs x f. refl), (gone RawPtr (λ κs x f. refl), (gone usize (λ κs x f. refl), (gone usize (λ κs x f. refl), (gone usize (λ κs x f. refl), tt))))) held runs (WpFn-mono 𝓤 𝓛.H 𝓛.laws 𝓣 (body Z X))
    (walked 𝓛 (ended Z X) (stayed Z X) held runs (λ κs. (shr_vals, (rawptr_vals, (uint_vals w64, (uint_vals w64, (uint_vals w64, tt)))))) (λ κs. ((λ r vs s. s.0), (rawptr_Tells, (uint_Tells w64, (uint_Tells w64, (uint_Tells w64, tt))))))
    (λ κs qs bounds a xs are. walk Z X 𝓛 𝓜.mem 𝓡.returns 𝓣 (met.grow d' X LX) asking κs.0 κs.1.0 κs.1.1.0 qs.0 qs.1.0 qs.1.1.0 bounds.0 a.0 a.1.1.0 a.1.1.1.0 a.1.1.1.1.0 xs are.1.1.0.1 are.1.1.1.0.1 are.1.1.1.1.0.1 a.1.0)))
