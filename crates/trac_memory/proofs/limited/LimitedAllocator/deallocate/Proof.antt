-- `deallocate` counts the block back, and hands it to the backing, which gave it out.
use Rattle.trac_memory.proofs.Steps.{◌≡◌, ℕ, ◌^◌, ◌<◌, Bool, List, [], ◌∷◌, refl, w64, Bor, Ura, Ty, Fn, Val, vunit, vbool, vint, vptr, lit<, inst_fn, SProp, ent, id⊢, never_e, Lft, Share, ftrue, ffalse, fsep, froom, flft, Memory, Routine, WpFn, Tables, Logic, Item, ‵, raw, ◌⊛◌, some, later, given, ◌$◌, ◌∵◌, !, qed, by, move, keep, use1, use2, split, split3, join, pick, learn, fsplit, fjoin, feq_i, suffices, await, done, stop, fld, addr, no_more, and_then, of_opd, lit, unit_lit, returns, enter, alloc_all, pass_all, free_all, look_at, get, through, sets, lands_as, ◌⊑◌, ⊑_trans, Fun, fact, tables, tables_of, fm_of, WpFn-mono, usize, RawPtr, yes, unhide, uint_vals, uint_Tells, owns, Ptr, block_ptr, null_ptr, ptr_val, rawptr_vals, rawptr_Tells, shr_vals, plain, types_at, heard, nothing, calls_at, Ended, Clauses, triple_of, Triple, entered, cited, Stays, stay_dropped, walk_of, ends_at, walked, Goes-dropped, walk_Meets}
use Rattle.trac_memory.proofs.Lent.{args, self, backing_in, room_in, Laid}
use Rattle.std.proofs.alloc.Calls.{Al, token, seen, gives_key, Gives, at_gives, Gives-goes, Gives-Gives}
use Rattle.trac_memory.proofs.Asking.{Asks, asks_with, Asks-starts, Asks-ends}
use Rattle.trac_memory.proofs.room.exchange.Symbol as asked
use Rattle.trac_memory.proofs.room.exchange.Met as asked_met
use Rattle.trac_memory.specs.contracts.limited.Limited as limited
use Rattle.trac_memory.specs.contracts.limited.LimitedAllocator.deallocate as this
use Rattle.trac_memory.specs.contracts.limited.LimitedAllocator.deallocate.Key as key
use Rattle.trac_memory.proofs.limited.LimitedAllocator.deallocate.Statement as stated
use Rattle.trac_memory.proofs.limited.LimitedAllocator.deallocate.Code as code

abbrev body : Al → Fn
body Z = inst_fn (args Z) code.function

abbrev ended : Al → Ended
ended Z = this.ended Z.row Z.g Z.d Z.drops

abbrev stayed : (Z : Al) → Stays (ended Z).signature.params (ended Z).kept
stayed Z = (stay_dropped (self Z) yes, (stay_dropped (plain (λ _. RawPtr)) yes, (stay_dropped (plain (λ _. usize)) yes, (stay_dropped (plain (λ _. usize)) yes, tt))))

module _ (Z : Al) {M : Type 1} {𝓤 : Ura M} (𝓛 : Logic 𝓤) (at_mem : Memory → SProp 𝓤) (run : Routine → Fun 𝓤) (𝓣 : Tables 𝓤 𝓛.H)
    (backing : Triple 𝓤 (𝓣.C (gives_key Z)) (Gives Z 𝓛 at_mem run)) (asking : Triple 𝓤 (𝓣.C asked.name) (Asks 𝓛 at_mem run)) where
  open 𝓛 use {H}

  abbrev clauses : Clauses 𝓤 (ended Z)
  clauses = this.clauses Z.row Z.g Z.d Z.drops 𝓛 at_mem run

  module _ (κ ρ : Lft) (q s : Share) (out : κ ⊑ ρ) (r : Bor (limited.the_row Z.row).Denot) (n a : ℕ) (τ : Ty) where
    abbrev bound : Ptr → (walk_of 𝓛 (ended Z) (stayed Z) clauses).Ghost
    bound x = (((κ, (ρ, tt)), (q, (s, tt)), (out, tt), (r, (x, (n, (a, tt)))), (shr_vals r, (rawptr_vals x, (vint w64 n ∷ [], (vint w64 a ∷ [], tt))))), τ)

    abbrev vs : Ptr → List Val
    vs x = vptr r.ref_ptr.0 r.ref_ptr.1 ∷ ptr_val x ∷ vint w64 n ∷ vint w64 a ∷ []

    abbrev Post : Ptr → Val → SProp 𝓤
    Post x = (walk_of 𝓛 (ended Z) (stayed Z) clauses).post (bound x)

    abbrev passed : Ptr → Item 𝓤
    passed x = (‵ (flft κ q) ⊛ ‵ (flft ρ s) ⊛ ‵ ftrue) ⊛ ‵ (owns (types_at (ended Z).signature.params (bound x).0.0) (bound x).0.3 (bound x).0.4)

    walk : n < 2 ^ 64 → a < 2 ^ 64 → (x : Ptr) → ent 𝓤 ((walk_of 𝓛 (ended Z) (stayed Z) clauses).pre (bound x)) (WpFn 𝓤 H 𝓣.C 𝓣.Λ (body Z) (vs x) (Post x))
    -- no block lies at null
    walk fits_n fits_a null_ptr =
        qed 𝓛 (passed null_ptr ∷ (raw (fact 𝓤 (ρ ⊑ Z.row.lives)) ⊛ raw (fact 𝓤 (Laid n a τ)) ⊛ ‵ (fsep ffalse (token Z r.now.backing τ null_ptr))) ∷ []) ∵
        move ! (1 ∷ []) $ split3 ! $ move ! (2 ∷ []) $ fsplit ! $ keep ! (0 ∷ []) $ by ! (never_e 𝓤 _)
    walk fits_n fits_a (block_ptr b o) =
        let h : Z.row.Denot = r.now.backing in
        let p : ℕ × ℕ = backing_in Z r in
        let c : ℕ × ℕ = room_in Z r in
        let x : Ptr = block_ptr b o in
        let y : (Gives Z 𝓛 at_mem run).Ghost = at_gives Z 𝓛 at_mem run κ q p h b o n a τ in
        qed 𝓛 (passed x ∷ (raw (fact 𝓤 (ρ ⊑ Z.row.lives)) ⊛ raw (fact 𝓤 (Laid n a τ)) ⊛ ‵ (fsep (froom τ b o) (token Z h τ x))) ∷ []) ∵
        move ! (1 ∷ []) $ split3 ! $ heard ! (ρ ⊑ Z.row.lives) (λ within. heard ! (Laid n a τ) (λ laid. move ! (1 ∷ []) $
        split ! $ split ! $ move ! (2 ∷ []) $ fsplit ! $ fsplit ! $ move ! (1 ∷ []) $ unhide ! $ fsplit ! $ fsplit ! $ use1 𝓛 (‵ (seen Z κ p h)) (id⊢ 𝓤 _) $ move ! (1 ∷ []) $ fsplit ! $ keep ! (0 ∷ 6 ∷ 2 ∷ 7 ∷ 8 ∷ []) $
        -- [a `&` to the room; the token of `self`; a `&` to the backing; the other token; the block]
        enter ! 𝓣.C 𝓣.Λ (body Z) (vs x) _ $ alloc_all ! (λ l. pass_all ! refl ((tt, tt), ((tt, tt), ((tt, record { fits = fits_n }), ((tt, record { fits = fits_a }), tt)))) $
        sets ! (addr ! (through ! refl (fld ! refl (stop !)))) refl (tt, tt) $
        use2 𝓛 (raw ((Asks 𝓛 at_mem run).pre (asks_with 𝓛 at_mem run κ q c 1 0 n))) (Asks-starts 𝓛 at_mem run κ q c 1 0 n (lit< tt) (lit< tt) fits_n) $
        calls_at ! (fm_of 𝓤 H 𝓛.laws 𝓣) (Asks 𝓛 at_mem run) asking (asks_with 𝓛 at_mem run κ q c 1 0 n) (and_then ! (get ! refl) (and_then ! (lit ! tt) (and_then ! (lit ! tt) (and_then ! (get ! refl) (no_more !))))) (λ u.
        use1 𝓛 (later (some (λ (b' : Bool). given (u ≡ vbool b') (‵ (flft κ q))))) (Asks-ends 𝓛 at_mem run κ q c 1 0 n u) $ await ! tt $ pick ! (λ b'. learn ! (λ is.
        lands_as ! is refl (tt, tt) $ move ! (1 ∷ 0 ∷ []) $
        -- [a `&` to the backing; the token of `self`; the other token; the block]
        sets ! (addr ! (through ! refl (fld ! refl (stop !)))) refl (tt, tt) $
        join ! $ move ! (2 ∷ []) $ fsplit ! $ move ! (1 ∷ 2 ∷ []) $ join ! $ move ! (1 ∷ 0 ∷ []) $ join ! $
        use1 𝓛 (raw ((Gives Z 𝓛 at_mem run).pre y)) (Gives-goes Z 𝓛 at_mem run κ q p h (⊑_trans κ ρ Z.row.lives out within) b o n a τ laid.0 laid.1 fits_n fits_a) $
        calls_at ! (fm_of 𝓤 H 𝓛.laws 𝓣) (Gives Z 𝓛 at_mem run) backing y (and_then ! (get ! refl) (and_then ! (get ! refl) (and_then ! (get ! refl) (and_then ! (get ! refl) (no_more !))))) (λ v.
        use1 𝓛 (later (given (v ≡ vunit) (‵ (flft κ q)))) (Gives-Gives Z 𝓛 at_mem run κ q p h b o n a τ v) $ await ! tt $ learn ! (λ e.
        lands_as ! e refl (tt, tt) $ sets ! (of_opd ! (unit_lit !)) refl (tt, tt) $ returns ! (look_at ! 0 refl) $ free_all ! refl $
        suffices ! _ (ends_at 𝓛 (ended Z) (stayed Z) clauses (bound x) vunit tt (tt, (tt, (tt, (tt, tt)))) (tt, (tt, (tt, (tt, tt))))) $
        nothing ! $ feq_i ! (List Val) (vunit ∷ []) (vunit ∷ []) refl $ nothing ! $ nothing ! $ fjoin ! $ nothing ! $ fjoin ! $ nothing ! $ fjoin ! $ nothing ! $ fjoin ! $ join ! $
        move ! (2 ∷ 3 ∷ []) $ join ! $ join ! $ done !))))))))

pub deallocate_spec : {M : Type 1} → stated.statement M
unfolding tables_of
deallocate_spec 𝓤 𝓛 𝓜 𝓡 wired Y L g d d' met _ =
    let Z : Al = record { row = Y; laws = L; g = g; d = d; drops = d' } in
    let 𝓣 : Tables 𝓤 𝓛.H = tables_of 𝓤 𝓛.H 𝓜 (tables 𝓤 𝓛.H 𝓜 𝓡 𝓡.env) in
    let asking = cited 𝓤 𝓛.H _ 𝓜 𝓡 𝓡.env asked.name (𝓡.env asked.name) refl (asked_met.met 𝓤 𝓛 𝓜 𝓡 (code.calls-trac_memory::room::exchange 𝓡.env wired)) in
    let held = clauses Z 𝓛 𝓜.mem 𝓡.returns 𝓣 (met.deallocate d') asking in
    let runs = WpFn 𝓤 𝓛.H 𝓣.C 𝓣.Λ (body Z) in
    let word = Goes-dropped 𝓛 2 (plain (λ _. usize)) yes (λ κs x f. refl) in
    entered 𝓤 𝓛.H (triple_of 𝓛 (this.signature Y) (this.spec Y g d d' 𝓛 𝓜.mem 𝓡.returns)) 𝓣.C 𝓣.Λ (key.name (args Z)) (body Z) (code.unfolded 𝓤 𝓛.H 𝓜 𝓡 wired (Y, tt) d d')
    (walk_Meets 𝓛 (ended Z) (stayed Z) (Goes-dropped 𝓛 2 (self Z) yes (λ κs x f. refl), (Goes-dropped 𝓛 2 (plain (λ _. RawPtr)) yes (λ κs x f. refl), (word, (word, tt)))) held runs (WpFn-mono 𝓤 𝓛.H 𝓛.laws 𝓣 (body Z))
    (walked 𝓛 (ended Z) (stayed Z) held runs (λ κs. (shr_vals, (rawptr_vals, (uint_vals w64, (uint_vals w64, tt))))) (λ κs. ((λ r vs s. s.0), (rawptr_Tells, (uint_Tells w64, (uint_Tells w64, tt)))))
    (λ κs qs bounds a τ are. walk Z 𝓛 𝓜.mem 𝓡.returns 𝓣 (met.deallocate d') asking κs.0 κs.1.0 qs.0 qs.1.0 bounds.0 a.0 a.1.1.0 a.1.1.1.0 τ are.1.1.0.1 are.1.1.1.0.1 a.1.0)))
