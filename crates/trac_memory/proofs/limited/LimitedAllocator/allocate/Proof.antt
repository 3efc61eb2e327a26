-- `allocate` asks whether there is room, and then the backing. What the backing refuses is counted back.
use Rattle.trac_memory.proofs.Steps.{◌≡◌, ℕ, ◌^◌, ◌<◌, Bool, true, false, List, [], ◌∷◌, Ok, Err, refl, w64, Bor, Ura, Ty, Fn, Body, Val, vbool, vint, vptr, lit<, inst_fn, SProp, ent, id⊢, Lft, Share, ftrue, flft, Memory, Routine, Env, Wp, WpFn, Tables, after_seq, at_return, Logic, ‵, raw, ⋆, ◌⊛◌, some, later, given, at_ret, any_q, After, ◌$◌, ◌∵◌, !, qed, by, move, keep, use0, use1, use2, split, join, pick, learn, fsplit, fjoin, suffices, await, done, stop, fld, addr, un, no_more, and_then, of_opd, lit, first, branches, skips, switches_on, exec, returns, returns_within, enter, vrt, in_variant, whole, agg, alloc_all, pass_all, free_all, look_at, get, get_in, get_tag, through, sets, sets_last, lands_as, env, ◌⊑◌, ⊑_trans, Fun, fact, tables, tables_of, fm_of, WpFn-mono, usize, yes, shr_dup, unhide, param, uint_vals, uint_Tells, owns, block_ptr, shr_vals, plain, types_at, heard, nothing, calls_at, Ended, Clauses, triple_of, Triple, entered, cited, Stays, stay_dropped, walk_of, ends_at, walked, Goes-dropped, walk_Meets, after, front, arm_body}
use Rattle.trac_memory.proofs.Lent.{args, self, backing_in, room_in, Laid}
use Rattle.std.proofs.alloc.Calls.{Al, token, seen, Answer, answer_val, Answer-typed, Answer-Ok, Answer-err, takes_key, Takes, at_takes, Answered, Takes-goes, Takes-gives, answers}
use Rattle.std.specs.Allocator.{block_if_ok}
use Rattle.trac_memory.proofs.Asking.{Asks, asks_with, Asks-starts, Asks-ends}
use Rattle.trac_memory.proofs.room.exchange.Symbol as asked
use Rattle.trac_memory.proofs.room.exchange.Met as asked_met
use denote.Param.Laws.{param_laws}
use Rattle.trac_memory.proofs.limited.Limited.TheLaws as limited_laws
use Rattle.trac_memory.specs.contracts.limited.Limited as limited
use Rattle.trac_memory.specs.contracts.limited.LimitedAllocator.allocate as this
use Rattle.trac_memory.specs.contracts.limited.LimitedAllocator.allocate.Key as key
use Rattle.trac_memory.proofs.limited.LimitedAllocator.allocate.Statement as stated
use Rattle.trac_memory.proofs.limited.LimitedAllocator.allocate.Code as code

abbrev body : Al → Fn
body Z = inst_fn (args Z) code.function

abbrev ended : Al → Ended
ended Z = this.ended Z.row Z.g Z.d Z.drops

abbrev stayed : (Z : Al) → Stays (ended Z).signature.params (ended Z).kept
stayed Z = (stay_dropped (self Z) yes, (stay_dropped (plain (λ _. usize)) yes, (stay_dropped (plain (λ _. usize)) yes, tt)))

module _ (Z : Al) {M : Type 1} {𝓤 : Ura M} (𝓛 : Logic 𝓤) (at_mem : Memory → SProp 𝓤) (run : Routine → Fun 𝓤) (𝓣 : Tables 𝓤 𝓛.H)
    (backing : Triple 𝓤 (𝓣.C (takes_key Z)) (Takes Z 𝓛 at_mem run)) (asking : Triple 𝓤 (𝓣.C asked.name) (Asks 𝓛 at_mem run)) where
  open 𝓛 use {H}

  abbrev clauses : Clauses 𝓤 (ended Z)
  clauses = this.clauses Z.row Z.g Z.d Z.drops 𝓛 at_mem run

  module _ (κ ρ : Lft) (q s : Share) (out : κ ⊑ ρ) (r : Bor (limited.the_row Z.row).Denot) (n a : ℕ) (τ : Ty) where
    abbrev bound : (walk_of 𝓛 (ended Z) (stayed Z) clauses).Ghost
    bound = (((κ, (ρ, tt)), (q, (s, tt)), (out, tt), (r, (n, (a, tt))), (shr_vals r, (vint w64 n ∷ [], (vint w64 a ∷ [], tt)))), τ)

    abbrev vs : List Val
    vs = vptr r.ref_ptr.0 r.ref_ptr.1 ∷ vint w64 n ∷ vint w64 a ∷ []

    abbrev Post : Val → SProp 𝓤
    Post = (walk_of 𝓛 (ended Z) (stayed Z) clauses).post bound

    -- either end: an answer with what comes with it, and the tokens
    ending : (v : Val) (answer : Answer.Denot) → ent 𝓤 (⋆ 𝓛 (‵ (Answer.own_val answer (v ∷ [])) ∷ ‵ (block_if_ok (token Z r.now.backing) τ answer) ∷ ‵ (flft κ q) ∷ (‵ (flft ρ s) ⊛ ‵ ftrue) ∷ [])) (Post v)
    ending v answer =
        qed 𝓛 (‵ (Answer.own_val answer (v ∷ [])) ∷ ‵ (block_if_ok (token Z r.now.backing) τ answer) ∷ ‵ (flft κ q) ∷ (‵ (flft ρ s) ⊛ ‵ ftrue) ∷ []) ∵
        suffices ! _ (ends_at 𝓛 (ended Z) (stayed Z) clauses bound v answer (tt, (tt, (tt, tt))) (tt, (tt, (tt, tt)))) $
        nothing ! $ nothing ! $ fjoin ! $ nothing ! $ fjoin ! $ nothing ! $ fjoin ! $ join ! $ move ! (2 ∷ 3 ∷ []) $ join ! $ join ! $ done !

    walk : n < 2 ^ 64 → a < 2 ^ 64 → ent 𝓤 ((walk_of 𝓛 (ended Z) (stayed Z) clauses).pre bound) (WpFn 𝓤 H 𝓣.C 𝓣.Λ (body Z) vs Post)
    walk fits_n fits_a =
        let h : Z.row.Denot = r.now.backing in
        let p : ℕ × ℕ = backing_in Z r in
        let c : ℕ × ℕ = room_in Z r in
        let y : (Takes Z 𝓛 at_mem run).Ghost = at_takes Z 𝓛 at_mem run κ q p h n a τ in
        qed 𝓛 (((‵ (flft κ q) ⊛ ‵ (flft ρ s) ⊛ ‵ ftrue) ⊛ ‵ (owns (types_at (ended Z).signature.params bound.0.0) bound.0.3 bound.0.4)) ∷ (raw (fact 𝓤 (ρ ⊑ Z.row.lives)) ⊛ raw (fact 𝓤 (Laid n a τ))) ∷ []) ∵
        move ! (1 ∷ []) $ split ! $ heard ! (ρ ⊑ Z.row.lives) (λ within. heard ! (Laid n a τ) (λ laid.
        split ! $ split ! $ move ! (2 ∷ []) $ fsplit ! $ fsplit ! $ move ! (1 ∷ []) $
        shr_dup ! (limited.the_row (param 0 Z.row)) (limited_laws.the_row_laws (param 0 Z.row) (param_laws 0 Z.row Z.laws)).shr_laws r.now r.ref_ptr.0 r.ref_ptr.1 κ $
        unhide ! $ fsplit ! $ fsplit ! $ use1 𝓛 (‵ (seen Z κ p h)) (id⊢ 𝓤 _) $ move ! (1 ∷ []) $ fsplit ! $ keep ! (4 ∷ 0 ∷ 7 ∷ 2 ∷ 8 ∷ []) $
        unhide ! $ fsplit ! $ fsplit ! $ move ! (1 ∷ []) $ fsplit ! $ keep ! (4 ∷ 5 ∷ 6 ∷ 7 ∷ 0 ∷ []) $
        -- [a `&` to the room; the token of `self`; a `&` to the backing; the other token; a `&` to the room]
        enter ! 𝓣.C 𝓣.Λ (body Z) vs _ $ alloc_all ! (λ l. pass_all ! refl ((tt, tt), ((tt, record { fits = fits_n }), ((tt, record { fits = fits_a }), tt))) $
        let En : Env 𝓤 H = env (body Z).locals l in
        sets ! (addr ! (through ! refl (fld ! refl (stop !)))) refl (tt, tt) $
        use2 𝓛 (raw ((Asks 𝓛 at_mem run).pre (asks_with 𝓛 at_mem run κ q c 0 1 n))) (Asks-starts 𝓛 at_mem run κ q c 0 1 n (lit< tt) (lit< tt) fits_n) $
        calls_at ! (fm_of 𝓤 H 𝓛.laws 𝓣) (Asks 𝓛 at_mem run) asking (asks_with 𝓛 at_mem run κ q c 0 1 n) (and_then ! (get ! refl) (and_then ! (lit ! tt) (and_then ! (lit ! tt) (and_then ! (get ! refl) (no_more !))))) (λ u.
        use1 𝓛 (later (some (λ (b : Bool). given (u ≡ vbool b) (‵ (flft κ q))))) (Asks-ends 𝓛 at_mem run κ q c 0 1 n u) $ await ! tt $ pick ! (λ b. learn ! (λ is.
        lands_as ! is refl (tt, tt) $ sets ! (un ! (get ! refl) tt) refl (tt, tt) $
        -- [the token of `self`; a `&` to the backing; the other token; a `&` to the room]
        first ! $ branches ! (get ! refl)
        (λ refused. sets ! (agg ! (no_more !)) refl (tt, tt) $
        sets ! (agg ! (and_then ! (lit ! tt) (and_then ! (get ! refl) (no_more !)))) refl (Answer-typed false 0 0) $
        returns_within ! Post refl (look_at ! 0 refl) $ free_all ! refl $ keep ! (0 ∷ 2 ∷ []) $ nothing ! $
        use0 𝓛 (‵ (Answer.own_val (Err (record {})) (answer_val false 0 0 ∷ []))) (Answer-err 𝓛) $ by ! (ending (answer_val false 0 0) (Err (record {}))))
        (λ accepted. skips ! $ exec ! 𝓣.C 𝓣.Λ En (after 4 (body Z).body) (at_ret En Post) $
        let Then : After 𝓤 H = any_q (after_seq 𝓤 H (Wp 𝓤 H 𝓣.C 𝓣.Λ En (after 7 (body Z).body) (at_return 𝓤 H En Post)) (at_return 𝓤 H En Post)) in
        let both : Body = front (after 6 (body Z).body) in
        sets ! (addr ! (through ! refl (fld ! refl (stop !)))) refl (tt, tt) $ move ! (1 ∷ 0 ∷ []) $
        use2 𝓛 (raw ((Takes Z 𝓛 at_mem run).pre y)) (Takes-goes Z 𝓛 at_mem run κ q p h (⊑_trans κ ρ Z.row.lives out within) n a τ laid.0 laid.1 fits_n fits_a) $
        calls_at ! (fm_of 𝓤 H 𝓛.laws 𝓣) (Takes Z 𝓛 at_mem run) backing y (and_then ! (get ! refl) (and_then ! (get ! refl) (and_then ! (get ! refl) (no_more !)))) (λ v.
        use1 𝓛 (later (raw (Answered Z 𝓛 at_mem run h τ v) ⊛ ‵ (flft κ q))) (Takes-gives Z 𝓛 at_mem run κ q p h n a τ v) $ await ! tt $ split ! $
        answers Z ! at_mem run h τ v
        (λ at off e. fjoin ! $ lands_as ! e refl (Answer-typed true at off) $
        first ! $ switches_on ! (get_tag ! (vrt ! refl (fld ! refl (stop !))) (whole !)) $ exec ! 𝓣.C 𝓣.Λ En (arm_body 0 both) Then $
        sets ! (of_opd ! (get_in ! (vrt ! refl (fld ! refl (stop !))) (in_variant ! 0 0 refl refl (whole !)))) refl (tt, tt) $
        sets_last ! (agg ! (and_then ! (lit ! tt) (and_then ! (get ! refl) (no_more !)))) refl (Answer-typed true at off) $
        exec ! 𝓣.C 𝓣.Λ En (after 7 (body Z).body) (at_ret En Post) $ sets ! (of_opd ! (get ! refl)) refl (Answer-typed true at off) $ returns ! (look_at ! 0 refl) $ free_all ! refl $
        keep ! (0 ∷ 1 ∷ 2 ∷ []) $ use0 𝓛 (‵ (Answer.own_val (Ok (block_ptr at off)) (answer_val true at off ∷ []))) (Answer-Ok 𝓛 at off) $ by ! (ending (answer_val true at off) (Ok (block_ptr at off))))
        (λ e. lands_as ! e refl (Answer-typed false 0 0) $
        first ! $ switches_on ! (get_tag ! (vrt ! refl (fld ! refl (stop !))) (whole !)) $ exec ! 𝓣.C 𝓣.Λ En (arm_body 1 both) Then $
        sets ! (of_opd ! (get_in ! (vrt ! refl (fld ! refl (stop !))) (in_variant ! 1 0 refl refl (whole !)))) refl (tt, tt) $
        sets ! (addr ! (through ! refl (fld ! refl (stop !)))) refl (tt, tt) $ move ! (2 ∷ 0 ∷ []) $
        use2 𝓛 (raw ((Asks 𝓛 at_mem run).pre (asks_with 𝓛 at_mem run κ q c 1 0 n))) (Asks-starts 𝓛 at_mem run κ q c 1 0 n (lit< tt) (lit< tt) fits_n) $
        calls_at ! (fm_of 𝓤 H 𝓛.laws 𝓣) (Asks 𝓛 at_mem run) asking (asks_with 𝓛 at_mem run κ q c 1 0 n) (and_then ! (get ! refl) (and_then ! (lit ! tt) (and_then ! (lit ! tt) (and_then ! (get ! refl) (no_more !))))) (λ w.
        use1 𝓛 (later (some (λ (b : Bool). given (w ≡ vbool b) (‵ (flft κ q))))) (Asks-ends 𝓛 at_mem run κ q c 1 0 n w) $ await ! tt $ pick ! (λ counted. learn ! (λ is'.
        lands_as ! is' refl (tt, tt) $
        sets_last ! (agg ! (and_then ! (lit ! tt) (and_then ! (get ! refl) (no_more !)))) refl (Answer-typed false 0 0) $
        exec ! 𝓣.C 𝓣.Λ En (after 7 (body Z).body) (at_ret En Post) $ sets ! (of_opd ! (get ! refl)) refl (Answer-typed false 0 0) $ returns ! (look_at ! 0 refl) $ free_all ! refl $
        nothing ! $ use0 𝓛 (‵ (Answer.own_val (Err (record {})) (answer_val false 0 0 ∷ []))) (Answer-err 𝓛) $ by ! (ending (answer_val false 0 0) (Err (record {})))))))))))))))

pub allocate_spec : {M : Type 1} → stated.statement M
unfolding tables_of
allocate_spec 𝓤 𝓛 𝓜 𝓡 wired Y L g d d' met _ =
    let Z : Al = record { row = Y; laws = L; g = g; d = d; drops = d' } in
    let 𝓣 : Tables 𝓤 𝓛.H = tables_of 𝓤 𝓛.H 𝓜 (tables 𝓤 𝓛.H 𝓜 𝓡 𝓡.env) in
    let asking = cited 𝓤 𝓛.H _ 𝓜 𝓡 𝓡.env asked.name (𝓡.env asked.name) refl (asked_met.met 𝓤 𝓛 𝓜 𝓡 (code.calls-trac_memory::room::exchange 𝓡.env wired)) in
    let runs = WpFn 𝓤 𝓛.H 𝓣.C 𝓣.Λ (body Z) in
    let word = Goes-dropped 𝓛 2 (plain (λ _. usize)) yes (λ κs x f. refl) in
    entered 𝓤 𝓛.H (triple_of 𝓛 (this.signature Y) (this.spec Y g d d' 𝓛 𝓜.mem 𝓡.returns)) 𝓣.C 𝓣.Λ (key.name (args Z)) (body Z) (code.unfolded 𝓤 𝓛.H 𝓜 𝓡 wired (Y, tt) d d')
    (walk_Meets 𝓛 (ended Z) (stayed Z) (Goes-dropped 𝓛 2 (self Z) yes (λ κs x f. refl), (word, (word, tt))) (clauses Z 𝓛 𝓜.mem 𝓡.returns 𝓣 (met.allocate d') asking) runs (WpFn-mono 𝓤 𝓛.H 𝓛.laws 𝓣 (body Z))
    (walked 𝓛 (ended Z) (stayed Z) (clauses Z 𝓛 𝓜.mem 𝓡.returns 𝓣 (met.allocate d') asking) runs (λ κs. (shr_vals, (uint_vals w64, (uint_vals w64, tt)))) (λ κs. ((λ r vs s. s.0), (uint_Tells w64, (uint_Tells w64, tt))))
    (λ κs qs bounds a τ are. walk Z 𝓛 𝓜.mem 𝓡.returns 𝓣 (met.allocate d') asking κs.0 κs.1.0 qs.0 qs.1.0 bounds.0 a.0 a.1.0 a.1.1.0 τ are.1.0.1 are.1.1.0.1)))
