-- `move_apart` hands a run of items and a run of room of one row to `copy_nonoverlapping`, and puts both back. Assumes `Logic`.
use mathlib.Core.Path.{◌≡◌, refl, sym, ap, subst, ◌∙◌}
use mathlib.Core.Logic.{◌⊎◌}
use Prim.Native.Nat.{ℕ, ◌+◌, ◌*◌, ◌≤◌, ◌<◌, ◌^◌}
use native.Mathlib.Omega.{arith}
use mathlib.Core.List.{List, [], ◌∷◌, ◌++◌}
use lib.Dec.{T}
use lib.ListN.{length}
use seplogic.Ra.Ura.{Ura}
use base.Fraction.{full_share}
use mir.Syntax.{Fn, named, w64, ty_unit, ty_array}
use mir.MapTy.{inst_fn}
use mir.Val.{Val, vptr, vint, vunit, has_ty, WT}
use base.Logic.{SProp, ent, never, id⊢}
use base.Fml.{Lft, GName, Share, ftrue, fat, flft, fobs, fbor, froom}
use prog.Memory.{Memory}
use prog.Routine.{Routine}
use prog.Wp.{Env, Calls, Loops, WpFn, Tables}
use types.Logic.{Logic}
use contract.BorrowLft.{◌⊑◌}
use contract.Monad.{Fun, fact}
use contract.Running.{tables, tables_of}
use sound.WpLaws.{FmC, fm_of, WpFn-mono}
use types.Kit.{Item, ⋆, ‵, raw, ◌⊛◌, given, later, await, learn, at_ret, ◌$◌, ◌∵◌, !, qed, by, move, keep, use1, use3, split, split3, join, rewrite, fsplit, fsplit3, fjoin, fjoin3, feq_i, feq_l, flt_l, flt_i, suffices, frame, done}
use types.Part.{whole, sub}
use types.Run.{stop, fld, unit_lit, of_opd, bin, size_word, and_then, no_more, first, blocks, exec, returns, enter}
use types.ByLocal.{alloc_all, pass_all, free_all, look_at, get, get_in, sets, lands_last, is, env, take_at, give_at}
use types.SemTy.{Body as Borrowed}
use denote.Array.{Array}
use denote.Exit.{yes, no}
use denote.RattleType.{owns}
use denote.Memory.{mem, part_at}
use denote.Param.{layout}
use denote.RawPtr.{Ptr, in_a_block}
use denote.Ref.{MutBor, MutRef}
use denote.Builtin.{unit, usize}
use denote.Signature.{plain}
use denote.Steps.{heard, nothing, opens, closes}
use denote.Triple.Call.{calls_at_last}
use denote.Triple.Clauses.{Clauses, Ended, closing}
use denote.Triple.Entry.{on_entry}
use denote.Triple.Spec.{Meets, triple_of}
use denote.Triple.Statement.{Triple}
use denote.Triple.Table.{entered}
use denote.Triple.Walked.{says, Stays, stay_dropped, stay_ref, walk_of, ends_at, Goes-dropped, Goes-ref, walk_Meets}
use Rattle.core.proofs.mem.Param.{El, R, args, elτ}
use Rattle.core.proofs.alloc.Moves.{copy_key, Copies, at_copies, Copies-goes, Copies-gives}
use Rattle.core.proofs.ptr.copy_nonoverlapping.Met as callee
use Rattle.core.proofs.ptr.Rows.{times_below}
use Rattle.core.proofs.slots.Leases.{uncapped}
use Rattle.std_alloc.proofs.VecSteps.Shapes.{after}
use Rattle.std_alloc.proofs.RcSteps.{word, word-Good}
use Rattle.trac_gap.specs.Ownership.{row_owns, places_own}
use Rattle.trac_gap.specs.Slots.{IsFull, IsShifted, run}
use Rattle.trac_gap.proofs.Rows.{PlacesRow, StartRow, step_size, start_had}
use Rattle.trac_gap.proofs.Apart.{Plan, plan}
use Rattle.trac_gap.specs.contracts.slots.Slots.move_apart as F
use Rattle.trac_gap.specs.contracts.slots.Slots.move_apart.Key.{name as #self}
use Rattle.trac_gap.proofs.slots.Slots.move_apart.Statement as stated
use Rattle.trac_gap.proofs.slots.Slots.move_apart.Code as code

module _ (E : El) where
  abbrev function : Fn
  function = inst_fn (args E) code.function

  abbrev ended : Ended
  ended = F.ended E.row

  abbrev clauses : {M : Type 1} {𝓤 : Ura M} (𝓛 : Logic 𝓤) → (Memory → SProp 𝓤) → (Routine → Fun 𝓤) → Clauses 𝓤 ended
  clauses 𝓛 = F.clauses E.row 𝓛

  abbrev stayed : Stays ended.signature.params ended.kept
  stayed = (stay_ref (0 ∷ []) tt (plain (λ _. PlacesRow E)), (stay_dropped (plain (λ _. StartRow E)) no, (stay_dropped (plain (λ _. usize)) yes, (stay_dropped (plain (λ _. usize)) yes, (stay_dropped (plain (λ _. usize)) yes, tt)))))

  abbrev Asks : (PlacesRow E).Denot → (StartRow E).Denot → ℕ → ℕ → ℕ → Type 0
  Asks d start from to count = (start.ptr ≡ d.at) × (from + count ≤ length d.slots) × (to + count ≤ length d.slots) × ((from + count ≤ to) ⊎ (to + count ≤ from)) × IsFull (run from count d.slots)

  abbrev Gives : (PlacesRow E).Denot → ℕ → ℕ → ℕ → (PlacesRow E).Denot → Type 0
  Gives d from to count new = (new.at ≡ d.at) × IsShifted d.slots from to count new.slots

module _ (E : El) {M : Type 1} {𝓤 : Ura M} (𝓛 : Logic 𝓤) (at_mem : Memory → SProp 𝓤) (run' : Routine → Fun 𝓤) (C : Calls 𝓤 𝓛.H) (Λ : Loops 𝓤 𝓛.H) (fm : FmC 𝓤 𝓛.H 𝓛.laws C)
    (copies : Triple 𝓤 (C (copy_key E.row)) (Copies E.row 𝓛 at_mem run')) (κ κ₁ : Lft) (q q₁ : Share) (short : κ ⊑ κ₁) (lives : κ₁ ⊑ E.row.lives) (rb ro : ℕ) (γ : GName) (d : (PlacesRow E).Denot) (start : (StartRow E).Denot) (from to count : ℕ) (us0 us1 us2 us3 us4 : List Val) where
  open 𝓛 use {H, A}

  abbrev self : MutBor (PlacesRow E).Denot
  self = record { ref_ptr = (rb, ro); ghost_name = γ; now = d }

  abbrev bound : (walk_of 𝓛 (ended E) (stayed E) (clauses E 𝓛 at_mem run')).Ghost
  bound = (((κ, (κ₁, tt)), (q, (q₁, tt)), (short, tt), (self, (start, (from, (to, (count, tt))))), (us0, (us1, (us2, (us3, (us4, tt)))))), tt)

  abbrev Post : Val → SProp 𝓤
  Post = (walk_of 𝓛 (ended E) (stayed E) (clauses E 𝓛 at_mem run')).post bound

  abbrev Loan : (PlacesRow E).Denot → List (Item 𝓤)
  Loan x = ‵ (fobs γ ((PlacesRow E).coded.code x)) ∷ ‵ (fbor κ (Borrowed (mem (PlacesRow E)) rb ro γ)) ∷ ‵ (flft κ q) ∷ []

  abbrev token : Item 𝓤
  token = ‵ (flft κ₁ q₁)

  exits : us0 ≡ vptr rb ro ∷ [] → (new : (PlacesRow E).Denot) → Gives E d from to count new → ent 𝓤 (⋆ 𝓛 (Loan new ++ token ∷ ‵ (unit.own_val tt (vunit ∷ [])) ∷ [])) (Post vunit)
  exits passed new gives =
      qed 𝓛 (Loan new ++ token ∷ ‵ (unit.own_val tt (vunit ∷ [])) ∷ []) ∵
      suffices ! _ (ends_at 𝓛 (ended E) (stayed E) (clauses E 𝓛 at_mem run') bound vunit tt (new, (tt, (tt, (tt, (tt, tt))))) (tt, (tt, (tt, (tt, (tt, tt)))))) $ says ! gives $
      nothing ! $ move ! (4 ∷ 0 ∷ []) $ join ! $ move ! (3 ∷ 0 ∷ []) $ join ! $ frame ! $ feq_i ! (List Val) us0 (vptr rb ro ∷ []) passed $ fjoin3 ! $
      nothing ! $ nothing ! $ fjoin ! $ nothing ! $ fjoin ! $ nothing ! $ fjoin ! $ nothing ! $ fjoin ! $ move ! (1 ∷ 0 ∷ []) $ fjoin ! $ done !

  abbrev Had : List (Item 𝓤)
  Had = Loan d ++ token ∷ []

  walk : us0 ≡ vptr rb ro ∷ [] → Asks E d start from to count → from < 2 ^ 64 → to < 2 ^ 64 → count < 2 ^ 64 → ent 𝓤 (⋆ 𝓛 Had) (WpFn 𝓤 H C Λ (function E) (vptr rb ro ∷ word start.ptr ∷ vint w64 from ∷ vint w64 to ∷ vint w64 count ∷ []) Post)
  walk passed asked fits_from fits_to fits_count =
      let s = step_size E in let inside = asked.1 in let room = asked.2 in
      qed 𝓛 Had ∵ enter ! C Λ (function E) (vptr rb ro ∷ word start.ptr ∷ vint w64 from ∷ vint w64 to ∷ vint w64 count ∷ []) _ $
      alloc_all ! (λ l. pass_all ! refl ((tt, tt), (word-Good [] start.ptr, ((tt, record { fits = fits_from }), ((tt, record { fits = fits_to }), ((tt, record { fits = fits_count }), tt))))) $
      let En : Env 𝓤 H = env (function E).locals l in
      opens ! tt (PlacesRow E) {h = d} rb ro (λ vs. move ! (1 ∷ []) $ fsplit ! $ move ! (1 ∷ []) $
      in_a_block ! d.at (λ p. places_own (R E) p d.slots) (id⊢ 𝓤 (never 𝓤)) (λ b o e. fsplit ! $ flt_l ! (λ small.
      let p : Plan E 𝓛 b o d.slots count from to = plan E 𝓛 b o d.slots count from to inside room asked.4 asked.3 in
      let new : (PlacesRow E).Denot = record { mark = d.mark; at = d.at; slots = p.new } in
      let far : from * s < 2 ^ 64 = omega (arith, times_below from (length d.slots) s (2 ^ 63) (omega arith) small) in
      let far' : to * s < 2 ^ 64 = omega (arith, times_below to (length d.slots) s (2 ^ 63) (omega arith) small) in
      let wide : count * s < 2 ^ 63 = times_below count (length d.slots) s (2 ^ 63) (omega arith) small in
      take_at ! 2 $ rewrite ! 0 (λ (p : Ptr). ‵ (fat full_share (layout (StartRow E)) (l 2) 0 (word p))) (asked.0 ∙ e) refl $ give_at ! 2 $ first ! $ blocks ! $
      sets ! (is ! (bin ! (get ! refl) (size_word !) (record { fits = subst (λ (k : ℕ). k < 2 ^ 64) (sym (uncapped from s far)) far })) (ap (vint w64) (uncapped from s far))) refl (tt, record { fits = far }) $
      sets ! (bin ! (get_in ! (fld ! refl (stop !)) (sub ! 0 refl (whole !))) (get ! refl) tt) refl (tt, tt) $
      sets ! (is ! (bin ! (get ! refl) (size_word !) (record { fits = subst (λ (k : ℕ). k < 2 ^ 64) (sym (uncapped to s far')) far' })) (ap (vint w64) (uncapped to s far'))) refl (tt, record { fits = far' }) $
      sets ! (bin ! (get_in ! (fld ! refl (stop !)) (sub ! 0 refl (whole !))) (get ! refl) tt) refl (tt, tt) $
      let src : ℕ = from * s + o in let dst : ℕ = to * s + o in
      use1 𝓛 (‵ (part_at (Array (R E) count) full_share p.values b src) ⊛ ‵ (froom (ty_array (elτ E) count) b dst) ⊛ ‵ p.Rest) p.out $ split3 ! $
      -- [the items; the room; the other places; the mark; its cell; the open loan, in three entries; the token]
      move ! (0 ∷ 1 ∷ 8 ∷ []) $ let y = at_copies E.row 𝓛 at_mem run' κ₁ q₁ b src b dst count p.values in
      use3 𝓛 (raw ((Copies E.row 𝓛 at_mem run').pre y)) (Copies-goes E.row 𝓛 at_mem run' κ₁ q₁ b src b dst count p.values lives fits_count wide) $
      calls_at_last ! fm (Copies E.row 𝓛 at_mem run') copies y (and_then ! (get ! refl) (and_then ! (get ! refl) (and_then ! (get ! refl) (no_more !)))) (λ v.
      use1 𝓛 (later (given (v ≡ vunit) (‵ (part_at (Array (R E) count) full_share p.values b dst) ⊛ ‵ (froom (ty_array (elτ E) count) b src) ⊛ token))) (Copies-gives E.row 𝓛 at_mem run' κ₁ q₁ b src b dst count p.values v) $ await ! tt $ learn ! (λ is_unit. split3 ! $
      lands_last ! refl (subst (λ (z : Val). T (has_ty ty_unit z) × WT z) (sym is_unit) (tt, tt)) $ exec ! C Λ En (after 1 (function E).body) (at_ret En Post) $ sets ! (of_opd ! (unit_lit !)) refl (tt, tt) $
      move ! (0 ∷ 1 ∷ 3 ∷ []) $ use3 𝓛 (‵ (row_owns (R E) b o p.new)) p.back $
      flt_i ! (length p.new * s) (2 ^ 63) (subst (λ k. k * s < 2 ^ 63) (sym p.shifted.count) small) $ fjoin ! $
      rewrite ! 0 (λ (r : Ptr). ‵ (places_own (R E) r p.new)) (sym e) refl $ move ! (2 ∷ 0 ∷ []) $ fjoin ! $
      -- [what the row owns; the token; its cell; the open loan]
      move ! (2 ∷ 0 ∷ 3 ∷ 4 ∷ 5 ∷ []) $ closes ! tt (PlacesRow E) new vs rb ro $
      returns ! (look_at ! 0 refl) $ free_all ! refl $ keep ! (0 ∷ 1 ∷ 2 ∷ 3 ∷ []) $ feq_i ! (List Val) (vunit ∷ []) (vunit ∷ []) refl $ move ! (1 ∷ 2 ∷ 3 ∷ 4 ∷ 0 ∷ []) $
      by ! (exits passed new (refl, p.shifted))))))))

  entry : Asks E d start from to count → ent 𝓤 (on_entry 𝓛 (ended E).signature (κ, (κ₁, tt)) (q, (q₁, tt)) (self, (start, (from, (to, (count, tt))))) (us0, (us1, (us2, (us3, (us4, tt)))))) (WpFn 𝓤 H C Λ (function E) (us0 ++ (us1 ++ (us2 ++ (us3 ++ (us4 ++ []))))) Post)
  entry asked =
      qed 𝓛 ((‵ (flft κ q) ⊛ token ⊛ ‵ ftrue) ∷ ‵ (owns (MutRef (named 0) κ (PlacesRow E) ∷ StartRow E ∷ usize ∷ usize ∷ usize ∷ []) (self, (start, (from, (to, (count, tt))))) (us0, (us1, (us2, (us3, (us4, tt)))))) ∷ []) ∵
      split3 ! $ move ! (3 ∷ []) $ fsplit ! $ fsplit3 ! $ feq_l ! (λ e0.
      move ! (2 ∷ []) $ fsplit ! $ start_had ! start.ptr us1 (λ e1.
      fsplit ! $ fsplit ! $ feq_l ! (λ e2. flt_l ! (λ fits_from.
      fsplit ! $ fsplit ! $ feq_l ! (λ e3. flt_l ! (λ fits_to.
      fsplit ! $ fsplit ! $ feq_l ! (λ e4. flt_l ! (λ fits_count.
      keep ! (1 ∷ 2 ∷ 3 ∷ 4 ∷ []) $
      by ! (subst (λ (ws : List Val × List Val × List Val × List Val × List Val). ent 𝓤 (⋆ 𝓛 Had) (WpFn 𝓤 H C Λ (function E) (ws.0 ++ (ws.1 ++ (ws.2 ++ (ws.3 ++ (ws.4 ++ []))))) Post))
      (λ j. (sym e0 j, sym e1 j, sym e2 j, sym e3 j, sym e4 j)) (walk e0 asked fits_from fits_to fits_count))))))))))

meets : (E : El) {M : Type 1} {𝓤 : Ura M} (𝓛 : Logic 𝓤) (at_mem : Memory → SProp 𝓤) (run' : Routine → Fun 𝓤) (𝓣 : Tables 𝓤 𝓛.H) → Triple 𝓤 (𝓣.C (copy_key E.row)) (Copies E.row 𝓛 at_mem run')
    → Meets 𝓛 (ended E).signature (WpFn 𝓤 𝓛.H 𝓣.C 𝓣.Λ (function E)) (closing 𝓛 (ended E) (clauses E 𝓛 at_mem run'))
meets E {𝓤 = 𝓤} 𝓛 at_mem run' 𝓣 copies =
    walk_Meets 𝓛 (ended E) (stayed E) (Goes-ref 𝓛 2 0 tt (plain (λ _. PlacesRow E)), (Goes-dropped 𝓛 2 (plain (λ _. StartRow E)) no (λ κs x f. refl), (Goes-dropped 𝓛 2 (plain (λ _. usize)) yes (λ κs x f. refl), (Goes-dropped 𝓛 2 (plain (λ _. usize)) yes (λ κs x f. refl), (Goes-dropped 𝓛 2 (plain (λ _. usize)) yes (λ κs x f. refl), tt)))))
    (clauses E 𝓛 at_mem run') (WpFn 𝓤 𝓛.H 𝓣.C 𝓣.Λ (function E)) (WpFn-mono 𝓤 𝓛.H 𝓛.laws 𝓣 (function E))
    (λ z. let κs = z.0.0 in let qs = z.0.1 in let a = z.0.3 in let us = z.0.4 in let On : SProp 𝓤 = on_entry 𝓛 (ended E).signature κs qs a us in
    let Lives : Type 0 = κs.1.0 ⊑ E.row.lives in let Asked : Type 0 = Asks E a.0.now a.1.0 a.1.1.0 a.1.1.1.0 a.1.1.1.1.0 in
    qed 𝓛 (raw On ∷ (raw (fact 𝓤 Lives) ⊛ raw (fact 𝓤 Asked)) ∷ []) ∵ move ! (1 ∷ []) $ split ! $ heard ! Lives (λ lives. heard ! Asked (λ asked.
    by ! (entry E 𝓛 at_mem run' 𝓣.C 𝓣.Λ (fm_of 𝓤 𝓛.H 𝓛.laws 𝓣) copies κs.0 κs.1.0 qs.0 qs.1.0 z.0.2.0 lives a.0.ref_ptr.0 a.0.ref_ptr.1 a.0.ghost_name a.0.now a.1.0 a.1.1.0 a.1.1.1.0 a.1.1.1.1.0 us.0 us.1.0 us.1.1.0 us.1.1.1.0 us.1.1.1.1.0 asked))))

pub move_apart_spec : {M : Type 1} → stated.statement M
unfolding tables_of
move_apart_spec 𝓤 𝓛 𝓜 𝓡 wired X LX =
    let E : El = record { row = X; laws = LX } in
    let 𝓣 : Tables 𝓤 𝓛.H = tables_of 𝓤 𝓛.H 𝓜 (tables 𝓤 𝓛.H 𝓜 𝓡 𝓡.env) in
    entered 𝓤 𝓛.H (triple_of 𝓛 (ended E).signature (F.spec X 𝓛 𝓜.mem 𝓡.returns)) 𝓣.C 𝓣.Λ (#self (args E)) (function E) (code.unfolded 𝓤 𝓛.H 𝓜 𝓡 wired (X, tt))
    (meets E 𝓛 𝓜.mem 𝓡.returns 𝓣 (callee.met 𝓤 𝓛 𝓜 𝓡 (code.calls-core::ptr::copy_nonoverlapping 𝓡.env wired) X LX))
