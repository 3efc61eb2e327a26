-- `allocate` cuts a new block into empty places, and keeps the right to give it back. Assumes `Logic`.
use mathlib.Core.Path.{◌≡◌, refl, sym, ap, subst}
use mathlib.Core.Bool.{true, false}
use Prim.Native.Nat.{ℕ, ◌*◌, ◌<◌, ◌^◌}
use native.Mathlib.Omega.{arith}
use mathlib.Core.List.{List, [], ◌∷◌, ◌++◌}
use lib.Dec.{lit<}
use lib.ListN.{length, replicate, length-replicate}
use seplogic.Ra.Ura.{Ura}
use mir.Syntax.{Fn, Body, named, w64, ty_array}
use mir.MapTy.{inst_fn}
use mir.Val.{Val, vptr, vint, vstruct, vcons, vnil}
use base.Logic.{SProp, ent, sep}
use base.Fml.{Lft, Share, Incl-trans, ftrue, flft}
use prog.Memory.{Memory, align, capped}
use prog.Capped.{capped_fits}
use prog.Routine.{Routine}
use prog.Wp.{Env, Calls, Loops, Wp, WpFn, Tables, after_seq, at_return}
use types.Logic.{Logic, sem}
use contract.Monad.{Fun, fact}
use contract.BorrowLft.{◌⊑◌}
use contract.Running.{tables, tables_of}
use sound.WpLaws.{FmC, fm_of, WpFn-mono}
use types.Kit.{Post as After, Item, ⋆, ‵, raw, ◌⊛◌, later, await, at_ret, any_q, ◌$◌, ◌∵◌, !, qed, by, move, keep, use0, use1, use2, use3, split, join, fsplit, fsplit3, fjoin, fpack, feq_i, feq_l, flt_l, flt_i, suffices, frame, done}
use types.Part.{whole, agg}
use types.Match.{live, vrt, in_variant}
use types.Run.{stop, fld, lit, of_opd, bin, size_word, align_word, and_then, no_more, first, switches_on, exec, returns, enter}
use types.ByLocal.{alloc_all, pass_all, free_all, look_at, get, get_in, get_tag, sets, sets_last, lands_as, is, env}
use denote.Exit.{yes}
use denote.RattleType.{RattleType, Valss, owns}
use denote.Laws.{Is}
use denote.Memory.{hidden_shr}
use denote.Param.{layout}
use denote.RawPtr.{Ptr, block_ptr}
use denote.Ref.{Bor, ShrRef}
use denote.Builtin.{RefOf, usize}
use denote.Signature.{plain}
use denote.Steps.{nothing, owned}
use denote.Struct.Struct.{Struct, Struct-Makes, within}
use denote.Struct.Declared as Declared
use denote.Struct.Tuple.{Tuple, tuple_type}
use denote.Triple.Call.{calls_at}
use denote.Triple.Clauses.{Clauses, Ended, closing}
use denote.Triple.Entry.{on_entry}
use denote.Triple.Spec.{Meets, triple_of}
use denote.Triple.Statement.{Triple}
use denote.Triple.Table.{entered}
use denote.Triple.Walked.{says, needs, Stays, stay_dropped, walk_of, ends_at, Goes-dropped, walk_Meets}
use Rattle.std.specs.Prelude.{None, IfOk, Ok, Err}
use Rattle.std.specs.Vec.Ownership.{FitsInBlock}
use Rattle.core.specs.contracts.result.Result as Outcome
use Rattle.core.specs.contracts.alloc.AllocError as Refusal
use Rattle.core.proofs.alloc.Calls.{Al, second, Answer-typed, takes_key, Takes, at_takes, Answered, Takes-goes, Takes-gives, answers}
use Rattle.core.proofs.mem.Param.{El, R, elτ}
use Rattle.core.proofs.slots.Leases.{uncapped, block_ty, block_size, block_align, args, P}
use Rattle.std_alloc.proofs.RawLayout.{as_written}
use Rattle.std_alloc.proofs.ResultValues.{ok_of, err_of}
use Rattle.std_alloc.proofs.RcSteps.{Good, word, word-Good, first_Good}
use Rattle.std_alloc.proofs.VecSteps.Shapes.{after, head, arm_body}
use Rattle.trac_gap.specs.Ownership.{row_owns}
use Rattle.trac_gap.proofs.Rows.{PlacesRow, StartRow, Mark, step_size, mark, mark_made, origin_made, of_room}
use Rattle.trac_gap.specs.contracts.slots.Lease as L-type
use Rattle.trac_gap.specs.contracts.slots.allocate as F
use Rattle.trac_gap.specs.contracts.slots.allocate.Key.{name as #self}
use Rattle.trac_gap.proofs.slots.allocate.Statement as stated
use Rattle.trac_gap.proofs.slots.allocate.Code as code

abbrev triple_val : Val → Val → Val → Val
triple_val u v w = vstruct (vcons u (vcons v (vcons w vnil)))

-- three owned values make an owned tuple
triple_made : {M : Type 1} {𝓤 : Ura M} (𝓛 : Logic 𝓤) (X Y Z : RattleType) (x : X.Denot) (y : Y.Denot) (z : Z.Denot) (u v w : Val)
    → ent 𝓤 (sep 𝓤 (sem 𝓛 (X.own_val x (u ∷ []))) (sep 𝓤 (sem 𝓛 (Y.own_val y (v ∷ []))) (sem 𝓛 (Z.own_val z (w ∷ []))))) (sem 𝓛 ((Tuple (X ∷ Y ∷ Z ∷ [])).own_val (x, y, z) (triple_val u v w ∷ [])))
triple_made 𝓛 X Y Z x y z u v w =
    let made = triple_val u v w ∷ [] in
    qed 𝓛 (‵ (X.own_val x (u ∷ [])) ∷ ‵ (Y.own_val y (v ∷ [])) ∷ ‵ (Z.own_val z (w ∷ [])) ∷ []) ∵
    nothing ! $ move ! (3 ∷ 0 ∷ []) $ fjoin ! $ move ! (2 ∷ 0 ∷ []) $ fjoin ! $ move ! (1 ∷ 0 ∷ []) $ fjoin ! $ feq_i ! (List Val) made made refl $ fjoin ! $
    fpack ! (Valss (X ∷ Y ∷ Z ∷ [])) (within (Declared.shape (tuple_type (X ∷ Y ∷ Z ∷ []))) (x, (y, (z, tt))) made) (u ∷ [], (v ∷ [], (w ∷ [], tt))) $ done !

module _ (E : El) (Z : Al) where
  abbrev function : Fn
  function = inst_fn (args E Z) code.function

  abbrev ended : Ended
  ended = F.ended E.row Z.row Z.g Z.d Z.drops

  abbrev clauses : {M : Type 1} {𝓤 : Ura M} (𝓛 : Logic 𝓤) → (Memory → SProp 𝓤) → (Routine → Fun 𝓤) → Clauses 𝓤 ended
  clauses 𝓛 = F.clauses E.row Z.row Z.g Z.d Z.drops 𝓛

  abbrev LeaseRow : RattleType
  LeaseRow = L-type.the_row (R E) (P E Z) Z.g

  abbrev stayed : Stays ended.signature.params ended.kept
  stayed = (stay_dropped (RefOf (0 ∷ []) tt (plain (λ _. P E Z)) (λ _. tt)) yes, (stay_dropped (plain (λ _. usize)) yes, tt))

  abbrev Parts : RattleType
  Parts = Tuple (StartRow E ∷ PlacesRow E ∷ LeaseRow ∷ [])

  abbrev Out : RattleType
  Out = Outcome.the_row Parts Refusal.the_row

  abbrev Gives : Z.row.Denot → ℕ → Out.Denot → Type 0
  Gives a count r = IfOk r (λ t. (t.1.at ≡ t.0.ptr) × (t.1.slots ≡ replicate count None) × (t.2.at ≡ t.0.ptr) × (t.2.count ≡ count) × (t.2.alloc ≡ a))

module _ (E : El) (Z : Al) {M : Type 1} {𝓤 : Ura M} (𝓛 : Logic 𝓤) (at_mem : Memory → SProp 𝓤) (run : Routine → Fun 𝓤) (C : Calls 𝓤 𝓛.H) (Λ : Loops 𝓤 𝓛.H) (fm : FmC 𝓤 𝓛.H 𝓛.laws C)
    (callee : Triple 𝓤 (C (takes_key Z)) (Takes Z 𝓛 at_mem run)) (κ κ₁ κ₂ : Lft) (q q₁ q₂ : Share) (short : κ ⊑ κ₂) (within_alloc : κ₂ ⊑ Z.row.lives) (rb ro : ℕ) (a : Z.row.Denot) (count : ℕ) (us0 us1 : List Val) where
  open 𝓛 use {H, A}

  abbrev self : Bor Z.row.Denot
  self = record { ref_ptr = (rb, ro); now = a }

  abbrev others : Item 𝓤
  others = ‵ (flft κ₁ q₁) ⊛ ‵ (flft κ₂ q₂) ⊛ ‵ ftrue

  abbrev bound : (walk_of 𝓛 (ended E Z) (stayed E Z) (clauses E Z 𝓛 at_mem run)).Ghost
  bound = (((κ, (κ₁, (κ₂, tt))), (q, (q₁, (q₂, tt))), (short, tt), (self, (count, tt)), (us0, (us1, tt))), tt)

  abbrev Post : Val → SProp 𝓤
  Post = (walk_of 𝓛 (ended E Z) (stayed E Z) (clauses E Z 𝓛 at_mem run)).post bound

  exits : (r : (Out E Z).Denot) (v : Val) → Gives E Z a count r → ent 𝓤 (⋆ 𝓛 (‵ ((Out E Z).own_val r (v ∷ [])) ∷ ‵ (flft κ q) ∷ others ∷ [])) (Post v)
  exits r v gives =
      qed 𝓛 (‵ ((Out E Z).own_val r (v ∷ [])) ∷ ‵ (flft κ q) ∷ others ∷ []) ∵
      suffices ! _ (ends_at 𝓛 (ended E Z) (stayed E Z) (clauses E Z 𝓛 at_mem run) bound v r (tt, (tt, tt)) (tt, (tt, tt))) $ says ! gives $
      move ! (1 ∷ 2 ∷ []) $ join ! $ frame ! $ nothing ! $ nothing ! $ fjoin ! $ nothing ! $ fjoin ! $ done !

  abbrev Had : List (Item 𝓤)
  Had = ‵ (hidden_shr (P E Z) κ a rb ro) ∷ ‵ (flft κ q) ∷ others ∷ []

  walk : FitsInBlock (R E) count → count < 2 ^ 64 → ent 𝓤 (⋆ 𝓛 Had) (WpFn 𝓤 H C Λ (function E Z) (vptr rb ro ∷ vint w64 count ∷ []) Post)
  walk asked fits =
      let s = step_size E in let small : count * s < 2 ^ 63 = asked.0 in let bytes : count * s < 2 ^ 64 = omega arith in
      qed 𝓛 Had ∵ enter ! C Λ (function E Z) (vptr rb ro ∷ vint w64 count ∷ []) _ $ alloc_all ! (λ l. pass_all ! refl ((tt, tt), ((tt, record { fits = fits }), tt)) $
      let En : Env 𝓤 H = env (function E Z).locals l in
      let both : Body = head (after 2 (function E Z).body) in
      let Then : After 𝓤 H = any_q (after_seq 𝓤 H (Wp 𝓤 H C Λ En (after 3 (function E Z).body) (at_return 𝓤 H En Post)) (at_return 𝓤 H En Post)) in
      let al : ℕ = capped (align (elτ E)) in
      let y : (Takes Z 𝓛 at_mem run).Ghost = at_takes Z 𝓛 at_mem run κ q (rb, ro) a (count * s) al (block_ty E count) in
      sets ! (is ! (bin ! (get ! refl) (size_word !) (record { fits = subst (λ (k : ℕ). k < 2 ^ 64) (sym (uncapped count s bytes)) bytes })) (ap (vint w64) (uncapped count s bytes))) refl (tt, record { fits = bytes }) $
      use2 𝓛 (raw ((Takes Z 𝓛 at_mem run).pre y)) (Takes-goes Z 𝓛 at_mem run κ q (rb, ro) a (Incl-trans short within_alloc) (count * s) al (block_ty E count) (block_size E count bytes) (block_align E count) bytes (capped_fits (align (elτ E)))) $
      calls_at ! fm (Takes Z 𝓛 at_mem run) callee y (and_then ! (get ! refl) (and_then ! (get ! refl) (and_then ! (align_word !) (no_more !)))) (λ v.
      use1 𝓛 (later (raw (Answered Z 𝓛 at_mem run a (block_ty E count) v) ⊛ ‵ (flft κ q))) (Takes-gives Z 𝓛 at_mem run κ q (rb, ro) a (count * s) al (block_ty E count) v) $ await ! tt $ split ! $
      answers Z ! at_mem run a (block_ty E count) v
      (λ b o e.
      let p : Ptr = block_ptr b o in
      let start : (StartRow E).Denot = record { ptr = p } in
      let places : (PlacesRow E).Denot = record { mark = record {}; at = p; slots = replicate count None } in
      let lease : (LeaseRow E Z).Denot = record { mark = record {}; at = p; count = count; alloc = a } in
      let made : Val = triple_val (word p) mark mark in
      let typed : Good (layout (Parts E Z)) made = (tt, ((tt, tt), ((tt, tt), ((tt, tt), tt)))) in
      let ok = first_Good (layout (Parts E Z)) made typed in
      lands_as ! e refl (Answer-typed true b o) $ first ! $ switches_on ! (get_tag ! (vrt ! refl (fld ! refl (stop !))) (whole !)) $ exec ! C Λ En (arm_body 0 both) Then $
      sets ! (of_opd ! (get_in ! (vrt ! refl (fld ! refl (stop !))) (in_variant ! 0 0 refl refl (whole !)))) refl (tt, tt) $ sets ! (of_opd ! (get ! refl)) refl (tt, tt) $
      sets ! (agg ! (and_then ! (get ! refl) (no_more !))) refl (word-Good [] p) $
      sets ! (agg ! (no_more !)) refl (tt, tt) $ sets ! (agg ! (and_then ! (get ! refl) (no_more !))) refl (tt, (tt, tt)) $
      sets ! (agg ! (no_more !)) refl (tt, tt) $ sets ! (agg ! (and_then ! (get ! refl) (no_more !))) refl (tt, (tt, tt)) $
      sets ! (agg ! (and_then ! (get ! refl) (and_then ! (get ! refl) (and_then ! (get ! refl) (no_more !))))) refl typed $
      sets_last ! (agg ! (and_then ! (lit ! tt) (and_then ! (get ! refl) (no_more !)))) refl ok $
      exec ! C Λ En (after 3 (function E Z).body) (at_ret En Post) $ sets ! (of_opd ! (get ! refl)) refl ok $
      move ! (1 ∷ []) $ use0 𝓛 (‵ ((Mark E).own_val (tt, tt) (mark ∷ []))) (mark_made E 𝓛) $ fjoin ! $ move ! (1 ∷ []) $
      as_written ! (ty_array (elτ E) count) b o $ use1 𝓛 (‵ (row_owns (R E) b o places.slots)) (of_room E 𝓛 b count o) $
      flt_i ! (length places.slots * s) (2 ^ 63) (subst (λ k. k * s < 2 ^ 63) (sym (length-replicate count None)) small) $ fjoin ! $
      use0 𝓛 (‵ ((Mark E).own_val (tt, tt) (mark ∷ []))) (mark_made E 𝓛) $ fjoin ! $ origin_made ! p $
      use3 𝓛 (‵ ((Parts E Z).own_val (start, places, lease) (made ∷ []))) (triple_made 𝓛 (StartRow E) (PlacesRow E) (LeaseRow E Z) start places lease (word p) mark mark) $
      use1 𝓛 (‵ ((Out E Z).own_val (Ok (start, places, lease)) (live 0 (vcons made vnil) ∷ []))) (ok_of 𝓛 (Parts E Z) Refusal.the_row (start, places, lease) made) $
      returns ! (look_at ! 0 refl) $ free_all ! refl $ keep ! (0 ∷ 1 ∷ 2 ∷ []) $ by ! (exits (Ok (start, places, lease)) (live 0 (vcons made vnil)) (refl, refl, refl, refl, refl)))
      (λ e.
      let Empty : RattleType = Struct (Declared.shape Refusal.the_type) in
      let none : Val = live 1 (vcons (vstruct vnil) vnil) in
      lands_as ! e refl (Answer-typed false 0 0) $ first ! $ switches_on ! (get_tag ! (vrt ! refl (fld ! refl (stop !))) (whole !)) $ exec ! C Λ En (arm_body 1 both) Then $
      sets ! (of_opd ! (get_in ! (vrt ! refl (fld ! refl (stop !))) (in_variant ! 1 0 refl refl (whole !)))) refl (tt, tt) $
      sets_last ! (agg ! (and_then ! (lit ! tt) (and_then ! (get ! refl) (no_more !)))) refl (tt, (record { fits = lit< tt }, (tt, tt))) $
      exec ! C Λ En (after 3 (function E Z).body) (at_ret En Post) $ sets ! (of_opd ! (get ! refl)) refl (tt, (record { fits = lit< tt }, (tt, tt))) $
      owned ! Empty (Is Empty) (Struct-Makes 𝓛 (Declared.shape Refusal.the_type) tt) tt (vstruct vnil ∷ []) (tt, (refl, tt)) $
      use1 𝓛 (‵ ((Out E Z).own_val (Err (record {})) (none ∷ []))) (err_of 𝓛 (Parts E Z) Refusal.the_row (record {}) (vstruct vnil)) $
      returns ! (look_at ! 0 refl) $ free_all ! refl $ keep ! (0 ∷ 1 ∷ 2 ∷ []) $ by ! (exits (Err (record {})) none tt))))

  entry : FitsInBlock (R E) count → ent 𝓤 (on_entry 𝓛 (ended E Z).signature (κ, (κ₁, (κ₂, tt))) (q, (q₁, (q₂, tt))) (self, (count, tt)) (us0, (us1, tt))) (WpFn 𝓤 H C Λ (function E Z) (us0 ++ (us1 ++ [])) Post)
  entry asked =
      qed 𝓛 ((‵ (flft κ q) ⊛ others) ∷ ‵ (owns (ShrRef (named 0) κ (P E Z) ∷ usize ∷ []) (self, (count, tt)) (us0, (us1, tt))) ∷ []) ∵ split ! $ move ! (2 ∷ []) $ fsplit3 ! $ fsplit ! $ feq_l ! (λ e0.
      move ! (1 ∷ []) $ fsplit ! $ feq_l ! (λ e1. flt_l ! (λ fits. keep ! (0 ∷ 2 ∷ 3 ∷ []) $
      by ! (subst (λ (ws : List Val × List Val). ent 𝓤 (⋆ 𝓛 Had) (WpFn 𝓤 H C Λ (function E Z) (ws.0 ++ (ws.1 ++ [])) Post)) (λ j. (sym e0 j, sym e1 j)) (walk asked fits)))))

meets : (E : El) (Z : Al) {M : Type 1} {𝓤 : Ura M} (𝓛 : Logic 𝓤) (at_mem : Memory → SProp 𝓤) (run : Routine → Fun 𝓤) (𝓣 : Tables 𝓤 𝓛.H) → Triple 𝓤 (𝓣.C (takes_key Z)) (Takes Z 𝓛 at_mem run)
    → Meets 𝓛 (ended E Z).signature (WpFn 𝓤 𝓛.H 𝓣.C 𝓣.Λ (function E Z)) (closing 𝓛 (ended E Z) (clauses E Z 𝓛 at_mem run))
meets E Z {𝓤 = 𝓤} 𝓛 at_mem run 𝓣 callee =
    walk_Meets 𝓛 (ended E Z) (stayed E Z) (Goes-dropped 𝓛 3 (RefOf (0 ∷ []) tt (plain (λ _. P E Z)) (λ _. tt)) yes (λ κs x f. refl), (Goes-dropped 𝓛 3 (plain (λ _. usize)) yes (λ κs x f. refl), tt))
    (clauses E Z 𝓛 at_mem run) (WpFn 𝓤 𝓛.H 𝓣.C 𝓣.Λ (function E Z)) (WpFn-mono 𝓤 𝓛.H 𝓛.laws 𝓣 (function E Z))
    (λ z. let κs = z.0.0 in let qs = z.0.1 in let a = z.0.3 in let us = z.0.4 in let On : SProp 𝓤 = on_entry 𝓛 (ended E Z).signature κs qs a us in
    let asks = FitsInBlock (R E) a.1.0 in
    second 𝓤 (κs.1.0 ⊑ E.row.lives) (κs.1.1.0 ⊑ Z.row.lives) On (fact 𝓤 asks) (λ within_alloc. needs 𝓤 asks On
    (entry E Z 𝓛 at_mem run 𝓣.C 𝓣.Λ (fm_of 𝓤 𝓛.H 𝓛.laws 𝓣) callee κs.0 κs.1.0 κs.1.1.0 qs.0 qs.1.0 qs.1.1.0 z.0.2.0 within_alloc a.0.ref_ptr.0 a.0.ref_ptr.1 a.0.now a.1.0 us.0 us.1.0)))

pub allocate_spec : {M : Type 1} → stated.statement M
unfolding tables_of
allocate_spec 𝓤 𝓛 𝓜 𝓡 wired X W LX LW g d dd met md =
    let E : El = record { row = X; laws = LX } in
    let Z : Al = record { row = W; laws = LW; g = g; d = d; drops = dd } in
    let 𝓣 : Tables 𝓤 𝓛.H = tables_of 𝓤 𝓛.H 𝓜 (tables 𝓤 𝓛.H 𝓜 𝓡 𝓡.env) in
    entered 𝓤 𝓛.H (triple_of 𝓛 (ended E Z).signature (F.spec X W g d dd 𝓛 𝓜.mem 𝓡.returns)) 𝓣.C 𝓣.Λ (#self (args E Z)) (function E Z) (code.unfolded 𝓤 𝓛.H 𝓜 𝓡 wired (X, (W, tt)) d dd)
    (meets E Z 𝓛 𝓜.mem 𝓡.returns 𝓣 (met.allocate dd))
