-- `no_places` makes a row of no places, which owns nothing, at a pointer that is not null. Assumes `Logic`.
use mathlib.Core.Path.{◌≡◌, refl, sym, subst}
use Prim.Native.Nat.{◌*◌, ◌<◌, ◌^◌}
use native.Mathlib.Nat.{zero-mul}
use mathlib.Core.List.{List, [], ◌∷◌}
use lib.Dec.{lit<}
use lib.ListN.{length}
use seplogic.Ra.Ura.{Ura}
use mir.Syntax.{Fn}
use mir.MapTy.{inst_fn}
use mir.Val.{Val}
use base.Logic.{SProp, ent, sep, emp, via, fst∗}
use base.Fml.{Lft, Share, ftrue, flft}
use prog.Memory.{Memory}
use prog.Routine.{Routine}
use prog.Wp.{Calls, Loops, WpFn, Tables}
use types.Logic.{Logic}
use contract.Monad.{Fun, fact}
use contract.BorrowLft.{◌⊑◌}
use contract.Running.{tables, tables_of}
use sound.WpLaws.{WpFn-mono}
use types.Kit.{Item, ⋆, ‵, ◌⊛◌, ◌$◌, ◌∵◌, !, qed, by, move, keep, use0, use2, fjoin, flt_i, suffices, frame, done}
use types.Part.{agg}
use types.Run.{stop, from, addr, and_then, no_more, returns, enter}
use types.ByLocal.{alloc_all, pass_all, free_all, look_at, get, sets}
use denote.RattleType.{RattleType, owns}
use denote.Param.{layout}
use denote.RawPtr.{Ptr, block_ptr}
use denote.Steps.{nothing}
use denote.Struct.Tuple.{Tuple}
use denote.Triple.Clauses.{closing}
use denote.Triple.Entry.{on_entry}
use denote.Triple.Spec.{Meets, triple_of}
use denote.Triple.Table.{entered}
use denote.Triple.Walked.{says, Stays, walk_of, ends_at, walk_Meets}
use Rattle.core.proofs.mem.Param.{El, args}
use Rattle.std_alloc.proofs.Pairs.{pair_of, pair_val}
use Rattle.std_alloc.proofs.RcSteps.{Good, word, word-Good}
use Rattle.trac_gap.proofs.Rows.{PlacesRow, StartRow, Mark, step_size, mark, mark_made, origin_made}
use Rattle.trac_gap.specs.contracts.slots.no_places as F
use Rattle.trac_gap.specs.contracts.slots.no_places.Key.{name as #self}
use Rattle.trac_gap.proofs.slots.no_places.Statement as stated
use Rattle.trac_gap.proofs.slots.no_places.Code as code

module _ (E : El) where
  abbrev function : Fn
  function = inst_fn (args E) code.function

  abbrev stayed : Stays (F.ended E.row).signature.params (F.ended E.row).kept
  stayed = tt

  abbrev Out : RattleType
  Out = Tuple (StartRow E ∷ PlacesRow E ∷ [])

  abbrev Gives : Out.Denot → Type 0
  Gives r = (r.1.at ≡ r.0.ptr) × (r.1.slots ≡ [])

module _ (E : El) {M : Type 1} {𝓤 : Ura M} (𝓛 : Logic 𝓤) (at_mem : Memory → SProp 𝓤) (run : Routine → Fun 𝓤) (C : Calls 𝓤 𝓛.H) (Λ : Loops 𝓤 𝓛.H) (κ : Lft) (q : Share) where
  open 𝓛 use {H}

  abbrev bound : (walk_of 𝓛 (F.ended E.row) (stayed E) (F.clauses E.row 𝓛 at_mem run)).Ghost
  bound = (((κ, tt), (q, tt), tt, tt, tt), tt)

  abbrev Post : Val → SProp 𝓤
  Post = (walk_of 𝓛 (F.ended E.row) (stayed E) (F.clauses E.row 𝓛 at_mem run)).post bound

  abbrev Had : List (Item 𝓤)
  Had = (‵ (flft κ q) ⊛ ‵ ftrue) ∷ []

  exits : (r : (Out E).Denot) (v : Val) → Gives E r → ent 𝓤 (⋆ 𝓛 (‵ ((Out E).own_val r (v ∷ [])) ∷ Had)) (Post v)
  exits r v gives =
      qed 𝓛 (‵ ((Out E).own_val r (v ∷ [])) ∷ Had) ∵ suffices ! _ (ends_at 𝓛 (F.ended E.row) (stayed E) (F.clauses E.row 𝓛 at_mem run) bound v r tt tt) $ says ! gives $
      move ! (1 ∷ []) $ frame ! $ nothing ! $ done !

  walk : ent 𝓤 (⋆ 𝓛 Had) (WpFn 𝓤 H C Λ (function E) [] Post)
  walk =
      let s = step_size E in
      qed 𝓛 Had ∵ enter ! C Λ (function E) [] _ $ alloc_all ! (λ l. pass_all ! refl tt $
      let p : Ptr = block_ptr (l 1) 0 in
      let start : (StartRow E).Denot = record { ptr = p } in
      let places : (PlacesRow E).Denot = record { mark = record {}; at = p; slots = [] } in
      let made : Val = pair_val (word p) mark in
      let typed : Good (layout (Out E)) made = (tt, ((tt, tt), ((tt, tt), tt))) in
      sets ! (agg ! (no_more !)) refl (tt, tt) $ sets ! (addr ! (from ! (stop !))) refl (tt, tt) $
      sets ! (agg ! (and_then ! (get ! refl) (no_more !))) refl (word-Good [] p) $
      sets ! (agg ! (no_more !)) refl (tt, tt) $ sets ! (agg ! (and_then ! (get ! refl) (no_more !))) refl (tt, (tt, tt)) $
      sets ! (agg ! (and_then ! (get ! refl) (and_then ! (get ! refl) (no_more !)))) refl typed $
      nothing ! $ flt_i ! (length places.slots * s) (2 ^ 63) (subst (λ k. k < 2 ^ 63) (sym (zero-mul s)) (lit< tt)) $ fjoin ! $
      use0 𝓛 (‵ ((Mark E).own_val (tt, tt) (mark ∷ []))) (mark_made E 𝓛) $ fjoin ! $ origin_made ! p $
      use2 𝓛 (‵ ((Out E).own_val (start, places) (made ∷ []))) (pair_of 𝓛 (StartRow E) (PlacesRow E) start places (word p) mark) $
      returns ! (look_at ! 0 refl) $ free_all ! refl $ keep ! (0 ∷ 1 ∷ []) $ by ! (exits (start, places) made (refl, refl)))

  entry : ent 𝓤 (on_entry 𝓛 (F.ended E.row).signature (κ, tt) (q, tt) tt tt) (WpFn 𝓤 H C Λ (function E) [] Post)
  entry = qed 𝓛 ((‵ (flft κ q) ⊛ ‵ ftrue) ∷ ‵ (owns [] tt tt) ∷ []) ∵ keep ! (0 ∷ []) $ by ! walk

meets : (E : El) {M : Type 1} {𝓤 : Ura M} (𝓛 : Logic 𝓤) (at_mem : Memory → SProp 𝓤) (run : Routine → Fun 𝓤) (𝓣 : Tables 𝓤 𝓛.H)
    → Meets 𝓛 (F.ended E.row).signature (WpFn 𝓤 𝓛.H 𝓣.C 𝓣.Λ (function E)) (closing 𝓛 (F.ended E.row) (F.clauses E.row 𝓛 at_mem run))
meets E {𝓤 = 𝓤} 𝓛 at_mem run 𝓣 =
    walk_Meets 𝓛 (F.ended E.row) (stayed E) tt (F.clauses E.row 𝓛 at_mem run) (WpFn 𝓤 𝓛.H 𝓣.C 𝓣.Λ (function E)) (WpFn-mono 𝓤 𝓛.H 𝓛.laws 𝓣 (function E))
    (λ z. via 𝓤 _ (fst∗ 𝓤 _ (sep 𝓤 (fact 𝓤 (z.0.0.0 ⊑ E.row.lives)) (emp 𝓤))) (entry E 𝓛 at_mem run 𝓣.C 𝓣.Λ z.0.0.0 z.0.1.0))

pub no_places_spec : {M : Type 1} → stated.statement M
unfolding tables_of
no_places_spec 𝓤 𝓛 𝓜 𝓡 wired X LX =
    let E : El = record { row = X; laws = LX } in
    let 𝓣 : Tables 𝓤 𝓛.H = tables_of 𝓤 𝓛.H 𝓜 (tables 𝓤 𝓛.H 𝓜 𝓡 𝓡.env) in
    entered 𝓤 𝓛.H (triple_of 𝓛 (F.ended E.row).signature (F.spec X 𝓛 𝓜.mem 𝓡.returns)) 𝓣.C 𝓣.Λ (#self (args E)) (function E) (code.unfolded 𝓤 𝓛.H 𝓜 𝓡 wired (X, tt))
    (meets E 𝓛 𝓜.mem 𝓡.returns 𝓣)
