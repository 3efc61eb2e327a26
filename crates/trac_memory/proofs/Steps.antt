-- The names of the logic that this crate's proofs by hand share.
pub use Rattle.std.proofs.Common.{◌≡◌, ℕ, ◌+◌, ◌^◌, ◌<◌, Bool, true, false, List, [], ◌∷◌, Ok, Err, refl, sym, ap, subst, w64, Bor}
pub use seplogic.Ra.Ura.{Ura}
pub use mir.Syntax.{Ty, Args, Fn, Body, a_type, ty_unit, dnil, dcons}
pub use mir.Val.{Val, vunit, vbool, vint, vptr, has_ty, WT}
pub use lib.Dec.{T, lit<}
pub use mir.MapTy.{inst_fn}
pub use base.Logic.{SProp, ent, sep, ex, guard, id⊢, never_e}
pub use base.Fml.{Lft, Share, Fml, ftrue, ffalse, fsep, froom, flft}
pub use prog.Memory.{Memory, size, align, capped, up}
pub use prog.Routine.{Routine}
pub use prog.Capped.{capped_fits}
pub use prog.Wp.{Env, Wp, WpFn, Tables, after_seq, at_return}
pub use types.Logic.{Logic, sem}
pub use types.Kit.{Item, ‵, raw, ⋆, ◌⊛◌, some, later, given, at_ret, any_q, Post as After, ◌$◌, ◌∵◌, !, qed, by, move, keep, use0, use1, use2, use3, split, split3, join, pick, show, learn, rewrite, fsplit, fjoin, feq_i, flt_i, feq_l, check, suffices, await, updating, now as at_once, done}
pub use types.Match.{vrt, in_variant}
pub use types.Run.{stop, fld, addr, un, size_word, no_more, and_then, of_opd, lit, unit_lit, first, blocks, branches, skips, switches_on, exec, returns, returns_within, enter}
pub use types.Part.{whole, agg}
pub use types.ByLocal.{alloc_all, pass_all, free_all, look_at, get, get_in, get_tag, through, sets, sets_last, lands_as, lands_last, env}
pub use contract.BorrowLft.{◌⊑◌, ⊑_trans}
pub use contract.Monad.{Fun, fact}
pub use contract.Running.{tables}
unfoldable pub use contract.Running.{tables_of}
pub use sound.WpLaws.{fm_of, WpFn-mono}
pub use denote.Builtin.{usize, bool, RawPtr, RefOf}
pub use denote.Exit.{yes}
pub use denote.Memory.{hidden_shr}
pub use denote.Opens.{shr_dup, unhide}
pub use denote.Param.{bounded, layout, param}
pub use denote.Plain.{uint_vals, uint_Tells}
pub use denote.RattleType.{RattleType, owns}
pub use denote.RawPtr.{Ptr, block_ptr, null_ptr, ptr_val, rawptr_vals, rawptr_Tells}
pub use denote.Ref.{shr_vals}
pub use denote.Signature.{Slot, plain, types_at}
pub use denote.Steps.{heard, nothing, only}
pub use denote.Triple.Call.{calls_at, calls_at_last}
pub use denote.Triple.Clauses.{Ended, Clauses}
pub use denote.Triple.Spec.{triple_of}
pub use denote.Triple.Statement.{Contract, Triple}
pub use denote.Triple.Table.{entered, cited}
pub use denote.Triple.Walked.{Stays, stay_dropped, walk_of, ends_at, walked, Goes-dropped, walk_Meets}
pub use Rattle.std.proofs.VecSteps.Shapes.{after, front, arm_body}
