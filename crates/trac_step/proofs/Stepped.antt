-- A step whose record is kept, from the rule that is carried out.
use Rattle.std.proofs.Common.{◌≡◌, ℕ, ◌<◌, ◌≤◌, List, [], ◌∷◌, length, refl, sym, ap, ◌∙◌, subst, arith, true, false}
use Rattle.std.proofs.lemmas.Result.{err_from_is_err_and}
use Rattle.std.specs.Result.{IsErrAnd}
use Rattle.std.specs.Prelude.{Result, Ok, Err, Option, None, Some}
use Rattle.trac_rules.specs.declared.limit.TheConstants.{MARK_LIMIT}
use Rattle.trac_rules.specs.declared.refusal.Refusal.{Refusal}
use Rattle.trac_rules.specs.declared.refusal.Refusal.TheVariants.{Memory, TooLong}
use Rattle.trac_rules.specs.Limits.{marks, texts_fit}
use Rattle.trac_rules.specs.Records.{Record, record_of, recorded, texts_in}
use Rattle.trac_rules.specs.Scanning.{Moves, deleted, scan}
use Rattle.trac_rules.specs.State.{Environment, State}
use Rattle.trac_text.specs.Ruled.{makes_mark, rule_of}
use Rattle.trac_text.specs.declared.scanning.Rule.{Rule}
use Rattle.trac_storage.proofs.Judged.{limits_kept}
use Rattle.trac_storage.proofs.Outcomes.{refuses_memory}
use Rattle.trac_step.specs.Calling.{IfMoves, IsMove, with_mark}
use Rattle.trac_step.specs.Kept.{IsAdded, IsCarriedOut, IsStepped}
use Rattle.trac_step.specs.Layout.{Shown}
use Rattle.trac_step.specs.Record.{IsTaken, recorded_by}
use Rattle.trac_step.specs.declared.record.Record as alone
use Rattle.trac_step.specs.Room.{IsNoLess, LacksRoomAhead}
use Rattle.trac_step.proofs.Moving.{mark_of, of_moves, one_mark_more}
use Rattle.trac_step.proofs.Outcomes.{move_beyond, move_lacks, move_taken}
use Rattle.trac_step.proofs.Recorded.{lacks_a_mark, move_recorded}
use Rattle.trac_step.proofs.Rooms.{no_less, no_less_state}

-- ---- what carries out a rule

-- memory is refused
pub not_carried_out : {R : Type 0} (r : Result R Refusal) (m n : Shown) (old new : List Record) (places : ℕ) → r ≡ Err Memory → n ≡ m → new ≡ old → (1 ≤ places → LacksRoomAhead m) →
    IsCarriedOut r m n old new places
not_carried_out r m n old new places is same records lacks = subst (λ r. IsCarriedOut r m n old new places) (sym is) (record {
  ok = tt;
  kept = tt;
  unchanged = (same, records);
  lacking = lacks;
  err = refl;
  room = subst (λ (k : Shown). IsNoLess m k) (sym same) (no_less m);
})

-- for the record, which has no place
pub no_place : {R : Type 0} (r : Result R Refusal) (m : Shown) (old new : List Record) (places : ℕ) (e : Refusal) → IsErrAnd r (λ said. said ≡ e) → e ≡ Memory → new ≡ old → places ≡ 0 →
    IsCarriedOut r m m old new places
no_place r m old new places e is memory same full =
    let why = err_from_is_err_and r is in
    not_carried_out r m m old new places (why.1 ∙ ap Err (why.2 ∙ memory)) refl same (λ place. absurd (omega (arith, place, full)))

-- or the state is that to which scanning moves on, and the record is added
pub carried_out : {R : Type 0} (x : R) (m n : Shown) (old new : List Record) (places : ℕ) (t : State) → scan m.state ≡ Moves t → n.state ≡ t → new ≡ recorded m.state ∷ old → IsNoLess m n →
    IsCarriedOut (Ok x) m n old new places
carried_out x m n old new places t moves same added room = record {
  ok = moves ∙ ap Moves (sym same);
  kept = added;
  unchanged = tt;
  lacking = tt;
  err = tt;
  room = room;
}

pub carried_so : {R : Type 0} (x : R) (m n : Shown) (old new : List Record) (places : ℕ) (t : State) → scan m.state ≡ Moves t → n ≡ record m { state = t } → new ≡ recorded m.state ∷ old →
    IsCarriedOut (Ok x) m n old new places
carried_so x m n old new places t moves shown added =
    carried_out x m n old new places t moves (ap (λ (k : Shown). k.state) shown) added (subst (λ (k : Shown). IsNoLess m k) (sym shown) (no_less_state m t))

-- ---- marks

module _ (m : Shown) (rule : Rule) (next : rule ≡ rule_of (texts_in m.state)) (makes : makes_mark rule ≡ true) where
  -- where the state after a mark is within the limits, there was room for it
  pub room_for_mark : IfMoves (scan m.state) (λ t. texts_fit t ≡ true) → marks m.state.frames < MARK_LIMIT
  room_for_mark fits =
      let mark = mark_of m.state rule next makes in
      let after : State = with_mark mark.frame (deleted mark.bytes m.state) in
      let kept = limits_kept after (of_moves m.state after (λ t. texts_fit t ≡ true) mark.moves fits) in
      omega (arith, kept.marked, one_mark_more mark.frame mark.bytes m.state mark.inside)

  -- and where all places are taken, there is none
  pub lacks_mark : m.mark_room ≤ marks m.state.frames → LacksRoomAhead m
  lacks_mark full =
      let mark = mark_of m.state rule next makes in
      lacks_a_mark m (with_mark mark.frame (deleted mark.bytes m.state)) full (one_mark_more mark.frame mark.bytes m.state mark.inside) mark.moves

-- ---- what that says of the step

-- within the limits
pub stepped : {R : Type 0} (e : Environment) (r : Result R Refusal) (m n : Shown) (old new : List Record) (places : ℕ) → IsMove (scan m.state) → IfMoves (scan m.state) (λ t. true ≡ texts_fit t) →
    IsCarriedOut r m n old new places → IsStepped e r m n old new places
stepped e (Ok x) m n old new places moves fits h = record {
  taken = move_taken e m.state n.state h.ok fits;
  kept = subst (λ (o : Option Record). IsAdded o old new) (sym (move_recorded e m.state moves)) h.kept;
  refused = tt;
  unchanged = tt;
  lacking = tt;
  room = h.room;
}
stepped e (Err refusal) m n old new places moves fits h = record {
  taken = tt;
  kept = tt;
  refused = refuses_memory _ refusal h.err (move_lacks e m.state moves);
  unchanged = (ap (λ (k : Shown). k.state) h.unchanged.0, h.unchanged.1);
  lacking = λ is place. h.lacking place;
  room = h.room;
}

-- and beyond them
pub not_stepped : {R : Type 0} (e : Environment) (m : Shown) (records : List Record) (places : ℕ) → IsMove (scan m.state) → IfMoves (scan m.state) (λ t. false ≡ texts_fit t) →
    IsStepped {R = R} e (Err TooLong) m m records records places
not_stepped e m records places moves beyond = record {
  taken = tt;
  kept = tt;
  refused = move_beyond e m.state moves beyond;
  unchanged = (refl, refl);
  lacking = λ is. absurd (cc);
  room = no_less m;
}

-- ---- a step whose record is kept by itself

-- a record is added
pub one_at_least : (o : Option Record) (old new : List Record) → IsAdded o old new → 0 < length new
one_at_least None old new h = absurd h
one_at_least (Some r) old new h = omega (arith, ap (λ (records : List Record). length records) h)

-- it is the only one
pub taken_alone : {R A : Type 0} (x : R) (r : alone.Record A) (e : Environment) (m n : Shown) (new : List Record) (places : ℕ) → IsStepped e (Ok x) m n [] new places → new ≡ recorded_by r ∷ [] →
    IsTaken e (Ok r) m n
taken_alone x r e m n new places h is = record {
  taken = h.taken;
  recorded = by_record (record_of e m.state) h.kept;
  refused = tt;
  lacking = tt;
  room = h.room;
}
  where
    by_record : (o : Option Record) → IsAdded o [] new → o ≡ Some (recorded_by r)
    by_record None added = absurd added
    by_record (Some newest) added = let both : newest ∷ [] ≡ recorded_by r ∷ [] = sym added ∙ is in cc

-- or the step is refused
pub not_taken : {R A : Type 0} (r : Result (alone.Record A) Refusal) (refusal : Refusal) (e : Environment) (m n : Shown) (old new : List Record) (places : ℕ) → IsErrAnd r (λ said. said ≡ refusal) → 1 ≤ places →
    IsStepped {R = R} e (Err refusal) m n old new places → IsTaken e r m n
not_taken {R} {A} r refusal e m n old new places is place h =
    let why = err_from_is_err_and r is in
    subst (λ (r : Result (alone.Record A) Refusal). IsTaken e r m n) (sym (why.1 ∙ ap Err why.2)) (record {
      taken = tt;
      recorded = tt;
      refused = (h.unchanged.0, h.refused);
      lacking = λ said. h.lacking said place;
      room = h.room;
    })
