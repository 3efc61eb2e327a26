-- The newest record is of the kind that was found, and is gone back over as the call for its kind says. Where it is not short, what
-- keeps it is as it was.
use Rattle.std.proofs.Common.{◌≡◌, ℕ, List, ◌∷◌, sym, ap, ◌∙◌, subst, true, false}
use Rattle.trac_rules.specs.Records.{Idle, Record}
use Rattle.trac_text.specs.Pieces.{all_texts, frames_in}
use Rattle.trac_journal.specs.Told.{HasCallFirst, HasCallOut}
use Rattle.trac_change.specs.Undone.{undone_in}
use Rattle.trac_step.proofs.GoneBack.{call_begins, call_gone_back, call_restores, can_show, gone_back}
use Rattle.trac_step.proofs.IdleBack.{can_hold_idle, can_leave, goes_back_idle}
use Rattle.trac_step.proofs.engine.Core.go_back.Goals as goal

pub begin_again-requires : goal.begin_again-requires
begin_again-requires g c =
    let k = c.in-Some-newest_call in
    let told = subst (λ (records : List Record). HasCallFirst k.call.called (all_texts k.call.arguments) records) (ap g.K.Keeper.records c.in_default.ensures.1) k.ensures in
    call_begins c.args.self.now (g.K.Keeper.records c.args.keeper.now) k.call.called k.call.arguments told c.requires c.recall_room.ensures.proper c.recall_room.ensures.room

pub restore_storage-requires : goal.restore_storage-requires
restore_storage-requires g c =
    let k = c.in-Some-newest_call in
    let undone = undone_in c.pop_call-undone.result in
    let told = subst (λ (records : List Record). HasCallFirst k.call.called (all_texts k.call.arguments) records) (ap g.K.Keeper.records c.in_default.ensures.1) k.ensures in
    let left = g.K.Keeper.records c.pop_call-undone.new.self in
    let out = subst (λ (records : List Record). HasCallOut undone records left) (ap g.K.Keeper.records c.in_default.ensures.1) c.pop_call-undone.ensures in
    call_restores c.args.self.now (g.K.Keeper.records c.args.keeper.now) k.call.called k.call.arguments told c.requires c.recall_room.ensures.proper c.recall_room.ensures.room
    c.begin_again.new.self c.begin_again.ensures undone left out

pub returns-in-Some-newest_call-clause-back : goal.returns-in-Some-newest_call-clause-back
returns-in-Some-newest_call-clause-back g c =
    let k = c.in-Some-newest_call in
    let undone = undone_in c.pop_call-undone.result in
    let told = subst (λ (records : List Record). HasCallFirst k.call.called (all_texts k.call.arguments) records) (ap g.K.Keeper.records c.in_default.ensures.1) k.ensures in
    let left = g.K.Keeper.records c.pop_call-undone.new.self in
    let out = subst (λ (records : List Record). HasCallOut undone records left) (ap g.K.Keeper.records c.in_default.ensures.1) c.pop_call-undone.ensures in
    λ done. call_gone_back c.args.self.now (g.K.Keeper.records c.args.keeper.now) k.call.called k.call.arguments told c.requires c.recall_room.ensures.proper c.recall_room.ensures.room
    c.begin_again.new.self c.begin_again.ensures undone left out c.restore_storage.new.self c.restore_storage.ensures

pub unload-requires : goal.unload-requires
unload-requires g c =
    let k = c.in-Some-pop_idle in
    let frames = frames_in k.emptied.frames.items in
    let left = g.K.Keeper.records c.pop_idle.new.self in
    let taken : g.K.Keeper.records c.args.keeper.now ≡ Idle c.as_slice.result.now frames ∷ left =
    ap g.K.Keeper.records (sym c.in_default.ensures.1) ∙ k.ensures ∙ ap (λ (base : List ℕ). Idle base frames ∷ left) (sym c.as_slice.ensures.value) in
    can_hold_idle c.self.view_is (can_leave c.as_slice.result.now frames c.args.self.now (can_show c.args.self.now (g.K.Keeper.records c.args.keeper.now) left _ taken c.requires))

pub returns-in-Some-pop_idle : goal.returns-in-Some-pop_idle
returns-in-Some-pop_idle g c =
    let k = c.in-Some-pop_idle in
    let frames = frames_in k.emptied.frames.items in
    let left = g.K.Keeper.records c.pop_idle.new.self in
    let taken : g.K.Keeper.records c.args.keeper.now ≡ Idle c.as_slice.result.now frames ∷ left =
    ap g.K.Keeper.records (sym c.in_default.ensures.1) ∙ k.ensures ∙ ap (λ (base : List ℕ). Idle base frames ∷ left) (sym c.as_slice.ensures.value) in
    let leave = can_leave c.as_slice.result.now frames c.args.self.now (can_show c.args.self.now (g.K.Keeper.records c.args.keeper.now) left _ taken c.requires) in
    let back = goes_back_idle c.self.view_is leave c.unload.new.self c.unload.ensures in
    record {
      back = λ done. gone_back c.args.self.now (g.K.Keeper.records c.args.keeper.now) left _ taken c.requires _ left back.0 taken;
      none = λ none. absurd (let unset : true ≡ false = none in cc);
      room = back.1;
    }
