use Rattle.std.proofs.Common.{◌≡◌, [], ◌∷◌, sym, ap, ◌∙◌, subst, arith}
use Rattle.trac_rules.specs.declared.scan.Front.TheVariants.{Nothing}
use Rattle.trac_rules.specs.Bytes.{idle_program}
use Rattle.trac_rules.specs.Records.{Idle, Record, Texts, state_of}
use Rattle.trac_rules.specs.Scanning.{Moves}
use Rattle.trac_forms.specs.Stored.{storage_in}
use Rattle.trac_journal.specs.Journaled.{IsLight}
use Rattle.trac_text.specs.Pieces.{frames_in}
use Rattle.trac_step.specs.Layout.{Shown, rest_in}
use Rattle.trac_step.proofs.Fitting.{idle_light}
use Rattle.trac_step.proofs.Lifting.{no_less_texts}
use Rattle.trac_step.proofs.Recorded.{recorded_front}
use Rattle.trac_step.proofs.Scans.{scan_front}
use Rattle.trac_step.proofs.engine.Core.empty_into.Goals as goal

pub push_idle-requires-clause-light : goal.push_idle-requires-clause-light
push_idle-requires-clause-light g c =
    let kept = c.in_ok-base.ensures in
    let s = c.args.self.now.state in
    let same : Idle c.in_ok-base.base.items (frames_in c.in_ok-base.frames.items) ≡ Idle s.base s.frames = (λ i. Idle (kept.base i) (kept.functions i)) ∙ ap (λ (m : Shown). Idle m.state.base m.state.frames) c.self.view_is in
    subst IsLight (sym same) (idle_light s c.requires.proper c.requires.front)

pub returns : goal.returns
returns g c =
    let i = c.self.inside in
    let kept = c.in_ok-base.ensures in
    let s = c.args.self.now.state in
    let same : Idle c.in_ok-base.base.items (frames_in c.in_ok-base.frames.items) ≡ Idle s.base s.frames = (λ i. Idle (kept.base i) (kept.functions i)) ∙ ap (λ (m : Shown). Idle m.state.base m.state.frames) c.self.view_is in
    let is = recorded_front s Nothing c.requires.front in
    record {
      ok =
          scan_front s Nothing c.requires.front
          ∙ ap (λ (m : Shown). Moves (record m.state { active = idle_program; base = []; frames = [] })) (sym c.self.view_is)
          ∙ ap (λ (t : Texts). Moves (state_of t (storage_in i.store) (rest_in i.meta i.trace i.position i.output))) (sym kept.loaded);
      kept = c.push_idle.ensures ∙ (λ i. same i ∷ c.reserve_idle.ensures.same i) ∙ ap (λ (r : Record). r ∷ g.K.Keeper.records c.args.keeper.now) (sym is);
      unchanged = tt;
      lacking = tt;
      err = tt;
      room = no_less_texts c.self.view_is c.reload.new.self c.reload.ensures.text_room (omega (arith, c.reload.ensures.mark_room));
    }
