use Rattle.std.proofs.Common.{[], sym, ◌∙◌}
use Rattle.std.proofs.lemmas.List.{length-map}
use Rattle.trac_text.specs.Pieces.{frame_in, frames_in}
use Rattle.trac_text.proofs.Holding.{held_as}
use Rattle.trac_text.proofs.texts.Texts.unload.Goals as goal

pub invariant_of-self : goal.invariant_of-self
invariant_of-self g c =
    let back = c.put_functions.ensures in
    let count = c.len-self-inside.ensures ∙ c.args.functions.ok.0 ∙ sym (length-map c.args.functions.items frame_in) in
    (held_as (record { sound = c.self.invariant; view = c.self.view_is }) {t = record { active = []; base = c.args.base.now; frames = frames_in c.args.functions.items }}
    (record { active = back.right; neutral = record { same = back.same; ordered = back.ordered }; on_left = back.on_left }) count back.text_room back.mark_room c.requires).sound
