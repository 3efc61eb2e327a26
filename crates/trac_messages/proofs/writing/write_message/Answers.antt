use Rattle.std.proofs.Common.{List, ap, ◌++◌, ◌∙◌, ℕ}
use Rattle.std.specs.Prelude.{OnErr, Ok, Err}
use Rattle.trac_streams.specs.Written.{WritesFront}
use Rattle.trac_streams.proofs.Known.{Appends-kept, Appends-same, front_of_itself}
use Rattle.trac_messages.specs.Frames.{frame_bytes}
use Rattle.trac_messages.proofs.Back.{frame_in_parts}
use Rattle.trac_messages.proofs.writing.write_message.Goals as goal

-- all of the frame is written, whatever becomes of the flush
pub returns-clause-err : goal.returns-clause-err
returns-clause-err g c =
    let text = c.as_slice.ensures.value ∙ c.in-Ok-extend_from_slice.ensures.items ∙ ap (λ (t : List ℕ). t ++ c.args.message.now) c.in-Ok.ensures ∙ frame_in_parts c.args.message.now in
    let all : WritesFront (g.W.Write.contents c.args.output.now) (g.W.Write.contents c.flush.new.output) (frame_bytes c.args.message.now) = record {
      written = frame_bytes c.args.message.now;
      front = front_of_itself (frame_bytes c.args.message.now);
      gave = Appends-same _ _ _ _ text (Appends-kept _ _ _ _ c.in_ok-write_whole.ensures.ok c.flush.ensures.same);
    } in
    elim c.flush.result as (λ r. OnErr r (WritesFront (g.W.Write.contents c.args.output.now) (g.W.Write.contents c.flush.new.output) (frame_bytes c.args.message.now))) [ Ok x ↦ tt | Err e ↦ all ]
