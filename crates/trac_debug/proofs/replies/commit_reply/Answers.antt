use Rattle.std.proofs.Common.{◌≡◌, List, ℕ, [], ◌++◌, ap, ◌∙◌}
use Rattle.std.specs.Prelude.{codes}
use Rattle.trac_rules.specs.Session.{first_kept}
use Rattle.trac_streams.specs.Escapes.{text_line}
use Rattle.trac_debug.proofs.replies.commit_reply.Goals as goal

-- what is put at the end of nothing is the whole
put_first : (word lent pending empty reply : List ℕ) → empty ≡ [] → lent ≡ pending → reply ≡ empty ++ text_line word lent → reply ≡ text_line word pending
put_first word lent pending empty reply none is adds = adds ∙ ap (λ e. e ++ text_line word lent) none ∙ ap (text_line word) is

pub returns-clause-replied : goal.returns-clause-replied
returns-clause-replied g c = (
  put_first (codes "commit") c.pending_before.result.now (first_kept c.args.keep c.args.session.now).output c.new-reply.result.items c.text_line_into.new.out.items c.new-reply.ensures.items c.pending_before.ensures.released
      c.in_ok-text_line_into.ensures,
  c.commit.ensures,
)
