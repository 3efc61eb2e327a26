use Rattle.std.proofs.Common.{ap, subst, ◌∙◌, ◌++◌}
use Rattle.std.specs.Prelude.{decimal}
use Rattle.trac_follow_step.specs.Places.{place_of}
use Rattle.trac_follow.specs.Tracing.{IsTraced, way_of}
use Rattle.trac_streams.specs.Escapes.{feed}
use Rattle.trac_web_requests.specs.Rows.{rows_of}
use Rattle.trac_web_requests.specs.Ways.{end_field}
use Rattle.trac_web_requests.proofs.Reached.{joined}
use Rattle.trac_web_requests.proofs.Rowed.{all_rows}
use Rattle.trac_web_requests.proofs.ways.rows_of.Goals as goal

pub returns : goal.returns
returns g c =
    let p = c.args.window.now.session in
    let found = c.trace-found.result in
    let read = c.read_at-read.result in
    let calls = way_of p (place_of c.args.place) found.steps in
    let told = c.in_ok-end_into.ensures.told in
    let rows = all_rows c.args.step c.args.window.now.released _ (way_of p (place_of c.args.place)) found.steps found.end _ _ c.new-rows.ensures told c.trace-found.ensures.told in
    record {
      new = c.trace-found.new.session;
      found = found;
      traced = subst (λ most. IsTraced p (place_of c.args.place) most c.trace-found.new.session found) c.len-most.ensures.count c.trace-found.ensures.traced;
      told = told;
      number = read.number;
      line = read.line;
      column = read.column;
      rows = joined (rows_of c.args.step c.args.window.now.released calls) _ (end_field found.end read.number read.line read.column) feed _ _ _ _
          (c.into_text-text.ensures ∙ rows.text)
          (c.in_ok-number_into.ensures ∙ ap (λ n. c.into_text-text.result.items ++ decimal n) c.saturating_sub.ensures)
          c.in_ok-end_into.ensures.said c.in_ok-push.ensures.items;
    }
