use Rattle.std.proofs.Common.{List, ℕ, ◌++◌, ap, subst, ◌∙◌}
use Rattle.trac_moves.specs.Windows.{IsOver}
use Rattle.trac_moves.proofs.Standing.{over_fed}
use Rattle.trac_moves.proofs.walker.Walker.feed.Goals as goal

pub returns : goal.returns
returns g c input width steps s =
    let line = c.as_slice-2.ensures.value ∙ c.in-Ok.ensures in
    let same = c.as_slice.ensures.value ∙ c.in-Ok.ensures in
    record {
      over = subst (λ (bytes : List ℕ). IsOver (record input { bytes = input.bytes ++ bytes }) width steps (record c.args.self.now.window { session = c.feed.new.self })) line
          (over_fed _ input width steps c.args.self.now.window c.feed.new.self s.over c.in_default-feed.ensures);
      given = c.in-Ok-extend_from_slice.ensures.items ∙ (ap (λ (all : List ℕ). all ++ c.as_slice.result.now) s.given ∙ ap (λ (bytes : List ℕ). input.bytes ++ bytes) same);
      closed = s.closed;
    }
