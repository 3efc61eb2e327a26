-- What is found among forms after one is put or taken, by the test of names' bytes, which tells names apart as their order does.
use Rattle.std.proofs.Common.{◌≡◌, ℕ, List, cond, ap, ◌∙◌}
use Rattle.std.specs.Prelude.{None, Some, bytes_eq}
use Rattle.std.specs.Cmp.Lexicographic.{nat_list_cmp_total}
use Rattle.std.specs.FinMap as finite
use Rattle.std.proofs.lemmas.Map.Text.{is_eq-slice_cmp}
use Rattle.trac_rules.specs.Form.{Form}
use Rattle.trac_rules.specs.State.{Forms}

pub taken_get : (forms : Forms) (name q : List ℕ) → finite.get (finite.remove forms name) q ≡ cond (bytes_eq q name) None (finite.get forms q)
taken_get forms name q = finite.get-remove nat_list_cmp_total forms name q ∙ ap (λ b. cond b None (finite.get forms q)) (is_eq-slice_cmp q name)

pub put_get : (forms : Forms) (name q : List ℕ) (form : Form) → finite.get (finite.insert forms name form) q ≡ cond (bytes_eq q name) (Some form) (finite.get forms q)
put_get forms name q form = finite.get-insert nat_list_cmp_total forms name form q ∙ ap (λ b. cond b (Some form) (finite.get forms q)) (is_eq-slice_cmp q name)
