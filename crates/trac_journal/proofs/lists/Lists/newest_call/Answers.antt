-- The last of the calls, with the last of the bytes and of the lengths.
use Rattle.std.proofs.Common.{◌≡◌, ℕ, ◌+◌, ◌-◌, ◌∷◌, length, take, refl, ap, sym, ◌∙◌, arith}
use Rattle.std.specs.Prelude.{reverse}
use Rattle.std.specs.VecDeque.{deque_len}
use Rattle.trac_rules.specs.Records.{last_of}
use Rattle.trac_journal.specs.Journaled.{Lists}
use Rattle.trac_journal.specs.Listed.{Listed, listed_by}
use Rattle.trac_text.specs.Pieces.{cut_at}
use Rattle.trac_journal.proofs.Calls.{call_told}
use Rattle.trac_journal.proofs.Ends.{last_first}
use Rattle.trac_journal.proofs.lists.Lists.newest_call.Goals as goal

pub returns : goal.returns
returns g c =
    λ undone.
    let call = c.in-Some.call.now in
    let l : Listed = c.args.self.now.listed in
    let n : ℕ = deque_len c.self.inside.calls - 1 in
    let view : listed_by c.self.inside.calls.items c.self.inside.bytes.items c.self.inside.commas.items c.self.inside.undone.items c.self.inside.emptied.items ≡ l =
    ap (λ (v : Lists). v.listed) c.self.view_is in
    let some = c.in-Some.ensures.variant.0 refl in
    let many : length c.self.inside.calls.items ≡ n + 1 = omega (arith, some, c.self.inside.calls.ok.0) in
    let first : l.calls ≡ call ∷ reverse (take n c.self.inside.calls.items) =
    sym (ap (λ (v : Listed). v.calls) view) ∙ last_first c.self.inside.calls.items call n many c.in-Some.ensures.lookup in
    let bytes : c.split_at.result.1.now ≡ last_of call.bytes l.bytes =
    c.split_at.ensures.back ∙ ap (last_of call.bytes) (c.as_slice-bytes.ensures.items ∙ ap (λ (v : Listed). v.bytes) view) in
    let commas : c.split_at-2.result.1.now ≡ last_of call.commas l.commas =
    c.split_at-2.ensures.back ∙ ap (last_of call.commas) (c.as_slice-commas.ensures.items ∙ ap (λ (v : Listed). v.commas) view) in
    call_told call c.called_by-called.result l.calls (reverse (take n c.self.inside.calls.items)) l.bytes l.commas c.new-arguments.result first c.called_by-called.ensures
    (c.new-arguments.ensures ∙ (λ i. cut_at (commas i) (bytes i))) undone
