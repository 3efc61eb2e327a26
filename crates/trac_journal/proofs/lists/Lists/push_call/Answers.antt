-- The lists have one call more.
use Rattle.std.proofs.Common.{◌≡◌, ℕ, ◌+◌, ◌-◌, List, ◌∷◌, ◌++◌, length, map, take, ap, subst, ◌∙◌, arith}
use Rattle.std.specs.Prelude.{reverse}
use Rattle.trac_rules.specs.Undone.{Undone}
use Rattle.trac_journal.specs.Journaled.{Lists}
use Rattle.trac_journal.specs.Listed.{Listed, listed_by, IsKept}
use Rattle.trac_change.specs.Undone.{undone_in}
use Rattle.trac_journal.specs.declared.entry.CallEntry.{CallEntry}
use Rattle.trac_journal.proofs.Calls.{call_more}
use Rattle.trac_text.proofs.Marking.{reverse_push}
use Rattle.trac_journal.proofs.lists.Lists.push_call.Goals as goal

pub put-requires : goal.put-requires
put-requires g c = omega (arith, c.requires.room.bytes, c.len-bytes.ensures.within, ap (λ (v : Lists). v.room.bytes) c.self.view_is, ap (λ (text : List ℕ). length text) c.joined-joined.ensures)

pub put_lengths-requires-clause-room : goal.put_lengths-requires-clause-room
put_lengths-requires-clause-room g c =
    omega (arith, c.requires.room.commas, c.len-commas.ensures.within, ap (λ (v : Lists). v.room.commas) c.self.view_is)

pub returns : goal.returns
returns g c =
    let texts : List (List ℕ) = c.args.arguments.now in
    let n : ℕ = length texts - 1 in
    let l : Listed = c.args.self.now.listed in
    let new : Listed = listed_by c.push_back_reserved.new.self.items c.put.new.self.items c.put_lengths.new.commas.items c.keep_undone.new.list.items c.self.inside.emptied.items in
    let view : listed_by c.self.inside.calls.items c.self.inside.bytes.items c.self.inside.commas.items c.self.inside.undone.items c.self.inside.emptied.items ≡ l =
    ap (λ (v : Lists). v.listed) c.self.view_is in
    let count : n + 1 ≡ length texts = omega (arith, c.comma_count.ensures) in
    call_more c.keep_undone.result c.args.called c.call_by.result texts n (undone_in c.args.undone) l new count c.call_by.ensures.called
    (c.call_by.ensures.bytes ∙ ap (λ (text : List ℕ). length text) c.joined-joined.ensures)
    (omega (arith, c.call_by.ensures.commas, c.comma_count.ensures))
    (ap (λ (cs : List CallEntry). reverse cs) c.push_back_reserved.ensures.items ∙ reverse_push c.self.inside.calls.items c.call_by.result
    ∙ ap (λ (v : Listed). c.call_by.result ∷ v.calls) view)
    (c.put.ensures.items ∙ (λ i. (view i).bytes ++ c.joined-joined.ensures i))
    (c.put_lengths.ensures ∙ ap (λ (v : Listed). v.commas ++ map length (take n texts)) view)
    (subst (λ (us : List Undone). IsKept c.keep_undone.result (undone_in c.args.undone) us new.undone) (ap (λ (v : Listed). v.undone) view) c.keep_undone.ensures)
    (ap (λ (v : Listed). v.emptied) view)
