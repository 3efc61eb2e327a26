-- One more name is known.
use Rattle.std.proofs.Common.{List, ℕ, All, ap, ◌∙◌, subst, arith, take, take_all, IsTrue}
use Rattle.std.specs.Prelude.{Vec}
use Rattle.std.specs.FinSet as set
use Rattle.std.proofs.lemmas.List.Elements.{All-weaker}
use Rattle.trac_forms.specs.Stored.{Stored, storage_in}
use Rattle.trac_forms.proofs.Tables.{known_then}
use Rattle.trac_text.specs.Framing.{texts_of}
use Rattle.trac_storage.proofs.Entries.{All-next}
use Rattle.trac_storage.proofs.Known.{among_more}
use Rattle.trac_storage.proofs.storing.know_names.Goals as goal

pub loop-name-preserved : goal.loop-name-preserved
loop-name-preserved g c =
    let more = c.in_ok-know.ensures.known in
    let name = c.as_slice.result.now in
    let now = c.know.new.self.known in
    let names = c.args.names.now in
    let i = c.loop-name.name-index in
    let among = among_more c.loop-name.store.known now name (ap (λ (s : Stored). s.known) more) in
    let here = subst (λ (n : List ℕ). IsTrue (set.contains now n)) c.as_slice.ensures.value
    (ap (λ (s : Stored). set.contains s.known name) more ∙ known_then c.loop-name.store.known name) in
    record {
      known =
          All-next (λ (n : Vec ℕ g.row.A.Denot). n.items) (λ (n : List ℕ). IsTrue (set.contains now n)) names i c.name-item.result (omega arith) c.name-item.is here
          (All-weaker (λ (n : List ℕ). IsTrue (set.contains c.loop-name.store.known n)) (λ (n : List ℕ). IsTrue (set.contains now n)) among (texts_of (take i names)) c.loop-name.invariant.known);
      kept = ap storage_in more ∙ c.loop-name.invariant.kept;
      among = λ q h. among q (c.loop-name.invariant.among q h);
    }

pub returns-clause-known : goal.returns-clause-known
returns-clause-known g c =
    subst (λ (names : List (Vec ℕ g.row.A.Denot)). All (λ (n : List ℕ). IsTrue (set.contains c.loop-name.store.known n)) (texts_of names))
    (take_all c.loop-name.name-index c.args.names.now (omega arith)) c.loop-name.invariant.known
