use Rattle.std.proofs.Common.{◌≡◌, ℕ, List, ◌-◌, length, ap, subst, arith}
use Rattle.std.specs.List.{concat}
use Rattle.std.proofs.lemmas.Result.{on_ok_weaker}
use Rattle.trac_journal.specs.Journaled.{HasRoom}
use Rattle.trac_journal.proofs.journal.JournalKeeper.reserve_call.Goals as goal

pub returns-clause-ok : goal.returns-clause-ok
returns-clause-ok g c =
    let texts : List (List ℕ) = c.args.arguments.now in
    let commas : c.comma_count.result ≡ length texts - 1 = omega (arith, c.comma_count.ensures) in
    let bytes : length c.joined.result.now ≡ length (concat texts) = ap (λ (text : List ℕ). length text) c.joined.ensures in
    on_ok_weaker c.reserve_call.result
    (λ room. record {
      place = omega (arith, c.in_ok-reserve_entry.ensures.ok);
      lists = subst (λ (n : ℕ). HasRoom (length (concat texts)) n c.reserve_call.new.self.room) commas (subst (λ (n : ℕ). HasRoom n c.comma_count.result c.reserve_call.new.self.room) bytes room);
    })
    c.reserve_call.ensures.ok
