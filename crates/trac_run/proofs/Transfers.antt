-- Parts of a run, one after another.
use Rattle.std.proofs.Common.{◌≡◌, ℕ, ◌+◌, ◌-◌, List, [], ◌++◌, true, ap, ◌∙◌, arith}
use Rattle.std.specs.Prelude.{Option}
use Rattle.std.specs.Io.KnownBytes.{Appends}
use Rattle.std.proofs.lemmas.List.{append_assoc, length-append}
use Rattle.trac_rules.specs.Session.{PlainSession}
use Rattle.trac_rules.specs.GoingOn.{prepended, going_on_from}
use Rattle.trac_rules.proofs.GoingOn.{prepended-prepended}
use Rattle.trac_run.specs.Runs.{Transfer, GoesOn}
use Rattle.trac_streams.proofs.Gathered.{came_by_both, came_by_none}
use Rattle.trac_streams.proofs.Known.{Appends-both, Consumes-both, Consumes-nothing}

-- nothing was read
abbrev pub only_written : (input out_old out_new : Option (List ℕ)) (written : List ℕ) → Appends out_old out_new written → Transfer input input out_old out_new
only_written input out_old out_new written gave = record { got = []; written = written; took = Consumes-nothing input; gave = gave; full = 0; came = came_by_none }

-- one part, and then the other
abbrev pub both_moved : {in_old in_now in_new out_old out_now out_new : Option (List ℕ)} → Transfer in_old in_now out_old out_now → Transfer in_now in_new out_now out_new → Transfer in_old in_new out_old out_new
both_moved {in_old} {in_now} {in_new} {out_old} {out_now} {out_new} first second = record {
  got = first.got ++ second.got;
  written = first.written ++ second.written;
  took = Consumes-both in_old in_now in_new first.got second.got first.took second.took;
  gave = Appends-both out_old out_now out_new first.written second.written first.gave second.gave;
  full = first.full + second.full;
  came = came_by_both first.full second.full first.got second.got first.came second.came;
}

-- with the steps that are left
pub rest_left : {in_old in_new out_old out_new : Option (List ℕ)} {reads_old reads_new : ℕ} {p q : PlainSession} {m n : ℕ} → (on : GoesOn in_old in_new out_old out_new reads_old reads_new p m q n) → (more : List ℕ) → (q.tape.ended ≡ true → more ≡ []) →
    going_on_from p (on.moved.got ++ more) m ≡ prepended on.moved.written (going_on_from q more n)
rest_left {in_old} {in_new} {out_old} {out_new} {reads_old} {reads_new} {p} {q} {m} {n} on more none =
    let count : m ≡ n + (m - n) = omega (arith, on.within) in
    ap (going_on_from p (on.moved.got ++ more)) count ∙ on.rest n more none

-- going on twice
pub goes_on_twice : (in_old in_now in_new out_old out_now out_new : Option (List ℕ)) (reads_old reads_now reads_new : ℕ) (p q r : PlainSession) (l m n : ℕ) →
    GoesOn in_old in_now out_old out_now reads_old reads_now p l q m → GoesOn in_now in_new out_now out_new reads_now reads_new q m r n → GoesOn in_old in_new out_old out_new reads_old reads_new p l r n
goes_on_twice in_old in_now in_new out_old out_now out_new reads_old reads_now reads_new p q r l m n first second =
    let one = first.moved in
    let two = second.moved in
    record {
      moved = both_moved one two;
      closed = λ over. let before = first.closed over in let after = second.closed before.1 in (ap (λ g. g ++ two.got) before.0 ∙ after.0, after.1);
      at_end = second.at_end;
      within = omega (arith, first.within, second.within);
      rest = λ k more none.
          let count : k + (l - n) ≡ (k + (m - n)) + (l - m) = omega (arith, first.within, second.within) in
          ap (λ text. going_on_from p text (k + (l - n))) (append_assoc one.got two.got more)
          ∙ ap (going_on_from p (one.got ++ (two.got ++ more))) count
          ∙ first.rest (k + (m - n)) (two.got ++ more) (λ over. let at = second.closed over in ap (λ g. g ++ more) at.0 ∙ none at.1)
          ∙ ap (prepended one.written) (second.rest k more none)
          ∙ prepended-prepended one.written two.written (going_on_from r more k);
      fits = λ fits_. second.fits (first.fits fits_);
      few = λ fits_. omega (arith, length-append one.got two.got, first.few fits_, second.few (first.fits fits_));
      counted = omega (arith, first.counted, second.counted);
    }
