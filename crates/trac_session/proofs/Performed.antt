-- Lists of commands, one command more at a time.
use Rattle.std.proofs.Common.{◌≡◌, ℕ, suc, ◌+◌, ◌<◌, List, [], ◌∷◌, ◌++◌, length, take, get_or, map, refl, ap, ◌∙◌, subst, sym, arith}
use Rattle.std.proofs.Math.Seq.{take-suc}
use Rattle.std.proofs.lemmas.List.{map-append}
use Rattle.trac_rules.specs.declared.reply.Reply.{Reply}
use Rattle.trac_rules.specs.Session.{PlainSession, Command, Answers, Run}

pub Run-more : (commands : List Command) (replies : List Reply) (command : Command) (reply : Reply) (p q t : PlainSession) →
    Run commands replies p q → Answers command q reply t → Run (commands ++ command ∷ []) (replies ++ reply ∷ []) p t
Run-more [] [] command reply p q t run h = (t, subst (λ s. Answers command s reply t) run h, refl)
Run-more (c ∷ cs) (r ∷ rs) command reply p q t run h = (run.0, run.1, Run-more cs rs command reply run.0 q t run.2 h)
Run-more [] (r ∷ rs) command reply p q t run h = absurd run
Run-more (c ∷ cs) [] command reply p q t run h = absurd run

-- as far into a list of commands as one more place
pub Run-further : {C : Type 0} (as_command : C → Command) (commands : List C) (i : ℕ) (d : C) (replies : List Reply) (reply : Reply) (p q t : PlainSession) → i < length commands →
    Run (map as_command (take i commands)) replies p q → Answers (as_command (get_or commands i d)) q reply t →
    Run (map as_command (take (i + 1) commands)) (replies ++ reply ∷ []) p t
Run-further as_command commands i d replies reply p q t l run h =
    let next : i + 1 ≡ suc i = omega arith in
    let longer : take (i + 1) commands ≡ take i commands ++ get_or commands i d ∷ [] = ap (λ n. take n commands) next ∙ take-suc commands i d l in
    subst (λ cs. Run cs (replies ++ reply ∷ []) p t)
    (sym (ap (map as_command) longer ∙ map-append as_command (take i commands) (get_or commands i d ∷ [])))
    (Run-more (map as_command (take i commands)) replies (as_command (get_or commands i d)) reply p q t run h)
