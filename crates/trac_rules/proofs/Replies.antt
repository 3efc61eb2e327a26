-- What the reply to a command says of the session.
use Rattle.std.proofs.Common.{◌≡◌, ℕ, ◌+◌, ◌<◌, ◌≤◌, Bool, true, false, ltb, leb, List, [], ◌∷◌, ◌++◌, length, refl, sym, ap, ◌∙◌, inl, inr, ⊎_elim}
use Rattle.std.specs.Prelude.{Some, Result, Ok, Err, if◌then◌else◌, ◌⊎◌}
use Rattle.std.proofs.lemmas.Bool.{lt-ltb, le-ltb, le-leb, lt-leb, cases_Bool, cond-true, cond-false, cases_lt}
use Rattle.trac_rules.specs.declared.limit.TheConstants.{TAPE_LIMIT}
use Rattle.trac_rules.specs.declared.refusal.Refusal.{Refusal}
use Rattle.trac_rules.specs.declared.refusal.Refusal.TheVariants.{TooLong, NeedInput, Ended, JournalFull, AtStart, Closed}
use Rattle.trac_rules.specs.declared.reply.Reply.{Reply}
use Rattle.trac_rules.specs.declared.reply.Reply.TheVariants.{Done, Refused}
use Rattle.trac_rules.specs.declared.width.Width.{Width}
use Rattle.trac_rules.specs.State.{State}
use Rattle.trac_rules.specs.Stepping.{step}
use Rattle.trac_rules.specs.Session.{PlainSession, Command, Feed, End, Step, Back, Commit, Answer, done, refused, stepped_to, backed_to, committed, answer, accepted_by, over}
use Rattle.trac_rules.proofs.Refusals.{step_refusals, step_refused_otherwise}

pub done_of_refused : (refusal : Refusal) (p q : PlainSession) → refused refusal p ≡ done q → ⊥
done_of_refused r p q h = let e : Refused r ≡ Done = ap (λ a. a.reply) h in cc

pub refused_alike : (r t : Refusal) (p q : PlainSession) → refused r p ≡ refused t q → (r ≡ t) × (q ≡ p)
refused_alike r t p q h = let e : Refused r ≡ Refused t = ap (λ a. a.reply) h in (cc, sym (ap (λ a. a.session) h))

pub accepted_by_Some : (reply : Reply) (session q : PlainSession) → accepted_by (record { reply = reply; session = session }) ≡ Some q → (reply ≡ Done) × (session ≡ q)
accepted_by_Some Done s q h = (refl, cc)
accepted_by_Some (Refused r) s q h = absurd (cc)

pub accepted_done : (a : Answer) (q : PlainSession) → accepted_by a ≡ Some q → a ≡ done q
accepted_done a q h =
    let parts = accepted_by_Some a.reply a.session q h in
    λ i. record { reply = parts.0 i; session = parts.1 i }

-- ---- a step

-- the session with one more state
abbrev pub with_next : PlainSession → State → PlainSession
with_next p t = record p { earlier = p.last ∷ p.earlier; last = t }

pub stepped_to_done : (x : Result State Refusal) (p q : PlainSession) → stepped_to x p ≡ done q → (t : State) × (x ≡ Ok t) × (q ≡ with_next p t)
stepped_to_done (Ok t) p q h = (t, refl, sym (ap (λ a. a.session) h))
stepped_to_done (Err r) p q h = absurd (done_of_refused r p q h)

pub stepped_to_refused : (x : Result State Refusal) (p q : PlainSession) (refusal : Refusal) → stepped_to x p ≡ refused refusal q → (x ≡ Err refusal) × (q ≡ p)
stepped_to_refused (Ok t) p q r h = absurd (done_of_refused r q (with_next p t) (sym h))
stepped_to_refused (Err u) p q r h = let parts = refused_alike u r p q h in (ap Err parts.0, parts.1)

pub answer_Step : (p : PlainSession) → length p.earlier < p.limit → answer Step p ≡ stepped_to (step (over p.width p.tape) p.last) p
unfolding answer
answer_Step p l = cond-true (ltb (length p.earlier) p.limit) (stepped_to (step (over p.width p.tape) p.last) p) (refused JournalFull p) (lt-ltb (length p.earlier) p.limit l)

pub answer_Step_full : (p : PlainSession) → p.limit ≤ length p.earlier → answer Step p ≡ refused JournalFull p
unfolding answer
answer_Step_full p l = cond-false (ltb (length p.earlier) p.limit) (stepped_to (step (over p.width p.tape) p.last) p) (refused JournalFull p) (le-ltb (length p.earlier) p.limit l)

pub answer_Step_Ok : (p : PlainSession) (t : State) → length p.earlier < p.limit → step (over p.width p.tape) p.last ≡ Ok t → answer Step p ≡ done (with_next p t)
answer_Step_Ok p t l e = answer_Step p l ∙ ap (λ x. stepped_to x p) e

-- a refused step is refused
pub answer_Step_Err : (p : PlainSession) (refusal : Refusal) → length p.earlier < p.limit → step (over p.width p.tape) p.last ≡ Err refusal → answer Step p ≡ refused refusal p
answer_Step_Err p r l e = answer_Step p l ∙ ap (λ x. stepped_to x p) e

-- a step that was done went to the next state
pub Step_done : (p q : PlainSession) → answer Step p ≡ done q → (t : State) × (step (over p.width p.tape) p.last ≡ Ok t) × (q ≡ with_next p t) × (length p.earlier < p.limit)
Step_done p q h =
    ⊎_elim
    (λ (l : length p.earlier < p.limit).
    let at = stepped_to_done (step (over p.width p.tape) p.last) p q (sym (answer_Step p l) ∙ h) in
    (at.0, at.1, at.2, l))
    (λ (l : p.limit ≤ length p.earlier). absurd (done_of_refused JournalFull p q (sym (answer_Step_full p l) ∙ h)))
    (cases_lt (length p.earlier) p.limit)

-- a step that was refused found the journal full, or was refused by the language
pub Step_refused : (p q : PlainSession) (refusal : Refusal) → answer Step p ≡ refused refusal q →
    (q ≡ p) × (((refusal ≡ JournalFull) × (p.limit ≤ length p.earlier)) ⊎ ((length p.earlier < p.limit) × (step (over p.width p.tape) p.last ≡ Err refusal)))
Step_refused p q r h =
    ⊎_elim
    (λ (l : length p.earlier < p.limit).
    let at = stepped_to_refused (step (over p.width p.tape) p.last) p q r (sym (answer_Step p l) ∙ h) in
    (at.1, inr (l, at.0)))
    (λ (l : p.limit ≤ length p.earlier).
    let same = refused_alike JournalFull r p q (sym (answer_Step_full p l) ∙ h) in
    (same.1, inl (sym same.0, l)))
    (cases_lt (length p.earlier) p.limit)

-- a step that was refused for anything but the journal was refused by the language
pub Step_refused_by_step : (p q : PlainSession) (refusal : Refusal) → (refusal ≡ JournalFull → ⊥) → answer Step p ≡ refused refusal q → step (over p.width p.tape) p.last ≡ Err refusal
Step_refused_by_step p q r other h =
    ⊎_elim
    (λ (full : (r ≡ JournalFull) × (p.limit ≤ length p.earlier)). absurd (other full.0))
    (λ (stepped : (length p.earlier < p.limit) × (step (over p.width p.tape) p.last ≡ Err r)). stepped.1)
    (Step_refused p q r h).1

pub Step_refused_TooLong : (p q : PlainSession) → answer Step p ≡ refused TooLong q → step (over p.width p.tape) p.last ≡ Err TooLong
Step_refused_TooLong p q h = Step_refused_by_step p q TooLong (λ e. cc) h

pub Step_refused_NeedInput : (p q : PlainSession) → answer Step p ≡ refused NeedInput q → step (over p.width p.tape) p.last ≡ Err NeedInput
Step_refused_NeedInput p q h = Step_refused_by_step p q NeedInput (λ e. cc) h

pub Step_refused_Ended : (p q : PlainSession) → answer Step p ≡ refused Ended q → step (over p.width p.tape) p.last ≡ Err Ended
Step_refused_Ended p q h = Step_refused_by_step p q Ended (λ e. cc) h

pub Step_refused_JournalFull : (p q : PlainSession) → answer Step p ≡ refused JournalFull q → p.limit ≤ length p.earlier
Step_refused_JournalFull p q h =
    ⊎_elim
    (λ (full : (JournalFull ≡ JournalFull) × (p.limit ≤ length p.earlier)). full.1)
    (λ (stepped : (length p.earlier < p.limit) × (step (over p.width p.tape) p.last ≡ Err JournalFull)). absurd (step_refused_otherwise (over p.width p.tape) p.last JournalFull (λ e. cc) (λ e. cc) (λ e. cc) stepped.1))
    (Step_refused p q JournalFull h).1

-- a step is refused for nothing else
pub Step_refusals : (p q : PlainSession) (refusal : Refusal) → answer Step p ≡ refused refusal q →
    (refusal ≡ JournalFull) ⊎ ((refusal ≡ TooLong) ⊎ (((refusal ≡ NeedInput) × (p.tape.ended ≡ false)) ⊎ (refusal ≡ Ended)))
Step_refusals p q r h =
    ⊎_elim
    (λ (full : (r ≡ JournalFull) × (p.limit ≤ length p.earlier)). inl full.0)
    (λ (stepped : (length p.earlier < p.limit) × (step (over p.width p.tape) p.last ≡ Err r)). inr (step_refusals (over p.width p.tape) p.last r stepped.1))
    (Step_refused p q r h).1

-- ---- a feed

-- the session with more input
abbrev pub with_more : PlainSession → List ℕ → PlainSession
with_more p bytes = record p { tape = record p.tape { bytes = p.tape.bytes ++ bytes } }

pub answer_Feed_closed : (bytes : List ℕ) (p : PlainSession) → p.tape.ended ≡ true → answer (Feed bytes) p ≡ refused Closed p
unfolding answer
answer_Feed_closed d p e = rw e refl

pub answer_Feed_room : (bytes : List ℕ) (p : PlainSession) → p.tape.ended ≡ false → length p.tape.bytes + length bytes ≤ TAPE_LIMIT → answer (Feed bytes) p ≡ done (with_more p bytes)
unfolding answer
answer_Feed_room d p e l =
    let fits : Bool = leb (length p.tape.bytes + length d) TAPE_LIMIT in
    cond-false p.tape.ended (refused Closed p) (if fits then done (with_more p d) else refused TooLong p) e
    ∙ cond-true fits (done (with_more p d)) (refused TooLong p) (le-leb (length p.tape.bytes + length d) TAPE_LIMIT l)

-- without room on the tape a feed is refused
pub answer_Feed_long : (bytes : List ℕ) (p : PlainSession) → p.tape.ended ≡ false → TAPE_LIMIT < length p.tape.bytes + length bytes → answer (Feed bytes) p ≡ refused TooLong p
unfolding answer
answer_Feed_long d p e l =
    let fits : Bool = leb (length p.tape.bytes + length d) TAPE_LIMIT in
    cond-false p.tape.ended (refused Closed p) (if fits then done (with_more p d) else refused TooLong p) e
    ∙ cond-false fits (done (with_more p d)) (refused TooLong p) (lt-leb (length p.tape.bytes + length d) TAPE_LIMIT l)

-- a feed that was done is on the tape
pub Feed_done : (bytes : List ℕ) (p q : PlainSession) → answer (Feed bytes) p ≡ done q →
    (q ≡ with_more p bytes) × (p.tape.ended ≡ false) × (length p.tape.bytes + length bytes ≤ TAPE_LIMIT)
Feed_done d p q h =
    ⊎_elim
    (λ (e : p.tape.ended ≡ true). absurd (done_of_refused Closed p q (sym (answer_Feed_closed d p e) ∙ h)))
    (λ (e : p.tape.ended ≡ false). ⊎_elim
    (λ (l : TAPE_LIMIT < length p.tape.bytes + length d). absurd (done_of_refused TooLong p q (sym (answer_Feed_long d p e l) ∙ h)))
    (λ (l : length p.tape.bytes + length d ≤ TAPE_LIMIT). (sym (ap (λ a. a.session) (sym (answer_Feed_room d p e l) ∙ h)), e, l))
    (cases_lt TAPE_LIMIT (length p.tape.bytes + length d)))
    (cases_Bool p.tape.ended)

-- a feed that was refused came after the end, or found no room
pub Feed_refused : (bytes : List ℕ) (p q : PlainSession) (refusal : Refusal) → answer (Feed bytes) p ≡ refused refusal q →
    (q ≡ p) × (((refusal ≡ Closed) × (p.tape.ended ≡ true)) ⊎ ((refusal ≡ TooLong) × (p.tape.ended ≡ false) × (TAPE_LIMIT < length p.tape.bytes + length bytes)))
Feed_refused d p q r h =
    ⊎_elim
    (λ (e : p.tape.ended ≡ true).
    let same = refused_alike Closed r p q (sym (answer_Feed_closed d p e) ∙ h) in
    (same.1, inl (sym same.0, e)))
    (λ (e : p.tape.ended ≡ false). ⊎_elim
    (λ (l : TAPE_LIMIT < length p.tape.bytes + length d).
    let same = refused_alike TooLong r p q (sym (answer_Feed_long d p e l) ∙ h) in
    (same.1, inr (sym same.0, e, l)))
    (λ (l : length p.tape.bytes + length d ≤ TAPE_LIMIT). absurd (done_of_refused r q (with_more p d) (sym h ∙ answer_Feed_room d p e l)))
    (cases_lt TAPE_LIMIT (length p.tape.bytes + length d)))
    (cases_Bool p.tape.ended)

-- ---- the end, a step back, a commit

-- the session with its input ended
abbrev pub with_end : PlainSession → PlainSession
with_end p = record p { tape = record p.tape { ended = true } }

pub answer_End : (p : PlainSession) → answer End p ≡ done (with_end p)
unfolding answer
answer_End p = refl

pub End_done : (p q : PlainSession) → answer End p ≡ done q → q ≡ with_end p
End_done p q h = sym (ap (λ a. a.session) (sym (answer_End p) ∙ h))

pub answer_Commit : (keep : ℕ) (p : PlainSession) → answer (Commit keep) p ≡ done (committed keep p)
unfolding answer
answer_Commit keep p = refl

pub Commit_done : (keep : ℕ) (p q : PlainSession) → answer (Commit keep) p ≡ done q → q ≡ committed keep p
Commit_done keep p q h = sym (ap (λ a. a.session) (sym (answer_Commit keep p) ∙ h))

pub answer_Back_start : (p : PlainSession) → p.earlier ≡ [] → answer Back p ≡ refused AtStart p
unfolding answer
answer_Back_start p e = ap (λ states. backed_to states p) e

pub answer_Back_from : (p : PlainSession) (s : State) (earlier : List State) → p.earlier ≡ s ∷ earlier → answer Back p ≡ done (record p { earlier = earlier; last = s })
unfolding answer
answer_Back_from p s earlier e = ap (λ states. backed_to states p) e

-- the refusal of a step back, where these are the states before the last one
pub backed_to_refused : (earlier : List State) (p q : PlainSession) (refusal : Refusal) → backed_to earlier p ≡ refused refusal q → (q ≡ p) × (refusal ≡ AtStart) × (earlier ≡ [])
backed_to_refused [] p q r h = let same = refused_alike AtStart r p q h in (same.1, sym same.0, refl)
backed_to_refused (s ∷ rest) p q r h = absurd (done_of_refused r q (record p { earlier = rest; last = s }) (sym h))

pub Back_refused : (p q : PlainSession) (refusal : Refusal) → answer Back p ≡ refused refusal q → (q ≡ p) × (refusal ≡ AtStart) × (p.earlier ≡ [])
unfolding answer
Back_refused p q r h = backed_to_refused p.earlier p q r h

-- ---- what no command changes

pub either_width : (b : Bool) (x y : Answer) (width : Width) → x.session.width ≡ width → y.session.width ≡ width → (if b then x else y).session.width ≡ width
either_width true x y width first second = first
either_width false x y width first second = second

pub stepped_to_width : (x : Result State Refusal) (p : PlainSession) → (stepped_to x p).session.width ≡ p.width
stepped_to_width (Ok t) p = refl
stepped_to_width (Err refusal) p = refl

pub backed_to_width : (earlier : List State) (p : PlainSession) → (backed_to earlier p).session.width ≡ p.width
backed_to_width [] p = refl
backed_to_width (s ∷ earlier) p = refl

pub answer_width : (command : Command) (p : PlainSession) → (answer command p).session.width ≡ p.width
unfolding answer
answer_width (Feed bytes) p =
    let more : PlainSession = record p { tape = record p.tape { bytes = p.tape.bytes ++ bytes } } in
    let within : Bool = leb (length p.tape.bytes + length bytes) TAPE_LIMIT in
    either_width p.tape.ended (refused Closed p) (if within then done more else refused TooLong p) p.width refl
    (either_width within (done more) (refused TooLong p) p.width refl refl)
answer_width End p = refl
answer_width Step p =
    either_width (ltb (length p.earlier) p.limit) (stepped_to (step (over p.width p.tape) p.last) p) (refused JournalFull p) p.width
    (stepped_to_width (step (over p.width p.tape) p.last) p) refl
answer_width Back p = backed_to_width p.earlier p
answer_width (Commit keep) p = refl
