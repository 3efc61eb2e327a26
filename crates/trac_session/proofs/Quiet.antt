-- Steps that move a byte perform no call, and there is no doubt of them.
use Rattle.std.proofs.Common.{◌≡◌, ℕ, zero, suc, ◌+◌, ◌-◌, ◌<◌, ◌≤◌, Bool, true, false, List, [], ◌∷◌, ◌++◌, length, take, drop, refl, sym, ap, subst, ◌∙◌, arith}
use Rattle.std.specs.Prelude.{Option, None, Some, Result, Ok, option_map}
use Rattle.std.proofs.lemmas.List.{length-append, length-drop, length-take}
use Rattle.trac_rules.specs.declared.kind.Kind.{Kind}
use Rattle.trac_rules.specs.declared.kind.Kind.TheVariants.{Active, Neutral}
use Rattle.trac_rules.specs.declared.refusal.Refusal.{Refusal}
use Rattle.trac_rules.specs.declared.scan.Front.{Front}
use Rattle.trac_rules.specs.declared.scan.Front.TheVariants as front
use Rattle.trac_rules.specs.Doubts.{doubts, doubts_of_call, doubts_of_scanning}
use Rattle.trac_rules.specs.Effect.{Effect}
use Rattle.trac_rules.specs.Goals.{call_asked, next_call}
use Rattle.trac_rules.specs.Limits.{argument_bytes, texts_fit}
use Rattle.trac_rules.specs.Matching.{Protected, match_of, protected, protected_up_to}
use Rattle.trac_rules.specs.Performing.{after_call, changed_by, performed, placed}
use Rattle.trac_rules.specs.PlainRuns.{moved_on, on_the_way}
use Rattle.trac_rules.specs.Scanning.{Call, closing_in, deleted, front_of, gather_first, gathered_in, protect, scan, scan_at}
use Rattle.trac_rules.specs.Session.{PlainSession, Back, Step, answer, done, over, repeated}
use Rattle.trac_rules.specs.State.{Environment, Frame, State, storage_of}
use Rattle.trac_rules.specs.Stepping.{carried_out, step}
use Rattle.trac_rules.specs.Trails.{IsTrail}
use Rattle.trac_rules.proofs.MovedOn.{active-gathered, moved_on-suc, moved_on-zero}
use Rattle.trac_rules.proofs.Outcomes.{limited_Ok, seen_as-Ok}
use Rattle.trac_rules.proofs.Replies.{answer_Back_from}
use Rattle.trac_rules.proofs.TakenAgain.{repeated_after_one, repeated_trail, steps_again}
use Rattle.trac_session.specs.Runs.{HasMovedBack, IsQuiet}

-- ---- fronts

-- no call is performed at these fronts, and nothing is doubtful
abbrev IsQuietAt : Front → Type 0
IsQuietAt front.Nothing = ⊥
IsQuietAt front.Opening = ⊥
IsQuietAt front.Closing = ⊥
IsQuietAt other = Unit {0}

no_call_at : (at : Front) (s : State) → IsQuietAt at → call_asked (scan_at at s) ≡ None
no_call_at front.Nothing s quiet = absurd quiet
no_call_at front.Opening s quiet = absurd quiet
no_call_at front.Closing s quiet = absurd quiet
no_call_at other s quiet = refl

no_doubt_at : (at : Front) (active : List ℕ) (depth : ℕ) → IsQuietAt at → doubts_of_scanning at active depth ≡ []
no_doubt_at front.Nothing active depth quiet = absurd quiet
no_doubt_at front.Opening active depth quiet = absurd quiet
no_doubt_at front.Closing active depth quiet = absurd quiet
no_doubt_at other active depth quiet = refl

quiet_of_front : (s : State) → IsQuietAt (front_of s.active) → IsQuiet s
unfolding scan doubts
quiet_of_front s quiet =
    let none : next_call s ≡ None = no_call_at (front_of s.active) s quiet in
    record {
      no_call = none;
      no_doubt = λ width.
          ap (λ (call : Option Call). doubts_of_call width (option_map (λ c. c.arguments) call) (storage_of s) ++ doubts_of_scanning (front_of s.active) s.active (length s.frames)) none
          ∙ no_doubt_at (front_of s.active) s.active (length s.frames) quiet;
    }

-- ---- what a step that moves a byte leaves

-- how many bytes base text and arguments hold
abbrev gathered_bytes : State → ℕ
gathered_bytes s = length s.base + argument_bytes s.frames

gathers : (frames : List Frame) (text : List ℕ) (s : State) → gathered_bytes (gathered_in frames text (record s { frames = frames })) ≡ length text + gathered_bytes (record s { frames = frames })
gathers [] text s = omega (arith, length-append s.base text)
gathers (f ∷ fs) text s = omega (arith, length-append f.gathered text)

-- as many functions are begun
as_deep : (frames : List Frame) (text : List ℕ) (s : State) → length (gathered_in frames text (record s { frames = frames })).frames ≡ length frames
as_deep [] text s = refl
as_deep (f ∷ fs) text s = refl

-- and one fewer after a call
depth_placed : (kind : Kind) (e : Effect) (s : State) → length (placed kind e.forced e.value (changed_by e s)).frames ≡ length s.frames
depth_placed Active e s = refl
depth_placed Neutral e s = by_force e.forced
  where
    by_force : (forced : Bool) → length (placed Neutral forced e.value (changed_by e s)).frames ≡ length s.frames
    by_force true = refl
    by_force false = as_deep s.frames e.value (changed_by e s)

-- what is protected is no longer than what stands after its `(`
protects : (match : Option ℕ) (text : List ℕ) → length (protected_up_to match text).inner + length (protected_up_to match text).rest ≤ length text
protects None text = omega arith
protects (Some k) text = omega (arith, length-take k text, length-drop (k + 1) text)

-- a step leads to one state
abbrev LeadsTo : Result State Refusal → State → Type 0
LeadsTo outcome t = outcome ≡ Ok t

same_done : (s t : State) → LeadsTo (Ok s) t → s ≡ t
same_done s t h = cc

-- a step that moves a byte begins at one of those fronts
moves_quietly : (e : Environment) (s : State) → 0 < length s.active → step e s ≡ Ok (gather_first s) → IsQuietAt (front_of s.active)
unfolding step scan
moves_quietly e s some taken = by_front (front_of s.active) (limited_Ok texts_fit (carried_out e (scan_at (front_of s.active) s)) (gather_first s) taken).0
  where
    one : length (take 1 s.active) ≡ 1
    one = omega (arith, some, length-take 1 s.active)

    more : gathered_bytes (gather_first s) ≡ 1 + gathered_bytes s
    more = omega (arith, gathers s.frames (take 1 s.active) (deleted 1 s), one)

    left : length (gather_first s).active ≡ length s.active - 1
    left = ap (λ (text : List ℕ). length text) (active-gathered s.frames (take 1 s.active) (deleted 1 s)) ∙ length-drop 1 s.active

    depth : length (gather_first s).frames ≡ length s.frames
    depth = as_deep s.frames (take 1 s.active) (deleted 1 s)

    closing : (frames : List Frame) → frames ≡ s.frames → carried_out e (closing_in frames (deleted 1 s)) ≡ Ok (gather_first s) → ⊥
    closing [] is h = omega (arith, more, ap gathered_bytes (same_done (deleted 1 s) (gather_first s) h))
    closing (f ∷ fs) is h =
        let call : Call = record { kind = f.kind; arguments = f.arguments ++ f.gathered ∷ []; state = record (deleted 1 s) { frames = fs } } in
        let done = seen_as-Ok (after_call call) (performed e call) (gather_first s) h in
        omega (arith, depth, ap (λ (t : State). length t.frames) done.2, depth_placed f.kind done.0 call.state, ap (λ (frames : List Frame). length frames) is)

    by_front : (at : Front) → carried_out e (scan_at at s) ≡ Ok (gather_first s) → IsQuietAt at
    by_front front.Nothing h = absurd (omega (arith, more, ap gathered_bytes (same_done _ (gather_first s) h)))
    by_front front.Opening h =
        let p : Protected = protected (drop 1 s.active) in
        let same : protect p s ≡ gather_first s = same_done (protect p s) (gather_first s) h in
        absurd (omega (
          arith,
          some,
          more,
          left,
          ap gathered_bytes same,
          ap (λ (t : State). length t.active) same,
          gathers s.frames p.inner (record s { active = p.rest }),
          ap (λ (text : List ℕ). length text) (active-gathered s.frames p.inner (record s { active = p.rest })),
          protects (match_of (drop 1 s.active)) (drop 1 s.active),
          length-drop 1 s.active,
        ))
    by_front front.Closing h = absurd (closing s.frames refl h)
    by_front other h = tt

-- ---- the states on the way

-- the first of them with so many bytes moved on, between two sessions
abbrev after : ℕ → PlainSession → PlainSession
after j p = record p { earlier = on_the_way j p.last ++ p.earlier; last = moved_on j p.last }

-- one byte back
one_back : (j : ℕ) (p : PlainSession) → answer Back (after (suc j) p) ≡ done (after j p)
one_back j p = answer_Back_from (after (suc j) p) (moved_on j p.last) (on_the_way j p.last ++ p.earlier) refl

-- so many
many_back : (k j n : ℕ) (p : PlainSession) → n ≡ k + j → repeated Back k (after n p) ≡ Some (after j p)
many_back zero j n p all = let none : n ≡ j = omega (arith, all) in ap (λ m. Some (after m p)) none
many_back (suc k) j n p all =
    let next : n ≡ suc (k + j) = omega (arith, all) in
    ap (λ m. repeated Back (suc k) (after m p)) next
    ∙ repeated_after_one Back k (after (suc (k + j)) p) (after (k + j) p) (one_back (k + j) p)
    ∙ many_back k j (k + j) p refl

-- where so many have gone back
there : (n : ℕ) (old new : PlainSession) → HasMovedBack n old new → old ≡ after n new
there n old new moved =
    let limit : old.limit ≡ new.limit = sym (ap (λ (q : PlainSession). q.limit) moved.others) in
    let width : old.width ≡ new.width = sym (ap (λ (q : PlainSession). q.width) moved.others) in
    let tape : old.tape ≡ new.tape = sym (ap (λ (q : PlainSession). q.tape) moved.others) in
    λ i. record { limit = limit i; width = width i; tape = tape i; earlier = moved.earlier i; last = moved.last i }

back_there : (n k j : ℕ) (old new : PlainSession) → HasMovedBack n old new → n ≡ k + j → repeated Back k old ≡ Some (after j new)
back_there n k j old new moved all = ap (repeated Back k) (there n old new moved) ∙ many_back k j n new all

-- a byte is moved there
is_quiet_there : (n j : ℕ) (old new : PlainSession) → HasMovedBack n old new → IsTrail old → j < n → IsQuiet (after j new).last
is_quiet_there n j old new moved trail less =
    let t : State = moved_on j new.last in
    let here : repeated Back (n - (j + 1)) old ≡ Some (after (suc j) new) = back_there n (n - (j + 1)) (suc j) old new moved (omega (arith, less)) in
    let steps = (repeated_trail Back (n - (j + 1)) old (after (suc j) new) trail here).steps in
    let some : 0 < length t.active =
    omega (arith, less, moved.within, ap (λ (text : List ℕ). length text) (active-gathered new.last.frames (take j new.last.active) (deleted j new.last)), length-drop j new.last.active) in
    quiet_of_front t (moves_quietly (over new.width new.tape) t some (steps.0 ∙ ap Ok (moved_on-suc j new.last)))

-- on the way forward, the first state among them
pub quiet_forward : (n k : ℕ) (old new p : PlainSession) → HasMovedBack n new old → IsTrail new → k < n → repeated Step k old ≡ Some p → IsQuiet p.last
quiet_forward n k old new p moved trail less walked =
    let here = back_there n (n - k) k new old moved (omega (arith, less)) in
    let back : repeated Back k (after k old) ≡ Some old =
    many_back k 0 k old (omega arith) ∙ ap (λ (s : State). Some (record old { last = s })) (moved_on-zero old.last) in
    let again : repeated Step k old ≡ Some (after k old) = steps_again k (after k old) old (repeated_trail Back (n - k) new (after k old) trail here) back in
    let same : after k old ≡ p = cc in
    subst (λ (q : PlainSession). IsQuiet q.last) same (is_quiet_there n k new old moved trail less)

-- on the way back, the last one among them
pub quiet_back : (n k : ℕ) (old new p : PlainSession) → HasMovedBack n old new → IsTrail old → 0 < k → k ≤ n → repeated Back k old ≡ Some p → IsQuiet p.last
quiet_back n k old new p moved trail some few walked =
    let here = back_there n k (n - k) old new moved (omega (arith, few)) in
    let same : after (n - k) new ≡ p = cc in
    subst (λ (q : PlainSession). IsQuiet q.last) same (is_quiet_there n (n - k) old new moved trail (omega (arith, some, few)))
