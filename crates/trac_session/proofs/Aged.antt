-- Earlier states of whose forms the names are recent: after steps, on the way back, and after a commit.
use Rattle.std.proofs.Common.{◌≡◌, ℕ, zero, suc, ◌-◌, ◌<◌, ◌≤◌, List, [], ◌∷◌, ◌++◌, length, map, min, take, refl, sym, ap, subst, ◌∙◌, arith, ⊎_elim}
use Rattle.std.specs.List.{All}
use Rattle.std.proofs.lemmas.Bool.{cases_lt}
use Rattle.std.proofs.lemmas.List.{length-map, length-take, take-map, take_all}
use Rattle.std.proofs.lemmas.List.Elements.{All-cons, All-head, All-map, All-nil, All-tail, All-take, All-weaker}
use Rattle.trac_rules.specs.declared.reply.Reply.TheVariants.{Done}
use Rattle.trac_rules.specs.PlainRuns.{moved_on, on_the_way}
use Rattle.trac_rules.specs.Records.{Record}
use Rattle.trac_rules.specs.Session.{PlainSession, Answers, Back, Step, answer, done, released, first_kept, Commit}
use Rattle.trac_rules.specs.State.{Forms, Frame, State}
use Rattle.trac_rules.proofs.Replies.{Commit_done, Step_done}
use Rattle.trac_rules.proofs.TakenAgain.{Back_done}
use Rattle.trac_forms.specs.Stored.{KnowsAll, Names}
use Rattle.trac_forms.proofs.Entries.{take-take-le}
use Rattle.trac_storage.specs.Changing.{AreAmong}
use Rattle.trac_step.specs.Layout.{Shown}
use Rattle.trac_session.specs.Journal.{earlier_of}
use Rattle.trac_session.specs.Knowing.{AreRecent, HasForgotten}

-- the names of a state's forms are among these
abbrev Has : Names → State → Type 0
Has names s = KnowsAll names s.forms

-- those of all states but the oldest are so, of which there may be fewer
abbrev pub AreNewer : ℕ → Names → List State → Type 0
AreNewer mark names states = All (Has names) (take (length states - mark) states)

-- ---- lists of states

pub none_recent : (mark : ℕ) (names : Names) → mark ≤ 0 → AreRecent mark names []
none_recent mark names none = (none, All-take (Has names) (0 - mark) [] (All-nil (Has names)))

pub recent_weaker : (mark : ℕ) (names more : Names) (states : List State) → AreAmong names more → AreRecent mark names states → AreRecent mark more states
recent_weaker mark names more states among all =
    (all.0, All-weaker (Has names) (Has more) (λ s knows name there. among name (knows name there)) (take (length states - mark) states) all.1)

-- one more
pub recent_more : (mark : ℕ) (names : Names) (s : State) (states : List State) → Has names s → AreRecent mark names states → AreRecent mark names (s ∷ states)
recent_more mark names s states here all =
    let one : length (s ∷ states) - mark ≡ suc (length states - mark) = omega (arith, all.0) in (
      omega (arith, all.0),
      subst (λ n. All (Has names) (take n (s ∷ states))) (sym one) (All-cons (Has names) s (take (length states - mark) states) here all.1),
    )

-- one fewer
newer_fewer : (mark : ℕ) (names : Names) (s : State) (states : List State) → AreNewer mark names (s ∷ states) → AreNewer mark names states
newer_fewer mark names s states all = ⊎_elim
    (λ (past : length states < mark).
    let none : length states - mark ≡ 0 = omega (arith, past) in
    subst (λ n. All (Has names) (take n states)) (sym none) (All-nil (Has names)))
    (λ (within : mark ≤ length states).
    let one : length (s ∷ states) - mark ≡ suc (length states - mark) = omega (arith, within) in
    All-tail (Has names) s (take (length states - mark) states) (subst (λ n. All (Has names) (take n (s ∷ states))) one all))
    (cases_lt (length states) mark)

-- several more, and fewer
recent_front : (mark : ℕ) (names : Names) (front states : List State) → All (Has names) front → AreRecent mark names states → AreRecent mark names (front ++ states)
recent_front mark names [] states here all = all
recent_front mark names (s ∷ front) states here all =
    recent_more mark names s (front ++ states) (All-head (Has names) s front here) (recent_front mark names front states (All-tail (Has names) s front here) all)

newer_rest : (mark : ℕ) (names : Names) (front states : List State) → AreNewer mark names (front ++ states) → AreNewer mark names states
newer_rest mark names [] states all = all
newer_rest mark names (s ∷ front) states all = newer_rest mark names front states (newer_fewer mark names s (front ++ states) all)

-- no more are old than there are
pub recent_min : (mark n more : ℕ) (names : Names) (states : List State) → n ≡ length states → more ≡ min mark n → AreNewer mark names states → AreRecent more names states
recent_min mark n more names states all_of is all =
    let same : length states - more ≡ length states - mark = omega (arith, all_of, is) in
    (omega (arith, all_of, is), subst (λ k. All (Has names) (take k states)) (sym same) all)

-- ---- by steps

-- a machine that forgets names
pub recent_forgotten : (mark : ℕ) (records : List Record) (m n : Shown) → HasForgotten records m n → AreRecent mark m.recent (earlier_of records m.state) → AreRecent mark n.recent (earlier_of records n.state)
recent_forgotten mark [] m n h all = none_recent mark n.recent all.0
recent_forgotten mark (r ∷ records) m n h all = subst (λ (u : Shown). AreRecent mark u.recent (earlier_of (r ∷ records) u.state)) (sym h) all

-- no state is before the last
pub recent_gone : (mark : ℕ) (records : List Record) (m : Shown) → mark ≡ 0 → records ≡ [] → AreRecent mark m.recent (earlier_of records m.state)
recent_gone mark records m unmarked none = subst (λ (rs : List Record). AreRecent mark m.recent (earlier_of rs m.state)) (sym none) (none_recent mark m.recent (omega (arith, unmarked)))

-- the same states
pub recent_stays : (mark : ℕ) (old new : List Record) (m k : Shown) → new ≡ old → k.state ≡ m.state → AreAmong m.recent k.recent → AreRecent mark m.recent (earlier_of old m.state) →
    AreRecent mark k.recent (earlier_of new k.state)
recent_stays mark old new m k same there among all =
    subst (λ states. AreRecent mark k.recent states) (sym (λ i. earlier_of (same i) (there i))) (recent_weaker mark m.recent k.recent (earlier_of old m.state) among all)

pub recent_after_step : (mark : ℕ) (names more : Names) (p q : PlainSession) → Answers Step p Done q → AreAmong names more → Has more p.last → AreRecent mark names p.earlier → AreRecent mark more q.earlier
recent_after_step mark names more p q h among here all =
    let at = Step_done p q h in
    subst (λ (states : List State). AreRecent mark more states) (sym (ap (λ (r : PlainSession). r.earlier) at.2))
    (recent_more mark more p.last p.earlier here (recent_weaker mark names more p.earlier among all))

pub recent_after_back : (mark : ℕ) (names more : Names) (p q : PlainSession) → answer Back p ≡ done q → AreAmong names more → AreRecent mark names p.earlier → AreNewer mark more q.earlier
recent_after_back mark names more p q h among all =
    let at = Back_done p q h in
    subst (λ (states : List State). AreNewer mark more states) (sym (ap (λ (r : PlainSession). r.earlier) at.3))
    (newer_fewer mark more at.0 at.1 (subst (λ (states : List State). AreNewer mark more states) at.2 (recent_weaker mark names more p.earlier among all).1))

-- a byte that moves leaves the forms
forms-moved : (n : ℕ) (s : State) → (moved_on n s).forms ≡ s.forms
forms-moved n s = by_frames s.frames
  where
    by_frames : (fs : List Frame) → (moved_on n (record s { frames = fs })).forms ≡ s.forms
    by_frames [] = refl
    by_frames (f ∷ fs) = refl

have_moved : (names : Names) (n : ℕ) (s : State) → Has names s → All (Has names) (on_the_way n s)
have_moved names zero s here = All-nil (Has names)
have_moved names (suc n) s here =
    All-cons (Has names) (moved_on n s) (on_the_way n s) (subst (λ (forms : Forms). KnowsAll names forms) (sym (forms-moved n s)) here) (have_moved names n s here)

-- so many bytes move, or move back
pub recent_passed : (mark n : ℕ) (names : Names) (s : State) (earlier later : List State) → later ≡ on_the_way n s ++ earlier → Has names s → AreRecent mark names earlier → AreRecent mark names later
recent_passed mark n names s earlier later is here all =
    subst (λ (states : List State). AreRecent mark names states) (sym is) (recent_front mark names (on_the_way n s) earlier (have_moved names n s here) all)

pub recent_passed_back : (mark n : ℕ) (names : Names) (s : State) (earlier later : List State) → later ≡ on_the_way n s ++ earlier → AreRecent mark names later → AreNewer mark names earlier
recent_passed_back mark n names s earlier later is all =
    newer_rest mark names (on_the_way n s) earlier (subst (λ (states : List State). AreRecent mark names states) is all).1

-- ---- by a commit

-- of the states that stay
module _ (mark keep : ℕ) (names : Names) (states : List State) (all : AreNewer mark names states) where
  abbrev left : List State
  left = take keep states

  -- the newest
  newest : (n : ℕ) → n ≤ length states - mark → n ≤ length left → All (Has names) (take n left)
  newest n few within =
      subst (λ (xs : List State). All (Has names) xs) (take-take-le n (length states - mark) states few ∙ sym (take-take-le n keep states (omega (arith, within, length-take keep states))))
      (All-take (Has names) n (take (length states - mark) states) all)

  module _ (o k : ℕ) where
    -- all, where none of them is older than the mark
    released_all : mark ≤ length states - length left → All (Has names) (map (released o k) left)
    released_all none =
        All-map (Has names) (released o k) left
        (subst (λ (xs : List State). All (Has names) xs) (take_all (length left) left (omega arith)) (newest (length left) (omega (arith, none, length-take keep states)) (omega arith)))

    -- those that are newer, where some are older
    released_some : (more : ℕ) → more ≡ mark - (length states - length left) → length states - length left < mark → AreNewer more names (map (released o k) left)
    released_some more is some =
        let n : ℕ = length left - more in
        let cut : take (length (map (released o k) left) - more) (map (released o k) left) ≡ map (released o k) (take n left) =
        ap (λ len. take (len - more) (map (released o k) left)) (length-map left (released o k)) ∙ take-map (released o k) n left in
        subst (λ (xs : List State). All (Has names) xs) (sym cut)
        (All-map (Has names) (released o k) (take n left) (newest n (omega (arith, is, some, length-take keep states)) (omega arith)))

-- a commit that keeps so many steps of a session
module _ (keep mark before kept : ℕ) (names : Names) (p q : PlainSession) (h : answer (Commit keep) p ≡ done q) (all : AreRecent mark names p.earlier)
    (before_is : before ≡ length p.earlier) (kept_is : kept ≡ length q.earlier) where
  states_are : q.earlier ≡ map (released (length (first_kept keep p).output) (first_kept keep p).position) (take keep p.earlier)
  states_are = ap (λ (r : PlainSession). r.earlier) (Commit_done keep p q h)

  as_many : length q.earlier ≡ length (take keep p.earlier)
  as_many = ap (λ (xs : List State). length xs) states_are ∙ length-map (take keep p.earlier) (released (length (first_kept keep p).output) (first_kept keep p).position)

  pub all_newer : mark ≤ before - kept → All (λ s. KnowsAll names s.forms) q.earlier
  all_newer none =
      subst (λ (xs : List State). All (Has names) xs) (sym states_are)
      (released_all mark keep names p.earlier all.1 (length (first_kept keep p).output) (first_kept keep p).position (omega (arith, none, before_is, kept_is, as_many)))

  pub some_newer : (more : ℕ) → more ≡ mark - (before - kept) → before - kept < mark → AreRecent more names q.earlier
  some_newer more is some =
      let newer = released_some mark keep names p.earlier all.1 (length (first_kept keep p).output) (first_kept keep p).position more (omega (arith, is, before_is, kept_is, as_many)) (omega (arith, some, before_is, kept_is, as_many)) in (
        omega (arith, is, some, all.0, before_is, kept_is, as_many, length-take keep p.earlier),
        subst (λ (xs : List State). AreNewer more names xs) (sym states_are) newer,
      )
