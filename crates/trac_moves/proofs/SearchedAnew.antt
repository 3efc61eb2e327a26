-- Where a walker stands after a search, also in a run of the program anew.
use Rattle.std.proofs.Common.{◌≡◌, ℕ, ◌+◌, ◌-◌, ◌^◌, ◌<◌, ◌≤◌, min, Bool, false, true, List, length, refl, sym, ap, subst, ◌∙◌, arith, ⊎_elim}
use Rattle.std.proofs.lemmas.Bool.{cases_lt}
use Rattle.std.specs.Prelude.{Option, None, Some}
use Rattle.trac_rules.specs.declared.refusal.Refusal.{Refusal}
use Rattle.trac_rules.specs.declared.width.Width.{Width}
use Rattle.trac_rules.specs.Session.{PlainSession, End, answer, done}
use Rattle.trac_rules.specs.State.{Tape}
use Rattle.trac_sight.specs.declared.reach.Forgetting.{Forgetting}
use Rattle.trac_moves.specs.declared.searching.Search.{Search}
use Rattle.trac_moves.specs.declared.searching.Search.TheVariants.{Met, Unmet}
use Rattle.trac_moves.specs.declared.walker.Walker.{Walker}
use Rattle.trac_moves.specs.declared.window.Window.{Window}
use Rattle.trac_moves.specs.Searches.{HasGone}
use Rattle.trac_moves.specs.Steps.{number_of_step}
use Rattle.trac_moves.specs.Walkers.{IsBeyond, IsForward, IsSearched, IsTowards, Moves, Stands}
use Rattle.trac_moves.specs.Windows.{IsOver}
use Rattle.trac_moves.proofs.Standing.{moves_as, moves_on, moves_then, numbered, over_ended}

-- two legs are no longer than what is wanted
pub legs_within : {X Y : Type 0} (m n k room most : ℕ) → m ≤ room → room ≤ most → (m < room → (n ≡ room - m) × X) → (room ≤ m → (n ≡ most - m) × Y) → k ≤ n → m + k ≤ most
legs_within m n k room most few less kept others within = ⊎_elim
    (λ (left : m < room). omega (arith, (kept left).0, within, less, left))
    (λ (all : room ≤ m). omega (arith, (others all).0, within, few, less))
    (cases_lt m room)

-- of fewer steps that met nothing
from_fewer : (found : Search) (done most : ℕ) → done ≤ most → (x y : ℕ) → IsSearched found done most x y → IsSearched found 0 most x y
from_fewer Met done most few x y far = λ small. let at = far (omega (arith, small, few)) in (omega (arith, at.0), omega (arith, at.1, few))
from_fewer (Unmet why further) done most few x y same = same

module _ {A : Type 0} where
  -- it met its goal within the room that there is
  pub moves_met : (most : ℕ) (w : Walker A) (q : PlainSession) → HasGone Met most w.window.session q →
      Moves (IsSearched Met 0 most) w (record w { window = record w.window { session = q } })
  moves_met most w q gone = moves_on (IsSearched Met 0 most) gone.0 w q gone.2 (λ steps. λ small. (omega arith, omega (arith, gone.1)))

  -- it did not meet it
  pub moves_unmet : (why : Refusal) (done most : ℕ) (w : Walker A) (q : PlainSession) → q ≡ w.window.session →
      Moves (IsSearched (Unmet why done) 0 most) w (record w { window = record w.window { session = q } })
  moves_unmet why done most w q same = moves_on (IsSearched (Unmet why done) 0 most) 0 w q (ap (λ (p : PlainSession). Some p) (sym same)) (λ steps. omega arith)

  -- it went on after so many steps
  pub moves_further : (found : Search) (done most : ℕ) (w v : Walker A) (q : PlainSession) → q ≡ w.window.session → done ≤ most →
      Moves (IsSearched found done most) (record w { window = record w.window { session = q } }) v → Moves (IsSearched found 0 most) w v
  moves_further found done most w v q same few moved =
      moves_as w v (subst (λ (p : PlainSession). Moves (IsSearched found done most) (record w { window = record w.window { session = p } }) v) same moved)
      (from_fewer found done most few)

  -- ---- in a run anew

  -- a window over all that the walker was given
  pub over_given : (input : Tape) (width : Width) (steps : ℕ) (w : Walker A) (v : Window A) → Stands input width steps w →
      IsOver (record { bytes = w.input.items; ended = w.has_ended }) w.window.session.width 0 v → IsOver input width 0 v
  over_given input width steps w v s o =
      let given : Tape = record { bytes = w.input.items; ended = w.has_ended } in
      let same : given ≡ input = ap (λ (bytes : List ℕ). record given { bytes = bytes }) s.given ∙ ap (λ (ended : Bool). record input { ended = ended }) s.closed in
      subst (λ (t : Tape). IsOver t width 0 v) same (subst (λ (wide : Width). IsOver given wide 0 v) s.over.wide o)

  -- a window over these bytes, the input being still open or ended, as it was given
  over_same : (bytes items : List ℕ) (made wide : Width) (open_ ended : Bool) (v u : Window A) → bytes ≡ items → made ≡ wide → ended ≡ open_ → u ≡ v →
      IsOver (record { bytes = bytes; ended = open_ }) made 0 v → IsOver (record { bytes = items; ended = ended }) wide 0 u
  over_same bytes items made wide open_ ended v u same width as_given is o =
      subst (λ (x : Window A). IsOver (record { bytes = items; ended = ended }) wide 0 x) (sym is)
      (subst (λ (b : Bool). IsOver (record { bytes = items; ended = b }) wide 0 v) (sym as_given)
      (subst (λ (w : Width). IsOver (record { bytes = items; ended = open_ }) w 0 v) width
      (subst (λ (all : List ℕ). IsOver (record { bytes = all; ended = open_ }) made 0 v) same o)))

  pub over_open : (bytes items : List ℕ) (made wide : Width) (ended : Bool) (v u : Window A) → bytes ≡ items → made ≡ wide → ended ≡ false → u ≡ v →
      IsOver (record { bytes = bytes; ended = false }) made 0 v → IsOver (record { bytes = items; ended = ended }) wide 0 u
  over_open bytes items made wide ended v u same width as_given is o = over_same bytes items made wide false ended v u same width as_given is o

  pub over_closed : (bytes items : List ℕ) (made wide : Width) (ended : Bool) (v u : Window A) (q : PlainSession) → bytes ≡ items → made ≡ wide → ended ≡ true → u ≡ record v { session = q } →
      answer End v.session ≡ done q → IsOver (record { bytes = bytes; ended = false }) made 0 v → IsOver (record { bytes = items; ended = ended }) wide 0 u
  over_closed bytes items made wide ended v u q same width as_given is end o =
      over_same bytes items made wide true ended (record v { session = q }) u same width as_given is (over_ended (record { bytes = bytes; ended = false }) made 0 v q o end)

  -- so many steps forward, and then towards the goal
  pub beyond : (start done most sum rest : ℕ) (why : Option Refusal) (u v w : Walker A) → sum ≡ min (start + done) (2 ^ 64 - 1) → rest ≡ most - done → why ≡ None →
      Moves (IsForward sum why) u v → Moves (IsTowards rest) v w → Moves (IsBeyond (start + done) (start + most)) u w
  beyond start done most sum rest why u v w of_sum of_rest none first then_ =
      moves_then u v w first then_
      (λ x y z one two. λ small. (omega (arith, small, of_sum, one.2 none, two.0), omega (arith, small, of_sum, of_rest, one.2 none, two.1)))

  module _ (done most start : ℕ) (found : Search) (u v : Walker A) (anew : Window A)
      (moved : Moves (λ before after. found ≡ Met → IsBeyond (start + done) (start + most) before after) (record u { window = anew }) v) where
    -- the walker stands where it came to, which is as far beyond where it stood
    pub met_anew : found ≡ Met → start ≡ number_of_step u.window.forgotten (length u.window.session.earlier) → (input : Tape) (width : Width) (steps : ℕ) → Stands input width steps u → IsOver input width 0 anew →
        (after : ℕ) × IsSearched found done most steps after × Stands input width after v
    met_anew met here input width steps s over =
        let at = moved input width 0 (record { over = over; given = s.given; closed = s.closed }) in
        let count = numbered input.bytes s.over.text steps _ _ _ s.over.is in
        let far : IsBeyond done most steps at.0 = λ small.
        let beyond = at.1 met (omega (arith, small, here, count)) in
        (omega (arith, small, here, count, beyond.0), omega (arith, small, here, count, beyond.1)) in
        (at.0, subst (λ (f : Search). IsSearched f done most steps at.0) (sym met) far, at.2)

    -- it stands where it stood, with the window that it had
    pub unmet_anew : (why : Refusal) (further : ℕ) (w : Window A) (reason : Option Forgetting) → found ≡ Unmet why further → w ≡ u.window → (input : Tape) (width : Width) (steps : ℕ) → Stands input width steps u → IsOver input width 0 anew →
        (after : ℕ) × IsSearched found done most steps after × Stands input width after (record v { window = w; reason = reason })
    unmet_anew why further w reason unmet same input width steps s over =
        let at = moved input width 0 (record { over = over; given = s.given; closed = s.closed }) in (
          steps,
          subst (λ (f : Search). IsSearched f done most steps steps) (sym unmet) refl,
          record { over = subst (λ (x : Window A). IsOver input width steps x) (sym same) s.over; given = at.2.given; closed = at.2.closed },
        )
