-- Forms that a step does not put hold the items that they held.
use Rattle.std.proofs.Common.{◌≡◌, ℕ, suc, ◌<◌, false, List, [], ◌∷◌, length, get_or, refl, sym, ap, subst, ◌∙◌, arith}
use Rattle.std.specs.Prelude.{Option, None, Some, Ok, slice_get}
use Rattle.std.specs.FinMap as finite
use Rattle.std.proofs.lemmas.Option.{same_Some, slice_get_within}
use Rattle.trac_rules.specs.declared.item.Item.{Item}
use Rattle.trac_rules.specs.declared.scan.Front.{Front}
use Rattle.trac_rules.specs.declared.scan.Front.TheVariants.{Opening, Comma, Sharp, Plain}
use Rattle.trac_rules.specs.Blocks.{block_at}
use Rattle.trac_rules.specs.Effect.{argument}
use Rattle.trac_rules.specs.Form.{Form, all_items}
use Rattle.trac_rules.specs.Matching.{match_of}
use Rattle.trac_rules.specs.Performing.{primitive_of}
use Rattle.trac_rules.specs.Scanning.{Call, Moves, Calls, front_of, scan}
use Rattle.trac_rules.specs.State.{Block, Environment, State}
use Rattle.trac_rules.specs.Stepping.{step}
use Rattle.trac_origins.specs.Accounts.{Accounts}
use Rattle.trac_origins.specs.Lengths.{may_put}
use Rattle.trac_origins.specs.Lists.{FrameOrigins, Origins, all_kept, frames_kept, kept}
use Rattle.trac_origins.specs.Moving.{comma_from, moved_from, protect_from}
use Rattle.trac_origins.specs.Performing.{EffectOrigins, Performed, changed_from, performed_from}
use Rattle.trac_origins.specs.Places.{Place, InForm, InHeld, Origin, Carried, Made, found_at, held_form, items_of}
use Rattle.trac_origins.specs.Stepping.{origin, origins, scanned_from}
use Rattle.trac_origins.proofs.Besides.{StateBeside}
use Rattle.trac_origins.proofs.StepsBeside.{stepped}
use Rattle.trac_origins.proofs.Told.{one_each-at}
use Rattle.trac_origins.proofs.ToldCalls.{ended, is_after, of_call}
use Rattle.trac_origins.proofs.ToldForms.{blocks-gather_from, blocks-placed, blocks_aside, forms-gather_from, forms-placed, forms_aside}
use Rattle.trac_origins.proofs.Zips.{Zip, ends, beside}

-- ---- from origins to items

-- where each is carried from its own place, both lists are the same
alike : (R : Origin → Item → Type 0) (place : ℕ → Place) (xs ys : List Item) →
    ((i : ℕ) (x y : Item) → slice_get xs i ≡ Some x → R (Carried (place i)) y → x ≡ y) → Zip R (kept place xs) ys → ys ≡ xs
alike R place [] [] says ends = refl
alike R place [] (y ∷ ys) says z = elim z [ ]
alike R place (x ∷ xs) [] says z = elim z [ ]
alike R place (x ∷ xs) (y ∷ ys) says (beside r z) =
    let first : x ≡ y = says 0 x y refl r in
    let rest : ys ≡ xs = alike R (λ i. place (suc i)) xs ys (λ i a b at. says (suc i) a b at) z in
    λ i. sym first i ∷ rest i

-- of what a state and a name hold, beside origins that kept their places
module _ (R : Origin → Item → Type 0) (place : ℕ → Place) (xs : List Item) (os : List Origin) (found : Option Form) (i : ℕ) (item : Item)
    (says : (k : ℕ) (x y : Item) → slice_get xs k ≡ Some x → R (Carried (place k)) y → x ≡ y) (stays : os ≡ kept place xs)
    (with_it : (form : Form) → found ≡ Some form → Zip R os (all_items form)) (stands : slice_get (items_of found) i ≡ Some item) where
  same_items : items_of found ≡ xs
  same_items = go found refl
    where
      nothing : slice_get {X = Item} [] i ≡ Some item → ⊥
      nothing e = cc

      go : (f : Option Form) → found ≡ f → items_of f ≡ xs
      go None is = absurd (nothing (sym (ap (λ (f : Option Form). slice_get (items_of f) i) is) ∙ stands))
      go (Some form) is = alike R place xs (all_items form) says (subst (λ (us : List Origin). Zip R us (all_items form)) stays (with_it form is))

  from_itself : get_or os i Made ≡ Carried (place i)
  from_itself =
      ap (λ (us : List Origin). get_or us i Made) stays
      ∙ one_each-at (λ j. Carried (place j)) xs i (slice_get_within xs i item (ap (λ (items : List Item). slice_get items i) (sym same_items) ∙ stands))

module _ (environment : Environment) (s t : State) (h : step environment s ≡ Ok t) where
  beside_it : StateBeside (Accounts environment s t) (origins environment s) t
  beside_it = stepped (Accounts environment s t) environment s t (record {
    carried = λ q found at. at;
    made = λ found makes. makes;
    read = λ n b unread read at. (unread, read, at);
  }) h

-- ---- by a rule of scanning

forms-comma : (gs : List FrameOrigins) (o : Origins) (q : List ℕ) → (comma_from gs o).forms q ≡ o.forms q
forms-comma [] o q = refl
forms-comma (g ∷ gs) o q = refl

moved_forms : (f : Front) (s : State) (q : List ℕ) → (moved_from f s (all_kept s)).forms q ≡ (all_kept s).forms q
moved_forms f s q = go f
  where
    opening : (at : Option ℕ) (text : List Origin) → (protect_from at text (all_kept s)).forms q ≡ (all_kept s).forms q
    opening None text = forms-gather_from (frames_kept s.frames) text _ q
    opening (Some k) text = forms-gather_from (frames_kept s.frames) _ _ q

    go : (g : Front) → (moved_from g s (all_kept s)).forms q ≡ (all_kept s).forms q
    go Opening = opening (match_of _) _
    go Comma = forms-comma (frames_kept s.frames) _ q
    go Sharp = forms-gather_from (frames_kept s.frames) _ _ q
    go Plain = forms-gather_from (frames_kept s.frames) _ _ q
    go other = refl

pub moves_stay : (environment : Environment) (s t : State) (name : List ℕ) → scan s ≡ Moves t →
    (origins environment s).forms name ≡ kept (InForm name) (items_of (finite.get s.forms name))
unfolding origins
moves_stay environment s t name is = ap (λ x. (scanned_from environment s x).forms name) is ∙ moved_forms (front_of s.active) s name

-- ---- by a call

pub calls_stay : (environment : Environment) (s t : State) (call : Call) (name : List ℕ) → step environment s ≡ Ok t → scan s ≡ Calls call →
    may_put (primitive_of (argument 0 call.arguments)) (argument 1 call.arguments) name ≡ false →
    (origins environment s).forms name ≡ kept (InForm name) (items_of (finite.get s.forms name))
calls_stay environment s t call name h is other =
    let after = is_after environment s t call h is in
    let d : Performed = of_call environment s call after.effect in
    let f : EffectOrigins = performed_from d in
    ap (λ (o : Origins). o.forms name) after.origins
    ∙ forms-placed d.call.kind d.effect.forced f.value (changed_from f d.from.others) name
    ∙ forms_aside (primitive_of (argument 0 call.arguments)) d name other
    ∙ ap (λ (o : Origins). o.forms name) after.from
    ∙ ap (λ (u : State). kept (InForm name) (items_of (finite.get u.forms name))) (ended s call is).2.state

-- ---- blocks

blocks-comma : (gs : List FrameOrigins) (o : Origins) (k : ℕ) (q : List ℕ) → (comma_from gs o).blocks k q ≡ o.blocks k q
blocks-comma [] o k q = refl
blocks-comma (g ∷ gs) o k q = refl

moved_blocks : (f : Front) (s : State) (k : ℕ) (q : List ℕ) → (moved_from f s (all_kept s)).blocks k q ≡ (all_kept s).blocks k q
moved_blocks f s k q = go f
  where
    opening : (at : Option ℕ) (text : List Origin) → (protect_from at text (all_kept s)).blocks k q ≡ (all_kept s).blocks k q
    opening None text = blocks-gather_from (frames_kept s.frames) text _ k q
    opening (Some n) text = blocks-gather_from (frames_kept s.frames) _ _ k q

    go : (g : Front) → (moved_from g s (all_kept s)).blocks k q ≡ (all_kept s).blocks k q
    go Opening = opening (match_of _) _
    go Comma = blocks-comma (frames_kept s.frames) _ k q
    go Sharp = blocks-gather_from (frames_kept s.frames) _ _ k q
    go Plain = blocks-gather_from (frames_kept s.frames) _ _ k q
    go other = refl

moves_hold : (environment : Environment) (s t : State) (number : ℕ) (name : List ℕ) → scan s ≡ Moves t →
    (origins environment s).blocks number name ≡ kept (InHeld number name) (items_of (held_form name (block_at number s.blocks)))
unfolding origins
moves_hold environment s t number name is = ap (λ x. (scanned_from environment s x).blocks number name) is ∙ moved_blocks (front_of s.active) s number name

calls_hold : (environment : Environment) (s t : State) (call : Call) (number : ℕ) (name : List ℕ) → step environment s ≡ Ok t → scan s ≡ Calls call → number < length s.blocks →
    (origins environment s).blocks number name ≡ kept (InHeld number name) (items_of (held_form name (block_at number s.blocks)))
calls_hold environment s t call number name h is within =
    let after = is_after environment s t call h is in
    let d : Performed = of_call environment s call after.effect in
    let f : EffectOrigins = performed_from d in
    let same : call.state.blocks ≡ s.blocks = ap (λ (u : State). u.blocks) (ended s call is).2.state in
    ap (λ (o : Origins). o.blocks number name) after.origins
    ∙ blocks-placed d.call.kind d.effect.forced f.value (changed_from f d.from.others) number name
    ∙ blocks_aside (primitive_of (argument 0 call.arguments)) d number name (λ stores last. absurd (omega (arith, last, within, ap (λ (blocks : List Block). length blocks) same)))
    ∙ ap (λ (o : Origins). o.blocks number name) after.from
    ∙ ap (λ (blocks : List Block). kept (InHeld number name) (items_of (held_form name (block_at number blocks)))) same

-- ---- the laws

pub record Unchanged (environment : Environment) (s t : State) (name : List ℕ) (i : ℕ) : Type 0 where
  pub items : items_of (finite.get t.forms name) ≡ items_of (finite.get s.forms name)
  pub carried : origin environment s (InForm name i) ≡ Carried (InForm name i)

unchanged : (environment : Environment) (s t : State) (name : List ℕ) (i : ℕ) (item : Item) → step environment s ≡ Ok t → found_at t (InForm name i) ≡ Some item →
    (origins environment s).forms name ≡ kept (InForm name) (items_of (finite.get s.forms name)) → Unchanged environment s t name i
unchanged environment s t name i item h stands stays =
    let R = Accounts environment s t in
    let xs = items_of (finite.get s.forms name) in
    let os = (origins environment s).forms name in
    let found = finite.get t.forms name in
    let says : (k : ℕ) (x y : Item) → slice_get xs k ≡ Some x → R (Carried (InForm name k)) y → x ≡ y = λ k x y at is. same_Some x y (sym at ∙ is) in
    record {
      items = same_items R (InForm name) xs os found i item says stays ((beside_it environment s t h).forms name) stands;
      carried = from_itself R (InForm name) xs os found i item says stays ((beside_it environment s t h).forms name) stands;
    }

pub moves_unchanged : (environment : Environment) (s t : State) (name : List ℕ) (i : ℕ) (item : Item) → step environment s ≡ Ok t → scan s ≡ Moves t → found_at t (InForm name i) ≡ Some item →
    Unchanged environment s t name i
moves_unchanged environment s t name i item h is stands = unchanged environment s t name i item h stands (moves_stay environment s t name is)

pub calls_unchanged : (environment : Environment) (s t : State) (call : Call) (name : List ℕ) (i : ℕ) (item : Item) → step environment s ≡ Ok t → scan s ≡ Calls call →
    may_put (primitive_of (argument 0 call.arguments)) (argument 1 call.arguments) name ≡ false → found_at t (InForm name i) ≡ Some item → Unchanged environment s t name i
calls_unchanged environment s t call name i item h is other stands = unchanged environment s t name i item h stands (calls_stay environment s t call name h is other)

held_from : (environment : Environment) (s t : State) (number : ℕ) (name : List ℕ) (i : ℕ) (item : Item) → step environment s ≡ Ok t → found_at t (InHeld number name i) ≡ Some item →
    (origins environment s).blocks number name ≡ kept (InHeld number name) (items_of (held_form name (block_at number s.blocks))) →
    origin environment s (InHeld number name i) ≡ Carried (InHeld number name i)
held_from environment s t number name i item h stands stays =
    from_itself (Accounts environment s t) (InHeld number name) (items_of (held_form name (block_at number s.blocks))) ((origins environment s).blocks number name)
    (held_form name (block_at number t.blocks)) i item (λ k x y at is. same_Some x y (sym at ∙ is)) stays ((beside_it environment s t h).blocks number name) stands

pub moves_held : (environment : Environment) (s t : State) (number : ℕ) (name : List ℕ) (i : ℕ) (item : Item) → step environment s ≡ Ok t → scan s ≡ Moves t →
    found_at t (InHeld number name i) ≡ Some item → origin environment s (InHeld number name i) ≡ Carried (InHeld number name i)
moves_held environment s t number name i item h is stands = held_from environment s t number name i item h stands (moves_hold environment s t number name is)

pub calls_held : (environment : Environment) (s t : State) (call : Call) (number : ℕ) (name : List ℕ) (i : ℕ) (item : Item) → step environment s ≡ Ok t → scan s ≡ Calls call →
    number < length s.blocks → found_at t (InHeld number name i) ≡ Some item → origin environment s (InHeld number name i) ≡ Carried (InHeld number name i)
calls_held environment s t call number name i item h is within stands = held_from environment s t number name i item h stands (calls_hold environment s t call number name h is within)
