-- The law of origins: of a step, of many, and in every session.
use Rattle.std.proofs.Common.{◌≡◌, ℕ, suc, List, [], ◌∷◌, length, map, get_or, refl, sym, ap, ap₂, subst, arith}
use Rattle.std.specs.Prelude.{Option, None, Some, Ok, option_map, slice_get}
use Rattle.std.specs.FinMap as finite
use Rattle.std.specs.Option.{option_map_or}
use Rattle.std.proofs.lemmas.Option.{option_and_then_some, same_Some}
use Rattle.trac_rules.specs.declared.item.Item.{Item}
use Rattle.trac_rules.specs.declared.item.Item.TheVariants.{Byte}
use Rattle.trac_rules.specs.declared.reply.Reply.{Reply}
use Rattle.trac_rules.specs.declared.width.Width.{Width}
use Rattle.trac_rules.specs.Blocks.{block_at}
use Rattle.trac_rules.specs.Effect.{argument}
use Rattle.trac_rules.specs.Form.{Form, all_items}
use Rattle.trac_rules.specs.Session.{Command, PlainSession, Run, new_session, over}
use Rattle.trac_rules.specs.State.{Environment, Frame, State}
use Rattle.trac_rules.specs.Stepping.{step}
use Rattle.trac_rules.specs.Trails.{AreSteps}
use Rattle.trac_rules.proofs.TakenAgain.{new_trail, run_trail}
use Rattle.trac_origins.specs.Places.{Place, InActive, InBase, InArgument, InForm, InHeld, InOutput, Origin, Carried, Read, Made, byte_at, found_at, held_form, items_of, numbered, arguments_of}
use Rattle.trac_origins.specs.Lists.{FrameOrigins, Origins, lists_of, origin_at}
use Rattle.trac_origins.specs.Stepping.{origin, origins}
use Rattle.trac_origins.specs.Following.{followed, going_back}
use Rattle.trac_origins.specs.Accounts.{Accounts, IsSource}
use Rattle.trac_origins.proofs.Zips.{Zip, ends, beside, appended, related, related_number, related_or, same_length}
use Rattle.trac_origins.proofs.Besides.{FrameBeside, StateBeside, Text}
use Rattle.trac_origins.proofs.StepsBeside.{stepped}

-- ---- what stands at a place

module _ (R : Origin → Item → Type 0) where
  text_at : (os : List Origin) (text : List ℕ) → Text R os text → (i : ℕ) (item : Item) → byte_at i text ≡ Some item → R (get_or os i Made) item
  text_at os text t i item e = go (slice_get text i) refl e
    where
      go : (found : Option ℕ) → slice_get text i ≡ found → option_map Byte found ≡ Some item → R (get_or os i Made) item
      go None is e = absurd (cc)
      go (Some b) is e = subst (R (get_or os i Made)) (same_Some (Byte b) item e) (related t i Made b is)

  items_at : (os : List Origin) (found : Option Form) → ((form : Form) → found ≡ Some form → Zip R os (all_items form)) → (i : ℕ) (item : Item) →
      slice_get (items_of found) i ≡ Some item → R (get_or os i Made) item
  items_at os None h i item e = absurd (cc)
  items_at os (Some form) h i item e = related (h form refl) i Made item e

  pub at_place : (o : Origins) (t : State) → StateBeside R o t → (place : Place) (item : Item) → found_at t place ≡ Some item → R (origin_at o place) item
  at_place o t b (InActive i) item e = text_at o.active t.active b.active i item e
  at_place o t b (InBase i) item e = text_at o.base t.base b.base i item e
  at_place o t b (InArgument n k i) item e =
      option_and_then_some (λ (f : Frame). byte_at i (argument k (arguments_of f))) (numbered n t.frames) item e
      (λ f there stands.
      let at = related_number b.frames n f there in
      let texts : Zip (Text R) (lists_of at.0) (arguments_of f) = appended at.2.arguments (beside at.2.gathered ends) in
      subst (λ (found : Option FrameOrigins). R (option_map_or (λ frame. get_or (get_or (lists_of frame) k []) i Made) found Made) item) (sym at.1)
      (text_at (get_or (lists_of at.0) k []) (argument k (arguments_of f)) (related_or texts k [] [] ends) i item stands))
  at_place o t b (InForm name i) item e = items_at (o.forms name) (finite.get t.forms name) (b.forms name) i item e
  at_place o t b (InHeld number name i) item e = items_at (o.blocks number name) (held_form name (block_at number t.blocks)) (b.blocks number name) i item e
  at_place o t b (InOutput i) item e = text_at o.output t.output b.output i item e

-- ---- the law of a step

pub accounted : (environment : Environment) (s t : State) → step environment s ≡ Ok t → (place : Place) (item : Item) → found_at t place ≡ Some item →
    Accounts environment s t (origin environment s place) item
accounted environment s t h place item e =
    at_place (Accounts environment s t) (origins environment s) t
    (stepped (Accounts environment s t) environment s t (record {
      carried = λ q found stands. stands;
      made = λ found makes. makes;
      read = λ n b unread read stands. (unread, read, stands);
    }) h) place item e

-- there are as many origins as bytes and items
abbrev Any : Origin → Item → Type 0
Any o item = Unit {0}

pub lists_beside : (environment : Environment) (s t : State) → step environment s ≡ Ok t → StateBeside Any (origins environment s) t
lists_beside environment s t h =
    stepped Any environment s t (record { carried = λ q found stands. tt; made = λ found makes. tt; read = λ n b unread read stands. tt }) h

lengths_alike : {ls : List (List Origin)} {texts : List (List ℕ)} → Zip (Text Any) ls texts → map (λ os. length os) ls ≡ map (λ text. length text) texts
lengths_alike ends = refl
lengths_alike (beside {x = os} {y = text} t h) = ap₂ (λ (n : ℕ) (ns : List ℕ). n ∷ ns) (same_length t) (lengths_alike h)

pub same_lengths : {gs : List FrameOrigins} {fs : List Frame} → Zip (FrameBeside Any) gs fs →
    map (λ g. map (λ os. length os) (lists_of g)) gs ≡ map (λ f. map (λ text. length text) (arguments_of f)) fs
same_lengths ends = refl
same_lengths (beside f h) =
    ap₂ (λ (ns : List ℕ) (rest : List (List ℕ)). ns ∷ rest) (lengths_alike (appended f.arguments (beside f.gathered ends))) (same_lengths h)

-- ---- the law of many steps

-- one step more that carried it
one_more_carried : (environment : Environment) (earlier : List State) (s t : State) (carried : ℕ) (o : Origin) (item : Item) → IsSource environment earlier s carried o item →
    IsSource environment (s ∷ earlier) t (suc carried) o item
one_more_carried environment earlier s t carried (Carried place) item h = (ap suc h.0, h.1)
one_more_carried environment earlier s t carried (Read n) item h = (omega (arith, h.0), h.1)
one_more_carried environment earlier s t carried Made item h = (omega (arith, h.0), h.1)

pub followed_back : (environment : Environment) (earlier : List State) (t : State) → AreSteps environment earlier t → (place : Place) (item : Item) → found_at t place ≡ Some item →
    IsSource environment earlier t (followed environment earlier place).carried (followed environment earlier place).origin item
followed_back environment [] t all place item e = (refl, e)
followed_back environment (s ∷ earlier) t all place item e =
    go (origin environment s place) (accounted environment s t all.0 place item e) (λ q stands. followed_back environment earlier s all.1 q item stands)
  where
    go : (o : Origin) → Accounts environment s t o item →
        ((q : Place) → found_at s q ≡ Some item → IsSource environment earlier s (followed environment earlier q).carried (followed environment earlier q).origin item) →
        IsSource environment (s ∷ earlier) t (going_back o (λ q. followed environment earlier q)).carried (going_back o (λ q. followed environment earlier q)).origin item
    go (Carried q) h later =
        one_more_carried environment earlier s t (followed environment earlier q).carried (followed environment earlier q).origin item (later q h)
    go (Read n) h later = (omega arith, h)
    go Made h later = (omega arith, h)

pub followed_in_session : (limit : ℕ) (width : Width) (commands : List Command) (replies : List Reply) (p : PlainSession) → Run commands replies (new_session limit width) p →
    (place : Place) (item : Item) → found_at p.last place ≡ Some item →
    IsSource (over p.width p.tape) p.earlier p.last (followed (over p.width p.tape) p.earlier place).carried (followed (over p.width p.tape) p.earlier place).origin item
followed_in_session limit width commands replies p run place item e =
    followed_back (over p.width p.tape) p.earlier p.last (run_trail commands replies (new_session limit width) p (new_trail limit width) run).steps place item e
