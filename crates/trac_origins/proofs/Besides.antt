-- Lists of origins beside a state, in a relation of origins and items, and how scanning keeps it.
use Rattle.std.proofs.Common.{◌≡◌, ℕ, suc, ◌+◌, List, [], ◌∷◌, length, take, drop, get_or, refl, ap, subst, ◌∙◌, arith}
use Rattle.std.specs.Prelude.{Option, None, Some, ◌==◌, option_and_then, option_map, slice_get}
use Rattle.std.specs.FinMap as finite
use Rattle.std.proofs.lemmas.Bool.{cond-true, cond-false, eq-eqb, ne_eqb}
use Rattle.std.proofs.lemmas.List.{get_or_at}
use Rattle.trac_rules.specs.declared.item.Item.{Item}
use Rattle.trac_rules.specs.declared.item.Item.TheVariants.{Byte}
use Rattle.trac_rules.specs.declared.scan.Front.{Front}
use Rattle.trac_rules.specs.declared.scan.Front.TheVariants.{Nothing, Opening, Layout, Comma, ActiveCall, NeutralCall, Sharp, Closing, Plain}
use Rattle.trac_rules.specs.Blocks.{block_at}
use Rattle.trac_rules.specs.Bytes.{idle_program}
use Rattle.trac_rules.specs.Effect.{argument}
use Rattle.trac_rules.specs.Form.{Form, all_items}
use Rattle.trac_rules.specs.Matching.{match_of, protected_up_to}
use Rattle.trac_rules.specs.Scanning.{Call, Scanned, Moves, Calls, closing_in, comma_in, deleted, gathered_in, protect, scan_at}
use Rattle.trac_rules.specs.State.{Frame, State}
use Rattle.trac_origins.specs.Places.{Place, InActive, InBase, InArgument, InForm, InHeld, InOutput, Origin, Carried, Made, byte_at, found_at, held_form, items_of, numbered, arguments_of}
use Rattle.trac_origins.specs.Lists.{FrameOrigins, Origins, all_kept, frame_kept, frames_kept, kept, texts_kept}
use Rattle.trac_origins.specs.Moving.{EndedOrigins, comma_from, deleted_from, ended_from, gather_from, moved_from, protect_from}
use Rattle.trac_origins.proofs.Zips.{Zip, ends, beside, appended, dropped, each, number_within, of_more, taken}

module _ (R : Origin → Item → Type 0) where
  -- of a byte
  abbrev pub OfByte : Origin → ℕ → Type 0
  OfByte o b = R o (Byte b)

  -- of the bytes of a text
  abbrev pub Text : List Origin → List ℕ → Type 0
  Text os text = Zip OfByte os text

  -- of a begun function
  pub record FrameBeside (o : FrameOrigins) (f : Frame) : Type 0 where
    pub arguments : Zip Text o.arguments f.arguments
    pub gathered : Text o.gathered f.gathered

  -- of a state
  pub record StateBeside (o : Origins) (s : State) : Type 0 where
    pub active : Text o.active s.active
    pub base : Text o.base s.base
    pub frames : Zip FrameBeside o.frames s.frames
    pub output : Text o.output s.output
    pub forms : (name : List ℕ) (form : Form) → finite.get s.forms name ≡ Some form → Zip R (o.forms name) (all_items form)
    pub blocks : (number : ℕ) (name : List ℕ) (form : Form) → held_form name (block_at number s.blocks) ≡ Some form → Zip R (o.blocks number name) (all_items form)

  -- of a function that is performed
  pub record EndedBeside (o : EndedOrigins) (call : Call) : Type 0 where
    pub arguments : Zip Text o.arguments call.arguments
    pub others : StateBeside o.others call.state

  -- ---- changes of a state

  -- another active text
  pub with_active : (os : List Origin) (text : List ℕ) → Text os text → (o : Origins) (s : State) → StateBeside o s → StateBeside (record o { active = os }) (record s { active = text })
  with_active os text t o s b = record { active = t; base = b.base; frames = b.frames; output = b.output; forms = b.forms; blocks = b.blocks }

  -- other functions
  with_frames : (gs : List FrameOrigins) (fs : List Frame) → Zip FrameBeside gs fs → (o : Origins) (s : State) → StateBeside o s → StateBeside (record o { frames = gs }) (record s { frames = fs })
  with_frames gs fs f o s b = record { active = b.active; base = b.base; frames = f; output = b.output; forms = b.forms; blocks = b.blocks }

  pub gathered_beside : {gs : List FrameOrigins} {fs : List Frame} → Zip FrameBeside gs fs → (os : List Origin) (text : List ℕ) → Text os text → (o : Origins) (s : State) → StateBeside o s →
      StateBeside (gather_from gs os o) (gathered_in fs text s)
  gathered_beside ends os text t o s b = record { active = b.active; base = appended b.base t; frames = b.frames; output = b.output; forms = b.forms; blocks = b.blocks }
  gathered_beside (beside f h) os text t o s b = with_frames _ _ (beside (record { arguments = f.arguments; gathered = appended f.gathered t }) h) o s b

  deleted_beside : (n : ℕ) (o : Origins) (s : State) → StateBeside o s → StateBeside (deleted_from n o) (deleted n s)
  deleted_beside n o s b = with_active _ _ (dropped n b.active) o s b

  -- ---- the rules

  comma_beside : {gs : List FrameOrigins} {fs : List Frame} → Zip FrameBeside gs fs → (o : Origins) (s : State) → StateBeside o s → StateBeside (comma_from gs o) (comma_in fs s)
  comma_beside ends o s b = b
  comma_beside (beside f h) o s b =
      with_frames _ _ (beside (record { arguments = appended f.arguments (beside f.gathered ends); gathered = ends }) h) o s b

  -- a `)`, which ends a function or not
  abbrev ClosedBeside : List FrameOrigins → Origins → Scanned → Type 0
  ClosedBeside gs o (Moves t) = StateBeside o t
  ClosedBeside gs o (Calls call) = EndedBeside (ended_from gs o) call

  closing_beside : {gs : List FrameOrigins} {fs : List Frame} → Zip FrameBeside gs fs → (o : Origins) (s : State) → StateBeside o s → ClosedBeside gs o (closing_in fs s)
  closing_beside ends o s b = b
  closing_beside (beside f h) o s b = record { arguments = appended f.arguments (beside f.gathered ends); others = with_frames _ _ h o s b }

  protected_beside : (at : Option ℕ) (os : List Origin) (text : List ℕ) → Text os text → (o : Origins) (s : State) → StateBeside o s →
      StateBeside (protect_from at os o) (protect (protected_up_to at text) s)
  protected_beside None os text t o s b = gathered_beside b.frames os text t _ _ (with_active [] [] ends o s b)
  protected_beside (Some k) os text t o s b = gathered_beside b.frames _ _ (taken k t) _ _ (with_active _ _ (dropped (k + 1) t) o s b)

  -- what scanning gives
  abbrev pub ScanBeside : Front → State → Origins → Scanned → Type 0
  ScanBeside front s o (Moves t) = StateBeside (moved_from front s o) t
  ScanBeside front s o (Calls call) = EndedBeside (ended_from o.frames (deleted_from 1 o)) call

  pub scan_beside : (front : Front) (s : State) (o : Origins) → StateBeside o s → (front ≡ Nothing → (b : ℕ) → R Made (Byte b)) → ScanBeside front s o (scan_at front s)
  scan_beside front s o b made = go front made
    where
      first : StateBeside (gather_from o.frames (take 1 o.active) (deleted_from 1 o)) (gathered_in s.frames (take 1 s.active) (deleted 1 s))
      first = gathered_beside b.frames _ _ (taken 1 b.active) _ _ (deleted_beside 1 o s b)

      as_closed : (x : Scanned) → ClosedBeside o.frames (deleted_from 1 o) x → ScanBeside Closing s o x
      as_closed (Moves t) h = h
      as_closed (Calls call) h = h

      go : (f : Front) → (f ≡ Nothing → (c : ℕ) → R Made (Byte c)) → ScanBeside f s o (scan_at f s)
      go Nothing makes = record {
        active = each OfByte (λ i. Made) idle_program (λ i c e. makes refl c);
        base = ends;
        frames = ends;
        output = b.output;
        forms = b.forms;
        blocks = b.blocks;
      }
      go Opening makes = protected_beside (match_of (drop 1 s.active)) (drop 1 o.active) (drop 1 s.active) (dropped 1 b.active) o s b
      go Layout makes = deleted_beside 1 o s b
      go Comma makes = comma_beside b.frames _ _ (deleted_beside 1 o s b)
      go ActiveCall makes = with_frames _ _ (beside (record { arguments = ends; gathered = ends }) b.frames) _ _ (deleted_beside 2 o s b)
      go NeutralCall makes = with_frames _ _ (beside (record { arguments = ends; gathered = ends }) b.frames) _ _ (deleted_beside 3 o s b)
      go Sharp makes = first
      go Closing makes = as_closed (closing_in s.frames (deleted 1 s)) (closing_beside b.frames _ _ (deleted_beside 1 o s b))
      go Plain makes = first

  -- ---- a state in which nothing has moved

  texts_beside : (place : ℕ → ℕ → Place) (texts : List (List ℕ)) → ((k i b : ℕ) → slice_get (get_or texts k []) i ≡ Some b → R (Carried (place k i)) (Byte b)) →
      Zip Text (texts_kept place texts) texts
  texts_beside place [] h = ends
  texts_beside place (text ∷ texts) h =
      beside (each OfByte (λ i. Carried (place 0 i)) text (λ i b e. h 0 i b e)) (texts_beside (λ k. place (suc k)) texts (λ k i b e. h (suc k) i b e))

  frame_beside : (n : ℕ) (f : Frame) → ((k i b : ℕ) → slice_get (argument k (arguments_of f)) i ≡ Some b → R (Carried (InArgument n k i)) (Byte b)) → FrameBeside (frame_kept n f) f
  frame_beside n f h = record {
    arguments = texts_beside (InArgument n) f.arguments (λ k i b e. h k i b (of_more f.arguments (f.gathered ∷ []) k i b e));
    gathered = each OfByte (λ i. Carried (InArgument n (length f.arguments) i)) f.gathered
        (λ i b e. h (length f.arguments) i b (ap (λ (text : List ℕ). slice_get text i) (get_or_at f.arguments f.gathered [] [] (length f.arguments) refl) ∙ e));
  }

  frames_beside : (fs : List Frame) → ((n k i b : ℕ) (f : Frame) → numbered n fs ≡ Some f → slice_get (argument k (arguments_of f)) i ≡ Some b → R (Carried (InArgument n k i)) (Byte b)) →
      Zip FrameBeside (frames_kept fs) fs
  frames_beside [] h = ends
  frames_beside (f ∷ fs) h =
      beside
      (frame_beside (length fs) f (λ k i b e. h (length fs) k i b f (cond-true (length fs == length fs) (Some f) (numbered (length fs) fs) (eq-eqb (length fs) (length fs) refl)) e))
      (frames_beside fs (λ n k i b g there e. h n k i b g (later n g there) e))
    where
      later : (n : ℕ) (g : Frame) → numbered n fs ≡ Some g → numbered n (f ∷ fs) ≡ Some g
      later n g there =
          let within = number_within n fs g there in
          cond-false (n == length fs) (Some f) (numbered n fs) (ne_eqb n (length fs) (λ e. absurd (omega (arith, e, within)))) ∙ there

  pub kept_beside : (s : State) → ((place : Place) (item : Item) → found_at s place ≡ Some item → R (Carried place) item) → StateBeside (all_kept s) s
  kept_beside s h = record {
    active = each OfByte (λ i. Carried (InActive i)) s.active (λ i b e. h (InActive i) (Byte b) (ap (option_map Byte) e));
    base = each OfByte (λ i. Carried (InBase i)) s.base (λ i b e. h (InBase i) (Byte b) (ap (option_map Byte) e));
    frames = frames_beside s.frames (λ n k i b f there e. h (InArgument n k i) (Byte b) (in_frame n k i b f there e));
    output = each OfByte (λ i. Carried (InOutput i)) s.output (λ i b e. h (InOutput i) (Byte b) (ap (option_map Byte) e));
    forms = λ name form there. subst
        (λ (found : Option Form). Zip R (kept (InForm name) (items_of (finite.get s.forms name))) (items_of found)) there
        (each R (λ i. Carried (InForm name i)) (items_of (finite.get s.forms name)) (λ i item e. h (InForm name i) item e));
    blocks = λ number name form there. subst
        (λ (found : Option Form). Zip R (kept (InHeld number name) (items_of (held_form name (block_at number s.blocks)))) (items_of found)) there
        (each R (λ i. Carried (InHeld number name i)) (items_of (held_form name (block_at number s.blocks))) (λ i item e. h (InHeld number name i) item e));
  }
    where
      in_frame : (n k i b : ℕ) (f : Frame) → numbered n s.frames ≡ Some f → slice_get (argument k (arguments_of f)) i ≡ Some b → found_at s (InArgument n k i) ≡ Some (Byte b)
      in_frame n k i b f there e =
          ap (option_and_then (λ (g : Frame). byte_at i (argument k (arguments_of g)))) there ∙ ap (option_map Byte) e
