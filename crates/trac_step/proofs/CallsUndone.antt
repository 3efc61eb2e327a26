-- Going back over a call: the machine shows the state that its record restores.
use Rattle.std.proofs.Common.{◌≡◌, ℕ, ◌-◌, ◌≤◌, Bool, List, ◌∷◌, length, take, refl, sym, ap, ◌∙◌, subst, arith}
use Rattle.std.specs.Prelude.{Option, Some, None, IsSomeAnd, nat_le, ◌&&◌, option_and_then}
use Rattle.std.specs.Option.{unwrap_or}
use Rattle.std.proofs.lemmas.Bool.{and_parts, leb-true}
use Rattle.std.proofs.lemmas.List.{length-take-le}
use Rattle.trac_gap.specs.Window.{Window}
use Rattle.trac_rules.specs.declared.kind.Kind.{Kind}
use Rattle.trac_rules.specs.declared.scan.Front.TheVariants.{Closing}
use Rattle.trac_rules.specs.declared.width.Width.{Width}
use Rattle.trac_rules.specs.Limits.{texts_fit}
use Rattle.trac_rules.specs.Proper.{IsProper, IsProperStorage}
use Rattle.trac_rules.specs.Records.{CallRecord, Rest, Texts, begun_again, put_together, rest_before, rest_of, restored_call, texts_before, texts_in, value_taken}
use Rattle.trac_rules.specs.Records as rules
use Rattle.trac_rules.specs.Scanning.{front_of, scan}
use Rattle.trac_rules.specs.State.{Frame, State, Storage, storage_of}
use Rattle.trac_rules.specs.Undone.{Nothing, Undone, storage_before}
use Rattle.trac_rules.proofs.FurtherOn.{put_together_parts}
use Rattle.trac_forms.specs.Stored.{KnowsAll, Stored, storage_in}
use Rattle.trac_journal.specs.declared.called.Called.{Called}
use Rattle.trac_journal.specs.Told.{record_with}
use Rattle.trac_text.specs.Holding.{CanHold, ShownTexts}
use Rattle.trac_text.specs.Pieces.{Arguments, all_texts, frame_in}
use Rattle.trac_text.proofs.CallsBack.{begins_again, with_function}
use Rattle.trac_text.proofs.ScanningBack.{then_is}
use Rattle.trac_storage.proofs.Judged.{limits_kept}
use Rattle.trac_step.specs.Calling.{arguments_in}
use Rattle.trac_step.specs.Layout.{Shown, rest_in, shown_by}
use Rattle.trac_step.specs.Room.{HasRoom}
use Rattle.trac_step.specs.Undoing.{CanRestore, CanShow, IsBegunAgain, IsRestored}
use Rattle.trac_step.proofs.Calls.{scan_call}

-- ---- the state before the call

-- the three parts of a state are there, and a machine can show them
record CanShowParts (call : CallRecord) (m : Shown) (t : State) : Type 0 where
  texts : Texts
  storage : Storage
  rest : Rest
  texts_are : texts_before call (texts_in t) ≡ Some texts
  storage_is : storage_before call.arguments call.undone (storage_of t) ≡ Some storage
  rest_is : rest_before call (rest_of t) ≡ Some rest
  room : HasRoom m (rules.state_of texts storage rest)
  proper : IsProper (rules.state_of texts storage rest)

can_show_parts : (call : CallRecord) (m : Shown) (t : State) → CanShow m (restored_call call t) → CanShowParts call m t
can_show_parts call m t h =
    by_parts (texts_before call (texts_in t)) (storage_before call.arguments call.undone (storage_of t)) (rest_before call (rest_of t)) refl refl refl h
  where
    by_parts : (texts : Option Texts) (storage : Option Storage) (rest : Option Rest) → texts_before call (texts_in t) ≡ texts →
        storage_before call.arguments call.undone (storage_of t) ≡ storage → rest_before call (rest_of t) ≡ rest → CanShow m (put_together texts storage rest) → CanShowParts call m t
    by_parts None storage rest x y z h = absurd h
    by_parts (Some texts) None rest x y z h = absurd h
    by_parts (Some texts) (Some storage) None x y z h = absurd h
    by_parts (Some texts) (Some storage) (Some rest) x y z h = record {
      texts = texts;
      storage = storage;
      rest = rest;
      texts_are = x;
      storage_is = y;
      rest_is = z;
      room = h.0;
      proper = h.1;
    }

-- all else is got back
record IsRestBack (called : Called) (before rest : Rest) : Type 0 where
  read : called.read ≤ before.position
  printed : called.printed ≤ length before.output
  same : record { meta = unwrap_or called.meta before.meta; trace = called.trace; position = before.position - called.read; output = take (length before.output - called.printed) before.output } ≡ rest

rest_back : (called : Called) (a : Arguments) (before rest : Rest) → rest_before (record_with called (all_texts a) Nothing) before ≡ Some rest → IsRestBack called before rest
rest_back called a before rest h =
    let is = then_is (nat_le called.read before.position && nat_le called.printed (length before.output)) _ rest h in
    let both = and_parts (nat_le called.read before.position) (nat_le called.printed (length before.output)) is.0 in
    record { read = leb-true called.read before.position both.0; printed = leb-true called.printed (length before.output) both.1; same = is.1 }

-- the function of the call is the innermost one of texts to which one goes back
again_is : (kind : Kind) (a : Arguments) (o : Option Texts) (t : Texts) → option_and_then (begun_again kind (all_texts a)) o ≡ Some t → (u : Texts) × (with_function kind a u ≡ t)
again_is kind a None t h = absurd (let none : None ≡ Some t = h in cc)
again_is kind a (Some u) t h = (u, let both : Some (with_function kind a u) ≡ Some t = sym (begins_again kind a u) ∙ h in let same : with_function kind a u ≡ t = cc in same)

module _ {texts : ShownTexts} {store : Stored} {meta : ℕ} {trace : Bool} {position : ℕ} {output : Window ℕ} {width : Width} {m : Shown} (view : shown_by texts store meta trace position output width ≡ m)
    (called : Called) (a : Arguments) (h : CanShow m (restored_call (record_with called (all_texts a) Nothing) m.state)) where
  abbrev call : CallRecord
  call = record_with called (all_texts a) Nothing

  abbrev old : Shown
  old = shown_by texts store meta trace position output width

  there : CanShowParts call old old.state
  there = can_show_parts call old old.state (subst (λ (n : Shown). CanShow n (restored_call call n.state)) (sym view) h)

  rest : IsRestBack called (rest_in meta trace position output) there.rest
  rest = rest_back called a (rest_in meta trace position output) there.rest there.rest_is

  pub read_within : called.read ≤ position
  read_within = rest.read

  pub printed_within : called.printed ≤ length output.items
  printed_within = rest.printed

  -- there is room for its texts
  pub can_begin_texts : IsSomeAnd (option_and_then (begun_again called.kind (all_texts a)) (value_taken called.scanned called.value texts.texts)) (λ t. CanHold texts t)
  can_begin_texts =
      let kept = limits_kept (rules.state_of there.texts there.storage there.rest) there.proper.texts in
      let can : CanHold texts there.texts = record { text_room = there.room.text; mark_room = there.room.marks; text_limit = kept.text; mark_limit = kept.marked } in
      subst (λ (o : Option Texts). IsSomeAnd o (λ t. CanHold texts t)) (sym there.texts_are) can

  module _ {new : ShownTexts} {meta_now : ℕ} {printed : Window ℕ} (back : option_and_then (begun_again called.kind (all_texts a)) (value_taken called.scanned called.value texts.texts) ≡ Some new.texts)
      (rooms : new ≡ record texts { texts = new.texts }) (meta_is : meta_now ≡ unwrap_or called.meta meta) (n : ℕ) (count : n ≡ length output.items)
      (cut : printed ≡ record output { items = take (n - called.printed) output.items }) where
    abbrev now : Shown
    now = shown_by new store meta_now called.trace (position - called.read) printed width

    output_is : printed ≡ record output { items = take (length output.items - called.printed) output.items }
    output_is = cut ∙ ap (λ (n : ℕ). record output { items = take (n - called.printed) output.items }) count

    rest_now : there.rest ≡ rest_in meta_now called.trace (position - called.read) printed
    rest_now = sym rest.same ∙ (λ i. record { meta = sym meta_is i; trace = called.trace; position = position - called.read; output = (sym output_is i).items })

    restores : restored_call call m.state ≡ Some now.state
    restores =
        ap (λ (n : Shown). restored_call call n.state) (sym view)
        ∙ (λ i. put_together (back i) (Some (storage_in store)) (there.rest_is i))
        ∙ ap (λ (r : Rest). Some (rules.state_of new.texts (storage_in store) r)) rest_now

    pub shorter : length printed.items ≤ length output.items
    shorter = omega (arith, ap (λ (w : Window ℕ). length w.items) output_is, length-take-le (length output.items - called.printed) output.items (omega arith))

    pub stands_again : IsBegunAgain called (all_texts a) m now
    stands_again =
        let again = again_is called.kind a (value_taken called.scanned called.value texts.texts) new.texts back in
        let front : front_of now.state.active ≡ Closing = ap (λ (t : Texts). front_of t.active) (sym again.1) in
        let frames : now.state.frames ≡ frame_in (called.kind, a) ∷ again.0.frames = ap (λ (t : Texts). t.frames) (sym again.1) in
        record {
          state = restores;
          others =
              (λ i. record now { text_room = (rooms i).text_room; mark_room = (rooms i).mark_room; output_room = (output_is i).capacity })
              ∙ ap (λ (n : Shown). let kept : Shown = record n { state = now.state } in kept) view;
          front = front;
          inside = omega (arith, ap (λ (fs : List Frame). length fs) frames);
          given = ap arguments_in (scan_call now.state (frame_in (called.kind, a)) again.0.frames front frames);
        }

-- ---- forms and blocks are got back after all else

-- limits on texts see no forms and blocks
texts_fit_too : (texts : Texts) (storage other : Storage) (rest : Rest) → texts_fit (rules.state_of texts storage rest) ≡ texts_fit (rules.state_of texts other rest)
unfolding texts_fit
texts_fit_too given storage other others = refl

module _ (called : Called) (texts : List (List ℕ)) (undone : Undone) (m : Shown) (proper : IsProper m.state) (room : HasRoom m m.state)
    (h : CanShow m (restored_call (record_with called texts undone) m.state)) where
  -- the same call, had it destroyed nothing of forms and blocks
  abbrev harmless : CallRecord
  harmless = record_with called texts Nothing

  all_there : CanShowParts (record_with called texts undone) m m.state
  all_there = can_show_parts (record_with called texts undone) m m.state h

  pub can_begin : CanShow m (restored_call harmless m.state)
  can_begin =
      let t = all_there in
      subst (CanShow m) (sym (λ i. put_together (t.texts_are i) (Some (storage_of m.state)) (t.rest_is i))) (
        record { text = t.room.text; marks = t.room.marks; output = t.room.output; names = room.names },
        record { texts = texts_fit_too t.texts (storage_of m.state) t.storage t.rest ∙ t.proper.texts; storage = proper.storage },
      )

  module _ (n : Shown) (begun : IsBegunAgain called texts m n) where
    parts : (texts_before harmless (texts_in m.state) ≡ Some (texts_in n.state)) × (Some (storage_of m.state) ≡ Some (storage_of n.state)) × (rest_before harmless (rest_of m.state) ≡ Some (rest_of n.state))
    parts = put_together_parts (texts_before harmless (texts_in m.state)) (Some (storage_of m.state)) (rest_before harmless (rest_of m.state)) n.state begun.state

    kept : storage_of n.state ≡ storage_of m.state
    kept = let both : Some (storage_of m.state) ≡ Some (storage_of n.state) = parts.1 in let same : storage_of n.state ≡ storage_of m.state = cc in same

    storage_same : storage_before (arguments_in (scan n.state)) undone (storage_of n.state) ≡ storage_before texts undone (storage_of m.state)
    storage_same i = storage_before (begun.given i) undone (kept i)

    pub can_restore : CanRestore undone n
    can_restore =
        let t = all_there in
        record {
          front = begun.front;
          inside = begun.inside;
          there =
              subst (λ (o : Option Storage). IsSomeAnd o (λ storage. KnowsAll n.known storage.forms × IsProperStorage storage)) (sym (storage_same ∙ t.storage_is))
              (subst (λ (x : Shown). KnowsAll x.known t.storage.forms) (sym begun.others) t.room.names, t.proper.storage);
        }

    module _ (k : Shown) (is : IsRestored undone n k) where
      pub all_back : restored_call (record_with called texts undone) m.state ≡ Some k.state
      all_back = (λ i. put_together (parts.0 i) ((sym storage_same ∙ is.back) i) (parts.2 i)) ∙ ap (λ (x : Shown). Some x.state) (sym is.others)
