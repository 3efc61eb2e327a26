-- A machine after a call that is planned: it shows the state that the rules say.
use Rattle.std.proofs.Common.{◌≡◌, ℕ, ◌+◌, ◌<◌, ◌≤◌, Bool, List, [], ◌∷◌, ◌++◌, length, drop, refl, sym, ap, ◌∙◌, subst, arith}
use Rattle.std.specs.Option.{unwrap_or}
use Rattle.std.proofs.lemmas.List.{length-drop}
use Rattle.trac_gap.specs.Window.{Window}
use Rattle.trac_rules.specs.declared.kind.Kind.{Kind}
use Rattle.trac_rules.specs.declared.limit.TheConstants.{TEXT_LIMIT, OUTPUT_LIMIT}
use Rattle.trac_rules.specs.declared.scan.Front.TheVariants.{Nothing, Closing}
use Rattle.trac_rules.specs.declared.width.Width.{Width}
use Rattle.trac_rules.specs.Limits.{argument_bytes, text_bytes}
use Rattle.trac_rules.specs.Performing.{placed}
use Rattle.trac_rules.specs.Records.{Texts, state_of}
use Rattle.trac_rules.specs.Scanning.{closing_in, deleted, front_of, scan}
use Rattle.trac_rules.specs.State.{Frame, State}
use Rattle.trac_forms.specs.Stored.{Stored, storage_in}
use Rattle.trac_prims.specs.declared.effect.Made.{Made}
use Rattle.trac_text.specs.Holding.{BeginsFirst, ShownTexts, bytes_in, texts_by}
use Rattle.trac_storage.proofs.Judged.{limits_kept}
use Rattle.trac_prims.specs.declared.effect.Deed.{Deed}
use Rattle.trac_text.specs.declared.calls.Beginning.{Beginning}
use Rattle.trac_step.specs.Calling.{state_ended}
use Rattle.trac_step.specs.Layout.{Shown, rest_in, shown_by}
use Rattle.trac_step.specs.Ready.{CanEnd}
use Rattle.trac_step.specs.Room.{IsNoLess}
use Rattle.trac_step.proofs.Lifting.{placed_lifts}
use Rattle.trac_step.proofs.Moving.{placed_longer}
use Rattle.trac_step.proofs.Scans.{scan_front}

pub some_active : (active : List ℕ) → front_of active ≡ Closing → 0 < length active
some_active [] e = absurd (let other : Nothing ≡ Closing = e in cc)
some_active (b ∷ rest) e = omega arith

-- the texts without the innermost function and its `)`
abbrev pub without_call : Texts → Texts
without_call t = record t { active = drop 1 t.active; frames = drop 1 t.frames }

-- the same of a state
abbrev without : State → State
without s = record (deleted 1 s) { frames = drop 1 s.frames }

-- a state with all that is planned, but for the value, whose forms and blocks are changed already
abbrev with_planned : {A : Type 0} → Deed → Made A → State → State
with_planned deed made s = record s {
  meta = unwrap_or deed.meta s.meta;
  trace = unwrap_or deed.trace s.trace;
  position = s.position + deed.read;
  output = s.output ++ made.print.items;
}

module _ {A : Type 0} (beginning : Beginning) (deed : Deed) (made : Made A) where
  -- the function goes, all else that is planned is done, and the value is put where it goes
  ended_is : (s : State) → front_of s.active ≡ Closing → BeginsFirst s.frames s.base beginning →
      state_ended deed made (scan s) ≡ placed beginning.kind deed.forced made.value.items (with_planned deed made (without s))
  ended_is s front begins = ap (state_ended deed made) (scan_front s Closing front) ∙ by_frames s.frames begins
    where
      by_frames : (fs : List Frame) → BeginsFirst fs s.base beginning →
          state_ended deed made (closing_in fs (deleted 1 s)) ≡ placed beginning.kind deed.forced made.value.items (with_planned deed made (record (deleted 1 s) { frames = drop 1 fs }))
      by_frames [] h = absurd h
      by_frames (f ∷ fs) h = ap (λ (kind : Kind). placed kind deed.forced made.value.items (with_planned deed made (record (deleted 1 s) { frames = fs }))) (sym h.0)

  fewer_bytes : (fs : List Frame) → argument_bytes (drop 1 fs) ≤ argument_bytes fs
  fewer_bytes [] = omega arith
  fewer_bytes (f ∷ fs) = omega arith

  module _ {texts : ShownTexts} {store : Stored} {meta : ℕ} {trace : Bool} {position : ℕ} {output : Window ℕ} {width : Width} {m : Shown} (view : shown_by texts store meta trace position output width ≡ m)
      (can : CanEnd m made beginning deed) {mid : ShownTexts} (mid_is : mid ≡ record texts { texts = without_call texts.texts }) where
    -- the value fits
    pub value_room : (value : List ℕ) → value ≡ made.value.items → bytes_in mid.texts + length value ≤ mid.text_room
    value_room value is =
        omega (
          arith,
          can.text_room,
          ap (λ (n : Shown). text_bytes n.state) view,
          ap (λ (n : Shown). n.text_room) view,
          ap (λ (x : ShownTexts). bytes_in x.texts) mid_is,
          ap (λ (x : ShownTexts). x.text_room) mid_is,
          fewer_bytes texts.texts.frames,
          length-drop 1 texts.texts.active,
          ap (λ (xs : List ℕ). length xs) is,
        )

    pub value_limit : (value : List ℕ) → value ≡ made.value.items → bytes_in mid.texts + length value ≤ TEXT_LIMIT
    value_limit value is =
        omega (
          arith,
          (limits_kept (state_ended deed made (scan m.state)) can.proper.texts).text,
          ap text_bytes (ended_is m.state can.front can.begins),
          (placed_longer beginning.kind deed.forced made.value.items (with_planned deed made (without m.state))).bytes,
          ap (λ (n : Shown). text_bytes (without n.state)) view,
          ap (λ (x : ShownTexts). bytes_in x.texts) mid_is,
          ap (λ (xs : List ℕ). length xs) is,
        )

    module _ {new : ShownTexts} {value print : List ℕ} {meta_now : ℕ} {trace_now : Bool} (printed : Window ℕ)
        (new_is : new ≡ record mid { texts = texts_by (placed beginning.kind deed.forced value) mid.texts }) (meta_is : meta_now ≡ unwrap_or deed.meta meta) (trace_is : trace_now ≡ unwrap_or deed.trace trace)
        (items : printed.items ≡ output.items ++ print) (value_is : value ≡ made.value.items) (print_is : print ≡ made.print.items) where
      pub ended : state_of new.texts (storage_in store) (rest_in meta_now trace_now (position + deed.read) printed) ≡ state_ended deed made (scan m.state)
      ended =
          let printed_is : printed.items ≡ output.items ++ made.print.items = items ∙ ap (λ (xs : List ℕ). output.items ++ xs) print_is in
          ap (λ (x : ShownTexts). state_of x.texts (storage_in store) (rest_in meta_now trace_now (position + deed.read) printed)) new_is
          ∙ placed_lifts beginning.kind deed.forced value mid.texts (storage_in store) (rest_in meta_now trace_now (position + deed.read) printed)
          ∙ (λ i. placed beginning.kind deed.forced (value_is i) (state_of (mid_is i).texts (storage_in store) (record { meta = meta_is i; trace = trace_is i; position = position + deed.read; output = printed_is i })))
          ∙ ap (λ (n : Shown). placed beginning.kind deed.forced made.value.items (with_planned deed made (without n.state))) view
          ∙ sym (ended_is m.state can.front can.begins)

      pub printed_within : length printed.items ≤ OUTPUT_LIMIT
      printed_within = omega (arith, (limits_kept (state_ended deed made (scan m.state)) can.proper.texts).output, ap (λ (s : State). length s.output) ended)

      pub no_less_ended : output.capacity ≤ printed.capacity → IsNoLess m (shown_by new store meta_now trace_now (position + deed.read) printed width)
      no_less_ended grows =
          subst (λ (n : Shown). IsNoLess n (shown_by new store meta_now trace_now (position + deed.read) printed width)) view (record {
            width = refl;
            text = omega (arith, ap (λ (x : ShownTexts). x.text_room) new_is, ap (λ (x : ShownTexts). x.text_room) mid_is);
            marks = omega (arith, ap (λ (x : ShownTexts). x.mark_room) new_is, ap (λ (x : ShownTexts). x.mark_room) mid_is);
            output = grows;
            names = λ name h. h;
            recent = λ name h. h;
          })
