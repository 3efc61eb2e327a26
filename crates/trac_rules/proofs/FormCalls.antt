-- Calls on forms, computed where the forms stand in a list.
use Rattle.std.proofs.Common.{◌≡◌, ℕ, Bool, true, false, cond, not, ◌&&◌, List, [], ◌∷◌, ◌++◌, length, drop, map, refl, sym, ap, ◌∙◌}
use Rattle.std.specs.Prelude.{Option, None, Some, Result, Ok, Err, nat_le, option_map}
use Rattle.std.specs.Cmp.Lexicographic.{slice_cmp, nat_list_cmp_total}
use Rattle.std.specs.FinMap as finite
use Rattle.std.specs.FinMap.Entries.{put, find, where_key, find-where_key}
use Rattle.std.specs.List.{flat_map}
use Rattle.std.specs.Ordering.{nat_cmp, eq_by_cmp, is_eq}
use Rattle.std.proofs.lemmas.Cmp.{eq_by_cmp_equiv, alike_right}
use Rattle.std.proofs.lemmas.List.{nil_from_length}
use Rattle.trac_rules.specs.declared.limit.TheConstants.{FORM_COUNT_LIMIT}
use Rattle.trac_rules.specs.declared.primitive.FormAction.{FormAction}
use Rattle.trac_rules.specs.declared.primitive.FormAction.TheVariants.{Define, Delete, DeleteAll, Segment, Restore, Read, ListNames, PrintForm, Call as CallForm}
use Rattle.trac_rules.specs.declared.primitive.Primitive.{Primitive}
use Rattle.trac_rules.specs.declared.primitive.Primitive.TheVariants.{Handle}
use Rattle.trac_rules.specs.declared.refusal.Refusal.{Refusal}
use Rattle.trac_rules.specs.declared.refusal.Refusal.TheVariants.{TooLong}
use Rattle.trac_rules.specs.Effect.{Effect, argument, gives, leaves}
use Rattle.trac_rules.specs.Filling.{called}
use Rattle.trac_rules.specs.Form.{Form, all_items, defined, pointed_at}
use Rattle.trac_rules.specs.Handling.{default_argument, gives_piece, handled, keeping, on_form, piece_read, putting, without}
use Rattle.trac_rules.specs.Limits.{form_fits, may_be_put}
use Rattle.trac_rules.specs.Performing.{effect_of, primitive_of}
use Rattle.trac_rules.specs.Pieces.{Piece}
use Rattle.trac_rules.specs.Rows.{Named, Does, DoesIn, Forces, ForcesIn, with_forms}
use Rattle.trac_rules.specs.Segmenting.{segmented}
use Rattle.trac_rules.specs.Showing.{shown}
use Rattle.trac_rules.specs.declared.width.Width.{Width}
use Rattle.trac_rules.specs.declared.width.Width.TheVariants.{W64, W128}
use Rattle.trac_rules.specs.Session.{over}
use Rattle.trac_rules.specs.State.{Forms, State, Storage, Tape, storage_of}
use Rattle.trac_rules.proofs.NamedForms.{only_equal_tie}

-- ---- forms in a list

abbrev pub held : Named → Forms
held es = finite.from_entries es

-- in the order of their names, of each name the first
abbrev pub in_order : Named → Named
in_order [] = []
in_order (e ∷ es) = put (slice_cmp nat_cmp) e.0 e.1 (in_order es)

no_entries : finite.entries (held []) ≡ []
no_entries = nil_from_length (finite.entries (held [])) (sym (finite.len-entries (held [])) ∙ finite.len-empty (slice_cmp nat_cmp) Form)

pub entries-held : (es : Named) → finite.entries (held es) ≡ in_order es
entries-held [] = no_entries
entries-held (e ∷ es) = finite.entries-insert nat_list_cmp_total (held es) e.0 e.1 ∙ ap (put (slice_cmp nat_cmp) e.0 e.1) (entries-held es)

pub same_held : (es fs : Named) → in_order es ≡ in_order fs → held es ≡ held fs
same_held es fs same = finite.same_entries_map (held es) (held fs) (entries-held es ∙ same ∙ sym (entries-held fs))

-- a list without the entries of a name
abbrev pub removed : List ℕ → Named → Named
removed name es = where_key (slice_cmp nat_cmp) (λ x. not (eq_by_cmp (slice_cmp nat_cmp) name x)) es

turned : {A : Type 0} (b : Bool) (x y : A) → cond (not b) x y ≡ cond b y x
turned true x y = refl
turned false x y = refl

-- a name that is taken is taken from the list
pub held-removed : (name : List ℕ) (es : Named) → finite.remove (held es) name ≡ held (removed name es)
held-removed name es =
    finite.same_map nat_list_cmp_total only_equal_tie (finite.remove (held es) name) (held (removed name es)) (λ q.
    finite.get-remove nat_list_cmp_total (held es) name q
    ∙ ap (cond (eq_by_cmp (slice_cmp nat_cmp) q name) None) (finite.get-from_entries nat_list_cmp_total es q)
    ∙ ap (λ b. cond b None (find (slice_cmp nat_cmp) q es)) ((eq_by_cmp_equiv nat_list_cmp_total).symm q name)
    ∙ sym (turned (eq_by_cmp (slice_cmp nat_cmp) name q) (find (slice_cmp nat_cmp) q es) None)
    ∙ sym (find-where_key (slice_cmp nat_cmp) (λ x. not (eq_by_cmp (slice_cmp nat_cmp) name x)) q (λ x t. ap (λ r. not (is_eq r)) (sym (alike_right nat_list_cmp_total q x name t))) es)
    ∙ sym (finite.get-from_entries nat_list_cmp_total (removed name es) q))

-- names taken from a list
abbrev pub all_removed : List (List ℕ) → Named → Named
all_removed [] es = es
all_removed (name ∷ names) es = all_removed names (removed name es)

pub without-held : (names : List (List ℕ)) (es : Named) → without names (held es) ≡ held (all_removed names es)
without-held [] es = refl
without-held (name ∷ names) es = ap (without names) (held-removed name es) ∙ without-held names (removed name es)

-- whether a form may be put into a list
abbrev pub judged : List ℕ → Form → Named → Bool
judged name form es = form_fits name form && nat_le (length (in_order ((name, form) ∷ es))) FORM_COUNT_LIMIT

pub may_be_put-held : (name : List ℕ) (form : Form) (es : Named) → may_be_put name form (held es) ≡ judged name form es
unfolding may_be_put
may_be_put-held name form es =
    ap (λ n. form_fits name form && nat_le n FORM_COUNT_LIMIT)
    (finite.len-entries (held ((name, form) ∷ es)) ∙ ap length (entries-held ((name, form) ∷ es)))

-- ---- rows

-- a storage with the forms of a list
abbrev holding : Named → Storage → Storage
holding es storage = keeping (held es) storage

-- what a call does with forms in a list: its value, whether that is forced, what it prints, and the forms after it
pub record Done : Type 0 where
  pub value : List ℕ
  pub forced : Bool
  pub printed : List ℕ
  pub after : Named

-- an empty value, and nothing else but these forms
abbrev pub leaving : Named → Done
leaving after = record { value = []; forced = false; printed = []; after = after }

-- the same as an outcome, on a storage
abbrev outcome_in : Done → Storage → Result Effect Refusal
outcome_in d storage = Ok (record (leaves (holding d.after storage)) { value = d.value; forced = d.forced; printed = d.printed })

-- a form is put into a list, unless a limit would be passed
abbrev pub put_in : List ℕ → Form → Named → Option Done
put_in name form es = cond (judged name form es) (Some (leaving ((name, form) ∷ es))) None

-- a form of a list is acted upon, where it is there
abbrev pub on_listed : Option Form → (Form → Option Done) → Named → Option Done
on_listed None act es = Some (leaving es)
on_listed (Some form) act es = act form

-- a piece is read, or the default argument given
abbrev pub read_in : Option Piece → List ℕ → List ℕ → Form → Named → Done
read_in (Some piece) other name form es = record (leaving ((name, pointed_at piece.place (all_items form)) ∷ es)) { value = piece.value }
read_in None other name form es = record (leaving es) { value = other; forced = true }

-- what a call on forms does with those of a list
abbrev pub on_list : FormAction → Width → List (List ℕ) → Named → Option Done
on_list Define width arguments es = put_in (argument 1 arguments) (defined (argument 2 arguments)) es
on_list Delete width arguments es = Some (leaving (all_removed (drop 1 arguments) es))
on_list DeleteAll width arguments es = Some (leaving [])
on_list ListNames width arguments es = Some (record (leaving es) { value = flat_map (λ name. argument 1 arguments ++ name) (map (λ e. e.0) (in_order es)) })
on_list Segment width arguments es =
    on_listed (find (slice_cmp nat_cmp) (argument 1 arguments) es) (λ form. put_in (argument 1 arguments) (segmented (drop 2 arguments) form) es) es
on_list Restore width arguments es =
    on_listed (find (slice_cmp nat_cmp) (argument 1 arguments) es) (λ form. Some (leaving ((argument 1 arguments, pointed_at 0 (all_items form)) ∷ es))) es
on_list CallForm width arguments es =
    on_listed (find (slice_cmp nat_cmp) (argument 1 arguments) es) (λ form. Some (record (leaving es) { value = called (drop 2 arguments) form })) es
on_list (Read reading) width arguments es =
    on_listed (find (slice_cmp nat_cmp) (argument 1 arguments) es)
    (λ form. Some (read_in (piece_read reading width arguments form) (default_argument reading arguments) (argument 1 arguments) form es)) es
on_list PrintForm width arguments es =
    on_listed (find (slice_cmp nat_cmp) (argument 1 arguments) es) (λ form. Some (record (leaving es) { printed = shown form })) es

module _ (d : Done) (storage : Storage) where
  made : (x : Done) → Some x ≡ Some d → outcome_in x storage ≡ outcome_in d storage
  made x is = let same : x ≡ d = cc in ap (λ (y : Done). outcome_in y storage) same

  is_put : (name : List ℕ) (form : Form) (es : Named) → put_in name form es ≡ Some d → putting name form (holding es storage) ≡ outcome_in d storage
  is_put name form es is =
      ap (λ b. cond b (Ok (leaves (holding ((name, form) ∷ es) storage))) (Err TooLong)) (may_be_put-held name form es) ∙ by_test (judged name form es) is
    where
      by_test : (b : Bool) → cond b (Some (leaving ((name, form) ∷ es))) None ≡ Some d → cond b (Ok (leaves (holding ((name, form) ∷ es) storage))) (Err TooLong) ≡ outcome_in d storage
      by_test true is = made (leaving ((name, form) ∷ es)) is
      by_test false is = absurd (cc)

  -- a form that is found in a list, or not
  is_found : (name : List ℕ) (es : Named) (act : Form → Option Done) (acts : Form → Result Effect Refusal) →
      ((form : Form) → act form ≡ Some d → acts form ≡ outcome_in d storage) → on_listed (find (slice_cmp nat_cmp) name es) act es ≡ Some d →
      on_form (finite.get (held es) name) acts (holding es storage) ≡ outcome_in d storage
  is_found name es act acts each is =
      ap (λ found. on_form found acts (holding es storage)) (finite.get-from_entries nat_list_cmp_total es name) ∙ by_form (find (slice_cmp nat_cmp) name es) is
    where
      by_form : (o : Option Form) → on_listed o act es ≡ Some d → on_form o acts (holding es storage) ≡ outcome_in d storage
      by_form None is = made (leaving es) is
      by_form (Some form) is = each form is

  is_read : (o : Option Piece) (other name : List ℕ) (form : Form) (es : Named) → Some (read_in o other name form es) ≡ Some d →
      (let outcome : Result Effect Refusal = Ok (gives_piece o other name form (holding es storage)) in outcome) ≡ outcome_in d storage
  is_read None other name form es is = made (read_in None other name form es) is
  is_read (Some piece) other name form es is = made (read_in (Some piece) other name form es) is

  is_handled : (action : FormAction) (width : Width) (arguments : List (List ℕ)) (es : Named) → on_list action width arguments es ≡ Some d →
      handled action width arguments (holding es storage) ≡ outcome_in d storage
  is_handled Define width arguments es is = is_put (argument 1 arguments) (defined (argument 2 arguments)) es is
  is_handled Delete width arguments es is =
      ap (λ forms. Ok (leaves (keeping forms storage))) (without-held (drop 1 arguments) es) ∙ made (leaving (all_removed (drop 1 arguments) es)) is
  is_handled DeleteAll width arguments es is = made (leaving []) is
  is_handled ListNames width arguments es is =
      ap (λ (entries : Named). Ok (gives (flat_map (λ name. argument 1 arguments ++ name) (map (λ e. e.0) entries)) (holding es storage))) (entries-held es) ∙ made _ is
  is_handled Segment width arguments es is =
      is_found (argument 1 arguments) es _ _ (λ form put. is_put (argument 1 arguments) (segmented (drop 2 arguments) form) es put) is
  is_handled Restore width arguments es is = is_found (argument 1 arguments) es _ _ (λ form pointed. made _ pointed) is
  is_handled CallForm width arguments es is = is_found (argument 1 arguments) es _ _ (λ form given. made _ given) is
  is_handled (Read reading) width arguments es is =
      is_found (argument 1 arguments) es _ _
      (λ form read. is_read (piece_read reading width arguments form) (default_argument reading arguments) (argument 1 arguments) form es read) is
  is_handled PrintForm width arguments es is = is_found (argument 1 arguments) es _ _ (λ form printed. made _ printed) is

-- a call on the forms of a list, these in order after it; none where it is no call on forms
abbrev pub performed_on : Primitive → Width → List (List ℕ) → Named → Option Done
performed_on (Handle action) width arguments es = option_map (λ (d : Done). let sorted : Done = record d { after = in_order d.after } in sorted) (on_list action width arguments es)
performed_on primitive width arguments es = None

-- such a call does the same in every state with these forms
module _ (width : Width) (arguments : List (List ℕ)) (before : Named) (value : List ℕ) (forced : Bool) (printed : List ℕ) (after : Named) (tape : Tape) (s : State) where
  abbrev wanted : Result Effect Refusal
  wanted = Ok (record (leaves (storage_of (with_forms after s))) { value = value; forced = forced; printed = printed })

  sorted_done : (d : Done) → (let sorted : Done = record d { after = in_order d.after } in sorted) ≡ record { value = value; forced = forced; printed = printed; after = in_order after } →
      outcome_in d (storage_of s) ≡ wanted
  sorted_done d is =
      λ i. Ok (record (leaves (keeping (same_held d.after after (ap (λ (x : Done). x.after) is) i) (storage_of s))) { value = (is i).value; forced = (is i).forced; printed = (is i).printed })

  pub row : performed_on (primitive_of (argument 0 arguments)) width arguments before ≡ Some (record { value = value; forced = forced; printed = printed; after = in_order after }) →
      effect_of (primitive_of (argument 0 arguments)) (over width tape) arguments (with_forms before s) ≡ wanted
  row is = by_primitive (primitive_of (argument 0 arguments)) is
    where
      by_outcome : (action : FormAction) (o : Option Done) → on_list action width arguments before ≡ o →
          option_map (λ (d : Done). let sorted : Done = record d { after = in_order d.after } in sorted) o ≡ Some (record { value = value; forced = forced; printed = printed; after = in_order after }) →
          handled action width arguments (holding before (storage_of s)) ≡ wanted
      by_outcome action None done is = absurd (cc)
      by_outcome action (Some d) done is =
          is_handled d (storage_of s) action width arguments before done
          ∙ sorted_done d (let same : (let sorted : Done = record d { after = in_order d.after } in sorted) ≡ record { value = value; forced = forced; printed = printed; after = in_order after } = cc in same)

      by_primitive : (primitive : Primitive) → performed_on primitive width arguments before ≡ Some (record { value = value; forced = forced; printed = printed; after = in_order after }) →
          effect_of primitive (over width tape) arguments (with_forms before s) ≡ wanted
      by_primitive (Handle action) is = by_outcome action (on_list action width arguments before) refl is
      by_primitive primitive is = absurd (cc)

-- the rows: what a call does is computed with the forms in a list
pub does_in : (width : Width) (arguments : List (List ℕ)) (before : Named) (value printed : List ℕ) (after : Named) →
    performed_on (primitive_of (argument 0 arguments)) width arguments before ≡ Some (record { value = value; forced = false; printed = printed; after = in_order after }) →
    DoesIn width arguments before value printed after
does_in width arguments before value printed after is tape s = row width arguments before value false printed after tape s is

pub forces_in : (width : Width) (arguments : List (List ℕ)) (forms : Named) (value : List ℕ) →
    performed_on (primitive_of (argument 0 arguments)) width arguments forms ≡ Some (record { value = value; forced = true; printed = []; after = in_order forms }) →
    ForcesIn width arguments forms value
forces_in width arguments forms value is tape s = row width arguments forms value true [] forms tape s is

-- and for each width
pub does : (arguments : List (List ℕ)) (before : Named) (value printed : List ℕ) (after : Named) →
    performed_on (primitive_of (argument 0 arguments)) W64 arguments before ≡ Some (record { value = value; forced = false; printed = printed; after = in_order after }) →
    performed_on (primitive_of (argument 0 arguments)) W128 arguments before ≡ Some (record { value = value; forced = false; printed = printed; after = in_order after }) →
    Does arguments before value printed after
does arguments before value printed after narrow wide W64 = does_in W64 arguments before value printed after narrow
does arguments before value printed after narrow wide W128 = does_in W128 arguments before value printed after wide

pub forces_value : (arguments : List (List ℕ)) (forms : Named) (value : List ℕ) →
    performed_on (primitive_of (argument 0 arguments)) W64 arguments forms ≡ Some (record { value = value; forced = true; printed = []; after = in_order forms }) →
    performed_on (primitive_of (argument 0 arguments)) W128 arguments forms ≡ Some (record { value = value; forced = true; printed = []; after = in_order forms }) →
    Forces arguments forms value
forces_value arguments forms value narrow wide W64 = forces_in W64 arguments forms value narrow
forces_value arguments forms value narrow wide W128 = forces_in W128 arguments forms value wide
