-- Values and forms that are made of other texts and forms, with their origins beside them.
use Rattle.std.proofs.Common.{◌≡◌, ℕ, zero, suc, ◌+◌, ◌<◌, ◌≤◌, min, Bool, true, false, cond, ℤ, pos, negsuc, List, [], ◌∷◌, ◌++◌, length, take, drop, refl, sym, ap, subst, ◌∙◌, arith, ⊎_elim}
use Rattle.std.specs.Prelude.{Option, None, Some, ◌==◌, option_map, position, codes}
use Rattle.std.specs.List.{flat_map}
use Rattle.std.proofs.lemmas.Bool.{cases_Bool, cond-true, cond-false}
use Rattle.std.proofs.lemmas.List.{drop-append-le, drop_at, take-append-drop, take_at}
use Rattle.std.proofs.lemmas.Option.{same_Some}
use Rattle.trac_rules.specs.declared.item.Item.{Item}
use Rattle.trac_rules.specs.declared.item.Item.TheVariants.{Byte, Gap}
use Rattle.trac_rules.specs.declared.primitive.FormReading.{FormReading}
use Rattle.trac_rules.specs.declared.primitive.FormReading.TheVariants.{ReadSegment, ReadChar, ReadCount, ReadUntil}
use Rattle.trac_rules.specs.declared.width.Width.{Width}
use Rattle.trac_rules.specs.Bytes.{last_place}
use Rattle.trac_rules.specs.Computing.{number_argument}
use Rattle.trac_rules.specs.Effect.{argument}
use Rattle.trac_rules.specs.Filling.{all_filled, filled, text_numbered}
use Rattle.trac_rules.specs.Form.{Form, all_items, as_items}
use Rattle.trac_rules.specs.Handling.{piece_read}
use Rattle.trac_rules.specs.Pieces.{Piece, at_most_all, byte_of, bytes_in, fitting_count_read, is_gap, last_bytes, next_bytes, nothing_read, place_before, place_after, place_of_text, read_back, read_on, segment_items, segment_read, until_read, where_any}
use Rattle.trac_rules.specs.Showing.{shown, shown_item}
use Rattle.trac_rules.proofs.Items.{bytes_in-append, length-as_items, no_gap}
use Rattle.trac_rules.proofs.Cuts.{IsCut, done as none_cut, kept as item_kept, made as gap_made}
use Rattle.trac_origins.specs.Places.{Origin, Made}
use Rattle.trac_origins.specs.Lists.{all_made}
use Rattle.trac_origins.specs.Performing.{mark_from, nothing_for, piece_from, recut, shown_from, spread}
use Rattle.trac_origins.proofs.Zips.{Zip, ends, beside, appended, dropped, each, taken}
use Rattle.trac_origins.proofs.Besides.{OfByte, Text}

-- ---- pieces

-- a value is given that begins the bytes from the lesser pointer on
abbrev IsAhead : Form → Piece → Type 0
IsAhead form piece = take (length piece.value) (bytes_in (drop (min (length form.before) piece.place) (all_items form))) ≡ piece.value

front_of_bytes : (k : ℕ) (items : List Item) → take (length (bytes_in (take k items))) (bytes_in items) ≡ bytes_in (take k items)
front_of_bytes k items =
    ap (take (length (bytes_in (take k items)))) (ap bytes_in (sym (take-append-drop k items)) ∙ bytes_in-append (take k items) (drop k items))
    ∙ take_at (bytes_in (take k items)) (bytes_in (drop k items)) (length (bytes_in (take k items))) refl

ahead_on : (k more : ℕ) (form : Form) → IsAhead form (record { value = bytes_in (take k form.after); place = length form.before + more })
ahead_on k more form =
    let least : min (length form.before) (length form.before + more) ≡ length form.before = omega arith in
    ap (λ n. take (length (bytes_in (take k form.after))) (bytes_in (drop n (all_items form)))) least
    ∙ ap (λ (items : List Item). take (length (bytes_in (take k form.after))) (bytes_in items)) (drop_at form.before form.after (length form.before) refl)
    ∙ front_of_bytes k form.after

ahead_back : (k : ℕ) (form : Form) → k ≤ length form.before → IsAhead form (read_back k form)
ahead_back k form within =
    let least : min (length form.before) k ≡ k = omega (arith, within) in
    let value = bytes_in (drop k form.before) in
    ap (λ n. take (length value) (bytes_in (drop n (all_items form)))) least
    ∙ ap (λ (items : List Item). take (length value) (bytes_in items)) (drop-append-le k form.before form.after within)
    ∙ ap (take (length value)) (bytes_in-append (drop k form.before) form.after)
    ∙ take_at value (bytes_in form.after) (length value) refl

of_where_any : {A : Type 0} (xs : List A) (found : Option Piece) (piece : Piece) → where_any xs found ≡ Some piece → found ≡ Some piece
of_where_any [] found piece e = absurd (cc)
of_where_any (x ∷ xs) found piece e = e

of_option_map : {A : Type 0} (make : A → Piece) (found : Option A) (piece : Piece) → option_map make found ≡ Some piece → (x : A) × (found ≡ Some x) × (make x ≡ piece)
of_option_map make None piece e = absurd (cc)
of_option_map make (Some x) piece e = (x, refl, same_Some (make x) piece e)

last_within : (passes : ℕ → Bool) (n k : ℕ) → last_place passes n ≡ Some k → k < n
last_within passes zero k e = absurd (cc)
last_within passes (suc n) k e =
    ⊎_elim
    (λ (t : passes n ≡ true). let same : n ≡ k = same_Some n k (sym (cond-true (passes n) (Some n) (last_place passes n) t) ∙ e) in omega (arith, same))
    (λ (t : passes n ≡ false). omega (arith, last_within passes n k (sym (cond-false (passes n) (Some n) (last_place passes n) t) ∙ e)))
    (cases_Bool (passes n))

next_ahead : (n : ℕ) (form : Form) (piece : Piece) → next_bytes n form ≡ Some piece → IsAhead form piece
next_ahead n form piece e =
    let found = place_after (at_most_all n form.after) form.after in
    let at = of_option_map (λ k. read_on k form) found piece (of_where_any (bytes_in form.after) (option_map (λ k. read_on k form) found) piece e) in
    subst (IsAhead form) at.2 (ahead_on at.0 at.0 form)

last_ahead : (n : ℕ) (form : Form) (piece : Piece) → last_bytes n form ≡ Some piece → IsAhead form piece
last_ahead n form piece e =
    let m = at_most_all n form.before in
    let found = place_before m form.before in
    let at = of_option_map (λ k. read_back k form) found piece (of_where_any (bytes_in form.before) (option_map (λ k. read_back k form) found) piece e) in
    let within = last_within (λ k. length (bytes_in (drop k form.before)) == m) (length form.before + 1) at.0 at.1 in
    subst (IsAhead form) at.2 (ahead_back at.0 form (omega (arith, within)))

segment_ahead : (form : Form) (piece : Piece) → segment_read form ≡ Some piece → IsAhead form piece
segment_ahead form piece e =
    let k = segment_items (position is_gap form.after) form.after in
    let same : read_on k form ≡ piece = same_Some (read_on k form) piece (of_where_any form.after (Some (read_on k form)) piece e) in
    subst (IsAhead form) same (ahead_on k k form)

until_ahead : (text : List ℕ) (form : Form) (piece : Piece) → until_read text form ≡ Some piece → IsAhead form piece
until_ahead text form piece e =
    let at = of_option_map (λ k. record (read_on k form) { place = length form.before + k + length text }) (place_of_text text form.after) piece e in
    let further : length form.before + at.0 + length text ≡ length form.before + (at.0 + length text) = omega arith in
    subst (IsAhead form) (ap (λ place. record { value = bytes_in (take at.0 form.after); place = place }) (sym further) ∙ at.2) (ahead_on at.0 (at.0 + length text) form)

nothing_ahead : (form : Form) (piece : Piece) → Some (nothing_read form) ≡ Some piece → IsAhead form piece
nothing_ahead form piece e = subst (IsAhead form) (same_Some (nothing_read form) piece e) refl

count_ahead : (found : Option ℤ) (form : Form) (piece : Piece) → fitting_count_read found form ≡ Some piece → IsAhead form piece
count_ahead None form piece e = nothing_ahead form piece e
count_ahead (Some (pos zero)) form piece e = nothing_ahead form piece e
count_ahead (Some (pos (suc n))) form piece e = next_ahead (suc n) form piece e
count_ahead (Some (negsuc n)) form piece e = last_ahead (suc n) form piece e

piece_ahead : (reading : FormReading) (width : Width) (arguments : List (List ℕ)) (form : Form) (piece : Piece) → piece_read reading width arguments form ≡ Some piece → IsAhead form piece
piece_ahead ReadSegment width arguments form piece e = segment_ahead form piece e
piece_ahead ReadChar width arguments form piece e = next_ahead 1 form piece e
piece_ahead ReadCount width arguments form piece e = count_ahead (number_argument width 2 arguments) form piece e
piece_ahead ReadUntil width arguments form piece e = until_ahead (argument 2 arguments) form piece e

-- ---- with origins beside them

module _ (R : Origin → Item → Type 0) where
  -- a text that is made
  pub made_beside : (text : List ℕ) → ((b : ℕ) → R Made (Byte b)) → Text R (all_made text) text
  made_beside text made = each (OfByte R) (λ i. Made) text (λ i b e. made b)

  pub as_items_beside : {os : List Origin} {text : List ℕ} → Text R os text → Zip R os (as_items text)
  as_items_beside ends = ends
  as_items_beside (beside r h) = beside r (as_items_beside h)

  -- items that are spread
  pub spread_beside : (gap : ℕ → List Origin) (give : Item → List ℕ) → ((b : ℕ) → give (Byte b) ≡ b ∷ []) → ((k w : ℕ) → Text R (gap k) (give (Gap k w))) →
      {os : List Origin} {items : List Item} → Zip R os items → Text R (spread gap items os) (flat_map give items)
  spread_beside gap give bytes gaps ends = ends
  spread_beside gap give bytes gaps (beside {x = o} {y = Byte b} {xs = os} {ys = items} r h) =
      subst (λ (first : List ℕ). Text R (o ∷ spread gap items os) (first ++ flat_map give items)) (sym (bytes b)) (beside r (spread_beside gap give bytes gaps h))
  spread_beside gap give bytes gaps (beside {y = Gap k w} r h) = appended (gaps k w) (spread_beside gap give bytes gaps h)

  pub after_beside : (os : List Origin) (form : Form) → Zip R os (all_items form) → Zip R (drop (length form.before) os) form.after
  after_beside os form h =
      subst (λ (items : List Item). Zip R (drop (length form.before) os) items) (drop_at form.before form.after (length form.before) refl) (dropped (length form.before) h)

  before_beside : (os : List Origin) (form : Form) → Zip R os (all_items form) → Zip R (take (length form.before) os) form.before
  before_beside os form h =
      subst (λ (items : List Item). Zip R (take (length form.before) os) items) (take_at form.before form.after (length form.before) refl) (taken (length form.before) h)

  -- `cl`
  pub filled_beside : (texts : List (List ℕ)) (from : ℕ → List Origin) → ((k : ℕ) → Text R (from k) (text_numbered k texts)) → (os : List Origin) (form : Form) → Zip R os (all_items form) →
      Text R (spread from form.after (drop (length form.before) os)) (all_filled texts form.after)
  filled_beside texts from given os form h = spread_beside from (filled texts) (λ b. refl) (λ k w. given k) (after_beside os form h)

  -- `pf`
  pub shown_beside : ((b : ℕ) → R Made (Byte b)) → (os : List Origin) (form : Form) → Zip R os (all_items form) → Text R (shown_from form os) (shown form)
  shown_beside made os form h =
      let marks : (k w : ℕ) → Text R (mark_from k) (shown_item (Gap k w)) = λ k w. made_beside (shown_item (Gap k w)) made in
      appended
      (spread_beside mark_from shown_item (λ b. refl) marks (before_beside os form h))
      (appended (made_beside (codes "<^>") made) (spread_beside mark_from shown_item (λ b. refl) marks (after_beside os form h)))

  -- what is read of a form
  pub piece_beside : (reading : FormReading) (width : Width) (arguments : List (List ℕ)) (os : List Origin) (form : Form) (piece : Piece) (other : List Origin) → Zip R os (all_items form) →
      piece_read reading width arguments form ≡ Some piece → Text R (piece_from (Some piece) other form os) piece.value
  piece_beside reading width arguments os form piece other h e =
      let first = min (length form.before) piece.place in
      subst (λ (value : List ℕ). Text R (take (length piece.value) (spread nothing_for (drop first (all_items form)) (drop first os))) value)
      (piece_ahead reading width arguments form piece e)
      (taken (length piece.value) (spread_beside nothing_for byte_of (λ b. refl) (λ k w. ends) (dropped first h)))

  -- `ss`
  pub recut_beside : ((k w : ℕ) → R Made (Gap k w)) → (texts : List (List ℕ)) {old new : List Item} → IsCut texts old new → (os : List Origin) → Zip R os old → Zip R (recut new old os) new
  recut_beside gap texts none_cut os h = ends
  recut_beside gap texts (item_kept {item = item} {old = old} {new = new} c) os h = kept_item item os h (λ us k. recut_beside gap texts c us k)
    where
      kept_item : (x : Item) (us : List Origin) → Zip R us (x ∷ old) → ((vs : List Origin) → Zip R vs old → Zip R (recut new old vs) new) → Zip R (recut (x ∷ new) (x ∷ old) us) (x ∷ new)
      kept_item (Byte b) us (beside {xs = vs} r k) later = beside r (later vs k)
      kept_item (Gap k w) us (beside {xs = vs} r h) later = beside r (later vs h)
  recut_beside gap texts (gap_made k {old = old} {new = new} some c) os h =
      let text = text_numbered k texts in
      let n = length text in
      let left : drop n (as_items text ++ old) ≡ old = drop_at (as_items text) old n (length-as_items text) in
      let later : Zip R (recut new old (drop n os)) new = recut_beside gap texts c (drop n os) (subst (λ (items : List Item). Zip R (drop n os) items) left (dropped n h)) in
      let cut : Zip R (recut new (drop n (as_items text ++ old)) (drop n os)) new = subst (λ (items : List Item). Zip R (recut new items (drop n os)) new) (sym left) later in
      subst
      (λ (b : Bool). Zip R (cond b (take 1 os ++ recut new (drop 1 (as_items text ++ old)) (drop 1 os)) (Made ∷ recut new (drop n (as_items text ++ old)) (drop n os))) (Gap k n ∷ new))
      (sym (no_gap text old some)) (beside (gap k n) cut)
