-- What is written is read.
use Rattle.std.proofs.Common.{◌≡◌, ℕ, zero, suc, ◌+◌, ◌-◌, ◌<◌, ◌≤◌, ◌≢◌, ◌&&◌, Bool, true, List, [], ◌∷◌, ◌++◌, length, take, drop, get_or, map, refl, sym, ap, ◌∙◌, arith}
use Rattle.std.specs.Prelude.{All, None, Option, Some, ◌==◌, decimal, nat_eq, not}
use Rattle.std.specs.List.{ends_with, flat_map}
use Rattle.std.specs.Cmp.Lexicographic.{pointwise}
use Rattle.std.specs.Str.{all_ascii_digits, str_eq_ignore_ascii_case}
use Rattle.std.specs.Str.Parse.{digits_value}
use Rattle.std.proofs.lemmas.Bool.{and_left, and_parts, cond-false, cond-true, eq-eqb, false≢true, false_from_ne_true, ne_eqb, not-true}
use Rattle.std.proofs.lemmas.Fmt.{decimal_nonempty, digits_decimal, digits_value-decimal, length-decimal-le}
use Rattle.std.proofs.lemmas.List.{append_assoc, drop_at, drop_more, get_or-append-add, get_or_append_left, length-append, take_all, take_at}
use Rattle.std.proofs.lemmas.Str.Parse.{IsNumeralModel, not_in_digits, numerals_by_value, tells_all_ascii_digits}
use Rattle.trac_rules.specs.declared.byte.TheConstants.{CARRIAGE_RETURN, LINE_FEED}
use Rattle.trac_rules.specs.Segmenting.{leftmost, stands_at}
use Rattle.trac_rules.proofs.Balanced.{first_place_some}
use Rattle.trac_streams.specs.Lines.{without_return}
use Rattle.trac_streams.specs.Reading.{HasNone}
use Rattle.trac_messages.specs.declared.header.TheConstants.{HEADER_LIMIT, MESSAGE_LIMIT}
use Rattle.trac_messages.specs.declared.header.Heading.TheVariants.{Announces}
use Rattle.trac_messages.specs.Headers.{announced, header_end, heading_at, heading_by, heading_in, heading_of, is_length_field, length_field, length_in, number_of}
use Rattle.trac_messages.specs.Frames.{Frame, frame_bytes, frames_of}
use Rattle.trac_messages.proofs.Ends.{occurs, stands_there}
use Rattle.trac_messages.proofs.Framed.{front_whole}
use Rattle.trac_messages.proofs.Lines.{last_line, some_number}
use Rattle.trac_messages.proofs.Steady.{steady}

-- ---- bytes that do not stand in a text

lacks : ℕ → List ℕ → Bool
lacks c [] = true
lacks c (b ∷ bs) = not (b == c) && lacks c bs

lacks_none : (c : ℕ) (text : List ℕ) → lacks c text ≡ true → HasNone (λ b. b == c) text
unfolding lacks
lacks_none c [] all = tt
lacks_none c (b ∷ bs) all =
    let both = and_parts (not (b == c)) (lacks c bs) all in
    (not-true (b == c) both.0, lacks_none c bs both.1)

none_by_places : (c : ℕ) (text : List ℕ) → ((i : ℕ) → i < length text → get_or text i 0 ≢ c) → HasNone (λ b. b == c) text
none_by_places c [] none = tt
none_by_places c (b ∷ bs) none = (ne_eqb b c (none 0 (omega arith)), none_by_places c bs (λ i l. none (suc i) (omega arith)))

none_both : (c : ℕ) (one other : List ℕ) → HasNone (λ b. b == c) one → HasNone (λ b. b == c) other → HasNone (λ b. b == c) (one ++ other)
none_both c [] other first second = second
none_both c (b ∷ one) other first second = (first.0, none_both c one other first.1 second)

none_at : (c : ℕ) (text : List ℕ) (i : ℕ) → HasNone (λ b. b == c) text → i < length text → get_or text i 0 ≢ c
none_at c [] i none l = absurd (omega arith)
none_at c (b ∷ bs) zero none l = λ e. absurd (false≢true (sym none.0 ∙ eq-eqb b c e))
none_at c (b ∷ bs) (suc i) none l = none_at c bs i none.1 (omega arith)

-- ---- the number

own : IsNumeralModel (λ ds. all_ascii_digits ds ≡ true) (digits_value 10)
own = numerals_by_value (λ ds. all_ascii_digits ds ≡ true) tells_all_ascii_digits

number_back : (n : ℕ) → n ≤ MESSAGE_LIMIT → Some n ≡ number_of (decimal n)
number_back n few =
    some_number (decimal n) n (decimal_nonempty n (omega arith)) (omega (arith, length-decimal-le 8 n (omega arith) (omega arith) (omega arith)))
    (digits_decimal own n (omega arith)) (sym (digits_value-decimal own n (omega arith)))

none_in_number : (n c : ℕ) → n ≤ MESSAGE_LIMIT → c < 48 → HasNone (λ b. b == c) (decimal n)
none_in_number n c few low =
    none_by_places c (decimal n) (not_in_digits own (decimal n) c (digits_decimal own n (omega arith)) (λ range. omega (arith, range.0, low)))

no_return : (n : ℕ) → n ≤ MESSAGE_LIMIT → without_return (decimal n) ≡ decimal n
no_return n few =
    let some : 0 < length (decimal n) = decimal_nonempty n (omega arith) in
    let last : ℕ = length (decimal n) - 1 in
    let other : get_or (decimal n) last 0 ≢ CARRIAGE_RETURN = none_at CARRIAGE_RETURN (decimal n) last (none_in_number n CARRIAGE_RETURN few (omega arith)) (omega arith) in
    cond-false (ends_with nat_eq (decimal n) (CARRIAGE_RETURN ∷ [])) (take last (decimal n)) (decimal n)
    (ap (λ (t : List ℕ). pointwise nat_eq (CARRIAGE_RETURN ∷ []) t) (drop_more (decimal n) last 0 (omega arith))
    ∙ and_left (CARRIAGE_RETURN == get_or (decimal n) last 0) (pointwise nat_eq [] (drop (last + 1) (decimal n))) (ne_eqb CARRIAGE_RETURN (get_or (decimal n) last 0) (λ e. other (sym e))))

-- ---- the header

-- what announces a length
announcing : ℕ → List ℕ
announcing n = length_field ++ decimal n

none_in_line : (n c : ℕ) → n ≤ MESSAGE_LIMIT → c < 48 → lacks c length_field ≡ true → HasNone (λ b. b == c) (announcing n)
unfolding announcing
none_in_line n c few low field = none_both c length_field (decimal n) (lacks_none c length_field field) (none_in_number n c few low)

line_back : (n : ℕ) → n ≤ MESSAGE_LIMIT → length_in (announcing n) ≡ Some n
unfolding announcing
line_back n few =
    let field : is_length_field (announcing n) ≡ true = ap (λ (t : List ℕ). str_eq_ignore_ascii_case t length_field) (take_at length_field (decimal n) (length length_field) refl) in
    cond-true (is_length_field (announcing n)) (number_of (without_return (drop (length length_field) (announcing n)))) None field
    ∙ ap number_of (ap without_return (drop_at length_field (decimal n) (length length_field) refl) ∙ no_return n few)
    ∙ sym (number_back n few)

announced_back : (n : ℕ) → n ≤ MESSAGE_LIMIT → announced (announcing n) ≡ Some n
unfolding lacks
announced_back n few = last_line (announcing n) (none_in_line n LINE_FEED few (omega arith) refl) ∙ line_back n few

-- the empty line after it is the first
ends_there : (n : ℕ) → n ≤ MESSAGE_LIMIT → leftmost header_end (announcing n ++ header_end) ≡ Some (length (announcing n))
unfolding lacks
ends_there n few =
    let line : List ℕ = announcing n in
    first_place_some (stands_at header_end (line ++ header_end)) (length (line ++ header_end) + 1) (length line) (omega (arith, length-append line header_end))
    (stands_there header_end (line ++ header_end) (length line) (record {
      fits = omega (arith, length-append line header_end);
      reads = λ j l. get_or-append-add line header_end j 0;
    }))
    (λ j l. false_from_ne_true (stands_at header_end (line ++ header_end) j) (λ is.
    let there = occurs header_end (line ++ header_end) j (omega arith) is in
    let here : j + 0 ≡ j = omega arith in
    none_at CARRIAGE_RETURN line j (none_in_line n CARRIAGE_RETURN few (omega arith) refl) l
    (sym (get_or_append_left line header_end 0 j l) ∙ ap (λ k. get_or (line ++ header_end) k 0) (sym here) ∙ there.reads 0 (omega arith))))

short : (n : ℕ) → n ≤ MESSAGE_LIMIT → length (announcing n ++ header_end) ≤ HEADER_LIMIT
unfolding announcing
short n few = omega (arith, length-append (announcing n) header_end, length-append length_field (decimal n), length-decimal-le 8 n (omega arith) (omega arith) (omega arith))

heading_short : (n : ℕ) → n ≤ MESSAGE_LIMIT → heading_of (announcing n ++ header_end) ≡ Announces (length (announcing n) + length header_end) n
unfolding heading_of
heading_short n few =
    ap heading_in (take_all HEADER_LIMIT (announcing n ++ header_end) (short n few))
    ∙ ap (λ (found : Option ℕ). heading_at found (announcing n ++ header_end)) (ends_there n few)
    ∙ ap (λ (t : List ℕ). heading_by (length (announcing n) + length header_end) (announced t)) (take_at (announcing n) header_end (length (announcing n)) refl)
    ∙ ap (λ (len : Option ℕ). heading_by (length (announcing n) + length header_end) len) (announced_back n few)

heading_back : (n : ℕ) (rest : List ℕ) → n ≤ MESSAGE_LIMIT → heading_of ((announcing n ++ header_end) ++ rest) ≡ Announces (length (announcing n) + length header_end) n
heading_back n rest few = steady (announcing n ++ header_end) rest (λ e. let there = heading_short n few in cc) ∙ heading_short n few

-- ---- messages

regroup : (a b c d e : List ℕ) → (a ++ (b ++ (c ++ d))) ++ e ≡ (((a ++ b) ++ c) ++ d) ++ e
regroup a b c d e = simp append_assoc

message_back : (message rest : List ℕ) → length message ≤ MESSAGE_LIMIT → frames_of (frame_bytes message ++ rest) ≡ Frame.Message message ∷ frames_of rest
unfolding announcing
message_back message rest few =
    let header : List ℕ = announcing (length message) ++ header_end in
    let size : length header ≡ length (announcing (length message)) + length header_end = length-append (announcing (length message)) header_end in
    let bytes : List ℕ = header ++ message in
    let all : length bytes ≡ length (announcing (length message)) + length header_end + length message = omega (arith, size, length-append header message) in
    ap frames_of (regroup length_field (decimal (length message)) header_end message rest)
    ∙ front_whole bytes rest (length (announcing (length message)) + length header_end) (length message) (heading_back (length message) message few) (omega (arith, all)) few (omega (arith, all))
    ∙ ap (λ (t : List ℕ). Frame.Message t ∷ frames_of (drop (length (announcing (length message)) + length header_end + length message) (bytes ++ rest)))
    (ap (take (length message)) (drop_at header message (length (announcing (length message)) + length header_end) size) ∙ take_all (length message) message (omega arith))
    ∙ ap (λ (t : List ℕ). Frame.Message message ∷ frames_of t) (drop_at bytes rest (length (announcing (length message)) + length header_end + length message) all)

pub messages_back : (messages : List (List ℕ)) (rest : List ℕ) → All (λ m. length m ≤ MESSAGE_LIMIT) messages →
    frames_of (flat_map frame_bytes messages ++ rest) ≡ map (λ m. Frame.Message m) messages ++ frames_of rest
messages_back [] rest few = refl
messages_back (message ∷ messages) rest few =
    ap frames_of (append_assoc (frame_bytes message) (flat_map frame_bytes messages) rest)
    ∙ message_back message (flat_map frame_bytes messages ++ rest) (few 0 [] (omega arith))
    ∙ ap (λ (fs : List Frame). Frame.Message message ∷ fs) (messages_back messages rest (λ k d l. few (suc k) d (omega arith)))

-- a frame, as it is put together
pub frame_in_parts : (message : List ℕ) → (length_field ++ (decimal (length message) ++ header_end)) ++ message ≡ frame_bytes message
frame_in_parts message = parts length_field (decimal (length message)) header_end message
  where
    parts : (a b c d : List ℕ) → (a ++ (b ++ c)) ++ d ≡ a ++ (b ++ (c ++ d))
    parts a b c d = simp append_assoc
