-- Texts that are taken apart at line feeds and at spaces.
use Rattle.std.proofs.Common.{◌≡◌, ℕ, zero, suc, ◌+◌, ◌-◌, ◌==◌, ◌<◌, ◌≤◌, Bool, true, false, List, [], ◌∷◌, ◌++◌, length, map, take, drop, get_or, refl, sym, ap, subst, ◌∙◌, arith, ⊎_elim}
use Rattle.std.specs.Prelude.{if◌then◌else◌, nat_eq, Option, None, Some}
use Rattle.std.specs.List.{ends_with, onto_first, slice_split}
use Rattle.std.proofs.Math.Seq.{drop-cons}
use Rattle.std.proofs.lemmas.Bool.{cond-false, cond-true, cases_Bool, eqb-true, false_from_ne_true}
use Rattle.std.proofs.lemmas.Bool.Decides.{nat_tests}
use Rattle.std.proofs.lemmas.List.{append-nil, append_assoc, length-append, length-map, length-take, length-take-le, take_more, take-append-drop, take-take, take_all, drop_all}
use Rattle.memchr.specs.Find.{IsFirstByte, is_byte}
use Rattle.trac_rules.specs.declared.byte.TheConstants.{CARRIAGE_RETURN, LINE_FEED}
use Rattle.trac_streams.specs.declared.lines.TheConstants.{LINE_LIMIT}
use Rattle.trac_streams.specs.Lines.{between_feeds, feed_count, lines_of, without_return}
use Rattle.trac_streams.specs.declared.lines.NextLine.TheVariants.{Line}
use Rattle.trac_streams.specs.Reading.{HasNone, IsFront, IsPlace}

-- whether a byte is a line feed
abbrev is_feed : ℕ → Bool
is_feed b = b == LINE_FEED

-- ---- where none passes a test

pub HasNone-append : (test : ℕ → Bool) (xs : List ℕ) (b : ℕ) → HasNone test xs → test b ≡ false → HasNone test (xs ++ b ∷ [])
HasNone-append test [] b none not_b = (not_b, tt)
HasNone-append test (x ∷ xs) b none not_b = (none.0, HasNone-append test xs b none.1 not_b)

-- one byte more
pub HasNone-more : (test : ℕ → Bool) (xs : List ℕ) (i : ℕ) → i < length xs → HasNone test (take i xs) → test (get_or xs i 0) ≡ false → HasNone test (take (i + 1) xs)
HasNone-more test xs i l none not_here = subst (HasNone test) (sym (take_more xs i 0 l)) (HasNone-append test (take i xs) (get_or xs i 0) none not_here)

-- a text at a place
pub cut_at : (xs : List ℕ) (i b : ℕ) → i < length xs → get_or xs i 0 ≡ b → xs ≡ take i xs ++ b ∷ drop (i + 1) xs
cut_at xs i b l here =
    let next : suc i ≡ i + 1 = omega arith in
    sym (take-append-drop i xs) ∙ ap (λ rest. take i xs ++ rest) (drop-cons xs i 0 l ∙ ap (λ h. h ∷ drop (suc i) xs) here ∙ ap (λ n. b ∷ drop n xs) next)

-- none among the first n
none_among : (test : ℕ → Bool) (xs : List ℕ) (n : ℕ) → n ≤ length xs → ((k : ℕ) → k < n → ¬ (test (get_or xs k 0) ≡ true)) → HasNone test (take n xs)
none_among test xs zero within none = tt
none_among test xs (suc n) within none =
    let next : n + 1 ≡ suc n = omega arith in
    subst (λ m. HasNone test (take m xs)) next
    (HasNone-more test xs n (omega arith) (none_among test xs n (omega arith) (λ k l. none k (omega arith))) (false_from_ne_true (test (get_or xs n 0)) (none n (omega arith))))

-- the place that a search finds
pub place_found : (wanted : ℕ) (bytes : List ℕ) (place : Option ℕ) → IsFirstByte (is_byte wanted) bytes place → IsPlace wanted bytes place
place_found wanted bytes None none =
    subst (HasNone (λ b. b == wanted)) (take_all (length bytes) bytes (omega arith)) (none_among (λ b. b == wanted) bytes (length bytes) (omega arith) (λ k l. none k (omega arith) l))
place_found wanted bytes (Some place) found = (
  found.0.high,
  none_among (λ b. b == wanted) bytes place (omega (arith, found.0.high)) (λ k l. found.0.before k (omega arith) l),
  cut_at bytes place wanted found.0.high (eqb-true (get_or bytes place 0) wanted found.1),
)

-- ---- words

-- the first word ends at the first space
pub split_at : (test : ℕ → Bool) (xs : List ℕ) (y : ℕ) (ys : List ℕ) → HasNone test xs → test y ≡ true → slice_split test (xs ++ y ∷ ys) ≡ xs ∷ slice_split test ys
split_at test [] y ys none passes = cond-true (test y) ([] ∷ slice_split test ys) (onto_first y (slice_split test ys)) passes
split_at test (x ∷ xs) y ys none passes =
    cond-false (test x) ([] ∷ slice_split test (xs ++ y ∷ ys)) (onto_first x (slice_split test (xs ++ y ∷ ys))) none.0
    ∙ ap (onto_first x) (split_at test xs y ys none.1 passes)

-- without a space there is one word
pub split_none : (test : ℕ → Bool) (xs : List ℕ) → HasNone test xs → slice_split test xs ≡ xs ∷ []
split_none test [] none = refl
split_none test (x ∷ xs) none =
    cond-false (test x) ([] ∷ slice_split test xs) (onto_first x (slice_split test xs)) none.0
    ∙ ap (onto_first x) (split_none test xs none.1)

-- ---- lines

-- a byte that is no line feed goes to the first line
onto_line : (b : ℕ) (bs : List ℕ) → is_feed b ≡ false → between_feeds (b ∷ bs) ≡ onto_first b (between_feeds bs)
onto_line b bs other = cond-false (is_feed b) ([] ∷ between_feeds bs) (onto_first b (between_feeds bs)) other

-- a line in front of a line feed
between_feeds-line : (line rest : List ℕ) → HasNone is_feed line → between_feeds (line ++ LINE_FEED ∷ rest) ≡ line ∷ between_feeds rest
between_feeds-line [] rest none = refl
between_feeds-line (b ∷ line) rest none = onto_line b (line ++ LINE_FEED ∷ rest) none.0 ∙ ap (onto_first b) (between_feeds-line line rest none.1)

-- a last line
between_feeds-last : (b : ℕ) (bs : List ℕ) → HasNone is_feed (b ∷ bs) → between_feeds (b ∷ bs) ≡ (b ∷ bs) ∷ []
between_feeds-last b [] none = onto_line b [] none.0
between_feeds-last b (x ∷ bs) none = onto_line b (x ∷ bs) none.0 ∙ ap (onto_first b) (between_feeds-last x bs none.1)

-- a byte put before the first of some lines begins a line
begins_any : (b : ℕ) (lines : List (List ℕ)) → (tail : List ℕ) × (rest : List (List ℕ)) × (onto_first b lines ≡ (b ∷ tail) ∷ rest)
begins_any b [] = ([], [], refl)
begins_any b (line ∷ lines) = (line, lines, refl)

-- bytes without a line feed begin a line, whatever comes after them
begins_line : (b : ℕ) (bs more : List ℕ) → HasNone is_feed (b ∷ bs) → (tail : List ℕ) × (rest : List (List ℕ)) × (between_feeds ((b ∷ bs) ++ more) ≡ (b ∷ (bs ++ tail)) ∷ rest)
begins_line b [] more none =
    let at = begins_any b (between_feeds more) in
    (at.0, at.1, onto_line b more none.0 ∙ at.2)
begins_line b (x ∷ bs) more none =
    let at = begins_line x bs more none.1 in
    (at.0, at.1, onto_line b ((x ∷ bs) ++ more) none.0 ∙ ap (onto_first b) at.2)

-- ---- how many line feeds there are

-- where none stands, none is counted
pub no_feeds : (text : List ℕ) → HasNone is_feed text → feed_count text ≡ 0
no_feeds [] none = refl
no_feeds (b ∷ text) none = cond-false (is_feed b) (suc (feed_count text)) (feed_count text) none.0 ∙ no_feeds text none.1

-- a line feed begins a line more, and another byte none
one_more : (b : ℕ) (lines : List (List ℕ)) (n : ℕ) (feeds : Bool) → length lines ≡ n + 1 →
    length (if feeds then [] ∷ lines else onto_first b lines) ≡ (if feeds then suc n else n) + 1
one_more b [] n feeds is = absurd (omega arith)
one_more b (line ∷ lines) n true is = omega arith
one_more b (line ∷ lines) n false is = is

between_feeds-count : (text : List ℕ) → length (between_feeds (text ++ LINE_FEED ∷ [])) ≡ feed_count text + 1
between_feeds-count [] = refl
between_feeds-count (b ∷ text) = one_more b (between_feeds (text ++ LINE_FEED ∷ [])) (feed_count text) (is_feed b) (between_feeds-count text)

-- a text and one line feed more have a line for each line feed
pub lines_of-count : (text : List ℕ) → length (lines_of (text ++ LINE_FEED ∷ [])) ≡ feed_count text + 1
lines_of-count text = length-map (between_feeds (text ++ LINE_FEED ∷ [])) without_return ∙ between_feeds-count text

-- ---- without the carriage return

-- a line loses one byte at most
length-without_return : (line : List ℕ) → length line ≤ length (without_return line) + 1
length-without_return line = ⊎_elim
    (λ (yes : ends_with nat_eq line (CARRIAGE_RETURN ∷ []) ≡ true). omega (arith, ap length (cond-true (ends_with nat_eq line (CARRIAGE_RETURN ∷ [])) (take (length line - 1) line) line yes), length-take (length line - 1) line))
    (λ (no_ : ends_with nat_eq line (CARRIAGE_RETURN ∷ []) ≡ false). omega (arith, ap length (cond-false (ends_with nat_eq line (CARRIAGE_RETURN ∷ [])) (take (length line - 1) line) line no_)))
    (cases_Bool (ends_with nat_eq line (CARRIAGE_RETURN ∷ [])))

-- ---- what stands at the front

-- a line that ends at a line feed
pub line_at : (bytes more : List ℕ) (place len : ℕ) → place < length bytes → HasNone is_feed (take place bytes) → bytes ≡ take place bytes ++ LINE_FEED ∷ drop (place + 1) bytes →
    len ≤ length (take place bytes) → take len (take place bytes) ≡ without_return (take place bytes) →
    lines_of (bytes ++ more) ≡ take len bytes ∷ lines_of (drop (place + 1) bytes ++ more)
line_at bytes more place len l none cut within is =
    let rest : List ℕ = drop (place + 1) bytes in
    let whole : bytes ++ more ≡ take place bytes ++ LINE_FEED ∷ (rest ++ more) = ap (λ t. t ++ more) cut ∙ append_assoc (take place bytes) (LINE_FEED ∷ rest) more in
    let shorter : take len (take place bytes) ≡ take len bytes = take-take len place bytes (omega (arith, within, length-take place bytes)) in
    ap lines_of whole ∙ ap (map without_return) (between_feeds-line (take place bytes) (rest ++ more) none)
    ∙ ap (λ line. line ∷ lines_of (rest ++ more)) (sym is ∙ shorter)

-- a line that ends with the text
pub line_last : (bytes more : List ℕ) (len : ℕ) → 0 < length bytes → HasNone is_feed bytes → more ≡ [] → take len bytes ≡ without_return bytes →
    lines_of (bytes ++ more) ≡ take len bytes ∷ lines_of (drop (length bytes) bytes ++ more)
line_last [] more len some none last is = absurd (omega arith)
line_last (b ∷ bs) more len some none last is =
    let whole : (b ∷ bs) ++ more ≡ b ∷ bs = ap (λ m. (b ∷ bs) ++ m) last ∙ append-nil (b ∷ bs) in
    let nothing : drop (length (b ∷ bs)) (b ∷ bs) ++ more ≡ [] = ap (λ d. d ++ more) (drop_all (length (b ∷ bs)) (b ∷ bs) (omega arith)) ∙ last in
    ap lines_of whole ∙ ap (map without_return) (between_feeds-last b bs none)
    ∙ ap (λ line. line ∷ []) (sym is) ∙ ap (λ t. take len (b ∷ bs) ∷ lines_of t) (sym nothing)

-- a line that is too long, however the text goes on
pub line_too_long : (bytes more : List ℕ) → LINE_LIMIT + 1 < length bytes → HasNone is_feed bytes →
    (line : List ℕ) × (rest : List (List ℕ)) × (LINE_LIMIT < length line) × (lines_of (bytes ++ more) ≡ line ∷ rest)
line_too_long [] more long none = absurd (omega arith)
line_too_long (b ∷ bs) more long none =
    let at = begins_line b bs more none in (
      without_return (b ∷ (bs ++ at.0)),
      map without_return at.1,
      omega (arith, length-without_return (b ∷ (bs ++ at.0)), length-append bs at.0),
      ap (map without_return) at.2,
    )

-- a text that is not empty has a first line
pub first_line : (bytes : List ℕ) → 0 < length bytes → (line : List ℕ) × (rest : List (List ℕ)) × (lines_of bytes ≡ line ∷ rest)
first_line [] some = absurd (omega arith)
first_line (b ∷ bs) some = ⊎_elim
    (λ (feeds : is_feed b ≡ true).
    ([], lines_of bs, ap (map without_return) (cond-true (is_feed b) ([] ∷ between_feeds bs) (onto_first b (between_feeds bs)) feeds)))
    (λ (other : is_feed b ≡ false).
    let at = begins_any b (between_feeds bs) in
    (without_return (b ∷ at.0), map without_return at.1, ap (map without_return) (onto_line b bs other ∙ at.2)))
    (cases_Bool (is_feed b))

-- a line before a line feed, as it is found
pub front_line : (bytes line : List ℕ) (ended : Bool) (place len : ℕ) → IsPlace LINE_FEED bytes (Some place) → line ≡ take place bytes → len ≤ length line → take len line ≡ without_return line →
    IsFront bytes ended (Line len (place + 1))
front_line bytes line ended place len found is within cut =
    let within_ : len ≤ length (take place bytes) = subst (λ (t : List ℕ). len ≤ length t) is within in
    let cut_ : take len (take place bytes) ≡ without_return (take place bytes) = subst (λ (t : List ℕ). take len t ≡ without_return t) is cut in (
      omega (arith, within_, length-take place bytes),
      omega (arith, found.0),
      λ more none. line_at bytes more place len found.0 found.1 found.2 within_ cut_,
      omega (arith, found.0, within_, length-take place bytes, ap length cut_, length-take-le len (take place bytes) within_, length-without_return (take place bytes)),
    )

-- a line at the end of the text, as it is found
pub front_last : (bytes : List ℕ) (ended : Bool) (len : ℕ) → 0 < length bytes → HasNone is_feed bytes → ended ≡ true → len ≤ length bytes → take len bytes ≡ without_return bytes →
    IsFront bytes ended (Line len (length bytes))
front_last bytes ended len some none over within cut = (
  within,
  omega arith,
  λ more nothing. line_last bytes more len some none (nothing over) cut,
  omega (arith, within, ap length cut, length-take-le len bytes within, length-without_return bytes),
)

-- ---- tests

pub some_of_test : (n : ℕ) (empty : Bool) → empty ≡ (n == 0) → empty ≡ false → 0 < n
some_of_test n empty is no_ = grind (arith, nat_tests)
