-- What a header says depends on no byte after it.
use Rattle.std.proofs.Common.{◌≡◌, ℕ, ◌+◌, ◌<◌, ◌≤◌, true, false, List, ◌++◌, length, take, drop, refl, sym, ap, subst, ◌∙◌, arith, ⊎_elim}
use Rattle.std.specs.Prelude.{nat_le, None, Option, Some}
use Rattle.std.proofs.lemmas.Bool.{cases_Bool, cases_lt, cond-false, cond-true, leb-false, leb-true, lt-leb}
use Rattle.std.proofs.lemmas.List.{length-take, take-append-drop, take-append-le, take-take, take_all, take_at}
use Rattle.trac_rules.specs.Segmenting.{leftmost}
use Rattle.trac_messages.specs.declared.header.TheConstants.{HEADER_LIMIT}
use Rattle.trac_messages.specs.declared.header.Heading.{Heading}
use Rattle.trac_messages.specs.declared.header.Heading.TheVariants.{Open, Silent}
use Rattle.trac_messages.specs.Headers.{IsWithin, announced, header_end, heading_at, heading_by, heading_in, heading_of}
use Rattle.trac_messages.proofs.Ends.{leftmost_fits, leftmost_on}

-- ---- sizes

by_within : (n size : ℕ) (len : Option ℕ) → 0 < size → size ≤ n → size ≤ HEADER_LIMIT → IsWithin n (heading_by size len)
by_within n size None some within most = (some, within)
by_within n size (Some len) some within most = (some, within, most)

at_within : (bytes : List ℕ) (found : Option ℕ) → leftmost header_end (take HEADER_LIMIT bytes) ≡ found → IsWithin (length bytes) (heading_at found (take HEADER_LIMIT bytes))
at_within bytes None is = ⊎_elim
    (λ (full : nat_le HEADER_LIMIT (length (take HEADER_LIMIT bytes)) ≡ true).
    rw (cond-true _ (Silent HEADER_LIMIT) Open full)
    (omega arith, omega (arith, leb-true HEADER_LIMIT (length (take HEADER_LIMIT bytes)) full, length-take HEADER_LIMIT bytes)))
    (λ (few : nat_le HEADER_LIMIT (length (take HEADER_LIMIT bytes)) ≡ false).
    rw (cond-false _ (Silent HEADER_LIMIT) Open few)
    (omega (arith, leb-false HEADER_LIMIT (length (take HEADER_LIMIT bytes)) few, length-take HEADER_LIMIT bytes)))
    (cases_Bool (nat_le HEADER_LIMIT (length (take HEADER_LIMIT bytes))))
at_within bytes (Some place) is =
    let fits = leftmost_fits header_end (take HEADER_LIMIT bytes) place (omega arith) is in
    by_within (length bytes) (place + length header_end) (announced (take place (take HEADER_LIMIT bytes))) (omega arith)
    (omega (arith, fits, length-take HEADER_LIMIT bytes)) (omega (arith, fits, length-take HEADER_LIMIT bytes))

-- a header that was read is among the bytes
pub within : (bytes : List ℕ) → IsWithin (length bytes) (heading_of bytes)
unfolding heading_of
within bytes = at_within bytes (leftmost header_end (take HEADER_LIMIT bytes)) refl

pub within_by : (bytes : List ℕ) (heading : Heading) → heading ≡ heading_of bytes → IsWithin (length bytes) heading
within_by bytes heading is = subst (IsWithin (length bytes)) (sym is) (within bytes)

-- ---- more bytes

-- bytes that are few, and some of those that come after them
front_on : (n : ℕ) (bytes more : List ℕ) → length bytes ≤ n → take n (bytes ++ more) ≡ bytes ++ drop (length bytes) (take n (bytes ++ more))
front_on n bytes more few =
    sym (take-append-drop (length bytes) (take n (bytes ++ more)))
    ∙ ap (λ (t : List ℕ). t ++ drop (length bytes) (take n (bytes ++ more)))
    (take-take (length bytes) n (bytes ++ more) few ∙ take_at bytes more (length bytes) refl)

in_few : (bytes rest : List ℕ) (found : Option ℕ) → length bytes < HEADER_LIMIT → leftmost header_end bytes ≡ found → (heading_at found bytes ≡ Open → ⊥) →
    heading_in (bytes ++ rest) ≡ heading_at found bytes
in_few bytes rest None few is some =
    absurd (some (cond-false (nat_le HEADER_LIMIT (length bytes)) (Silent HEADER_LIMIT) Open (lt-leb HEADER_LIMIT (length bytes) few)))
in_few bytes rest (Some place) few is some =
    let fits = leftmost_fits header_end bytes place (omega arith) is in
    ap (λ (found : Option ℕ). heading_at found (bytes ++ rest)) (leftmost_on header_end bytes rest place (omega arith) is)
    ∙ ap (λ (t : List ℕ). heading_by (place + length header_end) (announced t)) (take-append-le place bytes rest (omega (arith, fits)))

pub steady : (bytes more : List ℕ) → (heading_of bytes ≡ Open → ⊥) → heading_of (bytes ++ more) ≡ heading_of bytes
unfolding heading_of
steady bytes more some = ⊎_elim
    (λ (few : length bytes < HEADER_LIMIT).
    let all : take HEADER_LIMIT bytes ≡ bytes = take_all HEADER_LIMIT bytes (omega (arith, few)) in
    let open_ : heading_in bytes ≡ Open → ⊥ = λ e. some (ap heading_in all ∙ e) in
    ap heading_in (front_on HEADER_LIMIT bytes more (omega (arith, few)))
    ∙ in_few bytes (drop (length bytes) (take HEADER_LIMIT (bytes ++ more))) (leftmost header_end bytes) few refl open_
    ∙ ap heading_in (sym all))
    (λ (full : HEADER_LIMIT ≤ length bytes). ap heading_in (take-append-le HEADER_LIMIT bytes more full))
    (cases_lt (length bytes) HEADER_LIMIT)
