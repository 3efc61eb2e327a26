-- The frames of bytes: the first of them, and those of the bytes after it.
use Rattle.std.proofs.Common.{◌≡◌, ℕ, zero, suc, ◌+◌, ◌<◌, ◌≤◌, List, [], ◌∷◌, ◌++◌, length, take, drop, refl, sym, ap, subst, ◌∙◌, arith}
use Rattle.std.specs.Prelude.{nat_le, if◌then◌else◌}
use Rattle.std.proofs.lemmas.Bool.{cond-false, cond-true, le-leb, lt-leb}
use Rattle.std.proofs.lemmas.List.{drop-append-le, drop_all, length-append, length-drop, take-append-le}
use Rattle.trac_messages.specs.declared.header.TheConstants.{HEADER_LIMIT, MESSAGE_LIMIT}
use Rattle.trac_messages.specs.declared.header.Heading.{Heading}
use Rattle.trac_messages.specs.declared.header.Heading.TheVariants.{Open, Silent, Announces}
use Rattle.trac_messages.specs.Headers.{IsWithin, heading_of}
use Rattle.trac_messages.specs.Frames.{Frame, after_first, first_frame, framed, frames_of, frames_up_to, size_of}
use Rattle.trac_messages.proofs.Steady.{steady, within}

-- a frame has a byte at least
some_bytes : (n : ℕ) (heading : Heading) → IsWithin n heading → 0 < size_of heading
some_bytes n Open is = omega arith
some_bytes n (Silent size) is = is.0
some_bytes n (Announces size len) is = omega (arith, is.0)

shorter : (b : ℕ) (bytes : List ℕ) → length (after_first (b ∷ bytes)) ≤ length bytes
shorter b bytes =
    omega (arith, length-drop (size_of (heading_of (b ∷ bytes))) (b ∷ bytes), some_bytes (length (b ∷ bytes)) (heading_of (b ∷ bytes)) (within (b ∷ bytes)))

-- as many as there are bytes are enough
enough : (n m : ℕ) (bytes : List ℕ) → length bytes ≤ n → length bytes ≤ m → frames_up_to n bytes ≡ frames_up_to m bytes
enough zero zero bytes a b = refl
enough zero (suc m) [] a b = refl
enough (suc n) zero [] a b = refl
enough (suc n) (suc m) [] a b = refl
enough zero (suc m) (x ∷ bytes) a b = absurd (omega arith)
enough (suc n) zero (x ∷ bytes) a b = absurd (omega arith)
enough (suc n) (suc m) (x ∷ bytes) a b =
    ap (λ (rest : List Frame). first_frame (x ∷ bytes) ∷ rest)
    (enough n m (after_first (x ∷ bytes)) (omega (arith, shorter x bytes)) (omega (arith, shorter x bytes)))

pub frames_first : (bytes : List ℕ) → 0 < length bytes → frames_of bytes ≡ first_frame bytes ∷ frames_of (after_first bytes)
unfolding frames_of
frames_first [] some = absurd (omega arith)
frames_first (b ∷ bytes) some =
    ap (λ (rest : List Frame). first_frame (b ∷ bytes) ∷ rest)
    (enough (length bytes) (length (after_first (b ∷ bytes))) (after_first (b ∷ bytes)) (shorter b bytes) (omega arith))

pub frames_none : frames_of [] ≡ []
unfolding frames_of
frames_none = refl

-- ---- what stands at the front

-- by what the header says
frames_by : (bytes more : List ℕ) (heading : Heading) → heading_of bytes ≡ heading → (heading ≡ Open → ⊥) → 0 < length bytes →
    frames_of (bytes ++ more) ≡ framed heading (bytes ++ more) ∷ frames_of (drop (size_of heading) (bytes ++ more))
frames_by bytes more heading is some filled =
    frames_first (bytes ++ more) (omega (arith, length-append bytes more))
    ∙ ap (λ (h : Heading). framed h (bytes ++ more) ∷ frames_of (drop (size_of h) (bytes ++ more)))
    (steady bytes more (λ e. some (sym is ∙ e)) ∙ is)

pub front_silent : (bytes more : List ℕ) (size : ℕ) → heading_of bytes ≡ Silent size → 0 < length bytes →
    frames_of (bytes ++ more) ≡ Frame.NoLength ∷ frames_of (drop size (bytes ++ more))
front_silent bytes more size is filled = frames_by bytes more (Silent size) is (λ e. cc) filled

pub front_beyond : (bytes more : List ℕ) (size len : ℕ) → heading_of bytes ≡ Announces size len → 0 < length bytes → MESSAGE_LIMIT < len →
    frames_of (bytes ++ more) ≡ Frame.TooLong len ∷ frames_of (drop (size + len) (bytes ++ more))
front_beyond bytes more size len is filled long =
    frames_by bytes more (Announces size len) is (λ e. cc) filled
    ∙ ap (λ (f : Frame). f ∷ frames_of (drop (size + len) (bytes ++ more)))
    (cond-false (nat_le len MESSAGE_LIMIT) _ (Frame.TooLong len) (lt-leb len MESSAGE_LIMIT long))

pub front_whole : (bytes more : List ℕ) (size len : ℕ) → heading_of bytes ≡ Announces size len → 0 < length bytes → len ≤ MESSAGE_LIMIT → size + len ≤ length bytes →
    frames_of (bytes ++ more) ≡ Frame.Message (take len (drop size bytes)) ∷ frames_of (drop (size + len) (bytes ++ more))
front_whole bytes more size len is filled short there =
    let all : List ℕ = bytes ++ more in
    frames_by bytes more (Announces size len) is (λ e. cc) filled
    ∙ ap (λ (f : Frame). f ∷ frames_of (drop (size + len) all))
    (cond-true (nat_le len MESSAGE_LIMIT) (if nat_le (size + len) (length all) then Frame.Message (take len (drop size all)) else Frame.Cut) (Frame.TooLong len) (le-leb len MESSAGE_LIMIT short)
    ∙ cond-true (nat_le (size + len) (length all)) (Frame.Message (take len (drop size all))) Frame.Cut (le-leb (size + len) (length all) (omega (arith, there, length-append bytes more)))
    ∙ ap (λ (t : List ℕ). Frame.Message t) (ap (take len) (drop-append-le size bytes more (omega (arith, there))) ∙ take-append-le len (drop size bytes) more (omega (arith, there, length-drop size bytes))))

-- a part of a frame, in which the bytes end
pub cut_open : (bytes : List ℕ) → heading_of bytes ≡ Open → 0 < length bytes → frames_of bytes ≡ Frame.Cut ∷ []
cut_open bytes is filled =
    let few : length bytes < HEADER_LIMIT = subst (IsWithin (length bytes)) is (within bytes) in
    frames_first bytes filled
    ∙ ap (λ (h : Heading). framed h bytes ∷ frames_of (drop (size_of h) bytes)) is
    ∙ ap (λ (t : List ℕ). Frame.Cut ∷ frames_of t) (drop_all HEADER_LIMIT bytes (omega (arith, few)))
    ∙ ap (λ (fs : List Frame). Frame.Cut ∷ fs) frames_none

pub cut_announced : (bytes : List ℕ) (size len : ℕ) → heading_of bytes ≡ Announces size len → 0 < length bytes → len ≤ MESSAGE_LIMIT → length bytes < size + len → frames_of bytes ≡ Frame.Cut ∷ []
cut_announced bytes size len is filled short missing =
    frames_first bytes filled
    ∙ ap (λ (h : Heading). framed h bytes ∷ frames_of (drop (size_of h) bytes)) is
    ∙ ap (λ (f : Frame). f ∷ frames_of (drop (size + len) bytes))
    (cond-true (nat_le len MESSAGE_LIMIT) (if nat_le (size + len) (length bytes) then Frame.Message (take len (drop size bytes)) else Frame.Cut) (Frame.TooLong len) (le-leb len MESSAGE_LIMIT short)
    ∙ cond-false (nat_le (size + len) (length bytes)) (Frame.Message (take len (drop size bytes))) Frame.Cut (lt-leb (size + len) (length bytes) missing))
    ∙ ap (λ (t : List ℕ). Frame.Cut ∷ frames_of t) (drop_all (size + len) bytes (omega (arith, missing)))
    ∙ ap (λ (fs : List Frame). Frame.Cut ∷ fs) frames_none
