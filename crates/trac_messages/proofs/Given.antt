-- What is given of bytes that come, and what reads add to them.
use Rattle.std.proofs.Common.{◌≡◌, ℕ, ◌+◌, ◌-◌, ◌<◌, ◌≤◌, Bool, true, false, List, [], ◌∷◌, ◌++◌, length, min, take, drop, refl, sym, ap, subst, ◌∙◌, arith, inl, inr, ⊎_elim}
use Rattle.std.specs.Prelude.{◌⊎◌, Option, if◌then◌else◌}
use Rattle.std.specs.Io.KnownBytes.{Consumes, IsAtEnd}
use Rattle.std.proofs.lemmas.Bool.{cases_lt, false≢true}
use Rattle.std.proofs.lemmas.List.{append-nil, append_assoc, drop-append-le, drop-drop, drop-take, drop_all, drop_at, length-append, length-drop, length-take-le}
use Rattle.trac_streams.specs.declared.ending.Ending.{Ending}
use Rattle.trac_streams.specs.declared.ending.Ending.TheVariants.{Memory, Read}
use Rattle.trac_streams.proofs.Known.{Consumes-both, Consumes-nothing}
use Rattle.trac_messages.specs.declared.incoming.Front.{Front}
use Rattle.trac_messages.specs.declared.incoming.Next.{Next}
use Rattle.trac_messages.specs.Frames.{Frame, frames_of}
use Rattle.trac_messages.specs.Incoming.{Fails, Gathers, Gives, HELD_LIMIT, IsFront, IsGiven, Pending, ReadsMore, coming}
use Rattle.trac_messages.proofs.Framed.{frames_none}

-- ---- reads

pub gathers_none : (a : Option (List ℕ)) (p : Pending) → Gathers a a p p
gathers_none a p = record { got = []; took = Consumes-nothing a; same = λ more. refl; at_end = λ end over. end over }

pub gathers_more : (a b c : Option (List ℕ)) (old mid new : Pending) → Gathers a b old mid → Gathers b c mid new → Gathers a c old new
gathers_more a b c old mid new first second = record {
  got = first.got ++ second.got;
  took = Consumes-both a b c first.got second.got first.took second.took;
  same = λ more. second.same more ∙ first.same (second.got ++ more) ∙ ap (coming old) (sym (append_assoc first.got second.got more));
  at_end = λ end over. second.at_end (first.at_end end) over;
}

pub fails_later : (a b c : Option (List ℕ)) (old mid new : Pending) (ending : Ending) → Gathers a b old mid → Fails b c mid new ending → Fails a c old new ending
fails_later a b c old mid new ending first fails = record { gathers = gathers_more a b c old mid new first fails.gathers; fault = fails.fault }

-- what is given after reads
pub gives : (a b : Option (List ℕ)) (old mid new : Pending) (next : Next) → Gathers a b old mid → IsGiven mid new next → new.ended ≡ mid.ended → Gives a b old new next
gives a b old mid new next first given same = record {
  got = first.got;
  took = first.took;
  frames = λ more end. ap frames_of (sym (first.same more)) ∙ given more end;
  at_end = λ end over. first.at_end end (sym same ∙ over);
}

-- ---- one read

-- more bytes come after those that are held, less those that are to be passed over: there are none of both
dropped : (bytes got more : List ℕ) (skip : ℕ) → (0 < skip → bytes ≡ []) → drop (skip - length got) ((bytes ++ drop skip got) ++ more) ≡ drop skip (bytes ++ (got ++ more))
dropped bytes got more skip none = ⊎_elim
    (λ (some : 0 < skip).
    rw (none some) (⊎_elim
    (λ (few : length got < skip).
    ap (λ (t : List ℕ). drop (skip - length got) (t ++ more)) (drop_all skip got (omega (arith, few)))
    ∙ sym (ap (λ n. drop n (got ++ more)) (sum (length got) skip (omega (arith, few)))
    ∙ sym (drop-drop (skip - length got) (length got) (got ++ more))
    ∙ ap (drop (skip - length got)) (drop_at got more (length got) refl)))
    (λ (many : skip ≤ length got).
    ap (λ n. drop n (drop skip got ++ more)) (zero_of (skip) (length got) many) ∙ sym (drop-append-le skip got more many))
    (cases_lt (length got) skip)))
    (λ (zero_ : skip ≤ 0).
    let is : skip ≡ 0 = omega arith in
    let less : skip - length got ≡ 0 = omega arith in
    ap (λ n. drop n ((bytes ++ drop skip got) ++ more)) less
    ∙ ap (λ n. (bytes ++ drop n got) ++ more) is
    ∙ append_assoc bytes got more
    ∙ ap (λ n. drop n (bytes ++ (got ++ more))) (sym is))
    (cases_lt 0 skip)
  where
    sum : (n m : ℕ) → n ≤ m → m ≡ n + (m - n)
    sum n m l = omega arith

    zero_of : (n m : ℕ) → n ≤ m → n - m ≡ 0
    zero_of n m l = omega arith

-- ---- what is passed over

pub passes_all : (old new : Pending) (len : ℕ) → old.skip ≡ 0 → new.skip ≡ len - length old.bytes → new.bytes ≡ [] → length old.bytes ≤ len →
    (more : List ℕ) → coming new more ≡ drop len (coming old more)
passes_all old new len none skip bytes beyond more =
    let sum : len ≡ length old.bytes + (len - length old.bytes) = omega arith in
    ap (λ n. drop n (new.bytes ++ more)) skip
    ∙ ap (λ (t : List ℕ). drop (len - length old.bytes) (t ++ more)) bytes
    ∙ ap (drop (len - length old.bytes)) (sym (drop_at old.bytes more (length old.bytes) refl))
    ∙ drop-drop (len - length old.bytes) (length old.bytes) (old.bytes ++ more)
    ∙ ap (λ n. drop n (old.bytes ++ more)) (sym sum)
    ∙ ap (λ n. drop len (drop n (old.bytes ++ more))) (sym none)

-- ---- what is given

-- where a frame stands, there are bytes, and none is to be passed over
filled : (bytes : List ℕ) (f : Frame) (fs : List Frame) → frames_of (bytes ++ []) ≡ f ∷ fs → 0 < length bytes
filled [] f fs is = absurd (let none : [] ≡ f ∷ fs = sym frames_none ∙ is in cc)
filled (b ∷ bytes) f fs is = omega arith

pub no_skip : (p : Pending) (f : Frame) (fs : List Frame) → (0 < p.skip → p.bytes ≡ []) → frames_of (p.bytes ++ []) ≡ f ∷ fs → p.skip ≡ 0
no_skip p f fs none is = ⊎_elim
    (λ (some : 0 < p.skip). absurd (omega (arith, ap length (none some), filled p.bytes f fs is)))
    (λ (zero_ : p.skip ≤ 0). omega (arith, zero_))
    (cases_lt 0 p.skip)

-- what comes, if none is to be passed over
plain : (p : Pending) (more : List ℕ) → p.skip ≡ 0 → coming p more ≡ p.bytes ++ more
plain p more none = ap (λ n. drop n (p.bytes ++ more)) none

pub gives_message : (old new : Pending) (size len : ℕ) → old.skip ≡ 0 → size + len ≤ length old.bytes →
    ((more : List ℕ) → frames_of (old.bytes ++ more) ≡ Frame.Message (take len (drop size old.bytes)) ∷ frames_of (drop (size + len) (old.bytes ++ more))) →
    new.message ≡ take len (drop size old.bytes) → new.bytes ≡ drop (size + len) old.bytes → new.skip ≡ old.skip → IsGiven old new Next.Message
gives_message old new size len none within front message bytes same more end =
    ap frames_of (plain old more none)
    ∙ front more
    ∙ ap (λ (t : List ℕ). Frame.Message t ∷ frames_of (drop (size + len) (old.bytes ++ more))) (sym message)
    ∙ ap (λ (t : List ℕ). Frame.Message new.message ∷ frames_of t)
    (drop-append-le (size + len) old.bytes more within ∙ ap (λ (t : List ℕ). t ++ more) (sym bytes) ∙ sym (plain new more (same ∙ none)))

pub gives_beyond : (old mid new : Pending) (size len : ℕ) → old.skip ≡ 0 →
    ((more : List ℕ) → frames_of (old.bytes ++ more) ≡ Frame.TooLong len ∷ frames_of (drop (size + len) (old.bytes ++ more))) →
    ((more : List ℕ) → coming mid more ≡ drop size (coming old more)) → ((more : List ℕ) → coming new more ≡ drop len (coming mid more)) → IsGiven old new (Next.TooLong len)
gives_beyond old mid new size len none front first second more end =
    ap frames_of (plain old more none)
    ∙ front more
    ∙ ap (λ (t : List ℕ). Frame.TooLong len ∷ frames_of t)
    (sym (second more ∙ ap (drop len) (first more ∙ ap (drop size) (plain old more none)) ∙ drop-drop len size (old.bytes ++ more)))

pub gives_silent : (old new : Pending) (size : ℕ) → old.skip ≡ 0 →
    ((more : List ℕ) → frames_of (old.bytes ++ more) ≡ Frame.NoLength ∷ frames_of (drop size (old.bytes ++ more))) →
    ((more : List ℕ) → coming new more ≡ drop size (coming old more)) → IsGiven old new Next.NoLength
gives_silent old new size none front passed more end =
    ap frames_of (plain old more none)
    ∙ front more
    ∙ ap (λ (t : List ℕ). Frame.NoLength ∷ frames_of t) (sym (passed more ∙ ap (drop size) (plain old more none)))

pub gives_cut : (old new : Pending) → old.skip ≡ 0 → old.ended ≡ true → frames_of old.bytes ≡ Frame.Cut ∷ [] → new.bytes ≡ [] → new.skip ≡ 0 → new.ended ≡ old.ended →
    IsGiven old new Next.Cut
gives_cut old new none over front bytes skip same more end =
    let last : more ≡ [] = end (same ∙ over) in
    ap frames_of (plain old more none ∙ ap (λ (t : List ℕ). old.bytes ++ t) last ∙ append-nil old.bytes)
    ∙ front
    ∙ ap (λ (fs : List Frame). Frame.Cut ∷ fs)
    (sym (ap frames_of (plain new more skip ∙ ap (λ (t : List ℕ). t ++ more) bytes ∙ last) ∙ frames_none))

pub gives_end : (p : Pending) → p.bytes ≡ [] → p.ended ≡ true → IsGiven p p Next.End
gives_end p bytes over more end =
    ap frames_of (ap (λ (t : List ℕ). drop p.skip (t ++ more)) bytes ∙ ap (drop p.skip) (end over) ∙ drop_all p.skip [] (omega arith)) ∙ frames_none

-- ---- the turns

-- one read that saw the end
pub reads_end : (a b : Option (List ℕ)) (old new : Pending) (buffer : List ℕ) (n : ℕ) → n ≡ 0 → Consumes a b (take n buffer) → IsAtEnd b →
    new.skip ≡ old.skip → new.bytes ≡ old.bytes → new.ended ≡ true → ReadsMore a b old new
reads_end a b old new buffer n none took end skip bytes over = record {
  gathers = record {
    got = [];
    took = subst (λ m. Consumes a b (take m buffer)) none took;
    same = λ more. ap (λ k. drop k (new.bytes ++ more)) skip ∙ ap (λ (t : List ℕ). drop old.skip (t ++ more)) bytes;
    at_end = λ before over. end;
  };
  more = inl (over, skip, bytes);
}

-- one read that gave a byte at least
pub reads_bytes : (a b : Option (List ℕ)) (old new : Pending) (got : List ℕ) → (0 < old.skip → old.bytes ≡ []) → 0 < length got → Consumes a b got →
    new.skip ≡ old.skip - length got → new.bytes ≡ old.bytes ++ drop old.skip got → new.ended ≡ old.ended → old.ended ≡ false → ReadsMore a b old new
reads_bytes a b old new got none some took skip bytes same open_ =
    let longer : length new.bytes ≡ length old.bytes + length (drop old.skip got) = ap length bytes ∙ length-append old.bytes (drop old.skip got) in
    let ended : new.ended ≡ false = same ∙ open_ in
    record {
      gathers = record {
        got = got;
        took = took;
        same = λ more. ap (λ k. drop k (new.bytes ++ more)) skip ∙ ap (λ (t : List ℕ). drop (old.skip - length got) (t ++ more)) bytes ∙ dropped old.bytes got more old.skip none;
        at_end = λ before over. absurd (false≢true (sym ended ∙ over));
      };
      more = inr (
        ended,
        omega (arith, skip),
        omega (arith, longer),
        omega (arith, longer, skip, length-drop old.skip got, some),
      );
    }

-- a read that failed, or before which memory was refused
pub fails_alone : (a b : Option (List ℕ)) (old new : Pending) (ending : Ending) → Consumes a b [] → new.skip ≡ old.skip → new.bytes ≡ old.bytes → new.ended ≡ old.ended → old.ended ≡ false →
    (ending ≡ Memory) ⊎ (ending ≡ Read) → Fails a b old new ending
fails_alone a b old new ending took skip bytes same open_ fault = record {
  gathers = record {
    got = [];
    took = took;
    same = λ more. ap (λ k. drop k (new.bytes ++ more)) skip ∙ ap (λ (t : List ℕ). drop old.skip (t ++ more)) bytes;
    at_end = λ before over. absurd (false≢true (sym (same ∙ open_) ∙ over));
  };
  fault = fault;
}

-- what is held of a read, as it is cut out of the buffer
pub sliced : (buffer : List ℕ) (skip count over : ℕ) → over ≡ min skip count → count ≤ length buffer → take (count - over) (drop over buffer) ≡ drop skip (take count buffer)
sliced buffer skip count over is within = ⊎_elim
    (λ (few : skip < count).
    let first : over ≡ skip = omega (arith, is, few) in
    let sum : skip + (count - skip) ≡ count = omega arith in
    ap (λ n. take (count - n) (drop n buffer)) first
    ∙ sym (drop-take skip (count - skip) buffer)
    ∙ ap (λ n. drop skip (take n buffer)) sum)
    (λ (many : count ≤ skip).
    let none : count - over ≡ 0 = omega (arith, is, many) in
    ap (λ n. take n (drop over buffer)) none
    ∙ sym (drop_all skip (take count buffer) (omega (arith, length-take-le count buffer within, many))))
    (cases_lt skip count)

-- the same bytes have the same front
pub front_same : (rest bytes : List ℕ) (e ended : Bool) (front : Front) → rest ≡ bytes → e ≡ ended → IsFront rest e front → IsFront bytes ended front
front_same rest bytes e ended front same alike is = subst (λ b. IsFront bytes b front) alike (subst (λ t. IsFront t e front) same is)

-- the end counts as one more read until it is seen
if_ended : (b : Bool) → b ≡ true → ◌≡◌ {A = ℕ} (if b then 0 else 1) 0
if_ended b e = rw e refl

if_open : (b : Bool) → b ≡ false → ◌≡◌ {A = ℕ} (if b then 0 else 1) 1
if_open b e = rw e refl

-- what is left to be read is less with each read
pub fewer_left : (a b : Option (List ℕ)) (old new : Pending) → length old.bytes < HELD_LIMIT → old.ended ≡ false → ReadsMore a b old new →
    new.skip + (HELD_LIMIT - length new.bytes) + (if new.ended then 0 else 1) < old.skip + (HELD_LIMIT - length old.bytes) + (if old.ended then 0 else 1)
fewer_left a b old new few open_ read = ⊎_elim
    (λ (end : (new.ended ≡ true) × (new.skip ≡ old.skip) × (new.bytes ≡ old.bytes)).
    omega (arith, if_ended new.ended end.0, if_open old.ended open_, end.1, ap length end.2))
    (λ (more : (new.ended ≡ false) × (new.skip ≤ old.skip) × (length old.bytes ≤ length new.bytes) × (new.skip + length old.bytes < old.skip + length new.bytes)).
    omega (arith, if_open new.ended more.0, if_open old.ended open_, more.1, more.2, more.3, few))
    read.more
