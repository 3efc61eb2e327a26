-- Bytes that are read, a read after the other.
use Rattle.std.proofs.Common.{◌≡◌, ℕ, ◌+◌, ◌-◌, ◌<◌, ◌≤◌, Bool, true, false, List, [], ◌++◌, length, refl, sym, ap, subst, ◌∙◌, arith, inl, inr, ⊎_elim}
use Rattle.std.specs.Prelude.{◌⊎◌, Option, None, Some, take, if◌then◌else◌}
use Rattle.std.specs.Io.KnownBytes.{Consumes, IsAtEnd, Keeps}
use Rattle.std.proofs.lemmas.Bool.{false≢true, cases_Bool}
use Rattle.std.proofs.lemmas.List.{append-nil, append_assoc, length-append, length-take-le}
use Rattle.trac_streams.specs.declared.ending.Ending.{Ending}
use Rattle.trac_streams.specs.declared.ending.Ending.TheVariants.{Memory, Read}
use Rattle.trac_streams.proofs.Known.{Consumes-both, Consumes-nothing}
use Rattle.trac_streams.specs.declared.lines.NextLine.{NextLine}
use Rattle.trac_streams.specs.declared.lines.NextLine.TheVariants.{Part}
use Rattle.trac_streams.specs.declared.lines.TheConstants.{LINE_LIMIT}
use Rattle.trac_streams.specs.Pending.{Pending}
use Rattle.trac_streams.specs.Reading.{AreInLine, Gathers, GathersBy, HELD_LIMIT, IsFront, LastRead, MayFail, FailsBy, ReadsMore, CameBy, CountsReads, end_reads, fault_reads, empty_reads}

-- a text that goes on has gone on before
pub open_before : (a b : Option (List ℕ)) (old mid : Pending) → Gathers a b old mid → mid.ended ≡ false → old.ended ≡ false
open_before a b old mid first on = ⊎_elim
    (λ (over : old.ended ≡ true). absurd (false≢true (sym on ∙ (first.closed over).1)))
    (λ (open_ : old.ended ≡ false). open_)
    (cases_Bool old.ended)

-- what stood there before a later read
part_before : (a b : Option (List ℕ)) (old mid : Pending) (before : List ℕ) → (first : Gathers a b old mid) → IsFront (mid.bytes ++ before) mid.ended Part → IsFront (old.bytes ++ (first.got ++ before)) old.ended Part
part_before a b old mid before first part =
    let all : mid.bytes ++ before ≡ old.bytes ++ (first.got ++ before) = ap (λ t. t ++ before) first.bytes ∙ append_assoc old.bytes first.got before in
    subst (λ t. IsFront t old.ended Part) all (open_before a b old mid first part.0, part.1, part.2)

-- a line was being read before the reads of one part, and of the next
in_line_both : (a b : Option (List ℕ)) (old mid : Pending) (saw_end : Bool) (more : List ℕ) → (first : Gathers a b old mid) → AreInLine mid saw_end more → AreInLine old saw_end (first.got ++ more)
in_line_both a b old mid saw_end more first (inl none) =
    subst (λ g. AreInLine old saw_end g) (sym (ap (λ g. first.got ++ g) none.0 ∙ append-nil first.got))
    (subst (λ over. AreInLine old over first.got) (sym none.1) first.in_line)
in_line_both a b old mid saw_end more first (inr last) = inr (record {
  before = first.got ++ last.before;
  piece = last.piece;
  all = ap (λ g. first.got ++ g) last.all ∙ sym (append_assoc first.got last.before last.piece);
  few = last.few;
  part = part_before a b old mid last.before first last.part;
  at_end = last.at_end;
})

-- before the only read
part_alone : (bytes : List ℕ) (ended : Bool) → IsFront bytes ended Part → IsFront (bytes ++ []) ended Part
part_alone bytes ended part = subst (λ t. IsFront t ended Part) (sym (append-nil bytes)) part

-- no more is held after reads than may be
pub few_held : (a b : Option (List ℕ)) (old new : Pending) → (read : Gathers a b old new) → (read.got ≡ []) ⊎ (length new.bytes ≤ HELD_LIMIT)
few_held a b old new read = ⊎_elim
    (λ (none : (read.got ≡ []) × (new.ended ≡ old.ended)). inl none.0)
    (λ (last : LastRead old new.ended read.got).
    inr (omega (arith, ap length read.bytes, length-append old.bytes read.got, ap length last.all, length-append last.before last.piece, last.few, last.part.1, length-append old.bytes last.before)))
    read.in_line

-- one read more
pub gathers_more : (a b c : Option (List ℕ)) (old mid new : Pending) → Gathers a b old mid → Gathers b c mid new → Gathers a c old new
gathers_more a b c old mid new first second = record {
  got = first.got ++ second.got;
  took = Consumes-both a b c first.got second.got first.took second.took;
  bytes = second.bytes ∙ ap (λ t. t ++ second.got) first.bytes ∙ append_assoc old.bytes first.got second.got;
  closed = λ over.
      let one = first.closed over in
      let two = second.closed one.1 in
      (ap (λ t. t ++ second.got) one.0 ∙ two.0, two.1);
  at_end = second.at_end;
  in_line = in_line_both a b old mid new.ended second.got first second.in_line;
}

-- ---- how many reads there were

-- none gave nothing
pub came_by_none : CameBy 0 []
came_by_none = (omega arith, omega arith)

-- those of one part and of the next
pub came_by_both : (m n : ℕ) (first second : List ℕ) → CameBy m first → CameBy n second → CameBy (m + n) (first ++ second)
came_by_both m n first second one two = (omega (arith, one.0, two.0, length-append first second), omega (arith, one.1, two.1, length-append first second))

-- one read, of a buffer
pub came_by_one : (buffer : List ℕ) (n : ℕ) → 0 < n → n ≤ length buffer → length buffer ≤ 4096 → CameBy 1 (take n buffer)
came_by_one buffer n some within size = (omega (arith, some, length-take-le n buffer within), omega (arith, size, within, length-take-le n buffer within))

-- the end is seen by one read at most
pub end_reads_one : (b : Bool) → end_reads b ≤ 1
end_reads_one true = omega arith
end_reads_one false = omega arith

-- before the end is seen, no read has seen it
pub end_reads_open : (b : Bool) → b ≡ false → end_reads b ≡ 0
end_reads_open b e = rw e refl

pub end_reads_ended : (b : Bool) → b ≡ true → end_reads b ≡ 1
end_reads_ended b e = rw e refl

pub fault_reads_one : (ending : Ending) → fault_reads ending ≤ 1
fault_reads_one Read = omega arith
fault_reads_one ending = omega arith

-- the last read gives nothing, and no other
pub empty_reads_one : (b : Bool) (ending : Ending) → empty_reads b ending ≤ 1
empty_reads_one true ending = omega arith
empty_reads_one false ending = fault_reads_one ending

-- before the end is seen, only a read that fails gives nothing
pub empty_reads_open : (b : Bool) (ending : Ending) → b ≡ false → empty_reads b ending ≡ fault_reads ending
empty_reads_open b ending e = rw e refl

-- without a fault, only the read that sees the end
pub empty_reads_sound : (b : Bool) (ending : Ending) → fault_reads ending ≡ 0 → empty_reads b ending ≡ end_reads b
empty_reads_sound true ending sound = refl
empty_reads_sound false ending sound = sound

-- there is one read for each byte at most, and one that gives nothing
pub reads_counted : (reads : ℕ) (got : List ℕ) (saw_end : Bool) (ending : Ending) → CountsReads reads got saw_end ending → reads ≤ length got + 1
reads_counted reads got saw_end ending counts = omega (arith, counts.1.0, counts.2, empty_reads_one saw_end ending)

-- one read more, counted
pub gathers_by_more : (a b c : Option (List ℕ)) (k l m : ℕ) (old mid new : Pending) → GathersBy a b k l old mid → GathersBy b c l m mid new → GathersBy a c k m old new
unfolding gathers_more
gathers_by_more a b c k l m old mid new first second = record {
  gathers = gathers_more a b c old mid new first.gathers second.gathers;
  full = first.full + second.full;
  came = came_by_both first.full second.full first.gathers.got second.gathers.got first.came second.came;
  counted = omega (arith, first.counted, second.counted);
}

-- nothing is read, or nothing more
pub gathers_by_none : (a : Option (List ℕ)) (k : ℕ) (old : Pending) → (old.ended ≡ true → IsAtEnd a) → GathersBy a a k k old old
gathers_by_none a k old at_end = record {
  gathers = record {
    got = [];
    took = Consumes-nothing a;
    bytes = sym (append-nil old.bytes);
    closed = λ over. (refl, over);
    at_end = at_end;
    in_line = inl (refl, refl);
  };
  full = 0;
  came = came_by_none;
  counted = omega arith;
}

-- so many reads there were at most
pub few_gathered : (a b : Option (List ℕ)) (k l : ℕ) (old new : Pending) → GathersBy a b k l old new → l ≤ k + HELD_LIMIT + 1
few_gathered a b k l old new read = ⊎_elim
    (λ (none : read.gathers.got ≡ []). omega (arith, read.came.0, ap length none, read.counted, end_reads_one new.ended))
    (λ (few : length new.bytes ≤ HELD_LIMIT).
    omega (arith, read.came.0, ap length read.gathers.bytes, length-append old.bytes read.gathers.got, few, read.counted, end_reads_one new.ended))
    (few_held a b old new read.gathers)

-- the end, by one read
pub reads_end : (a b : Option (List ℕ)) (k : ℕ) (old new : Pending) (buffer : List ℕ) (n : ℕ) → IsFront old.bytes old.ended Part → n ≡ 0 → Consumes a b (take n buffer) → IsAtEnd b →
    new ≡ record old { ended = true } → ReadsMore a b k (k + 1) old new
reads_end a b k old new buffer n part none took end same =
    let open_ : old.ended ≡ false = part.0 in
    let ended : new.ended ≡ true = ap (λ (p : Pending). p.ended) same in
    let bytes : new.bytes ≡ old.bytes = ap (λ (p : Pending). p.bytes) same in
    record {
      gathers = record {
        gathers = record {
          got = [];
          took = subst (λ m. Consumes a b (take m buffer)) none took;
          bytes = bytes ∙ sym (append-nil old.bytes);
          closed = λ over. absurd (false≢true (sym open_ ∙ over));
          at_end = λ _. end;
          in_line = inr (record { before = []; piece = []; all = refl; few = omega arith; part = part_alone old.bytes old.ended part; at_end = λ _. refl });
        };
        full = 0;
        came = came_by_none;
        counted = omega (arith, end_reads_open old.ended open_, end_reads_ended new.ended ended);
      };
      more = inl (ended, bytes);
    }

-- more bytes, by one read
pub reads_bytes : (a b : Option (List ℕ)) (k : ℕ) (old new : Pending) (buffer : List ℕ) (n : ℕ) → IsFront old.bytes old.ended Part → 0 < n → n ≤ length buffer → length buffer ≤ 4096 →
    Consumes a b (take n buffer) → new ≡ record old { bytes = old.bytes ++ take n buffer } → ReadsMore a b k (k + 1) old new
reads_bytes a b k old new buffer n part some within size took same =
    let open_ : old.ended ≡ false = part.0 in
    let ended : new.ended ≡ false = ap (λ (p : Pending). p.ended) same ∙ open_ in
    let bytes : new.bytes ≡ old.bytes ++ take n buffer = ap (λ (p : Pending). p.bytes) same in
    let longer : length new.bytes ≡ length old.bytes + length (take n buffer) = ap length bytes ∙ length-append old.bytes (take n buffer) in
    let came : CameBy 1 (take n buffer) = came_by_one buffer n some within size in
    record {
      gathers = record {
        gathers = record {
          got = take n buffer;
          took = took;
          bytes = bytes;
          closed = λ over. absurd (false≢true (sym open_ ∙ over));
          at_end = λ over. absurd (false≢true (sym ended ∙ over));
          in_line = inr (record {
            before = [];
            piece = take n buffer;
            all = refl;
            few = omega (arith, came.1);
            part = part_alone old.bytes old.ended part;
            at_end = λ over. absurd (false≢true (sym ended ∙ over));
          });
        };
        full = 1;
        came = came;
        counted = omega (arith, end_reads_open old.ended open_, end_reads_open new.ended ended);
      };
      more = inr (ended, omega (arith, longer, came.0));
    }

-- ---- reads that fail

-- what a reader kept, nothing was read of
pub Consumes-kept : (a b : Option (List ℕ)) → Keeps a b → Consumes a b []
Consumes-kept None b kept = tt
Consumes-kept (Some xs) None kept = absurd kept
Consumes-kept (Some xs) (Some ys) kept = sym kept

-- a read that failed, or before which memory was refused: what was read stands
pub fails_alone : (a b : Option (List ℕ)) (k l : ℕ) (old new : Pending) (ending : Ending) → IsFront old.bytes old.ended Part → Consumes a b [] → new ≡ old → (ending ≡ Memory) ⊎ (ending ≡ Read) →
    l ≡ k + fault_reads ending → FailsBy a b k l old new ending
fails_alone a b k l old new ending part took same fault reads =
    let ended : new.ended ≡ false = ap (λ (p : Pending). p.ended) same ∙ part.0 in
    record {
      fails = record {
        gathers = record {
          got = [];
          took = took;
          bytes = ap (λ (p : Pending). p.bytes) same ∙ sym (append-nil old.bytes);
          closed = λ over. absurd (false≢true (sym part.0 ∙ over));
          at_end = λ over. absurd (false≢true (sym ended ∙ over));
          in_line = inl (refl, ap (λ (p : Pending). p.ended) same);
        };
        part = subst (λ (p : Pending). IsFront p.bytes p.ended Part) (sym same) part;
        fault = fault;
      };
      full = 0;
      came = came_by_none;
      counted = omega (arith, reads);
    }

-- a read that failed after others
pub fails_later : (a b c : Option (List ℕ)) (old mid new : Pending) (ending : Ending) → Gathers a b old mid → MayFail b c mid new ending → MayFail a c old new ending
fails_later a b c old mid new ending first failed = record { gathers = gathers_more a b c old mid new first failed.gathers; part = failed.part; fault = failed.fault }

-- the same, counted
pub fails_by_later : (a b c : Option (List ℕ)) (k l m : ℕ) (old mid new : Pending) (ending : Ending) → GathersBy a b k l old mid → FailsBy b c l m mid new ending → FailsBy a c k m old new ending
unfolding fails_later gathers_more
fails_by_later a b c k l m old mid new ending first failed =
    let on : mid.ended ≡ false = open_before b c mid new failed.fails.gathers failed.fails.part.0 in
    record {
      fails = fails_later a b c old mid new ending first.gathers failed.fails;
      full = first.full + failed.full;
      came = came_by_both first.full failed.full first.gathers.got failed.fails.gathers.got first.came failed.came;
      counted = omega (arith, first.counted, failed.counted, end_reads_open old.ended (open_before a b old mid first.gathers on), end_reads_open mid.ended on);
    }

-- ---- the turns

-- the end of a text counts as one more read until it has come
pub if_ended : (b : Bool) → b ≡ true → ◌≡◌ {A = ℕ} (if b then 0 else 1) 0
if_ended b e = rw e refl

pub if_open : (b : Bool) → b ≡ false → ◌≡◌ {A = ℕ} (if b then 0 else 1) 1
if_open b e = rw e refl

-- it is less with each read
pub fewer_left : (a b : Option (List ℕ)) (k l : ℕ) (old new : Pending) → IsFront old.bytes old.ended Part → ReadsMore a b k l old new →
    (LINE_LIMIT + 2 - length new.bytes) + (if new.ended then 0 else 1) < (LINE_LIMIT + 2 - length old.bytes) + (if old.ended then 0 else 1)
fewer_left a b k l old new part read = ⊎_elim
    (λ (end : (new.ended ≡ true) × (new.bytes ≡ old.bytes)).
    omega (arith, if_ended new.ended end.0, if_open old.ended part.0, ap length end.1))
    (λ (more : (new.ended ≡ false) × (length old.bytes < length new.bytes)).
    omega (arith, if_open new.ended more.0, if_open old.ended part.0, more.1, part.1))
    read.more

-- the same bytes have the same front
pub front_same : (rest bytes : List ℕ) (e ended : Bool) (front : NextLine) → rest ≡ bytes → e ≡ ended → IsFront rest e front → IsFront bytes ended front
front_same rest bytes e ended front same alike is = subst (λ b. IsFront bytes b front) alike (subst (λ t. IsFront t e front) same is)
