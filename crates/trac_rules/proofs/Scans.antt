-- Scanning leaves all but texts and begun functions.
use Rattle.std.proofs.Common.{◌≡◌, ℕ, List, [], ◌∷◌, ◌++◌, take, drop, refl, ◌∙◌}
use Rattle.trac_rules.specs.declared.kind.Kind.TheVariants.{Active, Neutral}
use Rattle.trac_rules.specs.declared.scan.Front.{Front}
use Rattle.trac_rules.specs.declared.scan.Front.TheVariants.{Nothing, Opening, Layout, Comma, ActiveCall, NeutralCall, Sharp, Closing, Plain}
use Rattle.trac_rules.specs.Bytes.{idle_program}
use Rattle.trac_rules.specs.Matching.{protected}
use Rattle.trac_rules.specs.Scanning.{Scanned, Moves, Calls, gathered_in, deleted, comma_in, closing_in, with_next_argument, front_of, scan_at, scan}
use Rattle.trac_rules.specs.State.{Frame, State}

-- what scanning gives shows what the state shows
abbrev pub ScanShows : {T : Type 0} → (State → T) → State → Scanned → Type 0
ScanShows view s (Moves t) = view t ≡ view s
ScanShows view s (Calls call) = view call.state ≡ view s

-- a view sees no texts and no begun functions
abbrev pub IsAside : {T : Type 0} → (State → T) → Type 0
IsAside view = (s : State) (active base : List ℕ) (frames : List Frame) → view (record s { active = active; base = base; frames = frames }) ≡ view s

pub gathered_in_shows : {T : Type 0} (view : State → T) → IsAside view → (frames : List Frame) (text : List ℕ) (s : State) → view (gathered_in frames text s) ≡ view s
gathered_in_shows view aside [] text s = aside s s.active (s.base ++ text) s.frames
gathered_in_shows view aside (f ∷ fs) text s = aside s s.active s.base (record f { gathered = f.gathered ++ text } ∷ fs)

pub scan_at_shows : {T : Type 0} (view : State → T) → IsAside view → (front : Front) (s : State) → ScanShows view s (scan_at front s)
scan_at_shows view aside front s = go front
  where
    less : (n : ℕ) → view (deleted n s) ≡ view s
    less n = aside s (drop n s.active) s.base s.frames

    comma : (frames : List Frame) → view (comma_in frames (deleted 1 s)) ≡ view s
    comma [] = less 1
    comma (f ∷ fs) = aside s (drop 1 s.active) s.base (with_next_argument f ∷ fs)

    closing : (frames : List Frame) → ScanShows view s (closing_in frames (deleted 1 s))
    closing [] = less 1
    closing (f ∷ fs) = aside s (drop 1 s.active) s.base fs

    first : view (gathered_in s.frames (take 1 s.active) (deleted 1 s)) ≡ view s
    first = gathered_in_shows view aside s.frames (take 1 s.active) (deleted 1 s) ∙ less 1

    go : (f : Front) → ScanShows view s (scan_at f s)
    go Nothing = aside s idle_program [] []
    go Opening =
        let p = protected (drop 1 s.active) in
        gathered_in_shows view aside s.frames p.inner (record s { active = p.rest }) ∙ aside s p.rest s.base s.frames
    go Layout = less 1
    go Comma = comma s.frames
    go ActiveCall = aside s (drop 2 s.active) s.base (record { kind = Active; arguments = []; gathered = [] } ∷ s.frames)
    go NeutralCall = aside s (drop 3 s.active) s.base (record { kind = Neutral; arguments = []; gathered = [] } ∷ s.frames)
    go Sharp = first
    go Closing = closing s.frames
    go Plain = first

pub scan_shows : {T : Type 0} (view : State → T) → IsAside view → (s : State) → ScanShows view s (scan s)
unfolding scan
scan_shows view aside s = scan_at_shows view aside (front_of s.active) s

-- how far the tape is read
abbrev pub place_of : State → ℕ
place_of s = s.position

pub scan_keeps_place : (s : State) → ScanShows place_of s (scan s)
scan_keeps_place s = scan_shows place_of (λ t active base frames. refl) s
