-- Begun functions that are put into the neutral text, one argument after another.
use Rattle.std.proofs.Common.{◌≡◌, ℕ, zero, suc, ◌+◌, ◌-◌, ◌<◌, ◌≤◌, List, [], ◌∷◌, ◌++◌, length, take, drop, get_or, map, refl, sym, ap, ◌∙◌, subst, arith}
use Rattle.std.specs.Prelude.{Option, Some, None, Vec}
use Rattle.std.specs.List.{concat}
use Rattle.std.proofs.lemmas.List.{append_assoc, append-nil, drop_more, length-append, length-map, length-take-le, map-append, take-map, take_more, take_all}
use Rattle.std.proofs.lemmas.List.Elements.{All-get_or, All-head, All-tail, All-take}
use Rattle.trac_gap.specs.Ends.{Ends, item_count}
use Rattle.trac_rules.specs.declared.kind.Kind.{Kind}
use Rattle.trac_rules.specs.Limits.{argument_bytes, marks, total_length}
use Rattle.trac_rules.specs.State.{Frame}
use Rattle.trac_text.specs.declared.mark.Mark.{Mark}
use Rattle.trac_text.specs.Framing.{texts_of, EachGathers, argument_count, frame_of, frames_of, function_bytes, functions_of}
use Rattle.trac_text.specs.Marks.{argument_marks, comma_marks, mark_at}
use Rattle.trac_text.specs.Neutral.{Neutral}
use Rattle.trac_text.proofs.Ending.{reverse_first}
use Rattle.trac_text.proofs.NeutralAgain.{Shows, mark_size, shows_function, text_size}
use Rattle.trac_text.proofs.Marking.{reverse_push}
use Rattle.trac_rules.proofs.Bounded.{total_length-append}

-- ---- elements that are looked at one after another

module _ {X Y : Type 0} (f : X → Y) (xs : List X) (i : ℕ) (x : X) (within : i < length xs) (is : x ≡ get_or xs i x) where
  -- the elements up to one and with it
  pub map_next : map f (take (i + 1) xs) ≡ map f (take i xs) ++ f x ∷ []
  map_next = ap (map f) (take_more xs i x within ∙ ap (λ y. take i xs ++ y ∷ []) (sym is)) ∙ map-append f (take i xs) (x ∷ [])

  -- those from it on
  pub map_rest : map f (drop i xs) ≡ f x ∷ map f (drop (i + 1) xs)
  map_rest = ap (map f) (drop_more xs i x within) ∙ ap (λ y. f y ∷ map f (drop (i + 1) xs)) (sym is)

-- ---- the arguments of one function

-- the marks of a function are those of its arguments
argument_marks-all : (finished : List (List ℕ)) (gathered : List ℕ) (place : ℕ) (o : Option Kind) →
    argument_marks place o (finished ++ gathered ∷ []) ≡ mark_at place o ∷ comma_marks place (map length finished)
argument_marks-all [] gathered place o = refl
argument_marks-all (text ∷ finished) gathered place o = ap (λ ms. mark_at place o ∷ ms) (argument_marks-all finished gathered (place + length text) None)

-- all texts but the last, and the last one
texts-last : (texts : List (List ℕ)) → 1 ≤ length texts → texts ≡ take (length texts - 1) texts ++ get_or texts (length texts - 1) [] ∷ []
texts-last texts some =
    sym (take_all (length texts - 1 + 1) texts (omega arith)) ∙ take_more texts (length texts - 1) [] (omega arith)

-- with them the function is the innermost one
shows_texts : (text : List ℕ) (ms : List Mark) (n : Neutral) (kind : Kind) (texts : List (List ℕ)) → 1 ≤ length texts → Shows text ms n →
    Shows (text ++ concat texts) (ms ++ argument_marks (length text) (Some kind) texts) (record n { frames = frame_of kind texts ∷ n.frames })
shows_texts text ms n kind texts some shown =
    let finished : List (List ℕ) = take (length texts - 1) texts in
    let gathered : List ℕ = get_or texts (length texts - 1) [] in
    subst (λ ts. Shows (text ++ concat ts) (ms ++ argument_marks (length text) (Some kind) ts) (record n { frames = frame_of kind texts ∷ n.frames })) (sym (texts-last texts some))
    (subst (λ marks. Shows (text ++ concat (finished ++ gathered ∷ [])) (ms ++ marks) (record n { frames = frame_of kind texts ∷ n.frames }))
    (sym (argument_marks-all finished gathered (length text) (Some kind)))
    (shows_function text ms n kind (record { finished = finished; gathered = gathered }) shown))

-- with the arguments that are left, texts and marks are what they are to be, and there is room for these
pub record HasPut (o : Option Kind) (left : List (List ℕ)) (text : Ends ℕ) (ms : Ends Mark) (text_end : Ends ℕ) (ms_end : Ends Mark) : Type 0 where
  pub text_is : record text { left = text.left ++ concat left } ≡ text_end
  pub marks_are : record ms { left = ms.left ++ argument_marks (length text.left) o left } ≡ ms_end
  pub text_room : item_count text + total_length left ≤ text.capacity
  pub mark_room : item_count ms + length left ≤ ms.capacity

-- so it is after the next of them
pub put_next : {o : Option Kind} (argument : List ℕ) {left : List (List ℕ)} {text text_next text_end : Ends ℕ} {ms ms_next ms_end : Ends Mark} →
    HasPut o (argument ∷ left) text ms text_end ms_end → text_next ≡ record text { left = text.left ++ argument } →
    ms_next ≡ record ms { left = ms.left ++ mark_at (length text.left) o ∷ [] } → HasPut None left text_next ms_next text_end ms_end
put_next {o} argument {left} {text} {text_end = text_end} {ms = ms} {ms_next = ms_next} {ms_end = ms_end} put text_is ms_is =
    let mark : Mark = mark_at (length text.left) o in
    let longer : Ends ℕ = record text { left = text.left ++ argument } in
    subst (λ e. HasPut None left e ms_next text_end ms_end) (sym text_is) (subst (λ e. HasPut None left longer e text_end ms_end) (sym ms_is) (record {
      text_is = ap (λ bytes. let all : Ends ℕ = record text { left = bytes } in all) (append_assoc text.left argument (concat left)) ∙ put.text_is;
      marks_are =
          ap (λ more. let all : Ends Mark = record ms { left = more } in all)
          (append_assoc ms.left (mark ∷ []) (argument_marks (length (text.left ++ argument)) None left)
          ∙ ap (λ n. ms.left ++ mark ∷ argument_marks n None left) (length-append text.left argument))
          ∙ put.marks_are;
      text_room = omega (arith, put.text_room, length-append text.left argument);
      mark_room = omega (arith, put.mark_room, length-append ms.left (mark ∷ []));
    }))

-- and after the last one nothing is left to do
pub put_all : {o : Option Kind} {left : List (List ℕ)} {text text_end : Ends ℕ} {ms ms_end : Ends Mark} → HasPut o left text ms text_end ms_end → left ≡ [] → (text ≡ text_end) × (ms ≡ ms_end)
put_all {o} {left} {text} {ms = ms} put none = (
  ap (λ bytes. let all : Ends ℕ = record text { left = bytes } in all) (sym (append-nil text.left) ∙ ap (λ ts. text.left ++ concat ts) (sym none)) ∙ put.text_is,
  ap (λ more. let all : Ends Mark = record ms { left = more } in all) (sym (append-nil ms.left) ∙ ap (λ ts. ms.left ++ argument_marks (length text.left) o ts) (sym none)) ∙ put.marks_are,
)

-- ---- sizes

-- one more text
pub total_more : {A : Type 0} (texts : List (Vec ℕ A)) (i : ℕ) (text : Vec ℕ A) → i < length texts → text ≡ get_or texts i text →
    total_length (texts_of (take (i + 1) texts)) ≡ total_length (texts_of (take i texts)) + length text.items
total_more {A} texts i text within is =
    ap total_length (map_next (λ (t : Vec ℕ A). t.items) texts i text within is) ∙ total_length-append (texts_of (take i texts)) text.items

-- one more function
functions_of-next : {A : Type 0} (functions : List (Kind × Vec (Vec ℕ A) A)) (i : ℕ) (f : Kind × Vec (Vec ℕ A) A) → i < length functions → f ≡ get_or functions i f →
    functions_of (take (i + 1) functions) ≡ functions_of (take i functions) ++ (f.0, texts_of f.1.items) ∷ []
functions_of-next {A} = map_next (λ (g : Kind × Vec (Vec ℕ A) A). (g.0, texts_of g.1.items))

function_bytes-push : (fs : List (Kind × List (List ℕ))) (f : Kind × List (List ℕ)) → function_bytes (fs ++ f ∷ []) ≡ function_bytes fs + total_length f.1
function_bytes-push [] f = omega arith
function_bytes-push (g ∷ fs) f = omega (arith, function_bytes-push fs f)

argument_count-push : (fs : List (Kind × List (List ℕ))) (f : Kind × List (List ℕ)) → argument_count (fs ++ f ∷ []) ≡ argument_count fs + length f.1
argument_count-push [] f = omega arith
argument_count-push (g ∷ fs) f = omega (arith, argument_count-push fs f)

module _ {A : Type 0} (functions : List (Kind × Vec (Vec ℕ A) A)) (i : ℕ) (f : Kind × Vec (Vec ℕ A) A) (within : i < length functions) (is : f ≡ get_or functions i f) where
  pub bytes_more : function_bytes (functions_of (take (i + 1) functions)) ≡ function_bytes (functions_of (take i functions)) + total_length (texts_of f.1.items)
  bytes_more = ap function_bytes (functions_of-next functions i f within is) ∙ function_bytes-push (functions_of (take i functions)) (f.0, texts_of f.1.items)

  pub count_more : argument_count (functions_of (take (i + 1) functions)) ≡ argument_count (functions_of (take i functions)) + length f.1.items
  count_more =
      ap argument_count (functions_of-next functions i f within is)
      ∙ argument_count-push (functions_of (take i functions)) (f.0, texts_of f.1.items)
      ∙ ap (λ n. argument_count (functions_of (take i functions)) + n) (length-map f.1.items (λ (t : Vec ℕ A). t.items))

-- no part of the functions has more bytes, and more arguments, than all of them
bytes_within : (functions : List (Kind × List (List ℕ))) (i : ℕ) → function_bytes (take i functions) ≤ function_bytes functions
bytes_within [] zero = omega arith
bytes_within [] (suc i) = omega arith
bytes_within (f ∷ functions) zero = omega arith
bytes_within (f ∷ functions) (suc i) = omega (arith, bytes_within functions i)

count_within : (functions : List (Kind × List (List ℕ))) (i : ℕ) → argument_count (take i functions) ≤ argument_count functions
count_within [] zero = omega arith
count_within [] (suc i) = omega arith
count_within (f ∷ functions) zero = omega arith
count_within (f ∷ functions) (suc i) = omega (arith, count_within functions i)

-- ---- the sizes of frames are those of the functions

frame_bytes : (kind : Kind) (texts : List (List ℕ)) → total_length (frame_of kind texts).arguments + length (frame_of kind texts).gathered ≡ total_length texts
frame_bytes kind [] = omega arith
frame_bytes kind (text ∷ texts) =
    let all : List (List ℕ) = text ∷ texts in
    omega (
      arith,
      ap total_length (texts-last (text ∷ texts) (omega arith)),
      total_length-append (take (length all - 1) all) (get_or all (length all - 1) []),
    )

argument_bytes-push : (frames : List Frame) (f : Frame) → argument_bytes (frames ++ f ∷ []) ≡ argument_bytes frames + (total_length f.arguments + length f.gathered)
argument_bytes-push [] f = omega arith
argument_bytes-push (g ∷ frames) f = omega (arith, argument_bytes-push frames f)

marks-push : (frames : List Frame) (f : Frame) → marks (frames ++ f ∷ []) ≡ marks frames + (1 + length f.arguments)
marks-push [] f = omega arith
marks-push (g ∷ frames) f = omega (arith, marks-push frames f)

frames_first : (f : Kind × List (List ℕ)) (functions : List (Kind × List (List ℕ))) → frames_of (f ∷ functions) ≡ frames_of functions ++ frame_of f.0 f.1 ∷ []
frames_first f functions = reverse_first (frame_of f.0 f.1) (map (λ f. frame_of f.0 f.1) functions)

pub bytes_of_frames : (functions : List (Kind × List (List ℕ))) → argument_bytes (frames_of functions) ≡ function_bytes functions
bytes_of_frames [] = refl
bytes_of_frames (f ∷ functions) = omega (
  arith,
  ap argument_bytes (frames_first f functions),
  argument_bytes-push (frames_of functions) (frame_of f.0 f.1),
  bytes_of_frames functions,
  frame_bytes f.0 f.1,
)

-- where each has an argument
pub marks_of_frames : {A : Type 0} (functions : List (Kind × Vec (Vec ℕ A) A)) → EachGathers functions → marks (frames_of (functions_of functions)) ≡ argument_count (functions_of functions)
marks_of_frames [] each = refl
marks_of_frames {A} (f ∷ functions) each =
    let some = All-head (λ (g : Kind × Vec (Vec ℕ A) A). 1 ≤ length g.1.items) f functions each in
    let count = length-map f.1.items (λ (t : Vec ℕ A). t.items) in
    omega (
      arith,
      ap marks (frames_first (f.0, texts_of f.1.items) (functions_of functions)),
      marks-push (frames_of (functions_of functions)) (frame_of f.0 (texts_of f.1.items)),
      marks_of_frames functions (All-tail (λ (g : Kind × Vec (Vec ℕ A) A). 1 ≤ length g.1.items) f functions each),
      length-take-le (length (texts_of f.1.items) - 1) (texts_of f.1.items) (omega arith),
      some,
      count,
    )

-- ---- the loop over functions

-- what has been begun so far, of these functions: they stand within the base text, and nothing else is in the lists but the active text
pub record HasBegun {A : Type 0} (functions : List (Kind × Vec (Vec ℕ A) A)) (base active : List ℕ) (i : ℕ) (text : Ends ℕ) (ms : Ends Mark) : Type 0 where
  pub shows : Shows text.left ms.left (record { base = base; frames = frames_of (functions_of (take i functions)) })
  pub right_is : text.right ≡ active
  pub no_others : ms.right ≡ []

module _ {A : Type 0} {functions : List (Kind × Vec (Vec ℕ A) A)} {base active : List ℕ} {text : Ends ℕ} {ms : Ends Mark} {i : ℕ} (begun : HasBegun functions base active i text ms) (each : EachGathers functions) where
  -- how much texts and marks hold now
  begun_sizes : (item_count text ≡ length base + length active + function_bytes (functions_of (take i functions))) × (item_count ms ≡ argument_count (functions_of (take i functions)))
  begun_sizes =
      let part = All-take (λ (g : Kind × Vec (Vec ℕ A) A). 1 ≤ length g.1.items) i functions each in (
        omega (arith, text_size text.left ms.left _ begun.shows, bytes_of_frames (functions_of (take i functions)), ap length begun.right_is),
        omega (arith, mark_size text.left ms.left _ begun.shows, marks_of_frames (take i functions) part, ap length begun.no_others),
      )

  -- there is room for the next one
  pub begun_room : (f : Kind × Vec (Vec ℕ A) A) → i < length functions → f ≡ get_or functions i f → length base + length active + function_bytes (functions_of functions) ≤ text.capacity →
      argument_count (functions_of functions) ≤ ms.capacity → (item_count text + total_length (texts_of f.1.items) ≤ text.capacity) × (item_count ms + length f.1.items ≤ ms.capacity)
  begun_room f within is text_room mark_room =
      let part : functions_of (take (i + 1) functions) ≡ take (i + 1) (functions_of functions) = sym (take-map (λ (g : Kind × Vec (Vec ℕ A) A). (g.0, texts_of g.1.items)) (i + 1) functions) in (
        omega (arith, begun_sizes.0, text_room, bytes_more functions i f within is, bytes_within (functions_of functions) (i + 1), ap function_bytes part),
        omega (arith, begun_sizes.1, mark_room, count_more functions i f within is, count_within (functions_of functions) (i + 1), ap argument_count part),
      )

  -- all of them fit
  pub begun_all : length functions ≤ i → length base + length active + function_bytes (functions_of functions) ≤ text.capacity → argument_count (functions_of functions) ≤ ms.capacity →
      Shows text.left ms.left (record { base = base; frames = frames_of (functions_of functions) }) × (item_count text ≤ text.capacity) × (item_count ms ≤ ms.capacity)
  begun_all past text_room mark_room =
      let all = take_all i functions past in
      let sizes = rw all at begun_sizes in
      (rw all at begun.shows, omega (arith, sizes.0, text_room), omega (arith, sizes.1, mark_room))

  -- and then it is begun
  pub begun_next : (f : Kind × Vec (Vec ℕ A) A) → i < length functions → f ≡ get_or functions i f → {text_next : Ends ℕ} {ms_next : Ends Mark} →
      text_next ≡ record text { left = text.left ++ concat (texts_of f.1.items) } →
      ms_next ≡ record ms { left = ms.left ++ argument_marks (length text.left) (Some f.0) (texts_of f.1.items) } → HasBegun functions base active (i + 1) text_next ms_next
  begun_next f within is text_is ms_is = rw (text_is, ms_is) (record {
    shows = rw (functions_of-next functions i f within is)
        (rw (map-append (λ g. frame_of g.0 g.1) (functions_of (take i functions)) ((f.0, texts_of f.1.items) ∷ []), reverse_push)
        (shows_texts text.left ms.left _ f.0 (texts_of f.1.items) some begun.shows));
    right_is = begun.right_is;
    no_others = begun.no_others;
  })
    where
      some : 1 ≤ length (texts_of f.1.items)
      some =
          let here : 1 ≤ length f.1.items = subst (λ (g : Kind × Vec (Vec ℕ A) A). 1 ≤ length g.1.items) (sym is) (All-get_or (λ (g : Kind × Vec (Vec ℕ A) A). 1 ≤ length g.1.items) functions i f within each) in
          omega (arith, here, length-map f.1.items (λ (t : Vec ℕ A). t.items))
