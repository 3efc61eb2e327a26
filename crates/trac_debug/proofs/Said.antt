-- The words of a line, one after another.
use Rattle.std.proofs.Common.{◌≡◌, ℕ, ◌+◌, ◌==◌, true, false, List, [], ◌∷◌, take, drop, refl, sym, ap, ◌∙◌, ⊎_elim}
use Rattle.std.specs.Prelude.{Option, None, Some, is_some}
use Rattle.std.specs.List.{onto_first}
use Rattle.std.proofs.lemmas.List.Splits.{slice_split-cons_yes, slice_split-cons_no}
use Rattle.std.proofs.lemmas.Bool.{cases_Bool}
use Rattle.trac_debug.specs.declared.command.TheConstants.{SPACE}
use Rattle.trac_debug.specs.Commands.{words_of, said_by, command_of, alone, with_one, with_two}
use Rattle.trac_streams.specs.Reading.{IsPlace}
use Rattle.trac_streams.proofs.Splitting.{split_at, split_none}

-- a first word, and those after its space
words_at : (text : List ℕ) (place : ℕ) → IsPlace SPACE text (Some place) → words_of text ≡ take place text ∷ words_of (drop (place + 1) text)
words_at text place found = ap words_of found.2 ∙ split_at (λ b. b == SPACE) (take place text) SPACE (drop (place + 1) text) found.1 refl

-- a word alone
words_none : (text : List ℕ) → IsPlace SPACE text None → words_of text ≡ text ∷ []
words_none text none = split_none (λ b. b == SPACE) text none

-- a line of one word
pub said_alone : (line : List ℕ) → IsPlace SPACE line None → command_of line ≡ alone line
unfolding command_of
said_alone line none = ap said_by (words_none line none)

-- of two words
pub said_with_one : (line word rest : List ℕ) (place : ℕ) → IsPlace SPACE line (Some place) → word ≡ take place line → rest ≡ drop (place + 1) line → IsPlace SPACE rest None →
    command_of line ≡ with_one word rest
unfolding command_of
said_with_one line word rest place found is_word is_rest none =
    ap said_by (words_at line place found ∙ ap (λ w. w ∷ words_of (drop (place + 1) line)) (sym is_word) ∙ ap (λ r. word ∷ words_of r) (sym is_rest)
    ∙ ap (λ ws. word ∷ ws) (words_none rest none))

-- the first two words, and those after them
words_two : (line word rest first last : List ℕ) (place second : ℕ) → IsPlace SPACE line (Some place) → word ≡ take place line → rest ≡ drop (place + 1) line →
    IsPlace SPACE rest (Some second) → first ≡ take second rest → last ≡ drop (second + 1) rest → words_of line ≡ word ∷ first ∷ words_of last
words_two line word rest first last place second found is_word is_rest found_second is_first is_last =
    words_at line place found ∙ ap (λ w. w ∷ words_of (drop (place + 1) line)) (sym is_word) ∙ ap (λ r. word ∷ words_of r) (sym is_rest)
    ∙ ap (λ ws. word ∷ ws) (words_at rest second found_second ∙ ap (λ w. w ∷ words_of (drop (second + 1) rest)) (sym is_first) ∙ ap (λ r. first ∷ words_of r) (sym is_last))

-- no place is none
no_place : (text : List ℕ) (place : Option ℕ) → is_some place ≡ false → IsPlace SPACE text place → IsPlace SPACE text None
no_place text None none found = found
no_place text (Some place) none found = absurd (cc)

-- a line of three words
pub said_with_two : (line word rest first last : List ℕ) (place second : ℕ) (third : Option ℕ) → IsPlace SPACE line (Some place) → word ≡ take place line → rest ≡ drop (place + 1) line →
    IsPlace SPACE rest (Some second) → first ≡ take second rest → last ≡ drop (second + 1) rest → is_some third ≡ false → IsPlace SPACE last third → command_of line ≡ with_two word first last
unfolding command_of
said_with_two line word rest first last place second third found is_word is_rest found_second is_first is_last none found_third =
    ap said_by (words_two line word rest first last place second found is_word is_rest found_second is_first is_last ∙ ap (λ ws. word ∷ first ∷ ws) (words_none last (no_place last third none found_third)))

-- a byte put before the first of some words
onto_some : (b : ℕ) (words : List (List ℕ)) → (w : List ℕ) × (ws : List (List ℕ)) × (onto_first b words ≡ w ∷ ws)
onto_some b [] = (b ∷ [], [], refl)
onto_some b (w ∷ ws) = (b ∷ w, ws, refl)

-- words are never none
some_words : (text : List ℕ) → (w : List ℕ) × (ws : List (List ℕ)) × (words_of text ≡ w ∷ ws)
some_words [] = ([], [], refl)
some_words (b ∷ bs) = ⊎_elim
    (λ (space : (b == SPACE) ≡ true). ([], words_of bs, slice_split-cons_yes (λ x. x == SPACE) b bs space))
    (λ (other : (b == SPACE) ≡ false).
    let at = onto_some b (words_of bs) in
    (at.0, at.1, slice_split-cons_no (λ x. x == SPACE) b bs other ∙ at.2))
    (cases_Bool (b == SPACE))

-- so four words and more say nothing
said_by_more : (word first last : List ℕ) (third : ℕ) → IsPlace SPACE last (Some third) → said_by (word ∷ first ∷ words_of last) ≡ None
said_by_more word first last third found =
    let after = some_words (drop (third + 1) last) in
    ap (λ ws. said_by (word ∷ first ∷ ws)) (words_at last third found) ∙ ap (λ ws. said_by (word ∷ first ∷ take third last ∷ ws)) after.2

pub said_with_more : (line word rest first last : List ℕ) (place second : ℕ) (third : Option ℕ) → IsPlace SPACE line (Some place) → word ≡ take place line → rest ≡ drop (place + 1) line →
    IsPlace SPACE rest (Some second) → first ≡ take second rest → last ≡ drop (second + 1) rest → is_some third ≡ true → IsPlace SPACE last third → command_of line ≡ None
unfolding command_of
said_with_more line word rest first last place second None found is_word is_rest found_second is_first is_last some found_third = absurd (cc)
said_with_more line word rest first last place second (Some third) found is_word is_rest found_second is_first is_last some found_third =
    ap said_by (words_two line word rest first last place second found is_word is_rest found_second is_first is_last)
    ∙ said_by_more word first last third found_third
