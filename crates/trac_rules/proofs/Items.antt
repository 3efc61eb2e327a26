-- Items of texts and their bytes.
use Rattle.std.proofs.Common.{◌≡◌, ℕ, suc, ◌<◌, false, List, [], ◌∷◌, ◌++◌, length, refl, ap, arith}
use Rattle.std.proofs.lemmas.Grind.{flat_map-append}
use Rattle.trac_rules.specs.declared.item.Item.{Item}
use Rattle.trac_rules.specs.Cuts.{begins_with_gap}
use Rattle.trac_rules.specs.Form.{as_items}
use Rattle.trac_rules.specs.Pieces.{byte_of, bytes_in}

pub length-as_items : (text : List ℕ) → length (as_items text) ≡ length text
length-as_items [] = refl
length-as_items (b ∷ text) = ap suc (length-as_items text)

-- a text that is not empty begins with a byte
pub no_gap : (text : List ℕ) (rest : List Item) → 0 < length text → begins_with_gap (as_items text ++ rest) ≡ false
no_gap [] rest some = absurd (omega arith)
no_gap (b ∷ text) rest some = refl

pub bytes_in-append : (xs ys : List Item) → bytes_in (xs ++ ys) ≡ bytes_in xs ++ bytes_in ys
bytes_in-append xs ys = flat_map-append byte_of xs ys
