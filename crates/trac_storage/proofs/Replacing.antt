-- Forms that are put one after another, and those that they replace.
use Rattle.std.proofs.Common.{◌≡◌, ℕ, zero, suc, false, cond, All, List, [], ◌∷◌, ◌++◌, refl, sym, ap, subst, ◌∙◌, append_assoc}
use Rattle.std.specs.Prelude.{None, Some, bytes_eq}
use Rattle.std.specs.Cmp.Lexicographic.{nat_list_eq_equiv}
use Rattle.std.specs.FinMap as finite
use Rattle.std.specs.List.{AllByRecursion}
use Rattle.std.proofs.lemmas.List.Elements.{All-head, All-tail}
use Rattle.std.proofs.lemmas.Map.Keys.{IsDistinct-head, IsDistinct-tail}
use Rattle.trac_forms.specs.Stored.{AreApart}
use Rattle.trac_rules.specs.Undone.{names_in}
use Rattle.trac_rules.specs.Blocks.{block_at, moved_out, with_name}
use Rattle.trac_rules.specs.Form.{Form}
use Rattle.trac_rules.specs.Proper.{IsProperBlock}
use Rattle.trac_rules.specs.State.{Block, Forms, Held}
use Rattle.trac_rules.proofs.Found.{put_get, taken_get}

-- two maps of forms are alike under each name but one
abbrev AreAlikeBut : List ℕ → Forms → Forms → Type 0
AreAlikeBut name forms others = (q : List ℕ) → bytes_eq name q ≡ false → finite.get forms q ≡ finite.get others q

-- they stay alike where a form is taken from both
alike_still : (name taken : List ℕ) (forms others : Forms) → AreAlikeBut name forms others → AreAlikeBut name (finite.remove forms taken) (finite.remove others taken)
alike_still name taken forms others alike q other =
    taken_get forms taken q ∙ ap (λ found. cond (bytes_eq q taken) None found) (alike q other) ∙ sym (taken_get others taken q)

-- so the forms of other names are taken from both alike
moved_alike : (names : List (List ℕ)) (name : List ℕ) (forms others : Forms) → AreAlikeBut name forms others → AllByRecursion (λ n. bytes_eq name n ≡ false) names →
    moved_out names forms ≡ moved_out names others
moved_alike [] name forms others alike apart = refl
moved_alike (n ∷ names) name forms others alike apart =
    ap (λ found. with_name n found ++ moved_out names (finite.remove forms n)) (alike n apart.0)
    ∙ ap (λ rest. with_name n (finite.get others n) ++ rest) (moved_alike names name (finite.remove forms n) (finite.remove others n) (alike_still name n forms others alike) apart.1)

-- it is all one for other names whether a form is put or taken
put_or_taken : (forms : Forms) (name : List ℕ) (form : Form) → AreAlikeBut name (finite.insert forms name form) (finite.remove forms name)
put_or_taken forms name form q other =
    let apart : bytes_eq q name ≡ false = nat_list_eq_equiv.symm q name ∙ other in
    put_get forms name q form ∙ ap (λ b. cond b (Some form) (finite.get forms q)) apart
    ∙ ap (λ b. cond b None (finite.get forms q)) (sym apart) ∙ sym (taken_get forms name q)

-- what the forms of these names replace, the first of them being put
pub replaced_next : (so_far : Held) (forms : Forms) (name : List ℕ) (form : Form) (held all : Held) → AreApart ((name, form) ∷ held) →
    so_far ++ moved_out (names_in ((name, form) ∷ held)) forms ≡ all →
    (so_far ++ with_name name (finite.get forms name)) ++ moved_out (names_in held) (finite.insert forms name form) ≡ all
replaced_next so_far forms name form held all apart is =
    append_assoc so_far (with_name name (finite.get forms name)) (moved_out (names_in held) (finite.insert forms name form))
    ∙ ap (λ rest. so_far ++ (with_name name (finite.get forms name) ++ rest))
    (moved_alike (names_in held) name (finite.insert forms name form) (finite.remove forms name) (put_or_taken forms name form) (IsDistinct-head bytes_eq name (names_in held) apart))
    ∙ is

-- the names after the first are apart
pub apart_next : (name : List ℕ) (form : Form) (held : Held) → AreApart ((name, form) ∷ held) → AreApart held
apart_next name form held apart = IsDistinct-tail bytes_eq name (names_in held) apart

-- the names in a block are apart
pub block_apart : (number : ℕ) (blocks : List Block) (held : Held) → All IsProperBlock blocks → block_at number blocks ≡ Some held → AreApart held
block_apart number [] held all is = absurd (cc)
block_apart zero (block ∷ blocks) held all is = (subst IsProperBlock is (All-head IsProperBlock block blocks all)).distinct
block_apart (suc number) (block ∷ blocks) held all is = block_apart number blocks held (All-tail IsProperBlock block blocks all) is
