-- Words for the worked rows of origins.
use Rattle.std.specs.Prelude.{◌≡◌, ℕ, List, [], ◌∷◌, ◌++◌, Bool, None, Some, codes}
use Prim.Native.String.{String}
use Rattle.trac_rules.specs.declared.item.Item.{Item}
use Rattle.trac_rules.specs.declared.kind.Kind.{Kind}
use Rattle.trac_rules.specs.declared.kind.Kind.TheVariants.{Active}
use Rattle.trac_rules.specs.declared.primitive.BlockAction.{BlockAction}
use Rattle.trac_rules.specs.declared.primitive.FormReading.{FormReading}
use Rattle.trac_rules.specs.declared.primitive.Primitive.{Primitive}
use Rattle.trac_rules.specs.declared.primitive.Primitive.TheVariants.{HandleBlock}
use Rattle.trac_rules.specs.declared.width.Width.TheVariants.{W128}
use Rattle.trac_rules.specs.Effect.{leaves}
use Rattle.trac_rules.specs.Form.{Form, all_items, at_start, pointed_at}
use Rattle.trac_rules.specs.RecordRows.{no_tape}
use Rattle.trac_rules.specs.Rows.{example, fed, named_at, session_of, text_at, texts_of}
use Rattle.trac_rules.specs.Session.{over}
use Rattle.trac_rules.specs.State.{Block, Environment, State, initial, storage_of}
use Rattle.trac_origins.specs.Places.{Place, InActive, InArgument, InForm, Origin, Carried}
use Rattle.trac_origins.specs.Lists.{FrameOrigins, all_kept, kept, texts_kept}
use Rattle.trac_origins.specs.Performing.{EffectOrigins, Performed, effect_from, fetched_from, reading_from}
use Rattle.trac_origins.specs.Performing.{segmented_from}
use Rattle.trac_origins.specs.Stepping.{origins}
use Rattle.trac_origins.specs.Following.{followed}

-- a tape of these bytes that has ended or not, and one of no bytes
abbrev pub on_tape : List ℕ → Bool → Environment
on_tape bytes ended = over W128 (record { bytes = bytes; ended = ended })

abbrev pub untaped : Environment
untaped = over W128 no_tape

-- a state at the end of a function of this kind, with these finished arguments and one that is being
-- gathered; after its `)` stands `z`
abbrev pub calling : Kind → List (List ℕ) → List ℕ → State → State
calling kind earlier last s =
    record s { active = codes ")z"; frames = record { kind = kind; arguments = earlier; gathered = last } ∷ [] }

-- a byte of the active text, of an argument of the only function, and an item of the form `F`, carried from there
abbrev pub active : ℕ → Origin
active i = Carried (InActive i)

abbrev pub given : ℕ → ℕ → Origin
given k i = Carried (InArgument 0 k i)

abbrev pub item : ℕ → Origin
item i = Carried (InForm (codes "F") i)

-- a call of the only function with these arguments in a state, if each name is that of this form
abbrev pub performing : List (List ℕ) → Form → State → Performed
performing arguments form s = record {
  environment = untaped;
  call = record { kind = Active; arguments = arguments; state = s };
  effect = leaves (storage_of s);
  from = record {
    arguments = texts_kept (InArgument 0) arguments;
    others = record (all_kept s) { forms = λ name. kept (InForm name) (all_items form) };
  };
}

-- the value of a call of an active function comes from there; the last argument is given by itself
abbrev pub ValueFrom : String → String → List Origin → Type 0
ValueFrom earlier last value =
    (origins untaped (calling Active (texts_of earlier) (codes last) initial)).active ≡ value ++ active 1 ∷ []

-- what a call reads of the form `a<1>bc<2>`, its pointer at a place, comes from there
abbrev pub ReadFrom : FormReading → ℕ → String → List Origin → Type 0
ReadFrom reading place call from =
    reading_from reading (pointed_at place example)
    (performing (texts_of call) (pointed_at place example) initial) ≡ from

-- the items that a call leaves of a form of these items come from there
abbrev pub SegmentedFrom : List Item → String → List Origin → Type 0
SegmentedFrom items call from =
    segmented_from (at_start items) (performing (texts_of call) (at_start items) initial) ≡ from

-- where what stands after a call comes from, if each name is that of the form `cd`, and there are these blocks
abbrev pub made_by : Primitive → String → List Block → EffectOrigins
made_by primitive call blocks =
    effect_from primitive (performing (texts_of call) (text_at 0 "cd") (record initial { blocks = blocks }))

-- after a call on blocks, one of which is erased, and after `fb` of a block that holds `pq` under the name `A`
abbrev pub beside_block : BlockAction → EffectOrigins
beside_block action = made_by (HandleBlock action) "sb,G,F" (None ∷ [])

abbrev pub brought : EffectOrigins
brought =
    fetched_from 0
    (performing (texts_of "fb,G") (text_at 0 "cd") (record initial { blocks = Some (named_at 0 "A" "pq") ∷ [] }))

-- the lists of a begun function
abbrev pub framed : List (List Origin) → List Origin → FrameOrigins
framed arguments gathered = record { arguments = arguments; gathered = gathered }

-- what stands at a place after so many steps over a text was carried by so many of them from there
abbrev pub Follows : String → ℕ → Place → ℕ → Origin → Type 0
Follows text steps place carried origin =
    let p = session_of (fed text steps) in
    followed (over p.width p.tape) p.earlier place ≡ record { carried = carried; origin = origin }
