-- Where bytes come from when a rule of scanning moves on: the lists of origins are moved as the
-- texts are. One line for each rule.
use Rattle.std.specs.Prelude.{ℕ, ◌+◌, List, [], ◌∷◌, ◌++◌, take, drop, Option, None, Some}
use Rattle.trac_rules.specs.declared.scan.Front.{Front}
use Rattle.trac_rules.specs.declared.scan.Front.TheVariants.{Nothing, Opening, Layout, Comma, ActiveCall, NeutralCall}
use Rattle.trac_rules.specs.declared.scan.Front.TheVariants.{Sharp, Closing, Plain}
use Rattle.trac_rules.specs.Bytes.{idle_program}
use Rattle.trac_rules.specs.Matching.{match_of}
use Rattle.trac_rules.specs.State.{State}
use Rattle.trac_origins.specs.Places.{Origin}
use Rattle.trac_origins.specs.Lists.{FrameOrigins, Origins, all_made}

-- a text went to the end of the current text; the first argument is the functions
abbrev pub gather_from : List FrameOrigins → List Origin → Origins → Origins
gather_from [] text o = record o { base = o.base ++ text }
gather_from (f ∷ fs) text o = record o { frames = record f { gathered = f.gathered ++ text } ∷ fs }

-- the first n bytes of the active text are gone
abbrev pub deleted_from : ℕ → Origins → Origins
deleted_from n o = record o { active = drop n o.active }

-- a begun function has an empty argument
abbrev pub begun_from : Origins → Origins
begun_from o = record o { frames = record { arguments = []; gathered = [] } ∷ o.frames }

-- an argument is finished, and an empty one begun; the first argument is the functions
abbrev pub comma_from : List FrameOrigins → Origins → Origins
comma_from [] o = o
comma_from (f ∷ fs) o = record o { frames = record { arguments = f.arguments ++ f.gathered ∷ []; gathered = [] } ∷ fs }

-- the text up to the place of the match went to the current text, and after the match the rest is left; without a match
-- all went there. The second argument is what stands after the protecting `(`
abbrev pub protect_from : Option ℕ → List Origin → Origins → Origins
protect_from None text o = gather_from o.frames text (record o { active = [] })
protect_from (Some k) text o = gather_from o.frames (take k text) (record o { active = drop (k + 1) text })

-- the first byte of the active text went to the current text
abbrev pub gather_first_from : Origins → Origins
gather_first_from o = gather_from o.frames (take 1 o.active) (deleted_from 1 o)

-- by what the active text begins with, in the state before, of which these are the origins
abbrev pub moved_from : Front → State → Origins → Origins
moved_from Nothing s o = record o { active = all_made idle_program; base = []; frames = [] }
moved_from Opening s o = protect_from (match_of (drop 1 s.active)) (drop 1 o.active) o
moved_from Layout s o = deleted_from 1 o
moved_from Comma s o = comma_from o.frames (deleted_from 1 o)
moved_from ActiveCall s o = begun_from (deleted_from 2 o)
moved_from NeutralCall s o = begun_from (deleted_from 3 o)
moved_from Sharp s o = gather_first_from o
moved_from Closing s o = deleted_from 1 o
moved_from Plain s o = gather_first_from o

-- ---- a function is ended

-- of a function that is performed: its arguments, and all else without it and without its `)`
pub record EndedOrigins : Type 0 where
  pub arguments : List (List Origin)
  pub others : Origins

-- the first argument is the functions, of which there is one at least
abbrev pub ended_from : List FrameOrigins → Origins → EndedOrigins
ended_from [] o = record { arguments = []; others = o }
ended_from (f ∷ fs) o = record { arguments = f.arguments ++ f.gathered ∷ []; others = record o { frames = fs } }
