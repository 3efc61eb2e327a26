use Rattle.trac_storage.proofs.parts.Parts.each_gathers.Goals as goal

pub returns-clause-yes : goal.returns-clause-yes
returns-clause-yes g c = rw (← c.as_slice.ensures.value) c.each_gathers.ensures.yes

pub returns-clause-no : goal.returns-clause-no
returns-clause-no g c = rw (← c.as_slice.ensures.value) c.each_gathers.ensures.no
