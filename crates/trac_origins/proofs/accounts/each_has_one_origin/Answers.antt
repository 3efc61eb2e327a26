-- The laws follow from lists that stand beside each other.
use Rattle.trac_origins.proofs.Accounted.{lists_beside, same_lengths}
use Rattle.trac_origins.proofs.Zips.{same_length}
use Rattle.trac_origins.proofs.accounts.each_has_one_origin.Goals as goal

pub returns : goal.returns
returns c = record {
  active = λ environment s t h. same_length (lists_beside environment s t h).active;
  base = λ environment s t h. same_length (lists_beside environment s t h).base;
  arguments = λ environment s t h. same_lengths (lists_beside environment s t h).frames;
  output = λ environment s t h. same_length (lists_beside environment s t h).output;
  forms = λ environment s t name form h there. same_length ((lists_beside environment s t h).forms name form there);
  blocks = λ environment s t number name form h there. same_length ((lists_beside environment s t h).blocks number name form there);
}
