use Rattle.trac_origins.proofs.ToldPut.{address_told, defined_told, fetched_told, segmented_told, stored_told, unaddressed_told, unfetched_told}
use Rattle.trac_origins.proofs.lengths.puts_are_told_by_lengths.Goals as goal

pub returns : goal.returns
returns c = record {
  defined = λ environment s call e i is l. defined_told environment s call e is i l;
  segmented = λ environment s call e form m item is there stands. segmented_told environment s call e is form there m item stands;
  address = λ environment s call e i is. address_told environment s call e is i;
  stored = λ environment s call e name i item is stands. stored_told environment s call e is name i item stands;
  fetched = λ environment s call e number name i item is addressed stands. fetched_told environment s call e is number addressed name i item stands;
  unfetched = λ environment s call e number name i item is addressed none stands. unfetched_told environment s call e is number addressed name i item none stands;
  unaddressed = λ environment s call e name i item is none stands. unaddressed_told environment s call e is none name i item stands;
}
