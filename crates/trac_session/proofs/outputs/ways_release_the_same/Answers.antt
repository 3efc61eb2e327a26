use Rattle.trac_session.proofs.Released.{ends_alike, prints_alike, released_alike}
use Rattle.trac_session.proofs.outputs.ways_release_the_same.Goals as goal

pub returns : goal.returns
returns c = record { sessions = released_alike; texts = prints_alike; to_the_end = ends_alike }
