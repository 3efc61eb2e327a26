use Rattle.trac_web_requests.proofs.Shown.{replied_both, shown_alike, shown_printed}
use Rattle.trac_web_requests.proofs.laws.every_way_shows_what_steps_print.Goals as goal

pub returns : goal.returns
returns c = record { printed = shown_printed; alike = shown_alike; replied = replied_both }
