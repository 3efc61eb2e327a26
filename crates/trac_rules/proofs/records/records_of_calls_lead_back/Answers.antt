use Rattle.trac_rules.proofs.CallsBack.{call_goes_back, rest_goes_back_over, storage_goes_back, texts_go_back}
use Rattle.trac_rules.proofs.records.records_of_calls_lead_back.Goals as goal

pub returns : goal.returns
returns c = record { texts = texts_go_back; storage = storage_goes_back; rest = rest_goes_back_over; whole = call_goes_back }
