use Rattle.run_text.proofs.EventsBack.{event_back}
use Rattle.run_text.proofs.laws.events_are_read_back.Goals as goal

pub returns : goal.returns
returns c = event_back
