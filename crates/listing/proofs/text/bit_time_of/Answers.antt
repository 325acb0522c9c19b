use Rattle.listing.proofs.Spoken.{trims}
use Rattle.listing.proofs.text.bit_time_of.Goals as goal

pub returns-in-Some : goal.returns-in-Some
returns-in-Some c = (_, trims _ _ c.trim-found.ensures.value, c.in-Some.ensures.writes)

pub returns-in-None : goal.returns-in-None
returns-in-None c = (_, trims _ _ c.trim-found.ensures.value, c.in-None.ensures)
