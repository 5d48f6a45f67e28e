use Rattle.messages.proofs.Noting.{blank_at}
use Rattle.messages.proofs.places.MessagePlaces.new.Goals as goal

pub returns : goal.returns
returns c end number = blank_at c.nowhere.result c.nowhere.ensures end number
