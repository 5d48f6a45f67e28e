use Rattle.std.proofs.Common.{refl}
use Rattle.rules.proofs.News.{new_place, new_sent, new_even}
use Rattle.rules.proofs.rows.Rows.new.Goals as goal

pub invariant_of-result : goal.invariant_of-result
invariant_of-result c = record { sized = refl; even = new_even 32 }

pub returns : goal.returns
returns c = record { places = new_place 32; counts = new_sent 32 }
