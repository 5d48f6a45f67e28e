use Rattle.std.proofs.Common.{refl}
use Rattle.names.proofs.Noting.{added}
use Rattle.names.proofs.index.Names.note.Goals as goal

-- the entry is inserted where a search for its name answered that it has to go
pub returns : goal.returns
returns c =
    added _ c.self.invariant _ c.self.view_is _ _ _ _ c.place_of.ensures _ _ c.insert.ensures.items c.in-Err.is c.as_slice.ensures.value refl
    c.if-is_full.ensures.value c.is_full.ensures.fits _ refl
