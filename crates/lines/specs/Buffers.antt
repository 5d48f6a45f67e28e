-- Lines in lent buffers.
use Rattle.std.specs.Prelude.{◌≡◌, ℕ, ◌<◌, ◌≤◌, List, length, Ok, Err, Result}
use Rattle.runs.specs.Drives.{Written}
use Rattle.lines.specs.declared.parts.ShortBuffer.{ShortBuffer}

-- the line is written at the start of a buffer of 640 bytes or more, which keeps its others; a shorter buffer keeps all of them
abbrev pub WritesLine : List ℕ → List ℕ → Result ℕ ShortBuffer → List ℕ → Type 0
WritesLine line out (Ok n) out' = (640 ≤ length out) × (n ≡ length line) × Written line out out'
WritesLine line out (Err e) out' = (length out < 640) × (out' ≡ out)
