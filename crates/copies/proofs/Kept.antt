-- What every copy keeps.
use Rattle.std.proofs.Common.{◌≡◌, ℕ, ◌<◌, ◌≤◌, ltb, List, [], length, get_or, Some, None, sym, ap, arith}
use Rattle.std.proofs.lemmas.Bool.{le-ltb, cond-false}
use Rattle.std.proofs.lemmas.List.{get_or_past}
use Rattle.charts.specs.declared.parts.Event.{Event}
use Rattle.charts.specs.Lists.{count_of}
use Rattle.charts.specs.Sound.{Sound}
use Rattle.copies.specs.declared.indexed.Indexed.{Indexed}
use Rattle.copies.specs.Grids.{no_slot, place_of}
use Rattle.copies.specs.Kept.{kept}
use Rattle.copies.specs.Slots.{slot_of, slot_at}
use Rattle.copies.proofs.Grids.{grid_sound, grid_event}

-- its lists are sound
pub kept_sound : (x : Indexed) → Sound (kept x)
kept_sound x = grid_sound x.grid

-- the slot at an event's place is the slot of that event
pub kept_slot : (x : Indexed) (i k : ℕ) → k < count_of (kept x) i → get_or x.grid.slots (place_of x.grid.columns i k) no_slot ≡ slot_of (kept x) i k
kept_slot x i k h =
    let e = sym (grid_event x.grid i k h) in
    let m = x.mated i k h in
    let r = x.ranked i k h in
    λ t. record { event = e t; mate = m t; ahead = r t }

-- there is no slot of an instance that the chart does not have
pub slot_outside : (L : List (List Event)) (i k : ℕ) → length L ≤ i → None ≡ slot_at L i k
slot_outside L i k h =
    let none : count_of L i ≡ 0 = ap length (get_or_past L i [] h) in
    sym (cond-false (ltb k (count_of L i)) (Some (slot_of L i k)) None (le-ltb k (count_of L i) (omega arith)))
