-- The slots of a grid, each with where the other event of its message stands.
use Rattle.std.proofs.Common.{◌≡◌, ℕ, ◌<◌, List, ◌++◌, map, length, get_or, take, drop, sym, ap, ◌∙◌, subst, arith}
use Rattle.std.proofs.lemmas.List.{drop-map, get_or-map, length-map, map-append, take-map}
use borrow.Rule.Slice.PartMut.{post_of, put_mid, put_same}
use Rattle.charts.specs.declared.parts.Event.{Event}
use Rattle.charts.specs.Events.{no_event}
use Rattle.charts.specs.Lists.{count_of}
use Rattle.checks.specs.Cut.{cut}
use Rattle.copies.specs.declared.grid.Grid.{Grid}
use Rattle.copies.specs.declared.parts.Slot.{Slot}
use Rattle.copies.specs.Grids.{no_slot, place_of, Mated}
use Rattle.copies.specs.Kept.{grid_lists}
use Rattle.copies.specs.Linked.{HasMate}
use Rattle.copies.specs.Lists.{counts, events_in, kept_lists}
use Rattle.copies.specs.Slots.{mate_of, slot_of}
use Rattle.copies.proofs.Grids.{grid_among, grid_event, grid_within}

map-put_mid : {X Y : Type 0} (f : X → Y) (a k : ℕ) (xs ys : List X) → map f (put_mid a k xs ys) ≡ put_mid a k (map f xs) (map f ys)
map-put_mid f a k xs ys =
    let front = sym (take-map f a xs) in
    let back = sym (drop-map f k (drop a xs)) ∙ ap (drop k) (sym (drop-map f a xs)) in
    map-append f (take a xs) (ys ++ post_of a k xs) ∙ ap (λ (zs : List _). map f (take a xs) ++ zs) (map-append f ys (post_of a k xs)) ∙ (λ t. front t ++ (map f ys ++ back t))

-- other slots in the place of some, with the events of those
pub events_kept : (a k : ℕ) (ss new : List Slot) → events_in new ≡ events_in (take k (drop a ss)) → events_in (put_mid a k ss new) ≡ events_in ss
events_kept a k ss new same =
    let part = sym (take-map (λ s. s.event) k (drop a ss)) ∙ ap (take k) (sym (drop-map (λ s. s.event) a ss)) in
    map-put_mid (λ s. s.event) a k ss new ∙ ap (put_mid a k (events_in ss)) (same ∙ part) ∙ put_same a k (events_in ss)

-- slots with the grid's events, each with its mate
pub mated_slots : (g : Grid) (ss : List Slot) → events_in ss ≡ events_in g.slots → ((p : ℕ) → p < g.events → HasMate (grid_lists g) (get_or ss p no_slot)) → Mated g.width g.columns ss
mated_slots g ss same mates i k h =
    let e : kept_lists g.width g.columns ss ≡ grid_lists g = ap (cut (take g.width (counts g.columns))) same in
    let w = subst (λ (L : List (List Event)). k < count_of L i) e h in
    let p = place_of g.columns i k in
    let room = grid_within g i k w in
    let long = g.long in
    let n = ap length same in
    let own = length-map g.slots (λ s. s.event) in
    let new = length-map ss (λ s. s.event) in
    let at =
    grid_event g i k w ∙ sym (get_or-map (λ s. s.event) g.slots p no_slot no_event (omega arith)) ∙ ap (λ (es : List Event). get_or es p no_event) (sym same)
    ∙ get_or-map (λ s. s.event) ss p no_slot no_event (omega arith) in
    mates p (grid_among g i k w) i k (record { within = w; is = at }) ∙ ap (mate_of (grid_lists g) i) (sym at) ∙ ap (λ (L : List (List Event)). (slot_of L i k).mate) (sym e)
