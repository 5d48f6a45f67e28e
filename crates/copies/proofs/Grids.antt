-- What the columns and the slots of a grid tell of its lists.
use Rattle.std.proofs.Common.{◌≡◌, ℕ, ◌+◌, ◌-◌, ◌<◌, ◌≤◌, true, false, List, [], length, get_or, take, drop, is_some, Some, None, sum, Option, sym, refl, ap, ◌∙◌, subst, inl, inr, arith}
use Rattle.std.proofs.lemmas.List.{drop-map, ext_get_or, get_or-drop, get_or-map, get_or_past, get_or-take, length-drop, length-map, length-take, length-take-le, take-map, take-take}
use Rattle.std.proofs.lemmas.List.Sums.{sum_by_more, sum_by-take-le}
use Rattle.std.proofs.lemmas.Bool.{cases_lt, both_ways, not-true}
use Rattle.charts.specs.declared.parts.Event.{Event}
use Rattle.charts.specs.declared.faults.Fault.{Fault}
use Rattle.charts.specs.Events.{no_event}
use Rattle.charts.specs.Lists.{size, column, count_of, event_of}
use Rattle.charts.specs.Sound.{Sound}
use Rattle.checks.specs.Cut.{cut}
use Rattle.checks.specs.Checked.{checked}
use Rattle.checks.proofs.Cuts.{cut_length, cut_count, cut_event, cut_size}
use Rattle.checks.proofs.Exact.{checked_sound}
use Rattle.checks.proofs.Passed.{Passed, passed_from}
use Rattle.copies.specs.declared.grid.Grid.{Grid}
use Rattle.copies.specs.declared.parts.Column.{Column}
use Rattle.copies.specs.declared.parts.Slot.{Slot}
use Rattle.copies.specs.Grids.{no_slot, no_column, place_of, faultless}
use Rattle.copies.specs.Kept.{grid_lists}
use Rattle.copies.specs.Lists.{counts, events_in}
use Rattle.copies.proofs.Fronts.{cut_front, sum_before}

none_from : (o : Option Fault) → is_some o ≡ false → o ≡ None
none_from None e = refl
none_from (Some f) e = absurd (both_ways true e refl)

-- a faultless table passes its checks
pub faultless_none : (ns : List ℕ) (es : List Event) → faultless ns es ≡ true → checked ns es ≡ None
faultless_none ns es e = none_from (checked ns es) (not-true (is_some (checked ns es)) e)

module _ (g : Grid) where
  -- the number of events of each instance
  abbrev lengths : List ℕ
  lengths = take g.width (counts g.columns)

  passes : checked lengths (take g.events (events_in g.slots)) ≡ None
  passes = faultless_none lengths (take g.events (events_in g.slots)) g.sound

  passed : Passed lengths (take g.events (events_in g.slots))
  passed = passed_from lengths (take g.events (events_in g.slots)) passes

  same_cut : cut lengths (take g.events (events_in g.slots)) ≡ grid_lists g
  same_cut = ap (λ (n : ℕ). cut lengths (take n (events_in g.slots))) g.total ∙ cut_front lengths (events_in g.slots)

  pub grid_sound : Sound (grid_lists g)
  grid_sound = subst Sound same_cut (checked_sound lengths (take g.events (events_in g.slots)) passes).sound

  lengths_long : length lengths ≡ g.width
  lengths_long =
      let a = g.wide in
      let b = g.narrow in
      length-take-le g.width (counts g.columns) (let l = length-map g.columns (λ c. c.count) in omega arith)

  pub grid_width : length (grid_lists g) ≡ g.width
  grid_width = cut_length lengths (events_in g.slots) ∙ lengths_long

  pub grid_size : size (grid_lists g) ≡ g.events
  grid_size =
      let p = passed.even in
      let t = g.total in
      ap size (sym same_cut) ∙ cut_size lengths (take g.events (events_in g.slots)) p ∙ (omega arith)

  -- there is room for every event
  fits : sum lengths ≤ length (events_in g.slots)
  fits =
      let p = passed.even in
      let l = length-take g.events (events_in g.slots) in
      omega arith

  pub grid_count : (i : ℕ) → i < g.width → count_of (grid_lists g) i ≡ (get_or g.columns i no_column).count
  grid_count i h =
      let w = g.wide in
      let n = g.narrow in
      cut_count lengths (events_in g.slots) i fits ∙ get_or-take g.width (counts g.columns) i 0 h
      ∙ get_or-map (λ c. c.count) g.columns i no_column 0 (omega arith)

  pub grid_past : (i : ℕ) → g.width ≤ i → count_of (grid_lists g) i ≡ 0
  grid_past i h = let w = grid_width in ap length (get_or_past (grid_lists g) i [] (omega arith))

  -- an instance with an event is one of the grid's
  pub grid_instance : (i k : ℕ) → k < count_of (grid_lists g) i → i < g.width
  grid_instance i k h = elim (cases_lt i g.width) [ inl l ↦ l | inr l ↦ absurd (let z = grid_past i l in omega arith) ]

  -- where the events of an instance start
  pub grid_start : (i : ℕ) → i < g.width → (get_or g.columns i no_column).start ≡ sum (take i lengths)
  grid_start i h = g.placed i h ∙ ap sum (sym (take-take i g.width (counts g.columns) (omega arith)))

  -- an event comes before those of later instances
  pub grid_before : (i j l : ℕ) → i < g.width → l < count_of (grid_lists g) j → j < i → place_of g.columns j l < place_of g.columns i 0
  grid_before i j l wi hj b =
      let wj = grid_instance j l hj in
      let si = grid_start i wi in
      let sj = grid_start j wj in
      let n = cut_count lengths (events_in g.slots) j fits in
      let long = lengths_long in
      let s = sum_before lengths i j b (omega arith) in
      omega arith

  -- the places of an instance are among those of the events
  grid_end : (i : ℕ) → i < g.width → (get_or g.columns i no_column).start + count_of (grid_lists g) i ≤ g.events
  grid_end i w =
      let s = grid_start i w in
      let n = cut_count lengths (events_in g.slots) i fits in
      let long = lengths_long in
      let m = sum_by_more (λ x. x) lengths i 0 (omega arith) in
      let b = sum_by-take-le (λ x. x) lengths (i + 1) in
      let t = g.total in
      omega arith

  -- and in the table
  pub grid_few : g.events ≤ 4096
  grid_few =
      let t = g.total in
      let f = fits in
      let z = g.long in
      let e = length-map g.slots (λ s. s.event) in
      omega arith

  pub grid_room : (i : ℕ) → i < g.width → (get_or g.columns i no_column).start + count_of (grid_lists g) i ≤ 4096
  grid_room i w = let n = grid_end i w in let f = grid_few in omega arith

  pub first_columns : length (take g.width g.columns) ≡ g.width
  first_columns = let w = g.wide in let n = g.narrow in length-take-le g.width g.columns (omega arith)

  -- what the column of an instance tells
  pub record Here (i : ℕ) (c : Column) : Type 0 where
    pub start : c.start ≡ place_of g.columns i 0
    pub count : c.count ≡ count_of (grid_lists g) i
    pub room : c.start + c.count ≤ 4096

  pub grid_here : (i : ℕ) (c : Column) → i < length (take g.width g.columns) → c ≡ get_or (take g.width g.columns) i no_column → Here i c
  grid_here i c h is =
      let n = first_columns in
      let w : i < g.width = omega arith in
      let own : c ≡ get_or g.columns i no_column = is ∙ get_or-take g.width g.columns i no_column w in
      let s = ap (λ (x : Column). x.start) own in
      let m = ap (λ (x : Column). x.count) own in
      let k = grid_count i w in
      let r = grid_room i w in
      record { start = omega arith; count = omega arith; room = omega arith }

  pub grid_nowhere : (i : ℕ) → length (take g.width g.columns) ≤ i → count_of (grid_lists g) i ≡ 0
  grid_nowhere i h = let n = first_columns in grid_past i (omega arith)

  pub grid_within : (i k : ℕ) → k < count_of (grid_lists g) i → place_of g.columns i k < 4096
  grid_within i k h = let r = grid_room i (grid_instance i k h) in omega arith

  pub grid_among : (i k : ℕ) → k < count_of (grid_lists g) i → place_of g.columns i k < g.events
  grid_among i k h = let n = grid_end i (grid_instance i k h) in omega arith

  -- the slot at its place has the event
  pub grid_event : (i k : ℕ) → k < count_of (grid_lists g) i → event_of (grid_lists g) i k ≡ (get_or g.slots (place_of g.columns i k) no_slot).event
  grid_event i k h =
      let w = grid_instance i k h in
      let at = grid_within i k h in
      let z = g.long in
      cut_event lengths (events_in g.slots) i k h ∙ ap (λ (n : ℕ). get_or (events_in g.slots) (n + k) no_event) (sym (grid_start i w))
      ∙ get_or-map (λ s. s.event) g.slots (place_of g.columns i k) no_slot no_event (omega arith)

  module _ (i a : ℕ) (starts : i < g.width → a ≡ place_of g.columns i 0) where
    abbrev part : List Event
    part = take (count_of (grid_lists g) i) (drop a (events_in g.slots))

    part_long : length part ≡ count_of (grid_lists g) i
    part_long =
        let n = count_of (grid_lists g) i in
        let t = length-take n (drop a (events_in g.slots)) in
        let d = length-drop a (events_in g.slots) in
        let m = length-map g.slots (λ s. s.event) in
        let z = g.long in
        elim (cases_lt 0 n) [
          | inl b ↦ let last : n - 1 < n = omega arith in let w = grid_within i (n - 1) last in let p = starts (grid_instance i (n - 1) last) in omega arith
          | inr b ↦ omega arith
        ]

    part_event : (k : ℕ) → k < count_of (grid_lists g) i → get_or part k no_event ≡ event_of (grid_lists g) i k
    part_event k h =
        let z = g.long in
        let w = grid_within i k h in
        let s = starts (grid_instance i k h) in
        let p : a + k ≡ place_of g.columns i k = omega arith in
        get_or-take (count_of (grid_lists g) i) (drop a (events_in g.slots)) k no_event h ∙ get_or-drop a (events_in g.slots) k no_event
        ∙ ap (λ (m : ℕ). get_or (events_in g.slots) m no_event) p
        ∙ get_or-map (λ s. s.event) g.slots (place_of g.columns i k) no_slot no_event (omega arith) ∙ sym (grid_event i k h)

    -- the slots from the first place of an instance on have its events
    pub grid_column : (ss : List Slot) → events_in ss ≡ events_in g.slots → events_in (take (count_of (grid_lists g) i) (drop a ss)) ≡ column (grid_lists g) i
    grid_column ss same =
        sym (take-map (λ s. s.event) (count_of (grid_lists g) i) (drop a ss))
        ∙ ap (take (count_of (grid_lists g) i)) (sym (drop-map (λ s. s.event) a ss) ∙ ap (drop a) same)
        ∙ ext_get_or no_event part (column (grid_lists g) i) part_long (λ k h. part_event k (let l = part_long in omega arith))
