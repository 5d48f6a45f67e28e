-- A chart copied into a grid, event by event and instance by instance.
use Rattle.std.proofs.Common.{◌≡◌, ℕ, ◌+◌, ◌<◌, ◌≤◌, true, not, List, [], ◌∷◌, ◌++◌, map, length, get_or, take, drop, set, is_some, Some, None, sum, Option, sym, refl, ap, ◌∙◌, subst, inl, inr, arith}
use Rattle.std.proofs.lemmas.List.{get_or-set_same, get_or-set_other, flat_map_more, length-drop, length-map, length-set, length-take, map_more, map-append, map-set, take_all, take_more, take_more_set, take-map, take-set-le}
use Rattle.std.proofs.lemmas.Slice.{take-put_mid}
use borrow.Rule.Slice.PartMut.{put_mid, same_len_mid}
use Rattle.std.proofs.lemmas.List.Sums.{sum-map, sum_by_push, sum_by_more, sum_by-take-le}
use Rattle.std.proofs.lemmas.Bool.{cases_lt}
use Rattle.charts.specs.declared.parts.Event.{Event}
use Rattle.charts.specs.declared.faults.Fault.{Fault}
use Rattle.charts.specs.Judged.{Judged}
use Rattle.charts.specs.Lists.{column, count_of}
use Rattle.charts.specs.Sound.{Sound}
use Rattle.checks.specs.Cut.{cut, in_one}
use Rattle.checks.proofs.Joined.{cut_joined, joined_checked}
use Rattle.joining.proofs.Recasts.{empty_sound}
use Rattle.copies.specs.declared.parts.Slot.{Slot}
use Rattle.copies.specs.declared.parts.Column.{Column}
use Rattle.copies.specs.Grids.{no_column, faultless, Placed}
use Rattle.copies.specs.Lists.{counts, events_in, kept_lists}
use Rattle.copies.proofs.Fronts.{cut_front}

-- the lists of any chart are sound
pub judged_sound : (t : Option Fault) (L : List (List Event)) → Judged t L → Sound L
judged_sound None L s = s
judged_sound (Some f) L e = subst Sound (sym e) empty_sound

-- the columns and the events of the first i instances, n in all, of a chart that breaks no rule
pub record Begun (cs : List Column) (ss : List Slot) (i n : ℕ) (L : List (List Event)) : Type 0 where
  pub sound : Sound L
  pub wide : length cs ≡ 32
  pub long : length ss ≡ 4096
  pub counted : take i (counts cs) ≡ map length (take i L)
  pub placed : Placed i cs
  pub total : n ≡ sum (take i (counts cs))
  pub events : take n (events_in ss) ≡ in_one (take i L)
  -- there is room for the next instance
  pub room : i < length L → n + count_of L i ≤ 4096

room_for : (L : List (List Event)) (i n : ℕ) → Sound L → n ≡ sum (map length (take i L)) → i < length L → n + count_of L i ≤ 4096
room_for L i n sound total h =
    let few = sound.few_events in
    let c = sum-map length (take i L) in
    let m = sum_by_more length L i [] h in
    let part = sum_by-take-le length L (i + 1) in
    omega arith

pub begun_none : (cs : List Column) (ss : List Slot) (L : List (List Event)) → Sound L → length cs ≡ 32 → length ss ≡ 4096 → Begun cs ss 0 0 L
begun_none cs ss L sound wide long =
    record { sound = sound; wide = wide; long = long; counted = refl; placed = λ j b. absurd (omega arith); total = refl; events = refl; room = room_for L 0 0 sound refl }

module _ (cs : List Column) (ss : List Slot) (i n : ℕ) (L : List (List Event)) (h : i < length L) (so : Begun cs ss i n L) where
  -- one instance more
  module _ (m : ℕ) (is : m ≡ count_of L i) where
    abbrev next_column : Column
    next_column = record { start = n; count = m }

    counted_more : take (i + 1) (counts (set cs i next_column)) ≡ take i (counts cs) ++ m ∷ []
    counted_more =
        let w = so.wide in
        let f = so.sound.few_instances in
        let l = length-map cs (λ x. x.count) in
        ap (take (i + 1)) (map-set (λ x. x.count) cs i next_column) ∙ take_more_set (counts cs) i m (omega arith)

    every_counted : take (i + 1) (counts (set cs i next_column)) ≡ map length (take (i + 1) L)
    every_counted = counted_more ∙ (λ t. so.counted t ++ is t ∷ []) ∙ sym (map_more length L i [] h)

    placed_more : Placed (i + 1) (set cs i next_column)
    placed_more j b =
        let w = so.wide in
        let f = so.sound.few_instances in
        let rest = ap sum (sym (ap (take j) (map-set (λ x. x.count) cs i next_column) ∙ take-set-le j (counts cs) i m (omega arith))) in
        elim (cases_lt j i) [
          | inl l ↦ ap (λ (x : Column). x.start) (get_or-set_other cs i j next_column no_column (λ e. omega arith)) ∙ so.placed j l ∙ rest
          | inr l ↦
              let same : j ≡ i = omega arith in
              ap (λ (x : ℕ). (get_or (set cs i next_column) x no_column).start) same ∙ ap (λ (x : Column). x.start) (get_or-set_same cs i next_column no_column (omega arith)) ∙ so.total
              ∙ ap (λ (x : ℕ). sum (take x (counts cs))) (sym same) ∙ rest
        ]

    total_more : n + m ≡ sum (take (i + 1) (counts (set cs i next_column)))
    total_more = let a = so.total in let s = ap sum counted_more ∙ sum_by_push (λ x. x) (take i (counts cs)) m in omega arith

    -- its events stand after those of the others
    events_more : (new : List Slot) → events_in new ≡ column L i → take (n + m) (events_in (put_mid n m ss new)) ≡ in_one (take (i + 1) L)
    events_more new copied =
        let room = so.room h in
        let long = so.long in
        let l = length-map new (λ s. s.event) in
        let e = ap length copied in
        take-map (λ s. s.event) (n + m) (put_mid n m ss new) ∙ ap events_in (take-put_mid n m ss new (n + m) (omega arith) (omega arith))
        ∙ map-append (λ s. s.event) (take n ss) new ∙ ap (λ (xs : List Event). xs ++ events_in new) (sym (take-map (λ s. s.event) n ss) ∙ so.events)
        ∙ ap (λ (xs : List Event). in_one (take i L) ++ xs) copied ∙ flat_map_more (λ es. es) [] (take i L) (column L i) ∙ ap in_one (sym (take_more L i [] h))

    pub begun_more : (new : List Slot) → events_in new ≡ column L i → Begun (set cs i next_column) (put_mid n m ss new) (i + 1) (n + m) L
    begun_more new copied =
        let room = so.room h in
        let long = so.long in
        let l = length-map new (λ s. s.event) in
        let e = ap length copied in
        let mid = length-take m (drop n ss) in
        let d = length-drop n ss in
        record {
          sound = so.sound;
          wide = length-set cs i next_column ∙ so.wide;
          long = same_len_mid n m ss new (omega arith) ∙ so.long;
          counted = every_counted;
          placed = placed_more;
          total = total_more;
          events = events_more new copied;
          room = room_for L (i + 1) (n + m) so.sound (total_more ∙ ap sum every_counted);
        }

-- the whole chart
module _ (cs : List Column) (ss : List Slot) (i n : ℕ) (L : List (List Event)) (all : i ≡ length L) (so : Begun cs ss i n L) where
  every_count : take i (counts cs) ≡ map length L
  every_count = so.counted ∙ ap (map length) (take_all i L (omega arith))

  every_event : take n (events_in ss) ≡ in_one L
  every_event = so.events ∙ ap in_one (take_all i L (omega arith))

  pub begun_faultless : faultless (take i (counts cs)) (take n (events_in ss)) ≡ true
  begun_faultless =
      (λ t. faultless (every_count t) (every_event t)) ∙ ap (λ (o : Option Fault). not (is_some o)) (joined_checked L so.sound)

  pub begun_lists : kept_lists i cs ss ≡ L
  begun_lists =
      sym (cut_front (take i (counts cs)) (events_in ss)) ∙ ap (λ (x : ℕ). cut (take i (counts cs)) (take x (events_in ss))) (sym so.total)
      ∙ (λ t. cut (every_count t) (every_event t)) ∙ cut_joined L
