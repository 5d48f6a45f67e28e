-- What is ahead of messages, filled in place, event by event.
use Rattle.std.proofs.Common.{◌≡◌, ℕ, ◌+◌, ◌-◌, ◌<◌, ◌≤◌, List, get_or, set, take, sym, refl, ap, ◌∙◌, subst, inl, inr, arith}
use Rattle.std.proofs.lemmas.Bool.{cases_lt}
use Rattle.std.proofs.lemmas.List.{get_or-map}
use Rattle.std.proofs.Math.Seq.{map-set_same}
use Rattle.charts.specs.declared.parts.Event.{Event}
use Rattle.charts.specs.Lists.{At, count_of, event_of}
use Rattle.checks.specs.Cut.{cut}
use Rattle.copies.specs.declared.grid.Grid.{Grid}
use Rattle.copies.specs.declared.parts.Column.{Column}
use Rattle.copies.specs.declared.parts.Slot.{Slot}
use Rattle.copies.specs.Grids.{no_slot, place_of, Mated, Ranked}
use Rattle.copies.specs.Kept.{grid_lists}
use Rattle.copies.specs.Lists.{counts, events_in}
use Rattle.copies.specs.Reranked.{Reranked, mates_in}
use Rattle.copies.specs.Slots.{mate_of, ahead_of, slot_of}
use Rattle.copies.proofs.Grids.{grid_before, grid_event, grid_instance, grid_within}

-- one slot is told what is ahead of its message
abbrev pub told : List Slot → ℕ → ℕ → List Slot
told ss at n = set ss at (record { event = (get_or ss at no_slot).event; mate = (get_or ss at no_slot).mate; ahead = n })

pub told_events : (ss : List Slot) (at n : ℕ) → events_in (told ss at n) ≡ events_in ss
told_events ss at n = map-set_same (λ s. s.event) ss at _ no_slot refl

pub told_mates : (ss : List Slot) (at n : ℕ) → mates_in (told ss at n) ≡ mates_in ss
told_mates ss at n = map-set_same (λ s. s.mate) ss at _ no_slot refl

module _ (g h : Grid) (so : Reranked g h) where
  pub same_lists : grid_lists h ≡ grid_lists g
  same_lists = λ t. cut (take (so.width t) (counts (so.columns t))) (so.events t)

  same_mate : (p : ℕ) → p < 4096 → (get_or h.slots p no_slot).mate ≡ (get_or g.slots p no_slot).mate
  same_mate p b =
      let x = h.long in
      let y = g.long in
      sym (get_or-map (λ s. s.mate) h.slots p no_slot 0 (omega arith)) ∙ ap (λ (ms : List ℕ). get_or ms p 0) so.mates ∙ get_or-map (λ s. s.mate) g.slots p no_slot 0 (omega arith)

  module _ (mated : Mated g.width g.columns g.slots) where
    pub still_mated : Mated h.width h.columns h.slots
    still_mated i k b =
        let w = subst (λ (L : List (List Event)). k < count_of L i) same_lists b in
        ap (λ (cs : List Column). (get_or h.slots (place_of cs i k) no_slot).mate) so.columns ∙ same_mate (place_of g.columns i k) (grid_within g i k w) ∙ mated i k w
        ∙ ap (λ (L : List (List Event)). (slot_of L i k).mate) (sym same_lists)

    -- an event by its place among all
    module _ (i start at : ℕ) (is : start ≡ place_of g.columns i 0) (above : start ≤ at) (below : at < start + count_of (grid_lists g) i) where
      abbrev k : ℕ
      k = at - start

      abbrev e : Event
      e = (get_or h.slots at no_slot).event

      inside : k < count_of (grid_lists h) i
      inside = subst (λ (L : List (List Event)). k < count_of L i) (sym same_lists) (omega arith)

      place : place_of h.columns i k ≡ at
      place = ap (λ (cs : List Column). place_of cs i k) so.columns ∙ (omega arith)

      pub here : At (grid_lists h) i k e
      here = record { within = inside; is = grid_event h i k inside ∙ ap (λ (p : ℕ). (get_or h.slots p no_slot).event) place }

      pub here_mate : (get_or h.slots at no_slot).mate ≡ mate_of (grid_lists h) i e
      here_mate = ap (λ (p : ℕ). (get_or h.slots p no_slot).mate) (sym place) ∙ still_mated i k inside ∙ ap (mate_of (grid_lists h) i) here.is

      pub here_ahead : ahead_of (grid_lists h) i k e ≡ ahead_of (grid_lists g) i k (event_of (grid_lists g) i k)
      here_ahead = ap (ahead_of (grid_lists h) i k) (sym here.is) ∙ ap (λ (L : List (List Event)). ahead_of L i k (event_of L i k)) same_lists

pub both_times : (g h n : Grid) → Reranked g h → Reranked h n → Reranked g n
both_times g h n a b = record { width = b.width ∙ a.width; columns = b.columns ∙ a.columns; events = b.events ∙ a.events; mates = b.mates ∙ a.mates }

-- the events of the first i instances of g are told in h what is ahead of them
abbrev pub RankedTo : Grid → Grid → ℕ → Type 0
RankedTo g h i =
    (j k : ℕ) → k < count_of (grid_lists g) j → j < i → (get_or h.slots (place_of g.columns j k) no_slot).ahead ≡ ahead_of (grid_lists g) j k (event_of (grid_lists g) j k)

-- one instance more
module _ (g h n : Grid) (so : Reranked g h) (i : ℕ) (w : i < g.width) (ranked : RankedTo g h i)
    (own : (k : ℕ) → k < count_of (grid_lists h) i → (get_or n.slots (place_of h.columns i k) no_slot).ahead ≡ ahead_of (grid_lists h) i k (event_of (grid_lists h) i k))
    (before : (p : ℕ) → p < place_of h.columns i 0 → get_or n.slots p no_slot ≡ get_or h.slots p no_slot) where
  pub ranked_more : RankedTo g n (i + 1)
  ranked_more j k b l =
      let start = ap (λ (cs : List Column). place_of cs i 0) so.columns in
      elim (cases_lt j i) [
        | inl c ↦
            let first = grid_before g i j k w b c in
            ap (λ (s : Slot). s.ahead) (before (place_of g.columns j k) (omega arith)) ∙ ranked j k b c
        | inr c ↦
            let is : i ≡ j = omega arith in
            let lists = same_lists g h so in
            let inside = subst (λ (L : List (List Event)). k < count_of L i) (sym lists) (subst (λ (x : ℕ). k < count_of (grid_lists g) x) (sym is) b) in
            subst (λ (x : ℕ). (get_or n.slots (place_of g.columns x k) no_slot).ahead ≡ ahead_of (grid_lists g) x k (event_of (grid_lists g) x k)) is
            (ap (λ (cs : List Column). (get_or n.slots (place_of cs i k) no_slot).ahead) (sym so.columns) ∙ own k inside ∙ ap (λ (L : List (List Event)). ahead_of L i k (event_of L i k)) lists)
      ]

-- all of them
pub all_ranked : (g h : Grid) → Reranked g h → RankedTo g h g.width → Ranked h.width h.columns h.slots
all_ranked g h so ranked i k b =
    let lists = same_lists g h so in
    let inside = subst (λ (L : List (List Event)). k < count_of L i) lists b in
    ap (λ (cs : List Column). (get_or h.slots (place_of cs i k) no_slot).ahead) so.columns ∙ ranked i k inside (grid_instance g i k inside)
    ∙ ap (λ (L : List (List Event)). (slot_of L i k).ahead) (sym lists)
