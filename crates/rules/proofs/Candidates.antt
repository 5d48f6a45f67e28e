-- A search for the lowest among candidates, and what the candidates are after a step.
use Rattle.std.proofs.Common.{◌≡◌, ℕ, ◌<◌, ◌≤◌, Bool, true, false, not, ◌&&◌, ◌||◌, eqb, List, length, Some, None, Option, sym, refl, ap, ◌∙◌, subst, inl, inr, arith}
use Rattle.std.proofs.lemmas.Bool.{cases_eq, eq-eqb, ne_eqb, ltb-true, or_parts, both_ways}
use mathlib.Core.Path.{fun_ext}
use Rattle.charts.specs.declared.parts.Event.{Event}
use Rattle.charts.specs.Lists.{count_of, event_of}
use Rattle.charts.specs.Sound.{Sound}
use Rattle.copies.specs.declared.parts.Slot.{Slot}
use Rattle.copies.specs.Slots.{slot_at}
use Rattle.copies.specs.Kept.{kept}
use Rattle.copies.proofs.Kept.{kept_sound}
use Rattle.media.specs.Carry.{Carry}
use Rattle.orders.specs.Driving.{lowest, moved}
use Rattle.orders.proofs.Decided.{at_width}
use Rattle.orders.proofs.Lowest.{lowest_passes}
use Rattle.rules.specs.declared.board.Board.{Board}
use Rattle.rules.specs.declared.held.Held.{Held}
use Rattle.rules.specs.declared.instances.Instances.{Instances}
use Rattle.rules.specs.Boards.{lists_of, positions}
use Rattle.rules.specs.Held.{held_now, some_below}
use Rattle.rules.specs.Instances.{has, Covers}
use Rattle.rules.proofs.Allowing.{slot_there}
use Rattle.rules.proofs.Found.{found}
use Rattle.rules.proofs.Drove.{below_some, held_unfinished}
use Rattle.rules.proofs.Staying.{same_held}

module _ (test : ℕ → Bool) (n : ℕ) (s : Instances) where
  -- the whole set covers any test
  pub covers_all : n ≤ 32 → ((i : ℕ) → i < 32 → has s i ≡ true) → Covers test n s
  covers_all few all j l f = absurd (both_ways (has s j) f (all j (omega arith)))

  -- the lowest candidate is found where it passes
  pub covered_found : Covers test n s → (i : ℕ) → i < n → test i ≡ true → ((j : ℕ) → j < i → has s j ≡ false) → Some i ≡ some_below n (lowest test n)
  covered_found covers i h t below = found test n (Some i) (omega arith, h, t, λ k _ l. covers k (omega arith) (below k l))

  -- none passes where no candidate is left
  pub covered_none : n ≤ 32 → Covers test n s → ((j : ℕ) → j < 32 → has s j ≡ false) → None ≡ some_below n (lowest test n)
  covered_none few covers none = found test n None (λ k _ l. covers k l (none k (omega arith)))

  -- one that does not pass is struck out
  pub covers_without : n ≤ 32 → Covers test n s → (s' : Instances) (i : ℕ) → ((j : ℕ) → j < 32 → has s' j ≡ (has s j && not (eqb j i))) → test i ≡ false → Covers test n s'
  covers_without few covers s' i without fails j l f =
      elim (cases_eq j i) [
        | inl same ↦ ap test same ∙ fails
        | inr other ↦ covers j l (from_kept (has s j) (eqb j i) (ne_eqb j i other) (sym (without j (omega arith)) ∙ f))
      ]
    where
      from_kept : (a b : Bool) → b ≡ false → (a && not b) ≡ false → a ≡ false
      from_kept false b e f = refl
      from_kept true b e f = absurd (both_ways (not b) f (ap not e))

module _ (M : Carry) (L : List (List Event)) (sound : Sound L) (held : Option Held) (p : ℕ → ℕ) where
  -- an instance that may run is one of the chart's
  pub may_width : (i : ℕ) → held_now M L held p i ≡ true → i < length L
  may_width i t = at_width L sound i (p i) (event_of L i (p i)) (record { within = ltb-true (p i) (count_of L i) (held_unfinished M L held p i t); is = refl })

  -- after a step of i, the peer of its event is a candidate, and all that were
  pub covers_stepped : ((j : ℕ) → p j ≤ count_of L j) → (s s' : Instances) → Covers (held_now M L held p) (length L) s → (i peer : ℕ) → held_now M L held p i ≡ true →
      peer ≡ (event_of L i (p i)).peer → ((j : ℕ) → j < 32 → has s' j ≡ (has s j || eqb j peer)) → (q : ℕ → ℕ) → ((j : ℕ) → q j ≡ moved p i j) →
      Covers (held_now M L held q) (length L) s'
  covers_stepped within s s' covers i peer t is more q moves j l f =
      let few = sound.few_instances in
      let none = or_parts (has s j) (eqb j peer) (sym (more j (omega arith)) ∙ f) in
      ap (λ (r : ℕ → ℕ). held_now M L held r j) (fun_ext moves)
      ∙ same_held M L sound p within i (ltb-true (p i) (count_of L i) (held_unfinished M L held p i t)) j (not_it none.0) (not_peer none.1) held ∙ covers j l none.0
    where
      not_it : has s j ≡ false → i ≡ j → ⊥
      not_it g same = both_ways (held_now M L held p j) (covers j l g) (ap (held_now M L held p) (sym same) ∙ t)

      not_peer : eqb j peer ≡ false → (event_of L i (p i)).peer ≡ j → ⊥
      not_peer g same = both_ways (eqb j peer) g (eq-eqb j peer (sym (is ∙ same)))

-- the candidates, from one turn of a drive to the next
module _ (M : Carry) (held : Option Held) (b b' : Board) (same : b'.copy ≡ b.copy) where
  abbrev test : ℕ → Bool
  test = held_now M (lists_of b) held (positions b)

  pub covers_on : (s s' : Instances) → Covers test (length (lists_of b)) s → (i : ℕ) → Some i ≡ some_below (length (lists_of b)) (lowest test (length (lists_of b))) →
      (x : Slot) → slot_at (lists_of b) i (positions b i) ≡ Some x → (peer : ℕ) → peer ≡ x.event.peer → ((j : ℕ) → j < 32 → has s' j ≡ (has s j || eqb j peer)) →
      ((j : ℕ) → positions b' j ≡ moved (positions b) i j) → Covers (held_now M (lists_of b') held (positions b')) (length (lists_of b')) s'
  covers_on s s' covers i f x next peer is more moves =
      let there = below_some (length (lists_of b)) (lowest test (length (lists_of b))) i f in
      let low = there.1 in
      let t : test i ≡ true = subst (λ (y : ℕ). test y ≡ true) there.0 (lowest_passes test (length (lists_of b)) (omega arith)) in
      let its = ap (λ (y : Slot). y.event.peer) (slot_there (lists_of b) i (positions b i) x next).1 in
      subst (λ (L : List (List Event)). Covers (held_now M L held (positions b')) (length L) s') (sym (ap kept same))
      (covers_stepped M (lists_of b) (kept_sound b.copy) held (positions b) b.within s s' covers i peer t (is ∙ its) more (positions b') moves)
