-- What is fixed of an event whose message goes from an instance to an instance, by its end of the message.
use Rattle.std.proofs.Common.{◌≡◌, ℕ, ◌<◌, ◌≤◌, Bool, true, ◌&&◌, eqb, ltb, List, length, Some, sym, refl, ap, ◌∙◌}
use Rattle.std.proofs.lemmas.Bool.{lt-ltb, le-ltb, ne_eqb, and_right, cond-true, cond-false}
use Rattle.charts.specs.declared.parts.Event.{Event}
use Rattle.charts.specs.Events.{event, output, input, is_message}
use Rattle.charts.specs.Lists.{At, column}
use Rattle.messages.specs.declared.ends.End.{End}
use Rattle.messages.specs.declared.ends.End.TheVariants.{Output, Input}
use Rattle.messages.specs.Ends.{kind_of, other_end}
use Rattle.messages.specs.Places.{place_of}
use Rattle.orders.specs.Passing.{passing}
use Rattle.orders.specs.Deciding.{input_place, sent_at}
use Rattle.copies.specs.declared.linker.Linker.{Linker}
use Rattle.copies.specs.Linked.{Links}
use Rattle.copies.specs.Slots.{between, mate_of, ahead_of}
use Rattle.copies.proofs.Notes.{at_kind}
use Rattle.copies.proofs.Partners.{input_noted, output_noted}

module _ (L : List (List Event)) (i : ℕ) (e : Event) (w : e.peer < length L) where
  of_kind : (kind : ℕ) → e.kind ≡ kind → e ≡ event kind e.peer e.number
  of_kind kind o t = record { kind = o t; peer = e.peer; number = e.number }

  yes : ltb e.peer (length L) ≡ true
  yes = lt-ltb e.peer (length L) w

  pub mate_output : e.kind ≡ output → mate_of L i e ≡ input_place i e.number (column L e.peer)
  mate_output o = ap (mate_of L i) (of_kind output o) ∙ cond-true (ltb e.peer (length L)) (input_place i e.number (column L e.peer)) 0 yes

  pub mate_input : e.kind ≡ input → mate_of L i e ≡ sent_at L i e
  mate_input o = ap (mate_of L i) (of_kind input o) ∙ cond-true (ltb e.peer (length L)) (sent_at L i e) 0 yes

-- nothing is ahead of an event that is no input, nor of one whose peer is no instance of the chart
pub ahead_other : (L : List (List Event)) (i k : ℕ) (e : Event) → (e.kind ≡ input → ⊥) → ahead_of L i k e ≡ 0
ahead_other L i k e other =
    cond-false (between L e && eqb e.kind input) (passing L e.peer i (sent_at L i e) k) 0 (and_right (between L e) (eqb e.kind input) (ne_eqb e.kind input other))

pub ahead_outside : (L : List (List Event)) (i k : ℕ) (e : Event) → length L ≤ e.peer → ahead_of L i k e ≡ 0
ahead_outside L i k e h =
    let no = and_right (is_message e) (ltb e.peer (length L)) (le-ltb e.peer (length L) h) in
    cond-false (between L e && eqb e.kind input) (passing L e.peer i (sent_at L i e) k) 0 (ap (λ (t : Bool). t && eqb e.kind input) no)

module _ (x : Linker) (L : List (List Event)) (so : Links x L) (i k : ℕ) (e : Event) (a : At L i k e) (w : e.peer < length L) where
  -- the place of the other event of the message was noted
  pub mate_noted : (end : End) → e.kind ≡ kind_of end → place_of x.places.now (other_end end) e.number ≡ Some (mate_of L i e)
  mate_noted Output o =
      input_noted L so.sound x.places.now so.noted i k e.peer e.number (at_kind L i k output e.number e a o refl) w ∙ ap Some (sym (mate_output L i e w o))
  mate_noted Input o = output_noted L so.sound x.places.now so.noted i k e a o w ∙ ap Some (sym (mate_input L i e w o))
