-- After one step the counts are still the messages on the way.
use Rattle.std.proofs.Common.{◌≡◌, ℕ, ◌+◌, ◌^◌, ◌<◌, ◌≤◌, Bool, true, false, cond, not, ◌&&◌, eqb, ltb, ◌⊎◌, List, [], length, take, sym, refl, ap, ◌∙◌, ap₂, inl, inr, arith, length-take}
use Rattle.std.proofs.lemmas.List.{get_or_past}
use Rattle.std.proofs.lemmas.List.Sums.{count_by-le-length}
use Rattle.std.proofs.lemmas.Bool.{cases_eq, cases_lt, cases_Bool, eq-eqb, ne_eqb, eqb-true, lt-ltb, le-ltb, and_parts, and_from, and_left, and_right, or_left, or_right, cond-true, cond-false}
use Rattle.charts.specs.declared.parts.Event.{Event}
use Rattle.charts.specs.Events.{output, input, is_message}
use Rattle.charts.specs.Lists.{column, count_of, event_of}
use Rattle.charts.specs.Sound.{Sound}
use Rattle.charts.proofs.Bounds.{count_size}
use Rattle.orders.specs.Passing.{output_to, input_of, received, passing}
use Rattle.orders.specs.Deciding.{output_place, input_place, sent_at}
use Rattle.orders.specs.Driving.{moved}
use Rattle.orders.proofs.Decided.{at_width}
use Rattle.orders.proofs.Tallying.{bit, received_place, plus, minus, tally}
use Rattle.copies.specs.declared.parts.Slot.{Slot}
use Rattle.copies.specs.Slots.{between, mate_of, slot_of}
use Rattle.rules.specs.declared.row.Row.{Row}
use Rattle.rules.specs.Places.{place_of, sent_of, Within, Tallied}
use Rattle.rules.specs.Rules.{mate_ran, sends_now, receives_now}

-- no more messages are on the way than the sender has events
passing_few : (L : List (List Event)) (i j k l : ℕ) → passing L i j k l ≤ count_of L i
passing_few L i j k l =
    let a = count_by-le-length (λ e. output_to j e && not (received i e.number (take l (column L j)))) (take k (column L i)) in
    let b = length-take k (column L i) in
    omega arith

-- rules of conjunction
from_left : (a b : Bool) → a ≡ true → (a && b) ≡ b
from_left a b t = ap (λ (c : Bool). c && b) t

from_right : (a b : Bool) → b ≡ true → (a && b) ≡ a
from_right true b t = t
from_right false b t = refl

swapped : (a b c : Bool) → (a && (b && c)) ≡ (b && (a && c))
swapped true b c = refl
swapped false true c = refl
swapped false false c = refl

turned : (a b c : Bool) → (a && (b && c)) ≡ (b && (c && a))
turned true true c = sym (from_right c true refl)
turned true false c = refl
turned false true true = refl
turned false true false = refl
turned false false c = refl

module _ (L : List (List Event)) (sound : Sound L) (rows : List Row) (within : Within L rows) (i : ℕ) where
  abbrev p : ℕ → ℕ
  p = place_of rows

  -- the next event of i
  abbrev e : Event
  e = event_of L i (place_of rows i)

  -- its slot
  abbrev x : Slot
  x = slot_of L i (place_of rows i)

  abbrev ran : Bool
  ran = mate_ran (place_of rows) x

  message_between : is_message e ≡ true → e.peer < length L → between L e ≡ true
  message_between m l = from_left (is_message e) (ltb e.peer (length L)) m ∙ lt-ltb e.peer (length L) l

  output_mate : eqb e.kind output ≡ true → e.peer < length L → mate_of L i e ≡ input_place i e.number (column L e.peer)
  output_mate o l =
      cond-true (between L e) (cond (eqb e.kind output) (input_place i e.number (column L e.peer)) (sent_at L i e)) 0
      (message_between (or_left (eqb e.kind output) (eqb e.kind input) o) l)
      ∙ cond-true (eqb e.kind output) (input_place i e.number (column L e.peer)) (sent_at L i e) o

  input_mate : eqb e.kind input ≡ true → e.peer < length L → mate_of L i e ≡ sent_at L i e
  input_mate o l =
      let k = eqb-true e.kind input o in
      cond-true (between L e) (cond (eqb e.kind output) (input_place i e.number (column L e.peer)) (sent_at L i e)) 0
      (message_between (or_right (eqb e.kind output) (eqb e.kind input) o) l)
      ∙ cond-false (eqb e.kind output) (input_place i e.number (column L e.peer)) (sent_at L i e) (ne_eqb e.kind output (omega arith))

  abbrev New : ℕ → Bool
  New y = not (received i e.number (take (p y) (column L y)))

  sends_is : (y : ℕ) → y < length L → (output_to y e && New y) ≡ (sends_now (length L) ran x && eqb e.peer y)
  sends_is y l =
      elim (cases_Bool (eqb e.kind output)) [
        | inr f ↦
            and_left (output_to y e) (New y) (and_left (eqb e.kind output) (eqb e.peer y) f)
            ∙ sym (and_left (sends_now (length L) ran x) (eqb e.peer y) (and_left (eqb e.kind output) (ltb e.peer (length L) && not ran) f))
        | inl o ↦
            elim (cases_Bool (eqb e.peer y)) [
              | inr f ↦
                  and_left (output_to y e) (New y) (and_right (eqb e.kind output) (eqb e.peer y) f) ∙ sym (and_right (sends_now (length L) ran x) (eqb e.peer y) f)
              | inl q ↦ to_it o q
            ]
      ]
    where
      to_it : eqb e.kind output ≡ true → eqb e.peer y ≡ true → (output_to y e && New y) ≡ (sends_now (length L) ran x && eqb e.peer y)
      to_it o q =
          let same : e.peer ≡ y = eqb-true e.peer y q in
          let near : e.peer < length L = omega arith in
          let came : ltb (input_place i e.number (column L y)) (p y) ≡ ran =
          ap (λ (z : ℕ). ltb (input_place i e.number (column L z)) (p z)) (sym same) ∙ ap (λ (z : ℕ). ltb z (p e.peer)) (sym (output_mate o near)) in
          let from : (output_to y e && New y) ≡ not ran =
          from_left (output_to y e) (New y) (from_left (eqb e.kind output) (eqb e.peer y) o ∙ q)
          ∙ ap not (received_place i e.number (column L y) (p y) (within y) ∙ came) in
          let to : (sends_now (length L) ran x && eqb e.peer y) ≡ not ran =
          from_right (sends_now (length L) ran x) (eqb e.peer y) q
          ∙ from_left (eqb e.kind output) (ltb e.peer (length L) && not ran) o ∙ from_left (ltb e.peer (length L)) (not ran) (lt-ltb e.peer (length L) near) in
          from ∙ sym to

  abbrev Ran : ℕ → Bool
  Ran z = ltb (output_place i e.number (column L z)) (p z)

  receives_is : (z : ℕ) → (input_of z e.number e && Ran z) ≡ (receives_now (length L) ran x && eqb e.peer z)
  receives_is z =
      elim (cases_Bool (eqb e.kind input)) [
        | inr f ↦
            and_left (input_of z e.number e) (Ran z) (and_left (eqb e.kind input) (eqb e.peer z && eqb e.number e.number) f)
            ∙ sym (and_left (receives_now (length L) ran x) (eqb e.peer z) (and_left (eqb e.kind input) (ltb e.peer (length L) && ran) f))
        | inl o ↦
            elim (cases_Bool (eqb e.peer z)) [
              | inr f ↦
                  and_left (input_of z e.number e) (Ran z)
                  (and_right (eqb e.kind input) (eqb e.peer z && eqb e.number e.number) (and_left (eqb e.peer z) (eqb e.number e.number) f))
                  ∙ sym (and_right (receives_now (length L) ran x) (eqb e.peer z) f)
              | inl q ↦ from_it o q
            ]
      ]
    where
      from_it : eqb e.kind input ≡ true → eqb e.peer z ≡ true → (input_of z e.number e && Ran z) ≡ (receives_now (length L) ran x && eqb e.peer z)
      from_it o q =
          let same : e.peer ≡ z = eqb-true e.peer z q in
          let from : (input_of z e.number e && Ran z) ≡ Ran z =
          from_left (input_of z e.number e) (Ran z)
          (from_left (eqb e.kind input) (eqb e.peer z && eqb e.number e.number) o
          ∙ from_left (eqb e.peer z) (eqb e.number e.number) q ∙ eq-eqb e.number e.number refl) in
          let to : (receives_now (length L) ran x && eqb e.peer z) ≡ (ltb e.peer (length L) && ran) =
          from_right (receives_now (length L) ran x) (eqb e.peer z) q ∙ from_left (eqb e.kind input) (ltb e.peer (length L) && ran) o in
          from ∙ at (cases_lt e.peer (length L)) same ∙ sym to
        where
          at : (e.peer < length L) ⊎ (length L ≤ e.peer) → e.peer ≡ z → Ran z ≡ (ltb e.peer (length L) && ran)
          at (inl near) same =
              ap (λ (y : ℕ). ltb (output_place i e.number (column L y)) (p y)) (sym same) ∙ ap (λ (y : ℕ). ltb y (p e.peer)) (sym (input_mate o near))
              ∙ sym (from_left (ltb e.peer (length L)) ran (lt-ltb e.peer (length L) near))
          at (inr far) same =
              let none : count_of L z ≡ 0 = ap length (get_or_past L z [] (omega arith)) in
              let w = within z in
              le-ltb (output_place i e.number (column L z)) (p z) (omega arith)
              ∙ sym (and_left (ltb e.peer (length L)) ran (le-ltb e.peer (length L) far))

  plus_is : (a y : ℕ) → y < length L → bit (sends_now (length L) ran x && (eqb i a && eqb e.peer y)) ≡ plus L sound p i a y
  plus_is a y l =
      ap bit (swapped (sends_now (length L) ran x) (eqb i a) (eqb e.peer y) ∙ ap (λ (b : Bool). eqb i a && b) (sym (sends_is y l)))

  minus_is : (a y : ℕ) → bit (receives_now (length L) ran x && (eqb e.peer a && eqb i y)) ≡ minus L sound p i a y
  minus_is a y = ap bit (sym (turned (eqb i y) (receives_now (length L) ran x) (eqb e.peer a)) ∙ ap (λ (b : Bool). eqb i y && b) (sym (receives_is a)))

  module _ (tallied : Tallied L rows) (left : place_of rows i < count_of L i) where
    pub below : i < length L
    below = at_width L sound i (place_of rows i) e (record { within = left; is = refl })

    -- one more on the way can be counted
    pub send_fits : sent_of rows i e.peer + 1 < 2 ^ 16 ⊎ (length L ≤ e.peer)
    send_fits =
        elim (cases_lt e.peer (length L)) [
          | inr far ↦ inr far
          | inl near ↦
              let t = tallied i e.peer near in
              let a = passing_few L i e.peer (p i) (p e.peer) in
              let b = count_size L i in
              let few = sound.few_events in
              inl (omega arith)
        ]

    -- a message that is received was on the way
    pub was_sent : receives_now (length L) ran x ≡ true → 1 ≤ sent_of rows e.peer i
    was_sent r =
        let a = tallied e.peer i below in
        let t = tally L sound p i within left e.peer i in
        let m = minus_is e.peer i in
        let one = cond-true {A = ℕ} (receives_now (length L) ran x && (eqb e.peer e.peer && eqb i i)) 1 0
        (and_from (receives_now (length L) ran x) (eqb e.peer e.peer && eqb i i) r (and_from (eqb e.peer e.peer) (eqb i i) (eq-eqb e.peer e.peer refl) (eq-eqb i i refl))) in
        let none = no_plus e.peer in
        omega arith
      where
        no_plus : (a : ℕ) → plus L sound p i a i ≡ 0
        no_plus a =
            let k = eqb-true e.kind input (and_parts (eqb e.kind input) (ltb e.peer (length L) && ran) r).0 in
            cond-false {A = ℕ} (eqb i a && (output_to i e && New i)) 1 0
            (and_right (eqb i a) (output_to i e && New i) (and_left (output_to i e) (New i) (and_left (eqb e.kind output) (eqb e.peer i) (ne_eqb e.kind output (omega arith)))))

    -- the step keeps the positions within the events
    pub still_within : (after : List Row) → ((y : ℕ) → place_of after y ≡ moved p i y) → Within L after
    still_within after places y =
        let m = places y in
        let w = within y in
        elim (cases_eq i y) [
          | inl same ↦ let c = cond-true {A = ℕ} (eqb i y) 1 0 (eq-eqb i y same) in let u = ap p same in let v = ap (count_of L) same in omega arith
          | inr other ↦ let c = cond-false {A = ℕ} (eqb i y) 1 0 (ne_eqb i y other) in omega arith
        ]

    -- and the counts right
    pub still_tallied : (after : List Row) → ((y : ℕ) → place_of after y ≡ moved p i y) →
        ((a y : ℕ) → sent_of after a y + bit (receives_now (length L) ran x && (eqb e.peer a && eqb i y)) ≡ sent_of rows a y + bit (sends_now (length L) ran x && (eqb i a && eqb e.peer y))) →
        Tallied L after
    still_tallied after places counts a y l =
        let t = tally L sound p i within left a y in
        let was = tallied a y l in
        let c = counts a y in
        let f = plus_is a y l in
        let g = minus_is a y in
        let q = ap₂ (passing L a y) (places a) (places y) in
        omega arith
