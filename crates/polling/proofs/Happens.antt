-- What happens in a poll: the panel polls and hears replies, a keypad is polled and replies.
use Rattle.std.proofs.Common.{◌≡◌, ℕ, zero, suc, ◌+◌, ◌*◌, ◌/◌, ◌%◌, ◌<◌, ◌⊎◌, List, length, get_or, sym, refl, ap, ◌∙◌, subst, inl, inr, arith}
use Rattle.std.proofs.lemmas.Nat.{mul-add-lt}
use Rattle.std.proofs.lemmas.Bool.{cases_lt}
use Rattle.charts.specs.declared.parts.Event.{Event}
use Rattle.charts.specs.Events.{event, no_event, output, input}
use Rattle.charts.specs.Lists.{At, count_of}
use Rattle.polling.specs.Polling.{panel_of, keypad_of, polling, poll_of, reply_of}
use Rattle.polling.proofs.Places.{exchange, length_panel, length_keypad, panel_poll, panel_reply, keypad_poll, keypad_reply, column_keypad, column_past}

-- event k of instance i sends message m to instance p: the poll of keypad j + 1 in round t, or its reply
pub data Sent (n r i k p m : ℕ) : Type 0 where
  polls : (t j : ℕ) → t < r → j < n → i ≡ 0 → k ≡ 2 * (t * n + j) → p ≡ suc j → m ≡ 2 * (t * n + j) → Sent n r i k p m
  replies : (t j : ℕ) → t < r → j < n → i ≡ suc j → k ≡ 2 * t + 1 → p ≡ 0 → m ≡ 2 * (t * n + j) + 1 → Sent n r i k p m

-- event k of instance i receives message m from instance p
pub data Received (n r i k p m : ℕ) : Type 0 where
  polled : (t j : ℕ) → t < r → j < n → i ≡ suc j → k ≡ 2 * t → p ≡ 0 → m ≡ 2 * (t * n + j) → Received n r i k p m
  hears : (t j : ℕ) → t < r → j < n → i ≡ 0 → k ≡ 2 * (t * n + j) + 1 → p ≡ suc j → m ≡ 2 * (t * n + j) + 1 → Received n r i k p m

-- event k of instance i is e
pub data Happens (n r i k : ℕ) (e : Event) : Type 0 where
  sends : e.kind ≡ output → Sent n r i k e.peer e.number → Happens n r i k e
  receives : e.kind ≡ input → Received n r i k e.peer e.number → Happens n r i k e

an_output : (n r i k p m : ℕ) (e : Event) → e ≡ event output p m → Sent n r i k p m → Happens n r i k e
an_output n r i k p m e is s = sends (ap (λ (x : Event). x.kind) is) (subst (λ (x : Event). Sent n r i k x.peer x.number) (sym is) s)

an_input : (n r i k p m : ℕ) (e : Event) → e ≡ event input p m → Received n r i k p m → Happens n r i k e
an_input n r i k p m e is s = receives (ap (λ (x : Event). x.kind) is) (subst (λ (x : Event). Received n r i k x.peer x.number) (sym is) s)

halves : (k : ℕ) → (k ≡ 2 * (k / 2)) ⊎ (k ≡ 2 * (k / 2) + 1)
halves k = elim (cases_lt (k % 2) 1) [ inl l ↦ inl (omega arith) | inr l ↦ inr (omega arith) ]

at_panel : (n r k : ℕ) (e : Event) → k < length (panel_of n r) → get_or (panel_of n r) k no_event ≡ e → Happens n r 0 k e
at_panel n r k e within is =
    let x = exchange n r (k / 2) (omega (arith, length_panel n r)) in
    let t = k / 2 / n in
    let j = k / 2 % n in
    elim (halves k) [
      | inl p ↦
          let place : k ≡ 2 * (t * n + j) = omega arith in
          an_output n r 0 k (suc j) k e (sym is ∙ panel_poll n r t j k x.round x.keypad place)
          (polls t j x.round x.keypad refl place refl place)
      | inr p ↦
          let place : k ≡ 2 * (t * n + j) + 1 = omega arith in
          an_input n r 0 k (suc j) k e (sym is ∙ panel_reply n r t j k x.round x.keypad place)
          (hears t j x.round x.keypad refl place refl place)
    ]

at_keypad : (n r j k : ℕ) (e : Event) → j < n → k < length (keypad_of n r (suc j)) → get_or (keypad_of n r (suc j)) k no_event ≡ e → Happens n r (suc j) k e
at_keypad n r j k e below within is =
    let t = k / 2 in
    let round_below : t < r = omega (arith, length_keypad n r (suc j)) in
    elim (halves k) [
      | inl p ↦
          an_input n r (suc j) k 0 (poll_of n t (suc j)) e (sym is ∙ keypad_poll n r (suc j) t k round_below p)
          (polled t j round_below below refl p refl (omega arith))
      | inr p ↦
          an_output n r (suc j) k 0 (reply_of n t (suc j)) e (sym is ∙ keypad_reply n r (suc j) t k round_below p)
          (replies t j round_below below refl p refl (omega arith))
    ]

-- whatever stands in the lists is sent or received
pub happens : (n r i k : ℕ) (e : Event) → At (polling n r) i k e → Happens n r i k e
happens n r zero k e a = at_panel n r k e a.within a.is
happens n r (suc j) k e a =
    elim (cases_lt j n) [
      | inl l ↦
          let here = column_keypad n r j l in
          at_keypad n r j k e l (subst (λ (es : List Event). k < length es) here a.within) (subst (λ (es : List Event). get_or es k no_event ≡ e) here a.is)
      | inr l ↦
          let none : count_of (polling n r) (suc j) ≡ 0 = ap length (column_past n r (suc j) (omega arith)) in
          let w = a.within in
          absurd (omega arith)
    ]

-- whatever is sent or received stands in the lists
pub at_polls : (n r t j : ℕ) → t < r → j < n → At (polling n r) 0 (2 * (t * n + j)) (event output (suc j) (2 * (t * n + j)))
at_polls n r t j a b = record {
  within = omega (arith, length_panel n r, mul-add-lt t n j r a b);
  is = panel_poll n r t j (2 * (t * n + j)) a b refl;
}

pub at_hears : (n r t j : ℕ) → t < r → j < n → At (polling n r) 0 (2 * (t * n + j) + 1) (event input (suc j) (2 * (t * n + j) + 1))
at_hears n r t j a b = record {
  within = omega (arith, length_panel n r, mul-add-lt t n j r a b);
  is = panel_reply n r t j (2 * (t * n + j) + 1) a b refl;
}

pub at_polled : (n r t j : ℕ) → t < r → j < n → At (polling n r) (suc j) (2 * t) (event input 0 (2 * (t * n + j)))
at_polled n r t j a b =
    let here = column_keypad n r j b in
    let m : poll_of n t (suc j) ≡ 2 * (t * n + j) = omega arith in
    let e = keypad_poll n r (suc j) t (2 * t) a refl in
    record {
      within = omega (arith, ap length here, length_keypad n r (suc j));
      is = ap (λ (es : List Event). get_or es (2 * t) no_event) here ∙ cc;
    }

pub at_replies : (n r t j : ℕ) → t < r → j < n → At (polling n r) (suc j) (2 * t + 1) (event output 0 (2 * (t * n + j) + 1))
at_replies n r t j a b =
    let here = column_keypad n r j b in
    let m : reply_of n t (suc j) ≡ 2 * (t * n + j) + 1 = omega arith in
    let e = keypad_reply n r (suc j) t (2 * t + 1) a refl in
    record {
      within = omega (arith, ap length here, length_keypad n r (suc j));
      is = ap (λ (es : List Event). get_or es (2 * t + 1) no_event) here ∙ cc;
    }
