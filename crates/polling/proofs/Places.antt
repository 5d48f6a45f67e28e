-- What stands where in the lists of a poll. The poll of keypad j + 1 in round t has the number 2 (t n + j).
use Rattle.std.proofs.Common.{◌≡◌, ℕ, zero, suc, ◌+◌, ◌*◌, ◌/◌, ◌%◌, ◌<◌, List, [], length, get_or, refl, mul_assoc, mul_comm, zero-mul, arith}
use Rattle.std.proofs.lemmas.Nat.{div-add-mod', mod_below, div_below}
use Rattle.std.proofs.lemmas.List.{get_or_past}
use Rattle.std.proofs.lemmas.List.FromFn.{length-map-range_with_len, get_or-map-range_with_len}
use Rattle.charts.specs.declared.parts.Event.{Event}
use Rattle.charts.specs.Events.{event, no_event, output, input}
use Rattle.charts.specs.Lists.{column}
use Rattle.polling.specs.InTurn.{in_turn}
use Rattle.polling.specs.Polling.{asks, answers, panel_of, keypad_of, polling, poll_of, reply_of}
use Rattle.polling.proofs.Turns.{length_in_turn, get_or_in_turn}

-- the round and the keypad of exchange x of the panel
pub record Exchange (n r x : ℕ) : Type 0 where
  pub round : x / n < r
  pub keypad : x % n < n
  pub split : x / n * n + x % n ≡ x

pub exchange : (n r x : ℕ) → x < n * r → Exchange n r x
exchange zero r x h = absurd (omega (arith, zero-mul r))
exchange (suc n) r x h =
    record {
      round = div_below x (suc n) r (omega arith) (omega (arith, mul_comm (suc n) r));
      keypad = mod_below x (suc n) (omega arith);
      split = div-add-mod' x (suc n);
    }

-- what the panel does in round t
abbrev round : ℕ → ℕ → List Event
round n t = in_turn n (λ j. asks n t (j + 1))

length_round : (n t : ℕ) → length (round n t) ≡ n * 2
length_round n t = length_in_turn 2 (λ j. asks n t (j + 1)) (λ j. refl) n

pub length_panel : (n r : ℕ) → length (panel_of n r) ≡ 2 * (n * r)
length_panel n r = omega (arith, length_in_turn (n * 2) (round n) (length_round n) r, mul_assoc r n 2, mul_comm r n)

pub length_keypad : (n r k : ℕ) → length (keypad_of n r k) ≡ 2 * r
length_keypad n r k = omega (arith, length_in_turn 2 (λ t. answers n t k) (λ t. refl) r)

panel_at : (n r t j s p : ℕ) → t < r → j < n → s < 2 → p ≡ 2 * (t * n + j) + s → get_or (panel_of n r) p no_event ≡ get_or (asks n t (j + 1)) s no_event
panel_at n r t j s p round_below keypad_below part e =
    let place : p ≡ t * (n * 2) + (j * 2 + s) = omega (arith, mul_assoc t n 2) in
    let inner = get_or_in_turn 2 (λ j. asks n t (j + 1)) (λ j. refl) no_event n j s keypad_below part in
    let outer = get_or_in_turn (n * 2) (round n) (length_round n) no_event r t (j * 2 + s) round_below (omega arith) in
    cc

pub panel_poll : (n r t j p : ℕ) → t < r → j < n → p ≡ 2 * (t * n + j) → get_or (panel_of n r) p no_event ≡ event output (suc j) p
panel_poll n r t j p round_below keypad_below e =
    let number : poll_of n t (j + 1) ≡ p = omega arith in
    let peer : j + 1 ≡ suc j = omega arith in
    let at = panel_at n r t j 0 p round_below keypad_below (omega arith) (omega arith) in
    cc

pub panel_reply : (n r t j p : ℕ) → t < r → j < n → p ≡ 2 * (t * n + j) + 1 → get_or (panel_of n r) p no_event ≡ event input (suc j) p
panel_reply n r t j p round_below keypad_below e =
    let number : reply_of n t (j + 1) ≡ p = omega arith in
    let peer : j + 1 ≡ suc j = omega arith in
    let at = panel_at n r t j 1 p round_below keypad_below (omega arith) (omega arith) in
    cc

keypad_at : (n r k t s q : ℕ) → t < r → s < 2 → q ≡ 2 * t + s → get_or (keypad_of n r k) q no_event ≡ get_or (answers n t k) s no_event
keypad_at n r k t s q round_below part e =
    let place : q ≡ t * 2 + s = omega arith in
    let at = get_or_in_turn 2 (λ t. answers n t k) (λ t. refl) no_event r t s round_below part in
    cc

pub keypad_poll : (n r k t q : ℕ) → t < r → q ≡ 2 * t → get_or (keypad_of n r k) q no_event ≡ event input 0 (poll_of n t k)
keypad_poll n r k t q round_below e = keypad_at n r k t 0 q round_below (omega arith) (omega arith)

pub keypad_reply : (n r k t q : ℕ) → t < r → q ≡ 2 * t + 1 → get_or (keypad_of n r k) q no_event ≡ event output 0 (reply_of n t k)
keypad_reply n r k t q round_below e = keypad_at n r k t 1 q round_below (omega arith) (omega arith)

pub length_polling : (n r : ℕ) → length (polling n r) ≡ n + 1
length_polling n r = omega (arith, length-map-range_with_len (keypad_of n r) 1 n)

pub column_keypad : (n r j : ℕ) → j < n → column (polling n r) (suc j) ≡ keypad_of n r (suc j)
column_keypad n r j l = get_or-map-range_with_len (keypad_of n r) 1 n j (suc j) [] l (omega arith)

pub column_past : (n r i : ℕ) → n < i → column (polling n r) i ≡ []
column_past n r i l = get_or_past (polling n r) i [] (omega (arith, length_polling n r))
