-- What stands where in the lists of a poll, in the form in which the code asks.
use Rattle.std.proofs.Common.{◌≡◌, ℕ, zero, suc, ◌+◌, ◌-◌, ◌*◌, ◌/◌, ◌%◌, ◌<◌, ◌≤◌, length, get_or, ap, ◌∙◌, arith}
use Rattle.charts.specs.Events.{event, no_event, output, input}
use Rattle.charts.specs.Lists.{column, count_of}
use Rattle.polling.specs.Polling.{panel_of, keypad_of, polling}
use Rattle.polling.proofs.Size.{size_polling}
use Rattle.polling.proofs.Spanned.{span_polling}
use Rattle.polling.proofs.Places.{exchange, length_polling, length_panel, length_keypad, column_keypad, column_past, panel_poll, panel_reply, keypad_poll, keypad_reply}

pub keypad_column : (n r i : ℕ) → 1 ≤ i → i ≤ n → column (polling n r) i ≡ keypad_of n r i
keypad_column n r zero low high = absurd (omega arith)
keypad_column n r (suc j) low high = column_keypad n r j high

-- the numbers of events
pub count_panel : (n r i : ℕ) → i ≡ 0 → count_of (polling n r) i ≡ 2 * (n * r)
count_panel n r i z = ap (count_of (polling n r)) z ∙ length_panel n r

pub count_keypad : (n r i : ℕ) → 1 ≤ i → i ≤ n → count_of (polling n r) i ≡ 2 * r
count_keypad n r i low high = ap length (keypad_column n r i low high) ∙ length_keypad n r i

pub count_past : (n r i : ℕ) → n < i → count_of (polling n r) i ≡ 0
count_past n r i past = ap length (column_past n r i past)

-- the events
pub panel_even : (n r k : ℕ) → k < 2 * (n * r) → k % 2 ≡ 0 → get_or (panel_of n r) k no_event ≡ event output (k / 2 % n + 1) (2 * (k / 2))
panel_even n r k within even =
    let x = exchange n r (k / 2) (omega arith) in
    let number : 2 * (k / 2) ≡ k = omega arith in
    let peer : k / 2 % n + 1 ≡ suc (k / 2 % n) = omega arith in
    let at = panel_poll n r (k / 2 / n) (k / 2 % n) k x.round x.keypad (omega arith) in
    cc

pub panel_odd : (n r k : ℕ) → k < 2 * (n * r) → k % 2 ≡ 1 → get_or (panel_of n r) k no_event ≡ event input (k / 2 % n + 1) (2 * (k / 2) + 1)
panel_odd n r k within odd =
    let x = exchange n r (k / 2) (omega arith) in
    let number : 2 * (k / 2) + 1 ≡ k = omega arith in
    let peer : k / 2 % n + 1 ≡ suc (k / 2 % n) = omega arith in
    let at = panel_reply n r (k / 2 / n) (k / 2 % n) k x.round x.keypad (omega arith) in
    cc

pub keypad_even : (n r i k : ℕ) → k < 2 * r → k % 2 ≡ 0 → get_or (keypad_of n r i) k no_event ≡ event input 0 (2 * (k / 2 * n + i - 1))
keypad_even n r i k within even = keypad_poll n r i (k / 2) k (omega arith) (omega arith)

pub keypad_odd : (n r i k : ℕ) → k < 2 * r → k % 2 ≡ 1 → get_or (keypad_of n r i) k no_event ≡ event output 0 (2 * (k / 2 * n + i - 1) + 1)
keypad_odd n r i k within odd = keypad_reply n r i (k / 2) k (omega arith) (omega arith)

-- for each answer of a schedule
pub ruleset places = (length_polling, size_polling, span_polling, count_panel, count_keypad, count_past, keypad_column, panel_even, panel_odd, keypad_even, keypad_odd)
