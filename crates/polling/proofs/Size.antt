-- A poll of n keypads and r rounds has 4 n r events.
use Rattle.std.proofs.Common.{◌≡◌, ℕ, zero, suc, ◌+◌, ◌*◌, map, length, sum_by, sym, suc-mul, zero-mul, mul_left_comm, arith}
use Rattle.std.specs.List.{range_with_len}
use Rattle.std.proofs.lemmas.List.Sums.{sum_by-cons}
use Rattle.charts.specs.Lists.{size}
use Rattle.polling.specs.Polling.{panel_of, keypad_of, polling}
use Rattle.polling.proofs.Places.{length_panel, length_keypad}

size_keypads : (n r a m : ℕ) → sum_by length (map (keypad_of n r) (range_with_len a m)) ≡ m * (2 * r)
size_keypads n r a zero = sym (zero-mul (2 * r))
size_keypads n r a (suc m) =
    omega (arith, sum_by-cons length (keypad_of n r a) (map (keypad_of n r) (range_with_len (a + 1) m)), length_keypad n r a, size_keypads n r (a + 1) m, suc-mul m (2 * r))

pub size_polling : (n r : ℕ) → size (polling n r) ≡ 4 * (n * r)
size_polling n r =
    omega (arith, sum_by-cons length (panel_of n r) (map (keypad_of n r) (range_with_len 1 n)), length_panel n r, size_keypads n r 1 n, mul_left_comm n 2 r)
