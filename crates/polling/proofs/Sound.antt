-- The lists of a poll within its limits are sound.
use Rattle.std.proofs.Common.{◌≡◌, ℕ, suc, ◌+◌, ◌*◌, ◌/◌, ◌<◌, ◌≤◌, sym, ap, ◌∙◌, subst₂, inl, arith}
use lib.Arith.{digits_div}
use Rattle.std.proofs.lemmas.Nat.{mul-le, mul-add-lt}
use Rattle.charts.specs.declared.parts.Event.{Event}
use Rattle.charts.specs.Events.{event, output, input}
use Rattle.charts.specs.Lists.{At}
use Rattle.charts.specs.Sound.{Sound}
use Rattle.polling.specs.Polling.{polling}
use Rattle.polling.proofs.Places.{length_polling}
use Rattle.polling.proofs.Happens.{Sent, Received, polls, replies, polled, hears, sends, receives, happens, at_polls, at_hears, at_polled, at_replies}
use Rattle.polling.proofs.Size.{size_polling}

-- what holds of each event: an output or an input, of a message with an instance, below 2 n r
pub record Fair (n r : ℕ) (e : Event) : Type 0 where
  pub low : output ≤ e.kind
  pub high : e.kind ≤ input
  pub peer : e.peer ≤ n
  pub number : e.number < 2 * (n * r)

fair_sent : (n r i k : ℕ) (e : Event) → e.kind ≡ output → Sent n r i k e.peer e.number → Fair n r e
fair_sent n r i k e kind (polls t j a b at place peer number) = omega (arith, mul-add-lt t n j r a b)
fair_sent n r i k e kind (replies t j a b at place peer number) = omega (arith, mul-add-lt t n j r a b)

fair_received : (n r i k : ℕ) (e : Event) → e.kind ≡ input → Received n r i k e.peer e.number → Fair n r e
fair_received n r i k e kind (polled t j a b at place peer number) = omega (arith, mul-add-lt t n j r a b)
fair_received n r i k e kind (hears t j a b at place peer number) = omega (arith, mul-add-lt t n j r a b)

pub fair : (n r i k : ℕ) (e : Event) → At (polling n r) i k e → Fair n r e
fair n r i k e a = elim (happens n r i k e a) [ sends kind s ↦ fair_sent n r i k e kind s | receives kind s ↦ fair_received n r i k e kind s ]

sent : (n r i k p m : ℕ) → At (polling n r) i k (event output p m) → Sent n r i k p m
sent n r i k p m a = elim (happens n r i k (event output p m) a) [ sends kind s ↦ s | receives kind s ↦ absurd (omega arith) ]

received : (n r i k p m : ℕ) → At (polling n r) i k (event input p m) → Received n r i k p m
received n r i k p m a = elim (happens n r i k (event input p m) a) [ sends kind s ↦ absurd (omega arith) | receives kind s ↦ s ]

-- a number tells the round and the keypad
same_exchange : (n t j t' j' : ℕ) → j < n → j' < n → t * n + j ≡ t' * n + j' → (t ≡ t') × (j ≡ j')
same_exchange n t j t' j' b b' e =
    let rounds : t ≡ t' = sym (digits_div t b) ∙ ap (λ (x : ℕ). x / n) e ∙ digits_div t' b' in
    let products : t * n ≡ t' * n = ap (λ (x : ℕ). x * n) rounds in
    (rounds, omega arith)

sent_once : (n r m i k p j l q : ℕ) → Sent n r i k p m → Sent n r j l q m → (i ≡ j) × (k ≡ l)
sent_once n r m i k p j l q (polls t u a b at place peer number) (polls t' u' a' b' at' place' peer' number') = omega arith
sent_once n r m i k p j l q (polls t u a b at place peer number) (replies t' u' a' b' at' place' peer' number') = absurd (omega arith)
sent_once n r m i k p j l q (replies t u a b at place peer number) (polls t' u' a' b' at' place' peer' number') = absurd (omega arith)
sent_once n r m i k p j l q (replies t u a b at place peer number) (replies t' u' a' b' at' place' peer' number') =
    let same = same_exchange n t u t' u' b b' (omega arith) in omega arith

received_once : (n r m i k p j l q : ℕ) → Received n r i k p m → Received n r j l q m → (i ≡ j) × (k ≡ l)
received_once n r m i k p j l q (hears t u a b at place peer number) (hears t' u' a' b' at' place' peer' number') = omega arith
received_once n r m i k p j l q (hears t u a b at place peer number) (polled t' u' a' b' at' place' peer' number') = absurd (omega arith)
received_once n r m i k p j l q (polled t u a b at place peer number) (hears t' u' a' b' at' place' peer' number') = absurd (omega arith)
received_once n r m i k p j l q (polled t u a b at place peer number) (polled t' u' a' b' at' place' peer' number') =
    let same = same_exchange n t u t' u' b b' (omega arith) in omega arith

-- an event at a place, by equal names
at_same : (n r i i' k : ℕ) (e f : Event) → i ≡ i' → e ≡ f → At (polling n r) i k e → At (polling n r) i' k f
at_same n r i i' k e f p q a = subst₂ (λ (x : ℕ) (y : Event). At (polling n r) x k y) p q a

matched_output : (n r m i k j : ℕ) → Sent n r i k j m → (l : ℕ) × At (polling n r) j l (event input i m)
matched_output n r m i k j (polls t u a b at place peer number) = (2 * t, at_same n r (suc u) j (2 * t) (event input 0 (2 * (t * n + u))) (event input i m) (sym peer) (cc) (at_polled n r t u a b))
matched_output n r m i k j (replies t u a b at place peer number) = (2 * (t * n + u) + 1, at_same n r 0 j (2 * (t * n + u) + 1) (event input (suc u) (2 * (t * n + u) + 1)) (event input i m) (sym peer) (cc) (at_hears n r t u a b))

matched_input : (n r m j l i : ℕ) → Received n r j l i m → (k : ℕ) × At (polling n r) i k (event output j m)
matched_input n r m j l i (polled t u a b at place peer number) = (2 * (t * n + u), at_same n r 0 i (2 * (t * n + u)) (event output (suc u) (2 * (t * n + u))) (event output j m) (sym peer) (cc) (at_polls n r t u a b))
matched_input n r m j l i (hears t u a b at place peer number) = (2 * t + 1, at_same n r (suc u) i (2 * t + 1) (event output 0 (2 * (t * n + u) + 1)) (event output j m) (sym peer) (cc) (at_replies n r t u a b))

pub sound_polling : (n r : ℕ) → n ≤ 31 → r ≤ 32 → Sound (polling n r)
sound_polling n r few short =
    let most = mul-le n r 31 32 few short in
    record {
      few_instances = omega (arith, length_polling n r);
      few_events = omega (arith, size_polling n r);
      kinds = λ i k e a. let f = fair n r i k e a in omega arith;
      message_peers = λ i k e a m. let f = fair n r i k e a in inl (omega (arith, length_polling n r));
      action_peers = λ i k e a m. let f = fair n r i k e a in absurd (omega arith);
      numbers = λ i k e a. let f = fair n r i k e a in omega arith;
      one_output = λ m i k p j l q a b. sent_once n r m i k p j l q (sent n r i k p m a) (sent n r j l q m b);
      one_input = λ m i k p j l q a b. received_once n r m i k p j l q (received n r i k p m a) (received n r j l q m b);
      outputs_matched = λ m i k j a l. matched_output n r m i k j (sent n r i k j m a);
      inputs_matched = λ m j l i a h. matched_input n r m j l i (received n r j l i m a);
      environment_alone = λ i k j l e f a b m o p x. let g = fair n r i k e a in absurd (omega arith);
    }
