-- The span of a poll of n keypads and r rounds is 2 n r.
use Rattle.std.proofs.Common.{◌≡◌, ℕ, suc, ◌+◌, ◌-◌, ◌*◌, ◌/◌, ◌%◌, refl, inl, inr, arith}
use Rattle.std.proofs.lemmas.Bool.{cases_lt}
use Rattle.charts.specs.Events.{event, input}
use Rattle.charts.specs.Span.{span}
use Rattle.charts.proofs.Spans.{Spans, spans, same_span}
use Rattle.polling.specs.Polling.{polling}
use Rattle.polling.proofs.Happens.{at_hears}
use Rattle.polling.proofs.Places.{exchange}
use Rattle.polling.proofs.Sound.{fair}

-- the last reply, where there is one
spans_polling : (n r : ℕ) → Spans (polling n r) (2 * (n * r))
spans_polling n r =
    record {
      below = λ i k e a m. (fair n r i k e a).number;
      reached =
          elim (cases_lt 0 (n * r)) [
            | inl some ↦
                let x = exchange n r (n * r - 1) (omega arith) in
                let t = (n * r - 1) / n in
                let j = (n * r - 1) % n in
                let m = 2 * (t * n + j) + 1 in
                inr (0, m, event input (suc j) m, at_hears n r t j x.round x.keypad, inr refl, omega arith)
            | inr none ↦ inl (omega arith)
          ];
    }

pub span_polling : (n r : ℕ) → span (polling n r) ≡ 2 * (n * r)
span_polling n r = same_span (polling n r) (span (polling n r)) (2 * (n * r)) (spans (polling n r)) (spans_polling n r)
