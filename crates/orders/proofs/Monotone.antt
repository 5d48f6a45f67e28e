-- What may run stays possible: the theorem on which everything about orders rests.
use Rattle.std.proofs.Common.{◌≡◌, ℕ, ◌≤◌, true, List, ap, subst, arith}
use Rattle.charts.specs.declared.parts.Event.{Event}
use Rattle.charts.specs.Events.{event, output, input}
use Rattle.charts.specs.Lists.{At}
use Rattle.media.specs.Carry.{Carry}
use Rattle.orders.specs.Histories.{pos, Next}
use Rattle.orders.specs.Passing.{passing, on_the_way}
use Rattle.orders.specs.May.{May, alone, sends, takes}
use Rattle.orders.proofs.Counting.{passing_less}
use Rattle.orders.specs.Orders.{Stays}

module _ (M : Carry) (L : List (List Event)) where
  next_same : (h g : List ℕ) (i : ℕ) (e : Event) → pos h i ≡ pos g i → Next L h i e → Next L g i e
  next_same h g i e same n = subst (λ (k : ℕ). At L i k e) same n

  pub may_stays : Stays (May M L)
  may_stays h g i grown same (alone e n a) = alone e (next_same h g i e same n) a
  may_stays h g i grown same (sends j m n l y) =
      let fewer : on_the_way L g i j ≤ on_the_way L h i j =
      let a = passing_less L i j (pos g i) (pos h j) (pos g j) (grown j) in
      let b = ap (λ (k : ℕ). passing L i j k (pos h j)) same in
      omega arith in
      sends j m (next_same h g i (event output j m) same n) l (M.falls i j (on_the_way L g i j) (on_the_way L h i j) fewer y)
  may_stays h g i grown same (takes s m k n l sent ran y) =
      let far = grown s in
      takes s m k (next_same h g i (event input s m) same n) l sent (omega arith) (subst (λ (x : ℕ). M.take s i (passing L s i k x) ≡ true) same y)
