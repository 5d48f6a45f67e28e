-- A medium made narrower twice.
use Rattle.std.proofs.Common.{◌≡◌, ℕ, Bool, true, ◌&&◌, nat_lt, min, Some, None, Option, MatchOption, refl, ap, ◌∙◌, arith}
use mathlib.Core.HLevel.{is_prop→PathP, Π_prop}
use mathlib.Core.Bool.{Bool-set}
use Rattle.media.specs.Carry.{Carry}
use Rattle.media.specs.Media.{narrow}
use Rattle.buses.specs.Carried.{within}

-- two media with the same answers are one
same_carry : (m n : Carry) → ((i j w : ℕ) → m.send i j w ≡ n.send i j w) → ((i j a : ℕ) → m.take i j a ≡ n.take i j a) → m ≡ n
same_carry m n s t = λ k. record {
  send = λ i j w. s i j w k;
  take = λ i j a. t i j a k;
  falls = λ i j v w l y. is_prop→PathP (λ d. s i j w d ≡ true → s i j v d ≡ true) (λ d. Π_prop (λ x. Bool-set _ _)) (m.falls i j v w l) (n.falls i j v w l) k y;
}

-- below the lesser of two numbers is below both
below_both : (b : Bool) (w c d : ℕ) → (b && nat_lt w (min d c)) ≡ ((b && nat_lt w d) && nat_lt w c)
below_both b w c d = grind arith

narrow_twice : (c d : ℕ) (m : Carry) → narrow (min d c) m ≡ narrow c (narrow d m)
narrow_twice c d m = same_carry (narrow (min d c) m) (narrow c (narrow d m)) (λ i j w. below_both (m.send i j w) w c d) (λ i j a. refl)

-- the least room is what counts
pub least_counts : (o : Option ℕ) (room least : ℕ) (m : Carry) → MatchOption o (least ≡ room) (λ d. least ≡ min d room) → narrow least m ≡ narrow room (within o m)
least_counts None room least m is = ap (λ (x : ℕ). narrow x m) is
least_counts (Some d) room least m is = ap (λ (x : ℕ). narrow x m) is ∙ narrow_twice room d m
