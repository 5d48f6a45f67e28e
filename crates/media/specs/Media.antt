-- The media that there are.
use Rattle.std.specs.Prelude.{ℕ, true, ◌&&◌, ◌==◌, nat_lt, refl}
use Rattle.std.proofs.Common.{arith}
use Rattle.std.proofs.lemmas.Bool.{and_parts, and_from, ltb-true, lt-ltb}
use Rattle.media.specs.Carry.{Carry}

-- always yes
abbrev pub free : Carry
free = record { send = λ i j w. true; take = λ i j a. true; falls = λ i j v w l y. refl }

-- sends always, takes only the first
abbrev pub line : Carry
line = record { send = λ i j w. true; take = λ i j a. (a == 0); falls = λ i j v w l y. refl }

-- takes as the medium below does, and sends when that does and fewer than c are on the way
abbrev pub narrow : ℕ → Carry → Carry
narrow c m =
    record {
      send = λ i j w. m.send i j w && nat_lt w c;
      take = m.take;
      falls = λ i j v w l y.
          let p = and_parts (m.send i j w) (nat_lt w c) y in
          let b = ltb-true w c p.1 in
          and_from (m.send i j v) (nat_lt v c) (m.falls i j v w l p.0) (lt-ltb v c (omega arith));
    }
