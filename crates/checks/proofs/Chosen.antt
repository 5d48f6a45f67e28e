-- What an absent answer tells.
use Rattle.std.proofs.Common.{◌≡◌, ℕ, Bool, true, false, Some, None, Option, refl, arith}
use Rattle.checks.specs.Choice.{unless, or_else}

pub some_none : {X Y : Type 0} (x : X) → Some x ≡ None → Y
some_none x e = absurd (let z : ◌≡◌ {A = ℕ} 0 1 = cc in omega arith)

pub unless_none : {X : Type 0} (t : Bool) (x : X) → unless t x ≡ None → t ≡ true
unless_none true x e = refl
unless_none false x e = some_none x e

pub none_unless : {X : Type 0} (t : Bool) (x : X) → t ≡ true → unless t x ≡ None
none_unless true x e = refl
none_unless false x e = absurd (let z : ◌≡◌ {A = ℕ} 0 1 = cc in omega arith)

pub some_unless : {X : Type 0} (t : Bool) (x : X) → t ≡ false → unless t x ≡ Some x
some_unless true x e = absurd (let z : ◌≡◌ {A = ℕ} 0 1 = cc in omega arith)
some_unless false x e = refl

pub or_else_none : {X : Type 0} (a b : Option X) → or_else a b ≡ None → (a ≡ None) × (b ≡ None)
or_else_none None b e = (refl, e)
or_else_none (Some x) b e = some_none x e

pub none_or_else : {X : Type 0} (a b : Option X) → a ≡ None → or_else a b ≡ b
none_or_else None b e = refl
none_or_else (Some x) b e = some_none x e

pub some_or_else : {X : Type 0} (a b : Option X) (x : X) → a ≡ Some x → or_else a b ≡ Some x
some_or_else None b x e = absurd (let z : ◌≡◌ {A = ℕ} 0 1 = cc in omega arith)
some_or_else (Some y) b x e = e
