-- Positions in longer histories, and induction from a history's end.
use Rattle.std.proofs.Common.{◌≡◌, ℕ, ◌+◌, eqb, List, [], ◌∷◌, ◌++◌, sym, refl, subst, arith}
use Rattle.std.proofs.lemmas.List.{append_assoc, append-nil}
use Rattle.std.proofs.lemmas.Bool.{cond-true, cond-false, eq-eqb, ne_eqb}
use Rattle.orders.specs.Histories.{pos}

pub pos_append : (u v : List ℕ) (i : ℕ) → pos (u ++ v) i ≡ pos u i + pos v i
pos_append [] v i = omega arith
pos_append (x ∷ u) v i = let r = pos_append u v i in omega arith

pub pos_step : (u : List ℕ) (i : ℕ) → pos (u ++ (i ∷ [])) i ≡ pos u i + 1
pos_step u i = let a = pos_append u (i ∷ []) i in let b = cond-true {A = ℕ} (eqb i i) 1 0 (eq-eqb i i refl) in omega arith

pub pos_stay : (u : List ℕ) (i j : ℕ) → (i ≡ j → ⊥) → pos (u ++ (i ∷ [])) j ≡ pos u j
pos_stay u i j n = let a = pos_append u (i ∷ []) j in let b = cond-false {A = ℕ} (eqb i j) 1 0 (ne_eqb i j n) in omega arith

-- what holds of the empty history, and of one step more, holds of every history
from_front : (P : List ℕ → Type 0) → ((u : List ℕ) (i : ℕ) → P u → P (u ++ (i ∷ []))) → (u h : List ℕ) → P u → P (u ++ h)
from_front P step u [] p = subst P (sym (append-nil u)) p
from_front P step u (i ∷ h) p = subst P (append_assoc u (i ∷ []) h) (from_front P step (u ++ (i ∷ [])) h (step u i p))

pub by_steps : (P : List ℕ → Type 0) → P [] → ((u : List ℕ) (i : ℕ) → P u → P (u ++ (i ∷ []))) → (h : List ℕ) → P h
by_steps P none step h = from_front P step [] h none
