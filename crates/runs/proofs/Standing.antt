-- A history with the positions of any rows: instance 0 steps as often as its row says, then instance 1, and so on.
use Rattle.std.proofs.Common.{◌≡◌, ℕ, zero, suc, ◌+◌, ◌<◌, ◌≤◌, List, [], ◌∷◌, ◌++◌, length, sym, ap, ◌∙◌, inl, inr, arith}
use Rattle.std.proofs.lemmas.Bool.{cases_eq, cases_lt}
use Rattle.std.proofs.lemmas.List.{get_or_past}
use Rattle.orders.specs.Histories.{pos}
use Rattle.orders.proofs.Positions.{pos_step, pos_stay}
use Rattle.rules.specs.declared.row.Row.{Row}
use Rattle.rules.specs.Places.{place_of, no_row}
use Rattle.runs.specs.Stands.{Stands}

-- n steps more of instance i
onward : List ℕ → ℕ → ℕ → List ℕ
onward h i zero = h
onward h i (suc n) = onward h i n ++ (i ∷ [])

onward_own : (h : List ℕ) (i n : ℕ) → pos (onward h i n) i ≡ pos h i + n
unfolding onward
onward_own h i zero = omega arith
onward_own h i (suc n) = let a = pos_step (onward h i n) i in let b = onward_own h i n in omega arith

onward_other : (h : List ℕ) (i n j : ℕ) → (i ≡ j → ⊥) → pos (onward h i n) j ≡ pos h j
unfolding onward
onward_other h i zero j d = omega arith
onward_other h i (suc n) j d = let a = pos_stay (onward h i n) i j d in let b = onward_other h i n j d in omega arith

-- the first n instances in turn, each as often as its position says
in_turn : (ℕ → ℕ) → ℕ → List ℕ
in_turn p zero = []
in_turn p (suc n) = onward (in_turn p n) n (p n)

in_turn_past : (p : ℕ → ℕ) (n j : ℕ) → n ≤ j → pos (in_turn p n) j ≡ 0
unfolding in_turn
in_turn_past p zero j l = omega arith
in_turn_past p (suc n) j l =
    let a = onward_other (in_turn p n) n (p n) j (λ e. omega arith) in
    let b = in_turn_past p n j (omega arith) in
    omega arith

in_turn_below : (p : ℕ → ℕ) (n j : ℕ) → j < n → pos (in_turn p n) j ≡ p j
unfolding in_turn
in_turn_below p zero j l = absurd (omega arith)
in_turn_below p (suc n) j l =
    elim (cases_eq n j) [
      | inl last ↦
          let a = onward_own (in_turn p n) n (p n) in
          let b = in_turn_past p n n (omega arith) in
          let c = ap (pos (onward (in_turn p n) n (p n))) last in
          let d = ap p last in
          omega arith
      | inr before ↦
          let a = onward_other (in_turn p n) n (p n) j before in
          let b = in_turn_below p n j (omega arith) in
          omega arith
    ]

-- the rows hold the positions of some history: past the last of them every position is 0
pub some_history : (rows : List Row) → (h : List ℕ) × Stands rows h
some_history rows = (
  in_turn (place_of rows) (length rows),
  λ j.
      elim (cases_lt j (length rows)) [
        | inl below ↦ sym (in_turn_below (place_of rows) (length rows) j below)
        | inr past ↦ ap (λ (r : Row). r.position) (get_or_past rows j no_row past) ∙ sym (in_turn_past (place_of rows) (length rows) j past)
      ],
)
