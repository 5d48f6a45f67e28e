-- A drive to its end keeps its steps.
use Rattle.std.proofs.Common.{◌≡◌, ℕ, ◌≤◌, Bool, List, length, take, drop, refl, sym, ap, ◌∙◌, arith}
use Rattle.std.proofs.lemmas.List.{take_at}
use Rattle.orders.specs.Driving.{driven, moved_by}
use Rattle.orders.proofs.Driving.{driven_most}
use Rattle.rules.specs.declared.row.Row.{Row}
use Rattle.rules.specs.Places.{place_of}
use Rattle.rules.specs.Drove.{Wrote, most_steps}

pub most_steps_is : most_steps ≡ 4096
unfolding most_steps
most_steps_is = refl

-- the buffer out of a drive is as long as a drive can be, and the steps were written to it
module _ (test : (ℕ → ℕ) → ℕ → Bool) (width : ℕ) (before after : List Row) (out out' : List ℕ) (long : length out ≡ 4096) (same : length out' ≡ length out)
    (wrote : Wrote (driven test width (length out) (place_of before)) before after out out') (made : ℕ) (all : made ≡ length (driven test width (length out) (place_of before))) where
  enough : length out ≡ most_steps
  enough = long ∙ sym most_steps_is

  pub steps_within : made ≤ length out'
  steps_within = let m = driven_most test width (length out) (place_of before) in omega arith

  pub steps_kept : take made out' ≡ driven test width most_steps (place_of before)
  steps_kept =
      let w = driven test width (length out) (place_of before) in
      ap (take made) wrote.bytes ∙ take_at w (drop (length w) out) made (sym all) ∙ ap (λ (k : ℕ). driven test width k (place_of before)) enough

  pub steps_moved : (j : ℕ) → place_of after j ≡ moved_by (place_of before) (driven test width most_steps (place_of before)) j
  steps_moved j = wrote.places j ∙ ap (λ (k : ℕ). moved_by (place_of before) (driven test width k (place_of before)) j) enough
