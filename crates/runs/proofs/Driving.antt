-- A drive answers and writes what the history fixes.
use Rattle.std.proofs.Common.{◌≡◌, ℕ, zero, suc, ◌-◌, ◌<◌, ◌≤◌, cond, eqb, ltb, List, [], ◌∷◌, ◌++◌, length, take, drop, None, Ok, sym, refl, ap, ◌∙◌, subst, ap₂, inl, inr, arith, length-take}
use mathlib.Core.Path.{fun_ext}
use Rattle.std.proofs.lemmas.List.{append_assoc, get_or_past, take_at}
use Rattle.std.proofs.lemmas.Bool.{cases_lt, cases_eq, eq-eqb, ne_eqb, lt-ltb, le-ltb, ltb-true, ltb-false, cond-true, cond-false}
use Rattle.charts.specs.declared.parts.Event.{Event}
use Rattle.charts.specs.Lists.{count_of}
use Rattle.charts.specs.Sound.{Sound}
use Rattle.media.specs.Carry.{Carry}
use Rattle.orders.specs.Histories.{pos}
use Rattle.orders.specs.Deciding.{unfinished, may_now_at}
use Rattle.orders.specs.Driving.{lowest, moved_by, driven}
use Rattle.orders.specs.Drives.{Drives}
use Rattle.orders.proofs.Lowest.{lowest_passes, lowest_least}
use Rattle.orders.proofs.Driving.{moved_by_pos, driven_most}
use Rattle.orders.proofs.Verdicts.{drives}
use Rattle.rules.specs.declared.row.Row.{Row}
use Rattle.rules.specs.Places.{place_of}
use Rattle.rules.specs.Held.{held_now}
use Rattle.rules.specs.Drove.{Wrote}
use Rattle.runs.specs.declared.parts.Ending.{Ending}
use Rattle.runs.specs.declared.parts.Ending.TheVariants.{Finished, Count, Stuck}
use Rattle.runs.specs.Endings.{ending_of}
use Rattle.runs.specs.Stands.{Stands}
use Rattle.runs.specs.Drives.{Done, EndsBy, DriveAnswers}
use Rattle.runs.proofs.Telling.{standing}

-- the rest of a part and what is behind it
rest_of_part : (k n : ℕ) (xs : List ℕ) → k ≤ n → drop k (take n xs) ++ drop n xs ≡ drop k xs
rest_of_part zero zero xs h = refl
rest_of_part zero (suc n) [] h = refl
rest_of_part zero (suc n) (x ∷ xs) h = ap (λ (ys : List ℕ). x ∷ ys) (rest_of_part zero n xs (omega arith))
rest_of_part (suc k) zero xs h = absurd (omega arith)
rest_of_part (suc k) (suc n) [] h = refl
rest_of_part (suc k) (suc n) (x ∷ xs) h = rest_of_part k n xs (omega arith)

-- a list is done where no instance is unfinished
pub all_done : (L : List (List Event)) (g : List ℕ) → length L ≤ lowest (unfinished L (pos g)) (length L) → Done L g
all_done L g h i =
    elim (cases_lt i (length L)) [
      | inl l ↦ ltb-false (pos g i) (count_of L i) (lowest_least (unfinished L (pos g)) (length L) i (omega arith))
      | inr far ↦ let none : count_of L i ≡ 0 = ap length (get_or_past L i [] far) in omega arith
    ]

pub not_done : (L : List (List Event)) (g : List ℕ) → lowest (unfinished L (pos g)) (length L) < length L → Done L g → ⊥
not_done L g h done =
    let i = lowest (unfinished L (pos g)) (length L) in
    let l = ltb-true (pos g i) (count_of L i) (lowest_passes (unfinished L (pos g)) (length L) h) in
    let d = done i in
    omega arith

-- the ending is as it should be
pub ends_by : (L : List (List Event)) (g w : List ℕ) (n : ℕ) → length w ≤ n → EndsBy L g n w (ending_of L (pos g) (length w) n)
ends_by L g w n most =
    elim (cases_lt (lowest (unfinished L (pos g)) (length L)) (length L)) [
      | inr none ↦
          subst (EndsBy L g n w) (sym (cond-false (ltb (lowest (unfinished L (pos g)) (length L)) (length L)) (cond (eqb (length w) n) Count Stuck) Finished (le-ltb (lowest (unfinished L (pos g)) (length L)) (length L) none)))
          (all_done L g none)
      | inl some ↦
          subst (EndsBy L g n w) (sym (cond-true (ltb (lowest (unfinished L (pos g)) (length L)) (length L)) (cond (eqb (length w) n) Count Stuck) Finished (lt-ltb (lowest (unfinished L (pos g)) (length L)) (length L) some)))
          (elim (cases_eq (length w) n) [
            | inl all ↦ subst (EndsBy L g n w) (sym (cond-true (eqb (length w) n) Count Stuck (eq-eqb (length w) n all))) (not_done L g some, all)
            | inr few ↦ subst (EndsBy L g n w) (sym (cond-false (eqb (length w) n) Count Stuck (ne_eqb (length w) n few))) (not_done L g some, omega (arith, few))
          ])
    ]

-- a drive into the first n places of a buffer
module _ (M : Carry) (L : List (List Event)) (rows after : List Row) (n : ℕ) (buffer part : List ℕ) (room : n ≤ length buffer)
    (wrote : Wrote (driven (held_now M L None) (length L) (length (take (n - 0) (drop 0 buffer))) (place_of rows)) rows after (take (n - 0) (drop 0 buffer)) part) where
  abbrev w : List ℕ
  w = driven (may_now_at M L) (length L) n (place_of rows)

  part_long : length (take (n - 0) (drop 0 buffer)) ≡ n
  part_long = let a = length-take (n - 0) (drop 0 buffer) in omega arith

  pub steps_are : driven (held_now M L None) (length L) (length (take (n - 0) (drop 0 buffer))) (place_of rows) ≡ w
  steps_are = ap (λ (k : ℕ). driven (held_now M L None) (length L) k (place_of rows)) part_long

  short : length w ≤ n
  short = driven_most (may_now_at M L) (length L) n (place_of rows)

  whole : n - 0 ≡ n
  whole = omega arith

  pub drive_writes : part ++ drop (n - 0) (drop 0 buffer) ≡ w ++ drop (length w) buffer
  drive_writes =
      ap (λ (xs : List ℕ). xs ++ drop (n - 0) (drop 0 buffer)) wrote.bytes
      ∙ ap₂ (λ (v : List ℕ) (k : ℕ). (v ++ drop (length v) (take k buffer)) ++ drop k buffer) steps_are whole
      ∙ append_assoc w (drop (length w) (take n buffer)) (drop n buffer) ∙ ap (λ (xs : List ℕ). w ++ xs) (rest_of_part (length w) n buffer short)

  pub drive_moves : (j : ℕ) → place_of after j ≡ moved_by (place_of rows) (take (length w) (part ++ drop (n - 0) (drop 0 buffer))) j
  drive_moves j =
      wrote.places j ∙ ap (λ (v : List ℕ). moved_by (place_of rows) v j) (steps_are ∙ sym (ap (take (length w)) drive_writes ∙ take_at w (drop (length w) buffer) (length w) refl))

  module _ (sound : Sound L) (h : List ℕ) (stands : Stands rows h) where
    from_there : w ≡ driven (may_now_at M L) (length L) n (pos h)
    from_there = ap (driven (may_now_at M L) (length L) n) (standing rows h stands)

    led_to : place_of after ≡ pos (h ++ w)
    led_to =
        fun_ext (λ j. wrote.places j ∙ ap (λ (v : List ℕ). moved_by (place_of rows) v j) steps_are)
        ∙ ap (λ (p : ℕ → ℕ). moved_by p w) (standing rows h stands) ∙ moved_by_pos h w

    pub drive_answers : (made : ℕ) (e : Ending) → made ≡ length w → e ≡ ending_of L (place_of after) made n →
        DriveAnswers M L h n buffer (Ok (record { made = made; ending = e })) (part ++ drop (n - 0) (drop 0 buffer))
    drive_answers made e all is = (
      w,
      record {
        room = room;
        drives = subst (Drives M L h n) (sym from_there) (drives M L sound h n);
        made = all;
        ending = subst (EndsBy L (h ++ w) n w) (sym (is ∙ ap₂ (λ (p : ℕ → ℕ) (k : ℕ). ending_of L p k n) led_to all)) (ends_by L (h ++ w) w n short);
        written = drive_writes;
      },
    )
