-- Rows that are written one after the other.
use Rattle.std.proofs.Common.{◌≡◌, ℕ, suc, ◌+◌, ◌-◌, ◌<◌, ◌≤◌, List, [], ◌∷◌, ◌++◌, length, take, replicate, slice_set, refl, sym, ap, ◌∙◌, arith}
use Rattle.std.proofs.Math.Seq.{take-append_seam}
use Rattle.std.proofs.lemmas.List.{length-append, length-set}
use Rattle.texts.specs.Rows.{padded}

module _ {T : Type 0} (z : T) where
  -- as many unused rows as are left
  pub padded_by : (n left : ℕ) (xs : List T) → n ≡ length xs + left → padded z n xs ≡ xs ++ replicate left z
  padded_by n left xs e = ap (λ (k : ℕ). xs ++ replicate k z) (let k : n - length xs ≡ left = omega arith in k)

  set_next : (left : ℕ) (xs : List T) (x : T) → slice_set (xs ++ replicate (suc left) z) (length xs) x ≡ (xs ++ (x ∷ [])) ++ replicate left z
  set_next left [] x = refl
  set_next left (y ∷ xs) x = ap (λ (ys : List T). y ∷ ys) (set_next left xs x)

  -- the next row
  pub padded_more : (n : ℕ) (xs : List T) (x : T) → length xs < n → slice_set (padded z n xs) (length xs) x ≡ padded z n (xs ++ (x ∷ []))
  padded_more n xs x l =
      let left = n - suc (length xs) in
      let a = length-append xs (x ∷ []) in
      ap (λ (ys : List T). slice_set ys (length xs) x) (padded_by n (suc left) xs (omega arith)) ∙ set_next left xs x ∙ sym (padded_by n left (xs ++ (x ∷ [])) (omega arith))

  -- no more rows than the table has
  pub padded_few : (rows xs : List T) → rows ≡ padded z (length rows) xs → length xs ≤ length rows
  padded_few rows xs is = let l = ap length is in let a = length-append xs (replicate (length rows - length xs) z) in omega arith

  -- the rows in use
  pub take_rows : (n k : ℕ) (xs table : List T) → table ≡ padded z n xs → k ≡ length xs → take k table ≡ xs
  take_rows n k xs table is l = ap (λ (t : List T). take k t) is ∙ ap (λ (j : ℕ). take j (padded z n xs)) l ∙ take-append_seam xs (replicate (n - length xs) z)

  -- the next row of a table
  pub padded_next : (table xs : List T) (n : ℕ) (x : T) → table ≡ padded z (length table) xs → n ≡ length xs → n < length table →
      slice_set table n x ≡ padded z (length (slice_set table n x)) (xs ++ (x ∷ []))
  padded_next table xs n x is next room =
      ap (λ (t : List T). slice_set t n x) is
      ∙ ap (λ (k : ℕ). slice_set (padded z (length table) xs) k x) next
      ∙ padded_more (length table) xs x (omega arith)
      ∙ ap (λ (k : ℕ). padded z k (xs ++ (x ∷ []))) (sym (length-set table n x))
