-- Reading a number digit by digit: n is what the digits before index i write.
use Rattle.std.proofs.Common.{◌≡◌, ℕ, ◌+◌, ◌-◌, ◌*◌, ◌<◌, ◌≤◌, true, false, cond, leb, List, [], ◌∷◌, length, get_or, drop, Some, None, sym, refl, ap, ◌∙◌, arith}
use Rattle.std.proofs.lemmas.List.{at_drop_more, at_drop_all}
use Rattle.std.proofs.lemmas.Bool.{cond-true, cond-false, le-leb, lt-leb}
use Rattle.tabletexts.specs.Numeral.{is_digit, numeral_after, numeral, up_to}

-- more digits do not bring a number back below the limit
past : (m n : ℕ) (bs : List ℕ) → m < n → up_to m (numeral_after n bs) ≡ None
past m n [] h = cond-false (leb n m) (Some n) None (lt-leb n m h)
past m n (b ∷ bs) h =
    elim (is_digit b) as (λ d. up_to m (cond d (numeral_after (n * 10 + (b - 48)) bs) None) ≡ None)
    [ true ↦ past m (n * 10 + (b - 48)) bs (omega arith) | false ↦ refl ]

module _ (n : ℕ) (bs : List ℕ) (i : ℕ) where
  pub no_digit : i < length bs → is_digit (get_or bs i 0) ≡ false → numeral_after n (drop i bs) ≡ None
  no_digit h d = at_drop_more (numeral_after n) bs i 0 h ∙ cond-false (is_digit (get_or bs i 0)) _ None d

  pub digit_more : i < length bs → is_digit (get_or bs i 0) ≡ true → numeral_after n (drop i bs) ≡ numeral_after (n * 10 + (get_or bs i 0 - 48)) (drop (i + 1) bs)
  digit_more h d = at_drop_more (numeral_after n) bs i 0 h ∙ cond-true (is_digit (get_or bs i 0)) _ None d

  pub too_large : (m : ℕ) → i < length bs → is_digit (get_or bs i 0) ≡ true → numeral_after n (drop i bs) ≡ numeral bs → m < n * 10 + (get_or bs i 0 - 48) → None ≡ up_to m (numeral bs)
  too_large m h d e l = sym (ap (up_to m) (sym e ∙ digit_more h d) ∙ past m (n * 10 + (get_or bs i 0 - 48)) (drop (i + 1) bs) l)

  pub digits_all : (m : ℕ) → length bs ≤ i → numeral_after n (drop i bs) ≡ numeral bs → n ≤ m → Some n ≡ up_to m (numeral bs)
  digits_all m h e l = sym (ap (up_to m) (sym e ∙ at_drop_all (numeral_after n) bs i h) ∙ cond-true (leb n m) (Some n) None (le-leb n m l))
