-- What a table of nothing noted says.
use Rattle.std.proofs.Common.{◌≡◌, ℕ, get_or, replicate, None, inl, inr, ap, sym, subst, arith}
use Rattle.std.proofs.lemmas.Bool.{cases_lt}
use Rattle.std.proofs.lemmas.List.{get_or_past, get_or-replicate, length-replicate}
use Rattle.messages.specs.declared.ends.End.{End}
use Rattle.messages.specs.declared.ends.End.TheVariants.{Output, Input}
use Rattle.messages.specs.declared.places.Ends.{Ends}
use Rattle.messages.specs.Places.{nowhere, one_of}

blank : (n : ℕ) → get_or (replicate 4096 nowhere) n nowhere ≡ nowhere
blank n =
    elim (cases_lt n 4096)
    [ inl l ↦ get_or-replicate 4096 n nowhere nowhere l | inr l ↦ get_or_past (replicate 4096 nowhere) n nowhere (let z = length-replicate 4096 nowhere in omega arith) ]

blank_one : (end : End) (n : ℕ) → one_of (get_or (replicate 4096 nowhere) n nowhere) end ≡ None
blank_one Output n = ap (λ (x : Ends). x.output) (blank n)
blank_one Input n = ap (λ (x : Ends). x.input) (blank n)

-- nothing stands anywhere
pub blank_at : (ends : Ends) → ends ≡ nowhere → (end : End) (n : ℕ) → one_of (get_or (replicate 4096 ends) n nowhere) end ≡ None
blank_at ends e end n = subst (λ (x : Ends). one_of (get_or (replicate 4096 x) n nowhere) end ≡ None) (sym e) (blank_one end n)
