-- A text writes one script, or has one first trouble.
use Rattle.std.proofs.Common.{◌≡◌, ℕ, ◌+◌, List, [], ◌∷◌, Some, None, Ok, Err, Option, Result, sym, refl, subst, arith}
use Rattle.piletexts.specs.Lines.{lines_of}
use Rattle.piles.specs.Meanings.{Meaning}
use Rattle.piles.specs.Applied.{Standing, standing}
use Rattle.scripts.specs.Statements.{Said, statement_on}
use Rattle.plays.specs.Troubles.{Trouble, at_line}
use Rattle.plays.specs.Plans.{Plan, fresh}
use Rattle.plays.specs.Scripts.{Script}
use Rattle.plays.specs.Followed.{State, followed}
use Rattle.plays.specs.Scripted.{Scripted, Writes, ended, end, pass, unknown, refused, follow}

-- what comes after what a statement made
abbrev After : Result State Trouble → Result Script Trouble → Type 0
After (Err k) r = Err k ≡ r
After (Ok u) r = Scripted u.plan u.standing r

-- what comes of line n, which writes this statement or none
abbrev On : Plan → Standing → ℕ → Option Said → Result Script Trouble → Type 0
On p t n None r = Err (at_line n) ≡ r
On p t n (Some s) r = After (followed s p t) r

-- what comes of lines, by the first of them
abbrev First : Plan → List Meaning → ℕ → List (List ℕ) → Result Script Trouble → Type 0
First p S n [] r = ended (n + 1) p S ≡ r
First p S n ([] ∷ ls) r = Scripted p (standing S (n + 1) ls) r
First p S n ((b ∷ bs) ∷ ls) r = On p (standing S (n + 1) ls) (n + 1) (statement_on (b ∷ bs)) r

on_first : (p : Plan) (S : List Meaning) (n : ℕ) (l : List ℕ) (ls : List (List ℕ)) (s : Said) (r : Result Script Trouble) →
    statement_on l ≡ Some s → After (followed s p (standing S (n + 1) ls)) r → First p S n (l ∷ ls) r
on_first p S n [] ls s r e a = absurd (let z : ◌≡◌ {A = ℕ} 0 1 = cc in omega arith)
on_first p S n (b ∷ bs) ls s r e a = subst (λ (o : Option Said). On p (standing S (n + 1) ls) (n + 1) o r) (sym e) a

after_first : (p : Plan) (S : List Meaning) (n : ℕ) (l : List ℕ) (ls : List (List ℕ)) (s : Said) (r : Result Script Trouble) →
    statement_on l ≡ Some s → First p S n (l ∷ ls) r → After (followed s p (standing S (n + 1) ls)) r
after_first p S n [] ls s r e a = absurd (let z : ◌≡◌ {A = ℕ} 0 1 = cc in omega arith)
after_first p S n (b ∷ bs) ls s r e a = subst (λ (o : Option Said). On p (standing S (n + 1) ls) (n + 1) o r) e a

first : (p : Plan) (t : Standing) (r : Result Script Trouble) → Scripted p t r → First p t.stack t.number t.lines r
first _ _ _ (end p S n) = refl
first _ _ _ (pass p S n ls r x) = x
first _ _ _ (unknown p S n b bs ls e) = subst (λ (o : Option Said). On p (standing S (n + 1) ls) (n + 1) o (Err (at_line (n + 1)))) (sym e) refl
first _ _ _ (refused p S n l ls s k e f) = on_first p S n l ls s (Err k) e (subst (λ (q : Result State Trouble). After q (Err k)) (sym f) refl)
first _ _ _ (follow p S n l ls s u r e f x) = on_first p S n l ls s r e (subst (λ (q : Result State Trouble). After q r) (sym f) x)

once : (p : Plan) (t : Standing) (r q : Result Script Trouble) → Scripted p t r → Scripted p t q → r ≡ q
once _ _ _ q (end p S n) y = first p (standing S n []) q y
once _ _ _ q (pass p S n ls r x) y = once p (standing S (n + 1) ls) r q x (first p (standing S n ([] ∷ ls)) q y)
once _ _ _ q (unknown p S n b bs ls e) y =
    subst (λ (o : Option Said). On p (standing S (n + 1) ls) (n + 1) o q) e (first p (standing S n ((b ∷ bs) ∷ ls)) q y)
once _ _ _ q (refused p S n l ls s k e f) y =
    subst (λ (w : Result State Trouble). After w q) f (after_first p S n l ls s q e (first p (standing S n (l ∷ ls)) q y))
once _ _ _ q (follow p S n l ls s u r e f x) y =
    once u.plan u.standing r q x (subst (λ (w : Result State Trouble). After w q) f (after_first p S n l ls s q e (first p (standing S n (l ∷ ls)) q y)))

-- what its lines make is all that they make
pub writes_it : (text : List ℕ) (r : Result Script Trouble) → Scripted fresh (standing [] 0 (lines_of text)) r → Writes text r
writes_it text r x = record { made = x; only = λ q y. once fresh (standing [] 0 (lines_of text)) q r y x }
