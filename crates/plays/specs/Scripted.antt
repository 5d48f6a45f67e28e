-- What the lines of a text make of a plan and a stack, or the first trouble in their order.
use Rattle.std.specs.Prelude.{◌≡◌, ℕ, ◌+◌, List, [], ◌∷◌, Some, None, Ok, Err, Result}
use Rattle.piletexts.specs.Lines.{lines_of}
use Rattle.piles.specs.Meanings.{Meaning}
use Rattle.piles.specs.Applied.{Standing, standing}
use Rattle.scripts.specs.Statements.{Said, statement_on}
use Rattle.plays.specs.declared.parts.Unplayed.{Unplayed}
use Rattle.plays.specs.declared.parts.Unplayed.TheVariants.{Line, Text, Memory}
use Rattle.plays.specs.Troubles.{Trouble, at_line, in_text}
use Rattle.plays.specs.Plans.{Plan, fresh}
use Rattle.plays.specs.Scripts.{Script, script}
use Rattle.plays.specs.Followed.{State, followed}

-- the script at the end, of the chart on top; where there is none, it is missing on line n
abbrev pub ended : ℕ → Plan → List Meaning → Result Script Trouble
ended n p [] = Err (at_line n)
ended n p (a ∷ S) = Ok (script a p.medium p.turns p.logs)

pub data Scripted : Plan → Standing → Result Script Trouble → Type 0 where
  -- no line is left
  end : (p : Plan) (S : List Meaning) (n : ℕ) → Scripted p (standing S n []) (ended (n + 1) p S)
  -- an empty line is passed over
  pass : (p : Plan) (S : List Meaning) (n : ℕ) (ls : List (List ℕ)) (r : Result Script Trouble) → Scripted p (standing S (n + 1) ls) r → Scripted p (standing S n ([] ∷ ls)) r
  -- a line that writes no statement
  unknown : (p : Plan) (S : List Meaning) (n b : ℕ) (bs : List ℕ) (ls : List (List ℕ)) → statement_on (b ∷ bs) ≡ None → Scripted p (standing S n ((b ∷ bs) ∷ ls)) (Err (at_line (n + 1)))
  -- a statement that cannot be followed, or that refuses its text
  refused : (p : Plan) (S : List Meaning) (n : ℕ) (l : List ℕ) (ls : List (List ℕ)) (s : Said) (k : Trouble) →
      statement_on l ≡ Some s → followed s p (standing S (n + 1) ls) ≡ Err k → Scripted p (standing S n (l ∷ ls)) (Err k)
  -- a statement that is followed
  follow : (p : Plan) (S : List Meaning) (n : ℕ) (l : List ℕ) (ls : List (List ℕ)) (s : Said) (t : State) (r : Result Script Trouble) →
      statement_on l ≡ Some s → followed s p (standing S (n + 1) ls) ≡ Ok t → Scripted t.plan t.standing r → Scripted p (standing S n (l ∷ ls)) r

-- a text writes r and nothing else: a script, or the first trouble in the order of its lines
pub record Writes (text : List ℕ) (r : Result Script Trouble) : Type 0 where
  pub made : Scripted fresh (standing [] 0 (lines_of text)) r
  pub only : (q : Result Script Trouble) → Scripted fresh (standing [] 0 (lines_of text)) q → q ≡ r

-- the answer is what the text writes, by the meaning f of what it holds; only a want of memory says nothing
abbrev pub Tells : {V : Type 0} → (V → Script) → List ℕ → Result V Unplayed → Type 0
Tells f text (Ok v) = Writes text (Ok (f v))
Tells f text (Err (Line n)) = Writes text (Err (at_line n))
Tells f text (Err (Text e)) = Writes text (Err (in_text e))
Tells f text (Err Memory) = Unit {0}
