-- What the logs of a script come to.
use Rattle.std.specs.Prelude.{◌≡◌, List, [], ◌∷◌, vec_items, Some, None, Result}
use Rattle.media.specs.Carry.{Carry}
use Rattle.media.specs.Media.{free}
use Rattle.logs.specs.declared.parts.Verdict.{Verdict}
use Rattle.logs.specs.declared.parts.Refusal.{Refusal}
use Rattle.logs.specs.Logs.{LogAnswers}
use Rattle.logs.specs.AnnexB.{AsAnnexB}
use Rattle.piles.specs.Meanings.{Meaning}
use Rattle.plays.specs.declared.parts.Log.{Log}
use Rattle.plays.specs.Logs.{LogContent}

-- the log x, checked against the chart a over the medium M, has become y
pub record LogChecked (a : Meaning) (M : Carry) (x : LogContent) (y : Log) : Type 0 where
  -- it stands where it stood, and has the bytes that it had
  pub after : y.after ≡ x.after
  pub bytes : vec_items y.bytes ≡ x.bytes
  -- it is answered as the check of a whole log is
  pub said : Result Verdict Refusal
  pub answer : y.answer ≡ Some said
  pub answers : LogAnswers a.trouble M a.lists x.bytes said
  pub annex : a.trouble ≡ None → M ≡ free → AsAnnexB a.lists x.bytes said

-- the logs xs, each checked, have become ys
abbrev pub LogsChecked : Meaning → Carry → List LogContent → List Log → Type 0
LogsChecked a M [] [] = Unit {0}
LogsChecked a M [] (y ∷ ys) = ⊥
LogsChecked a M (x ∷ xs) [] = ⊥
LogsChecked a M (x ∷ xs) (y ∷ ys) = LogChecked a M x y × LogsChecked a M xs ys
