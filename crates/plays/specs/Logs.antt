-- What a log of a script holds, wherever its bytes lie.
use Rattle.std.specs.Prelude.{ℕ, List, vec_items, None, Option, Result}
use Rattle.logs.specs.declared.parts.Verdict.{Verdict}
use Rattle.logs.specs.declared.parts.Refusal.{Refusal}
use Rattle.plays.specs.declared.parts.Log.{Log}

-- how many calls stand before it, its bytes, and its answer, if it was checked
pub record LogContent : Type 0 where
  pub after : ℕ
  pub bytes : List ℕ
  pub answer : Option (Result Verdict Refusal)

-- what a log holds
abbrev pub log_content : Log → LogContent
log_content x = record { after = x.after; bytes = vec_items x.bytes; answer = x.answer }

-- a log that was not checked yet, with n calls before it
abbrev pub unchecked : ℕ → List ℕ → LogContent
unchecked n bytes = record { after = n; bytes = bytes; answer = None }
