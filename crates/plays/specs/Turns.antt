-- What a turn holds, wherever its buffer lies.
use Rattle.std.specs.Prelude.{ℕ, List, replicate, vec_items, None, Option}
use Rattle.runs.specs.declared.calls.Call.{Call}
use Rattle.runs.specs.declared.calls.Answer.{Answer}
use Rattle.runs.specs.declared.calls.Turn.{Turn}

-- a call, the bytes of its buffer, and its answer, if it was made
pub record Content : Type 0 where
  pub call : Call
  pub bytes : List ℕ
  pub answer : Option Answer

-- what a turn holds
abbrev pub content : Turn → Content
content x = record { call = x.call; bytes = vec_items x.buffer; answer = x.answer }

-- a call that was not made yet, with a buffer of so many zeros
abbrev pub untaken : Call → ℕ → Content
untaken c room = record { call = c; bytes = replicate room 0; answer = None }
