-- The line of an answer.
use Rattle.std.specs.Prelude.{ℕ, List, [], ◌∷◌, ◌++◌, codes, decimal, flat_map, map, take}
use Rattle.charts.specs.Texts.{spaced}
use Rattle.listings.specs.Lines.{kind_name, peer_name}
use Rattle.runs.specs.declared.parts.Ending.{Ending}
use Rattle.runs.specs.declared.parts.Ending.TheVariants.{Finished, Count, Stuck}
use Rattle.runs.specs.declared.parts.Verdict.{Verdict}
use Rattle.runs.specs.declared.parts.Verdict.TheVariants.{Runs, Stuck as StuckAt}
use Rattle.runs.specs.declared.calls.Answer.{Answer}
use Rattle.runs.specs.declared.calls.Answer.TheVariants.{Stepped, Driven, Restarted, Judged, Place, Refused}
use Rattle.runs.specs.Verdicts.{length_in}
use Rattle.replies.specs.RefusalLines.{refusal_line}

-- numbers, with a space before each
abbrev pub each_after_a_space : List ℕ → List ℕ
each_after_a_space = flat_map (λ n. codes " " ++ decimal n)

-- how a drive ended, in a word
abbrev pub ending_word : Ending → List ℕ
ending_word Finished = codes "finished"
ending_word Count = codes "count"
ending_word Stuck = codes "stuck"

-- a verdict in a word
abbrev pub verdict_word : Verdict → List ℕ
verdict_word (Runs n) = codes "runs"
verdict_word (StuckAt n) = codes "stuck"

-- what a call answered, and the instances that it wrote at the start of its buffer; all that the buffer holds, where that is fewer than the answer says
abbrev pub answer_line : Answer → List ℕ → List ℕ
answer_line (Stepped e) out = spaced (codes "stepped" ∷ kind_name e.kind ∷ peer_name e.peer ∷ decimal e.number ∷ [])
answer_line (Driven d) out = spaced (codes "drove" ∷ decimal d.made ∷ ending_word d.ending ∷ map decimal (take d.made out))
answer_line Restarted out = codes "restarted"
answer_line (Judged v) out = spaced (verdict_word v ∷ map decimal (take (length_in v) out))
answer_line (Place n) out = spaced (codes "latest" ∷ decimal n ∷ [])
answer_line (Refused r) out = refusal_line r
