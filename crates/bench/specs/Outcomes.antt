-- What comes out of a call on a new run.
use Rattle.std.specs.Prelude.{◌≡◌, ℕ, ◌≤◌, ◌↔◌, List, [], length, Some, None, Option}
use Rattle.charts.specs.declared.parts.Event.{Event}
use Rattle.media.specs.Carry.{Carry}
use Rattle.orders.specs.Orders.{Full}
use Rattle.orders.specs.Drives.{Lowest, Drives}
use Rattle.orders.specs.Latest.{Latest as LatestPlace}
use Rattle.runs.specs.declared.calls.Answer.{Answer}
use Rattle.runs.specs.declared.calls.Answer.TheVariants.{Driven, Judged, Place as PlaceAt}
use Rattle.runs.specs.declared.calls.Call.{Call}
use Rattle.runs.specs.declared.calls.Call.TheVariants.{Drive, Judge, Latest}
use Rattle.runs.specs.declared.parts.Verdict.TheVariants.{Runs as RunsFor, Stuck as StuckFor}
use Rattle.runs.specs.Answers.{Answers}
use Rattle.runs.specs.Drives.{EndsBy, Written}
use Rattle.runs.specs.Verdicts.{JudgeRoom}
use Rattle.worked.specs.SmallCharts.{Stuck as StuckAt}
use Rattle.bench.specs.declared.outcomes.Outcome.{Outcome}
use Rattle.bench.specs.declared.outcomes.Outcome.TheVariants.{Runs, Stuck, Place, Drove}

-- what comes out of a call on a new run, of the lists L over the medium M: a full order, or an end with its ring, made lowest first; a latest place; a drive's steps and how it ended
abbrev pub Comes : Carry → List (List Event) → Call → Outcome → Type 0
Comes M L Judge (Runs w) = Lowest M L [] w.now × Full M L w.now
Comes M L Judge (Stuck end ring) = Lowest M L [] end.now × StuckAt M L end.now ring.now
Comes M L (Latest i k) (Place n) = LatestPlace M L [] i k n
Comes M L (Drive n) (Drove w ending) = Drives M L [] n w.now × EndsBy L w.now n w.now ending
Comes M L call o = ⊥

-- two outcomes that say the same
abbrev pub Same : Outcome → Outcome → Type 0
Same (Runs v) (Runs w) = v.now ≡ w.now
Same (Stuck d q) (Stuck e r) = (d.now ≡ e.now) × (q.now ≡ r.now)
Same (Place m) (Place n) = m ≡ n
Same (Drove v a) (Drove w b) = (v.now ≡ w.now) × (a ≡ b)
Same o p = ⊥

-- the answer that tells of an outcome
abbrev pub answer_of : Outcome → Answer
answer_of (Runs w) = Judged (RunsFor (length w.now))
answer_of (Stuck end ring) = Judged (StuckFor (length ring.now))
answer_of (Place n) = PlaceAt n
answer_of (Drove w ending) = Driven (record { made = length w.now; ending = ending })

-- the bytes that are written with it
abbrev pub bytes_of : Outcome → List ℕ
bytes_of (Runs w) = w.now
bytes_of (Stuck end ring) = ring.now
bytes_of (Place n) = []
bytes_of (Drove w ending) = w.now

-- the buffer is long enough for the call on a new run
abbrev pub Roomy : List (List Event) → Call → List ℕ → Type 0
Roomy L (Drive n) out = n ≤ length out
Roomy L Judge out = JudgeRoom L [] out
Roomy L call out = Unit {0}

-- handed a buffer with room, the call has one answer that keeps the promise of a run: the one that tells of the outcome
abbrev pub OneAnswer : Carry → List (List Event) → Call → Outcome → Type 0
OneAnswer M L call o =
    (out : List ℕ) → Roomy L call out → (a : Option Answer) (out' : List ℕ) →
    Answers None M L [] call out a out' ↔ ((a ≡ Some (answer_of o)) × Written (bytes_of o) out out')
