-- A call whose promise is kept tells of the one outcome that comes.
use Rattle.std.proofs.Common.{◌≡◌, ℕ, ◌<◌, List, [], ◌++◌, length, Ok, Err, Some, None, Option, refl, sym, ap, ap₂, subst, ◌∙◌, arith}
use Rattle.charts.specs.declared.parts.Event.{Event}
use Rattle.charts.specs.Lists.{count_of}
use Rattle.charts.specs.Sound.{Sound}
use Rattle.media.specs.Carry.{Carry}
use Rattle.orders.specs.May.{May}
use Rattle.orders.specs.Latest.{Latest as LatestPlace}
use Rattle.orders.specs.Orders.{Order}
use Rattle.orders.proofs.Growing.{steps_none}
use Rattle.orders.proofs.LatestPlace.{latest_one}
use Rattle.orders.proofs.Rings.{ring_everywhere}
use Rattle.runs.specs.declared.parts.Ending.{Ending}
use Rattle.runs.specs.declared.parts.Refusal.{Refusal}
use Rattle.runs.specs.declared.parts.Verdict.{Verdict}
use Rattle.runs.specs.declared.parts.Verdict.TheVariants.{Runs as RunsFor, Stuck as StuckFor}
use Rattle.runs.specs.declared.calls.Answer.{Answer}
use Rattle.runs.specs.declared.calls.Answer.TheVariants.{Driven, Judged, Place as PlaceAt}
use Rattle.runs.specs.declared.calls.Call.{Call}
use Rattle.runs.specs.declared.calls.Call.TheVariants.{Step, Drive, Restart, Judge, Latest}
use Rattle.runs.specs.Answers.{Answers}
use Rattle.runs.specs.Latests.{LatestRefused, no_instance, no_event, has_run, no_full_order}
use Rattle.runs.specs.Drives.{Written}
use Rattle.runs.specs.Verdicts.{Judges}
use Rattle.bench.specs.declared.outcomes.Outcome.{Outcome}
use Rattle.bench.specs.declared.outcomes.Outcome.TheVariants.{Runs, Stuck, Place, Drove}
use Rattle.bench.specs.Outcomes.{Comes, answer_of, bytes_of, Roomy, OneAnswer}
use Rattle.bench.proofs.Only.{one_order, one_end, one_drive}

-- the event that a call asks for is there
abbrev pub Asked : List (List Event) → Call → Type 0
Asked L (Latest i k) = (i < length L) × (k < count_of L i)
Asked L call = Unit {0}

module _ (M : Carry) (L : List (List Event)) (sound : Sound L) where
  start : Order M L []
  start = steps_none (May M L)

  -- a verdict tells of the outcome
  verdict_tells : (out out' : List ℕ) (v : Verdict) (o : Outcome) → Judges M L [] out v out' → Comes M L Judge o → (Judged v ≡ answer_of o) × Written (bytes_of o) out out'
  verdict_tells out out' (RunsFor n) (Runs u) (w, r) c =
      let same = one_order M L sound w u.now r.lowest r.full c.0 c.1 in
      (ap (λ (k : ℕ). Judged (RunsFor k)) (r.long ∙ ap length same), subst (λ (x : List ℕ). Written x out out') same r.written)
  verdict_tells out out' (RunsFor n) (Stuck e q) (w, r) c = absurd (c.1.never w r.full)
  verdict_tells out out' (StuckFor n) (Runs u) (ring, s) c = absurd (s.never u.now c.1)
  verdict_tells out out' (StuckFor n) (Stuck e q) (ring, s) c =
      let same = (one_end M L sound s.rest e.now ring q.now s.lowest s.ended s.ring_there c.0 c.1.ended c.1.ring).1 in
      (ap (λ (k : ℕ). Judged (StuckFor k)) (s.long ∙ ap length same), subst (λ (x : List ℕ). Written x out out') same s.written)
  verdict_tells out out' v (Place n) j c = elim c [ ]
  verdict_tells out out' v (Drove w e) j c = elim c [ ]

  -- no latest place is refused of an event that is there, where a full order exists
  never_refused : (i k n : ℕ) (r : Refusal) → Asked L (Latest i k) → LatestPlace M L [] i k n → LatestRefused M L [] i k r → ⊥
  never_refused i k n r asked latest (no_instance is past) = omega (arith, asked.0)
  never_refused i k n r asked latest (no_event is within past) = omega (arith, asked.1)
  never_refused i k n r asked latest (has_run is within ran) = omega arith
  never_refused i k n r asked latest (no_full_order is within left never) = never start ([] ++ latest.more) latest.full

  -- what the promise allows tells of the outcome
  forced : (call : Call) (o : Outcome) → Comes M L call o → Asked L call → (out : List ℕ) → Roomy L call out → (a : Option Answer) (out' : List ℕ) →
      Answers None M L [] call out a out' → (a ≡ Some (answer_of o)) × Written (bytes_of o) out out'
  forced Judge o c asked out room a out' (Ok v, is, told, keeps) = let t = verdict_tells out out' v o (told.judges start) c in (is ∙ ap Some t.0, t.1)
  forced Judge o c asked out room a out' (Err r, is, told, keeps) = absurd (told.short room)
  forced (Drive n) (Drove u e) c asked out room a out' (Ok d, is, (w, drove), keeps) =
      let one = one_drive M L sound n w u.now d.ending e drove.drives drove.ending c.0 c.1 in (
        is ∙ ap₂ (λ (k : ℕ) (x : Ending). Some (Driven (record { made = k; ending = x }))) (drove.made ∙ ap length one.0) one.1,
        subst (λ (x : List ℕ). Written x out out') one.0 drove.written,
      )
  forced (Drive n) (Drove u e) c asked out room a out' (Err r, is, told, keeps) = absurd (let s = told.short in omega (arith, room))
  forced (Latest i k) (Place n) c asked out room a out' (Ok m, is, told, same) = (is ∙ ap (λ (x : ℕ). Some (PlaceAt x)) (latest_one M L [] i k m n (told.2 start) c), same)
  forced (Latest i k) (Place n) c asked out room a out' (Err r, is, told, same) = absurd (never_refused i k n r asked c told)
  forced (Step _) o c asked out room a out' _ = elim c [ ]
  forced (Drive n) (Runs _) c asked out room a out' _ = elim c [ ]
  forced (Drive n) (Stuck _ _) c asked out room a out' _ = elim c [ ]
  forced (Drive n) (Place _) c asked out room a out' _ = elim c [ ]
  forced Restart o c asked out room a out' _ = elim c [ ]
  forced (Latest i k) (Runs _) c asked out room a out' _ = elim c [ ]
  forced (Latest i k) (Stuck _ _) c asked out room a out' _ = elim c [ ]
  forced (Latest i k) (Drove u e) c asked out room a out' _ = elim c [ ]

  -- and what tells of the outcome is allowed
  allowed : (call : Call) (o : Outcome) → Comes M L call o → Asked L call → (out : List ℕ) → Roomy L call out → (out' : List ℕ) → Written (bytes_of o) out out' →
      Answers None M L [] call out (Some (answer_of o)) out'
  allowed Judge (Runs w) c asked out room out' wrote = (
    Ok (RunsFor (length w.now)),
    refl,
    record {
      room = room;
      wrote = (w.now, refl, wrote);
      judges = λ _. (w.now, record { lowest = c.0; full = c.1; long = refl; written = wrote });
    },
    tt,
  )
  allowed Judge (Stuck e q) c asked out room out' wrote = (
    Ok (StuckFor (length q.now)),
    refl,
    record {
      room = room;
      wrote = (q.now, refl, wrote);
      judges = λ _. (
        q.now,
        record {
          never = c.1.never;
          rest = e.now;
          lowest = c.0;
          ended = c.1.ended;
          ring_there = c.1.ring;
          ring_everywhere = λ v order ended. ring_everywhere M L e.now v c.1.order c.1.ended order ended q.now c.1.ring;
          long = refl;
          written = wrote;
        },
      );
    },
    tt,
  )
  allowed (Drive n) (Drove w e) c asked out room out' wrote = (
    Ok (record { made = length w.now; ending = e }),
    refl,
    (w.now, record { room = room; drives = c.0; made = refl; ending = c.1; written = wrote }),
    tt,
  )
  allowed (Latest i k) (Place n) c asked out room out' wrote = (Ok n, refl, (asked.1, omega arith, λ _. c), wrote)
  allowed (Step _) o c asked out room out' wrote = elim c [ ]
  allowed (Drive n) (Runs w) c asked out room out' wrote = elim c [ ]
  allowed (Drive n) (Stuck e q) c asked out room out' wrote = elim c [ ]
  allowed (Drive n) (Place _) c asked out room out' wrote = elim c [ ]
  allowed Restart o c asked out room out' wrote = elim c [ ]
  allowed Judge (Place n) c asked out room out' wrote = elim c [ ]
  allowed Judge (Drove w e) c asked out room out' wrote = elim c [ ]
  allowed (Latest i k) (Runs w) c asked out room out' wrote = elim c [ ]
  allowed (Latest i k) (Stuck e q) c asked out room out' wrote = elim c [ ]
  allowed (Latest i k) (Drove w e) c asked out room out' wrote = elim c [ ]

  pub outcome_told : (call : Call) (o : Outcome) → Comes M L call o → Asked L call → OneAnswer M L call o
  outcome_told call o c asked out room a out' = (
    forced call o c asked out room a out',
    λ said. subst (λ (x : Option Answer). Answers None M L [] call out x out') (sym said.0) (allowed call o c asked out room out' said.1),
  )
