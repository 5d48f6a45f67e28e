-- What a follower answers to the bytes of a record, by what it makes of the record.
use Rattle.std.proofs.Common.{◌≡◌, ℕ, List, Some, None, Ok, Err, Option, Result, ap, ◌∙◌, arith}
use Rattle.charts.specs.declared.parts.Event.{Event}
use Rattle.charts.specs.declared.faults.Fault.{Fault}
use Rattle.media.specs.Carry.{Carry}
use Rattle.records.specs.declared.parts.Head.{Head}
use Rattle.records.specs.declared.parts.Entry.{Entry}
use Rattle.records.specs.declared.parts.End.{End}
use Rattle.records.specs.Records.{head_bytes, entry_bytes, end_bytes}
use Rattle.logs.specs.declared.parts.Cause.{Cause}
use Rattle.logs.specs.declared.parts.Refusal.{Refusal}
use Rattle.logs.specs.declared.parts.Refusal.TheVariants.{Record}
use Rattle.logs.specs.declared.parts.Verdict.{Verdict}
use Rattle.logs.specs.declared.parts.Waiting.{Waiting}
use Rattle.logs.specs.declared.parts.Following.{Following}
use Rattle.logs.specs.declared.parts.Closed.{Closed}
use Rattle.logs.specs.Heads.{TakesHead, HeadRefused, HeadAnswers, other_chart}
use Rattle.logs.specs.Events.{TakesEntry, EventRefused, EventAnswers, entry}
use Rattle.logs.specs.Ends.{TakesEnd, EndRefused, EndAnswers, wrong_count}

no_fault : {A : Type 0} (f : Fault) → Some f ≡ None → A
no_fault f e = absurd (let z : ◌≡◌ {A = ℕ} 0 1 = cc in omega arith)

-- a head
pub head_answers : (t : Option Fault) (L : List (List Event)) (w : Waiting) (bytes : List ℕ) (x : Head) (r : Result Following (Waiting × Refusal)) → t ≡ None → bytes ≡ head_bytes x → TakesHead L w x r → HeadAnswers t L w bytes r
head_answers None L w bytes x (Ok f) e b a = (b ∙ ap head_bytes a.0, a.1)
head_answers None L w bytes x (Err r) e b a = (a.0, a.1, other_chart x a.2 b a.3)
head_answers (Some f) L w bytes x r e b a = no_fault f e

pub head_refused : (t : Option Fault) (L : List (List Event)) (w : Waiting) (bytes : List ℕ) (c : Cause) (r : Waiting × Refusal) → t ≡ None → r ≡ (w, Record 0 c) → HeadRefused L bytes c → HeadAnswers t L w bytes (Err r)
head_refused None L w bytes c r e is x = (c, is, x)
head_refused (Some f) L w bytes c r e is x = no_fault f e

-- an entry
pub event_answers : (t : Option Fault) (M : Carry) (L : List (List Event)) (h : List ℕ) (f : Following) (bytes : List ℕ) (x : Entry) (r : Result Following (Following × Refusal)) (Stands : List ℕ → Type 0) →
    t ≡ None → bytes ≡ entry_bytes x → TakesEntry M L h f x r Stands → EventAnswers t M L h f bytes r Stands
event_answers None M L h f bytes x (Ok g) Stands e b a = (x, b, a.0, a.1, a.2)
event_answers None M L h f bytes x (Err r) Stands e b a = (a.0, a.1, entry x b a.2)
event_answers (Some t) M L h f bytes x r Stands e b a = no_fault t e

pub event_refused : (t : Option Fault) (M : Carry) (L : List (List Event)) (h : List ℕ) (f : Following) (bytes : List ℕ) (c : Cause) (r : Following × Refusal) (Stands : List ℕ → Type 0) →
    t ≡ None → r ≡ (f, Record f.index c) → EventRefused M L h bytes c → EventAnswers t M L h f bytes (Err r) Stands
event_refused None M L h f bytes c r Stands e is x = (c, is, x)
event_refused (Some t) M L h f bytes c r Stands e is x = no_fault t e

-- an end
pub end_answers : (t : Option Fault) (L : List (List Event)) (h : List ℕ) (f : Following) (bytes : List ℕ) (x : End) (r : Result (Closed × Verdict) (Following × Refusal)) →
    t ≡ None → bytes ≡ end_bytes x → TakesEnd L h f x r → EndAnswers t L h f bytes r
end_answers None L h f bytes x (Ok a) e b t = (b ∙ ap end_bytes t.0, t.1, t.2)
end_answers None L h f bytes x (Err r) e b t = (t.0, t.1, wrong_count x t.2 b t.3)
end_answers (Some f) L h g bytes x r e b t = no_fault f e

pub end_refused : (t : Option Fault) (L : List (List Event)) (h : List ℕ) (f : Following) (bytes : List ℕ) (c : Cause) (r : Following × Refusal) →
    t ≡ None → r ≡ (f, Record f.index c) → EndRefused f.entries bytes c → EndAnswers t L h f bytes (Err r)
end_refused None L h f bytes c r e is x = (c, is, x)
end_refused (Some t) L h f bytes c r e is x = no_fault t e
