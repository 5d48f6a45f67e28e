-- A step of the event that an entry names.
use Rattle.std.proofs.Common.{◌≡◌, ℕ, List, [], ◌∷◌, ◌++◌, length, Some, None, Option, Result, sym, refl, ap, ◌∙◌, subst, arith}
use mathlib.Core.Path.{fun_ext}
use Rattle.std.proofs.lemmas.List.{get_or_past}
use Rattle.charts.specs.declared.parts.Event.{Event}
use Rattle.charts.specs.declared.faults.Fault.{Fault}
use Rattle.charts.specs.Lists.{count_of}
use Rattle.media.specs.Carry.{Carry}
use Rattle.orders.specs.Histories.{pos, Next}
use Rattle.orders.specs.May.{Waits}
use Rattle.orders.specs.Driving.{moved}
use Rattle.orders.proofs.Driving.{moved_pos}
use Rattle.records.specs.declared.parts.Entry.{Entry}
use Rattle.rules.specs.declared.row.Row.{Row}
use Rattle.rules.specs.Places.{place_of}
use Rattle.runs.specs.declared.parts.Refusal.{Refusal}
use Rattle.runs.specs.declared.parts.Refusal.TheVariants.{Spoiled, NoInstance, NothingLeft, MustWait, ShortBuffer, NoEvent, HasRun, NoFullOrder}
use Rattle.runs.specs.Stands.{Stands}
use Rattle.runs.specs.Tells.{Tells}
use Rattle.runs.specs.Steps.{StepRefused, no_instance, nothing_left, must_wait as waits}
use Rattle.logs.specs.Entries.{NamesNext, EntryRefused, must_wait, cause_of}

-- one step more
pub stands_more : (before after : List Row) (h : List ℕ) (i : ℕ) → Stands before h → ((j : ℕ) → place_of after j ≡ moved (place_of before) i j) → Stands after (h ++ (i ∷ []))
stands_more before after h i s m j = m j ∙ ap (λ (p : ℕ → ℕ). moved p i j) (fun_ext s) ∙ ap (λ (p : ℕ → ℕ). p j) (moved_pos h i)

-- the next event is named
pub named : (L : List (List Event)) (h : List ℕ) (x : Entry) (e : Event) (i : ℕ) → i ≡ x.instance → Next L h i e → (e.kind ≡ x.kind) × (e.number ≡ x.number) → NamesNext L h x
named L h x e i is next same = record { event = e; next = subst (λ (j : ℕ). Next L h j e) is next; kind = same.0; number = same.1 }

-- a step that is refused
pub step_refused : (M : Carry) (L : List (List Event)) (h : List ℕ) (x : Entry) (i : ℕ) (r : Refusal) → i ≡ x.instance → NamesNext L h x → StepRefused M L h i r → EntryRefused M L h x (cause_of r)
step_refused M L h x i r is n (no_instance t far) =
    absurd (let l = n.next.within in let none : count_of L i ≡ 0 = ap length (get_or_past L i [] far) in let same : count_of L x.instance ≡ count_of L i = ap (count_of L) (sym is) in omega arith)
step_refused M L h x i r is n (nothing_left t l k) =
    absurd (let a = n.next.within in let same : count_of L x.instance ≡ count_of L i = ap (count_of L) (sym is) in let here : pos h x.instance ≡ pos h i = ap (pos h) (sym is) in omega arith)
step_refused M L h x i (MustWait k) is n (waits j t w) =
    let same : j ≡ k = cc in
    must_wait k refl refl n (subst (λ (y : ℕ). Waits M L h y k) is (subst (Waits M L h i) same w))
step_refused M L h x i (Spoiled f) is n (waits j t w) = absurd (let z = ap length t in omega arith)
step_refused M L h x i NoInstance is n (waits j t w) = absurd (let z : ◌≡◌ {A = ℕ} 41 43 = cc in omega arith)
step_refused M L h x i NothingLeft is n (waits j t w) = absurd (let z : ◌≡◌ {A = ℕ} 42 43 = cc in omega arith)
step_refused M L h x i ShortBuffer is n (waits j t w) = absurd (let z : ◌≡◌ {A = ℕ} 44 43 = cc in omega arith)
step_refused M L h x i NoEvent is n (waits j t w) = absurd (let z : ◌≡◌ {A = ℕ} 45 43 = cc in omega arith)
step_refused M L h x i HasRun is n (waits j t w) = absurd (let z : ◌≡◌ {A = ℕ} 46 43 = cc in omega arith)
step_refused M L h x i NoFullOrder is n (waits j t w) = absurd (let z : ◌≡◌ {A = ℕ} 47 43 = cc in omega arith)

-- without a fault every call tells its answer
pub told_sound : {A : Type 0} (t : Option Fault) (P : Result A Refusal → Type 0) (r : Result A Refusal) → t ≡ None → Tells t P r → P r
told_sound None P r e a = a
told_sound (Some f) P r e a = absurd (let z : ◌≡◌ {A = ℕ} 0 1 = cc in omega arith)
