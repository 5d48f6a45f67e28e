-- Ends, whole orders and latest places, of any steps that stay possible and go no further than the lists.
use Rattle.std.proofs.Common.{◌≡◌, ℕ, suc, ◌<◌, ◌≤◌, Bool, List, [], ◌∷◌, ◌++◌, length, sym, refl, ap, ◌∙◌, subst, inl, inr, arith}
use Rattle.std.proofs.lemmas.List.{append_assoc, get_or_past}
use Rattle.std.proofs.lemmas.Bool.{cases_eq, cases_lt}
use Rattle.charts.specs.declared.parts.Event.{Event}
use Rattle.charts.specs.Lists.{count_of, size}
use Rattle.orders.specs.Histories.{pos}
use Rattle.orders.specs.Orders.{Steps, Stays}
use Rattle.orders.specs.Drives.{Least, LowestFirst}
use Rattle.orders.specs.Driving.{driven}
use Rattle.orders.specs.Latest.{Place, Other}
use Rattle.orders.proofs.Positions.{pos_append, pos_step, pos_stay, by_steps}
use Rattle.orders.proofs.Growing.{steps_front, steps_last, greatest_end}
use Rattle.orders.proofs.Latest.{never_passed, reached}
use Rattle.orders.proofs.Onwards.{Onwards, onwards_weaker, onwards_steps, onwards_within}
use Rattle.orders.proofs.Drives.{Tested, driven_drive, ended_one, drive_ends}

-- no step can be made after h
abbrev pub AtEnd : (List ℕ → ℕ → Type 0) → List ℕ → Type 0
AtEnd P h = (i : ℕ) → P h i → ⊥

-- steps h after which every list is done
pub record Whole (P : List ℕ → ℕ → Type 0) (L : List (List Event)) (h : List ℕ) : Type 0 where
  pub order : Steps P h
  pub done : (i : ℕ) → pos h i ≡ count_of L i

-- w is the one lowest-first drive after h to an end, and does every list where some steps do
pub record DriveTells (P : List ℕ → ℕ → Type 0) (L : List (List Event)) (h w : List ℕ) : Type 0 where
  pub lowest : LowestFirst P h w
  pub ended : AtEnd P (h ++ w)
  pub only : (v : List ℕ) → LowestFirst P h v → AtEnd P (h ++ v) → v ≡ w
  pub reached : (f : List ℕ) → Whole P L f → Whole P L (h ++ w)

-- n is the latest place of event k of instance i after h
pub record LatestPlace (P : List ℕ → ℕ → Type 0) (L : List (List Event)) (h : List ℕ) (i k n : ℕ) : Type 0 where
  pub never_later : (v : List ℕ) (m : ℕ) → Whole P L (h ++ v) → Place (h ++ v) i k m → m ≤ n
  pub more : List ℕ
  pub whole : Whole P L (h ++ more)
  pub reached : Place (h ++ more) i k n

-- steps after h other than event k of instance i leave it unmade
pub event_unmade : (P : List ℕ → ℕ → Type 0) (i k : ℕ) (h : List ℕ) → pos h i ≤ k → (w : List ℕ) → Onwards (Other P i k) h w → pos (h ++ w) i ≤ k
event_unmade P i k h low w =
    by_steps (λ x. Onwards (Other P i k) h x → pos (h ++ x) i ≤ k) (λ _. let a = pos_append h [] i in omega arith)
    (λ u j before o.
    let a = before (steps_front (λ x. Other P i k (h ++ x)) u (j ∷ []) o) in
    let b = steps_last (λ x. Other P i k (h ++ x)) u j o in
    let c = ap (λ (x : List ℕ). pos x i) (append_assoc h u (j ∷ [])) in
    elim (cases_eq j i) [
      | inl same ↦
          let d = pos_step (h ++ u) j in
          let e = ap (pos ((h ++ u) ++ (j ∷ []))) same in
          let f = ap (pos (h ++ u)) same in
          let g : pos (h ++ u) i ≡ k → ⊥ = b.other same in
          omega (arith, g)
      | inr other ↦ let d = pos_stay (h ++ u) j i other in omega arith
    ])
    w

module _ (P : List ℕ → ℕ → Type 0) (L : List (List Event)) (stays : Stays P) (left : (h : List ℕ) (i : ℕ) → P h i → pos h i < count_of L i) where
  -- steps stay within the lists
  pub steps_within : (h : List ℕ) → Steps P h → (i : ℕ) → pos h i ≤ count_of L i
  steps_within h o = onwards_within P L left [] [] (λ i. omega arith) (λ i. omega arith) h o

  -- they are whole where no instance has an event left
  pub steps_whole : (h : List ℕ) → Steps P h → ((i : ℕ) → i < length L → count_of L i ≤ pos h i) → Whole P L h
  steps_whole h o done =
      record {
        order = o;
        done = λ i.
            let a = steps_within h o i in
            elim (cases_lt i (length L))
            [ inl l ↦ let b = done i l in omega arith | inr l ↦ let z = ap length (get_or_past L i [] l) in omega arith ];
      }

  -- where whole steps exist, every end is whole
  pub end_whole : (h : List ℕ) → Steps P h → AtEnd P h → (f : List ℕ) → Whole P L f → Whole P L h
  end_whole h o e f whole = steps_whole h o (λ i _. let a = greatest_end P stays h e f whole.order i in let b = whole.done i in omega arith)

  -- the drive after h tells whether they do
  pub drive_tells : (test : (ℕ → ℕ) → ℕ → Bool) (width : ℕ) → Tested P test width → (h : List ℕ) → Steps P h → DriveTells P L h (driven test width (size L) (pos h))
  drive_tells test width tested h o =
      let w = driven test width (size L) (pos h) in
      let first = (driven_drive P test width tested (size L) h).lowest in
      let ended = drive_ends P test width tested L left h (steps_within h o) (size L) (omega arith) in
      let steps = onwards_steps P h w o (onwards_weaker (Least P) P (λ u j a. a.can) h w first) in
      record {
        lowest = first;
        ended = ended;
        only = λ v low stops. ended_one P h v w low first stops ended;
        reached = end_whole (h ++ w) steps ended;
      }

  -- and a drive w that never makes event k of instance i finds its latest place
  pub blocked_finds : (h : List ℕ) → Steps P h → (i k : ℕ) → pos h i ≤ k → k < count_of L i → (f : List ℕ) → Whole P L f →
      (w : List ℕ) → Onwards (Other P i k) h w → AtEnd (Other P i k) (h ++ w) → LatestPlace P L h i k (suc (length (h ++ w)))
  blocked_finds h o i k low high f whole w others ended =
      let g = h ++ w in
      let order = onwards_steps P h w o (onwards_weaker (Other P i k) P (λ u j a. a.can) h w others) in
      let due = whole.done i in
      let r = reached P stays i k g order ended (event_unmade P i k h low w others) f whole.order (omega arith) in
      let regroup = append_assoc g (i ∷ []) r.more ∙ append_assoc h w (i ∷ r.more) in
      record {
        never_later = λ v m whole' p.
            let a = never_passed P stays i k g ended p.before p.after (subst (Steps P) p.is whole'.order) p.listed in
            let c = p.place in
            omega arith;
        more = w ++ (i ∷ r.more);
        whole =
            subst (Whole P L) regroup
            (steps_whole ((g ++ (i ∷ [])) ++ r.more) r.order (λ j _. let a = r.places j in let d = whole.done j in omega arith));
        reached = record { before = g; after = r.more; is = sym (append_assoc h w (i ∷ r.more)); listed = r.at; place = refl };
      }
