-- One line more of a pile's text.
use Rattle.std.proofs.Common.{◌≡◌, ℕ, ◌+◌, ◌<◌, ◌≤◌, true, false, cond, eqb, List, [], ◌∷◌, ◌++◌, length, is_some, IfOk, Some, None, Ok, Err, codes, Option, Result, sym, ap, ◌∙◌, subst, arith, Bor}
use Rattle.std.proofs.lemmas.List.{nil_from_length}
use Rattle.std.specs.Str.{bytes_eq}
use Rattle.charts.specs.declared.parts.Event.{Event}
use Rattle.flats.specs.declared.flat.Flat.{Flat}
use Rattle.tabletexts.specs.Table.{Table, table, event_on, lengths_on}
use Rattle.tabletexts.specs.Outcome.{Answers}
use Rattle.tabletexts.specs.declared.parts.Unread.{Unread}
use Rattle.tabletexts.specs.declared.parts.Unread.TheVariants.{Line, Memory}
use Rattle.piletexts.specs.Blocks.{UpTo, up_to, events_until, found_on, on_line, table_by, table_until}
use Rattle.piletexts.specs.Commands.{command_on}
use Rattle.piletexts.specs.declared.parts.Command.{Command}
use Rattle.piletexts.specs.declared.parts.Command.TheVariants.{Table as TableCommand, Poll, After, Beside, Recast}
use Rattle.piles.specs.Meanings.{Meaning, after_meaning, beside_meaning, poll_meaning, recast_meaning}
use Rattle.piles.specs.Stack.{join_two, shown, top_of, turn_one}
use Rattle.piles.specs.Applied.{Standing, standing, applied, stacked, tabled}
use Rattle.piles.specs.Piled.{Piled, end, pass, unknown, refused, follow, Tells}

-- at most n lines are left behind what was found
abbrev Leaves : {A : Type 0} → ℕ → Result (UpTo A) ℕ → Type 0
Leaves n r = IfOk r (λ u. length u.behind ≤ n)

leaves_more : {A : Type 0} (m n : ℕ) (r : Result (UpTo A) ℕ) → m ≤ n → Leaves m r → Leaves n r
leaves_more m n (Ok u) h l = omega arith
leaves_more m n (Err k) h l = tt

events_leave : (ls : List (List ℕ)) (es : List Event) (n : ℕ) → Leaves (length ls) (events_until es n ls)
events_leave [] es n = tt
events_leave (l ∷ ls) es n =
    let found : Event → Result (UpTo (List Event)) ℕ = λ e. events_until (es ++ e ∷ []) (n + 1) ls in
    let most = length (l ∷ ls) in
    elim (bytes_eq l (codes ".")) as (λ b. Leaves most (cond b (Ok (up_to es (n + 1) ls)) (cond (eqb (length l) 0) (events_until es (n + 1) ls) (found_on (n + 1) (event_on l) found)))) [
      | true ↦ omega arith
      | false ↦
          elim (eqb (length l) 0) as (λ b. Leaves most (cond b (events_until es (n + 1) ls) (found_on (n + 1) (event_on l) found))) [
            | true ↦ leaves_more (length ls) most (events_until es (n + 1) ls) (omega arith) (events_leave ls es (n + 1))
            | false ↦
                elim (event_on l) as (λ o. Leaves most (found_on (n + 1) o found)) [
                  | None ↦ tt
                  | Some e ↦ leaves_more (length ls) most (found e) (omega arith) (events_leave ls (es ++ e ∷ []) (n + 1))
                ]
          ]
    ]

by_leaves : (n : ℕ) (r : Result (List ℕ) ℕ) (s : Result (UpTo (List Event)) ℕ) → Leaves n s → Leaves n (table_by r s)
by_leaves n (Err k) s h = tt
by_leaves n (Ok ns) (Err k) h = tt
by_leaves n (Ok ns) (Ok u) h = h

table_leaves : (n : ℕ) (ls : List (List ℕ)) → Leaves (length ls) (table_until n ls)
table_leaves n [] = tt
table_leaves n (l ∷ ls) =
    let most = length (l ∷ ls) in
    let more = table_by (on_line (n + 1) (lengths_on l)) (events_until [] (n + 1) ls) in
    elim (bytes_eq l (codes ".")) as (λ b. Leaves most (cond b (Ok (up_to (table [] []) (n + 1) ls)) more)) [
      | true ↦ omega arith
      | false ↦ by_leaves most _ _ (leaves_more (length ls) most (events_until [] (n + 1) ls) (omega arith) (events_leave ls [] (n + 1)))
    ]

tabled_leaves : (n : ℕ) (S : List Meaning) (r : Result (UpTo Table) ℕ) (t : Standing) → Leaves n r → tabled S r ≡ Ok t → length t.lines ≤ n
tabled_leaves n S (Err k) t h e = absurd (let z : ◌≡◌ {A = ℕ} 0 1 = cc in omega arith)
tabled_leaves n S (Ok u) t h e = let same : t.lines ≡ u.behind = cc in omega (arith, ap length same)

stacked_leaves : (s : Standing) (o : Option (List Meaning)) (t : Standing) → stacked s o ≡ Ok t → length t.lines ≤ length s.lines
stacked_leaves s None t e = absurd (let z : ◌≡◌ {A = ℕ} 0 1 = cc in omega arith)
stacked_leaves s (Some S) t e = let same : t.lines ≡ s.lines = cc in omega (arith, ap length same)

-- no command leaves more lines than there were
pub applied_leaves : (c : Command) (s t : Standing) → applied c s ≡ Ok t → length t.lines ≤ length s.lines
applied_leaves TableCommand s t e = tabled_leaves (length s.lines) s.stack (table_until s.number s.lines) t (table_leaves s.number s.lines) e
applied_leaves (Poll n r) s t e = stacked_leaves s (Some (poll_meaning n r ∷ s.stack)) t e
applied_leaves After s t e = stacked_leaves s (join_two after_meaning s.stack) t e
applied_leaves Beside s t e = stacked_leaves s (join_two beside_meaning s.stack) t e
applied_leaves (Recast names) s t e = stacked_leaves s (turn_one (recast_meaning names) s.stack) t e

some_unknown : (S : List Meaning) (n : ℕ) (l : List ℕ) (M : List (List ℕ)) → 0 < length l → None ≡ command_on l → Piled (standing S n (l ∷ M)) (Err (n + 1))
some_unknown S n [] M h e = absurd (omega arith)
some_unknown S n (b ∷ bs) M h e = unknown S n b bs M (sym e)

-- line l, which is taken off the lines L
module _ (S : List Meaning) (n m : ℕ) (L M : List (List ℕ)) (l : List ℕ) (cut : L ≡ l ∷ M) (next : m ≡ n + 1) where
  on : (o : Result (List Meaning) ℕ) → Piled (standing S n (l ∷ M)) o → Piled (standing S n L) o
  on o p = subst (λ (ls : List (List ℕ)). Piled (standing S n ls) o) (sym cut) p

  pub line_passed : length l ≡ 0 → (o : Result (List Meaning) ℕ) → Piled (standing S m M) o → Piled (standing S n L) o
  line_passed none o p =
      on o
      (subst (λ (k : List ℕ). Piled (standing S n (k ∷ M)) o) (sym (nil_from_length l none))
      (pass S n M o (subst (λ (k : ℕ). Piled (standing S k M) o) next p)))

  pub line_unknown : (k : ℕ) → k ≡ m → 0 < length l → None ≡ command_on l → Piled (standing S n L) (Err k)
  line_unknown k is h e = subst (λ (j : ℕ). Piled (standing S n L) (Err j)) (sym (is ∙ next)) (on (Err (n + 1)) (some_unknown S n l M h e))

  -- with a command on it
  module _ (c : Command) (written : Some c ≡ command_on l) where
    line_refused : (k : ℕ) → applied c (standing S m M) ≡ Err k → Piled (standing S n L) (Err k)
    line_refused k e = on (Err k) (refused S n l M c k (sym written) (ap (λ (j : ℕ). applied c (standing S j M)) (sym next) ∙ e))

    pub line_followed : (s : Standing) → applied c (standing S m M) ≡ Ok s → (o : Result (List Meaning) ℕ) → Piled s o → Piled (standing S n L) o
    line_followed s e o p = on o (follow S n l M c s o (sym written) (ap (λ (j : ℕ). applied c (standing S j M)) (sym next) ∙ e) p)

    refused_told : {V : Type 0} (f : V → List Meaning) (x start : Standing) (e : Unread) → ((o : Result (List Meaning) ℕ) → Piled (standing S n L) o → Piled start o) →
        Answers {V = Unit {0}} (λ _. x) (applied c (standing S m M)) (Err e) → Tells f start (Err e)
    refused_told f x start (Line k) inv said = inv (Err k) (line_refused k said)
    refused_told f x start Memory inv said = tt

    pub line_told : {V : Type 0} (f : V → List Meaning) (x start : Standing) (e : Unread) (r : Result V Unread) →
        ((o : Result (List Meaning) ℕ) → Piled (standing S n L) o → Piled start o) →
        Answers {V = Unit {0}} (λ _. x) (applied c (standing S m M)) (Err e) → r ≡ Err e → Tells f start r
    line_told {V} f x start e r inv said is = subst (λ (t : Result V Unread). Tells f start t) (sym is) (refused_told f x start e inv said)

-- no line is left, and a chart is missing
pub ends_empty : (S : List Meaning) (top : Option (Bor Flat)) (n k : ℕ) (L : List (List ℕ)) → L ≡ [] → k ≡ n → top_of S ≡ shown top → is_some top ≡ false →
    Piled (standing S n L) (Err (k + 1))
ends_empty [] top n k L none same shows e =
    subst (λ (ls : List (List ℕ)). Piled (standing [] n ls) (Err (k + 1))) (sym none)
    (subst (λ (j : ℕ). Piled (standing [] n []) (Err (j + 1))) (sym same) (end [] n))
ends_empty (a ∷ S) None n k L none same shows e = absurd (let z : ◌≡◌ {A = ℕ} 0 1 = cc in omega arith)
ends_empty (a ∷ S) (Some x) n k L none same shows e = absurd (let z : ◌≡◌ {A = ℕ} 0 1 = cc in omega arith)

-- no line is left, and the stack stands
pub ends_full : (S : List Meaning) (top : Option (Bor Flat)) (n : ℕ) (L : List (List ℕ)) → L ≡ [] → top_of S ≡ shown top → is_some top ≡ true → Piled (standing S n L) (Ok S)
ends_full [] None n L none shows e = absurd (let z : ◌≡◌ {A = ℕ} 0 1 = cc in omega arith)
ends_full [] (Some x) n L none shows e = absurd (let z : ◌≡◌ {A = ℕ} 0 1 = cc in omega arith)
ends_full (a ∷ S) top n L none shows e = subst (λ (ls : List (List ℕ)). Piled (standing (a ∷ S) n ls) (Ok (a ∷ S))) (sym none) (end (a ∷ S) n)
