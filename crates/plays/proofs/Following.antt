-- One line more of a script's text.
use Rattle.std.proofs.Common.{◌≡◌, ℕ, ◌+◌, ◌<◌, ◌≤◌, Bool, true, false, ◌&&◌, cond, List, [], ◌∷◌, length, IfOk, Some, None, Ok, Err, Result, sym, refl, ap, ◌∙◌, subst, arith}
use Rattle.std.proofs.lemmas.List.{nil_from_length}
use Rattle.piletexts.specs.Blocks.{UpTo, text_until}
use Rattle.piletexts.specs.declared.parts.Command.{Command}
use Rattle.piletexts.proofs.Feeding.{text_leaves}
use Rattle.piles.specs.Meanings.{Meaning}
use Rattle.piles.specs.Applied.{Standing, standing, applied}
use Rattle.piles.proofs.Following.{applied_leaves}
use Rattle.scripts.specs.Statements.{Said, to_pile, a_text, to_medium, a_log, a_call, statement_on}
use Rattle.plays.specs.declared.parts.Unplayed.{Unplayed}
use Rattle.plays.specs.declared.parts.Unplayed.TheVariants.{Line, Text as TextRefused, Memory}
use Rattle.plays.specs.Troubles.{Trouble, at_line, in_text, lined, Answers}
use Rattle.plays.specs.ChartTexts.{chart_of, put_on, behind_text, texted}
use Rattle.plays.specs.Plans.{Plan, with_medium, with_log, with_call}
use Rattle.plays.specs.Scripts.{Script}
use Rattle.plays.specs.Followed.{State, state, followed, stacked_on, has_chart, before_medium, before_calls}
use Rattle.plays.specs.Scripted.{Scripted, Tells, Writes, ended, end, pass, unknown, refused, follow}

-- at most n lines are left
abbrev Leaves : ℕ → Result Standing Trouble → Type 0
Leaves n r = IfOk r (λ s. length s.lines ≤ n)

stacked_leaves : (p : Plan) (n : ℕ) (r : Result Standing Trouble) (u : State) → Leaves n r → stacked_on p r ≡ Ok u → length u.standing.lines ≤ n
stacked_leaves p n (Err k) u h e = absurd (let z : ◌≡◌ {A = ℕ} 0 1 = cc in omega arith)
stacked_leaves p n (Ok s) u h e =
    let same : s ≡ u.standing = cc in
    omega (arith, ap (λ (x : Standing). length x.lines) same)

command_leaves : (c : Command) (t : Standing) (r : Result Standing ℕ) → applied c t ≡ r → Leaves (length t.lines) (lined r)
command_leaves c t (Err k) is = tt
command_leaves c t (Ok s) is = applied_leaves c t s is

texted_leaves : (S : List Meaning) (n : ℕ) (r : Result (UpTo (List ℕ)) ℕ) → IfOk r (λ u. length u.behind ≤ n) → Leaves n (texted S r)
texted_leaves S n (Err k) h = tt
texted_leaves S n (Ok u) h =
    elim (chart_of u.found) as (λ c. Leaves n (behind_text u (put_on S c))) [
      | Ok a ↦ h
      | Err f ↦ tt
    ]

-- what is done where b allows it leaves no more lines than that leaves
allowed_leaves : (b : Bool) (r : Result State Trouble) (n : Trouble) (t : Standing) (u : State) → (r ≡ Ok u → length u.standing.lines ≤ length t.lines) → cond b r (Err n) ≡ Ok u → length u.standing.lines ≤ length t.lines
allowed_leaves true r n t u leaves e = leaves e
allowed_leaves false r n t u leaves e = absurd (let z : ◌≡◌ {A = ℕ} 0 1 = cc in omega arith)

same_leaves : (p : Plan) (t : Standing) (u : State) → ◌≡◌ {A = Result State Trouble} (Ok (state p t)) (Ok u) → length u.standing.lines ≤ length t.lines
same_leaves p t u e = let same : t ≡ u.standing = cc in omega (arith, ap (λ (x : Standing). length x.lines) same)

-- no statement leaves more lines than there were
pub followed_leaves : (s : Said) (p : Plan) (t : Standing) (u : State) → followed s p t ≡ Ok u → length u.standing.lines ≤ length t.lines
followed_leaves (to_pile c) p t u e =
    allowed_leaves (before_medium p.part) (stacked_on p (lined (applied c t))) (at_line t.number) t u (λ h. stacked_leaves p (length t.lines) (lined (applied c t)) u (command_leaves c t (applied c t) refl) h) e
followed_leaves a_text p t u e =
    let found = text_until t.number t.lines in
    allowed_leaves (before_medium p.part) (stacked_on p (texted t.stack found)) (at_line t.number) t u
    (λ h. stacked_leaves p (length t.lines) (texted t.stack found) u (texted_leaves t.stack (length t.lines) found (text_leaves t.number t.lines)) h) e
followed_leaves (to_medium m) p t u e =
    allowed_leaves (before_calls p.part && has_chart t.stack) (Ok (state (with_medium p m) t)) (at_line t.number) t u (λ h. same_leaves (with_medium p m) t u h) e
followed_leaves (a_log bytes) p t u e =
    allowed_leaves (has_chart t.stack) (Ok (state (with_log p bytes) t)) (at_line t.number) t u (λ h. same_leaves (with_log p bytes) t u h) e
followed_leaves (a_call c) p t u e =
    allowed_leaves (has_chart t.stack) (Ok (state (with_call p c.0 c.1) t)) (at_line t.number) t u (λ h. same_leaves (with_call p c.0 c.1) t u h) e

some_unknown : (p : Plan) (S : List Meaning) (n : ℕ) (l : List ℕ) (M : List (List ℕ)) → 0 < length l → None ≡ statement_on l → Scripted p (standing S n (l ∷ M)) (Err (at_line (n + 1)))
some_unknown p S n [] M h e = absurd (omega arith)
some_unknown p S n (b ∷ bs) M h e = unknown p S n b bs M (sym e)

-- line l, which is taken off the lines L
module _ (p : Plan) (S : List Meaning) (n m : ℕ) (L M : List (List ℕ)) (l : List ℕ) (cut : L ≡ l ∷ M) (next : m ≡ n + 1) where
  on : (r : Result Script Trouble) → Scripted p (standing S n (l ∷ M)) r → Scripted p (standing S n L) r
  on r x = subst (λ (ls : List (List ℕ)). Scripted p (standing S n ls) r) (sym cut) x

  pub line_passed : length l ≡ 0 → (r : Result Script Trouble) → Scripted p (standing S m M) r → Scripted p (standing S n L) r
  line_passed none r x =
      on r
      (subst (λ (k : List ℕ). Scripted p (standing S n (k ∷ M)) r) (sym (nil_from_length l none))
      (pass p S n M r (subst (λ (k : ℕ). Scripted p (standing S k M) r) next x)))

  pub line_unknown : (k : ℕ) → k ≡ m → 0 < length l → None ≡ statement_on l → Scripted p (standing S n L) (Err (at_line k))
  line_unknown k is h e = subst (λ (j : ℕ). Scripted p (standing S n L) (Err (at_line j))) (sym (is ∙ next)) (on (Err (at_line (n + 1))) (some_unknown p S n l M h e))

  -- with a statement on it
  module _ (s : Said) (written : Some s ≡ statement_on l) where
    line_refused : (k : Trouble) → followed s p (standing S m M) ≡ Err k → Scripted p (standing S n L) (Err k)
    line_refused k e = on (Err k) (refused p S n l M s k (sym written) (ap (λ (j : ℕ). followed s p (standing S j M)) (sym next) ∙ e))

    pub line_followed : (t : State) → followed s p (standing S m M) ≡ Ok t → (r : Result Script Trouble) → Scripted t.plan t.standing r → Scripted p (standing S n L) r
    line_followed t e r x = on r (follow p S n l M s t r (sym written) (ap (λ (j : ℕ). followed s p (standing S j M)) (sym next) ∙ e) x)

    refused_told : {V : Type 0} (f : V → Script) (text : List ℕ) (x : State) (e : Unplayed) → ((r : Result Script Trouble) → Scripted p (standing S n L) r → Writes text r) →
        Answers {V = Unit {0}} (λ _. x) (followed s p (standing S m M)) (Err e) → Tells f text (Err e)
    refused_told f text x (Line k) inv said = inv (Err (at_line k)) (line_refused (at_line k) said)
    refused_told f text x (TextRefused g) inv said = inv (Err (in_text g)) (line_refused (in_text g) said)
    refused_told f text x Memory inv said = tt

    pub line_told : {V : Type 0} (f : V → Script) (text : List ℕ) (x : State) (e : Unplayed) (r : Result V Unplayed) →
        ((r : Result Script Trouble) → Scripted p (standing S n L) r → Writes text r) →
        Answers {V = Unit {0}} (λ _. x) (followed s p (standing S m M)) (Err e) → r ≡ Err e → Tells f text r
    line_told {V} f text x e r inv said is = subst (λ (t : Result V Unplayed). Tells f text t) (sym is) (refused_told f text x e inv said)

-- no line is left
module _ (p : Plan) (S : List Meaning) (n k : ℕ) (L : List (List ℕ)) (none : L ≡ []) (next : k ≡ n + 1) where
  line_ends : (r : Result Script Trouble) → ended k p S ≡ r → Scripted p (standing S n L) r
  line_ends r is =
      subst (λ (ls : List (List ℕ)). Scripted p (standing S n ls) r) (sym none)
      (subst (λ (t : Result Script Trouble). Scripted p (standing S n []) t) (ap (λ (j : ℕ). ended j p S) (sym next) ∙ is) (end p S n))

  pub end_told : {V : Type 0} (f : V → Script) (text : List ℕ) (r : Result V Unplayed) → ((r : Result Script Trouble) → Scripted p (standing S n L) r → Writes text r) →
      Answers f (ended k p S) r → Tells f text r
  end_told f text (Ok v) inv said = inv (Ok (f v)) (line_ends (Ok (f v)) said)
  end_told f text (Err (Line j)) inv said = inv (Err (at_line j)) (line_ends (Err (at_line j)) said)
  end_told f text (Err (TextRefused g)) inv said = inv (Err (in_text g)) (line_ends (Err (in_text g)) said)
  end_told f text (Err Memory) inv said = tt
