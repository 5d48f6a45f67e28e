-- No line writes two statements: the first word of a line tells of which kind it is.
use Rattle.std.proofs.Common.{◌≡◌, ℕ, Bool, cond, inl, inr, List, [], ◌∷◌, Some, None, codes, Option, refl, sym, ap, ◌∙◌, subst, arith}
use Rattle.std.specs.Option.{option_map, option_or}
use Rattle.std.specs.Str.{bytes_eq}
use Rattle.std.proofs.lemmas.Slice.Eq.{bytes_eq-Decides}
use Rattle.std.proofs.lemmas.Bool.{cases_Bool}
use Rattle.tabletexts.specs.Table.{fields}
use Rattle.runs.specs.declared.calls.Call.{Call as RunCall}
use Rattle.piletexts.specs.Commands.{command_by, command_in}
use Rattle.piletexts.specs.declared.parts.Command.{Command}
use Rattle.scripts.specs.declared.parts.MediumCommand.{MediumCommand}
use Rattle.scripts.specs.Calls.{call_by, call_in, call_on}
use Rattle.scripts.specs.MediumLines.{medium_by, medium_in, medium_on}
use Rattle.scripts.specs.Statements.{Said, to_pile, a_text, to_medium, a_log, a_call, text_on, log_fields, log_on, statement_on, Writes, pile, text, medium, log, call}

-- the word is u, or what is written is what other words write
picked : (P : List ℕ → Type 0) (w u : List ℕ) {A : Type 0} (x y : Option A) (a : A) → P u → (y ≡ Some a → P w) → cond (bytes_eq w u) x y ≡ Some a → P w
picked P w u x y a here there e =
    elim (cases_Bool (bytes_eq w u)) [
      | inl e1 ↦ subst P (sym ((bytes_eq-Decides w u).0 e1)) here
      | inr e2 ↦ there (sym (ap (λ (b : Bool). cond b x y) e2) ∙ e)
    ]

-- what holds of each word of a medium holds of a word that writes a medium command
medium_word : (P : List ℕ → Type 0) → P (codes "free") → P (codes "line") → P (codes "narrow") → (w : List ℕ) (fs : List (List ℕ)) (m : MediumCommand) → medium_by w fs ≡ Some m → P w
medium_word P a b c w fs m e =
    picked P w (codes "free") _ _ m a (picked P w (codes "line") _ _ m b (picked P w (codes "narrow") _ _ m c (λ (z : None ≡ Some m). cc))) e

-- what holds of each word of a call holds of a word that writes a call
call_word : (P : List ℕ → Type 0) → P (codes "step") → P (codes "drive") → P (codes "restart") → P (codes "judge") → P (codes "latest") →
    (w : List ℕ) (fs : List (List ℕ)) (p : RunCall × ℕ) → call_by w fs ≡ Some p → P w
call_word P a b c d f w fs p e =
    picked P w (codes "step") _ _ p a (picked P w (codes "drive") _ _ p b (picked P w (codes "restart") _ _ p c (picked P w (codes "judge") _ _ p d (picked P w (codes "latest") _ _ p f (λ (z : None ≡ Some p). cc))))) e

-- what holds of the word of a log holds of a word that writes one
log_word : (P : List ℕ → Type 0) → P (codes "log") → (w : List ℕ) (fs : List (List ℕ)) (bytes : List ℕ) → log_fields (w ∷ fs) ≡ Some bytes → P w
log_word P a w fs bytes e = picked P w (codes "log") _ _ bytes a (λ (z : None ≡ Some bytes). cc) e

medium_alone : (ps : List (List ℕ)) (m : MediumCommand) → medium_in ps ≡ Some m → command_in ps ≡ None
medium_alone [] m e = refl
medium_alone (w ∷ fs) m e = medium_word (λ v. command_by v fs ≡ None) refl refl refl w fs m e

log_alone : (ps : List (List ℕ)) (bytes : List ℕ) → log_fields ps ≡ Some bytes → (command_in ps ≡ None) × (medium_in ps ≡ None)
log_alone [] bytes e = (refl, refl)
log_alone (w ∷ fs) bytes e = log_word (λ v. (command_by v fs ≡ None) × (medium_by v fs ≡ None)) (refl, refl) w fs bytes e

call_alone : (ps : List (List ℕ)) (p : RunCall × ℕ) → call_in ps ≡ Some p → (command_in ps ≡ None) × (medium_in ps ≡ None) × (log_fields ps ≡ None)
call_alone [] p e = (refl, refl, refl)
call_alone (w ∷ fs) p e =
    call_word (λ v. (command_by v fs ≡ None) × (medium_by v fs ≡ None) × (log_fields (v ∷ fs) ≡ None)) (refl, refl, refl) (refl, refl, refl) (refl, refl, refl) (refl, refl, refl) (refl, refl, refl) w fs p e

-- a line that writes a statement of another kind has not only the word `text`
no_text : {A : Type 0} (on : List ℕ → Option A) (line : List ℕ) (a : A) → on (codes "text") ≡ None → on line ≡ Some a → text_on line ≡ None
no_text {A} on line a none e =
    elim (cases_Bool (bytes_eq line (codes "text"))) [
      | inl is ↦ absurd (let z : ◌≡◌ {A = Option A} None (Some a) = sym none ∙ ap on (sym ((bytes_eq-Decides line (codes "text")).0 is)) ∙ e in let y : ◌≡◌ {A = ℕ} 0 1 = cc in omega arith)
      | inr is ↦ ap (λ (b : Bool). cond b (Some a_text) None) is
    ]

-- the first of these that is there
abbrev one_of : Option Command → Option Said → Option MediumCommand → Option (List ℕ) → Option (RunCall × ℕ) → Option Said
one_of c t m l p = option_or (option_map to_pile c) (option_or t (option_or (option_map to_medium m) (option_or (option_map a_log l) (option_map a_call p))))

-- what a line writes is its statement
written_alone : (line : List ℕ) (s : Said) → Writes line s → statement_on line ≡ Some s
written_alone line s (pile c e) = ap (λ (o : Option Command). one_of o (text_on line) (medium_on line) (log_on line) (call_on line)) e
written_alone line s (text e) = ap statement_on e
written_alone line s (medium m e) =
    ap (λ (o : Option Command). one_of o (text_on line) (medium_on line) (log_on line) (call_on line)) (medium_alone (fields line) m e)
    ∙ ap (λ (o : Option Said). one_of None o (medium_on line) (log_on line) (call_on line)) (no_text medium_on line m refl e)
    ∙ ap (λ (o : Option MediumCommand). one_of None None o (log_on line) (call_on line)) e
written_alone line s (log bytes e) =
    let others = log_alone (fields line) bytes e in
    ap (λ (o : Option Command). one_of o (text_on line) (medium_on line) (log_on line) (call_on line)) others.0
    ∙ ap (λ (o : Option Said). one_of None o (medium_on line) (log_on line) (call_on line)) (no_text log_on line bytes refl e)
    ∙ ap (λ (o : Option MediumCommand). one_of None None o (log_on line) (call_on line)) others.1
    ∙ ap (λ (o : Option (List ℕ)). one_of None None None o (call_on line)) e
written_alone line s (call p e) =
    let others = call_alone (fields line) p e in
    ap (λ (o : Option Command). one_of o (text_on line) (medium_on line) (log_on line) (call_on line)) others.0
    ∙ ap (λ (o : Option Said). one_of None o (medium_on line) (log_on line) (call_on line)) (no_text call_on line p refl e)
    ∙ ap (λ (o : Option MediumCommand). one_of None None o (log_on line) (call_on line)) others.1
    ∙ ap (λ (o : Option (List ℕ)). one_of None None None o (call_on line)) others.2
    ∙ ap (λ (o : Option (RunCall × ℕ)). one_of None None None None o) e

-- so is what it reads as
pub read_alone : (line : List ℕ) (r : Option Said) → r ≡ statement_on line → (s : Said) → Writes line s → r ≡ Some s
read_alone line r is s w = is ∙ written_alone line s w
