-- The checks of a table, one after the other.
use Rattle.std.proofs.Common.{◌≡◌, ℕ, ◌==◌, nat_le, List, length, Some, None, Ok, Err, sum, Result, MatchResult, sym, ap, ◌∙◌}
use Rattle.std.specs.Result.{is_ok}
use Rattle.std.proofs.lemmas.Bool.{le-leb, eq-eqb, false≢true}
use Rattle.charts.specs.declared.parts.Event.{Event}
use Rattle.charts.specs.declared.faults.Fault.{Fault}
use Rattle.charts.specs.declared.faults.Rule.{Rule}
use Rattle.checks.specs.Choice.{unless, or_else}
use Rattle.checks.specs.Checked.{table_fault, checked}
use Rattle.checks.proofs.Chosen.{none_unless, none_or_else, some_or_else}
use Rattle.tables.specs.declared.layout.Layout.{Layout}
use Rattle.tables.specs.Findings.{misformed, repeated, unmatched, Finds}

-- a layout is of the slices that it was made of
pub kept : (ns : List ℕ) (es : List Event) (r : Result Layout Rule) (x : Result Layout Fault) (t : Layout) (P Q : Rule → Type 0) →
    MatchResult r (λ u. (u.lengths.now ≡ ns) × (u.events.now ≡ es)) P → MatchResult r (λ u. x ≡ Ok u) Q → is_ok x ≡ is_ok r → x ≡ Ok t → checked ns es ≡ checked t.lengths.now t.events.now
kept ns es (Ok u) x t P Q m p v is = let e : u ≡ t = cc in let a = m.0 in let b = m.1 in cc
kept ns es (Err n) x t P Q m p v is = absurd (false≢true (sym v ∙ ap is_ok is))

module _ (t : Layout) where
  -- within the limits, the events are left to check
  rest : checked t.lengths.now t.events.now ≡
      or_else (misformed t.lengths.now t.events.now) (or_else (repeated t.lengths.now t.events.now) (or_else (unmatched t.lengths.now t.events.now) None))
  rest =
      none_or_else (unless (nat_le (length t.lengths.now) 32) (table_fault 11 0 0)) _ (none_unless _ _ (le-leb (length t.lengths.now) 32 t.few)) ∙
      (none_or_else (unless (nat_le (length t.events.now) 4096) (table_fault 12 0 0)) _ (none_unless _ _ (le-leb (length t.events.now) 4096 t.short)) ∙
      none_or_else (unless (sum t.lengths.now == length t.events.now) (table_fault 13 0 0)) _ (none_unless _ _ (eq-eqb (sum t.lengths.now) (length t.events.now) t.even)))

  pub by_forms : (f : Fault) → misformed t.lengths.now t.events.now ≡ Some f → checked t.lengths.now t.events.now ≡ Some f
  by_forms f m = rest ∙ some_or_else _ _ f m

  module _ (m : misformed t.lengths.now t.events.now ≡ None) where
    pub by_repeats : (f : Fault) → repeated t.lengths.now t.events.now ≡ Some f → checked t.lengths.now t.events.now ≡ Some f
    by_repeats f r = rest ∙ none_or_else _ _ m ∙ some_or_else _ _ f r

    pub by_matches : (x : Result (Unit {0}) Fault) → repeated t.lengths.now t.events.now ≡ None → Finds (unmatched t.lengths.now t.events.now) x → Finds (checked t.lengths.now t.events.now) x
    by_matches (Ok v) r u = rest ∙ none_or_else _ _ m ∙ none_or_else _ _ r ∙ none_or_else _ _ u
    by_matches (Err f) r u = rest ∙ none_or_else _ _ m ∙ none_or_else _ _ r ∙ some_or_else _ _ f u
