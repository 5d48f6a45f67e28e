-- Events whose names have their numbers.
use Rattle.std.proofs.Common.{◌≡◌, ℕ, ◌+◌, ◌<◌, Bool, true, false, cond, List, [], ◌∷◌, ◌++◌, length, slice_set, Some, None, Option, Err, Result, refl, sym, ap, ◌∙◌, subst, arith}
use Rattle.std.specs.Option.{is_some}
use Rattle.std.proofs.lemmas.Bool.{both_ways}
use Rattle.std.proofs.lemmas.List.{length-append}
use Rattle.charts.specs.declared.parts.Event.{Event}
use Rattle.charts.specs.Events.{no_event}
use Rattle.words.specs.declared.faults.Fault.{Fault}
use Rattle.words.specs.declared.parts.Word.{Word}
use Rattle.words.specs.Sentences.{Placed}
use Rattle.words.specs.Reading.{placed}
use Rattle.sentences.specs.Wants.{among}
use Rattle.names.specs.Numbers.{Numbers, number_of}
use Rattle.texts.specs.declared.filling.Filling.{Filling}
use Rattle.texts.specs.Rows.{padded}
use Rattle.texts.specs.Numbering.{place_of}
use Rattle.texts.specs.Noting.{Indexes}
use Rattle.texts.specs.Drafts.{Draft, Written, Writes, unknown_in}
use Rattle.texts.specs.Resolving.{IsUnknown}
use Rattle.texts.proofs.Padding.{padded_next}

-- a peer that the index does not know is none of the instances
pub peer_unknown : (numbers : Numbers) (ns : List Placed) (w : Word) → Indexes numbers ns → number_of numbers w.bytes.now ≡ None → unknown_in ns (Some (placed w)) ≡ Some (placed w)
peer_unknown numbers ns w l none = go (among ns w.bytes.now) refl
  where
    go : (b : Bool) → among ns w.bytes.now ≡ b → cond (among ns w.bytes.now) None (Some (placed w)) ≡ Some (placed w)
    go true is = absurd (both_ways (is_some (number_of numbers w.bytes.now)) (ap is_some none) (ap is_some (l.known w.bytes.now ∙ ap (λ (b : Bool). cond b (Some (place_of ns w.bytes.now)) None) is)))
    go false is = ap (λ (b : Bool). cond b None (Some (placed w))) is

module _ (f g : Filling) (lengths : List ℕ) (events : List Event) (d : Draft) (w : Written f lengths events d) where
  -- an event more
  pub written_event : (row : Event) → f.events < length events → g.instances ≡ f.instances → g.count ≡ f.count + 1 → g.events ≡ f.events + 1 →
      Written g lengths (slice_set events f.events row) (record { lengths = d.lengths; count = d.count + 1; events = d.events ++ (row ∷ []) })
  written_event row room i c e =
      record {
        instances = i ∙ w.instances;
        count = let x = w.count in omega arith;
        number = let x = w.number in let l = length-append d.events (row ∷ []) in omega arith;
        lengths_are = w.lengths_are;
        events_are = padded_next no_event events d.events f.events row w.events_are w.number room;
      }

  -- the length of an instance more
  pub written_end : f.instances < length lengths → g.instances ≡ f.instances + 1 → g.count ≡ 0 → g.events ≡ f.events →
      Written g (slice_set lengths f.instances f.count) events (record { lengths = d.lengths ++ (d.count ∷ []); count = 0; events = d.events })
  written_end room i c e =
      record {
        instances = let x = w.instances in let l = length-append d.lengths (d.count ∷ []) in omega arith;
        count = c;
        number = e ∙ w.number;
        lengths_are =
            subst (λ (n : ℕ). slice_set lengths f.instances n ≡ padded 0 (length (slice_set lengths f.instances n)) (d.lengths ++ (d.count ∷ []))) (sym w.count)
            (padded_next 0 lengths d.lengths f.instances d.count w.lengths_are w.instances room);
        events_are = w.events_are;
      }

-- what is answered of a refusal is answered where it is handed up
pub writes_by : (unknown : Option Placed) (d : Draft) (f : Filling) (lengths : List ℕ) (events : List Event) (e : Fault) (r : Result (Unit {0}) Fault) → r ≡ Err e → IsUnknown unknown e → Writes unknown d r f lengths events
writes_by unknown d f lengths events e r is u = subst (λ (x : Result (Unit {0}) Fault). Writes unknown d x f lengths events) (sym is) u
