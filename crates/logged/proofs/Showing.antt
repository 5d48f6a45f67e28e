-- The lines of a log whose answer and entries are known.
use Rattle.std.proofs.Common.{◌≡◌, ℕ, List, [], ◌++◌, Some, None, Option, Ok, Result, sym, ap, ◌∙◌, subst, arith}
use Rattle.charts.specs.declared.parts.Event.{Event}
use Rattle.charts.specs.declared.faults.Fault.{Fault as ChartFault}
use Rattle.media.specs.Media.{free}
use Rattle.listings.specs.Report.{line}
use Rattle.logs.specs.declared.parts.Refusal.{Refusal}
use Rattle.logs.specs.declared.parts.Verdict.{Verdict}
use Rattle.logs.specs.Logs.{LogAnswered, LogAnswers}
use Rattle.loglines.specs.LogLines.{log_line}
use Rattle.words.specs.declared.faults.Fault.{Fault}
use Rattle.words.specs.Sentences.{sentences}
use Rattle.texts.specs.declared.reading.Reading.{Reading}
use Rattle.texts.specs.Readings.{Tables, Answer, Reads, greatest}
use Rattle.lines.specs.declared.listing.Listing.{Listing}
use Rattle.lines.specs.Listings.{HoldsRows}
use Rattle.judged.specs.Shown.{chart_in, step_lines}
use Rattle.judged.proofs.Holding.{lists_text}
use Rattle.logged.specs.Taken.{TakenIn}
use Rattle.logged.specs.Shown.{ShowsLog, ShowsRead, Shows}

-- the answer to a log of a chart without a fault
pub answered : (t : Option ChartFault) (L K : List (List Event)) (log : List ℕ) (r : Result Verdict Refusal) → t ≡ None → L ≡ K → LogAnswers t free L log r → LogAnswered free K log r
answered None L K log r e is a = subst (λ (J : List (List Event)). LogAnswered free J log r) is a
answered (Some f) L K log r e is a = absurd (let z : ◌≡◌ {A = ℕ} 0 1 = cc in omega arith)

-- the lines of the entries, and that of the answer
pub shows_log : (l : Listing) (log : List ℕ) (r : Result Verdict Refusal) (steps order zs bs cs : List ℕ) → LogAnswered free (chart_in l) log r → TakenIn (chart_in l) log steps → order ≡ steps → zs ≡ [] → bs ≡ zs ++ step_lines l [] order → cs ≡ bs ++ line (log_line r) → ShowsLog l log cs
shows_log l log r steps order zs bs cs a t o z b c =
    record {
      said = r;
      answered = a;
      entries = t.0;
      taken = t.1;
      bytes_are = c ∙ ap (λ (xs : List ℕ). xs ++ line (log_line r)) (b ∙ ap (λ (xs : List ℕ). xs ++ step_lines l [] order) z ∙ ap (step_lines l []) (o ∙ t.2));
    }

-- the lines of a log by a text that is read
pub shows_read : (text : List ℕ) (a : Reading) (t : Tables) (l : Listing) (log bytes : List ℕ) → a.text.now ≡ text → Reads (sentences text) greatest (Ok a) t → HoldsRows a t.lengths t.events t.instances t.messages t.actions l → ShowsLog l log bytes → Shows text log bytes
shows_read text a t l log bytes is reads held shows =
    let h = subst (λ (bs : List ℕ). Reads (sentences bs) greatest (Ok a) t) (sym is) reads in
    subst (λ (bs : List ℕ). Shows bs log bytes) is
    (subst (λ (x : Result Answer Fault). ShowsRead a.text.now x log bytes) (sym h.0) (l, lists_text a t l h held, shows))
