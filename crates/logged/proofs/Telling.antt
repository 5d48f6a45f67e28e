-- The lines of a log are those of the chart that the text writes.
use Rattle.std.proofs.Common.{◌≡◌, ℕ, List, [], ◌∷◌, ◌++◌, Ok, Err, Result, refl, sym, ap, ◌∙◌, subst, append_assoc, append-nil}
use Rattle.charts.specs.declared.parts.Event.{Event}
use Rattle.media.specs.Carry.{Carry}
use Rattle.media.specs.Media.{free}
use Rattle.orders.specs.May.{May}
use Rattle.records.specs.declared.parts.Entry.{Entry}
use Rattle.logs.specs.Logs.{LogAnswered}
use Rattle.words.specs.declared.faults.Fault.{Fault}
use Rattle.words.specs.Sentences.{sentences}
use Rattle.items.specs.Surveys.{items_in}
use Rattle.texts.specs.Charted.{lists_of}
use Rattle.texts.specs.Readings.{Answer, read_as, tables_of, greatest}
use Rattle.texts.proofs.Taking.{takes_ok}
use Rattle.texts.proofs.Fitting.{first_fault}
use Rattle.judged.specs.Shown.{step_lines}
use Rattle.judged.proofs.Matching.{chart_is, steps_told}
use Rattle.logged.specs.Taken.{TakenFrom, more, over, TakenOf, headed, headless, instances_of}
use Rattle.logged.specs.Shown.{ShowsRead, Shows}
use Rattle.logged.specs.Told.{TellsLog, answers, refused}

-- each entry that is taken may run in its turn
module _ (M : Carry) (L : List (List Event)) where
  may_from : (h bytes : List ℕ) (xs : List Entry) → TakenFrom M L h bytes xs → (u : List ℕ) (i : ℕ) (v : List ℕ) → instances_of xs ≡ u ++ (i ∷ v) → May M L (h ++ u) i
  may_from _ _ _ (over h bytes none) [] i v e = cc
  may_from _ _ _ (over h bytes none) (j ∷ u) i v e = cc
  may_from _ _ _ (more h bytes x rest xs is t k) [] i v e =
      let same : x.instance ≡ i = cc in
      subst (λ (g : List ℕ). May M L g i) (sym (append-nil h)) (subst (May M L h) same t.may)
  may_from _ _ _ (more h bytes x rest xs is t k) (j ∷ u) i v e =
      let same : x.instance ≡ j = cc in
      let left : instances_of xs ≡ u ++ (i ∷ v) = cc in
      subst (λ (g : List ℕ). May M L g i) (append_assoc h (x.instance ∷ []) u ∙ ap (λ (n : ℕ). h ++ (n ∷ u)) same) (may_from (h ++ (x.instance ∷ [])) rest xs k u i v left)

  may_each : (bytes : List ℕ) (xs : List Entry) → TakenOf M L bytes xs → (u : List ℕ) (i : ℕ) (v : List ℕ) → instances_of xs ≡ u ++ (i ∷ v) → May M L u i
  may_each bytes _ (headed rest xs is k) u i v e = may_from [] rest xs k u i v e
  may_each bytes _ (headless none) [] i v e = cc
  may_each bytes _ (headless none) (j ∷ u) i v e = cc

-- what is shown of a log is what is told of it
pub tells : (text log bytes : List ℕ) → Shows text log bytes → TellsLog text log bytes
tells text log bytes h = go (read_as greatest (sentences text)) refl h
  where
    go : (r : Result Answer Fault) → read_as greatest (sentences text) ≡ r → ShowsRead text r log bytes → TellsLog text log bytes
    go (Err f) read h = refused f (first_fault text f read) h
    go (Ok a) read h =
        let t = tables_of greatest (items_in (sentences text)) in
        let k = takes_ok text greatest a t read refl in
        let c = k.0 in
        let l = h.0 in
        let x = h.1 in
        let s = h.2 in
        let chart = chart_is text c a t l k.3 x.text_is x.answer_is x.holds in
        let taken = subst (λ (L : List (List Event)). TakenOf free L log s.entries) chart s.taken in
        answers c k.1 k.2
        (record {
          said = s.said;
          answered = subst (λ (L : List (List Event)). LogAnswered free L log s.said) chart s.answered;
          entries = s.entries;
          taken = taken;
          steps = step_lines l [] (instances_of s.entries);
          tells = steps_told text c a t l k.3 x.text_is x.answer_is x.holds [] (instances_of s.entries) (may_each free (lists_of c) log s.entries taken);
          bytes_are = s.bytes_are;
        })
