-- What is written one after another, and words with numbers behind them.
use Rattle.std.proofs.Common.{◌≡◌, ℕ, ◌+◌, ◌<◌, ◌≤◌, ◌-◌, List, [], ◌∷◌, ◌++◌, length, get_or, take, drop, map, codes, decimal, flat_map, sym, ap, ◌∙◌}
use Rattle.std.proofs.lemmas.List.{append-nil, append_assoc, drop_all, drop_more, flat_map_more, take_more}
use Rattle.std.proofs.Output.{has_written_append, has_written_of_eq}
use Rattle.std.specs.Fmt.{HasWritten}
use Rattle.std.specs.declared.fmt.Formatter.{Formatter}
use Rattle.charts.specs.Texts.{spaced}
use Rattle.runs.specs.declared.calls.Turn.{Turn}
use Rattle.plays.specs.declared.parts.Log.{Log}
use Rattle.replies.specs.AnswerLines.{each_after_a_space}
use Rattle.replies.specs.TurnLines.{turn_lines}
use Rattle.replies.specs.ScriptLines.{checked, lines_from}

-- one item more
pub written_more : {W X : Type 0} (took : W → List ℕ → W → Type 0) (one : X → List ℕ) (f g h : Formatter W) (k : ℕ) (xs : List X) (d : X) →
    HasWritten took f (flat_map one (take k xs)) g → HasWritten took g (one (get_or xs k d)) h → k < length xs → HasWritten took f (flat_map one (take (k + 1) xs)) h
written_more took one f g h k xs d p q l =
    let more = ap (flat_map one) (take_more xs k d l) ∙ sym (flat_map_more one [] (take k xs) (get_or xs k d)) in
    has_written_of_eq took f _ _ h (sym more) (has_written_append took f _ g _ h p q)

-- a word, and numbers with a space before each
pub word_before : (w : List ℕ) (ns : List ℕ) → spaced (w ∷ map decimal ns) ≡ w ++ each_after_a_space ns
word_before w [] = sym (append-nil w)
word_before w (n ∷ ns) =
    ap (λ bs. w ++ (codes " " ++ bs)) (word_before (decimal n) ns) ∙ ap (λ bs. w ++ bs) (sym (append_assoc (codes " ") (decimal n) (each_after_a_space ns)))

-- the lines of a script, of which those from some of its turns and logs on are left
module _ {W : Type 0} (took : W → List ℕ → W → Type 0) (f : Formatter W) (whole : List ℕ) where
  -- what was written is what comes before the lines of the turns ts and the logs xs
  abbrev pub Before : Formatter W → ℕ → List Turn → List Log → Type 0
  Before g n ts xs = (w : List ℕ) × HasWritten took f w g × (w ++ lines_from n ts xs ≡ whole)

  pub log_more : (g h : Formatter W) (n k : ℕ) (ts before behind : List Turn) (xs : List Log) (x : Log) → Before g n ts (drop k xs) → k < length xs → x ≡ get_or xs k x →
      HasWritten took g (turn_lines before ++ checked x.answer) h → before ≡ take (x.after - n) ts → behind ≡ drop (x.after - n) ts → Before h x.after behind (drop (k + 1) xs)
  log_more g h n k ts before behind xs x p l at q is goes =
      let bs = turn_lines before in
      let cs = checked x.answer in
      let R = lines_from x.after behind (drop (k + 1) xs) in (
        p.0 ++ (bs ++ cs),
        has_written_append took f p.0 g (bs ++ cs) h p.1 q,
        append_assoc p.0 (bs ++ cs) R
            ∙ ap (λ (zs : List Turn). p.0 ++ ((turn_lines zs ++ cs) ++ R)) is
            ∙ ap (λ (zs : List Turn). p.0 ++ ((turn_lines (take (x.after - n) ts) ++ cs) ++ lines_from x.after zs (drop (k + 1) xs))) goes
            ∙ ap (λ (zs : List Log). p.0 ++ lines_from n ts zs) (sym (drop_more xs k x l ∙ ap (λ (z : Log). z ∷ drop (k + 1) xs) (sym at)))
            ∙ p.2,
      )

  pub logs_done : (g h : Formatter W) (n k : ℕ) (ts : List Turn) (xs : List Log) → Before g n ts (drop k xs) → length xs ≤ k → HasWritten took g (turn_lines ts) h → HasWritten took f whole h
  logs_done g h n k ts xs p l q =
      has_written_of_eq took f _ _ h (ap (λ (zs : List Log). p.0 ++ lines_from n ts zs) (sym (drop_all k xs l)) ∙ p.2) (has_written_append took f p.0 g (turn_lines ts) h p.1 q)
