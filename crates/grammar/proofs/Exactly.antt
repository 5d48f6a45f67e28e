-- A text writes exactly the chart that is read of it.
use Rattle.std.proofs.Common.{◌≡◌, ℕ, List, [], flat_map, Ok, refl, sym, ap, ◌∙◌, subst, arith}
use Rattle.words.specs.Sentences.{Placed, sentences}
use Rattle.items.specs.Parsing.{title_in}
use Rattle.grammar.specs.Texts.{ChartText}
use Rattle.grammar.specs.Pieces.{sentence_pieces, chart_sentences}
use Rattle.grammar.specs.Spelling.{Spells}
use Rattle.grammar.specs.Writing.{Writes}
use Rattle.grammar.specs.Charts.{chart_by}
use Rattle.grammar.specs.Exact.{items_after, Reads, EveryText}
use Rattle.grammar.proofs.Scanned.{spells_lexed}
use Rattle.grammar.proofs.Spelled.{lexed_spells}
use Rattle.grammar.proofs.Saying.{Says, says_lexed, lexed_says}
use Rattle.grammar.proofs.Found.{was_found}
use Rattle.grammar.proofs.Read.{chart_read}

-- a text whose sentences are of these words spells them, and the other way round
spelled : (text : List ℕ) (vss : List (List (List ℕ))) → Says (sentences text) vss → Spells text (flat_map sentence_pieces vss)
spelled text vss h = let l = says_lexed (sentences text) vss h in subst (Spells text) l.pieces (lexed_spells text 0 [] refl (omega arith) l.whole)

says : (text : List ℕ) (vss : List (List (List ℕ))) → Spells text (flat_map sentence_pieces vss) → Says (sentences text) vss
says text vss h = lexed_says vss (sentences text) (spells_lexed text (flat_map sentence_pieces vss) h 0)

-- a text that is read without a fault writes the chart that was read
pub sound : (text : List ℕ) (t : Placed) → title_in (sentences text) ≡ Ok t → (items_after text).outcome ≡ Ok tt → Writes text (chart_by t (items_after text).items)
sound text t titled ended =
    let f = was_found (sentences text) t titled ended in
    record { spelled = spelled text (chart_sentences (chart_by t (items_after text).items)) f.says; named = f.named }

-- a text that writes a chart is read without a fault, as that chart
pub complete : (text : List ℕ) (c : ChartText) → Writes text c → Reads text c
complete text c w =
    let r = chart_read c w.named (sentences text) (says text (chart_sentences c) w.spelled) in
    record { title = r.title; titled = r.titled; ended = r.outcome; chart = r.chart }

-- a text writes one chart at most
pub unique : (text : List ℕ) (c d : ChartText) → Writes text c → Writes text d → c ≡ d
unique text c d wc wd =
    let rc = complete text c wc in
    let rd = complete text d wd in
    let same : rc.title ≡ rd.title = (let e = sym rc.titled ∙ rd.titled in cc) in
    rc.chart ∙ ap (λ (t : Placed). chart_by t (items_after text).items) same ∙ sym rd.chart

pub exact : EveryText
exact text =
    record {
      sound = λ c r. subst (Writes text) (sym r.chart) (sound text r.title r.titled r.ended);
      complete = complete text;
      unique = unique text;
    }
