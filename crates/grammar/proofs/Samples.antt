-- Small texts, with the charts that they write, and texts that write none.
use Rattle.std.proofs.Common.{[], ◌∷◌, Some, None, refl, codes}
use Rattle.grammar.specs.Texts.{outputs, inputs, acts, ChartText}
use Rattle.grammar.specs.Spelling.{nothing, then_semicolon, then_word}
use Rattle.grammar.specs.Writing.{Writes}
use Rattle.grammar.proofs.Exactly.{complete}
use Rattle.grammar.proofs.Plainly.{plain_writes}

-- the smallest text, piece by piece
pub empty_chart : Writes (codes "msc c;endmsc;") (record { title = codes "c"; instances = [] })
empty_chart =
    record {
      spelled =
          then_word [] (codes "msc") (codes " c;endmsc;") refl refl refl refl
          (then_word (codes " ") (codes "c") (codes ";endmsc;") refl refl refl refl
          (then_semicolon [] (codes "endmsc;") refl refl
          (then_word [] (codes "endmsc") (codes ";") refl refl refl refl (then_semicolon [] [] refl refl (nothing refl)))));
      named = refl;
    }

-- one event of each kind
pub small_chart :
    Writes (codes " msc c; instance a; out m to b; in k from env; action x; endinstance; endmsc;")
    (record { title = codes "c"; instances = record { name = codes "a"; events = outputs (codes "m") (Some (codes "b")) ∷ inputs (codes "k") None ∷ acts (codes "x") ∷ [] } ∷ [] })
small_chart =
    plain_writes
    (record { title = codes "c"; instances = record { name = codes "a"; events = outputs (codes "m") (Some (codes "b")) ∷ inputs (codes "k") None ∷ acts (codes "x") ∷ [] } ∷ [] }) refl refl

-- a word of the grammar is no name
pub no_chart : (c : ChartText) → Writes (codes "msc in;endmsc;") c → ⊥
no_chart c w = let r = complete (codes "msc in;endmsc;") c w in let t = r.titled in cc

-- nothing may stand after the end
pub nothing_after : (c : ChartText) → Writes (codes "msc c;endmsc;x") c → ⊥
nothing_after c w = let r = complete (codes "msc c;endmsc;x") c w in let t = r.ended in cc
