use Rattle.std.proofs.Common.{◌≡◌, ℕ, List, codes, sym, ap, ◌∙◌, rules, arith}
use Rattle.std.proofs.lemmas.Slice.Eq.{text_from_reads}
use Rattle.tabletexts.specs.Pieces.{pieces_after}
use Rattle.scripts.specs.MediumLines.{medium_by}
use Rattle.scripts.proofs.media_lines.read_medium.Goals as goal

pub returns-in-narrow : goal.returns-in-narrow
returns-in-narrow c =
    let is : c.args.word.now ≡ codes "narrow" = text_from_reads _ _ (omega arith) (search rules) in
    c.read_narrow.ensures ∙ ap (λ (w : List ℕ). medium_by w (pieces_after 32 c.args.operands)) (sym is)
