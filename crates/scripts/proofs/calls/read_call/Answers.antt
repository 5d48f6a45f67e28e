use Rattle.std.proofs.Common.{◌≡◌, ℕ, List, codes, sym, ap, ◌∙◌, rules, arith}
use Rattle.std.proofs.lemmas.Slice.Eq.{text_from_reads}
use Rattle.tabletexts.specs.Pieces.{pieces_after}
use Rattle.scripts.specs.Calls.{call_by}
use Rattle.scripts.proofs.calls.read_call.Goals as goal

pub returns-in-restart : goal.returns-in-restart
returns-in-restart c =
    let is : c.args.word.now ≡ codes "restart" = text_from_reads _ _ (omega arith) (search rules) in
    c.alone.ensures ∙ ap (λ (w : List ℕ). call_by w (pieces_after 32 c.args.operands)) (sym is)

pub returns-in-latest : goal.returns-in-latest
returns-in-latest c =
    let is : c.args.word.now ≡ codes "latest" = text_from_reads _ _ (omega arith) (search rules) in
    c.read_latest.ensures ∙ ap (λ (w : List ℕ). call_by w (pieces_after 32 c.args.operands)) (sym is)
