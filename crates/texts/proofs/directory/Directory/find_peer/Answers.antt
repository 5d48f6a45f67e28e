use Rattle.std.proofs.Common.{Option, ap, sym, ◌∙◌}
use Rattle.words.specs.declared.parts.Word.{Word}
use Rattle.words.specs.Reading.{placed}
use Rattle.sentences.specs.Events.{placed_peer}
use Rattle.texts.specs.Drafts.{unknown_in}
use Rattle.texts.proofs.Resolved.{peer_unknown}
use Rattle.texts.proofs.directory.Directory.find_peer.Goals as goal

pub returns-in-None : goal.returns-in-None
returns-in-None c = λ ns l. (
  placed c.in-Some.word,
  ap (λ (p : Option Word). unknown_in ns (placed_peer p)) c.in-Some.is ∙ peer_unknown c.args.self.now.instances ns c.in-Some.word l (sym c.find.ensures ∙ c.in-None.is),
  c.at.ensures,
)
