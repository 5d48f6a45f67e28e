use Rattle.std.proofs.Common.{ap, rules}
use Rattle.words.specs.Sentences.{sentences}
use Rattle.texts.specs.Readings.{answer_in}
use Rattle.plays.proofs.Charting.{chart_put}
use Rattle.plays.proofs.drawing.push_chart.Goals as goal

pub returns : goal.returns
returns c =
    let read = c.in_ok-reading in
    let reads = read.ensures.reads in
    chart_put (sentences c.args.text.now) (answer_in read.reading) read.tables.lengths read.tables.events _ _ c.args.pile.now c.push.new.self
    reads.0 (ap (λ t. t.lengths) reads.1) (ap (λ t. t.events) reads.1) (search rules)
