use Rattle.std.proofs.Common.{rules, sym, ◌∙◌, refl}
use Rattle.words.specs.Sentences.{sentences}
use Rattle.items.specs.Parsing.{items_left}
use Rattle.items.specs.Surveys.{items_in}
use Rattle.texts.specs.Directories.{named_in}
use Rattle.texts.proofs.Filled.{are_bytes, drafting_none, drafting_row, drafting_more, drafting_unknown, fills_by}
use Rattle.texts.proofs.filling.fill_tables.Goals as goal

pub loop-item-init : goal.loop-item-init
loop-item-init c =
    drafting_none (named_in (items_in (sentences c.args.text.now))) (sentences c.args.text.now) (items_left c.in_ok-parser.parser) _ c.args.lengths.now c.args.events.now c.requires.whole
    c.in_ok-parser.ensures.begins.1 c.requires.no_lengths c.requires.no_events refl

pub take-requires-clause-row : goal.take-requires-clause-row
take-requires-clause-row c =
    let l = c.loop-item in
    drafting_row (named_in (items_in (sentences c.args.text.now))) (items_in (sentences c.args.text.now)) (items_left l.parser) (items_left c.next.new.self) l.filling l.lengths l.events _ _ l.invariant
    c.in_ok-item.item c.in_ok-item.ensures.reads c.requires.length_rows c.requires.event_rows

pub take-requires-clause-bytes : goal.take-requires-clause-bytes
take-requires-clause-bytes c = are_bytes c.args.directory.now.instances (named_in (items_in (sentences c.args.text.now))).instances c.requires.knows.instances c.requires.few_instances

pub loop-item-preserved : goal.loop-item-preserved
loop-item-preserved c =
    let l = c.loop-item in
    let s = named_in (items_in (sentences c.args.text.now)) in
    let taken = c.in_ok-take.ensures.writes s l.invariant.draft c.requires.knows l.invariant.written in
    drafting_more s (items_in (sentences c.args.text.now)) (items_left l.parser) (items_left c.next.new.self) l.filling l.lengths l.events _ _ l.invariant c.in_ok-item.item c.in_ok-item.ensures.reads
    (sym c.is_end.ensures ∙ c.if-is_end.false) taken.0 c.take.new.self c.take.new.lengths c.take.new.events taken.1 c.take.ensures.length_room c.take.ensures.event_room

pub returns-in_err-take-clause-fills : goal.returns-in_err-take-clause-fills
returns-in_err-take-clause-fills c =
    let l = c.loop-item in
    let s = named_in (items_in (sentences c.args.text.now)) in
    let refused = c.in_err-take.ensures.writes s l.invariant.draft c.requires.knows l.invariant.written in
    fills_by s (items_in (sentences c.args.text.now)) _ _ _ _ c.in_err-take.field-0.0 c.from_residual-in_err-take.result (search rules)
    (drafting_unknown s (items_in (sentences c.args.text.now)) (items_left l.parser) (items_left c.next.new.self) l.filling l.lengths l.events _ _ l.invariant c.in_ok-item.item c.in_ok-item.ensures.reads
    c.in_err-take.field-0.0 refused)
