use Rattle.std.proofs.Common.{rules, sym, ◌∙◌}
use Rattle.words.specs.Sentences.{sentences}
use Rattle.items.specs.Parsing.{items_left}
use Rattle.items.specs.Surveys.{items_in}
use Rattle.texts.specs.Directories.{named_in}
use Rattle.texts.proofs.Listed.{listing_none, listing_more, listing_short, one_more_few, lists_by}
use Rattle.texts.proofs.listing.list_names.Goals as goal

pub loop-item-init : goal.loop-item-init
loop-item-init c =
    listing_none (sentences c.args.text.now) (items_left c.in_ok-parser.parser) c.new-directory.result c.args.instances.now c.args.messages.now c.args.actions.now c.requires.whole
    c.in_ok-parser.ensures.begins.1 c.requires.no_instances c.requires.no_messages c.requires.no_actions c.new-directory.ensures

pub loop-item-preserved : goal.loop-item-preserved
loop-item-preserved c =
    let l = c.loop-item in
    let other = sym c.is_end.ensures ∙ c.if-is_end.false in
    let few = one_more_few (items_in (sentences c.args.text.now)) (items_left l.parser) (items_left c.next.new.self) l.directory l.instances l.messages l.actions _ _ _ l.invariant c.in_ok-item.item c.in_ok-item.ensures.reads other in
    listing_more (items_in (sentences c.args.text.now)) (items_left l.parser) (items_left c.next.new.self) l.directory l.instances l.messages l.actions _ _ _ l.invariant c.in_ok-item.item c.in_ok-item.ensures.reads other
    c.note.new.self c.note.new.instances c.note.new.messages c.note.new.actions (c.in_ok-note.ensures.notes l.invariant.seen few l.invariant.holds) c.note.ensures.instance_room c.note.ensures.message_room c.note.ensures.action_room

pub returns-in_err-note-clause-lists : goal.returns-in_err-note-clause-lists
returns-in_err-note-clause-lists c =
    let l = c.loop-item in
    let other = sym c.is_end.ensures ∙ c.if-is_end.false in
    let few = one_more_few (items_in (sentences c.args.text.now)) (items_left l.parser) (items_left c.next.new.self) l.directory l.instances l.messages l.actions _ _ _ l.invariant c.in_ok-item.item c.in_ok-item.ensures.reads other in
    let refused = c.in_err-note.ensures.notes l.invariant.seen few l.invariant.holds in
    lists_by (named_in (items_in (sentences c.args.text.now))) _ _ _ _ _ _ c.in_err-note.field-0.0 c.from_residual-in_err-note.result (search rules) refused.0
    (listing_short (items_in (sentences c.args.text.now)) (items_left l.parser) (items_left c.next.new.self) l.directory l.instances l.messages l.actions _ _ _ l.invariant c.in_ok-item.item c.in_ok-item.ensures.reads other refused.1)
