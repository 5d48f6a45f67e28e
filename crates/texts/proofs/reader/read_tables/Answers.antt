use Rattle.std.proofs.Common.{◌≤◌, Ok, rules, sym, ap, ◌∙◌, arith}
use Rattle.words.specs.Sentences.{sentences}
use Rattle.items.specs.Surveys.{size_of, items_in}
use Rattle.texts.specs.Directories.{named_in}
use Rattle.texts.proofs.Tabled.{peer_refused, chart_refused, answered, tables_are, refuses_by, answer_by}
use Rattle.texts.specs.Readings.{Answer, rooms, tables}
use Rattle.texts.proofs.Sized.{sized_text}
use Rattle.texts.proofs.Answering.{few_names, length_rows, event_rows, short_lengths, short_events}
use Rattle.texts.proofs.reader.read_tables.Goals as goal
use Rattle.texts.proofs.reader.read_tables.Goals.{then-size-lengths-via-then-size-lengths, then-size-lengths-via-else-size-lengths+then-size-events}

pub returns-then-size-lengths-clause-reads : goal.returns-then-size-lengths-clause-reads
returns-then-size-lengths-clause-reads c =
    let ss = sentences c.args.text.now in
    let size = size_of c.in_ok-size.size in
    let surveys = c.in_ok-size.ensures.surveys in
    let s = sized_text ss size surveys in
    let r = rooms (tables c.args.lengths.now c.args.events.now c.args.instances.now c.args.messages.now c.args.actions.now) in
    elim c.then-size-lengths.branch [
      | then-size-lengths-via-then-size-lengths w ↦ short_lengths ss size surveys s r (let x = w.if-size-lengths in omega arith)
      | then-size-lengths-via-else-size-lengths+then-size-events w ↦ short_events ss size surveys s r (let x = w.if-size-events in omega arith)
    ]

pub fill_tables-requires-clause-few_instances : goal.fill_tables-requires-clause-few_instances
fill_tables-requires-clause-few_instances c =
    let ss = sentences c.args.text.now in
    let size = size_of c.in_ok-size.size in
    let surveys = c.in_ok-size.ensures.surveys in
    let r = rooms (tables c.args.lengths.now c.args.events.now c.args.instances.now c.args.messages.now c.args.actions.now) in
    few_names ss size surveys (sized_text ss size surveys) r

pub fill_tables-requires-clause-length_rows : goal.fill_tables-requires-clause-length_rows
fill_tables-requires-clause-length_rows c =
    let ss = sentences c.args.text.now in
    let size = size_of c.in_ok-size.size in
    let surveys = c.in_ok-size.ensures.surveys in
    let r = rooms (tables c.args.lengths.now c.args.events.now c.args.instances.now c.args.messages.now c.args.actions.now) in
    length_rows ss size surveys (sized_text ss size surveys) r (let x = c.if-size-lengths.false in omega arith)

pub fill_tables-requires-clause-event_rows : goal.fill_tables-requires-clause-event_rows
fill_tables-requires-clause-event_rows c =
    let ss = sentences c.args.text.now in
    let size = size_of c.in_ok-size.size in
    let surveys = c.in_ok-size.ensures.surveys in
    let r = rooms (tables c.args.lengths.now c.args.events.now c.args.instances.now c.args.messages.now c.args.actions.now) in
    event_rows ss size surveys (sized_text ss size surveys) r (let x = c.if-size-events.false in omega arith)

pub returns-in_err-fill_tables-clause-reads : goal.returns-in_err-fill_tables-clause-reads
returns-in_err-fill_tables-clause-reads c =
    let ss = sentences c.args.text.now in
    let size = size_of c.in_ok-size.size in
    let surveys = c.in_ok-size.ensures.surveys in
    let r = rooms (tables c.args.lengths.now c.args.events.now c.args.instances.now c.args.messages.now c.args.actions.now) in
    let names = c.list_names in
    refuses_by ss r (tables c.fill_tables.new.lengths c.fill_tables.new.events names.new.instances names.new.messages names.new.actions) c.in_err-fill_tables.field-0.0 c.from_residual-in_err-fill_tables.result (search rules)
    (peer_refused ss size surveys (sized_text ss size surveys) r c.in_ok-directory.directory names.new.instances names.new.messages names.new.actions c.in_ok-directory.ensures.lists names.ensures.instance_room
    names.ensures.message_room names.ensures.action_room (let x = c.if-size-lengths.false in omega arith) (let x = c.if-size-events.false in omega arith) c.in_err-fill_tables.field-0.0 c.in_err-fill_tables.ensures.fills)

pub returns-in_err-check_chart-clause-reads : goal.returns-in_err-check_chart-clause-reads
returns-in_err-check_chart-clause-reads c =
    let ss = sentences c.args.text.now in
    let size = size_of c.in_ok-size.size in
    let surveys = c.in_ok-size.ensures.surveys in
    let r = rooms (tables c.args.lengths.now c.args.events.now c.args.instances.now c.args.messages.now c.args.actions.now) in
    let names = c.list_names in
    refuses_by ss r (tables c.fill_tables.new.lengths c.fill_tables.new.events names.new.instances names.new.messages names.new.actions) c.in_err-check_chart.field-0.0 c.from_residual-in_err-check_chart.result (search rules)
    (chart_refused ss size surveys (sized_text ss size surveys) r c.in_ok-directory.directory names.new.instances names.new.messages names.new.actions c.in_ok-directory.ensures.lists names.ensures.instance_room
    names.ensures.message_room names.ensures.action_room (let x = c.if-size-lengths.false in omega arith) (let x = c.if-size-events.false in omega arith) c.fill_tables.new.lengths c.fill_tables.new.events
    c.in_ok-fill_tables.ensures.fills c.in_err-check_chart.field-0.0 c.in_err-check_chart.ensures)

pub returns-clause-reads : goal.returns-clause-reads
returns-clause-reads c =
    let ss = sentences c.args.text.now in
    let size = size_of c.in_ok-size.size in
    let surveys = c.in_ok-size.ensures.surveys in
    let s = sized_text ss size surveys in
    let r = rooms (tables c.args.lengths.now c.args.events.now c.args.instances.now c.args.messages.now c.args.actions.now) in
    let names = c.list_names in
    let holds = c.in_ok-directory.ensures.lists in
    let few_lengths : size.instances ≤ r.lengths = (let x = c.if-size-lengths.false in omega arith) in
    let few_events : size.events ≤ r.events = (let x = c.if-size-events.false in omega arith) in (
      answered ss size surveys s r c.in_ok-directory.directory names.new.instances names.new.messages names.new.actions holds names.ensures.instance_room
          names.ensures.message_room names.ensures.action_room few_lengths few_events c.fill_tables.new.lengths c.fill_tables.new.events c.in_ok-fill_tables.ensures.fills c.in_ok-check_chart.ensures
          ∙ ap (λ (x : Answer). Ok x) (answer_by size (named_in (items_in ss)) _ _ (sym (c.len.ensures.value ∙ holds.messages.index.count)) (sym (c.len-2.ensures.value ∙ holds.actions.index.count))),
      tables_are ss size surveys s r c.in_ok-directory.directory names.new.instances names.new.messages names.new.actions holds names.ensures.instance_room
          names.ensures.message_room names.ensures.action_room few_lengths few_events c.fill_tables.new.lengths c.fill_tables.new.events c.in_ok-fill_tables.ensures.fills,
    )
