use Rattle.std.proofs.Common.{◌+◌, take, [], ◌∷◌, ◌++◌, refl, sym, ap, ◌∙◌, subst, arith}
use Rattle.words.specs.Sentences.{sentences}
use Rattle.words.specs.Reading.{placed}
use Rattle.items.specs.declared.tally.Tally.{Tally}
use Rattle.items.specs.Surveys.{items_in, names_in}
use Rattle.items.specs.Known.{Knows}
use Rattle.items.proofs.Holding.{names_few, events_few, took_instance, took_event, took_end}
use Rattle.items.proofs.tally.Tally.take.Goals as goal
use Rattle.items.proofs.tally.Tally.take.Goals.{in-Instance+else-is_repeated, in-Event, in-InstanceEnd}

pub overflow_add-self : goal.overflow_add-self
overflow_add-self c =
    let n = names_few (take c.args.self.now.read (items_in (sentences c.args.text.now))) in
    let h = c.requires.holds.instances in
    let f = c.requires.fits in
    omega arith

pub overflow_add-self-in-Event : goal.overflow_add-self-in-Event
overflow_add-self-in-Event c =
    let n = events_few (take c.args.self.now.read (items_in (sentences c.args.text.now))) in
    let h = c.requires.holds.events in
    let f = c.requires.fits in
    omega arith

pub returns : goal.returns
returns c =
    let t = c.args.self.now in
    let done = take t.read (items_in (sentences c.args.text.now)) in
    elim c.match-item.branch [
      | in-Instance+else-is_repeated w ↦
          took_instance t _ done c.args.item c.requires.holds (ap (λ (x : Tally). x.read + 1) w.self-is) w.in-Instance.name w.in-Instance.is
          (sym w.is_repeated.ensures.repeated ∙ w.if-is_repeated.false)
          (subst (λ (x : Tally). Knows x.names (names_in done ++ (placed w.in-Instance.name ∷ []))) (sym w.self-is) (w.is_repeated.ensures.knows w.if-is_repeated.false (placed w.in-Instance.name) refl))
          (ap (λ (x : Tally). x.instances) w.self-is) (ap (λ (x : Tally). x.events) w.self-is)
      | in-Event w ↦
          took_event t _ done c.args.item c.requires.holds (ap (λ (x : Tally). x.read + 1) w.self-is) w.in-Event.field-0 w.in-Event.is
          (ap (λ (x : Tally). x.names) w.self-is) (ap (λ (x : Tally). x.instances) w.self-is) (ap (λ (x : Tally). x.events) w.self-is)
      | in-InstanceEnd w ↦
          took_end t _ done c.args.item c.requires.holds (ap (λ (x : Tally). x.read + 1) w.self-is) w.in-InstanceEnd.is
          (ap (λ (x : Tally). x.names) w.self-is) (ap (λ (x : Tally). x.instances) w.self-is) (ap (λ (x : Tally). x.events) w.self-is)
    ]
