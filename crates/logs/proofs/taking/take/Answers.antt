use Rattle.std.proofs.Common.{ℕ, [], ◌∷◌, ◌++◌, Ok, Err, refl, subst, sym}
use Rattle.runs.specs.Runs.{lists_of}
use Rattle.runs.specs.Stands.{Stands}
use Rattle.runs.specs.Steps.{StepAnswers}
use Rattle.orders.specs.May.{May}
use Rattle.logs.specs.Entries.{EntryRefused}
use Rattle.logs.proofs.Stepped.{stands_more, named, step_refused, told_sound}
use Rattle.logs.proofs.taking.take.Goals as goal

pub returns-in-Ok-clause-takes : goal.returns-in-Ok-clause-takes
returns-in-Ok-clause-takes g c h s =
    let run = c.args.run.now in
    let L = lists_of run in
    let M = g.M.Medium.carries run.medium in
    let x = c.args.entry in
    let i = c.from-i.result in
    let n = named L h x c.in-Some.event i c.from-i.ensures (c.in-Some.ensures h s) (c.if-names.ensures.0 refl) in
    let t = told_sound run.board.copy.fault (StepAnswers M L h i) (Ok c.in-Ok.field-0) c.requires (c.in-Ok.ensures.tells h s) in (
      record { names = n; may = subst (May M L h) c.from-i.ensures t.1 },
      subst (λ (j : ℕ). Stands c.step.new.self.board.rows.table (h ++ (j ∷ []))) c.from-i.ensures (stands_more run.board.rows.table c.step.new.self.board.rows.table h i s c.in-Ok.ensures.moves),
    )

pub returns-in-Err-clause-takes : goal.returns-in-Err-clause-takes
returns-in-Err-clause-takes g c h s =
    let run = c.args.run.now in
    let L = lists_of run in
    let M = g.M.Medium.carries run.medium in
    let x = c.args.entry in
    let i = c.from-i.result in
    let n = named L h x c.in-Some.event i c.from-i.ensures (c.in-Some.ensures h s) (c.if-names.ensures.0 refl) in
    let t = told_sound run.board.copy.fault (StepAnswers M L h i) (Err c.in-Err.refusal) c.requires (c.in-Err.ensures.tells h s) in
    subst (EntryRefused M L h x) (sym c.cause_of.ensures) (step_refused M L h x i c.in-Err.refusal c.from-i.ensures n t)
