use Rattle.std.proofs.Common.{[], take, Ok, refl, ap, arith}
use Rattle.runs.specs.declared.parts.Verdict.{Verdict}
use Rattle.verdicts.specs.Judging.{runs_by, stuck_by}
use Rattle.verdicts.proofs.Judged.{table_sound, judge_told, runs_full, stuck_ring, never_refused}
use Rattle.verdicts.proofs.charted.Charted.judge.Goals as goal

pub stuck-requires : goal.stuck-requires
stuck-requires c =
    let s = c.args.self.now in
    let ns = take s.width s.lengths in
    let es = take s.count s.events in
    let t = c.table.ensures in
    let n = c.new.ensures in
    let a = judge_told ns _ es _ t.lengths t.events s.sound _ _ n.fault n.lists _ c.judge.new.buffer _ (c.in-Ok-Stuck.ensures.tells [] n.stands) _ (ap (λ (v : Verdict). Ok v) c.in-Ok-Stuck.field-0-is) in
    (stuck_ring _ (table_sound ns es s.sound) _ c.judge.new.buffer c.in-Ok-Stuck.length a).few

pub unreachable-requires : goal.unreachable-requires
unreachable-requires c =
    let s = c.args.self.now in
    let ns = take s.width s.lengths in
    let es = take s.count s.events in
    let t = c.table.ensures in
    let n = c.new.ensures in
    let a = judge_told ns _ es _ t.lengths t.events s.sound _ _ n.fault n.lists _ c.judge.new.buffer _ (c.in-Err.ensures.tells [] n.stands) _ refl in
    never_refused _ (table_sound ns es s.sound) _ c.judge.new.buffer c.in-Err.field-0 (omega arith) a

pub returns-in-Ok-Runs : goal.returns-in-Ok-Runs
returns-in-Ok-Runs c =
    let s = c.args.self.now in
    let ns = take s.width s.lengths in
    let es = take s.count s.events in
    let t = c.table.ensures in
    let n = c.new.ensures in
    let a = judge_told ns _ es _ t.lengths t.events s.sound _ _ n.fault n.lists _ c.judge.new.buffer _ (c.in-Ok-Runs.ensures.tells [] n.stands) _ (ap (λ (v : Verdict). Ok v) c.in-Ok-Runs.field-0-is) in
    let f = runs_full _ (table_sound ns es s.sound) _ c.judge.new.buffer c.in-Ok-Runs.field-0-0 a in
    runs_by f.0 f.1 c.runs.ensures

pub returns-in-Ok-Stuck : goal.returns-in-Ok-Stuck
returns-in-Ok-Stuck c =
    let s = c.args.self.now in
    let ns = take s.width s.lengths in
    let es = take s.count s.events in
    let t = c.table.ensures in
    let n = c.new.ensures in
    let a = judge_told ns _ es _ t.lengths t.events s.sound _ _ n.fault n.lists _ c.judge.new.buffer _ (c.in-Ok-Stuck.ensures.tells [] n.stands) _ (ap (λ (v : Verdict). Ok v) c.in-Ok-Stuck.field-0-is) in
    stuck_by (take c.in-Ok-Stuck.length c.judge.new.buffer) (stuck_ring _ (table_sound ns es s.sound) _ c.judge.new.buffer c.in-Ok-Stuck.length a).stuck c.stuck.ensures
