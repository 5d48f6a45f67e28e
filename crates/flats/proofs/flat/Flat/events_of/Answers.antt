use Rattle.std.proofs.Common.{◌≡◌, ℕ, ◌+◌, ◌-◌, ◌<◌, List, get_or, take, drop, Ok, vec_items, vec_len, ap, ◌∙◌, arith}
use Rattle.std.proofs.lemmas.List.{get_or_read}
use Rattle.charts.specs.declared.parts.Event.{Event}
use Rattle.charts.specs.declared.parts.Summary.{Summary}
use Rattle.flats.specs.declared.columns.Column.{Column}
use Rattle.flats.specs.declared.flat.Flat.{Flat}
use Rattle.flats.specs.FlatLists.{no_column, counts, flat_lists}
use Rattle.flats.proofs.Held.{Holds, holds, past}
use Rattle.flats.proofs.flat.Flat.events_of.Goals as goal

-- what the column that was read holds
held : (x : Flat) (i : ℕ) (s : Summary) (c : Column) → x.verdict ≡ Ok s → i < vec_len x.columns → c ≡ get_or (vec_items x.columns) i c →
    Holds c (vec_items x.events) (flat_lists x.verdict (counts (vec_items x.columns)) (vec_items x.events)) i
held x i s c e h is =
    let cs = vec_items x.columns in
    holds cs (vec_items x.events) i x.verdict s c e x.placed x.judged (omega arith) (get_or_read cs i c (omega arith) is no_column)

pub overflow_add-result : goal.overflow_add-result
overflow_add-result c =
    let h = held c.args.self.now c.args.i c.in-Ok.field-0 c.index.result.now c.in-Ok.is (omega arith) c.index.ensures in
    omega arith

pub offset_bounds-as_slice-start : goal.offset_bounds-as_slice-start
offset_bounds-as_slice-start c =
    let h = held c.args.self.now c.args.i c.in-Ok.field-0 c.index.result.now c.in-Ok.is (omega arith) c.index.ensures in
    omega arith

pub slice_bounds-result-end : goal.slice_bounds-result-end
slice_bounds-result-end c =
    let h = held c.args.self.now c.args.i c.in-Ok.field-0 c.index.result.now c.in-Ok.is (omega arith) c.index.ensures in
    omega arith

pub returns-in-Ok : goal.returns-in-Ok
returns-in-Ok c =
    let h = held c.args.self.now c.args.i c.in-Ok.field-0 c.index.result.now c.in-Ok.is (omega arith) c.index.ensures in
    let start = c.index.result.now.start in
    let count = c.index.result.now.count in
    let n : start + count - start ≡ count = omega arith in
    ap (λ (x : ℕ). take x (drop start c.as_slice.result.now)) n ∙ ap (λ (es : List Event). take count (drop start es)) c.as_slice.ensures.value ∙ h.has

pub returns-in-Ok-2 : goal.returns-in-Ok-2
returns-in-Ok-2 c =
    let x = c.args.self.now in
    past (vec_items x.columns) (vec_items x.events) c.args.i x.verdict c.in-Ok-2.field-0 c.in-Ok-2.is x.judged (omega arith)
