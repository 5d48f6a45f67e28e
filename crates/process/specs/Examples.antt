-- The worked examples of Z.120 Annex B (Examples B.4.4.2 and B.4.4.7), without parameters.
use Rattle.std.specs.Prelude.{ℕ, List, [], ◌∷◌, ◌≢◌}
use Rattle.charts.specs.declared.parts.Event.{Event}
use Rattle.charts.specs.Events.{event, output, input}
use Rattle.process.specs.Actions.{out, «in»}
use Rattle.process.specs.Processes.{none, with_message, Process, ε, δ, act, ◌⊕◌, ◌·◌, ◌‖◌, √, filter}
use Rattle.process.specs.Equations.{◌≈◌}
use Rattle.process.specs.ChartProcess.{merge, chart}

-- lines of a calculation: each is derivably equal to the one before
abbrev pub Calculation : Process → List Process → Type 0
Calculation x [] = Unit {0}
Calculation x (y ∷ lines) = (x ≈ y) × Calculation y lines

-- Example B.4.4.2, of the output o and the input n of message m from instance i to instance j
abbrev pub OutputThenInput : ℕ → ℕ → ℕ → Type 0
OutputThenInput i j m =
    let o = act (out i j m) in
    let n = act («in» i j m) in
    Calculation (filter none (o · n)) (o · filter (with_message none m) n ∷ o · n · filter none ε ∷ o · n ∷ [])

-- an input before its output is deadlock
abbrev pub InputThenOutput : ℕ → ℕ → ℕ → Type 0
InputThenOutput i j m =
    let o = act (out i j m) in
    let n = act («in» i j m) in
    Calculation (filter none (n · o)) (δ ∷ [])

-- merged, the output comes first
abbrev pub OutputMergedWithInput : ℕ → ℕ → ℕ → Type 0
OutputMergedWithInput i j m =
    let o = act (out i j m) in
    let n = act («in» i j m) in
    Calculation (filter none (o ‖ n))
    (filter none (o · n ⊕ n · o ⊕ √ o · √ n) ∷ filter none (o · n) ⊕ filter none (n · o) ⊕ δ ∷ o · n ⊕ δ ⊕ δ ∷ o · n ∷ [])

-- Example B.4.4.7: instance 0 outputs m to instance 1 and n to instance 2, which input them
abbrev pub three_instances : ℕ → ℕ → List (List Event)
three_instances m n = (event output 1 m ∷ event output 2 n ∷ []) ∷ (event input 0 m ∷ []) ∷ (event input 0 n ∷ []) ∷ []

-- the merge of the instances, and the process of the chart
abbrev pub ThreeInstancesMerged : ℕ → ℕ → Type 0
ThreeInstancesMerged m n =
    let out_m = act (out 0 1 m) in
    let out_n = act (out 0 2 n) in
    let in_m = act («in» 0 1 m) in
    let in_n = act («in» 0 2 n) in
    merge 0 (three_instances m n) ≈
    out_m · (in_m · (out_n · in_n ⊕ in_n · out_n) ⊕ out_n · (in_m · in_n ⊕ in_n · in_m) ⊕ in_n · (in_m · out_n ⊕ out_n · in_m)) ⊕
    in_m · (out_m · (in_n · out_n ⊕ out_n · in_n) ⊕ in_n · out_m · out_n) ⊕
    in_n · (out_m · (in_m · out_n ⊕ out_n · in_m) ⊕ in_m · out_m · out_n)

-- of the chart each message is output before it is input
abbrev pub ThreeInstancesChart : ℕ → ℕ → Type 0
ThreeInstancesChart m n =
    let out_m = act (out 0 1 m) in
    let out_n = act (out 0 2 n) in
    let in_m = act («in» 0 1 m) in
    let in_n = act («in» 0 2 n) in
    chart (three_instances m n) ≈ out_m · (in_m · out_n · in_n ⊕ out_n · (in_m · in_n ⊕ in_n · in_m))

pub record Examples : Type 0 where
  pub output_then_input : (i j m : ℕ) → OutputThenInput i j m
  pub input_then_output : (i j m : ℕ) → InputThenOutput i j m
  pub output_merged_with_input : (i j m : ℕ) → OutputMergedWithInput i j m
  pub three_instances_merged : (m n : ℕ) → ThreeInstancesMerged m n
  pub three_instances_chart : (m n : ℕ) → (m ≢ n) → ThreeInstancesChart m n
