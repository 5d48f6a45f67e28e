-- Processes that are derivably equal make the same steps, to derivably equal processes, and end alike.
use Rattle.process.specs.Actions.{out, «in»}
use Rattle.process.specs.Processes.{Messages, with_message, without_message, Process, ◌⊕◌, ◌·◌, ◌‖◌, ◌⌊◌, √, filter}
use Rattle.process.specs.Equations.{◌≈◌, A1, A2, A3, A4, A5, A6, A7, A8, A9, TM1, TM2, TM3, TM4, TM5, TE1, TE2, TE3, TE4}
use Rattle.process.specs.Equations.{LM1, LM2, LM3, LM4, LM5, LM6, LM7, LM8, LM9}
use Rattle.process.specs.Equations.{reflexive, symmetric, transitive, in_alternative, in_sequence, in_merge, in_left_merge, in_termination, in_filter}
use Rattle.process.specs.Rules.{left_ends, right_ends, both_end, merge_ends, test_ends, filter_ends}
use Rattle.process.specs.Rules.{left_steps, right_steps, first_steps, second_steps, merge_left_steps, merge_right_steps, left_merge_steps}
use Rattle.process.specs.Rules.{filter_passes, filter_sends, filter_takes}
use Rattle.process.proofs.Following.{EndsToo, StepsToo, Follows, Alike, no_step_√, no_end_⌊}
use Rattle.process.proofs.TableB7.{alike_A1, alike_A2, alike_A3, alike_A4, alike_A5, alike_A6, alike_A7, alike_A8, alike_A9, alike_TM1, alike_TM2}
use Rattle.process.proofs.TableB7.{alike_TM3, alike_TM4, alike_TM5, alike_TE1, alike_TE2, alike_TE3, alike_TE4}
use Rattle.process.proofs.TableB10.{alike_LM1, alike_LM2, alike_LM3, alike_LM4, alike_LM5, alike_LM6, alike_LM7, alike_LM8, alike_LM9}

ends_√ : (x y : Process) → EndsToo x y → EndsToo (√ x) (√ y)
ends_√ x y f (test_ends e) = test_ends (f e)

ends_filter : (M : Messages) (x y : Process) → EndsToo x y → EndsToo (filter M x) (filter M y)
ends_filter M x y f (filter_ends n e) = filter_ends n (f e)

-- each operator keeps it
module _ (x y : Process) (e : x ≈ y) (f : Follows x y) where
  module _ (u v : Process) (g : u ≈ v) (h : Follows u v) where
    ends_alternative : EndsToo (x ⊕ u) (y ⊕ v)
    ends_alternative (left_ends d) = left_ends (f.ends d)
    ends_alternative (right_ends d) = right_ends (h.ends d)

    steps_alternative : StepsToo (x ⊕ u) (y ⊕ v)
    steps_alternative a z (left_steps s) = let r = f.steps a z s in (r.0, left_steps r.1, r.2)
    steps_alternative a z (right_steps s) = let r = h.steps a z s in (r.0, right_steps r.1, r.2)

    follows_alternative : Follows (x ⊕ u) (y ⊕ v)
    follows_alternative = record { ends = ends_alternative; steps = steps_alternative }

    ends_sequence : EndsToo (x · u) (y · v)
    ends_sequence (both_end c d) = both_end (f.ends c) (h.ends d)

    steps_sequence : StepsToo (x · u) (y · v)
    steps_sequence a w (first_steps {z = z} s) = let r = f.steps a z s in (r.0 · v, first_steps r.1, in_sequence r.2 g)
    steps_sequence a w (second_steps c s) = let r = h.steps a w s in (r.0, second_steps (f.ends c) r.1, r.2)

    follows_sequence : Follows (x · u) (y · v)
    follows_sequence = record { ends = ends_sequence; steps = steps_sequence }

    ends_merge : EndsToo (x ‖ u) (y ‖ v)
    ends_merge (merge_ends c d) = merge_ends (f.ends c) (h.ends d)

    steps_merge : StepsToo (x ‖ u) (y ‖ v)
    steps_merge a w (merge_left_steps {z = z} s) = let r = f.steps a z s in (r.0 ‖ v, merge_left_steps r.1, in_merge r.2 g)
    steps_merge a w (merge_right_steps {z = z} s) = let r = h.steps a z s in (r.0 ‖ y, merge_right_steps r.1, in_merge r.2 e)

    follows_merge : Follows (x ‖ u) (y ‖ v)
    follows_merge = record { ends = ends_merge; steps = steps_merge }

    steps_left_merge : StepsToo (x ⌊ u) (y ⌊ v)
    steps_left_merge a w (left_merge_steps {z = z} s) = let r = f.steps a z s in (r.0 ‖ v, left_merge_steps r.1, in_merge r.2 g)

    follows_left_merge : Follows (x ⌊ u) (y ⌊ v)
    follows_left_merge = record { ends = λ d. absurd (no_end_⌊ x u d); steps = steps_left_merge }

  follows_termination : Follows (√ x) (√ y)
  follows_termination = record { ends = ends_√ x y f.ends; steps = λ a z s. absurd (no_step_√ x a z s) }

  steps_filter : (M : Messages) → StepsToo (filter M x) (filter M y)
  steps_filter M a w (filter_passes {z = z} p s) = let r = f.steps a z s in (filter M r.0, filter_passes p r.1, in_filter M r.2)
  steps_filter M a w (filter_sends {z = z} {i = i} {j = j} {m = m} p s) =
      let r = f.steps (out i j m) z s in (filter (with_message M m) r.0, filter_sends p r.1, in_filter (with_message M m) r.2)
  steps_filter M a w (filter_takes {z = z} {i = i} {j = j} {m = m} p s) =
      let r = f.steps («in» i j m) z s in (filter (without_message M m) r.0, filter_takes p r.1, in_filter (without_message M m) r.2)

  follows_filter : (M : Messages) → Follows (filter M x) (filter M y)
  follows_filter M = record { ends = ends_filter M x y f.ends; steps = steps_filter M }

follows_transitive : (x y z : Process) → Follows x y → Follows y z → Follows x z
follows_transitive x y z f g =
    record {
      ends = λ e. g.ends (f.ends e);
      steps = λ a u s. let r = f.steps a u s in let q = g.steps a r.0 r.1 in (q.0, q.1, transitive r.2 q.2);
    }

-- derivable equality is a bisimulation
pub follows : (x y : Process) → x ≈ y → Alike x y
follows _ _ (A1 x y) = alike_A1 x y
follows _ _ (A2 x y z) = alike_A2 x y z
follows _ _ (A3 x) = alike_A3 x
follows _ _ (A4 x y z) = alike_A4 x y z
follows _ _ (A5 x y z) = alike_A5 x y z
follows _ _ (A6 x) = alike_A6 x
follows _ _ (A7 x) = alike_A7 x
follows _ _ (A8 x) = alike_A8 x
follows _ _ (A9 x) = alike_A9 x
follows _ _ (TM1 x y) = alike_TM1 x y
follows _ _ (TM2 x) = alike_TM2 x
follows _ _ (TM3 x) = alike_TM3 x
follows _ _ (TM4 a x y) = alike_TM4 a x y
follows _ _ (TM5 x y z) = alike_TM5 x y z
follows _ _ TE1 = alike_TE1
follows _ _ TE2 = alike_TE2
follows _ _ (TE3 a x) = alike_TE3 a x
follows _ _ (TE4 x y) = alike_TE4 x y
follows _ _ (LM1 M n) = alike_LM1 M n
follows _ _ (LM2 M n) = alike_LM2 M n
follows _ _ (LM3 M) = alike_LM3 M
follows _ _ (LM4 M a x n) = alike_LM4 M a x n
follows _ _ (LM5 M i j m x n) = alike_LM5 M i j m x n
follows _ _ (LM6 M i j m x n) = alike_LM6 M i j m x n
follows _ _ (LM7 M i j m x n) = alike_LM7 M i j m x n
follows _ _ (LM8 M i j m x n) = alike_LM8 M i j m x n
follows _ _ (LM9 M x y) = alike_LM9 M x y
follows _ _ (reflexive x) =
    (record { ends = λ e. e; steps = λ a z s. (z, s, reflexive z) }, record { ends = λ e. e; steps = λ a z s. (z, s, reflexive z) })
follows _ _ (symmetric {x = x} {y = y} e) = let r = follows x y e in (r.1, r.0)
follows _ _ (transitive {x = x} {y = y} {z = z} e f) =
    let r = follows x y e in
    let q = follows y z f in
    (follows_transitive x y z r.0 q.0, follows_transitive z y x q.1 r.1)
follows _ _ (in_alternative {x = x} {y = y} {u = u} {v = v} e f) =
    let r = follows x y e in
    let q = follows u v f in
    (follows_alternative x y e r.0 u v f q.0, follows_alternative y x (symmetric e) r.1 v u (symmetric f) q.1)
follows _ _ (in_sequence {x = x} {y = y} {u = u} {v = v} e f) =
    let r = follows x y e in
    let q = follows u v f in
    (follows_sequence x y e r.0 u v f q.0, follows_sequence y x (symmetric e) r.1 v u (symmetric f) q.1)
follows _ _ (in_merge {x = x} {y = y} {u = u} {v = v} e f) =
    let r = follows x y e in
    let q = follows u v f in
    (follows_merge x y e r.0 u v f q.0, follows_merge y x (symmetric e) r.1 v u (symmetric f) q.1)
follows _ _ (in_left_merge {x = x} {y = y} {u = u} {v = v} e f) =
    let r = follows x y e in
    let q = follows u v f in
    (follows_left_merge x y e r.0 u v f q.0, follows_left_merge y x (symmetric e) r.1 v u (symmetric f) q.1)
follows _ _ (in_termination {x = x} {y = y} e) =
    let r = follows x y e in (follows_termination x y e r.0, follows_termination y x (symmetric e) r.1)
follows _ _ (in_filter M {x = x} {y = y} e) =
    let r = follows x y e in (follows_filter x y e r.0 M, follows_filter y x (symmetric e) r.1 M)
